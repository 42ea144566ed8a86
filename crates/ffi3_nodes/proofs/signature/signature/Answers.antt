use Rattle.std.proofs.Common.{length, ap, arith}
use Rattle.ffi3_nodes.proofs.Building.{few_types}
use Rattle.ffi3_nodes.proofs.signature.signature.Goals as goal

pub take_all-requires : goal.take_all-requires
take_all-requires c =
    let few = few_types c.in_ok-types.types c.args.nodes.now c.in_ok-types.ensures in
    let one = ap length c.in-Some.ensures.some in
    omega (arith, few, one, c.requires.few)
