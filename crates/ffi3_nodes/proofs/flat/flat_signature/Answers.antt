use Rattle.ffi3_types.specs.TreeOf.{tree_of}
use Rattle.ffi3_nodes.proofs.FlatTypes.{flat_right}
use Rattle.ffi3_nodes.proofs.flat.flat_signature.Goals as goal

pub returns-clause-faultless : goal.returns-clause-faultless
returns-clause-faultless c =
    flat_right (tree_of c.in-Some-2.begun.ty) c.loop-at.args c.args.nodes.now c.loop-at.at c.new.result c.loop-at.invariant c.new.ensures
