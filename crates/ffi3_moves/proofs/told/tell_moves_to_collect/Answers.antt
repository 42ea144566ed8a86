use Rattle.std.proofs.Common.{◌<◌, length, refl, arith}
use Rattle.ffi3_moves.specs.Moves.{collect_moves}
use Rattle.ffi3_moves.proofs.Telling.{told_none}
use Rattle.ffi3_moves.proofs.told.tell_moves_to_collect.Goals as goal

pub returns-then-told-count-clause-told : goal.returns-then-told-count-clause-told
returns-then-told-count-clause-told g c =
    let short : length c.args.told.now < length (collect_moves g.A.Abi.standard c.args.cif.now) = omega (arith, c.if-told-count.true, c.in-Some.ensures) in
    told_none (collect_moves g.A.Abi.standard c.args.cif.now) c.args.told.now c.args.told.now short refl
