use Rattle.std.proofs.Common.{◌<◌, length, refl, arith}
use Rattle.ffi3_moves.specs.Moves.{store_moves}
use Rattle.ffi3_moves.proofs.Telling.{told_none}
use Rattle.ffi3_moves.proofs.told.tell_moves_to_store.Goals as goal

pub returns-then-told-count-clause-told : goal.returns-then-told-count-clause-told
returns-then-told-count-clause-told g c =
    let short : length c.args.told.now < length (store_moves g.A.Abi.standard c.args.cif.now) = omega (arith, c.if-told-count.true, c.in-Some.ensures) in
    told_none (store_moves g.A.Abi.standard c.args.cif.now) c.args.told.now c.args.told.now short refl
