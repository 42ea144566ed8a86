use Rattle.ffi3_moves.specs.Moves.{collect_moves}
use Rattle.ffi3_moves.proofs.Telling.{told_front}
use Rattle.ffi3_moves.proofs.told.put_collect.Goals as goal

pub returns : goal.returns
returns g c =
    told_front (collect_moves g.A.Abi.standard c.args.cif.now) c.args.told.now c.put_arguments.new.told c.requires c.put_arguments.ensures.put
