use Rattle.std.proofs.Common.{sym, subst}
use Rattle.ffi3_machine_transfer.specs.Passing.{passing}
use Rattle.ffi3_machine_transfer.specs.Stored.{IsPlace}
use Rattle.ffi3_machine_transfer.proofs.Imaged.{is_there, loaded_there}
use Rattle.ffi3_machine_transfer.proofs.load.load_piece.Goals as goal

pub read_piece-requires-clause-there : goal.read_piece-requires-clause-there
read_piece-requires-clause-there c =
    is_there c.args.base c.offset_of-start.result c.offset_of-start.ensures.at (passing c.args.machine.now) c.args.piece.now.loc c.offset_of-start.ensures.within (subst (λ n. IsPlace n c.args.piece.now.loc) (sym c.offset_of-start.ensures.room) c.requires.lies)

pub returns : goal.returns
returns c =
    loaded_there c.args.base c.offset_of-start.result c.offset_of-start.ensures.at (passing c.args.machine.now) c.args.piece.now c.args.out.now c.read_piece.new.out c.read_piece.ensures
