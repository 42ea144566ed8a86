use Rattle.std.proofs.Common.{sym, subst}
use Rattle.ffi3_machine_transfer.specs.Passing.{passing}
use Rattle.ffi3_machine_transfer.specs.Stored.{IsPlace}
use Rattle.ffi3_machine_transfer.proofs.Imaged.{bytes_there, is_there}
use Rattle.ffi3_machine_transfer.proofs.load.place_bytes.Goals as goal

pub place_bytes-requires : goal.place_bytes-requires
place_bytes-requires c =
    is_there c.args.base c.offset_of-start.result c.offset_of-start.ensures.at (passing c.args.machine.now) c.args.at c.offset_of-start.ensures.within (subst (λ n. IsPlace n c.args.at) (sym c.offset_of-start.ensures.room) c.requires)

pub returns : goal.returns
returns c =
    bytes_there c.args.base c.offset_of-start.result c.offset_of-start.ensures.at (passing c.args.machine.now) c.args.at c.place_bytes.result c.place_bytes.ensures
