use Rattle.std.proofs.Common.{◌≡◌, ◌-◌, length, rules}
use Rattle.ffi3_marshal.specs.Stored.{IsSet}
use Rattle.ffi3_transfer.specs.Stored.{image_in}
use Rattle.ffi3_transfer.proofs.Lent.{gave_back, one_takes}
use Rattle.ffi3_transfer.proofs.putting.set_piece.Goals as goal

pub set_piece-requires-clause-takes : goal.set_piece-requires-clause-takes
set_piece-requires-clause-takes c = one_takes c.args.piece.loc

pub returns : goal.returns
returns c =
    let same = c.set_piece.ensures.within (length c.args.stack.now - c.args.base) c.requires.lies in
    let registers : c.registers-1.given.0 ≡ c.set_piece.new.state.registers.now = search rules in
    let stack : c.stack-1.given.0 ≡ c.set_piece.new.state.stack.now = search rules in
    gave_back (IsSet c.args.base c.args.piece c.args.bytes.now (image_in c.args.registers.now c.args.stack.now)) c.registers-1.given.0 c.set_piece.new.state.registers.now c.stack-1.given.0 c.set_piece.new.state.stack.now registers stack c.set_piece.ensures.set
