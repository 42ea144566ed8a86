use Rattle.std.proofs.Common.{◌≡◌, ◌-◌, length, rules}
use Rattle.ffi3_marshal.specs.Stored.{IsPut}
use Rattle.ffi3_transfer.specs.Stored.{image_in}
use Rattle.ffi3_transfer.proofs.Lent.{gave_back, one_takes}
use Rattle.ffi3_transfer.proofs.putting.put.Goals as goal

pub put-requires-clause-takes : goal.put-requires-clause-takes
put-requires-clause-takes c = one_takes c.args.at

pub returns : goal.returns
returns c =
    let same = c.put.ensures.within (length c.args.stack.now - c.args.base) c.requires.lies in
    let registers : c.registers-1.given.0 ≡ c.put.new.state.registers.now = search rules in
    let stack : c.stack-1.given.0 ≡ c.put.new.state.stack.now = search rules in
    gave_back (IsPut c.args.base c.args.at c.args.bytes.now (image_in c.args.registers.now c.args.stack.now)) c.registers-1.given.0 c.put.new.state.registers.now c.stack-1.given.0 c.put.new.state.stack.now registers stack c.put.ensures.put
