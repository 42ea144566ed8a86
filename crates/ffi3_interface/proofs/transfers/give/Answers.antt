use Rattle.std.proofs.Common.{rules}
use Rattle.ffi3_transfer.specs.Stored.{image_in}
use Rattle.ffi3_interface.proofs.Answering.{none_if}
use Rattle.ffi3_interface.proofs.Moving.{given_as, gives_of_none, same_image, ungiven_as}
use Rattle.ffi3_interface.proofs.transfers.give.Goals as goal

pub returns-then-not-is_kept-clause-given : goal.returns-then-not-is_kept-clause-given
returns-then-not-is_kept-clause-given c =
    gives_of_none (none_if c.args.it.now.kept (search rules)) c.args.value.now (image_in c.args.registers.now c.args.stack.now) c.no_reason.result c.no_reason.ensures

pub returns-in-Ok-clause-given : goal.returns-in-Ok-clause-given
returns-in-Ok-clause-given c =
    given_as c.value_mut-kept.result.now (search rules) c.deref.result.now c.deref.ensures c.args.value.now (image_in c.args.registers.now c.args.stack.now) (image_in c.give.new.registers c.give.new.stack) c.no_reason.result c.no_reason.ensures c.in-Ok.ensures.ok

pub returns-in-Err-clause-given : goal.returns-in-Err-clause-given
returns-in-Err-clause-given c =
    ungiven_as c.value_mut-kept.result.now (search rules) c.deref.result.now c.deref.ensures c.args.value.now (image_in c.args.registers.now c.args.stack.now) (image_in c.give.new.registers c.give.new.stack) c.in-Err.fault c.ungiven_status.result c.ungiven_reason.result c.in-Err.ensures.err c.ungiven_status.ensures c.ungiven_reason.ensures (same_image c.args.registers.now c.give.new.registers c.args.stack.now c.give.new.stack c.in-Err.ensures.registers c.in-Err.ensures.stack)
