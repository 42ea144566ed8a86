use Rattle.std.proofs.Common.{rules}
use Rattle.ffi3_transfer.specs.Stored.{image_in}
use Rattle.ffi3_interface.specs.Transfers.{stores_nothing}
use Rattle.ffi3_interface.proofs.Answering.{none_if}
use Rattle.ffi3_interface.proofs.Moving.{same_image, stored_as, unstored_as}
use Rattle.ffi3_interface.proofs.transfers.store.Goals as goal

pub returns-then-not-is_kept-clause-stored : goal.returns-then-not-is_kept-clause-stored
returns-then-not-is_kept-clause-stored c = stores_nothing (none_if c.args.it.now.kept (search rules))

pub returns-in-Ok-clause-stored : goal.returns-in-Ok-clause-stored
returns-in-Ok-clause-stored c =
    stored_as c.value_mut-kept.result.now (search rules) c.deref.result.now c.deref.ensures c.args.values.now (image_in c.args.registers.now c.args.stack.now) (image_in c.store.new.registers c.store.new.stack) c.in-Ok.ensures.ok

pub returns-in-Err-clause-stored : goal.returns-in-Err-clause-stored
returns-in-Err-clause-stored c =
    unstored_as c.value_mut-kept.result.now (search rules) c.deref.result.now c.deref.ensures c.args.values.now (image_in c.args.registers.now c.args.stack.now) (image_in c.store.new.registers c.store.new.stack) c.in-Err.fault c.unstored_status.result c.in-Err.ensures.err c.unstored_status.ensures (same_image c.args.registers.now c.store.new.registers c.args.stack.now c.store.new.stack c.in-Err.ensures.registers c.in-Err.ensures.stack)
