use Rattle.std.proofs.Common.{rules}
use Rattle.ffi3_transfer.specs.Stored.{image_in}
use Rattle.ffi3_interface.specs.Transfers.{loads_nothing}
use Rattle.ffi3_interface.proofs.Answering.{none_if}
use Rattle.ffi3_interface.proofs.Moving.{loaded_as, unloaded_as}
use Rattle.ffi3_interface.proofs.transfers.load.Goals as goal

pub returns-then-not-is_kept-clause-loaded : goal.returns-then-not-is_kept-clause-loaded
returns-then-not-is_kept-clause-loaded c = loads_nothing (none_if c.args.it.now.kept (search rules))

pub returns-in-Ok-clause-loaded : goal.returns-in-Ok-clause-loaded
returns-in-Ok-clause-loaded c =
    loaded_as c.value_mut-kept.result.now (search rules) c.deref.result.now c.deref.ensures (image_in c.args.registers.now c.args.stack.now) c.args.out.now c.load.new.out c.in-Ok.ensures.ok

pub returns-in-Err-clause-loaded : goal.returns-in-Err-clause-loaded
returns-in-Err-clause-loaded c =
    unloaded_as c.value_mut-kept.result.now (search rules) c.deref.result.now c.deref.ensures (image_in c.args.registers.now c.args.stack.now) c.args.out.now c.load.new.out c.in-Err.fault c.unstored_status.result c.in-Err.ensures.err c.unstored_status.ensures c.in-Err.ensures.out
