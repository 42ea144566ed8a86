use Rattle.std.proofs.Common.{rules}
use Rattle.ffi3_transfer.specs.Stored.{image_in}
use Rattle.ffi3_interface.proofs.Answering.{none_if}
use Rattle.ffi3_interface.proofs.Moving.{collected_as, collects_of_none, uncollected_as}
use Rattle.ffi3_interface.proofs.transfers.collect.Goals as goal

pub returns-then-not-is_kept-clause-collected : goal.returns-then-not-is_kept-clause-collected
returns-then-not-is_kept-clause-collected c =
    collects_of_none (none_if c.args.it.now.kept (search rules)) (image_in c.args.registers.now c.args.stack.now) c.args.values.now c.no_reason.result c.no_reason.ensures

pub returns-in-Ok-clause-collected : goal.returns-in-Ok-clause-collected
returns-in-Ok-clause-collected c =
    collected_as c.value_mut-kept.result.now (search rules) c.deref.result.now c.deref.ensures (image_in c.args.registers.now c.args.stack.now) c.args.values.now c.collect.new.values c.no_reason.result c.no_reason.ensures c.in-Ok.ensures.ok

pub returns-in-Err-clause-collected : goal.returns-in-Err-clause-collected
returns-in-Err-clause-collected c =
    uncollected_as c.value_mut-kept.result.now (search rules) c.deref.result.now c.deref.ensures (image_in c.args.registers.now c.args.stack.now) c.args.values.now c.collect.new.values c.in-Err.fault c.uncollected_status.result c.uncollected_reason.result c.in-Err.ensures.err c.uncollected_status.ensures c.uncollected_reason.ensures c.in-Err.ensures.values
