use Rattle.std.proofs.Common.{◌≡◌, ◌+◌, ◌-◌, drop, subst, ◌∙◌, arith}
use Rattle.ffi3_type_spec.specs.Layout.{size_of}
use Rattle.ffi3_values.specs.ValueOf.{value_of}
use Rattle.ffi3_type_spec.specs.declared.limits.TheConstants.{STACK_TOP}
use Rattle.ffi3_machine_transfer.specs.Passing.{passing}
use Rattle.ffi3_machine_transfer.specs.Runs.{AreRunsStored, RunLies}
use Rattle.ffi3_machine_transfer.proofs.RunStoring.{no_run, run_step}
use Rattle.ffi3_marshal.proofs.Stepping.{each_read}
use Rattle.ffi3_machine_transfer.proofs.stack_runs.store_runs.Goals as goal

pub loop-i-init : goal.loop-i-init
loop-i-init c = (no_run c.args.base c.args.ty.now (value_of c.args.value.now) c.address-at.ensures.low c.args.runs.now c.len-i.result (passing c.args.machine.now) (omega arith), c.requires.sized)

pub store_run-requires-clause-lies : goal.store_run-requires-clause-lies
store_run-requires-clause-lies c =
    each_read (RunLies (STACK_TOP - c.args.base) (size_of c.args.ty.now)) c.args.runs.now (c.loop-i.i - 1) c.get.result (omega arith) c.get.ensures c.requires.lie

pub store_run-requires-clause-sized : goal.store_run-requires-clause-sized
store_run-requires-clause-sized c = c.loop-i.invariant.1

pub loop-i-preserved : goal.loop-i-preserved
loop-i-preserved c =
    let back : c.loop-i.i ≡ c.loop-i.i - 1 + 1 = omega arith in
    let before = subst (λ i. AreRunsStored c.args.base c.args.ty.now (value_of c.args.value.now) (drop i c.args.runs.now) (passing c.args.machine.now) (passing c.loop-i.machine)) back c.loop-i.invariant.0 in
    (run_step c.args.base c.args.ty.now (value_of c.args.value.now) c.address-at.ensures.low c.args.runs.now (c.loop-i.i - 1) c.get.result (passing c.args.machine.now) (passing c.loop-i.machine) (passing c.store_run.new.machine) (omega arith) c.get.ensures c.requires.rising c.store_run.ensures.stored before, c.store_run.ensures.sized ∙ c.loop-i.invariant.1)

pub returns-clause-stored : goal.returns-clause-stored
returns-clause-stored c =
    let first : c.loop-i.i ≡ 0 = omega arith in
    subst (λ i. AreRunsStored c.args.base c.args.ty.now (value_of c.args.value.now) (drop i c.args.runs.now) (passing c.args.machine.now) (passing c.loop-i.machine)) first c.loop-i.invariant.0
