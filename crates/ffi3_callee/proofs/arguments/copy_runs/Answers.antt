use Rattle.std.proofs.Common.{ap, ◌≡◌, ◌+◌, ◌-◌, ◌≤◌, drop, length, subst, arith}
use Rattle.ffi3_type_spec.specs.declared.limits.TheConstants.{STACK, STACK_TOP}
use Rattle.ffi3_machine_transfer.specs.Passing.{passing}
use Rattle.ffi3_machine_transfer.specs.Runs.{RunLies}
use Rattle.ffi3_marshal.proofs.Stepping.{each_drop, each_read}
use Rattle.ffi3_callee.specs.Moved.{AreRunsMoved}
use Rattle.ffi3_callee.proofs.Moving.{move_run, no_run_moved}
use Rattle.ffi3_callee.proofs.arguments.copy_runs.Goals as goal

pub loop-i-init : goal.loop-i-init
loop-i-init c = no_run_moved c.args.base c.args.to c.requires.low c.requires.below c.args.runs.now c.len-i.result (passing c.args.machine.now) (omega arith)

pub copy_stack-requires : goal.copy_stack-requires
copy_stack-requires c =
    let lies = each_read (RunLies (STACK_TOP - c.args.base) (c.args.base - c.args.to)) c.args.runs.now (c.loop-i.i - 1) c.get-run.result (omega arith) c.get-run.ensures c.requires.lie in
    record {
      from_low = omega (arith, c.address-from.ensures.value, c.address-from.ensures.low);
      from_high = omega (arith, lies.0, c.address-from.ensures.value, c.address-from.ensures.high);
      to_low = omega (arith, c.requires.low);
      to_high = omega (arith, lies.1, c.requires.below, c.address-from.ensures.high);
    }

pub loop-i-preserved : goal.loop-i-preserved
loop-i-preserved c =
    let room = STACK_TOP - c.args.base in
    let back : c.loop-i.i ≡ c.loop-i.i - 1 + 1 = omega arith in
    let before = subst (λ i. AreRunsMoved c.args.base c.args.to (drop i c.args.runs.now) (passing c.args.machine.now) (passing c.loop-i.machine)) back c.loop-i.invariant in
    let same = (c.loop-i.invariant.only room (c.args.base - c.args.to) (each_drop (RunLies room (c.args.base - c.args.to)) c.loop-i.i c.args.runs.now c.requires.lie)).within.size in
    let fits : c.args.base - STACK + (STACK_TOP - c.args.base) ≤ length c.loop-i.machine.stack = omega (arith, same, c.requires.low, c.requires.below, c.address-from.ensures.high, c.facts.ensures.stack) in
    move_run c.args.base c.args.to c.requires.low c.requires.below c.args.runs.now (c.loop-i.i - 1) c.get-run.result room (passing c.args.machine.now) (passing c.loop-i.machine) (passing c.copy_stack.new.self) (omega arith) c.get-run.ensures c.requires.rising (each_drop (RunLies room (c.args.base - c.args.to)) (c.loop-i.i - 1) c.args.runs.now c.requires.lie) fits (ap passing (rw c.address-from.ensures.value at c.copy_stack.ensures)) before

pub returns : goal.returns
returns c =
    let first : c.loop-i.i ≡ 0 = omega arith in
    subst (λ i. AreRunsMoved c.args.base c.args.to (drop i c.args.runs.now) (passing c.args.machine.now) (passing c.loop-i.machine)) first c.loop-i.invariant
