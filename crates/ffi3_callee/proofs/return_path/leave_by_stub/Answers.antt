use Rattle.std.proofs.Common.{◌≡◌, ◌+◌, ◌≤◌, ◌%◌, ◌^◌, ap, sym, ◌∙◌, subst, arith}
use Rattle.ffi3_type_spec.specs.declared.limits.TheConstants.{STACK, STACK_TOP}
use Rattle.ffi3_type_spec.specs.TargetIsa.{isa_of}
use Rattle.ffi3_place_spec.specs.MachineRegisters.{pushed_bytes}
use Rattle.ffi3_place_spec.specs.StubRegisters.{area_bytes}
use Rattle.ffi3_machine_spec.specs.declared.stub.TheConstants.{AREA_AT}
use Rattle.ffi3_machine_spec.specs.State.{State, with_pc, with_x, x_of}
use Rattle.ffi3_machine_spec.specs.Stubs.{Exit, stub_at}
use Rattle.ffi3_stubs.specs.Calls.{HasLeft, after_exit, steps_of}
use Rattle.ffi3_machine_transfer.proofs.Passing.{told_there}
use Rattle.ffi3_callee.proofs.return_path.leave_by_stub.Goals as goal

pub run_exit-requires-clause-low : goal.run_exit-requires-clause-low
run_exit-requires-clause-low c =
    let m = c.args.machine.now in
    let there : x_of AREA_AT (with_x AREA_AT c.args.area m) ≡ c.args.area = told_there AREA_AT c.args.area m (omega (arith, c.facts.ensures.exchange)) (omega (arith, c.requires.high)) in
    subst (λ (x : State). STACK ≤ x_of AREA_AT x) (sym c.set_x.ensures) (omega (arith, there, c.requires.low))

pub run_exit-requires-clause-high : goal.run_exit-requires-clause-high
run_exit-requires-clause-high c =
    let m = c.args.machine.now in
    let there : x_of AREA_AT (with_x AREA_AT c.args.area m) ≡ c.args.area = told_there AREA_AT c.args.area m (omega (arith, c.facts.ensures.exchange)) (omega (arith, c.requires.high)) in
    subst (λ (x : State). x_of AREA_AT x + area_bytes (isa_of x.target) + pushed_bytes (isa_of x.target) ≤ STACK_TOP) (sym c.set_x.ensures) (omega (arith, there, c.requires.high))

pub returns-clause-says : goal.returns-clause-says
returns-clause-says c =
    subst (λ (x : State). HasLeft (isa_of x.target) x c.run_exit.new.machine) c.set_x.ensures c.run_exit.ensures.says

pub returns-clause-counted : goal.returns-clause-counted
returns-clause-counted c =
    subst (λ (x : State). c.run_exit.new.machine.steps ≡ (x.steps + steps_of (isa_of x.target) Exit) % 2 ^ 64) c.set_x.ensures c.run_exit.ensures.counted

pub returns-clause-whole : goal.returns-clause-whole
returns-clause-whole c =
    c.run_exit.ensures.whole ∙ ap (λ (x : State). after_exit (isa_of x.target) (with_pc (stub_at (isa_of x.target) Exit) x)) c.set_x.ensures
