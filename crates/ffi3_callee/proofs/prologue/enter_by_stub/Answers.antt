use Rattle.std.proofs.Common.{◌≡◌, ◌+◌, ◌%◌, ◌^◌, ap, ◌∙◌, subst}
use Rattle.ffi3_type_spec.specs.TargetIsa.{isa_of}
use Rattle.ffi3_machine_spec.specs.State.{State}
use Rattle.ffi3_machine_spec.specs.Stubs.{Entry}
use Rattle.ffi3_stubs.specs.Calls.{HasEntered, after_entry, steps_of}
use Rattle.ffi3_callee.proofs.prologue.enter_by_stub.Goals as goal

pub returns-clause-says : goal.returns-clause-says
returns-clause-says c =
    subst (λ (x : State). HasEntered (isa_of x.target) x c.run_entry.new.machine) c.set_x.ensures c.run_entry.ensures.says

pub returns-clause-counted : goal.returns-clause-counted
returns-clause-counted c =
    subst (λ (x : State). c.run_entry.new.machine.steps ≡ (x.steps + steps_of (isa_of x.target) Entry) % 2 ^ 64) c.set_x.ensures c.run_entry.ensures.counted

pub returns-clause-whole : goal.returns-clause-whole
returns-clause-whole c =
    c.run_entry.ensures.whole ∙ ap (λ (x : State). after_entry (isa_of x.target) x) c.set_x.ensures
