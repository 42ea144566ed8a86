use Rattle.std.proofs.Common.{◌≡◌, ap, ◌∙◌, subst, sym, refl}
use Rattle.ffi3_type_spec.specs.declared.Isa.{Isa}
use Rattle.ffi3_type_spec.specs.TargetIsa.{isa_of}
use Rattle.ffi3_machine_spec.specs.State.{State}
use Rattle.ffi3_machine_spec.specs.Stubs.{Return}
use Rattle.ffi3_stubs.specs.Calls.{steps_of, after_return, HasReturned}
use Rattle.ffi3_stubs.proofs.Loops.{counted_steps}
use Rattle.ffi3_stubs.proofs.Running.{leads, led, return_leads, stub_steps}
use Rattle.ffi3_stubs.proofs.Ways.{some_return}
use Rattle.ffi3_stubs.proofs.Says.{return_says}
use Rattle.ffi3_stubs.proofs.run_return.Goals as goal

pub run_steps-requires : goal.run_steps-requires
run_steps-requires c =
    let m = c.args.machine.now in
    let many : c.return_steps-n.result ≡ stub_steps Return c.args.machine.now = c.return_steps-n.ensures ∙ ap (λ (i : Isa). steps_of i Return) (c.isa.ensures ∙ ap isa_of c.target.ensures) in
    record { way = (after_return (isa_of m.target) m, leads c.return_steps-n.result (stub_steps Return m) m m many refl (after_return (isa_of m.target) m) (return_leads m c.facts.ensures c.requires.at)) }

pub returns : goal.returns
returns c =
    let m = c.args.machine.now in
    let many : c.return_steps-n.result ≡ stub_steps Return c.args.machine.now = c.return_steps-n.ensures ∙ ap (λ (i : Isa). steps_of i Return) (c.isa.ensures ∙ ap isa_of c.target.ensures) in
    let all = c.run_steps.ensures.only (after_return (isa_of m.target) m) (leads c.return_steps-n.result (stub_steps Return m) m m many refl (after_return (isa_of m.target) m) (return_leads m c.facts.ensures c.requires.at)) in
    let done = led c.return_steps-n.result (stub_steps Return m) m m many refl c.run_steps.new.machine c.run_steps.ensures.steps in
    record {
      whole = all;
      steps = done;
      counted = counted_steps (stub_steps Return m) m c.run_steps.new.machine (some_return (isa_of m.target)) done;
      says = subst (λ (x : State). HasReturned (isa_of m.target) m x) (sym all) (return_says (isa_of m.target) m c.facts.ensures);
    }
