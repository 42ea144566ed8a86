use Rattle.std.proofs.Common.{◌≡◌, ap, ◌∙◌, subst, sym}
use Rattle.ffi3_type_spec.specs.declared.Isa.{Isa}
use Rattle.ffi3_type_spec.specs.TargetIsa.{isa_of}
use Rattle.ffi3_machine_spec.specs.State.{State}
use Rattle.ffi3_machine_spec.specs.Stubs.{Call}
use Rattle.ffi3_stubs.specs.Calls.{steps_of, after_call, HasCalled}
use Rattle.ffi3_stubs.proofs.Loops.{counted_steps}
use Rattle.ffi3_stubs.proofs.Running.{leads, led, call_leads, sent, stub_steps}
use Rattle.ffi3_stubs.proofs.Ways.{some_call}
use Rattle.ffi3_stubs.proofs.Says.{call_says}
use Rattle.ffi3_stubs.proofs.run_call.Goals as goal

pub run_steps-requires : goal.run_steps-requires
run_steps-requires c =
    let m = c.args.machine.now in
    let many : c.call_steps-n.result ≡ stub_steps Call c.args.machine.now = c.call_steps-n.ensures ∙ ap (λ (i : Isa). steps_of i Call) (c.isa.ensures ∙ ap isa_of (c.target.ensures ∙ ap (λ (s : State). s.target) c.go.ensures)) in
    record { way = (after_call (isa_of m.target) (sent Call m), leads c.call_steps-n.result (stub_steps Call m) (sent Call m) c.go.new.self many c.go.ensures (after_call (isa_of m.target) (sent Call m)) (call_leads m c.facts.ensures c.requires.low c.requires.high)) }

pub returns : goal.returns
returns c =
    let m = c.args.machine.now in
    let many : c.call_steps-n.result ≡ stub_steps Call c.args.machine.now = c.call_steps-n.ensures ∙ ap (λ (i : Isa). steps_of i Call) (c.isa.ensures ∙ ap isa_of (c.target.ensures ∙ ap (λ (s : State). s.target) c.go.ensures)) in
    let all = c.run_steps.ensures.only (after_call (isa_of m.target) (sent Call m)) (leads c.call_steps-n.result (stub_steps Call m) (sent Call m) c.go.new.self many c.go.ensures (after_call (isa_of m.target) (sent Call m)) (call_leads m c.facts.ensures c.requires.low c.requires.high)) in
    let done = led c.call_steps-n.result (stub_steps Call m) (sent Call m) c.go.new.self many c.go.ensures c.run_steps.new.machine c.run_steps.ensures.steps in
    record {
      whole = all;
      steps = done;
      counted = counted_steps (stub_steps Call m) (sent Call m) c.run_steps.new.machine (some_call (isa_of m.target)) done;
      says = subst (λ (x : State). HasCalled (isa_of m.target) m x) (sym all) (call_says (isa_of m.target) m c.facts.ensures);
    }
