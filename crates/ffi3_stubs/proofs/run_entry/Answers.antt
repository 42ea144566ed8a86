use Rattle.std.proofs.Common.{◌≡◌, ap, ◌∙◌, subst, sym, refl}
use Rattle.ffi3_type_spec.specs.declared.Isa.{Isa}
use Rattle.ffi3_type_spec.specs.TargetIsa.{isa_of}
use Rattle.ffi3_machine_spec.specs.State.{State}
use Rattle.ffi3_machine_spec.specs.Stubs.{Entry}
use Rattle.ffi3_stubs.specs.Calls.{steps_of, after_entry, HasEntered}
use Rattle.ffi3_stubs.proofs.Loops.{counted_steps}
use Rattle.ffi3_stubs.proofs.Running.{leads, led, entry_leads, stub_steps}
use Rattle.ffi3_stubs.proofs.Ways.{some_entry}
use Rattle.ffi3_stubs.proofs.Says.{entry_says}
use Rattle.ffi3_stubs.proofs.run_entry.Goals as goal

pub run_steps-requires : goal.run_steps-requires
run_steps-requires c =
    let m = c.args.machine.now in
    let many : c.entry_steps-n.result ≡ stub_steps Entry c.args.machine.now = c.entry_steps-n.ensures ∙ ap (λ (i : Isa). steps_of i Entry) (c.isa.ensures ∙ ap isa_of c.target.ensures) in
    record { way = (after_entry (isa_of m.target) m, leads c.entry_steps-n.result (stub_steps Entry m) m m many refl (after_entry (isa_of m.target) m) (entry_leads m c.facts.ensures c.requires.at c.requires.low c.requires.high)) }

pub returns : goal.returns
returns c =
    let m = c.args.machine.now in
    let many : c.entry_steps-n.result ≡ stub_steps Entry c.args.machine.now = c.entry_steps-n.ensures ∙ ap (λ (i : Isa). steps_of i Entry) (c.isa.ensures ∙ ap isa_of c.target.ensures) in
    let all = c.run_steps.ensures.only (after_entry (isa_of m.target) m) (leads c.entry_steps-n.result (stub_steps Entry m) m m many refl (after_entry (isa_of m.target) m) (entry_leads m c.facts.ensures c.requires.at c.requires.low c.requires.high)) in
    let done = led c.entry_steps-n.result (stub_steps Entry m) m m many refl c.run_steps.new.machine c.run_steps.ensures.steps in
    record {
      whole = all;
      steps = done;
      counted = counted_steps (stub_steps Entry m) m c.run_steps.new.machine (some_entry (isa_of m.target)) done;
      says = subst (λ (x : State). HasEntered (isa_of m.target) m x) (sym all) (entry_says (isa_of m.target) m c.facts.ensures c.requires.low c.requires.high);
    }
