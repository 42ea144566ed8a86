use Rattle.std.proofs.Common.{◌≡◌, ℕ, ◌-◌, List, length, ap, ◌∙◌, subst}
use Rattle.ffi3_place_spec.specs.Event.{Event}
use Rattle.ffi3_machine.specs.Entries.{event_of}
use Rattle.ffi3_machine_spec.specs.Recorded.{Recorded, event_at}
use Rattle.ffi3_run_state.specs.TraceLines.{last_event}
use Rattle.ffi3_run_state.proofs.tracing.last.Goals as goal

pub returns : goal.returns
returns c =
    let events : c.events-journal.result.now.events ≡ c.args.machine.now.events = ap (λ (r : Recorded). r.events) c.events-journal.ensures in
    let number : c.len.result - 1 ≡ length c.args.machine.now.events - 1 = ap (λ (n : ℕ). n - 1) (c.len.ensures ∙ ap (λ (l : List Event). length l) events) in
    let which : event_at c.events-journal.result.now.events (c.len.result - 1) ≡ last_event c.args.machine.now.events =
    ap (λ (l : List Event). event_at l (c.len.result - 1)) events ∙ ap (event_at c.args.machine.now.events) number in
    subst (λ (e : Event). event_of c.get.result.now e.image.stack ≡ e) which c.get.ensures
