-- The entries of a run, however it ended.
use Rattle.std.proofs.Common.{◌≡◌, ℕ, ◌≤◌, Bool, true, false, List, [], ◌∷◌, ◌++◌, length, refl, ap, sym, ◌∙◌, subst, arith, append_assoc}
use Rattle.ffi3_type_spec.specs.Signature.{Signature}
use Rattle.ffi3_place_spec.specs.declared.Loc.{Loc}
use Rattle.ffi3_place_spec.specs.Standard.{Standard}
use Rattle.ffi3_place_spec.specs.Event.{Event}
use Rattle.ffi3_semantics_spec.specs.declared.Stop.{Stop}
use Rattle.ffi3_semantics_spec.specs.Closures.{Closures}
use Rattle.ffi3_semantics_spec.specs.Meaning.{Program}
use Rattle.ffi3_semantics_spec.specs.Trace.{TraceItem, Enter, Line, Leave, StopLine, trace_of}
use Rattle.ffi3_semantics_spec.specs.Journal.{Answers, Entered, JournalOf, events_in, stack_top}
use Rattle.ffi3_semantics_spec.specs.Lines.{Tracing}
use Rattle.ffi3_small_step_spec.specs.Interrupted.{begun}
use Rattle.ffi3_io_spec.specs.Sink.{SinkState}
use Rattle.ffi3_machine_spec.specs.State.{State}
use Rattle.ffi3_runner.specs.declared.run.RunEnd.{RunEnd}
use Rattle.ffi3_runner.specs.declared.run.RunEnd.TheVariants as run
use Rattle.ffi3_run_spec.specs.RunMatches.{RunMatches}
use Rattle.ffi3_run_spec.specs.RunInterrupted.{RunWasInterrupted}
use Rattle.ffi3_explain_spec.specs.Entries.{EntriesAreExplained}

-- what a trace goes on with needs no event
module _ (std : Standard) (signatures : List Signature) where
  further : (trace rest : List TraceItem) (events : List Event) → EntriesAreExplained std signatures trace events → length events ≤ events_in trace → EntriesAreExplained std signatures (trace ++ rest) events
  further trace rest [] are few = tt
  further [] rest (e ∷ events) are few = absurd (omega (arith, few))
  further (Line t v ∷ trace) rest (e ∷ events) are few = further trace rest (e ∷ events) are few
  further (StopLine stop ∷ trace) rest (e ∷ events) are few = further trace rest (e ∷ events) are few
  further (Enter ptr sig args ∷ trace) rest (e ∷ events) are few = (are.0, further trace rest events are.1 (omega (arith, few)))
  further (Leave sig r ∷ trace) rest (e ∷ events) are few = further trace rest events are (omega (arith, few))

behind : (recorded : Bool) (later : List TraceItem) → (rest : List TraceItem) × (later ≡ begun recorded later ++ rest)
behind true [] = ([], refl)
behind true (h ∷ later) = (later, refl)
behind false [] = ([], refl)
behind false (h ∷ later) = (h ∷ later, refl)

-- each journal's entries are explained, by the signatures of the interfaces
abbrev pub AllAreExplained : Standard → List Signature → List Event → Type 0
AllAreExplained std signatures events =
    (top : ℕ) (held : Loc → ℕ) (n : ℕ) (unfinished : List Entered) (trace : List TraceItem) → Answers std top held signatures n unfinished trace events → EntriesAreExplained std signatures trace events

module _ (std : Standard) (tracing : Tracing) (p : Program) (before after : SinkState) (m : State) (closures : Closures) (moves : ℕ) (all : AllAreExplained std p.signatures m.events) where
  abbrev Explained : List TraceItem → Type 0
  Explained trace = EntriesAreExplained std p.signatures trace m.events

  by_journal : (trace : List TraceItem) → JournalOf std p.signatures trace m.events → Explained trace
  by_journal trace journal = all stack_top (λ at. 0) 0 [] trace journal

  of_part : (in_line : Bool) → RunWasInterrupted tracing std p in_line before after m closures moves → Explained (trace_of p)
  of_part in_line cut =
      let left = behind cut.recorded cut.later in
      let part = begun cut.recorded cut.later in
      let few : length m.events ≤ events_in (cut.done ++ begun cut.recorded cut.later) = omega (arith, cut.whole) in
      let whole : trace_of p ≡ (cut.done ++ begun cut.recorded cut.later) ++ left.0 = cut.all ∙ ap (λ l. cut.done ++ l) left.1 ∙ sym (append_assoc cut.done (begun cut.recorded cut.later) left.0) in
      subst Explained (sym whole) (further std p.signatures (cut.done ++ begun cut.recorded cut.later) left.0 m.events (by_journal (cut.done ++ begun cut.recorded cut.later) cut.journal) few)

  by_end : (end : RunEnd) → (end ≡ run.Done → RunMatches tracing std p before after m) → ((stop : Stop) → end ≡ run.Stopped stop → RunMatches tracing std p before after m) → (end ≡ run.NoMemory → RunWasInterrupted tracing std p false before after m closures moves) → (end ≡ run.Failed → RunWasInterrupted tracing std p true before after m closures moves) → Explained (trace_of p)
  by_end run.Done done stopped short failed = by_journal (trace_of p) (done refl).journal
  by_end (run.Stopped stop) done stopped short failed = by_journal (trace_of p) (stopped stop refl).journal
  by_end run.NoMemory done stopped short failed = of_part false (short refl)
  by_end run.Failed done stopped short failed = of_part true (failed refl)

-- the same of a program that is this one, by interfaces of its signatures
pub explained_at_end : (std : Standard) (tracing : Tracing) (q p : Program) → q ≡ p → (cifs : List Signature) → cifs ≡ q.signatures → (before after : SinkState) (m : State) (closures : Closures) (moves : ℕ) (end : RunEnd) → (end ≡ run.Done → RunMatches tracing std q before after m) → ((stop : Stop) → end ≡ run.Stopped stop → RunMatches tracing std q before after m) → (end ≡ run.NoMemory → RunWasInterrupted tracing std q false before after m closures moves) → (end ≡ run.Failed → RunWasInterrupted tracing std q true before after m closures moves) → AllAreExplained std cifs m.events → EntriesAreExplained std p.signatures (trace_of p) m.events
explained_at_end std tracing q p same cifs are before after m closures moves end done stopped short failed all =
    let by_signatures : AllAreExplained std q.signatures m.events = subst (λ ss. AllAreExplained std ss m.events) are all in
    subst (λ (x : Program). EntriesAreExplained std x.signatures (trace_of x) m.events) same (by_end std tracing q before after m closures moves by_signatures end done stopped short failed)
