-- What the entries of a run are explained as.
use Rattle.std.specs.Prelude.{◌≡◌, ℕ, ⊤, List, [], ◌∷◌}
use Rattle.std.specs.List.{AllByRecursion}
use Rattle.ffi3_type_spec.specs.Signature.{Signature, SignatureHasNoFault, signature_at}
use Rattle.ffi3_place_spec.specs.declared.Loc.{Loc}
use Rattle.ffi3_place_spec.specs.Standard.{Standard}
use Rattle.ffi3_place_spec.specs.Sound.{IsSound}
use Rattle.ffi3_place_spec.specs.Event.{Event}
use Rattle.ffi3_semantics_spec.specs.Trace.{TraceItem, Enter, Line, Leave, StopLine}
use Rattle.ffi3_semantics_spec.specs.Journal.{Entered, Answers}
use Rattle.ffi3_explain_spec.specs.Explain.{explained, holds_values}
use Rattle.ffi3_explain_spec.specs.Laws.{HasWords}

-- each event that answers to an entry is explained as that entry's arguments
abbrev pub EntriesAreExplained : Standard → List Signature → List TraceItem → List Event → Type 0
EntriesAreExplained std signatures trace [] = ⊤
EntriesAreExplained std signatures [] (e ∷ events) = ⊤
EntriesAreExplained std signatures (Line t v ∷ rest) (e ∷ events) = EntriesAreExplained std signatures rest (e ∷ events)
EntriesAreExplained std signatures (StopLine stop ∷ rest) (e ∷ events) =
    EntriesAreExplained std signatures rest (e ∷ events)
EntriesAreExplained std signatures (Enter ptr sig args ∷ rest) (e ∷ events) =
    (explained std (signature_at signatures sig) e.image ≡ holds_values args)
    × EntriesAreExplained std signatures rest events
EntriesAreExplained std signatures (Leave sig r ∷ rest) (e ∷ events) = EntriesAreExplained std signatures rest events

-- the law of a run's journal
abbrev pub JournalIsExplained : Standard → (Loc → ℕ) → List Signature → List Entered → List TraceItem → List Event
    → Type 0
JournalIsExplained std held signatures unfinished trace events =
    ((s : Signature) → SignatureHasNoFault s → IsSound std s)
    → ((k : ℕ) → SignatureHasNoFault (signature_at signatures k)) → AllByRecursion (λ e. HasWords e.image) events
    → (top n : ℕ) → Answers std top held signatures n unfinished trace events
    → EntriesAreExplained std signatures trace events
