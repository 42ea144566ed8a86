-- An event that answers to an entry holds the entry's arguments, so it is explained as these.
use Rattle.std.proofs.Common.{ℕ, ◌+◌, List, [], ◌∷◌}
use Rattle.std.specs.List.{AllByRecursion}
use Rattle.ffi3_type_spec.specs.Signature.{Signature, SignatureHasNoFault, signature_at}
use Rattle.ffi3_place_spec.specs.declared.Loc.{Loc}
use Rattle.ffi3_place_spec.specs.Standard.{Standard}
use Rattle.ffi3_place_spec.specs.Sound.{IsSound}
use Rattle.ffi3_place_spec.specs.Event.{Event}
use Rattle.ffi3_semantics_spec.specs.Trace.{TraceItem, Enter, Line, Leave, StopLine}
use Rattle.ffi3_semantics_spec.specs.Journal.{Entered, Answers}
use Rattle.ffi3_explain_spec.specs.Laws.{HasWords}
use Rattle.ffi3_explain_spec.specs.Entries.{EntriesAreExplained, JournalIsExplained}
use Rattle.ffi3_explain_spec.proofs.Laws.{is_explained}

module _ (std : Standard) (held : Loc → ℕ) (signatures : List Signature) (sound : (s : Signature) → SignatureHasNoFault s → IsSound std s) (right : (k : ℕ) → SignatureHasNoFault (signature_at signatures k)) (top : ℕ) where
  entries : (trace : List TraceItem) (events : List Event) (n : ℕ) (unfinished : List Entered) → AllByRecursion (λ e. HasWords e.image) events → Answers std top held signatures n unfinished trace events → EntriesAreExplained std signatures trace events
  entries trace [] n unfinished has answers = tt
  entries [] (e ∷ events) n unfinished has answers = tt
  entries (Line t v ∷ rest) (e ∷ events) n unfinished has answers = entries rest (e ∷ events) n unfinished has answers
  entries (StopLine stop ∷ rest) (e ∷ events) n unfinished has answers = entries rest (e ∷ events) n unfinished has answers
  entries (Enter ptr sig args ∷ rest) (e ∷ events) n unfinished has answers =
      let s = signature_at signatures sig in
      let laws = is_explained std (signature_at signatures sig) e.image (right sig) (sound s (right sig)) has.0 answers.0.holds.own.reaches in
      ((laws.values args).0 answers.0.holds, entries rest events (n + 1) (record { signature = s; event = e } ∷ unfinished) has.1 answers.1)
  entries (Leave sig r ∷ rest) (e ∷ events) n [] has answers = absurd answers
  entries (Leave sig r ∷ rest) (e ∷ events) n (entered ∷ unfinished) has answers = entries rest events (n + 1) unfinished has.1 answers.1

pub journal_is_explained : (std : Standard) (held : Loc → ℕ) (signatures : List Signature) (unfinished : List Entered) (trace : List TraceItem) (events : List Event) → JournalIsExplained std held signatures unfinished trace events
journal_is_explained std held signatures unfinished trace events sound right has top n answers =
    entries std held signatures sound right top trace events n unfinished has answers
