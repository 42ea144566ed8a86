-- A run that was interrupted after a first part of its trace, and what is seen of it then.
use Rattle.std.proofs.Common.{◌≡◌, ℕ, ◌+◌, Bool, true, false, List, [], ◌∷◌, ◌++◌, length, take, drop, refl, sym, ap, ◌∙◌, subst, append_assoc, append-nil, take-append-drop}
use Rattle.ffi3_type_spec.specs.Signature.{Signature}
use Rattle.ffi3_place_spec.specs.declared.Loc.{Loc}
use Rattle.ffi3_place_spec.specs.Standard.{Standard}
use Rattle.ffi3_place_spec.specs.Event.{Event}
use Rattle.ffi3_semantics_spec.specs.Trace.{TraceItem, Enter, Line, Leave, StopLine}
use Rattle.ffi3_semantics_spec.specs.Journal.{Entered, Answers}
use Rattle.ffi3_semantics_spec.specs.Lines.{Point, past, Tracing, item_text, text}
use Rattle.ffi3_small_step_spec.specs.Open.{AnswersTo}
use Rattle.ffi3_small_step_spec.specs.Interrupted.{past_all, next_text, begun, IsPart, HasItsEvent}
use Rattle.ffi3_small_step_spec.specs.TraceInterrupted.{TraceWasInterrupted}
use Rattle.ffi3_small_step_spec.proofs.Opens.{past_all-append, text-append, answers_then, answers_so_far, nothing_yet}

-- what comes after the item whose event is recorded
after_begun : Bool → List TraceItem → List TraceItem
after_begun true (h ∷ later) = later
after_begun true [] = []
after_begun false later = later

begun_and_after : (recorded : Bool) (later : List TraceItem) → later ≡ begun recorded later ++ after_begun recorded later
unfolding after_begun
begun_and_after true [] = refl
begun_and_after true (h ∷ later) = refl
begun_and_after false later = refl

-- the text of what is later is the next one's, and more
more_text : (tracing : Tracing) (ss : List Signature) (at : Point) (later : List TraceItem) → (more : List ℕ) × (text tracing ss at later ≡ next_text tracing ss at later ++ more)
more_text tracing ss at [] = ([], refl)
more_text tracing ss at (h ∷ later) = (text tracing ss (past ss at h) later, refl)

-- elsewhere than in a line any item may be next
pub no_event_yet : (later : List TraceItem) → HasItsEvent false false later
no_event_yet [] = refl
no_event_yet (Enter ptr sig args ∷ later) = λ is. cc
no_event_yet (Leave sig r ∷ later) = λ is. cc
no_event_yet (Line t v ∷ later) = refl
no_event_yet (StopLine stop ∷ later) = refl

module _ (std : Standard) (top : ℕ) (held : Loc → ℕ) (tracing : Tracing) (ss : List Signature) (in_line : Bool) where
  abbrev InterruptedAt : Point → ℕ → List Entered → Bool → (trace done later happened : List TraceItem) → List ℕ → List Event → Type 0
  InterruptedAt at n calls recorded trace done later happened written events = TraceWasInterrupted std top held tracing ss at n calls in_line recorded trace done later happened written events

  -- INTERRUPTED LATER: what is done before is done
  pub cut_then : (at : Point) (n : ℕ) (calls mid : List Entered) (recorded : Bool) (a b done later happened : List TraceItem) (xs ys : List Event) (written : List ℕ) → AnswersTo std top held ss n calls a xs mid → InterruptedAt (past_all ss at a) (n + length xs) mid recorded b done later happened written ys → InterruptedAt at n calls recorded (a ++ b) (a ++ done) later (a ++ happened) (text tracing ss at a ++ written) (xs ++ ys)
  cut_then at n calls mid recorded a b done later happened xs ys written first k =
      let comes : past_all ss at (a ++ done) ≡ past_all ss (past_all ss at a) done = past_all-append ss at a done in
      let next : List ℕ = take k.part (next_text tracing ss (past_all ss (past_all ss at a) done) later) in
      record {
        all = ap (λ (l : List TraceItem). a ++ l) k.all ∙ sym (append_assoc a done later);
        part = k.part;
        proper = subst (λ (x : Point). IsPart in_line k.part (length (next_text tracing ss x later))) (sym comes) k.proper;
        text_is =
            ap (λ (l : List ℕ). text tracing ss at a ++ l) k.text_is
            ∙ sym (append_assoc (text tracing ss at a) (text tracing ss (past_all ss at a) done) next)
            ∙ ap (λ (l : List ℕ). l ++ next) (sym (text-append tracing ss at a done))
            ∙ ap (λ (x : Point). text tracing ss at (a ++ done) ++ take k.part (next_text tracing ss x later)) (sym comes);
        its_event = k.its_event;
        happened_is = ap (λ (l : List TraceItem). a ++ l) k.happened_is ∙ sym (append_assoc a done (begun recorded later));
        left_open = k.left_open;
        answers = answers_then std top held ss n calls mid k.left_open a happened xs ys first k.answers;
      }

  -- what happened is a first part of the trace
  happens_first : (at : Point) (n : ℕ) (calls : List Entered) (recorded : Bool) (trace done later happened : List TraceItem) (written : List ℕ) (events : List Event) → InterruptedAt at n calls recorded trace done later happened written events → (after : List TraceItem) × (happened ++ after ≡ trace)
  happens_first at n calls recorded trace done later happened written events k =
      let after = after_begun recorded later in (
        after,
        ap (λ (l : List TraceItem). l ++ after) k.happened_is
            ∙ append_assoc done (begun recorded later) after
            ∙ ap (λ (l : List TraceItem). done ++ l) (sym (begun_and_after recorded later))
            ∙ sym k.all,
      )

  -- the journal is that of the trace, as far as it goes
  pub cut_journal : (at : Point) (n : ℕ) (calls : List Entered) (recorded : Bool) (trace done later happened : List TraceItem) (written : List ℕ) (events : List Event) → InterruptedAt at n calls recorded trace done later happened written events → Answers std top held ss n calls trace events
  cut_journal at n calls recorded trace done later happened written events k =
      let first = happens_first at n calls recorded trace done later happened written events k in
      let P : List TraceItem → Type 0 = λ l. Answers std top held ss n calls l events in
      let Q : List Event → Type 0 = λ l. Answers std top held ss n calls (happened ++ first.0) l in
      subst P first.1 (subst Q (append-nil events) (answers_so_far std top held ss n calls k.left_open happened first.0 events [] k.answers tt))

  -- what is written is a first part of the text
  pub cut_text : (at : Point) (n : ℕ) (calls : List Entered) (recorded : Bool) (trace done later happened : List TraceItem) (written : List ℕ) (events : List Event) → InterruptedAt at n calls recorded trace done later happened written events → (unwritten : List ℕ) × (text tracing ss at trace ≡ written ++ unwritten)
  cut_text at n calls recorded trace done later happened written events k =
      let comes = past_all ss at done in
      let next = next_text tracing ss comes later in
      let more = more_text tracing ss comes later in
      let before = text tracing ss at done in (
        drop k.part next ++ more.0,
        ap (text tracing ss at) k.all
            ∙ text-append tracing ss at done later
            ∙ ap (λ (l : List ℕ). before ++ l) (more.1 ∙ ap (λ (l : List ℕ). l ++ more.0) (sym (take-append-drop k.part next)) ∙ append_assoc (take k.part next) (drop k.part next) more.0)
            ∙ sym (append_assoc before (take k.part next) (drop k.part next ++ more.0))
            ∙ ap (λ (l : List ℕ). l ++ (drop k.part next ++ more.0)) (sym k.text_is),
      )

  -- ---- interrupted at once

  -- with a part of the next text, and nothing recorded
  pub cut_unrecorded : (at : Point) (n : ℕ) (calls : List Entered) (trace : List TraceItem) (part : ℕ) → IsPart in_line part (length (next_text tracing ss at trace)) → HasItsEvent false in_line trace → InterruptedAt at n calls false trace [] trace [] (take part (next_text tracing ss at trace)) []
  cut_unrecorded at n calls trace part proper its_event = record {
    all = refl;
    part = part;
    proper = proper;
    text_is = refl;
    its_event = its_event;
    happened_is = refl;
    left_open = calls;
    answers = nothing_yet std top held ss n calls;
  }

  -- or with the next event recorded
  pub cut_recorded : (at : Point) (n : ℕ) (calls calls' : List Entered) (h : TraceItem) (later : List TraceItem) (e : Event) (part : ℕ) → IsPart in_line part (length (item_text tracing ss at h)) → HasItsEvent true in_line (h ∷ later) → AnswersTo std top held ss n calls (h ∷ []) (e ∷ []) calls' → InterruptedAt at n calls true (h ∷ later) [] (h ∷ later) (h ∷ []) (take part (item_text tracing ss at h)) (e ∷ [])
  cut_recorded at n calls calls' h later e part proper its_event answers = record {
    all = refl;
    part = part;
    proper = proper;
    text_is = refl;
    its_event = its_event;
    happened_is = refl;
    left_open = calls';
    answers = answers;
  }
