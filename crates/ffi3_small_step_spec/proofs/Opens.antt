-- Events that answer to traces one after another, and the calls that stay open.
use Rattle.std.proofs.Common.{◌≡◌, ℕ, ◌+◌, ◌-◌, List, [], ◌∷◌, ◌++◌, length, refl, sym, ap, ◌∙◌, subst, append_assoc, append-nil, length-append, arith}
use Rattle.ffi3_type_spec.specs.Tree.{Tree}
use Rattle.ffi3_type_spec.specs.Signature.{Signature, signature_at}
use Rattle.ffi3_type_spec.specs.Value.{ValueTree}
use Rattle.ffi3_place_spec.specs.declared.Loc.{Loc}
use Rattle.ffi3_place_spec.specs.Standard.{Standard}
use Rattle.ffi3_place_spec.specs.Event.{Event, EventKind, enters, leaves}
use Rattle.ffi3_semantics_spec.specs.declared.Stop.{Stop}
use Rattle.ffi3_semantics_spec.specs.Trace.{TraceItem, Enter, Line, Leave, StopLine}
use Rattle.ffi3_semantics_spec.specs.Journal.{Entered, Answers, IsEntry, IsReturn, events_in}
use Rattle.ffi3_semantics_spec.specs.Lines.{Point, past, Tracing, item_text, text}
use Rattle.ffi3_semantics_spec.specs.Meaning.{Program, need_at}
use Rattle.ffi3_small_step_spec.specs.Nested.{depth_at, depth_of}
use Rattle.ffi3_small_step_spec.proofs.Depths.{depth_at-append}
use Rattle.ffi3_small_step_spec.specs.Open.{after_event, unreturned, open_calls, open_after, AnswersTo}
use Rattle.ffi3_small_step_spec.specs.Interrupted.{past_all}
use Rattle.ffi3_small_step_spec.specs.Laws.{TextGoesByParts}

pub past_all-append : (ss : List Signature) (at : Point) (a b : List TraceItem) → past_all ss at (a ++ b) ≡ past_all ss (past_all ss at a) b
past_all-append ss at [] b = refl
past_all-append ss at (h ∷ a) b = past_all-append ss (past ss at h) a b

pub text-append : (tracing : Tracing) (ss : List Signature) (at : Point) (a b : List TraceItem) → text tracing ss at (a ++ b) ≡ text tracing ss at a ++ text tracing ss (past_all ss at a) b
text-append tracing ss at [] b = refl
text-append tracing ss at (h ∷ a) b =
    ap (λ (l : List ℕ). item_text tracing ss at h ++ l) (text-append tracing ss (past ss at h) a b) ∙ sym (append_assoc (item_text tracing ss at h) (text tracing ss (past ss at h) a) (text tracing ss (past_all ss (past ss at h) a) b))

-- of one item more
pub text_one : (tracing : Tracing) (ss : List Signature) (at : Point) (a : List TraceItem) (h : TraceItem) → text tracing ss at (a ++ h ∷ []) ≡ text tracing ss at a ++ item_text tracing ss (past_all ss at a) h
text_one tracing ss at a h =
    text-append tracing ss at a (h ∷ []) ∙ ap (λ (l : List ℕ). text tracing ss at a ++ l) (append-nil (item_text tracing ss (past_all ss at a) h))

pub text_by_parts : TextGoesByParts
text_by_parts = text-append

pub events_in-append : (a b : List TraceItem) → events_in (a ++ b) ≡ events_in a + events_in b
events_in-append [] b = omega arith
events_in-append (Line t v ∷ a) b = events_in-append a b
events_in-append (StopLine s ∷ a) b = events_in-append a b
events_in-append (Leave sig r ∷ a) b =
    let e : events_in (a ++ b) ≡ events_in a + events_in b = events_in-append a b in omega arith
events_in-append (Enter ptr sig args ∷ a) b =
    let e : events_in (a ++ b) ≡ events_in a + events_in b = events_in-append a b in omega arith

-- ---- the entries that have no return yet

pub unreturned-append : (entries xs ys : List Event) → unreturned entries (xs ++ ys) ≡ unreturned (unreturned entries xs) ys
unreturned-append entries [] ys = refl
unreturned-append entries (e ∷ xs) ys = unreturned-append (after_event e.kind e entries) xs ys

pub unreturned_enter : (entries xs : List Event) (e : Event) → e.kind ≡ enters → unreturned entries (xs ++ e ∷ []) ≡ e ∷ unreturned entries xs
unreturned_enter entries xs e is =
    unreturned-append entries xs (e ∷ []) ∙ ap (λ (k : EventKind). after_event k e (unreturned entries xs)) is

pub unreturned_leave : (entries xs outer : List Event) (entry e : Event) → unreturned entries xs ≡ entry ∷ outer → e.kind ≡ leaves → unreturned entries (xs ++ e ∷ []) ≡ outer
unreturned_leave entries xs outer entry e top is =
    unreturned-append entries xs (e ∷ [])
    ∙ ap (λ (l : List Event). after_event e.kind e l) top
    ∙ ap (λ (k : EventKind). after_event k e (entry ∷ outer)) is

-- ---- one after another

module _ (std : Standard) (top : ℕ) (held : Loc → ℕ) (ss : List Signature) where
  abbrev Answer : ℕ → List Entered → List TraceItem → List Event → Type 0
  Answer n calls trace events = Answers std top held ss n calls trace events

  abbrev Goes : ℕ → List Entered → List TraceItem → List Event → List Entered → Type 0
  Goes n calls trace events calls' = AnswersTo std top held ss n calls trace events calls'

  abbrev entered : ℕ → Event → Entered
  entered sig e = record { signature = signature_at ss sig; event = e }

  line_first : (n : ℕ) (calls : List Entered) (t : Tree) (v : ValueTree) (later : List TraceItem) (events : List Event) → Answer n calls later events → Answer n calls (Line t v ∷ later) events
  line_first n calls t v later [] h = tt
  line_first n calls t v later (e ∷ events) h = h

  stop_first : (n : ℕ) (calls : List Entered) (stop : Stop) (later : List TraceItem) (events : List Event) → Answer n calls later events → Answer n calls (StopLine stop ∷ later) events
  stop_first n calls stop later [] h = tt
  stop_first n calls stop later (e ∷ events) h = h

  pub line_of : (n : ℕ) (calls : List Entered) (t : Tree) (v : ValueTree) (later : List TraceItem) (events : List Event) → Answer n calls (Line t v ∷ later) events → Answer n calls later events
  line_of n calls t v later [] h = tt
  line_of n calls t v later (e ∷ events) h = h

  pub stop_of : (n : ℕ) (calls : List Entered) (stop : Stop) (later : List TraceItem) (events : List Event) → Answer n calls (StopLine stop ∷ later) events → Answer n calls later events
  stop_of n calls stop later [] h = tt
  stop_of n calls stop later (e ∷ events) h = h

  -- two parts, where the first is whole
  answers-append : (n : ℕ) (calls : List Entered) (a b : List TraceItem) (xs ys : List Event) → Answer n calls a xs → length xs ≡ events_in a → Answer (n + length xs) (open_after ss calls a xs) b ys → Answer n calls (a ++ b) (xs ++ ys)
  answers-append n calls [] b [] ys first whole second =
      let same : n + 0 ≡ n = omega arith in subst (λ (k : ℕ). Answer k calls b ys) same second
  answers-append n calls [] b (e ∷ xs) ys first whole second = elim first [ ]
  answers-append n calls (Line t v ∷ a) b xs ys first whole second =
      line_first n calls t v (a ++ b) (xs ++ ys) (answers-append n calls a b xs ys (line_of n calls t v a xs first) whole second)
  answers-append n calls (StopLine stop ∷ a) b xs ys first whole second =
      stop_first n calls stop (a ++ b) (xs ++ ys) (answers-append n calls a b xs ys (stop_of n calls stop a xs first) whole second)
  answers-append n calls (Enter ptr sig args ∷ a) b [] ys first whole second = absurd (omega (arith, whole))
  answers-append n calls (Enter ptr sig args ∷ a) b (e ∷ xs) ys first whole second =
      let count : length xs ≡ events_in a = omega (arith, whole) in
      let after : n + length (e ∷ xs) ≡ n + 1 + length xs = omega arith in
      (first.0, answers-append (n + 1) (entered sig e ∷ calls) a b xs ys first.1 count (subst (λ (k : ℕ). Answer k (open_after ss (entered sig e ∷ calls) a xs) b ys) after second))
  answers-append n calls (Leave sig r ∷ a) b [] ys first whole second = absurd (omega (arith, whole))
  answers-append n [] (Leave sig r ∷ a) b (e ∷ xs) ys first whole second = elim first [ ]
  answers-append n (entry ∷ calls) (Leave sig r ∷ a) b (e ∷ xs) ys first whole second =
      let count : length xs ≡ events_in a = omega (arith, whole) in
      let after : n + length (e ∷ xs) ≡ n + 1 + length xs = omega arith in
      (first.0, answers-append (n + 1) calls a b xs ys first.1 count (subst (λ (k : ℕ). Answer k (open_after ss calls a xs) b ys) after second))

  open_after-append : (calls : List Entered) (a b : List TraceItem) (xs ys : List Event) → length xs ≡ events_in a → open_after ss calls (a ++ b) (xs ++ ys) ≡ open_after ss (open_after ss calls a xs) b ys
  open_after-append calls [] b [] ys whole = refl
  open_after-append calls [] b (e ∷ xs) ys whole = absurd (omega (arith, whole))
  open_after-append calls (Line t v ∷ a) b xs ys whole = open_after-append calls a b xs ys whole
  open_after-append calls (StopLine stop ∷ a) b xs ys whole = open_after-append calls a b xs ys whole
  open_after-append calls (Enter ptr sig args ∷ a) b [] ys whole = absurd (omega (arith, whole))
  open_after-append calls (Enter ptr sig args ∷ a) b (e ∷ xs) ys whole =
      open_after-append (entered sig e ∷ calls) a b xs ys (omega (arith, whole))
  open_after-append calls (Leave sig r ∷ a) b [] ys whole = absurd (omega (arith, whole))
  open_after-append [] (Leave sig r ∷ a) b (e ∷ xs) ys whole =
      open_after-append [] a b xs ys (omega (arith, whole))
  open_after-append (entry ∷ calls) (Leave sig r ∷ a) b (e ∷ xs) ys whole =
      open_after-append calls a b xs ys (omega (arith, whole))

  -- TWO PARTS, the second from the calls that the first left open
  pub answers_then : (n : ℕ) (calls mid last : List Entered) (a b : List TraceItem) (xs ys : List Event) → Goes n calls a xs mid → Goes (n + length xs) mid b ys last → Goes n calls (a ++ b) (xs ++ ys) last
  answers_then n calls mid last a b xs ys first second =
      let ends : length ys ≡ events_in b = second.whole in
      let begins : length xs ≡ events_in a = first.whole in
      record {
        answers = answers-append n calls a b xs ys first.answers first.whole (subst (λ (l : List Entered). Answer (n + length xs) l b ys) (sym first.left_open) second.answers);
        whole = omega (arith, length-append xs ys, events_in-append a b, begins, ends);
        left_open = open_after-append calls a b xs ys first.whole ∙ ap (λ (l : List Entered). open_after ss l b ys) first.left_open ∙ second.left_open;
      }

  -- a first part that is whole, and events of the second as far as they go
  pub answers_so_far : (n : ℕ) (calls mid : List Entered) (a b : List TraceItem) (xs ys : List Event) → Goes n calls a xs mid → Answer (n + length xs) mid b ys → Answer n calls (a ++ b) (xs ++ ys)
  answers_so_far n calls mid a b xs ys first second =
      answers-append n calls a b xs ys first.answers first.whole (subst (λ (l : List Entered). Answer (n + length xs) l b ys) (sym first.left_open) second)

  -- ---- one item

  pub nothing_yet : (n : ℕ) (calls : List Entered) → Goes n calls [] [] calls
  nothing_yet n calls = record { answers = tt; whole = refl; left_open = refl }

  pub one_line : (n : ℕ) (calls : List Entered) (t : Tree) (v : ValueTree) → Goes n calls (Line t v ∷ []) [] calls
  one_line n calls t v = record { answers = tt; whole = refl; left_open = refl }

  pub one_stop : (n : ℕ) (calls : List Entered) (stop : Stop) → Goes n calls (StopLine stop ∷ []) [] calls
  one_stop n calls stop = record { answers = tt; whole = refl; left_open = refl }

  pub one_entry : (n : ℕ) (calls : List Entered) (ptr sig : ℕ) (args : List ValueTree) (e : Event) → IsEntry std top held calls n ptr (signature_at ss sig) args e → Goes n calls (Enter ptr sig args ∷ []) (e ∷ []) (entered sig e ∷ calls)
  one_entry n calls ptr sig args e is = record { answers = (is, tt); whole = refl; left_open = refl }

  pub one_return : (n : ℕ) (entry : Entered) (calls : List Entered) (sig : ℕ) (r : ValueTree) (e : Event) → IsReturn std entry r e → Goes n (entry ∷ calls) (Leave sig r ∷ []) (e ∷ []) calls
  one_return n entry calls sig r e is = record { answers = (is, tt); whole = refl; left_open = refl }

  -- ---- the open calls of a call stack

  pub opens_enter : (sig : ℕ) (sigs : List ℕ) (entries xs : List Event) (e : Event) → e.kind ≡ enters → open_calls ss (sig ∷ sigs) (unreturned entries (xs ++ e ∷ [])) ≡ entered sig e ∷ open_calls ss sigs (unreturned entries xs)
  opens_enter sig sigs entries xs e is =
      ap (λ (l : List Event). open_calls ss (sig ∷ sigs) l) (unreturned_enter entries xs e is)

-- ---- the depth that a trace came to, where it is what the open calls take

pub depth_enter : (p : Program) (depth : ℕ) (own : List TraceItem) (ptr sig : ℕ) (args : List ValueTree) (sigs : List ℕ) → depth_at p depth own ≡ depth_of p sigs → depth_at p depth (own ++ Enter ptr sig args ∷ []) ≡ depth_of p (sig ∷ sigs)
depth_enter p depth own ptr sig args sigs is =
    let same : depth_of p sigs + need_at p sig ≡ need_at p sig + depth_of p sigs = omega arith in
    depth_at-append p depth own (Enter ptr sig args ∷ []) ∙ ap (λ (d : ℕ). d + need_at p sig) is ∙ same

pub depth_leave : (p : Program) (depth : ℕ) (own : List TraceItem) (sig : ℕ) (r : ValueTree) (sigs : List ℕ) → depth_at p depth own ≡ depth_of p (sig ∷ sigs) → depth_at p depth (own ++ Leave sig r ∷ []) ≡ depth_of p sigs
depth_leave p depth own sig r sigs is =
    let same : need_at p sig + depth_of p sigs - need_at p sig ≡ depth_of p sigs = omega arith in
    depth_at-append p depth own (Leave sig r ∷ []) ∙ ap (λ (d : ℕ). d - need_at p sig) is ∙ same
