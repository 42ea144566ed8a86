-- How far a run comes by each kind of move.
use Rattle.std.proofs.Common.{◌≡◌, Bool, ℕ, suc, ◌+◌, ◌≤◌, max, List, [], ◌∷◌, ◌++◌, length, refl, sym, ap, ◌∙◌, subst, append-nil, arith}
use Rattle.ffi3_type_spec.specs.Tree.{Tree}
use Rattle.ffi3_type_spec.specs.Signature.{signature_at}
use Rattle.ffi3_type_spec.specs.Value.{ValueTree, void_value}
use Rattle.ffi3_place_spec.specs.Standard.{Standard}
use Rattle.ffi3_place_spec.specs.Event.{Event}
use Rattle.ffi3_semantics_spec.specs.Closures.{Closures}
use Rattle.ffi3_semantics_spec.specs.Meaning.{Program, Activation, Effect, ends, prints, goes_on, enters, End, effect_of, next_move, meaning_of, need_at}
use Rattle.ffi3_semantics_spec.specs.Trace.{TraceItem, Enter, Line, Leave, trace_of}
use Rattle.ffi3_semantics_spec.specs.Journal.{Entered, stack_top, IsEntry, IsReturn, IsWhole, JournalOf}
use Rattle.ffi3_semantics_spec.specs.Lines.{at_start, Tracing, text, text_of_run}
use Rattle.ffi3_small_step_spec.specs.Remainder.{Remainder, remainder_of, before, only, Suspended, CallStack, rest, alone, inside, awaited}
use Rattle.ffi3_small_step_spec.specs.SmallStep.{on, acts_on, step_of}
use Rattle.ffi3_small_step_spec.specs.Path.{Position, IsOnPath, path_begins, path_goes_on}
use Rattle.ffi3_small_step_spec.specs.Depth.{depth_after, deepest}
use Rattle.ffi3_small_step_spec.specs.Nested.{depth_at, depth_of}
use Rattle.ffi3_small_step_spec.specs.Open.{AnswersTo, open_calls, unreturned}
use Rattle.ffi3_small_step_spec.specs.TraceInterrupted.{TraceWasInterrupted}
use Rattle.ffi3_small_step_spec.specs.SoFar.{Base, main_base, text_start, text_after, left_at_position, open_at, Answer, HasComeTo, IsOver, IsInterrupted}
use Rattle.ffi3_small_step_spec.proofs.Steps.{rest_prints, rest_goes_on, rest_enters, rest_returns, follows_then}
use Rattle.ffi3_small_step_spec.proofs.Depths.{depth_at-append, deepest-append, ends_below}
use Rattle.ffi3_small_step_spec.proofs.Nested.{enters_left, nested_on}
use Rattle.ffi3_small_step_spec.proofs.Opens.{answers_then, one_line, one_entry, one_return, nothing_yet, opens_enter, unreturned_enter, unreturned_leave, depth_enter, depth_leave}
use Rattle.ffi3_small_step_spec.proofs.Interruptions.{cut_then, cut_journal, cut_text}

-- ---- the peak so far

-- an entry deepens the stack
pub deepest_enter : (p : Program) (depth : ℕ) (own : List TraceItem) (ptr sig : ℕ) (args : List ValueTree) → deepest p depth (own ++ Enter ptr sig args ∷ []) ≡ max (deepest p depth own) (depth_at p depth own + need_at p sig)
deepest_enter p depth own ptr sig args =
    let k = deepest-append p depth own (Enter ptr sig args ∷ []) in
    let l = ends_below p depth own in
    omega (arith, k, l)

-- nothing else does
pub deepest_same : (p : Program) (depth : ℕ) (own : List TraceItem) (h : TraceItem) → depth_after p (depth_at p depth own) h ≤ depth_at p depth own → deepest p depth (own ++ h ∷ []) ≡ deepest p depth own
deepest_same p depth own h no_deeper =
    let k = deepest-append p depth own (h ∷ []) in
    let l = ends_below p depth own in
    omega (arith, k, l, no_deeper)

-- ---- the beginning

pub comes_from : (p : Program) (b : Base) (a : Activation) (closures : Closures) (moves : ℕ) → b.start ≡ record { call_stack = alone a; closures = closures; moves = moves } → a.left ≡ b.room → HasComeTo p b (rest p b.bottom (alone a) closures moves) [] [] (record { call_stack = alone a; closures = closures; moves = moves })
comes_from p b a closures moves starts room = record {
  path = subst (λ (x : Position). IsOnPath p b.bottom b.start [] x) starts path_begins;
  follows = refl;
  answers = nothing_yet b.standard b.top b.held p.signatures b.count (open_at p b [] []);
  inner = [];
  entries_are = refl;
  counted = refl;
  depth = refl;
  nested = room;
}

-- ---- a move after which the run goes on

without_first : (inner base : List Event) (entry : Event) (others : List Event) (s : Suspended) (outer : List Suspended) → inner ++ base ≡ entry ∷ others → length inner ≡ length (s ∷ outer) → (inner' : List Event) × (others ≡ inner' ++ base) × (length inner' ≡ length outer)
without_first [] base entry others s outer is counted = absurd (omega (arith, counted))
without_first (e ∷ inner) base entry others s outer is counted = (inner, cc, omega (arith, counted))

module _ (p : Program) (b : Base) (all : Remainder) (own : List TraceItem) (events : List Event) (a : Activation) (closures : Closures) (moves : ℕ) where
  abbrev at_call_stack : List Suspended → Position
  at_call_stack outer = record { call_stack = record { innermost = a; suspended = outer }; closures = closures; moves = suc moves }

  abbrev asks : Effect → Type 0
  asks d = effect_of p a closures (next_move p a) ≡ d

  -- the path goes on by the step
  one_step : (outer : List Suspended) (d : Effect) (more : List TraceItem) (call_stack : CallStack) (closures' : Closures) (all_done : List TraceItem) → own ++ more ≡ all_done → HasComeTo p b all own events (at_call_stack outer) → asks d → step_of b.bottom a outer closures d ≡ on more call_stack closures' → IsOnPath p b.bottom b.start all_done (record { call_stack = call_stack; closures = closures'; moves = moves })
  one_step outer d more call_stack closures' all_done is_all h is leads =
      subst (λ (l : List TraceItem). IsOnPath p b.bottom b.start l (record { call_stack = call_stack; closures = closures'; moves = moves })) is_all (path_goes_on own more (at_call_stack outer) call_stack closures' moves h.path refl (ap (step_of b.bottom a outer closures) is ∙ leads))

  pub comes_on : (outer : List Suspended) (r : ValueTree) (closures' : Closures) → HasComeTo p b all own events (at_call_stack outer) → asks (goes_on r closures') → HasComeTo p b all own events (record { call_stack = acts_on a r outer; closures = closures'; moves = moves })
  comes_on outer r closures' h is = record {
    path = one_step outer (goes_on r closures') [] (acts_on a r outer) closures' own (append-nil own) h is refl;
    follows = h.follows ∙ ap (before own) (rest_goes_on p b.bottom a outer closures moves r closures' is);
    answers = h.answers;
    inner = h.inner;
    entries_are = h.entries_are;
    counted = h.counted;
    depth = h.depth;
    nested = nested_on p b.room a r outer h.nested;
  }

  pub comes_by_print : (outer : List Suspended) (t : Tree) (v : ValueTree) → HasComeTo p b all own events (at_call_stack outer) → asks (prints t v) → HasComeTo p b all (own ++ Line t v ∷ []) events (record { call_stack = acts_on a void_value outer; closures = closures; moves = moves })
  comes_by_print outer t v h is =
      let calls = open_at p b outer events in
      let both = answers_then b.standard b.top b.held p.signatures b.count (open_at p b [] []) calls calls own (Line t v ∷ []) events [] h.answers (one_line b.standard b.top b.held p.signatures (b.count + length events) calls t v) in
      let P : List Event → Type 0 = λ l. Answer p b (own ++ Line t v ∷ []) l (open_at p b outer events) in
      record {
        path = one_step outer (prints t v) (Line t v ∷ []) (acts_on a void_value outer) closures (own ++ Line t v ∷ []) refl h is refl;
        follows = follows_then all (left_at_position p b (at_call_stack outer)) (rest p b.bottom (acts_on a void_value outer) closures moves) own (Line t v ∷ []) h.follows (rest_prints p b.bottom a outer closures moves t v is);
        answers = subst P (append-nil events) both;
        inner = h.inner;
        entries_are = h.entries_are;
        counted = h.counted;
        depth = depth_at-append p (depth_of p (awaited b.bottom [])) own (Line t v ∷ []) ∙ h.depth;
        nested = nested_on p b.room a void_value outer h.nested;
      }

  pub comes_in : (outer : List Suspended) (ptr sig : ℕ) (callee : Activation) (e : Event) → HasComeTo p b all own events (at_call_stack outer) → asks (enters ptr sig callee) → IsEntry b.standard b.top b.held (open_at p b outer events) (b.count + length events) ptr (signature_at p.signatures sig) callee.arguments e → HasComeTo p b all (own ++ Enter ptr sig callee.arguments ∷ []) (events ++ e ∷ []) (record { call_stack = inside callee sig a outer; closures = closures; moves = moves })
  comes_in outer ptr sig callee e h is entry =
      let calls = open_at p b outer events in
      let next = Enter ptr sig callee.arguments ∷ [] in
      let calls' : List Entered = record { signature = signature_at p.signatures sig; event = e } ∷ calls in
      let both = answers_then b.standard b.top b.held p.signatures b.count (open_at p b [] []) calls calls' own next events (e ∷ []) h.answers (one_entry b.standard b.top b.held p.signatures (b.count + length events) calls ptr sig callee.arguments e entry) in
      let opens = opens_enter b.standard b.top b.held p.signatures sig (awaited b.bottom outer) b.entries events e entry.kind in
      let P : List Entered → Type 0 = λ l. Answer p b (own ++ Enter ptr sig callee.arguments ∷ []) (events ++ e ∷ []) l in
      let one = unreturned_enter b.entries events e entry.kind in
      record {
        path = one_step outer (enters ptr sig callee) next (inside callee sig a outer) closures (own ++ next) refl h is refl;
        follows = follows_then all (left_at_position p b (at_call_stack outer)) (rest p b.bottom (inside callee sig a outer) closures moves) own next h.follows (rest_enters p b.bottom a outer closures moves ptr sig callee is);
        answers = subst P (sym opens) both;
        inner = e ∷ h.inner;
        entries_are = one ∙ ap (λ (l : List Event). e ∷ l) h.entries_are;
        counted = let k : length h.inner ≡ length outer = h.counted in omega (arith, k);
        depth = depth_enter p (depth_of p (awaited b.bottom [])) own ptr sig callee.arguments (awaited b.bottom outer) h.depth;
        nested = (enters_left p a closures (next_move p a) ptr sig callee is, h.nested);
      }

  pub comes_back : (s : Suspended) (outer : List Suspended) (v : ValueTree) (entry e : Event) (others : List Event) → HasComeTo p b all own events (at_call_stack (s ∷ outer)) → asks (ends v) → unreturned b.entries events ≡ entry ∷ others → IsReturn b.standard (record { signature = signature_at p.signatures s.signature; event = entry }) v e → HasComeTo p b all (own ++ Leave s.signature v ∷ []) (events ++ e ∷ []) (record { call_stack = acts_on s.activation v outer; closures = closures; moves = moves })
  comes_back s outer v entry e others h is top back =
      let next = Leave s.signature v ∷ [] in
      let call : Entered = record { signature = signature_at p.signatures s.signature; event = entry } in
      let calls = open_calls p.signatures (awaited b.bottom outer) others in
      let stands : open_at p b (s ∷ outer) events ≡ call ∷ calls = ap (open_calls p.signatures (s.signature ∷ awaited b.bottom outer)) top in
      let P : List Entered → Type 0 = λ l. Answer p b own events l in
      let both = answers_then b.standard b.top b.held p.signatures b.count (open_at p b [] []) (call ∷ calls) calls own next events (e ∷ []) (subst P stands h.answers) (one_return b.standard b.top b.held p.signatures (b.count + length events) call calls s.signature v e back) in
      let one : unreturned b.entries (events ++ e ∷ []) ≡ others = unreturned_leave b.entries events others entry e top back.kind in
      let popped = without_first h.inner b.entries entry others s outer (sym h.entries_are ∙ top) h.counted in
      let Q : List Event → Type 0 = λ l. Answer p b (own ++ Leave s.signature v ∷ []) (events ++ e ∷ []) (open_calls p.signatures (awaited b.bottom outer) l) in
      record {
        path = one_step (s ∷ outer) (ends v) next (acts_on s.activation v outer) closures (own ++ next) refl h is refl;
        follows = follows_then all (left_at_position p b (at_call_stack (s ∷ outer))) (rest p b.bottom (acts_on s.activation v outer) closures moves) own next h.follows (rest_returns p b.bottom a outer closures moves s v is);
        answers = subst Q (sym one) both;
        inner = popped.0;
        entries_are = one ∙ popped.1;
        counted = popped.2;
        depth = depth_leave p (depth_of p (awaited b.bottom [])) own s.signature v (awaited b.bottom outer) h.depth;
        nested = nested_on p b.room s.activation v outer h.nested.1;
      }

first_of_them : (inner base : List Event) (s : Suspended) (outer : List Suspended) → length inner ≡ length (s ∷ outer) → (entry : Event) × (others : List Event) × (inner ++ base ≡ entry ∷ others)
first_of_them [] base s outer is = absurd (omega (arith, is))
first_of_them (e ∷ inner) base s outer is = (e, inner ++ base, refl)

-- the entry of the call that is awaited
pub innermost_entry : (p : Program) (b : Base) (all : Remainder) (own : List TraceItem) (events : List Event) (x : Position) (s : Suspended) (outer : List Suspended) → HasComeTo p b all own events x → x.call_stack.suspended ≡ s ∷ outer → (entry : Event) × (others : List Event) × (unreturned b.entries events ≡ entry ∷ others)
innermost_entry p b all own events x s outer h is =
    let k = first_of_them h.inner b.entries s outer (h.counted ∙ ap (λ (l : List Suspended). length l) is) in
    (k.0, k.1, h.entries_are ∙ k.2)

none_of_them : (inner base : List Event) → length inner ≡ 0 → inner ++ base ≡ base
none_of_them [] base is = refl
none_of_them (e ∷ inner) base is = absurd (omega (arith, is))

-- where nothing is suspended, the calls are open that were open at the beginning
pub open_alone : (p : Program) (b : Base) (all : Remainder) (own : List TraceItem) (events : List Event) (x : Position) → HasComeTo p b all own events x → x.call_stack.suspended ≡ [] → open_at p b x.call_stack.suspended events ≡ open_at p b [] []
open_alone p b all own events x h is =
    ap (λ (l : List Suspended). open_at p b l events) is
    ∙ ap (open_calls p.signatures (awaited b.bottom [])) (h.entries_are ∙ none_of_them h.inner b.entries (h.counted ∙ ap (λ (l : List Suspended). length l) is))

-- ---- the end

module _ (p : Program) (b : Base) (all : Remainder) (own : List TraceItem) (events : List Event) (x : Position) (h : HasComeTo p b all own events x) where
  -- only this trace is left, and it is done too
  pub comes_to_end : (last : List TraceItem) (more : List Event) (end : End) (closures : Closures) (moves : ℕ) (calls : List Entered) → left_at_position p b x ≡ only last end closures moves → AnswersTo b.standard b.top b.held p.signatures (b.count + length events) (open_at p b x.call_stack.suspended events) last more calls → IsOver p b all end closures moves (events ++ more)
  comes_to_end last more end closures moves calls is answers =
      let ends : all ≡ before own (only last end closures moves) = h.follows ∙ ap (before own) is in
      let P : List TraceItem → Type 0 = λ l. Answer p b l (events ++ more) calls in
      record {
        end_is = ap (λ (l : Remainder). l.end) ends;
        closures_are = ap (λ (l : Remainder). l.closures) ends;
        moves_are = ap (λ (l : Remainder). l.moves) ends;
        left_open = calls;
        answers = subst P (sym (ap (λ (l : Remainder). l.trace) ends)) (answers_then b.standard b.top b.held p.signatures b.count (open_at p b [] []) (open_at p b x.call_stack.suspended events) calls own last events more h.answers answers);
      }

  -- the run is interrupted in what is left
  pub comes_to_cut : (tracing : Tracing) (in_line recorded : Bool) (done later happened : List TraceItem) (written : List ℕ) (more : List Event) → TraceWasInterrupted b.standard b.top b.held tracing p.signatures (text_after p b own) (b.count + length events) (open_at p b x.call_stack.suspended events) in_line recorded (left_at_position p b x).trace done later happened written more → IsInterrupted tracing p b in_line recorded all (own ++ done) later (own ++ happened) (text tracing p.signatures (text_start p b) own ++ written) (events ++ more)
  comes_to_cut tracing in_line recorded done later happened written more cut =
      let P : List TraceItem → Type 0 = λ l. TraceWasInterrupted b.standard b.top b.held tracing p.signatures (text_start p b) b.count (open_at p b [] []) in_line recorded l (own ++ done) later (own ++ happened) (text tracing p.signatures (text_start p b) own ++ written) (events ++ more) in
      subst P (sym (ap (λ (l : Remainder). l.trace) h.follows)) (cut_then b.standard b.top b.held tracing p.signatures in_line (text_start p b) b.count (open_at p b [] []) (open_at p b x.call_stack.suspended events) recorded own (left_at_position p b x).trace done later happened events more written h.answers cut)

-- A RUN OF MAIN THAT IS OVER has the journal of its program's direct meaning, whole.
pub main_is_over : (p : Program) (std : Standard) (end : End) (closures : Closures) (moves : ℕ) (events : List Event) → IsOver p (main_base std) (remainder_of (meaning_of p)) end closures moves events → ((meaning_of p).end ≡ end) × ((meaning_of p).closures ≡ closures) × JournalOf std p.signatures (trace_of p) events × IsWhole (trace_of p) events
main_is_over p std end closures moves events h = (h.end_is, h.closures_are, h.answers.answers, h.answers.whole)

-- A RUN OF MAIN THAT WAS INTERRUPTED has a first part of the text, and the journal as far as it goes.
pub main_was_cut : (tracing : Tracing) (p : Program) (std : Standard) (in_line recorded : Bool) (done later happened : List TraceItem) (written : List ℕ) (events : List Event) → IsInterrupted tracing p (main_base std) in_line recorded (remainder_of (meaning_of p)) done later happened written events → JournalOf std p.signatures (trace_of p) events × ((unwritten : List ℕ) × (text_of_run tracing p ≡ written ++ unwritten))
main_was_cut tracing p std in_line recorded done later happened written events cut = (
  cut_journal std stack_top (λ at. 0) tracing p.signatures in_line at_start 0 [] recorded (trace_of p) done later happened written events cut,
  cut_text std stack_top (λ at. 0) tracing p.signatures in_line at_start 0 [] recorded (trace_of p) done later happened written events cut,
)
