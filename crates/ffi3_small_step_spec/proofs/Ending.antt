-- How a run that has come to a point ends there, or is interrupted.
use Rattle.std.proofs.Common.{◌≡◌, ◌<◌, ◌+◌, Bool, true, false, ℕ, suc, List, [], ◌∷◌, ◌++◌, length, take, refl, sym, ap, ◌∙◌, subst, append-nil}
use Rattle.ffi3_type_spec.specs.Tree.{Tree}
use Rattle.ffi3_type_spec.specs.Signature.{signature_at}
use Rattle.ffi3_type_spec.specs.Value.{ValueTree, void_value}
use Rattle.ffi3_type_spec.specs.ValueText.{value_text_of}
use Rattle.ffi3_place_spec.specs.Event.{Event}
use Rattle.ffi3_semantics_spec.specs.declared.Stop.{Stop}
use Rattle.ffi3_semantics_spec.specs.declared.Stop.TheVariants.{MoveLimit}
use Rattle.ffi3_semantics_spec.specs.Closures.{Closures}
use Rattle.ffi3_semantics_spec.specs.Meaning.{Program, Activation, Effect, ends, stops, prints, enters, End, returned, stopped, effect_of, next_move}
use Rattle.ffi3_semantics_spec.specs.Trace.{TraceItem, Enter, Line, Leave, StopLine}
use Rattle.ffi3_semantics_spec.specs.Journal.{Entered, IsEntry, IsReturn}
use Rattle.ffi3_semantics_spec.specs.Lines.{Tracing, a_line, enter_lines, item_text, leave_lines, stop_text, text}
use Rattle.ffi3_small_step_spec.specs.Remainder.{Remainder, only, Suspended, Bottom, as_main, served, CallStack, rest, alone, inside, awaited, awaited_below}
use Rattle.ffi3_small_step_spec.specs.SmallStep.{acts_on}
use Rattle.ffi3_small_step_spec.specs.Open.{AnswersTo, open_calls, unreturned}
use Rattle.ffi3_small_step_spec.specs.Interrupted.{IsPart, HasItsEvent}
use Rattle.ffi3_small_step_spec.specs.TraceInterrupted.{TraceWasInterrupted}
use Rattle.ffi3_small_step_spec.specs.SoFar.{Base, text_start, text_after, left_at_position, open_at, HasComeTo, IsOver, IsInterrupted}
use Rattle.ffi3_small_step_spec.specs.Path.{Position}
use Rattle.ffi3_small_step_spec.proofs.Steps.{rest_at_limit, rest_stops, rest_prints, rest_enters, rest_returns, rest_ends, rest_leaves}
use Rattle.ffi3_small_step_spec.proofs.Opens.{nothing_yet, one_stop, one_entry, one_return}
use Rattle.ffi3_small_step_spec.proofs.Interruptions.{cut_unrecorded, cut_recorded, no_event_yet}
use Rattle.ffi3_small_step_spec.proofs.Coming.{comes_to_end, comes_to_cut, open_alone}

module _ (p : Program) (b : Base) (all : Remainder) (own : List TraceItem) (events : List Event) where
  -- over without another event
  over_as_it_is : (end : End) (closures : Closures) (moves : ℕ) → IsOver p b all end closures moves (events ++ []) → IsOver p b all end closures moves events
  over_as_it_is end closures moves h = subst (λ (l : List Event). IsOver p b all end closures moves l) (append-nil events) h

  -- no move is left
  pub limit_here : (call_stack : CallStack) (closures : Closures) → HasComeTo p b all own events (record { call_stack = call_stack; closures = closures; moves = 0 }) → IsOver p b all (stopped MoveLimit) closures 0 events
  limit_here call_stack closures h =
      let x : Position = record { call_stack = call_stack; closures = closures; moves = 0 } in
      let calls = open_at p b call_stack.suspended events in
      over_as_it_is (stopped MoveLimit) closures 0 (comes_to_end p b all own events x h (StopLine MoveLimit ∷ []) [] (stopped MoveLimit) closures 0 calls (rest_at_limit p b.bottom call_stack closures) (one_stop b.standard b.top b.held p.signatures (b.count + length events) calls MoveLimit))

  -- interrupted with nothing more done, and without another event
  as_it_is : (tracing : Tracing) (in_line recorded : Bool) (later happened : List TraceItem) (written : List ℕ) (xs : List Event) → IsInterrupted tracing p b in_line recorded all (happened ++ []) later (happened ++ []) written (xs ++ []) → IsInterrupted tracing p b in_line recorded all happened later happened written xs
  as_it_is tracing in_line recorded later happened written xs k =
      let P : List TraceItem → Type 0 = λ l. IsInterrupted tracing p b in_line recorded all l later l written (xs ++ []) in
      let Q : List Event → Type 0 = λ l. IsInterrupted tracing p b in_line recorded all happened later happened written l in
      subst Q (append-nil xs) (subst P (append-nil happened) k)

  -- ---- interrupted before or in the next item, from where its run has come to

  module _ (tracing : Tracing) (x : Position) (h : HasComeTo p b all own events x) where
    -- the text so far
    abbrev so_far : List ℕ
    so_far = text tracing p.signatures (text_start p b) own

    abbrev opened : List Entered
    opened = open_at p b x.call_stack.suspended events

    -- between two moves, for want of memory
    pub cut_here : IsInterrupted tracing p b false false all own (left_at_position p b x).trace own so_far events
    cut_here =
        let left = (left_at_position p b x).trace in
        let k = comes_to_cut p b all own events x h tracing false false [] left [] [] [] (cut_unrecorded b.standard b.top b.held tracing p.signatures false (text_after p b own) (b.count + length events) opened left 0 refl (no_event_yet left)) in
        as_it_is tracing false false left own so_far events (subst (λ (l : List ℕ). IsInterrupted tracing p b false false all (own ++ []) left (own ++ []) l (events ++ [])) (append-nil so_far) k)

    -- in the lines of the next item, which has no event
    pub cut_in_item : (next : TraceItem) (later : Remainder) (part : ℕ) → left_at_position p b x ≡ record later { trace = next ∷ later.trace } → part < length (item_text tracing p.signatures (text_after p b own) next) → HasItsEvent false true (next ∷ later.trace) → IsInterrupted tracing p b true false all own (next ∷ later.trace) own (so_far ++ take part (item_text tracing p.signatures (text_after p b own) next)) events
    cut_in_item next later part is short its_event =
        let line = item_text tracing p.signatures (text_after p b own) next in
        let P : List TraceItem → Type 0 = λ l. TraceWasInterrupted b.standard b.top b.held tracing p.signatures (text_after p b own) (b.count + length events) opened true false l [] (next ∷ later.trace) [] (take part line) [] in
        let cut = cut_unrecorded b.standard b.top b.held tracing p.signatures true (text_after p b own) (b.count + length events) opened (next ∷ later.trace) part short its_event in
        as_it_is tracing true false (next ∷ later.trace) own (so_far ++ take part line) events (comes_to_cut p b all own events x h tracing true false [] (next ∷ later.trace) [] (take part line) [] (subst P (sym (ap (λ (l : Remainder). l.trace) is)) cut))

    -- after the event of the next item, in its lines or before them
    pub cut_after_event : (in_line : Bool) (next : TraceItem) (later : Remainder) (e : Event) (calls' : List Entered) (part : ℕ) → left_at_position p b x ≡ record later { trace = next ∷ later.trace } → AnswersTo b.standard b.top b.held p.signatures (b.count + length events) opened (next ∷ []) (e ∷ []) calls' → IsPart in_line part (length (item_text tracing p.signatures (text_after p b own) next)) → HasItsEvent true in_line (next ∷ later.trace) → IsInterrupted tracing p b in_line true all own (next ∷ later.trace) (own ++ next ∷ []) (so_far ++ take part (item_text tracing p.signatures (text_after p b own) next)) (events ++ e ∷ [])
    cut_after_event in_line next later e calls' part is answers proper its_event =
        let line = item_text tracing p.signatures (text_after p b own) next in
        let P : List TraceItem → Type 0 = λ l. TraceWasInterrupted b.standard b.top b.held tracing p.signatures (text_after p b own) (b.count + length events) opened in_line true l [] (next ∷ later.trace) (next ∷ []) (take part line) (e ∷ []) in
        let Q : List TraceItem → Type 0 = λ l. IsInterrupted tracing p b in_line true all l (next ∷ later.trace) (own ++ next ∷ []) (so_far ++ take part line) (events ++ e ∷ []) in
        let cut = cut_recorded b.standard b.top b.held tracing p.signatures in_line (text_after p b own) (b.count + length events) opened calls' next later.trace e part proper its_event answers in
        subst Q (append-nil own) (comes_to_cut p b all own events x h tracing in_line true [] (next ∷ later.trace) (next ∷ []) (take part line) (e ∷ []) (subst P (sym (ap (λ (l : Remainder). l.trace) is)) cut))

  -- no move is left, and the run is interrupted in the line that says so
  pub cut_in_limit : (tracing : Tracing) (call_stack : CallStack) (closures : Closures) (part : ℕ) → HasComeTo p b all own events (record { call_stack = call_stack; closures = closures; moves = 0 }) → part < length (a_line (stop_text p.signatures MoveLimit)) → IsInterrupted tracing p b true false all own (StopLine MoveLimit ∷ []) own (text tracing p.signatures (text_start p b) own ++ take part (a_line (stop_text p.signatures MoveLimit))) events
  cut_in_limit tracing call_stack closures part h short =
      cut_in_item tracing (record { call_stack = call_stack; closures = closures; moves = 0 }) h (StopLine MoveLimit) (only [] (stopped MoveLimit) closures 0) part (rest_at_limit p b.bottom call_stack closures) short refl

  module _ (a : Activation) (outer : List Suspended) (closures : Closures) (moves : ℕ) (h : HasComeTo p b all own events (record { call_stack = record { innermost = a; suspended = outer }; closures = closures; moves = suc moves })) where
    abbrev here : Position
    here = record { call_stack = record { innermost = a; suspended = outer }; closures = closures; moves = suc moves }

    abbrev does : Effect → Type 0
    does d = effect_of p a closures (next_move p a) ≡ d

    abbrev calls : List Entered
    calls = open_at p b outer events

    abbrev count : ℕ
    count = b.count + length events

    -- the run stops
    pub stops_here : (stop : Stop) → does (stops stop) → IsOver p b all (stopped stop) closures moves events
    stops_here stop is =
        over_as_it_is (stopped stop) closures moves (comes_to_end p b all own events here h (StopLine stop ∷ []) [] (stopped stop) closures moves calls (rest_stops p b.bottom a outer closures moves stop is) (one_stop b.standard b.top b.held p.signatures count calls stop))

    -- ---- interrupted in a move

    module _ (tracing : Tracing) where
      abbrev written : List ℕ → List ℕ
      written more = text tracing p.signatures (text_start p b) own ++ more

      -- in a line
      pub cut_in_print : (t : Tree) (v : ValueTree) (part : ℕ) → does (prints t v) → part < length (a_line (value_text_of t v)) → IsInterrupted tracing p b true false all own (Line t v ∷ (rest p b.bottom (acts_on a void_value outer) closures moves).trace) own (written (take part (a_line (value_text_of t v)))) events
      cut_in_print t v part is short =
          cut_in_item tracing here h (Line t v) (rest p b.bottom (acts_on a void_value outer) closures moves) part (rest_prints p b.bottom a outer closures moves t v is) short refl

      pub cut_in_stop : (stop : Stop) (part : ℕ) → does (stops stop) → part < length (a_line (stop_text p.signatures stop)) → IsInterrupted tracing p b true false all own (StopLine stop ∷ []) own (written (take part (a_line (stop_text p.signatures stop)))) events
      cut_in_stop stop part is short =
          cut_in_item tracing here h (StopLine stop) (only [] (stopped stop) closures moves) part (rest_stops p b.bottom a outer closures moves stop is) short refl

      -- after an entry, in the lines that tell it or before them
      pub cut_in_entry : (in_line : Bool) (ptr sig : ℕ) (callee : Activation) (e : Event) (part : ℕ) → does (enters ptr sig callee) → IsEntry b.standard b.top b.held calls count ptr (signature_at p.signatures sig) callee.arguments e → IsPart in_line part (length (enter_lines tracing (text_after p b own) ptr (signature_at p.signatures sig) callee.arguments)) → IsInterrupted tracing p b in_line true all own (Enter ptr sig callee.arguments ∷ (rest p b.bottom (inside callee sig a outer) closures moves).trace) (own ++ Enter ptr sig callee.arguments ∷ []) (written (take part (enter_lines tracing (text_after p b own) ptr (signature_at p.signatures sig) callee.arguments))) (events ++ e ∷ [])
      cut_in_entry in_line ptr sig callee e part is entry proper =
          cut_after_event tracing here h in_line (Enter ptr sig callee.arguments) (rest p b.bottom (inside callee sig a outer) closures moves) e (record { signature = signature_at p.signatures sig; event = e } ∷ calls) part (rest_enters p b.bottom a outer closures moves ptr sig callee is) (one_entry b.standard b.top b.held p.signatures count calls ptr sig callee.arguments e entry) proper (λ _. refl)

  -- after a return to the activation that waits for it, in the lines that tell it or before them
  pub cut_in_return : (in_line : Bool) (a : Activation) (s : Suspended) (outer : List Suspended) (closures : Closures) (moves : ℕ) (v : ValueTree) (entry e : Event) (others : List Event) (tracing : Tracing) (part : ℕ) → HasComeTo p b all own events (record { call_stack = record { innermost = a; suspended = s ∷ outer }; closures = closures; moves = suc moves }) → effect_of p a closures (next_move p a) ≡ ends v → unreturned b.entries events ≡ entry ∷ others → IsReturn b.standard (record { signature = signature_at p.signatures s.signature; event = entry }) v e → IsPart in_line part (length (leave_lines tracing (text_after p b own).calls v)) → IsInterrupted tracing p b in_line true all own (Leave s.signature v ∷ (rest p b.bottom (acts_on s.activation v outer) closures moves).trace) (own ++ Leave s.signature v ∷ []) (text tracing p.signatures (text_start p b) own ++ take part (leave_lines tracing (text_after p b own).calls v)) (events ++ e ∷ [])
  cut_in_return in_line a s outer closures moves v entry e others tracing part h is top back proper =
      let x : Position = record { call_stack = record { innermost = a; suspended = s ∷ outer }; closures = closures; moves = suc moves } in
      let call : Entered = record { signature = signature_at p.signatures s.signature; event = entry } in
      let calls = open_calls p.signatures (awaited b.bottom outer) others in
      let stands : open_at p b (s ∷ outer) events ≡ call ∷ calls = ap (open_calls p.signatures (s.signature ∷ awaited b.bottom outer)) top in
      let P : List Entered → Type 0 = λ l. AnswersTo b.standard b.top b.held p.signatures (b.count + length events) l (Leave s.signature v ∷ []) (e ∷ []) calls in
      cut_after_event tracing x h in_line (Leave s.signature v) (rest p b.bottom (acts_on s.activation v outer) closures moves) e calls part (rest_returns p b.bottom a outer closures moves s v is) (subst P (sym stands) (one_return b.standard b.top b.held p.signatures (b.count + length events) call calls s.signature v e back)) proper (λ _. refl)

-- ---- a return out of the run

module _ (p : Program) (b : Base) (all : Remainder) (own : List TraceItem) (events : List Event) (a : Activation) (closures : Closures) (moves : ℕ) (v : ValueTree) (h : HasComeTo p b all own events (record { call_stack = alone a; closures = closures; moves = suc moves })) (is : effect_of p a closures (next_move p a) ≡ ends v) where
  abbrev standing : Position
  standing = record { call_stack = alone a; closures = closures; moves = suc moves }

  -- main returns
  pub main_ends : b.bottom ≡ as_main → IsOver p b all (returned v) closures moves events
  main_ends main =
      let P : Bottom → Type 0 = λ bottom. rest p bottom (alone a) closures (suc moves) ≡ only [] (returned v) closures moves in
      let last = subst P (sym main) (rest_ends p a closures moves v is) in
      over_as_it_is p b all own events (returned v) closures moves (comes_to_end p b all own events standing h [] [] (returned v) closures moves (open_at p b [] events) last (nothing_yet b.standard b.top b.held p.signatures (b.count + length events) (open_at p b [] events)))

  module _ (sig : ℕ) (entry e : Event) (serving : b.bottom ≡ served sig) (first : b.entries ≡ entry ∷ []) (back : IsReturn b.standard (record { signature = signature_at p.signatures sig; event = entry }) v e) where
    -- a served call is left
    served_leaves : rest p b.bottom (alone a) closures (suc moves) ≡ only (Leave sig v ∷ []) (returned v) closures moves
    served_leaves =
        let P : Bottom → Type 0 = λ bottom. rest p bottom (alone a) closures (suc moves) ≡ only (Leave sig v ∷ []) (returned v) closures moves in
        subst P (sym serving) (rest_leaves p a sig closures moves v is)

    -- and its return answers
    served_answers : AnswersTo b.standard b.top b.held p.signatures (b.count + length events) (open_at p b [] events) (Leave sig v ∷ []) (e ∷ []) []
    served_answers =
        let call : Entered = record { signature = signature_at p.signatures sig; event = entry } in
        let stands : open_at p b [] events ≡ call ∷ [] =
        open_alone p b all own events standing h refl
        ∙ ap (λ (bottom : Bottom). open_calls p.signatures (awaited_below bottom) b.entries) serving
        ∙ ap (open_calls p.signatures (sig ∷ [])) first in
        let Q : List Entered → Type 0 = λ l. AnswersTo b.standard b.top b.held p.signatures (b.count + length events) l (Leave sig v ∷ []) (e ∷ []) [] in
        subst Q (sym stands) (one_return b.standard b.top b.held p.signatures (b.count + length events) call [] sig v e back)

    -- a served call returns
    pub served_ends : IsOver p b all (returned v) closures moves (events ++ e ∷ [])
    served_ends =
        comes_to_end p b all own events standing h (Leave sig v ∷ []) (e ∷ []) (returned v) closures moves [] served_leaves served_answers

    -- or the run is interrupted in the lines that tell it or before them
    pub cut_in_served_return : (in_line : Bool) (tracing : Tracing) (part : ℕ) → IsPart in_line part (length (leave_lines tracing (text_after p b own).calls v)) → IsInterrupted tracing p b in_line true all own (Leave sig v ∷ []) (own ++ Leave sig v ∷ []) (text tracing p.signatures (text_start p b) own ++ take part (leave_lines tracing (text_after p b own).calls v)) (events ++ e ∷ [])
    cut_in_served_return in_line tracing part proper =
        cut_after_event p b all own events tracing standing h in_line (Leave sig v) (only [] (returned v) closures moves) e [] part served_leaves served_answers proper (λ _. refl)
