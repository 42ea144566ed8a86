-- What each kind of move of a run leads to, from one moment to the next.
use Rattle.std.proofs.Common.{◌≡◌, Bool, ℕ, suc, ◌+◌, ◌-◌, ◌≤◌, inl, true, false, List, [], ◌∷◌, ◌++◌, length, take, drop, refl, sym, ap, ◌∙◌, subst, arith, append-nil, length-append}
use Rattle.ffi3_type_spec.specs.Tree.{Tree}
use Rattle.ffi3_type_spec.specs.Value.{ValueTree, void_value}
use Rattle.ffi3_type_spec.specs.ValueText.{value_text_of}
use Rattle.ffi3_place_spec.specs.Event.{Event}
use Rattle.ffi3_semantics_spec.specs.declared.Stop.{Stop}
use Rattle.ffi3_semantics_spec.specs.declared.Stop.TheVariants.{MoveLimit}
use Rattle.ffi3_semantics_spec.specs.Closures.{Closures}
use Rattle.ffi3_semantics_spec.specs.Lines.{a_line, stop_text}
use Rattle.ffi3_semantics_spec.specs.Meaning.{Program, Activation, Effect, ends, stops, prints, goes_on, returned, stopped, effect_of, next_move, with_result}
use Rattle.ffi3_semantics_spec.specs.Move.{Move}
use Rattle.ffi3_semantics_spec.specs.Trace.{TraceItem, Line, StopLine}
use Rattle.ffi3_small_step_spec.specs.Remainder.{Remainder, Suspended, Bottom, before, only, only_stops, as_main, rest, alone}
use Rattle.ffi3_small_step_spec.specs.Depth.{deepest}
use Rattle.ffi3_small_step_spec.specs.SoFar.{Base, left_at_position, HasComeTo, IsInterrupted, IsOver}
use Rattle.ffi3_small_step_spec.specs.Path.{Position, happens_in, happens_next, happens_with}
use Rattle.ffi3_small_step_spec.specs.Left.{AreMovesLeft, BeginsWith, IsLeft}
use Rattle.ffi3_small_step_spec.specs.SmallStep.{acts_on, step_of}
use Rattle.ffi3_small_step_spec.proofs.Steps.{paths_follow, rest_at_limit, rest_stops, rest_ends}
use Rattle.ffi3_small_step_spec.proofs.Depths.{depth_at-append}
use Rattle.ffi3_small_step_spec.proofs.Coming.{comes_on, comes_by_print, deepest_same}
use Rattle.ffi3_small_step_spec.proofs.Ending as ending
use Rattle.ffi3_machine_spec.specs.State.{State, with_code}
use Rattle.ffi3_machine_spec.specs.Slots.{HoldsMap}
use Rattle.ffi3_io_spec.specs.Sink.{Adds, Rose, SinkState}
use Rattle.ffi3_io_spec.specs.Written.{TookText}
use Rattle.ffi3_io_spec.specs.declared.IoError.TheVariants as cut
use Rattle.ffi3_run_state.specs.Known.{AreKnown}
use Rattle.ffi3_io_spec.specs.Written.{LineFailed}
use Rattle.ffi3_run_state.specs.Between.{Beginning, RunState, asking, position, text_so_far, depth_below, open_calls_at, IsBetween, IsAsking}
use Rattle.ffi3_run_state.specs.Counted.{steps_after, back_at_caller}
use Rattle.ffi3_run_state.specs.Served.{KeepsCallers}
use Rattle.ffi3_run_state.specs.Turned.{CountedAtMostOne, IsEnded, WasInterruptedAfter, LooksAs}
use Rattle.ffi3_run_state.proofs.Callers.{between_keeps}
use Rattle.ffi3_run_state.proofs.Counting.{steps_then}
use Rattle.ffi3_run_state.proofs.Marks.{mark_same, fewer, text_then}
use Rattle.ffi3_run_state.proofs.Opened.{holds_by_code}
use Rattle.ffi3_run_state.proofs.Since.{part_since, since_then}

-- the same from an equal number
fault_from : (a b c : ℕ) → b ≡ a → Rose b c × (b ≤ c) → Rose a c × (a ≤ c)
fault_from a b c is h = subst (λ (n : ℕ). Rose n c × (n ≤ c)) is h

pub looks_as_itself : (m : State) → LooksAs m m
looks_as_itself m = record { events = refl; mark = refl; steps = refl; target = refl; code = refl; stack = refl }

pub looks_same : (m m' : State) → m' ≡ m → LooksAs m m'
looks_same m m' same = subst (λ (n : State). LooksAs m n) (sym same) (looks_as_itself m)

-- ---- what is left to do

-- at a position of the path
abbrev pub left_here : (p : Program) (base : Base) (all : Remainder) (in_move : Bool) (done later : List TraceItem) (events : List Event) (x : Position) (moves : ℕ) → HasComeTo p base all done events x → AreMovesLeft in_move x.moves moves → BeginsWith in_move (happens_next p base.bottom x) later → IsLeft p base.bottom base.start in_move done later x.closures moves
left_here p base all in_move done later events x moves come left next = record {
  at = x;
  path = come.path;
  follows = paths_follow p base.bottom base.start done x come.path;
  closures_are = refl;
  moves_are = left;
  next = next;
}

-- in the next move there, which does this
abbrev pub left_in_move : (p : Program) (base : Base) (all : Remainder) (done later : List TraceItem) (events : List Event) (a : Activation) (outer : List Suspended) (closures : Closures) (moves : ℕ) (d : Effect) (item : TraceItem) → HasComeTo p base all done events (record { call_stack = record { innermost = a; suspended = outer }; closures = closures; moves = suc moves }) → effect_of p a closures (next_move p a) ≡ d → happens_in (step_of base.bottom a outer closures d) ≡ item ∷ [] → IsLeft p base.bottom base.start true done (item ∷ later) closures moves
left_in_move p base all done later events a outer closures moves d item come does happens =
    left_here p base all true done (item ∷ later) events (record { call_stack = record { innermost = a; suspended = outer }; closures = closures; moves = suc moves }) moves come (omega arith) (ap (λ (e : Effect). happens_in (step_of base.bottom a outer closures e)) does ∙ happens)

-- FOR WANT OF MEMORY, between two moves, after one item more at most
pub cut_after : (p : Program) (base : Base) (all : Remainder) (first : Beginning) (own more : List TraceItem) (events : List Event) (x : RunState) (was moves : ℕ) (m : State) → length more ≤ 1 → AreMovesLeft false x.moves moves → CountedAtMostOne was moves → x.moves ≤ was → LooksAs x.machine m → IsBetween p base all first (own ++ more) events x → WasInterruptedAfter p base all first own was cut.NoMemory x.closures moves m x.output
cut_after p base all first own more events x was moves m one left counted from looks h =
    let done = own ++ more in
    record {
      interrupted = record {
        done = done;
        later = (left_at_position p base (position x)).trace;
        recorded = false;
        happened = done;
        events = events;
        text = text_so_far first.tracing p base done;
        cut = ending.cut_here p base all done events first.tracing (position x) h.come;
        journal = looks.events ∙ h.journal;
        steps = inl (looks.steps ∙ h.steps);
        written = h.written.took.added;
        cause = h.written.took.count;
        mark = mark_same base.top first.mark (deepest p (depth_below p base) done) (deepest p (depth_below p base) done) x.machine.mark m.mark refl looks.mark h.mark;
        target = looks.target ∙ h.calls.target;
        left = left_here p base all false done (left_at_position p base (position x)).trace events (position x) moves h.come left tt;
        follows = h.come.follows;
        holds = subst (λ (code : List ℕ). HoldsMap base.standard.target x.closures code) (sym looks.code) h.holds;
        callers = subst (λ (stack : List ℕ). KeepsCallers p base first stack) (sym looks.stack) (between_keeps p base all first done events x h);
      };
      more = more;
      happened = refl;
      one = one;
      counted = counted;
      from = from;
    }

module _ (p : Program) (base : Base) (all : Remainder) (first : Beginning) (own : List TraceItem) (events : List Event) where
  -- ---- interrupted

  -- with nothing more done
  pub cut_between : (x : RunState) (was moves : ℕ) (m : State) → AreMovesLeft false x.moves moves → CountedAtMostOne was moves → x.moves ≤ was → LooksAs x.machine m → IsBetween p base all first own events x → WasInterruptedAfter p base all first own was cut.NoMemory x.closures moves m x.output
  cut_between x was moves m left counted from looks h =
      cut_after p base all first own [] events x was moves m (omega arith) left counted from looks (subst (λ (l : List TraceItem). IsBetween p base all first l events x) (sym (append-nil own)) h)

  module _ (x : RunState) (h : IsBetween p base all first own events x) (output : SinkState) (line : List ℕ) (failed : LineFailed line x.output output) where
    -- the bytes that are written then
    part_written : Adds first.output.taken (drop first.told (text_so_far first.tracing p base own ++ take failed.part.0 line)) output.taken
    part_written =
        part_since first x.output output (text_so_far first.tracing p base own) (take failed.part.0 line) h.written failed.part.2

    part_cause : Rose first.output.faults output.faults × (first.output.faults ≤ output.faults)
    part_cause =
        fault_from first.output.faults x.output.faults output.faults h.written.took.count (failed.rose, failed.never_falls)

    -- A WRITE FAILS in the line of what happens in the next move
    line_failed : (moves : ℕ) (later : List TraceItem) → moves ≡ x.moves - 1 → happens_next p base.bottom (position x) ≡ take 1 later → IsInterrupted first.tracing p base true false all own later own (text_so_far first.tracing p base own ++ take failed.part.0 line) events → WasInterruptedAfter p base all first own x.moves cut.Failed x.closures moves x.machine output
    line_failed moves later fewer happens there = record {
      interrupted = record {
        done = own;
        later = later;
        recorded = false;
        happened = own;
        events = events;
        text = text_so_far first.tracing p base own ++ take failed.part.0 line;
        cut = there;
        journal = h.journal;
        steps = inl h.steps;
        written = part_written;
        cause = part_cause;
        mark = h.mark;
        target = h.calls.target;
        left = left_here p base all true own later events (position x) moves h.come fewer happens;
        follows = h.come.follows;
        holds = h.holds;
        callers = between_keeps p base all first own events x h;
      };
      more = [];
      happened = sym (append-nil own);
      one = omega arith;
      counted = (omega (arith, fewer), omega (arith, fewer));
      from = omega arith;
    }

  module _ (x : RunState) (h : IsBetween p base all first own events x) (stop : Stop) (moves : ℕ) (left : left_at_position p base (position x) ≡ only_stops stop x.closures moves) where
    -- nothing else happens
    stop_is_last : all.trace ≡ own ++ StopLine stop ∷ []
    stop_is_last = ap (λ (l : Remainder). l.trace) (h.come.follows ∙ ap (before own) left)

    -- THE LINE OF A STOP IS WRITTEN, where nothing else is left
    stop_written : IsOver p base all (stopped stop) x.closures moves events → (output : SinkState) → TookText (a_line (stop_text p.signatures stop)) x.output output → IsEnded p base all first (stopped stop) x.closures moves x.machine output
    stop_written over output took =
        let trace = stop_is_last in
        let line = a_line (stop_text p.signatures stop) in
        record {
          events = events;
          over = over;
          journal = h.journal;
          steps = h.steps ∙ sym (steps_then base.standard.target first.steps own (StopLine stop ∷ [])) ∙ ap (λ (l : List TraceItem). steps_after base.standard.target first.steps l) (sym trace);
          written = (since_then first x.output output (text_so_far first.tracing p base own) line h.written (text_so_far first.tracing p base all.trace) (ap (text_so_far first.tracing p base) trace ∙ text_then first.tracing p base own (StopLine stop)) took).took;
          mark = mark_same base.top first.mark (deepest p (depth_below p base) own) (deepest p (depth_below p base) all.trace) x.machine.mark x.machine.mark (ap (deepest p (depth_below p base)) trace ∙ deepest_same p (depth_below p base) own (StopLine stop) (omega arith)) refl h.mark;
          target = h.calls.target;
          reserved = h.calls.reserved;
          holds = h.holds;
          callers = between_keeps p base all first own events x h;
        }

  -- ---- no move is left

  module _ (x : RunState) (none : x.moves ≡ 0) (h : IsBetween p base all first own events x) where
    at_limit : HasComeTo p base all own events (record { call_stack = (position x).call_stack; closures = x.closures; moves = 0 })
    at_limit =
        let P = λ (n : ℕ). HasComeTo p base all own events (record { call_stack = (position x).call_stack; closures = x.closures; moves = n }) in
        subst P none h.come

    limit_left : left_at_position p base (position x) ≡ only_stops MoveLimit x.closures 0
    limit_left =
        ap (λ (n : ℕ). rest p base.bottom (position x).call_stack x.closures n) none ∙ rest_at_limit p base.bottom (position x).call_stack x.closures

    pub limit_ends : (output : SinkState) → TookText (a_line (stop_text p.signatures MoveLimit)) x.output output → IsEnded p base all first (stopped MoveLimit) x.closures x.moves x.machine output
    limit_ends output took =
        let over = ending.limit_here p base all own events (position x).call_stack x.closures at_limit in
        let E = λ (n : ℕ). IsEnded p base all first (stopped MoveLimit) x.closures n x.machine output in
        subst E (sym none) (stop_written x h MoveLimit 0 limit_left over output took)

    pub limit_is_last : all.trace ≡ own ++ StopLine MoveLimit ∷ []
    limit_is_last = stop_is_last x h MoveLimit 0 limit_left

    pub limit_failed : (output : SinkState) → LineFailed (a_line (stop_text p.signatures MoveLimit)) x.output output → WasInterruptedAfter p base all first own x.moves cut.Failed x.closures x.moves x.machine output
    limit_failed output failed =
        line_failed x h output (a_line (stop_text p.signatures MoveLimit)) failed x.moves (StopLine MoveLimit ∷ []) (omega (arith, none)) (ap (λ (n : ℕ). happens_with p base.bottom (position x).call_stack x.closures n) none) (ending.cut_in_limit p base all own events first.tracing (position x).call_stack x.closures failed.part.0 at_limit failed.part.1)

  -- ---- a move that is asked for

  module _ (x : RunState) (asked : Move) (is : IsAsking p base all first own events x asked) where
    abbrev a : Activation
    a = x.innermost

    abbrev outer : List Suspended
    outer = x.suspended

    does_so : (d : Effect) → effect_of p x.innermost x.closures asked ≡ d → effect_of p x.innermost x.closures (next_move p x.innermost) ≡ d
    does_so d does = ap (effect_of p x.innermost x.closures) is.asks ∙ does

    happens_so : (d : Effect) → effect_of p x.innermost x.closures asked ≡ d → happens_next p base.bottom (position (asking x)) ≡ happens_in (step_of base.bottom x.innermost x.suspended x.closures d)
    happens_so d does =
        ap (λ (e : Effect). happens_in (step_of base.bottom x.innermost x.suspended x.closures e)) (does_so d does)

    -- THE RUN STOPS
    module _ (stop : Stop) (does : effect_of p x.innermost x.closures asked ≡ stops stop) where
      stop_left : left_at_position p base (position (asking x)) ≡ only_stops stop x.closures x.moves
      stop_left = rest_stops p base.bottom a outer x.closures x.moves stop (does_so (stops stop) does)

      pub stop_ends : (output : SinkState) → TookText (a_line (stop_text p.signatures stop)) x.output output → IsEnded p base all first (stopped stop) x.closures x.moves x.machine output
      stop_ends output took =
          stop_written (asking x) is.between stop x.moves stop_left (ending.stops_here p base all own events a outer x.closures x.moves is.between.come stop (does_so (stops stop) does)) output took

      pub move_is_last : all.trace ≡ own ++ StopLine stop ∷ []
      move_is_last = stop_is_last (asking x) is.between stop x.moves stop_left

      pub stop_failed : (output : SinkState) → LineFailed (a_line (stop_text p.signatures stop)) x.output output → WasInterruptedAfter p base all first own (suc x.moves) cut.Failed x.closures x.moves x.machine output
      stop_failed output failed =
          line_failed (asking x) is.between output (a_line (stop_text p.signatures stop)) failed x.moves (StopLine stop ∷ []) (omega arith) (happens_so (stops stop) does) (ending.cut_in_stop p base all own events a outer x.closures x.moves is.between.come first.tracing stop failed.part.0 (does_so (stops stop) does) failed.part.1)

    -- MAIN RETURNS
    main_alone : x.suspended ≡ [] → HasComeTo p base all own events (record { call_stack = alone a; closures = x.closures; moves = suc x.moves })
    main_alone none =
        let P = λ (l : List Suspended). HasComeTo p base all own events (record { call_stack = record { innermost = a; suspended = l }; closures = x.closures; moves = suc x.moves }) in
        subst P none is.between.come

    pub main_is_last : (v : ValueTree) → effect_of p x.innermost x.closures asked ≡ ends v → x.suspended ≡ [] → base.bottom ≡ as_main → all.trace ≡ own ++ []
    main_is_last v does none main =
        let Q = λ (bottom : Bottom). rest p bottom (alone a) x.closures (suc x.moves) ≡ only [] (returned v) x.closures x.moves in
        let left : rest p base.bottom (alone a) x.closures (suc x.moves) ≡ only [] (returned v) x.closures x.moves = subst Q (sym main) (rest_ends p a x.closures x.moves v (does_so (ends v) does)) in
        let come = main_alone none in
        let done : all ≡ before own (only [] (returned v) x.closures x.moves) = come.follows ∙ ap (before own) left in
        ap (λ (l : Remainder). l.trace) done

    pub main_ends : (v : ValueTree) → effect_of p x.innermost x.closures asked ≡ ends v → x.suspended ≡ [] → base.bottom ≡ as_main → IsEnded p base all first (returned v) x.closures x.moves x.machine x.output
    main_ends v does none main =
        let h = is.between in
        let come = main_alone none in
        let trace : all.trace ≡ own = main_is_last v does none main ∙ append-nil own in
        let T = λ (l : List TraceItem). TookText (drop first.told (text_so_far first.tracing p base l)) first.output x.output in
        let C = λ (b : Bottom). back_at_caller base.standard.target b x.machine.steps ≡ steps_after base.standard.target first.steps all.trace in
        record {
          events = events;
          over = ending.main_ends p base all own events a x.closures x.moves v come (does_so (ends v) does) main;
          journal = h.journal;
          steps = subst C (sym main) (h.steps ∙ ap (λ (l : List TraceItem). steps_after base.standard.target first.steps l) (sym trace));
          written = subst T (sym trace) h.written.took;
          mark = mark_same base.top first.mark (deepest p (depth_below p base) own) (deepest p (depth_below p base) all.trace) x.machine.mark x.machine.mark (ap (deepest p (depth_below p base)) trace) refl h.mark;
          target = h.calls.target;
          reserved = h.calls.reserved;
          holds = h.holds;
          callers = between_keeps p base all first own events (asking x) h;
        }

    -- A LINE IS PRINTED
    module _ (t : Tree) (v : ValueTree) (does : effect_of p x.innermost x.closures asked ≡ prints t v) where
      abbrev printed : SinkState → RunState
      printed output = record x { innermost = with_result x.innermost void_value; output = output }

      pub print_on : (output : SinkState) → TookText (a_line (value_text_of t v)) x.output output → IsBetween p base all first (own ++ Line t v ∷ []) events (printed output)
      print_on output took =
          let h = is.between in
          record {
            needs = h.needs;
            count = h.count;
            top = h.top;
            come = comes_by_print p base all own events a x.closures x.moves outer t v h.come (does_so (prints t v) does);
            journal = h.journal;
            steps = h.steps ∙ sym (steps_then base.standard.target first.steps own (Line t v ∷ []));
            written = since_then first x.output output (text_so_far first.tracing p base own) (a_line (value_text_of t v)) h.written (text_so_far first.tracing p base (own ++ Line t v ∷ [])) (text_then first.tracing p base own (Line t v)) took;
            mark = mark_same base.top first.mark (deepest p (depth_below p base) own) (deepest p (depth_below p base) (own ++ Line t v ∷ [])) x.machine.mark x.machine.mark (deepest_same p (depth_below p base) own (Line t v) (omega arith)) refl h.mark;
            deep = ap (λ (n : ℕ). x.machine.sp + n) (depth_at-append p (depth_below p base) own (Line t v ∷ [])) ∙ h.deep;
            left = h.left;
            calls = h.calls;
            holds = h.holds;
            known = h.known;
            few = omega (arith, length-append x.innermost.results (void_value ∷ []), h.few);
            others_few = fewer x.moves outer h.others_few;
            found = h.found;
            outermost = h.outermost;
          }

      pub print_failed : (output : SinkState) → LineFailed (a_line (value_text_of t v)) x.output output → WasInterruptedAfter p base all first own (suc x.moves) cut.Failed x.closures x.moves x.machine output
      print_failed output failed =
          line_failed (asking x) is.between output (a_line (value_text_of t v)) failed x.moves (Line t v ∷ (rest p base.bottom (acts_on a void_value outer) x.closures x.moves).trace) (omega arith) (happens_so (prints t v) does) (ending.cut_in_print p base all own events a outer x.closures x.moves is.between.come first.tracing t v failed.part.0 (does_so (prints t v) does) failed.part.1)

    -- THE CLOSURES CHANGE, and code is written
    module _ (r : ValueTree) (closures : Closures) (does : effect_of p x.innermost x.closures asked ≡ goes_on r closures) (address : ℕ) (bytes : List ℕ) where
      abbrev changed : RunState
      changed = record x { innermost = with_result x.innermost r; closures = closures; machine = with_code address bytes x.machine }

      pub change_on : HoldsMap base.standard.target closures (with_code address bytes x.machine).code → AreKnown p closures → IsBetween p base all first own events changed
      change_on holds known =
          let h = is.between in
          record {
            needs = h.needs;
            count = h.count;
            top = h.top;
            come = comes_on p base all own events a x.closures x.moves outer r closures h.come (does_so (goes_on r closures) does);
            journal = h.journal;
            steps = h.steps;
            written = h.written;
            mark = h.mark;
            deep = h.deep;
            left = h.left;
            calls = holds_by_code base.standard p.signatures base.held base.top address bytes x.machine x.calls (open_calls_at p base events x) h.calls;
            holds = holds;
            known = known;
            few = omega (arith, length-append x.innermost.results (r ∷ []), h.few);
            others_few = fewer x.moves outer h.others_few;
            found = record { above = h.found.above; events = h.found.events; bytes = h.found.bytes };
            outermost = h.outermost;
          }
