-- A call that is entered and what holds in its callee; a call that returns and what holds in its caller; and a run that is interrupted at either.
use Rattle.std.proofs.Common.{◌≡◌, ℕ, suc, ◌⊎◌, List, [], ◌∷◌, ◌++◌, length, take, true, refl, arith, ◌+◌, ◌*◌, ◌<◌, ◌≤◌, inl, Some, sym, ap, ◌∙◌, subst, append_assoc, length-append, ◌-◌, drop}
use Rattle.ffi3_place_spec.specs.Event.{Event}
use Rattle.ffi3_semantics_spec.specs.Closures.{Closures}
use Rattle.ffi3_semantics_spec.specs.Meaning.{Program, Effect, effect_of, next_move, Activation, enters, callee_of, need_at, ends, with_result, most_moves}
use Rattle.ffi3_semantics_spec.specs.Trace.{TraceItem, Enter, Leave}
use Rattle.ffi3_small_step_spec.specs.Remainder.{Remainder, rest, inside, awaited, Suspended}
use Rattle.ffi3_small_step_spec.specs.SmallStep.{step_of, acts_on}
use Rattle.ffi3_small_step_spec.specs.Path.{happens_in}
use Rattle.ffi3_small_step_spec.specs.Depth.{deepest}
use Rattle.ffi3_small_step_spec.specs.Interrupted.{IsPart}
use Rattle.ffi3_small_step_spec.specs.SoFar.{Base, IsInterrupted, text_after, HasComeTo}
use Rattle.ffi3_machine_spec.specs.State.{State, image_of, stack_at, with_room}
use Rattle.ffi3_machine_spec.specs.Slots.{HoldsMap}
use Rattle.ffi3_io_spec.specs.Sink.{SinkState}
use Rattle.ffi3_io_spec.specs.Written.{LineInterrupted, TookText}
use Rattle.ffi3_io_spec.specs.declared.IoError.{IoError}
use Rattle.ffi3_run_state.specs.Between.{Beginning, RunState, asking, text_so_far, depth_below, IsMarkOf, IsBetween, position, open_calls_at, IsAsking, KeepsFound}
use Rattle.ffi3_run_state.specs.Counted.{steps_after, back_at_caller}
use Rattle.ffi3_run_state.specs.Served.{KeepsCallers}
use Rattle.ffi3_run_state.specs.Turned.{is_in_line, WasInterruptedAfter}
use Rattle.ffi3_run_state.proofs.Moving.{left_in_move}
use Rattle.ffi3_run_state.proofs.Since.{part_since, since_then}
use Rattle.ffi3_run_state.proofs.Telling.{cause_from, cut_part, entry_lines_are, return_lines_are}
use Rattle.std.specs.Prelude.{suc, true, Bool}
use Rattle.ffi3_type_spec.specs.declared.limits.TheConstants.{STACK}
use Rattle.ffi3_type_spec.specs.Signature.{Signature, signature_at}
use Rattle.ffi3_type_spec.specs.Value.{ValueTree}
use Rattle.ffi3_place_spec.specs.Holds.{Own}
use Rattle.ffi3_place_spec.specs.Standard.{Standard, block_bytes, frame_of, need_of}
use Rattle.ffi3_semantics_spec.specs.declared.Closure.{Closure}
use Rattle.ffi3_semantics_spec.specs.Journal.{Entered, IsEntry, needs, IsReturn}
use Rattle.ffi3_semantics_spec.specs.Lines.{enter_lines, leave_lines}
use Rattle.ffi3_semantics_spec.specs.Move.{call, return}
use Rattle.ffi3_small_step_spec.specs.Nested.{depth_at, depth_of}
use Rattle.ffi3_small_step_spec.specs.TracingOf.{IsTracingOf}
use Rattle.ffi3_small_step_spec.proofs.Depths.{depth_at-append, ends_below}
use Rattle.ffi3_small_step_spec.proofs.Coming.{comes_in, deepest_enter, comes_back, deepest_same, innermost_entry}
use Rattle.ffi3_small_step_spec.proofs.Ending.{cut_in_entry, cut_in_return}
use Rattle.ffi3_small_step_spec.proofs.Opens.{opens_enter, unreturned_leave}
use Rattle.ffi3_semantics_spec.specs.SeenActivation.{arguments_in}
use Rattle.ffi3_callee.specs.declared.Incoming.{Incoming}
use Rattle.ffi3_callee.specs.Received.{IsIncoming}
use Rattle.ffi3_invoke.specs.Calls.{HasBegun, KeepsOpen, Stands, HasEnded}
use Rattle.ffi3_run_state.specs.declared.activation.OpenCall.{OpenCall}
use Rattle.ffi3_run_state.specs.Activations.{arguments_at}
use Rattle.ffi3_run_state.specs.Stack.{caller_sp, IsOpen, OpenStand, frames, HoldsCalls}
use Rattle.ffi3_run_state.specs.TraceLines.{entry_lines, return_lines}
use Rattle.ffi3_run_state.proofs.Callers.{callers_kept}
use Rattle.ffi3_run_state.proofs.Counting.{count_enter, count_leave}
use Rattle.ffi3_run_state.proofs.Marks.{mark_enter, fewer, text_then, mark_leave}
use Rattle.ffi3_run_state.proofs.Transports.{by_names, numbered}
use Rattle.ffi3_run_state.proofs.Opened.{caller_above, open_needs, open_kept, keeps_room, same_then_held, in_callee}
use Rattle.ffi3_small_step_spec.specs.Open.{unreturned, open_calls}
use Rattle.ffi3_run_state.proofs.Blocks.{AreAbove, blocks_above}

-- AN ENTRY OR A RETURN HAPPENED: its event is recorded and its steps are counted, its caller has yet to run Return where it is the last, and closures and the callers around the run are kept.
pub record Crosses (p : Program) (base : Base) (first : Beginning) (own : List TraceItem) (events : List Event) (closures : Closures) (item : TraceItem) (e : Event) (m : State) : Type 0 where
  pub journal : m.events ≡ first.events ++ (events ++ e ∷ [])
  pub steps : (m.steps ≡ steps_after base.standard.target first.steps (own ++ item ∷ [])) ⊎ (back_at_caller base.standard.target base.bottom m.steps ≡ steps_after base.standard.target first.steps (own ++ item ∷ []))
  pub mark : IsMarkOf base.top first.mark (deepest p (depth_below p base) (own ++ item ∷ [])) m.mark
  pub target : m.target ≡ base.standard.target
  pub holds : HoldsMap base.standard.target closures m.code
  pub callers : KeepsCallers p base first m.stack

-- INTERRUPTED THERE, in the lines that tell it or before them
pub crossing_cut : (p : Program) (base : Base) (all : Remainder) (first : Beginning) (own : List TraceItem) (events : List Event) (x : RunState) (item : TraceItem) (e : Event) (m : State) (d : Effect) (later : List TraceItem) (lines : List ℕ) → IsBetween p base all first own events (asking x) → Crosses p base first own events x.closures item e m → effect_of p x.innermost x.closures (next_move p x.innermost) ≡ d → happens_in (step_of base.bottom x.innermost x.suspended x.closures d) ≡ item ∷ [] → (why : IoError) (output : SinkState) → LineInterrupted lines x.output output why → ((part : ℕ) → IsPart (is_in_line why) part (length lines) → IsInterrupted first.tracing p base (is_in_line why) true all own (item ∷ later) (own ++ item ∷ []) (text_so_far first.tracing p base own ++ take part lines) (events ++ e ∷ [])) → WasInterruptedAfter p base all first own (suc x.moves) why x.closures x.moves m output
crossing_cut p base all first own events x item e m d later lines h crossed does happens why output cut_off cut =
    let part = cut_part why lines x.output output cut_off in
    record {
      interrupted = record {
        done = own;
        later = item ∷ later;
        recorded = true;
        happened = own ++ item ∷ [];
        events = events ++ e ∷ [];
        text = text_so_far first.tracing p base own ++ take part.0 lines;
        cut = cut part.0 part.1;
        journal = crossed.journal;
        steps = crossed.steps;
        written = part_since first x.output output (text_so_far first.tracing p base own) (take part.0 lines) h.written part.2;
        cause = cause_from why first.output.faults x.output.faults output.faults h.written.took.count part.3;
        mark = crossed.mark;
        target = crossed.target;
        left = left_in_move p base all own later events x.innermost x.suspended x.closures x.moves d item h.come does happens;
        follows = h.come.follows;
        holds = crossed.holds;
        callers = crossed.callers;
      };
      more = item ∷ [];
      happened = refl;
      one = omega arith;
      counted = (omega arith, omega arith);
      from = omega arith;
    }

-- a call that has begun, in the words of the program: the room that was made for it, what its callee remembers, and where that stands
pub record HasCalled (p : Program) (base : Base) (ptr sig : ℕ) (args : List ValueTree) (m m' : State) (incoming : Incoming) : Type 0 where
  pub room : ℕ
  pub sized : room ≡ base.standard.link + frame_of base.standard (signature_at p.signatures sig)
  pub begun : HasBegun base.standard (signature_at p.signatures sig) args ptr (with_room room m) m'
  pub incoming_is : IsIncoming base.standard (signature_at p.signatures sig) incoming
  pub block_is : incoming.block ≡ m'.sp
  pub below : sig < length p.signatures

-- the same from what is said of it by another name of its standard, of its signature and of the machine with room
pub has_called : (p : Program) (base : Base) (std : Standard) (ss : List Signature) (s : Signature) (ptr sig link frame : ℕ) (args : List ValueTree) (m roomy m' : State) (incoming : Incoming) → base.standard ≡ std → p.signatures ≡ ss → s ≡ signature_at ss sig → link ≡ std.link → frame ≡ frame_of std s → roomy ≡ with_room (link + frame) m → HasBegun std s args ptr roomy m' → IsIncoming std s incoming → incoming.block ≡ m'.sp → sig < length ss → HasCalled p base ptr sig args m m' incoming
has_called p base std ss s ptr sig link frame args m roomy m' incoming standard signatures s_is link_is frame_is room begun incoming_is block_is below =
    let site = numbered p ss sig s signatures s_is in
    record {
      room = link + frame;
      sized =
          ap (λ (k : ℕ). k + frame) (link_is ∙ ap (λ (t : Standard). t.link) (sym standard))
          ∙ ap (λ (k : ℕ). base.standard.link + k) (frame_is ∙ ap (frame_of std) site ∙ ap (λ (t : Standard). frame_of t (signature_at p.signatures sig)) (sym standard));
      begun = by_names (λ (x : Standard) (y : Signature). HasBegun x y args ptr (with_room (link + frame) m) m') std base.standard s (signature_at p.signatures sig) (sym standard) site (subst (λ (n : State). HasBegun std s args ptr n m') room begun);
      incoming_is = by_names (λ (x : Standard) (y : Signature). IsIncoming x y incoming) std base.standard s (signature_at p.signatures sig) (sym standard) site incoming_is;
      block_is = block_is;
      below = subst (λ (l : List Signature). sig < length l) (sym signatures) below;
    }

module _ (p : Program) (base : Base) (all : Remainder) (first : Beginning) (own : List TraceItem) (events : List Event) (x : RunState) (ptr sig : ℕ) (args : List ValueTree) (is : IsAsking p base all first own events x (call ptr sig args)) (closure : Closure) (does : effect_of p x.innermost x.closures (call ptr sig args) ≡ enters ptr sig (callee_of p x.innermost sig args closure)) where
  abbrev site : Signature
  site = signature_at p.signatures sig

  abbrev callee : Activation
  callee = callee_of p x.innermost sig args closure

  abbrev calls_open : List Entered
  calls_open = open_calls_at p base events x

  abbrev depth : ℕ
  depth = depth_at p (depth_below p base) own

  does_so : effect_of p x.innermost x.closures (next_move p x.innermost) ≡ enters ptr sig callee
  does_so = ap (effect_of p x.innermost x.closures) is.asks ∙ does

  module _ (m : State) (incoming : Incoming) (called : HasCalled p base ptr sig args x.machine m incoming) where
    abbrev begun : HasBegun base.standard site args ptr (with_room called.room x.machine) m
    begun = called.begun

    abbrev opened : OpenCall
    opened = record { sig = sig; incoming = incoming }

    abbrev pub entered : SinkState → RunState
    entered output = record {
      innermost = callee;
      suspended = record { activation = x.innermost; signature = sig } ∷ x.suspended;
      calls = opened ∷ x.calls;
      closures = x.closures;
      moves = x.moves;
      machine = m;
      output = output;
    }

    abbrev newest : Entered
    newest = record { signature = site; event = begun.entry }

    entry_is : IsEntry base.standard base.top base.held calls_open (base.count + length events) ptr site args begun.entry
    entry_is =
        let h = is.between in
        let full : x.machine.sp + needs base.standard calls_open ≡ base.top = open_needs base.standard p.signatures base.held base.top x.machine x.calls calls_open x.machine.sp h.calls.stand in
        let number : length x.machine.events ≡ base.count + length events = ap (λ (l : List Event). length l) h.journal ∙ length-append first.events events ∙ ap (λ (k : ℕ). k + length events) (sym h.count) in
        subst (λ (k : ℕ). IsEntry base.standard base.top base.held calls_open k ptr site args begun.entry) number (begun.is_entry base.top base.held calls_open full h.calls.reserved)

    opens : open_calls_at p base (events ++ begun.entry ∷ []) (entered x.output) ≡ newest ∷ calls_open
    opens =
        opens_enter base.standard base.top base.held p.signatures sig (awaited base.bottom x.suspended) base.entries events begun.entry entry_is.kind

    need_is : need_at p sig ≡ need_of base.standard site
    need_is = ap (λ (f : Signature → ℕ). f site) is.between.needs

    pub lower : m.sp + need_at p sig ≡ x.machine.sp
    lower = ap (λ (k : ℕ). m.sp + k) need_is ∙ begun.sp

    stands : Stands base.standard newest m.sp m
    stands = begun.in_callee.stands

    -- the stack pointer where the innermost call was made is that of its caller
    caller_at : x.machine.sp ≡ caller_sp base.standard newest
    caller_at = sym begun.sp ∙ caller_above base.standard newest m.sp m stands

    others_stand : OpenStand base.standard p.signatures base.held base.top m x.calls calls_open (caller_sp base.standard newest)
    others_stand =
        let keeps : KeepsOpen base.standard x.machine.sp x.machine m = keeps_room base.standard x.machine.sp called.room x.machine m begun.keeps_open in
        let P = λ (sp : ℕ). OpenStand base.standard p.signatures base.held base.top m x.calls calls_open sp in
        subst P caller_at (open_kept base.standard p.signatures base.held base.top x.machine m x.machine.sp keeps begun.above x.calls calls_open x.machine.sp (omega arith) is.between.calls.stand)

    arguments_are : arguments_at p.signatures m (Some opened) ≡ args
    arguments_are =
        ap (λ (k : ℕ). arguments_in site.arguments (stack_at k (block_bytes site) m)) called.block_is ∙ begun.arguments_stand

    newest_stands : IsOpen base.standard p.signatures base.held m opened newest m.sp
    newest_stands =
        let P = λ (vs : List ValueTree). Own base.standard site vs begun.entry.image in
        record {
          below = called.below;
          signature = refl;
          stands = stands;
          reserved = entry_is.reserved;
          incoming = called.incoming_is;
          block = called.block_is;
          arguments = subst P (sym arguments_are) entry_is.holds.own;
        }

    -- the lines that tell the entry, where the run is traced
    abbrev pub told_lines : List ℕ
    told_lines = enter_lines first.tracing (text_after p base own) ptr site args

    pub told_lines_are : (trace : Bool) → IsTracingOf p base trace first.tracing → entry_lines trace base.standard site begun.entry args ≡ told_lines
    told_lines_are trace tracing =
        entry_lines_are p base all own events (position (asking x)) is.between.come first.tracing trace tracing ptr site args begun.entry entry_is

    steps_then : m.steps ≡ steps_after base.standard.target first.steps (own ++ Enter ptr sig args ∷ [])
    steps_then =
        count_enter base.standard.target first.steps own x.machine.target is.between.calls.target x.machine.steps m.steps is.between.steps ptr sig args begun.steps

    crossed : Crosses p base first own events x.closures (Enter ptr sig args) begun.entry m
    crossed = record {
      journal = begun.events ∙ ap (λ (l : List Event). l ++ begun.entry ∷ []) is.between.journal ∙ append_assoc first.events events (begun.entry ∷ []);
      steps = inl steps_then;
      mark = mark_enter base.top first.mark (deepest p (depth_below p base) own) x.machine.mark x.machine.sp m.sp m.mark depth (need_at p sig) (deepest p (depth_below p base) (own ++ Enter ptr sig args ∷ [])) lower is.between.deep begun.mark (deepest_enter p (depth_below p base) own ptr sig args) is.between.mark;
      target = begun.in_callee.target;
      holds = subst (λ (code : List ℕ). HoldsMap base.standard.target x.closures code) (sym begun.code) is.between.holds;
      -- nothing was written above the caller's stack pointer
      callers = let at : x.machine.sp + depth ≡ base.top = is.between.deep in
          callers_kept p base all first own events (position (asking x)) x.calls m (caller_sp base.standard newest) is.between.come is.between.outermost others_stand (λ address count over. begun.above address count (omega (arith, at, over)) ∙ is.between.found.above address count over);
    }

    -- THE CALLEE'S ACTIVATION IS THE INNERMOST, once the entry is told
    pub enters_on : (output : SinkState) → TookText told_lines x.output output → IsBetween p base all first (own ++ Enter ptr sig args ∷ []) (events ++ begun.entry ∷ []) (entered output)
    enters_on output told =
        let h = is.between in
        let deeper : depth_at p (depth_below p base) (own ++ Enter ptr sig args ∷ []) ≡ depth + need_at p sig = depth_at-append p (depth_below p base) own (Enter ptr sig args ∷ []) in
        let at : x.machine.sp + depth ≡ base.top = h.deep in
        let left : x.innermost.left + STACK ≡ x.machine.sp = h.left in
        let bottom : STACK ≤ m.sp = stands.bottom in
        let stand : OpenStand base.standard p.signatures base.held base.top m (opened ∷ x.calls) (newest ∷ calls_open) m.sp = (newest_stands, others_stand) in
        let room : length calls_open ≤ x.machine.spare_events = h.calls.room in
        let bytes : frames base.standard calls_open ≤ x.machine.spare_bytes = h.calls.bytes in
        let found_events : first.spare_events + length calls_open ≤ x.machine.spare_events = h.found.events in
        let found_bytes : first.spare_bytes + frames base.standard calls_open ≤ x.machine.spare_bytes = h.found.bytes in
        let room_then : m.spare_events + 1 ≡ x.machine.spare_events + 2 = begun.room in
        let bytes_then : m.spare_bytes + (base.standard.link + frame_of base.standard site) ≡ x.machine.spare_bytes + 2 * called.room = begun.bytes in
        let sized : called.room ≡ base.standard.link + frame_of base.standard site = called.sized in
        record {
          needs = h.needs;
          count = h.count;
          top = h.top;
          come = comes_in p base all own events x.innermost x.closures x.moves x.suspended ptr sig callee begun.entry h.come does_so entry_is;
          journal = crossed.journal;
          steps = steps_then;
          written = since_then first x.output output (text_so_far first.tracing p base own) told_lines h.written (text_so_far first.tracing p base (own ++ Enter ptr sig args ∷ [])) (text_then first.tracing p base own (Enter ptr sig args)) told;
          mark = crossed.mark;
          deep = omega (arith, deeper, lower, at);
          left = omega (arith, left, lower, bottom);
          calls = record {
            target = begun.in_callee.target;
            stand = subst (λ (l : List Entered). OpenStand base.standard p.signatures base.held base.top m (opened ∷ x.calls) l m.sp) (sym opens) stand;
            reserved = same_then_held base.standard.reserved begun.entry.image (image_of 0 m) base.held begun.in_callee.reserved entry_is.reserved;
            room = subst (λ (l : List Entered). length l ≤ m.spare_events) (sym opens) (omega (arith, room, room_then));
            bytes = subst (λ (l : List Entered). frames base.standard l ≤ m.spare_bytes) (sym opens) (omega (arith, bytes, bytes_then, sized));
          };
          holds = crossed.holds;
          known = h.known;
          few = omega (arith, h.few);
          others_few = (omega (arith, h.few), fewer x.moves x.suspended h.others_few);
          found = record {
            above = λ address count over. begun.above address count (omega (arith, at, over)) ∙ h.found.above address count over;
            events = subst (λ (l : List Entered). first.spare_events + length l ≤ m.spare_events) (sym opens) (omega (arith, found_events, room_then));
            bytes = subst (λ (l : List Entered). first.spare_bytes + frames base.standard l ≤ m.spare_bytes) (sym opens) (omega (arith, found_bytes, bytes_then, sized));
          };
          outermost = h.outermost;
        }

    -- or the run is interrupted there, in those lines or before them
    pub enters_cut : (why : IoError) (output : SinkState) → LineInterrupted told_lines x.output output why → WasInterruptedAfter p base all first own (suc x.moves) why x.closures x.moves m output
    enters_cut why output cut_off =
        crossing_cut p base all first own events x (Enter ptr sig args) begun.entry m (enters ptr sig callee) (rest p base.bottom (inside callee sig x.innermost x.suspended) x.closures x.moves).trace told_lines is.between crossed does_so refl why output cut_off (λ part proper. cut_in_entry p base all own events x.innermost x.suspended x.closures x.moves is.between.come first.tracing (is_in_line why) ptr sig callee begun.entry part does_so entry_is proper)

-- the innermost activation, the one that waits for its call, and those around it
module _ (p : Program) (base : Base) (all : Remainder) (first : Beginning) (own : List TraceItem) (events : List Event) (a caller : Activation) (c : OpenCall) (outer : List Suspended) (calls : List OpenCall) (closures : Closures) (moves : ℕ) (m : State) (output : SinkState) where
  abbrev pub inside_call : RunState
  inside_call = record {
    innermost = a;
    suspended = record { activation = caller; signature = c.sig } ∷ outer;
    calls = c ∷ calls;
    closures = closures;
    moves = moves;
    machine = m;
    output = output;
  }

  module _ (v : ValueTree) (is : IsAsking p base all first own events inside_call (return v)) (m' : State) (ended : HasEnded base.standard (signature_at p.signatures c.sig) v m m') where
    abbrev site_at_return : Signature
    site_at_return = signature_at p.signatures c.sig

    abbrev waiting : Suspended
    waiting = record { activation = caller; signature = c.sig }

    abbrev pub back : SinkState → RunState
    back output = record {
      innermost = with_result caller v;
      suspended = outer;
      calls = calls;
      closures = closures;
      moves = moves;
      machine = m';
      output = output;
    }

    abbrev depth_at_return : ℕ
    depth_at_return = depth_at p (depth_below p base) own

    found : (entry : Event) × (others : List Event) × (unreturned base.entries events ≡ entry ∷ others)
    found =
        innermost_entry p base all own events (position (asking inside_call)) waiting outer is.between.come refl

    abbrev newest_at_return : Entered
    newest_at_return = record { signature = site_at_return; event = found.0 }

    abbrev still_open : List Entered
    still_open = open_calls p.signatures (awaited base.bottom outer) found.1

    held : HoldsCalls base.standard p.signatures base.held base.top m (c ∷ calls) (newest_at_return ∷ still_open)
    held =
        let P = λ (l : List Event). HoldsCalls base.standard p.signatures base.held base.top m (c ∷ calls) (open_calls p.signatures (c.sig ∷ awaited base.bottom outer) l) in
        subst P found.2 is.between.calls

    found_held : KeepsFound base first (newest_at_return ∷ still_open) m
    found_held =
        let P = λ (l : List Event). KeepsFound base first (open_calls p.signatures (c.sig ∷ awaited base.bottom outer) l) m in
        subst P found.2 is.between.found

    returns : IsReturn base.standard newest_at_return v ended.return
    returns =
        ended.is_return found.0 (in_callee base.standard p.signatures base.held base.top m c calls newest_at_return still_open held)

    unreturned_then : unreturned base.entries (events ++ ended.return ∷ []) ≡ found.1
    unreturned_then = unreturned_leave base.entries events found.1 found.0 ended.return found.2 returns.kind

    opens_at_return : open_calls_at p base (events ++ ended.return ∷ []) (back output) ≡ still_open
    opens_at_return = ap (open_calls p.signatures (awaited base.bottom outer)) unreturned_then

    need_is_at_return : need_at p c.sig ≡ need_of base.standard site_at_return
    need_is_at_return = ap (λ (f : Signature → ℕ). f site_at_return) is.between.needs

    higher : m'.sp ≡ m.sp + need_at p c.sig
    higher = ended.sp ∙ ap (λ (k : ℕ). m.sp + k) (sym need_is_at_return)

    caller_at_at_return : caller_sp base.standard newest_at_return ≡ m'.sp
    caller_at_at_return = sym (caller_above base.standard newest_at_return m.sp m held.stand.0.stands) ∙ sym ended.sp

    others_stood : OpenStand base.standard p.signatures base.held base.top m calls still_open m'.sp
    others_stood =
        subst (λ (sp : ℕ). OpenStand base.standard p.signatures base.held base.top m calls still_open sp) caller_at_at_return held.stand.1

    others_stand_at_return : OpenStand base.standard p.signatures base.held base.top m' calls still_open m'.sp
    others_stand_at_return =
        open_kept base.standard p.signatures base.held base.top m m' m'.sp ended.keeps_open ended.above calls still_open m'.sp (omega arith) others_stood

    pub others_above : AreAbove m'.sp calls
    others_above =
        blocks_above base.standard p.signatures base.held base.top m m'.sp calls still_open m'.sp (omega arith) others_stood

    -- the lines that tell the return, where the run is traced
    abbrev pub told_lines_at_return : List ℕ
    told_lines_at_return = leave_lines first.tracing (text_after p base own).calls v

    pub told_lines_are_at_return : (trace : Bool) → IsTracingOf p base trace first.tracing → return_lines trace base.standard site_at_return ended.return v ≡ told_lines_at_return
    told_lines_are_at_return trace tracing =
        return_lines_are p base all own events (position (asking inside_call)) is.between.come first.tracing trace tracing site_at_return found.0 still_open v ended.return (ap (open_calls p.signatures (c.sig ∷ awaited base.bottom outer)) found.2) returns

    steps_then_at_return : m'.steps ≡ steps_after base.standard.target first.steps (own ++ Leave c.sig v ∷ [])
    steps_then_at_return =
        count_leave base.standard.target first.steps own m.target is.between.calls.target m.steps m'.steps is.between.steps c.sig v ended.steps

    come_then : (output' : SinkState) → HasComeTo p base all (own ++ Leave c.sig v ∷ []) (events ++ ended.return ∷ []) (position (back output'))
    come_then output' =
        comes_back p base all own events a closures moves waiting outer v found.0 ended.return found.1 is.between.come (ap (effect_of p a closures) is.asks) found.2 returns

    stand_then : OpenStand base.standard p.signatures base.held base.top m' calls (open_calls_at p base (events ++ ended.return ∷ []) (back output)) m'.sp
    stand_then =
        subst (λ (l : List Entered). OpenStand base.standard p.signatures base.held base.top m' calls l m'.sp) (sym opens_at_return) others_stand_at_return

    above_then : (address count : ℕ) → base.top ≤ address → stack_at address count m' ≡ take count (drop (address - STACK) first.stack)
    above_then address count over =
        let taken : depth_at_return ≡ need_at p c.sig + depth_of p (awaited base.bottom outer) = is.between.come.depth in
        let at : m.sp + depth_at_return ≡ base.top = is.between.deep in
        ended.above address count (omega (arith, over, higher, at, taken)) ∙ is.between.found.above address count over

    crossed_at_return : Crosses p base first own events closures (Leave c.sig v) ended.return m'
    crossed_at_return = record {
      journal = ended.events ∙ ap (λ (l : List Event). l ++ ended.return ∷ []) is.between.journal ∙ append_assoc first.events events (ended.return ∷ []);
      steps = inl steps_then_at_return;
      mark = mark_leave base.top first.mark (deepest p (depth_below p base) own) (deepest p (depth_below p base) (own ++ Leave c.sig v ∷ [])) m.mark m.sp m'.mark depth_at_return is.between.deep (ends_below p (depth_below p base) own) ended.mark (deepest_same p (depth_below p base) own (Leave c.sig v) (omega arith)) is.between.mark;
      target = ended.target ∙ is.between.calls.target;
      holds = subst (λ (code : List ℕ). HoldsMap base.standard.target closures code) (sym ended.code) is.between.holds;
      callers = callers_kept p base all first (own ++ Leave c.sig v ∷ []) (events ++ ended.return ∷ []) (position (back output)) calls m' m'.sp (come_then output) is.between.outermost stand_then above_then;
    }

    -- THE CALLER ACTS ON WITH THE RESULT, once the return is told
    pub returns_on : (output' : SinkState) → TookText told_lines_at_return output output' → IsBetween p base all first (own ++ Leave c.sig v ∷ []) (events ++ ended.return ∷ []) (back output')
    returns_on output' told =
        let h = is.between in
        let deeper : depth_at p (depth_below p base) (own ++ Leave c.sig v ∷ []) ≡ depth_at_return - need_at p c.sig = depth_at-append p (depth_below p base) own (Leave c.sig v ∷ []) in
        let taken : depth_at_return ≡ need_at p c.sig + depth_of p (awaited base.bottom outer) = h.come.depth in
        let at : m.sp + depth_at_return ≡ base.top = h.deep in
        let left : a.left + STACK ≡ m.sp = h.left in
        let nested : a.left + need_at p c.sig ≡ caller.left = h.come.nested.0 in
        let room : length (newest_at_return ∷ still_open) ≤ m.spare_events = held.room in
        let bytes : frame_of base.standard site_at_return + frames base.standard still_open ≤ m.spare_bytes = held.bytes in
        let few : length caller.results + suc moves ≤ most_moves = h.others_few.0 in
        let kept = found_held in
        let found_events : first.spare_events + length (newest_at_return ∷ still_open) ≤ m.spare_events = kept.events in
        let found_bytes : first.spare_bytes + (frame_of base.standard site_at_return + frames base.standard still_open) ≤ m.spare_bytes = kept.bytes in
        record {
          needs = h.needs;
          count = h.count;
          top = h.top;
          come = come_then output';
          journal = crossed_at_return.journal;
          steps = steps_then_at_return;
          written = since_then first output output' (text_so_far first.tracing p base own) told_lines_at_return h.written (text_so_far first.tracing p base (own ++ Leave c.sig v ∷ [])) (text_then first.tracing p base own (Leave c.sig v)) told;
          mark = crossed_at_return.mark;
          deep = omega (arith, deeper, higher, at, taken);
          left = omega (arith, left, nested, higher);
          calls = record {
            target = crossed_at_return.target;
            stand = stand_then;
            reserved = same_then_held base.standard.reserved (image_of 0 m) (image_of 0 m') base.held ended.reserved h.calls.reserved;
            room = subst (λ (l : List Entered). length l ≤ m'.spare_events) (sym opens_at_return) (omega (arith, room, ended.room));
            bytes = subst (λ (l : List Entered). frames base.standard l ≤ m'.spare_bytes) (sym opens_at_return) (omega (arith, bytes, ended.bytes));
          };
          holds = crossed_at_return.holds;
          known = h.known;
          few = omega (arith, length-append caller.results (v ∷ []), few);
          others_few = fewer moves outer h.others_few.1;
          found = record {
            above = above_then;
            events = subst (λ (l : List Entered). first.spare_events + length l ≤ m'.spare_events) (sym opens_at_return) (omega (arith, found_events, ended.room));
            bytes = subst (λ (l : List Entered). first.spare_bytes + frames base.standard l ≤ m'.spare_bytes) (sym opens_at_return) (omega (arith, found_bytes, ended.bytes));
          };
          outermost = h.outermost;
        }

    -- or the run is interrupted there, in those lines or before them
    pub returns_cut : (why : IoError) (output' : SinkState) → LineInterrupted told_lines_at_return output output' why → WasInterruptedAfter p base all first own (suc moves) why closures moves m' output'
    returns_cut why output' cut_off =
        crossing_cut p base all first own events inside_call (Leave c.sig v) ended.return m' (ends v) (rest p base.bottom (acts_on caller v outer) closures moves).trace told_lines_at_return is.between crossed_at_return (ap (effect_of p a closures) is.asks) refl why output' cut_off (λ part proper. cut_in_return p base all own events (is_in_line why) a waiting outer closures moves v found.0 ended.return found.1 first.tracing part is.between.come (ap (effect_of p a closures) is.asks) found.2 returns proper)
