-- A call that is served: it is accepted and its run begins; and the outermost activation returns, out of it or as main.
use Rattle.std.proofs.Common.{◌≡◌, ℕ, ◌+◌, ◌-◌, ◌<◌, ◌≤◌, ◌⊎◌, inl, inr, List, [], ◌∷◌, ◌++◌, length, Some, refl, sym, ap, ◌∙◌, subst, arith, append-nil, suc, true, get_or, None, append_assoc}
use Rattle.std.specs.List.{AllByRecursion}
use Rattle.std.specs.Prelude.{Bool, true, false, nat_lt}
use Rattle.std.proofs.lemmas.Bool.{lt-ltb, le-ltb, cases_lt}
use Rattle.ffi3_type_spec.specs.declared.limits.TheConstants.{STACK}
use Rattle.ffi3_type_spec.specs.declared.Target.{Target}
use Rattle.ffi3_type_spec.specs.Signature.{Signature, signature_at}
use Rattle.ffi3_type_spec.specs.Value.{ValueTree, fits}
use Rattle.ffi3_type_spec.proofs.Tests.{if_true, if_false}
use Rattle.ffi3_place_spec.specs.declared.Loc.{Loc}
use Rattle.ffi3_place_spec.specs.Event.{Event}
use Rattle.ffi3_place_spec.specs.Holds.{Own}
use Rattle.ffi3_place_spec.specs.Image.{Image, register}
use Rattle.ffi3_place_spec.specs.Scribble.{scribble}
use Rattle.ffi3_place_spec.specs.Standard.{Standard, block_bytes, frame_of, need_of, plan_of}
use Rattle.ffi3_semantics_spec.specs.declared.Closure.{Closure}
use Rattle.ffi3_semantics_spec.specs.Closures.{Closures}
use Rattle.ffi3_semantics_spec.specs.Lines.{Tracing, leave_lines}
use Rattle.ffi3_semantics_spec.specs.Meaning.{Program, function, need_at, most_moves, ends, returned, effect_of, next_move}
use Rattle.ffi3_small_step_spec.specs.Remainder.{Remainder, Bottom, as_main, served, before, only, rest, alone, awaited, awaited_below}
use Rattle.ffi3_small_step_spec.specs.SoFar.{Base, text_after, open_at}
use Rattle.ffi3_small_step_spec.specs.TracingOf.{IsTracingOf}
use Rattle.ffi3_small_step_spec.proofs.Coming.{comes_from, deepest_same, open_alone}
use Rattle.ffi3_machine_spec.specs.State.{State, after_enter, image_of, stack_at}
use Rattle.ffi3_machine_spec.specs.Slots.{HoldsMap}
use Rattle.ffi3_io_spec.specs.Sink.{SinkState}
use Rattle.ffi3_io_spec.specs.declared.IoError.{IoError}
use Rattle.ffi3_io.proofs.Writing.{took_nothing}
use Rattle.ffi3_semantics_spec.specs.SeenActivation.{arguments_in}
use Rattle.ffi3_machine_transfer.specs.Stored.{WroteWithin, with_journal_of}
use Rattle.ffi3_callee.specs.declared.Incoming.{Incoming}
use Rattle.ffi3_callee.specs.Received.{IsIncoming, IsReceived}
use Rattle.ffi3_invoke.specs.Calls.{IsInCallee, entry_at, HasReturned, return_at}
use Rattle.ffi3_invoke.proofs.Accepted.{counted}
use Rattle.ffi3_invoke.proofs.Stretches.{above_stays, mark_least}
use Rattle.ffi3_run_state.specs.declared.activation.OpenCall.{OpenCall}
use Rattle.ffi3_run_state.specs.Going.{activation_of}
use Rattle.ffi3_run_state.specs.Counted.{accepted_steps, steps_after, back_at_caller}
use Rattle.ffi3_run_state.specs.Known.{AreKnown}
use Rattle.ffi3_run_state.specs.Between.{Beginning, RunState, IsMarkOf, IsBetween, run_state_with, asking, position, text_so_far, depth_below, KeepsFound, IsAsking}
use Rattle.ffi3_run_state.specs.Activations.{acting, arguments_at}
use Rattle.ffi3_run_state.specs.Accepted.{WasInterruptedAtEntry}
use Rattle.ffi3_run_state.specs.TraceLines.{last_event, entry_lines, return_lines}
use Rattle.ffi3_io_spec.specs.Written.{LineInterrupted, TookText}
use Rattle.ffi3_run_state.proofs.Telling.{last_is, return_lines_are}
use Rattle.ffi3_run_state.specs.Served.{ShowsCall, served_leaves, served_tracing, served_activation, served_base, served_beginning, served_left, KeepsFrame, HasServed, HasLeft}
use Rattle.ffi3_run_state.proofs.Opened.{same_then_held, in_callee}
use Rattle.ffi3_type_spec.specs.Tree.{Tree, void}
use Rattle.ffi3_type_spec.specs.Layout.{size_of}
use Rattle.ffi3_place_spec.specs.declared.Res.{Res}
use Rattle.ffi3_place_spec.specs.declared.Res.TheVariants.{Nothing, Direct, Hidden}
use Rattle.ffi3_semantics_spec.specs.Journal.{Entered, IsReturn}
use Rattle.ffi3_semantics_spec.specs.Move.{return}
use Rattle.ffi3_semantics_spec.specs.Trace.{TraceItem, Leave}
use Rattle.ffi3_small_step_spec.specs.SmallStep.{returns_out}
use Rattle.ffi3_small_step_spec.specs.Path.{happens_in}
use Rattle.ffi3_small_step_spec.specs.Depth.{deepest}
use Rattle.ffi3_small_step_spec.specs.Nested.{depth_at}
use Rattle.ffi3_small_step_spec.specs.Open.{open_calls}
use Rattle.ffi3_small_step_spec.proofs.Steps.{rest_leaves}
use Rattle.ffi3_small_step_spec.proofs.Depths.{ends_below}
use Rattle.ffi3_callee.specs.Answered.{IsBesideResult}
use Rattle.ffi3_callee.specs.Given.{ResultWrites}
use Rattle.ffi3_invoke.proofs.Returned.{result_within}
use Rattle.ffi3_run_state.specs.declared.activation.Activation.{Activation}
use Rattle.ffi3_run_state.specs.declared.configuration.Configuration.{Configuration}
use Rattle.ffi3_run_state.specs.Outermost.{AreEntriesOf}
use Rattle.ffi3_run_state.specs.Stack.{caller_sp, IsOpen, OpenStand, HoldsCalls}
use Rattle.ffi3_run_state.specs.Turned.{IsEnded, TurnIsDone, WasInterruptedAfter, is_in_line, last_return}
use Rattle.ffi3_run_state.proofs.Callers.{byte_of_part}
use Rattle.ffi3_run_state.proofs.Configuring.{void_is}
use Rattle.ffi3_run_state.proofs.Counting.{count_served}
use Rattle.ffi3_run_state.proofs.Marks.{mark_leave, text_then}
use Rattle.ffi3_run_state.proofs.Crossing.{Crosses, crossing_cut}
use Rattle.ffi3_run_state.proofs.Moving.{main_ends, main_is_last}
use Rattle.ffi3_run_state.proofs.Since.{since_then}
use Rattle.ffi3_small_step_spec.proofs.Ending as ending

-- registers hold what they hold
hold_themselves : (m : Image) (locs : List Loc) → AllByRecursion (λ at. register m at ≡ register m at) locs
hold_themselves m [] = tt
hold_themselves m (at ∷ locs) = (refl, hold_themselves m locs)

-- the mark, once the callee has its save area and block
mark_begins : (top first sp block need mark : ℕ) → block + need ≡ top → (first ≤ mark) ⊎ (block ≤ mark) → IsMarkOf top first (need + 0) mark
mark_begins top first sp block need mark is (inl h) = inl h
mark_begins top first sp block need mark is (inr h) = inr (omega (arith, is, h))

mark_at_entry : (top first block need need' mark : ℕ) → block + need ≡ top → need ≡ need' → (first ≤ mark) ⊎ (block ≤ mark) → (first ≤ mark) ⊎ (top ≤ mark + need')
mark_at_entry top first block need need' mark is same (inl h) = inl h
mark_at_entry top first block need need' mark is same (inr h) = inr (omega (arith, is, same, h))

-- ---- how its run is traced

all_hold : (P : Loc → Type 0) → ((at : Loc) → P at) → (locs : List Loc) → AllByRecursion P locs
all_hold P h [] = tt
all_hold P h (at ∷ locs) = (h at, all_hold P h locs)

pub served_is_traced : (p : Program) (std : Standard) (closure : Closure) (arguments : List ValueTree) (m : State) (closures : Closures) (moves : ℕ) (trace : Bool) → IsTracingOf p (served_base std p closure arguments m closures moves) trace (served_tracing trace std p.signatures closure.sig m)
served_is_traced p std closure arguments m closures moves false = refl
served_is_traced p std closure arguments m closures moves true =
    let s = signature_at p.signatures closure.sig in
    let entry = entry_at std s m in
    let count = length m.events + 1 in
    let leaves = served_leaves entry count in
    let before : (at : Loc) → register entry.image at ≡ leaves (count - 1) at = λ at. sym (if_true (nat_lt (count - 1) count) (register entry.image at) (scribble (count - 1) at) (lt-ltb (count - 1) count (omega arith))) in (
      leaves,
      refl,
      record {
        later = λ n at past. if_false (nat_lt n count) (register entry.image at) (scribble n at) (le-ltb n count past);
        open_calls = (
          record {
            signature = refl;
            sp = omega arith;
            preserved = all_hold (λ (at : Loc). register entry.image at ≡ leaves (count - 1) at) before std.callee_saved;
          },
          tt,
        );
      },
    )

-- a call that was accepted: its entry is recorded and counted, its callee has its save area and block, and remembers what it is to give back
pub record WasAccepted (std : Standard) (s : Signature) (m m' : State) (incoming : Incoming) : Type 0 where
  pub events : m'.events ≡ m.events ++ entry_at std s m ∷ []
  pub received : IsReceived std s (after_enter (std.link + frame_of std s) m) m'
  pub incoming_is : IsIncoming std s incoming
  pub block : incoming.block ≡ m'.sp
  pub sp : m'.sp + block_bytes s + std.save ≡ m.sp
  pub within : WroteWithin m'.sp m.sp m (with_journal_of m m')
  pub steps : m'.steps ≡ accepted_steps m.target m.steps
  pub spare_events : m'.spare_events + 1 ≡ m.spare_events
  pub spare_bytes : m'.spare_bytes + (std.link + frame_of std s) ≡ m.spare_bytes
  pub in_callee : IsInCallee std (record { signature = s; event = entry_at std s m }) m'

module _ (p : Program) (std : Standard) (closure : Closure) (arguments : List ValueTree) (m m' : State) (incoming : Incoming) (output : SinkState) (closures : Closures) (moves : ℕ) (tracing : Tracing) where
  abbrev s : Signature
  s = signature_at p.signatures closure.sig

  abbrev base : Base
  base = served_base std p closure arguments m closures moves

  abbrev all : Remainder
  all = served_left std p closure arguments m closures moves

  abbrev first : Beginning
  first = served_beginning std s m output tracing

  abbrev accepted_call : OpenCall
  accepted_call = record { sig = closure.sig; incoming = incoming }

  abbrev start : RunState
  start = record {
    innermost = served_activation std p.signatures closure arguments m;
    suspended = [];
    calls = accepted_call ∷ [];
    closures = closures;
    moves = moves;
    machine = m';
    output = output;
  }

  module _ (needs : p.need ≡ need_of std) (below : closure.sig < length p.signatures) (shows : ShowsCall std s arguments m) (holds : HoldsMap m.target closures m.code) (known : AreKnown p closures) (few : moves ≤ most_moves) (accepted : WasAccepted std s m m' incoming) where
    need_is : need_at p closure.sig ≡ need_of std s
    need_is = ap (λ (f : Signature → ℕ). f s) needs

    whole : m'.sp + need_at p closure.sig ≡ m.sp + std.link + frame_of std s
    whole =
        let need : need_of std s ≡ frame_of std s + std.link + std.save + block_bytes s = refl in
        let same = need_is in
        omega (arith, need, same, accepted.sp)

    holds_still : HoldsMap std.target closures m'.code
    holds_still =
        let P = λ (t : Target). HoldsMap t closures m'.code in
        let Q = λ (code : List ℕ). HoldsMap m.target closures code in
        subst P shows.target (subst Q (sym accepted.within.code) holds)

    -- the arguments in its block are those that its entry shows
    given : arguments_at p.signatures m' (Some accepted_call) ≡ arguments
    given =
        ap (λ (k : ℕ). arguments_in s.arguments (stack_at k (block_bytes s) m')) accepted.block ∙ accepted.received.values arguments shows.owns

    owned : Own std s (arguments_at p.signatures m' (Some accepted_call)) (entry_at std s m).image
    owned =
        subst (λ (vs : List ValueTree). Own std s vs (entry_at std s m).image) (sym given) shows.owns

    -- ITS RUN BEGINS
    begins : IsBetween p base all first [] [] start
    begins =
        let room : STACK + std.save + block_bytes s ≤ m.sp = shows.room in
        let two : 2 ≤ m.spare_events = shows.events in
        let enough : std.link + frame_of std s + frame_of std s ≤ m.spare_bytes = shows.bytes in
        let at = whole in
        let own_room : 1 ≤ m'.spare_events = accepted.in_callee.room in
        let own_bytes : frame_of std s ≤ m'.spare_bytes = accepted.in_callee.bytes in
        record {
          needs = needs;
          count = sym (counted m.events (entry_at std s m));
          top = shows.frame;
          come = comes_from p base (served_activation std p.signatures closure arguments m) closures moves refl refl;
          journal = accepted.events ∙ sym (append-nil (m.events ++ entry_at std s m ∷ []));
          steps = accepted.steps;
          written = record { told = omega arith; took = took_nothing output };
          mark = mark_begins base.top m.mark m.sp m'.sp (need_at p closure.sig) m'.mark at accepted.within.mark;
          deep = omega (arith, at);
          left = omega (arith, room, accepted.sp);
          calls = record {
            target = accepted.in_callee.target;
            stand = (
              record {
                below = below;
                signature = refl;
                stands = accepted.in_callee.stands;
                reserved = hold_themselves (entry_at std s m).image std.reserved;
                incoming = accepted.incoming_is;
                block = accepted.block;
                arguments = owned;
              },
              refl,
            );
            reserved = same_then_held std.reserved (entry_at std s m).image (image_of 0 m') base.held accepted.in_callee.reserved (hold_themselves (entry_at std s m).image std.reserved);
            room = omega (arith, own_room);
            bytes = omega (arith, own_bytes);
          };
          holds = holds_still;
          known = known;
          few = omega (arith, few);
          others_few = tt;
          found = record {
            above = λ address count over. above_stays m'.sp m.sp m (with_journal_of m m') accepted.within address count (omega (arith, over, room)) (omega (arith, over));
            events = omega (arith, accepted.spare_events, two);
            bytes = omega (arith, accepted.spare_bytes, enough);
          };
          outermost = (entry_at std s m, refl);
        }

    -- the lines of the entry, where the run is traced
    pub entry_told : (trace : Bool) → entry_lines trace std s (last_event m'.events) (arguments_in s.arguments (stack_at m'.sp (block_bytes s) m')) ≡ entry_lines trace std s (entry_at std s m) arguments
    entry_told trace =
        let last : last_event m'.events ≡ entry_at std s m = ap last_event accepted.events ∙ last_is m.events (entry_at std s m) in
        ap (λ (e : Event). entry_lines trace std s e (arguments_in s.arguments (stack_at m'.sp (block_bytes s) m'))) last
        ∙ ap (λ (l : List ValueTree). entry_lines trace std s (entry_at std s m) l) (accepted.received.values arguments shows.owns)

    -- where they are interrupted
    pub cut_at_entry : (trace : Bool) (why : IoError) (output' : SinkState) → LineInterrupted (entry_lines trace std s (entry_at std s m) arguments) output output' why → WasInterruptedAtEntry std s arguments trace why m m' output output'
    cut_at_entry trace why output' lines =
        let room : STACK + std.save + block_bytes s ≤ m.sp = shows.room in
        record {
          journal = accepted.events;
          lines = lines;
          mark = mark_at_entry (m.sp + std.link + frame_of std s) m.mark m'.sp (need_at p closure.sig) (need_of std s) m'.mark whole need_is accepted.within.mark;
          steps = accepted.steps;
          target = accepted.within.target ∙ shows.target;
          code = accepted.within.code;
          stack = λ address count over. above_stays m'.sp m.sp m (with_journal_of m m') accepted.within address count (omega (arith, over, room)) over;
        }

    module _ {S : Type 0} (standing : S) where
      acts : acting p.signatures m' (Some accepted_call) (activation_of closure standing) ≡ served_activation std p.signatures closure arguments m
      acts =
          let left : incoming.block - STACK ≡ m.sp - std.save - block_bytes s - STACK = omega (arith, accepted.block, accepted.sp) in
          λ i. record { who = function closure.func; arguments = given i; user = closure.user; left = left i; results = [] }

      -- on a configuration where nothing waits
      pub served_begins : IsBetween p base all first [] [] (run_state_with p.signatures (Some accepted_call) [] closures moves m' output (activation_of closure standing))
      served_begins =
          let same : run_state_with p.signatures (Some accepted_call) [] closures moves m' output (activation_of closure standing) ≡ start =
          λ i. record { innermost = acts i; suspended = []; calls = accepted_call ∷ []; closures = closures; moves = moves; machine = m'; output = output } in
          subst (λ (x : RunState). IsBetween p base all first [] [] x) (sym same) begins

-- ---- which activation is the outermost

module _ (std : Standard) (ss : List Signature) (held : Loc → ℕ) (top : ℕ) (m : State) where
  -- main, where it answers to no call
  main_below : (bottom : Bottom) (entries : List Event) → AreEntriesOf bottom entries → OpenStand std ss held top m [] (open_calls ss (awaited bottom []) entries) m.sp → (bottom ≡ as_main) × (m.sp ≡ top)
  main_below as_main entries are h = (refl, h)
  main_below (served sig) [] are h = let none = are.1 in cc
  main_below (served sig) (e ∷ entries) are h = elim h [ ]

  -- and else the function of the call that is served
  pub record Below (c : OpenCall) (bottom : Bottom) (entries : List Event) : Type 0 where
    pub sig : ℕ
    pub entry : Event
    pub serving : bottom ≡ served sig
    pub first : entries ≡ entry ∷ []
    pub is_open : IsOpen std ss held m c (record { signature = signature_at ss sig; event = entry }) m.sp
    pub top_is : caller_sp std (record { signature = signature_at ss sig; event = entry }) ≡ top

  served_below : (c : OpenCall) (bottom : Bottom) (entries : List Event) → AreEntriesOf bottom entries → OpenStand std ss held top m (c ∷ []) (open_calls ss (awaited bottom []) entries) m.sp → Below c bottom entries
  served_below c as_main entries are h = elim h [ ]
  served_below c (served sig) [] are h = elim h [ ]
  served_below c (served sig) (e ∷ []) are h =
      record { sig = sig; entry = e; serving = refl; first = refl; is_open = h.0; top_is = h.1 }
  served_below c (served sig) (e ∷ f ∷ entries) are h = let none = are.1 in cc

-- ---- what a result leaves of the stack

outside_stretch : (low high : ℕ) (a b : State) (address : ℕ) → WroteWithin low high a b → STACK ≤ address → (address < low) ⊎ (high ≤ address) → get_or b.stack (address - STACK) 0 ≡ get_or a.stack (address - STACK) 0
outside_stretch low high a b address w inside (inl far) = w.outside (address - STACK) (inl (omega (arith, inside, far)))
outside_stretch low high a b address w inside (inr far) = w.outside (address - STACK) (inr (omega (arith, inside, far)))

outside_result : (base : ℕ) (t : Tree) (res : Res) (a b : State) (address : ℕ) → ResultWrites base t res a b → STACK ≤ address → IsBesideResult base t res address → get_or b.stack (address - STACK) 0 ≡ get_or a.stack (address - STACK) 0
outside_result base t Nothing a b address w inside far = outside_stretch base base a b address w inside (cases_lt address base)
outside_result base t (Direct pieces) a b address w inside far = outside_stretch base base a b address w inside (cases_lt address base)
outside_result base t (Hidden at buffer) a b address w inside far = outside_stretch (base + buffer) (base + buffer + size_of t) a b address w inside far

-- ---- the return

-- what the outermost return comes to
pub record Returns (p : Program) (base : Base) (all : Remainder) (first : Beginning) (own : List TraceItem) (closures : Closures) (moves : ℕ) (output : SinkState) (v : ValueTree) (m : State) : Type 0 where
  pub last : all.trace ≡ own ++ last_return base.bottom v
  pub ended : IsEnded p base all first (returned v) closures moves m output
  pub left : HasLeft p base first base.bottom base.entries v m
  pub known : AreKnown p closures
  pub few : moves ≤ most_moves

module _ {S : Type 0} (p : Program) (base : Base) (all : Remainder) (first : Beginning) (own : List TraceItem) (events : List Event) (closures : Closures) (moves : ℕ) (m : State) (output : SinkState) (current : Activation S) (v : ValueTree) where
  module _ (asks : IsAsking p base all first own events (run_state_with p.signatures None [] closures moves m output current) (return v)) (it : fits void v ≡ true) where
    -- MAIN RETURNS
    pub main_returns : Returns p base all first own closures moves output v m
    main_returns =
        let x : RunState = run_state_with p.signatures None [] closures moves m output current in
        let h = asks.between in
        let calls : open_at p base [] events ≡ open_at p base [] [] = open_alone p base all own events (position (asking x)) h.come refl in
        let P = λ (l : List Entered). OpenStand base.standard p.signatures base.held base.top m [] l m.sp in
        let below = main_below base.standard p.signatures base.held base.top m base.bottom base.entries h.outermost (subst P calls h.calls.stand) in
        let few : length current.results + suc moves ≤ most_moves = h.few in
        record {
          last = subst (λ (b : Bottom). all.trace ≡ own ++ last_return b v) (sym below.0) (main_is_last p base all first own events x (return v) asks v refl refl below.0);
          ended = main_ends p base all first own events x (return v) asks v refl refl below.0;
          left = subst (λ (b : Bottom). HasLeft p base first b base.entries v m) (sym below.0) (void_is v it, below.1);
          known = h.known;
          few = omega (arith, few);
        }

  module _ (c : OpenCall) (asks : IsAsking p base all first own events (run_state_with p.signatures (Some c) [] closures moves m output current) (return v)) where
    abbrev x : RunState
    x = run_state_with p.signatures (Some c) [] closures moves m output current

    alone_open : open_at p base [] events ≡ open_at p base [] []
    alone_open = open_alone p base all own events (position (asking x)) asks.between.come refl

    below : Below base.standard p.signatures base.held base.top m c base.bottom base.entries
    below =
        let P = λ (l : List Entered). OpenStand base.standard p.signatures base.held base.top m (c ∷ []) l m.sp in
        served_below base.standard p.signatures base.held base.top m c base.bottom base.entries asks.between.outermost (subst P alone_open asks.between.calls.stand)

    abbrev site : Signature
    site = signature_at p.signatures below.sig

    abbrev call : Entered
    call = record { signature = site; event = below.entry }

    calls_are : open_at p base [] events ≡ call ∷ []
    calls_are =
        alone_open
        ∙ ap (λ (b : Bottom). open_calls p.signatures (awaited_below b) base.entries) below.serving
        ∙ ap (open_calls p.signatures (below.sig ∷ [])) below.first

    held_calls : HoldsCalls base.standard p.signatures base.held base.top m (c ∷ []) (call ∷ [])
    held_calls =
        subst (λ (l : List Entered). HoldsCalls base.standard p.signatures base.held base.top m (c ∷ []) l) calls_are asks.between.calls

    found_calls : KeepsFound base first (call ∷ []) m
    found_calls = subst (λ (l : List Entered). KeepsFound base first l m) calls_are asks.between.found

    in_call : IsInCallee base.standard call m
    in_call = in_callee base.standard p.signatures base.held base.top m c [] call [] held_calls

    does : effect_of p x.innermost closures (next_move p x.innermost) ≡ ends v
    does = ap (effect_of p x.innermost closures) asks.asks

    trace_is : all.trace ≡ own ++ Leave below.sig v ∷ []
    trace_is =
        let Q = λ (b : Bottom). rest p b (alone x.innermost) closures (suc moves) ≡ only (Leave below.sig v ∷ []) (returned v) closures moves in
        let left : rest p base.bottom (alone x.innermost) closures (suc moves) ≡ only (Leave below.sig v ∷ []) (returned v) closures moves = subst Q (sym below.serving) (rest_leaves p x.innermost below.sig closures moves v does) in
        let done : all ≡ before own (only (Leave below.sig v ∷ []) (returned v) closures moves) = asks.between.come.follows ∙ ap (before own) left in
        ap (λ (l : Remainder). l.trace) done

    module _ (m' : State) (given : HasReturned base.standard (signature_at p.signatures c.sig) v m m') where
      back : HasReturned base.standard site v m m'
      back =
          let same : site ≡ signature_at p.signatures c.sig = below.is_open.signature in
          subst (λ (s : Signature). HasReturned base.standard s v m m') (sym same) given

      abbrev leaving : Event
      leaving = return_at base.standard site m'

      is_return : IsReturn base.standard call v leaving
      is_return = back.is_return below.entry in_call

      within : WroteWithin m'.sp (m'.sp + frame_of base.standard site) m (with_journal_of m m')
      within =
          result_within base.standard site m'.sp (plan_of base.standard site).res m (with_journal_of m m') refl back.writes

      sp_is : m'.sp ≡ below.entry.image.sp + base.standard.link
      sp_is =
          let place : m.sp + block_bytes site + base.standard.save ≡ below.entry.image.sp = below.is_open.stands.place in
          let sp = back.sp in
          omega (arith, place, sp)

      inside : STACK ≤ below.entry.image.sp
      inside =
          let place : m.sp + block_bytes site + base.standard.save ≡ below.entry.image.sp = below.is_open.stands.place in
          let bottom : STACK ≤ m.sp = below.is_open.stands.bottom in
          omega (arith, place, bottom)

      -- THE SERVED CALL HAS RETURNED
      call_served : HasServed base first call v m'
      call_served =
          let top : below.entry.image.sp + base.standard.link + frame_of base.standard site ≡ base.top = below.top_is in
          let at = sp_is in
          let low = inside in
          let found_events : first.spare_events + length (call ∷ []) ≤ m.spare_events = found_calls.events in
          let found_bytes : first.spare_bytes + (frame_of base.standard site + 0) ≤ m.spare_bytes = found_calls.bytes in
          let room = back.room in
          let bytes = back.bytes in
          record {
            is_return = is_return;
            pc = back.pc;
            sp = sp_is;
            frame = λ i below_frame outside. outside_result m'.sp site.result_type (plan_of base.standard site).res m (with_journal_of m m') (below.entry.image.sp + i) back.writes (omega (arith, low)) outside ∙ byte_of_part m below.entry.image.sp (base.standard.link + frame_of base.standard site) i below.entry.image.stack inside below_frame below.is_open.stands.frame;
            found = record {
              above = λ address count over. above_stays m'.sp (m'.sp + frame_of base.standard site) m (with_journal_of m m') within address count (omega (arith, over, top, low)) (omega (arith, over, top, at)) ∙ found_calls.above address count over;
              events = omega (arith, found_events, room);
              bytes = omega (arith, found_bytes, bytes);
            };
          }

      -- the lines that tell the return, where the run is traced
      abbrev pub told_lines : List ℕ
      told_lines = leave_lines first.tracing (text_after p base own).calls v

      pub lines_told : (trace : Bool) → IsTracingOf p base trace first.tracing → return_lines trace base.standard (signature_at p.signatures c.sig) (last_event m'.events) v ≡ told_lines
      lines_told trace tracing =
          let same : site ≡ signature_at p.signatures c.sig = below.is_open.signature in
          let last : last_event m'.events ≡ leaving = ap last_event back.events ∙ last_is m.events leaving in
          ap (λ (s : Signature). return_lines trace base.standard s (last_event m'.events) v) (sym same)
          ∙ ap (λ (e : Event). return_lines trace base.standard site e v) last
          ∙ return_lines_are p base all own events (position (asking x)) asks.between.come first.tracing trace tracing site below.entry [] v leaving calls_are is_return

      -- its caller has yet to run Return
      steps_then : back_at_caller base.standard.target base.bottom m'.steps ≡ steps_after base.standard.target first.steps (own ++ Leave below.sig v ∷ [])
      steps_then =
          let C = λ (b : Bottom). back_at_caller base.standard.target b m'.steps ≡ steps_after base.standard.target first.steps (own ++ Leave below.sig v ∷ []) in
          subst C (sym below.serving) (count_served base.standard.target first.steps own m.target asks.between.calls.target m.steps m'.steps asks.between.steps below.sig v back.steps)

      crossed : Crosses p base first own events closures (Leave below.sig v) leaving m'
      crossed = record {
        journal = back.events ∙ ap (λ (l : List Event). l ++ leaving ∷ []) asks.between.journal ∙ append_assoc first.events events (leaving ∷ []);
        steps = inr steps_then;
        mark = let sp = back.sp in
            let w = within in
            let least = mark_least m'.sp m.mark m'.mark w.mark in
            mark_leave base.top first.mark (deepest p (depth_below p base) own) (deepest p (depth_below p base) (own ++ Leave below.sig v ∷ [])) m.mark m.sp m'.mark (depth_at p (depth_below p base) own) asks.between.deep (ends_below p (depth_below p base) own) (omega (arith, least, sp)) (deepest_same p (depth_below p base) own (Leave below.sig v) (omega arith)) asks.between.mark;
        target = within.target ∙ asks.between.calls.target;
        holds = subst (λ (code : List ℕ). HoldsMap base.standard.target closures code) (sym within.code) asks.between.holds;
        callers = let F = λ (b : Bottom). KeepsFrame base.standard p.signatures b base.entries m'.stack in
            let G = λ (l : List Event). KeepsFrame base.standard p.signatures (served below.sig) l m'.stack in
            let B = λ (i : ℕ) (n : ℕ). IsBesideResult n site.result_type (plan_of base.standard site).res (below.entry.image.sp + i) in
            let frame : G (below.entry ∷ []) = λ i inside_frame outside. call_served.frame i inside_frame (subst (B i) (sym sp_is) outside) in
            record {
              above = call_served.found.above;
              frame = subst F (sym below.serving) (subst G (sym below.first) frame);
            };
      }

      served_ended : (output' : SinkState) → TookText told_lines output output' → IsEnded p base all first (returned v) closures moves m' output'
      served_ended output' told =
          let h = asks.between in
          let M = λ (l : List TraceItem). IsMarkOf base.top first.mark (deepest p (depth_below p base) l) m'.mark in
          record {
            events = events ++ leaving ∷ [];
            over = ending.served_ends p base all own events x.innermost closures moves v h.come does below.sig below.entry leaving below.serving below.first is_return;
            journal = crossed.journal;
            steps = steps_then ∙ ap (λ (l : List TraceItem). steps_after base.standard.target first.steps l) (sym trace_is);
            written = (since_then first output output' (text_so_far first.tracing p base own) told_lines h.written (text_so_far first.tracing p base all.trace) (ap (text_so_far first.tracing p base) trace_is ∙ text_then first.tracing p base own (Leave below.sig v)) told).took;
            mark = subst M (sym trace_is) crossed.mark;
            target = crossed.target;
            reserved = same_then_held base.standard.reserved (image_of 0 m) (image_of 0 m') base.held back.reserved h.calls.reserved;
            holds = crossed.holds;
            callers = crossed.callers;
          }

      -- THE SERVED CALL RETURNS, once the return is told
      pub served_returns : (output' : SinkState) → TookText told_lines output output' → Returns p base all first own closures moves output' v m'
      served_returns output' told =
          let few : length current.results + suc moves ≤ most_moves = asks.between.few in
          let P = λ (l : List Event). HasLeft p base first (served below.sig) l v m' in
          record {
            last = subst (λ (b : Bottom). all.trace ≡ own ++ last_return b v) (sym below.serving) trace_is;
            ended = served_ended output' told;
            left = subst (λ (b : Bottom). HasLeft p base first b base.entries v m') (sym below.serving) (subst P (sym below.first) call_served);
            known = asks.between.known;
            few = omega (arith, few);
          }

      -- or the run is interrupted there, in those lines or before them
      pub served_cut : (why : IoError) (output' : SinkState) → LineInterrupted told_lines output output' why → WasInterruptedAfter p base all first own (suc moves) why closures moves m' output'
      served_cut why output' cut_off =
          crossing_cut p base all first own events x (Leave below.sig v) leaving m' (ends v) [] told_lines asks.between crossed does (ap (λ (bottom : Bottom). happens_in (returns_out bottom closures v)) below.serving) why output' cut_off (λ part proper. ending.cut_in_served_return p base all own events x.innermost closures moves v asks.between.come does below.sig below.entry leaving below.serving below.first is_return (is_in_line why) first.tracing part proper)

-- THE RUN IS DONE, on a configuration that has none of the activations
pub is_done : {S : Type 0} (p : Program) (base : Base) (all : Remainder) (first : Beginning) (own : List TraceItem) (v : ValueTree) (m : State) (output : SinkState) (b : Configuration S) → b.innermost ≡ None → b.suspended.items ≡ [] → b.served ≡ None → Returns p base all first own b.table b.moves output v m → TurnIsDone p base all first own (suc b.moves) b m output
is_done p base all first own v m output b taken alone unserved h = record {
  done = record {
    result = v;
    ended = h.ended;
    left = h.left;
    idle = record { innermost = taken; suspended = alone; served = unserved; known = h.known; few = h.few };
  };
  last = h.last;
  counted = refl;
}
