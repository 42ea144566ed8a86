-- A run between two moves.
use Rattle.std.specs.Prelude.{◌≡◌, ℕ, suc, ◌+◌, ◌-◌, ◌≤◌, ◌⊎◌, ⊤, List, [], ◌∷◌, ◌++◌, length, take, drop, reverse}
use Rattle.std.specs.Prelude.{Option}
use Rattle.ffi3_type_spec.specs.declared.limits.TheConstants.{STACK, STACK_TOP}
use Rattle.ffi3_type_spec.specs.Signature.{Signature}
use Rattle.ffi3_place_spec.specs.Event.{Event}
use Rattle.ffi3_place_spec.specs.Standard.{need_of}
use Rattle.ffi3_semantics_spec.specs.Closures.{Closures}
use Rattle.ffi3_semantics_spec.specs.Journal.{Entered}
use Rattle.ffi3_semantics_spec.specs.Lines.{Tracing, text}
use Rattle.ffi3_semantics_spec.specs.Meaning as meaning
use Rattle.ffi3_semantics_spec.specs.Meaning.{Program, most_moves, next_move}
use Rattle.ffi3_semantics_spec.specs.Move.{Move}
use Rattle.ffi3_semantics_spec.specs.Trace.{TraceItem}
use Rattle.ffi3_small_step_spec.specs.Remainder.{Remainder, Suspended, awaited}
use Rattle.ffi3_small_step_spec.specs.Depth.{deepest}
use Rattle.ffi3_small_step_spec.specs.Nested.{depth_at, depth_of}
use Rattle.ffi3_small_step_spec.specs.SoFar.{Base, text_start, open_at, HasComeTo}
use Rattle.ffi3_small_step_spec.specs.Path.{Position}
use Rattle.ffi3_machine_spec.specs.State.{State, stack_at}
use Rattle.ffi3_machine_spec.specs.Slots.{HoldsMap}
use Rattle.ffi3_io_spec.specs.Sink.{SinkState}
use Rattle.ffi3_io_spec.specs.Written.{TookText}
use Rattle.ffi3_run_state.specs.declared.activation.OpenCall.{OpenCall}
use Rattle.ffi3_run_state.specs.declared.activation.Activation.{Activation}
use Rattle.ffi3_run_state.specs.declared.activation.Waiting.{Waiting}
use Rattle.ffi3_run_state.specs.declared.configuration.Configuration.{Configuration}
use Rattle.ffi3_run_state.specs.Known.{AreKnown}
use Rattle.ffi3_run_state.specs.Outermost.{AreEntriesOf}
use Rattle.ffi3_run_state.specs.Counted.{steps_after}
use Rattle.ffi3_run_state.specs.Activations.{acting, call_inside, suspended_at, calls_of}
use Rattle.ffi3_run_state.specs.Stack.{HoldsCalls, frames}

-- what a run found as it began: the journal, the mark, the count of steps, what the output had taken, the stack, and the room in the journal beside that for the returns of the calls that were open; and how it is traced. The output may be looked at later than that, once so many bytes of the run's text were told.
pub record Beginning : Type 0 where
  pub events : List Event
  pub mark : ℕ
  pub steps : ℕ
  pub told : ℕ
  pub output : SinkState
  pub stack : List ℕ
  pub spare_events : ℕ
  pub spare_bytes : ℕ
  pub tracing : Tracing

-- what stands between two moves
pub record RunState : Type 0 where
  pub innermost : meaning.Activation
  pub suspended : List Suspended
  pub calls : List OpenCall
  pub closures : Closures
  pub moves : ℕ
  pub machine : State
  pub output : SinkState

-- before the move that was counted last
abbrev pub asking : RunState → RunState
asking x = record x { moves = suc x.moves }

abbrev pub position : RunState → Position
position x = record {
  call_stack = record { innermost = x.innermost; suspended = x.suspended };
  closures = x.closures;
  moves = x.moves;
}

-- what is done of a run's text
abbrev pub text_so_far : Tracing → Program → Base → List TraceItem → List ℕ
text_so_far tracing p base own = text tracing p.signatures (text_start p base) own

-- THE OUTPUT TOOK THE TEXT since it was looked at
pub record TookSince (first : Beginning) (so_far : List ℕ) (output : SinkState) : Type 0 where
  pub told : first.told ≤ length so_far
  pub took : TookText (drop first.told so_far) first.output output

-- the same beginning, where the output, any, is looked at after this trace, and the run is traced so from then on
abbrev pub anew : Tracing → SinkState → Program → Base → List TraceItem → Beginning → Beginning
anew tracing output p base own first = record first {
  told = length (text_so_far tracing p base own);
  output = output;
  tracing = tracing;
}

-- the calls that were open as the run began take so many bytes
abbrev pub depth_below : Program → Base → ℕ
depth_below p base = depth_of p (awaited base.bottom [])

-- no byte was written below the stack that calls took, this deep
abbrev pub IsMarkOf : (top first deep mark : ℕ) → Type 0
IsMarkOf top first deep mark = (first ≤ mark) ⊎ (top ≤ mark + deep)

-- each activation that waits has no more results than moves were done
abbrev pub ResultsWithinMoves : ℕ → List Suspended → Type 0
ResultsWithinMoves moves [] = ⊤
ResultsWithinMoves moves (s ∷ outer) =
    (length s.activation.results + moves ≤ most_moves) × ResultsWithinMoves moves outer

-- the calls that are open at this moment, after these events of the run
abbrev pub open_calls_at : Program → Base → List Event → RunState → List Entered
open_calls_at p base events x = open_at p base x.suspended events

-- WHAT A RUN KEEPS of what it found: the stack from its top on, and the room in the journal that the returns of open calls do not need.
pub record KeepsFound (base : Base) (first : Beginning) (entered : List Entered) (m : State) : Type 0 where
  pub above : (address count : ℕ) → base.top ≤ address
      → stack_at address count m ≡ take count (drop (address - STACK) first.stack)
  pub events : first.spare_events + length entered ≤ m.spare_events
  pub bytes : first.spare_bytes + frames base.standard entered ≤ m.spare_bytes

-- WHAT HOLDS BETWEEN TWO MOVES of a run with this base, of which all this was left as it began: activations, closures and moves left are those of its path (`come`), this trace is done of it, these events answer to it, and the call stack's calls stand on the machine's stack.
pub record IsBetween (p : Program) (base : Base) (all : Remainder) (first : Beginning) (own : List TraceItem)
    (events : List Event) (x : RunState) : Type 0 where
  pub needs : p.need ≡ need_of base.standard
  pub count : base.count ≡ length first.events
  pub top : base.top ≤ STACK_TOP
  pub come : HasComeTo p base all own events (position x)
  pub journal : x.machine.events ≡ first.events ++ events
  pub steps : x.machine.steps ≡ steps_after base.standard.target first.steps own
  pub written : TookSince first (text_so_far first.tracing p base own) x.output
  pub mark : IsMarkOf base.top first.mark (deepest p (depth_below p base) own) x.machine.mark
  pub deep : x.machine.sp + depth_at p (depth_below p base) own ≡ base.top
  pub left : x.innermost.left + STACK ≡ x.machine.sp
  pub calls : HoldsCalls base.standard p.signatures base.held base.top x.machine x.calls (open_calls_at p base events x)
  pub holds : HoldsMap base.standard.target x.closures x.machine.code
  pub known : AreKnown p x.closures
  pub few : length x.innermost.results + x.moves ≤ most_moves
  pub others_few : ResultsWithinMoves x.moves x.suspended
  pub found : KeepsFound base first (open_calls_at p base events x) x.machine
  pub outermost : AreEntriesOf base.bottom base.entries

-- the innermost activation asks for this move, which was counted
pub record IsAsking (p : Program) (base : Base) (all : Remainder) (first : Beginning) (own : List TraceItem)
    (events : List Event) (x : RunState) (asked : Move) : Type 0 where
  pub between : IsBetween p base all first own events (asking x)
  pub asks : next_move p x.innermost ≡ asked

module _ {S : Type 0} where
  -- the moment at which this activation is the innermost, inside those that wait
  abbrev pub run_state_with : List Signature → Option OpenCall → List (Waiting S) → Closures → ℕ → State → SinkState
      → Activation S → RunState
  run_state_with signatures served outer closures moves machine output a = record {
    innermost = acting signatures machine (call_inside served outer) a;
    suspended = suspended_at signatures machine served outer;
    calls = calls_of served outer;
    closures = closures;
    moves = moves;
    machine = machine;
    output = output;
  }

  -- the moment of a configuration, inside whose activations this one is the innermost
  abbrev pub run_state : List Signature → Activation S → Configuration S → State → SinkState → RunState
  run_state signatures a b machine output =
      run_state_with signatures b.served (reverse b.suspended.items) b.table b.moves machine output a
