-- What a move comes to.
use Rattle.std.specs.Prelude.{◌≡◌, ℕ, suc, ◌-◌, ◌≤◌, ◌⊎◌, List, [], ◌∷◌, ◌++◌, length, drop, Bool, true, false}
use Rattle.std.specs.Prelude.{Option, Some, None}
use Rattle.std.specs.List.{AllByRecursion}
use Rattle.ffi3_type_spec.specs.Value.{ValueTree}
use Rattle.ffi3_place_spec.specs.Image.{register}
use Rattle.ffi3_place_spec.specs.Event.{Event}
use Rattle.ffi3_semantics_spec.specs.declared.Stop.{Stop}
use Rattle.ffi3_semantics_spec.specs.declared.Stop.TheVariants.{MoveLimit}
use Rattle.ffi3_semantics_spec.specs.Closures.{Closures}
use Rattle.ffi3_semantics_spec.specs.Lines.{Tracing}
use Rattle.ffi3_semantics_spec.specs.Meaning.{Program, End, returned, stopped}
use Rattle.ffi3_semantics_spec.specs.Trace.{TraceItem, Leave, StopLine}
use Rattle.ffi3_small_step_spec.specs.Remainder.{Remainder, Bottom, as_main, served, before}
use Rattle.ffi3_small_step_spec.specs.Left.{IsLeft, in_a_move}
use Rattle.ffi3_small_step_spec.specs.Depth.{deepest}
use Rattle.ffi3_small_step_spec.specs.SoFar.{Base, left_at_position, IsOver, IsInterrupted}
use Rattle.ffi3_machine_spec.specs.State.{State, image_of}
use Rattle.ffi3_machine_spec.specs.Slots.{HoldsMap}
use Rattle.ffi3_io_spec.specs.Sink.{Adds, SinkState}
use Rattle.ffi3_io_spec.specs.Written.{TookText, IsCause}
use Rattle.ffi3_io_spec.specs.declared.IoError.{IoError}
use Rattle.ffi3_io_spec.specs.declared.IoError.TheVariants as cut
use Rattle.ffi3_run_state.specs.declared.activation.Activation.{Activation}
use Rattle.ffi3_run_state.specs.declared.configuration.Configuration.{Configuration}
use Rattle.ffi3_run_state.specs.declared.configuration.Turn.{Turn}
use Rattle.ffi3_run_state.specs.declared.configuration.Turn.TheVariants as turn
use Rattle.ffi3_run_state.specs.Served.{HasLeft, IsIdle, KeepsCallers}
use Rattle.ffi3_run_state.specs.Counted.{steps_after, back_at_caller, count_at_end}
use Rattle.ffi3_run_state.specs.Between.{Beginning, anew, text_so_far, depth_below, IsMarkOf, IsBetween, run_state}

-- THE RUN IS OVER: it came to this end, all that was left is done, the output took its text since it was looked at, the steps are those of its calls, and the stack of the callers around it is kept.
pub record IsEnded (p : Program) (base : Base) (all : Remainder) (first : Beginning) (end : End) (closures : Closures)
    (moves : ℕ) (m : State) (output : SinkState) : Type 0 where
  pub events : List Event
  pub over : IsOver p base all end closures moves events
  pub journal : m.events ≡ first.events ++ events
  pub steps :
      count_at_end base.standard.target base.bottom end m.steps ≡ steps_after base.standard.target first.steps all.trace
  pub written : TookText (drop first.told (text_so_far first.tracing p base all.trace)) first.output output
  pub mark : IsMarkOf base.top first.mark (deepest p (depth_below p base) all.trace) m.mark
  pub target : m.target ≡ base.standard.target
  pub reserved : AllByRecursion (λ at. register (image_of 0 m) at ≡ base.held at) base.standard.reserved
  pub holds : HoldsMap base.standard.target closures m.code
  pub callers : KeepsCallers p base first m.stack

-- a write fails in a line, and memory is refused elsewhere
abbrev pub is_in_line : IoError → Bool
is_in_line cut.NoMemory = false
is_in_line cut.Failed = true

-- THE RUN WAS INTERRUPTED: of all that was left this is done and that comes later, this happened, these bytes are told, those since the output was looked at written to it, and these events are recorded. With these closures, whose code is there, and these moves the rest is left to do. No byte was written below the stack that the calls took that happened, and that of the callers around the run is kept. The steps are those of these calls; where the last of them is the return of a call that is served, its caller has yet to run Return.
pub record WasInterrupted (p : Program) (base : Base) (all : Remainder) (first : Beginning) (why : IoError)
    (closures : Closures) (moves : ℕ) (m : State) (output : SinkState) : Type 0 where
  pub done : List TraceItem
  pub later : List TraceItem
  pub recorded : Bool
  pub happened : List TraceItem
  pub events : List Event
  pub text : List ℕ
  pub cut : IsInterrupted first.tracing p base (is_in_line why) recorded all done later happened text events
  pub journal : m.events ≡ first.events ++ events
  pub steps :
      (m.steps ≡ steps_after base.standard.target first.steps happened)
      ⊎ (back_at_caller base.standard.target base.bottom m.steps
      ≡ steps_after base.standard.target first.steps happened)
  pub written : Adds first.output.taken (drop first.told text) output.taken
  pub cause : IsCause why first.output.faults output.faults
  pub mark : IsMarkOf base.top first.mark (deepest p (depth_below p base) happened) m.mark
  pub target : m.target ≡ base.standard.target
  pub left : IsLeft p base.bottom base.start (in_a_move (is_in_line why) recorded) done later closures moves
  pub follows : all ≡ before done (left_at_position p base left.at)
  pub holds : HoldsMap base.standard.target closures m.code
  pub callers : KeepsCallers p base first m.stack

-- one move was counted, or none
abbrev pub CountedAtMostOne : (moves left : ℕ) → Type 0
CountedAtMostOne moves left = (left ≤ moves) × (moves ≤ suc left)

-- and beyond this trace, with so many moves left, at most one item happened, and one move was counted; the run stands there or further on
pub record WasInterruptedAfter (p : Program) (base : Base) (all : Remainder) (first : Beginning) (own : List TraceItem)
    (moves : ℕ) (why : IoError) (closures : Closures) (left : ℕ) (m : State) (output : SinkState) : Type 0 where
  pub interrupted : WasInterrupted p base all first why closures left m output
  pub more : List TraceItem
  pub happened : interrupted.happened ≡ own ++ more
  pub one : length more ≤ 1
  pub counted : CountedAtMostOne moves left
  pub from : interrupted.left.at.moves ≤ moves

-- what happens where the outermost activation returns: the call that is served is left, and main was not called
abbrev pub last_return : Bottom → ValueTree → List TraceItem
last_return as_main v = []
last_return (served sig) v = Leave sig v ∷ []

-- a machine that looks as it did: journal, mark, steps, target, code and stack are the same
pub record LooksAs (before after : State) : Type 0 where
  pub events : after.events ≡ before.events
  pub mark : after.mark ≡ before.mark
  pub steps : after.steps ≡ before.steps
  pub target : after.target ≡ before.target
  pub code : after.code ≡ before.code
  pub stack : after.stack ≡ before.stack

-- what a move came to that was interrupted
abbrev pub turn_of : IoError → Turn
turn_of cut.NoMemory = turn.NoMemory
turn_of cut.Failed = turn.Failed

module _ {S : Type 0} where
  -- THE RUN IS DONE: the outermost activation gave its result, and none is left.
  pub record IsDone (p : Program) (base : Base) (all : Remainder) (first : Beginning) (b : Configuration S) (m : State)
      (output : SinkState) : Type 0 where
    pub result : ValueTree
    pub ended : IsEnded p base all first (returned result) b.table b.moves m output
    pub left : HasLeft p base first base.bottom base.entries result m
    pub idle : IsIdle p b

  -- the run stands between two moves on this configuration
  abbrev pub StandsWith : Program → Base → Remainder → Beginning → List TraceItem → List Event → Configuration S → State
      → SinkState → Option (Activation S) → Type 0
  StandsWith p base all first own events b m output None = ⊥
  StandsWith p base all first own events b m output (Some a) =
      IsBetween p base all first own events (run_state p.signatures a b m output)

  abbrev pub StandsAt : Program → Base → Remainder → Beginning → List TraceItem → List Event → Configuration S → State
      → SinkState → Type 0
  StandsAt p base all first own events b m output = StandsWith p base all first own events b m output b.innermost

  -- THE SAME FOR ANY OUTPUT, whatever it took before, and for any tracing from here on
  abbrev pub StandsAnew : Program → Base → Remainder → Beginning → List TraceItem → List Event → Configuration S → State
      → Type 0
  StandsAnew p base all first own events b m =
      (tracing : Tracing) (output : SinkState)
      → StandsAt p base all (anew tracing output p base own first) own events b m output

  -- THE RUN WENT ON by one move: what happened in it, one item at most, is done too, and one move fewer is left.
  pub record WentOn (p : Program) (base : Base) (all : Remainder) (first : Beginning) (own : List TraceItem) (moves : ℕ)
      (b : Configuration S) (m : State) (output : SinkState) : Type 0 where
    pub more : List TraceItem
    pub events : List Event
    pub stands : StandsAt p base all first (own ++ more) events b m output
    pub stands_anew : StandsAnew p base all first (own ++ more) events b m
    pub one : length more ≤ 1
    pub counted : moves ≡ suc b.moves

  -- the closures and the moves left are as they were
  abbrev pub KeepsClosures : Configuration S → Configuration S → Type 0
  KeepsClosures old new = (new.table ≡ old.table) × (new.moves ≡ old.moves)

  -- A WRITE FAILED IN A MOVE: the closures are as they were, and the move is counted, or none was left.
  abbrev pub HasFailed : Configuration S → Configuration S → Type 0
  HasFailed old new = (new.table ≡ old.table) × (new.moves ≡ old.moves - 1)

  -- THE RUN IS DONE BY ONE MOVE, the return of the outermost activation.
  pub record TurnIsDone (p : Program) (base : Base) (all : Remainder) (first : Beginning) (own : List TraceItem)
      (moves : ℕ) (b : Configuration S) (m : State) (output : SinkState) : Type 0 where
    pub done : IsDone p base all first b m output
    pub last : all.trace ≡ own ++ last_return base.bottom done.result
    pub counted : moves ≡ suc b.moves

  -- THE RUN STOPPED IN ONE MOVE, or before it, where none was left; and nothing happened but the stop.
  pub record TurnHasStopped (p : Program) (base : Base) (all : Remainder) (first : Beginning) (own : List TraceItem)
      (moves : ℕ) (stop : Stop) (b : Configuration S) (m : State) (output : SinkState) : Type 0 where
    pub ended : IsEnded p base all first (stopped stop) b.table b.moves m output
    pub last : all.trace ≡ own ++ StopLine stop ∷ []
    pub counted : (moves ≡ suc b.moves) ⊎ ((stop ≡ MoveLimit) × (moves ≡ 0) × (b.moves ≡ 0))

  -- WHAT A MOVE CAME TO, of which there were so many left
  abbrev pub Turned : Program → Base → Remainder → Beginning → List TraceItem → ℕ
      → Configuration S → State → SinkState → Turn → Type 0
  Turned p base all first own moves b m output turn.More = WentOn p base all first own moves b m output
  Turned p base all first own moves b m output turn.Done = TurnIsDone p base all first own moves b m output
  Turned p base all first own moves b m output (turn.Stopped stop) =
      TurnHasStopped p base all first own moves stop b m output
  Turned p base all first own moves b m output turn.NoMemory =
      WasInterruptedAfter p base all first own moves cut.NoMemory b.table b.moves m output
  Turned p base all first own moves b m output turn.Failed =
      WasInterruptedAfter p base all first own moves cut.Failed b.table b.moves m output
