-- How a run ended.
use Rattle.std.specs.Prelude.{◌≡◌, Bool, List}
use Rattle.ffi3_place_spec.specs.Event.{Event}
use Rattle.ffi3_place_spec.specs.Standard.{Standard}
use Rattle.ffi3_semantics_spec.specs.Trace.{TraceItem}
use Rattle.ffi3_semantics_spec.specs.Meaning.{Program, meaning_of, stopped}
use Rattle.ffi3_small_step_spec.specs.Remainder.{Remainder, remainder_of}
use Rattle.ffi3_small_step_spec.specs.SoFar.{Base, main_base}
use Rattle.ffi3_small_step_spec.specs.TracingOf.{IsTracingOf}
use Rattle.ffi3_machine_spec.specs.State.{State}
use Rattle.ffi3_io_spec.specs.Sink.{SinkState}
use Rattle.ffi3_io_spec.specs.declared.IoError.TheVariants as cut
use Rattle.ffi3_next_move.specs.declared.standing.Standing.{Standing}
use Rattle.ffi3_run_state.specs.declared.configuration.Configuration.{Configuration}
use Rattle.ffi3_run_state.specs.declared.configuration.Turn.{Turn}
use Rattle.ffi3_run_state.specs.Between.{Beginning}
use Rattle.ffi3_run_state.specs.Turned.{IsDone, IsEnded, StandsAt, Turned, WasInterrupted}
use Rattle.ffi3_runner.specs.Started.{main_beginning}
use Rattle.ffi3_runner.specs.declared.run.RunEnd.{RunEnd}
use Rattle.ffi3_runner.specs.declared.run.RunEnd.TheVariants as run

-- WHAT A RUN'S ANSWER SAYS
abbrev pub Ran : Program → Base → Remainder → Beginning → Configuration Standing → State → SinkState → RunEnd → Type 0
Ran p base all first b m output run.Done = IsDone p base all first b m output
Ran p base all first b m output (run.Stopped stop) = IsEnded p base all first (stopped stop) b.table b.moves m output
Ran p base all first b m output run.NoMemory =
    WasInterrupted p base all first cut.NoMemory b.table b.moves m output
Ran p base all first b m output run.Failed =
    WasInterrupted p base all first cut.Failed b.table b.moves m output

-- WHAT A RUN OF MAIN CAME TO, on a machine and a configuration on which nothing had begun
abbrev pub MainRan : Standard → (trace : Bool) → Program → (before : SinkState) → Configuration Standing → State
    → SinkState → RunEnd → Type 0
MainRan std trace p before b m output end =
    Ran p (main_base std) (remainder_of (meaning_of p)) (main_beginning trace std before) b m output end

-- A RUN OF MAIN, traced or not, COMES FROM one moment to another: where it stands at the first it stands at the second, with more done.
abbrev pub ComesTo : Standard → (trace : Bool) → Program
    → Configuration Standing → State → SinkState → Configuration Standing → State → SinkState → Type 0
ComesTo std trace p b m output b' m' output' =
    (base : Base) (all : Remainder) (first : Beginning) (own : List TraceItem) (events : List Event)
    → base.standard ≡ std → IsTracingOf p base trace first.tracing → StandsAt p base all first own events b m output
    → (own' : List TraceItem) × (events' : List Event) × StandsAt p base all first own' events' b' m' output'

-- WHAT THE ANSWER OF ONE MOVE SAYS, traced or not, from any moment to the next
abbrev pub TurnSays : Standard → (trace : Bool) → Program
    → Configuration Standing → State → SinkState → Configuration Standing → State → SinkState → Turn → Type 0
TurnSays std trace p b m output b' m' output' turn =
    (base : Base) (all : Remainder) (first : Beginning) (own : List TraceItem) (events : List Event)
    → base.standard ≡ std → IsTracingOf p base trace first.tracing → StandsAt p base all first own events b m output
    → Turned p base all first own b.moves b' m' output' turn
