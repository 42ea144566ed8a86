-- What a run of main begins with, and what it leaves where it returned or stopped.
use Rattle.std.specs.Prelude.{◌≡◌, Bool, []}
use Rattle.ffi3_type_spec.specs.declared.limits.TheConstants.{STACK_TOP}
use Rattle.ffi3_place_spec.specs.Standard.{Standard}
use Rattle.ffi3_semantics_spec.specs.Meaning.{Program, meaning_of}
use Rattle.ffi3_small_step_spec.specs.MainTracing.{main_tracing}
use Rattle.ffi3_machine_spec.specs.State.{State, begun_stack}
use Rattle.ffi3_io_spec.specs.Sink.{SinkState}
use Rattle.ffi3_next_move.specs.declared.standing.Standing.{Standing}
use Rattle.ffi3_run_state.specs.declared.configuration.Configuration.{Configuration}
use Rattle.ffi3_run_state.specs.Between.{Beginning}
use Rattle.ffi3_run_state.specs.Served.{IsIdle}

-- what a run of main finds, and how it is traced
abbrev pub main_beginning : (trace : Bool) → Standard → SinkState → Beginning
main_beginning trace std o = record {
  events = [];
  mark = STACK_TOP;
  steps = 0;
  told = 0;
  output = o;
  stack = begun_stack;
  spare_events = 0;
  spare_bytes = 0;
  tracing = main_tracing trace std;
}

-- AFTER MAIN'S RETURN no activation is unfinished and all of the stack is free; closures and moves are those that are left then.
pub record MainHasReturned (p : Program) (b : Configuration Standing) (m : State) : Type 0 where
  pub idle : IsIdle p b
  pub sp : m.sp ≡ STACK_TOP
  pub closures : b.table ≡ (meaning_of p).closures
  pub moves : b.moves ≡ (meaning_of p).moves

-- AFTER A STOP closures and moves are those that are left then.
pub record MainHasStopped (p : Program) (b : Configuration Standing) : Type 0 where
  pub closures : b.table ≡ (meaning_of p).closures
  pub moves : b.moves ≡ (meaning_of p).moves
