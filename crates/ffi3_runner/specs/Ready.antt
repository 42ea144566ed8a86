-- A run that can go on by a move, as its caller sees it.
use Rattle.std.specs.Prelude.{◌≡◌, Bool, true, List}
use Rattle.ffi3_place_spec.specs.Event.{Event}
use Rattle.ffi3_place_spec.specs.Standard.{Standard}
use Rattle.ffi3_semantics_spec.specs.Lines.{Tracing}
use Rattle.ffi3_semantics_spec.specs.Meaning.{Program}
use Rattle.ffi3_semantics_spec.specs.Trace.{TraceItem}
use Rattle.ffi3_small_step_spec.specs.Remainder.{Remainder}
use Rattle.ffi3_small_step_spec.specs.SoFar.{Base}
use Rattle.ffi3_small_step_spec.specs.TracingOf.{IsTracingOf}
use Rattle.ffi3_machine_spec.specs.State.{State}
use Rattle.ffi3_next_move.specs.declared.standing.Standing.{Standing}
use Rattle.ffi3_run_state.specs.declared.configuration.Configuration.{Configuration}
use Rattle.ffi3_run_state.specs.declared.configuration.Turn.{Turn}
use Rattle.ffi3_run_state.specs.declared.configuration.Turn.TheVariants.{More}
use Rattle.ffi3_run_state.specs.Between.{Beginning}
use Rattle.ffi3_run_state.specs.Turned.{StandsAnew}

-- traced and untraced
abbrev pub traced_or_not : Bool → Bool
traced_or_not trace = true

-- THE RUN STANDS BETWEEN TWO MOVES, and can be told with each of these values of `trace`. Nothing is said of an output: the next move may write to any, whatever that took before.
pub record CanGoOn (std : Standard) (p : Program) (traces : Bool → Bool)
    (b : Configuration Standing) (m : State) : Type 0 where
  pub base : Base
  pub all : Remainder
  pub first : Beginning
  pub own : List TraceItem
  pub events : List Event
  pub tracing : Bool → Tracing
  pub standard : base.standard ≡ std
  pub traced : (trace : Bool) → traces trace ≡ true → IsTracingOf p base trace (tracing trace)
  pub stands : StandsAnew p base all first own events b m

-- THE RUN CAN GO ON, told at least with this value of `trace`
abbrev pub CanGoOnWith : Standard → Program → (trace : Bool) → Configuration Standing → State → Type 0
CanGoOnWith std p trace b m = (traces : Bool → Bool) × (traces trace ≡ true) × CanGoOn std p traces b m

-- If the run could go on before a move that answers `More`, it can go on after it, told with the same values of `trace`.
abbrev pub StillCanGoOn : Standard → Program → (trace : Bool)
    → Configuration Standing → State → Configuration Standing → State → Turn → Type 0
StillCanGoOn std p trace b m b' m' turn =
    (traces : Bool → Bool) → traces trace ≡ true → CanGoOn std p traces b m
    → turn ≡ More → CanGoOn std p traces b' m'
