-- A run, move after move: where it comes to, and that it can go on.
use Rattle.std.proofs.Common.{◌≡◌, List, ◌++◌, subst, suc}
use Rattle.std.specs.Prelude.{Bool, true}
use Rattle.ffi3_place_spec.specs.Event.{Event}
use Rattle.ffi3_place_spec.specs.Standard.{Standard}
use Rattle.ffi3_semantics_spec.specs.Meaning.{Program}
use Rattle.ffi3_semantics_spec.specs.Trace.{TraceItem}
use Rattle.ffi3_small_step_spec.specs.Remainder.{Remainder}
use Rattle.ffi3_small_step_spec.specs.SoFar.{Base}
use Rattle.ffi3_small_step_spec.specs.TracingOf.{IsTracingOf}
use Rattle.ffi3_machine_spec.specs.State.{State}
use Rattle.ffi3_io_spec.specs.Sink.{SinkState}
use Rattle.ffi3_next_move.specs.declared.standing.Standing.{Standing}
use Rattle.ffi3_run_state.specs.declared.configuration.Configuration.{Configuration}
use Rattle.ffi3_run_state.specs.declared.configuration.Turn.{Turn}
use Rattle.ffi3_run_state.specs.Between.{Beginning, anew}
use Rattle.ffi3_run_state.specs.Turned.{StandsAt, Turned, WentOn}
use Rattle.ffi3_runner.specs.Ran.{ComesTo, TurnSays}
use Rattle.ffi3_runner.proofs.Turning.{went_on}
use Rattle.ffi3_semantics_spec.specs.Lines.{Tracing}
use Rattle.ffi3_run_state.proofs.Since.{configuration_looked_at}
use Rattle.ffi3_runner.specs.Ready.{CanGoOn, traced_or_not}
use Rattle.ffi3_run_state.specs.declared.configuration.Turn.TheVariants as turn

module _ (std : Standard) (trace : Bool) (p : Program) (b₀ b b' : Configuration Standing) (m₀ m m' : State) (o₀ o o' : SinkState) where
  pub comes_nowhere : ComesTo std trace p b₀ m₀ o₀ b₀ m₀ o₀
  comes_nowhere = λ base all first own events standard tracing h. (own, events, h)

  module _ (since : ComesTo std trace p b₀ m₀ o₀ b m o) (t : Turn) (turned : TurnSays std trace p b m o b' m' o' t) where
    pub comes_on : t ≡ turn.More → ComesTo std trace p b₀ m₀ o₀ b' m' o'
    comes_on more = λ base all first own events standard tracing h.
        let k = since base all first own events standard tracing h in
        let went = went_on p base all first k.0 b.moves b' m' o' t (turned base all first k.0 k.1 standard tracing k.2) more in
        (k.0 ++ went.more, went.events, went.stands)

    module _ (base : Base) (all : Remainder) (first : Beginning) (own : List TraceItem) (events : List Event) (standard : base.standard ≡ std) (tracing : IsTracingOf p base trace first.tracing) (h : StandsAt p base all first own events b₀ m₀ o₀) where
      -- what its answer says
      pub says : (u : Turn) → t ≡ u → Turned p base all first (since base all first own events standard tracing h).0 b.moves b' m' o' u
      says u is =
          let k = since base all first own events standard tracing h in
          subst (λ (u : Turn). Turned p base all first k.0 b.moves b' m' o' u) is (turned base all first k.0 k.1 standard tracing k.2)

-- where it stands for one output
pub can_go_on : (std : Standard) (p : Program) (base : Base) (all : Remainder) (first : Beginning) (own : List TraceItem) (events : List Event) (tracing : Bool → Tracing) (b : Configuration Standing) (m : State) (o : SinkState) → base.standard ≡ std → ((trace : Bool) → IsTracingOf p base trace (tracing trace)) → StandsAt p base all first own events b m o → CanGoOn std p traced_or_not b m
can_go_on std p base all first own events tracing b m o standard traced h = record {
  base = base;
  all = all;
  first = first;
  own = own;
  events = events;
  tracing = tracing;
  standard = standard;
  traced = λ trace _. traced trace;
  stands = configuration_looked_at p base all first own events b m o b.innermost h;
}

module _ (std : Standard) (p : Program) (traces : Bool → Bool) (b : Configuration Standing) (m : State) (h : CanGoOn std p traces b m) (trace : Bool) (with_it : traces trace ≡ true) (o : SinkState) where
  abbrev seen : Beginning
  seen = anew (h.tracing trace) o p h.base h.own h.first

  -- it stands for the output that is handed in
  pub stands_here : (base : Base) × (all : Remainder) × (first : Beginning) × (own : List TraceItem) × (events : List Event) × (base.standard ≡ std) × IsTracingOf p base trace first.tracing × StandsAt p base all first own events b m o
  stands_here = (h.base, h.all, seen, h.own, h.events, h.standard, h.traced trace with_it, h.stands (h.tracing trace) o)

  module _ (b' : Configuration Standing) (m' : State) (o' : SinkState) (t : Turn) (turned : TurnSays std trace p b m o b' m' o' t) (more : t ≡ turn.More) where
    went : WentOn p h.base h.all seen h.own b.moves b' m' o'
    went =
        went_on p h.base h.all seen h.own b.moves b' m' o' t (turned h.base h.all seen h.own h.events h.standard (h.traced trace with_it) (h.stands (h.tracing trace) o)) more

    -- after a move it can again
    pub goes_on_again : CanGoOn std p traces b' m'
    goes_on_again = record {
      base = h.base;
      all = h.all;
      first = seen;
      own = h.own ++ went.more;
      events = went.events;
      tracing = h.tracing;
      standard = h.standard;
      traced = h.traced;
      stands = went.stands_anew;
    }

    pub one_fewer : b.moves ≡ suc b'.moves
    one_fewer = went.counted
