-- What an output took since it was looked at, and a run whose output is looked at anew.
use Rattle.std.proofs.Common.{◌≡◌, ℕ, zero, suc, ◌≤◌, List, [], ◌∷◌, ◌++◌, length, drop, Option, Some, None, refl, sym, ap, ◌∙◌, arith, length-append}
use Rattle.std.proofs.lemmas.List.{drop_all}
use Rattle.ffi3_place_spec.specs.Event.{Event}
use Rattle.ffi3_semantics_spec.specs.Lines.{Tracing}
use Rattle.ffi3_semantics_spec.specs.Meaning.{Program}
use Rattle.ffi3_semantics_spec.specs.Trace.{TraceItem}
use Rattle.ffi3_small_step_spec.specs.Remainder.{Remainder}
use Rattle.ffi3_small_step_spec.specs.SoFar.{Base}
use Rattle.ffi3_machine_spec.specs.State.{State}
use Rattle.ffi3_io_spec.specs.Sink.{Adds, SinkState}
use Rattle.ffi3_io_spec.specs.Written.{TookText}
use Rattle.ffi3_io.proofs.Adding.{Adds-along, Adds-then}
use Rattle.ffi3_io.proofs.Writing.{took_as, took_nothing, took_then}
use Rattle.ffi3_run_state.specs.declared.activation.Activation.{Activation}
use Rattle.ffi3_run_state.specs.declared.configuration.Configuration.{Configuration}
use Rattle.ffi3_run_state.specs.Between.{Beginning, RunState, TookSince, anew, text_so_far, IsBetween}
use Rattle.ffi3_run_state.specs.Turned.{StandsWith}

drop_then : (n : ℕ) (xs ys : List ℕ) → n ≤ length xs → drop n (xs ++ ys) ≡ drop n xs ++ ys
drop_then zero xs ys h = refl
drop_then (suc n) [] ys h = absurd (omega (arith, h))
drop_then (suc n) (x ∷ xs) ys h = drop_then n xs ys (omega (arith, h))

module _ (first : Beginning) (a b : SinkState) (so_far more : List ℕ) (took : TookSince first so_far a) where
  -- a text more
  pub since_then : (whole : List ℕ) → whole ≡ so_far ++ more → TookText more a b → TookSince first whole b
  since_then whole is next = record {
    told = omega (arith, took.told, ap (λ (l : List ℕ). length l) is, length-append so_far more);
    took = took_then first.output a b (drop first.told so_far) more (drop first.told whole) (ap (drop first.told) is ∙ drop_then first.told so_far more took.told) took.took next;
  }

  -- a part of it
  pub part_since : Adds a.taken more b.taken → Adds first.output.taken (drop first.told (so_far ++ more)) b.taken
  part_since next =
      Adds-along first.output.taken b.taken (drop first.told so_far ++ more) (drop first.told (so_far ++ more)) (sym (drop_then first.told so_far more took.told)) (Adds-then first.output.taken a.taken b.taken (drop first.told so_far) more took.took.added next)

-- THE OUTPUT IS LOOKED AT ANEW, or another is given: nothing is asked of it.
pub looked_at : (p : Program) (base : Base) (all : Remainder) (first : Beginning) (own : List TraceItem) (events : List Event) (x : RunState) (tracing : Tracing) (output : SinkState) → IsBetween p base all first own events x → IsBetween p base all (anew tracing output p base own first) own events (record x { output = output })
looked_at p base all first own events x tracing output h =
    let told = text_so_far tracing p base own in
    record {
      needs = h.needs;
      count = h.count;
      top = h.top;
      come = h.come;
      journal = h.journal;
      steps = h.steps;
      written = record {
        told = omega arith;
        took = took_as output output [] (drop (length told) told) (sym (drop_all (length told) told (omega arith))) (took_nothing output);
      };
      mark = h.mark;
      deep = h.deep;
      left = h.left;
      calls = h.calls;
      holds = h.holds;
      known = h.known;
      few = h.few;
      others_few = h.others_few;
      found = record { above = h.found.above; events = h.found.events; bytes = h.found.bytes };
      outermost = h.outermost;
    }

-- the same of a configuration
pub configuration_looked_at : {S : Type 0} (p : Program) (base : Base) (all : Remainder) (first : Beginning) (own : List TraceItem) (events : List Event) (b : Configuration S) (m : State) (output : SinkState) (i : Option (Activation S)) → StandsWith p base all first own events b m output i → (tracing : Tracing) (output' : SinkState) → StandsWith p base all (anew tracing output' p base own first) own events b m output' i
configuration_looked_at p base all first own events b m output None h = elim h [ ]
configuration_looked_at p base all first own events b m output (Some a) h = λ tracing output'. looked_at p base all first own events _ tracing output' h
