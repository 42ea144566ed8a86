-- What a whole run of main says, by how it ended.
use Rattle.std.proofs.Common.{◌≡◌, ℕ, ◌+◌, ◌*◌, ◌%◌, ◌^◌, ◌≤◌, inl, inr, ◌⊎◌, List, ◌++◌, length, take, refl, sym, ap, ◌∙◌, subst, arith}
use Rattle.std.specs.Prelude.{Bool, true, false}
use Rattle.std.proofs.lemmas.List.{take-append-le}
use Rattle.std.proofs.Math.Seq.{take-length}
use Rattle.ffi3_type_spec.specs.declared.Target.{Target}
use Rattle.ffi3_type_spec.specs.Value.{void_value}
use Rattle.ffi3_place_spec.specs.Event.{Event}
use Rattle.ffi3_place_spec.specs.Standard.{Standard}
use Rattle.ffi3_semantics_spec.specs.declared.Stop.{Stop}
use Rattle.ffi3_semantics_spec.specs.Closures.{Closures}
use Rattle.ffi3_semantics_spec.specs.Journal.{JournalOf, IsWhole, stack_top}
use Rattle.ffi3_semantics_spec.specs.Lines.{at_start, text, text_of_run}
use Rattle.ffi3_semantics_spec.specs.Meaning.{Program, End, returned, stopped, meaning_of}
use Rattle.ffi3_semantics_spec.specs.Trace.{TraceItem, trace_of}
use Rattle.ffi3_small_step_spec.specs.Interrupted.{past_all, next_text, begun}
use Rattle.ffi3_small_step_spec.specs.Depth.{deepest}
use Rattle.ffi3_small_step_spec.specs.Remainder.{remainder_of}
use Rattle.ffi3_small_step_spec.specs.MainTracing.{main_tracing}
use Rattle.ffi3_small_step_spec.specs.SoFar.{main_base}
use Rattle.ffi3_small_step_spec.proofs.Coming.{main_is_over, main_was_cut}
use Rattle.ffi3_machine_spec.specs.State.{State}
use Rattle.ffi3_machine_spec.specs.Slots.{HoldsMap}
use Rattle.ffi3_io_spec.specs.Sink.{Rose, SinkState}
use Rattle.ffi3_io_spec.specs.declared.IoError.{IoError}
use Rattle.ffi3_io_spec.specs.declared.IoError.TheVariants as cut
use Rattle.ffi3_io.proofs.Adding.{Adds-along}
use Rattle.ffi3_io.proofs.Writing.{whole_part}
use Rattle.ffi3_next_move.specs.declared.standing.Standing.{Standing}
use Rattle.ffi3_run_state.specs.declared.configuration.Configuration.{Configuration}
use Rattle.ffi3_run_spec.specs.CallSteps.{call_steps, steps_in, returns_in}
use Rattle.ffi3_run_state.specs.Counted.{steps_after}
use Rattle.ffi3_run_state.specs.Turned.{IsEnded, WasInterrupted, is_in_line}
use Rattle.ffi3_run_state.proofs.Counting.{counts_from_none, main_counts, whole_calls}
use Rattle.ffi3_runner.specs.Ran.{MainRan}
use Rattle.ffi3_run_spec.specs.RunInterrupted.{RunWasInterrupted}
use Rattle.ffi3_run_spec.specs.RunMatches.{RunMatches, WrotePart}
use Rattle.ffi3_runner.specs.declared.run.RunEnd.{RunEnd}
use Rattle.ffi3_runner.specs.declared.run.RunEnd.TheVariants as run
use Rattle.ffi3_runner.specs.Started.{main_beginning, MainHasReturned, MainHasStopped}
use Rattle.ffi3_runner.proofs.Returning.{calls_returned}

reaches : (top mark deep peak : ℕ) → deep ≡ peak → (top ≤ mark) ⊎ (top ≤ mark + deep) → top ≤ mark + peak
reaches top mark deep peak is (inl h) = omega arith
reaches top mark deep peak is (inr h) = omega (arith, is, h)

no_fewer : (a b : ℕ) → b ≡ a → a ≤ b
no_fewer a b same = omega arith

-- main has no caller that has yet to count
either_way : (n m : ℕ) → (n ≡ m) ⊎ (n ≡ m) → n ≡ m
either_way n m (inl h) = h
either_way n m (inr h) = h

-- the count after a trace that is equal, on a machine that began
count_of : (target : Target) (n : ℕ) (trace done : List TraceItem) → n ≡ steps_after target 0 trace → trace ≡ done → n ≡ steps_in target done % 2 ^ 64
count_of target n trace done is same =
    is ∙ counts_from_none target trace ∙ ap (λ (l : List TraceItem). steps_in target l % 2 ^ 64) same

module _ (p : Program) (std : Standard) (trace : Bool) (b : Configuration Standing) (m : State) (o o' : SinkState) where
  -- the instructions of a run that is over
  counted : (end : End) (closures : Closures) (moves : ℕ) → IsEnded p (main_base std) (remainder_of (meaning_of p)) (main_beginning trace std o) end closures moves m o' → m.steps ≡ steps_in std.target (trace_of p) % 2 ^ 64
  counted end closures moves h =
      count_of std.target m.steps (trace_of p) (trace_of p) (sym (main_counts std.target end m.steps) ∙ h.steps) refl

  ended : (end : End) (closures : Closures) (moves : ℕ) → IsEnded p (main_base std) (remainder_of (meaning_of p)) (main_beginning trace std o) end closures moves m o' → RunMatches (main_tracing trace std) std p o o' m
  ended end closures moves h =
      let over = main_is_over p std end closures moves h.events h.over in
      let P = λ (l : List Event). JournalOf std p.signatures (trace_of p) l in
      let Q = λ (l : List Event). IsWhole (trace_of p) l in
      let R = λ (c : Closures). HoldsMap std.target c m.code in
      record {
        written = h.written;
        target = h.target;
        journal = subst P (sym h.journal) over.2;
        whole = subst Q (sym h.journal) over.3;
        code = subst R (sym over.1) h.holds;
        mark = reaches stack_top m.mark (deepest p 0 (trace_of p)) (deepest p 0 (trace_of p)) refl h.mark;
        steps = counted end closures moves h;
        calls = λ v is. counted end closures moves h ∙ ap (λ (k : ℕ). k % 2 ^ 64) (whole_calls std.target (trace_of p) (calls_returned p v is));
        reserved = h.reserved;
      }

  whole_written : (end : End) (closures : Closures) (moves : ℕ) → IsEnded p (main_base std) (remainder_of (meaning_of p)) (main_beginning trace std o) end closures moves m o' → WrotePart (main_tracing trace std) p o o'
  whole_written end closures moves h =
      whole_part o.taken o'.taken (text_of_run (main_tracing trace std) p) h.written.added

  part_written : (why : IoError) → WasInterrupted p (main_base std) (remainder_of (meaning_of p)) (main_beginning trace std o) why b.table b.moves m o' → WrotePart (main_tracing trace std) p o o'
  part_written why h =
      let cut = main_was_cut (main_tracing trace std) p std (is_in_line why) h.recorded h.done h.later h.happened h.text h.events h.cut in
      let text_is : text_of_run (main_tracing trace std) p ≡ h.text ++ cut.1.0 = cut.1.1 in
      let first : take (length h.text) (text_of_run (main_tracing trace std) p) ≡ h.text = ap (take (length h.text)) text_is ∙ take-append-le (length h.text) h.text cut.1.0 (omega arith) ∙ take-length h.text in
      (length h.text, Adds-along o.taken o'.taken h.text (take (length h.text) (text_of_run (main_tracing trace std) p)) (sym first) h.written)

  -- what is told of a run that was interrupted, and what is left of it
  cut_off : (why : IoError) → WasInterrupted p (main_base std) (remainder_of (meaning_of p)) (main_beginning trace std o) why b.table b.moves m o' → RunWasInterrupted (main_tracing trace std) std p (is_in_line why) o o' m b.table b.moves
  cut_off why h =
      let k = h.cut in
      let seen = h.done ++ begun h.recorded h.later in
      let P = λ (l : List Event). JournalOf std p.signatures seen l in
      let Q = λ (l : List Event). IsWhole seen l in
      let R = λ (l : List TraceItem). JournalOf std p.signatures l h.events in
      let T = λ (l : List TraceItem). IsWhole l h.events in
      record {
        done = h.done;
        later = h.later;
        all = k.all;
        part = k.part;
        proper = k.proper;
        written = Adds-along o.taken o'.taken h.text (text (main_tracing trace std) p.signatures at_start h.done ++ take k.part (next_text (main_tracing trace std) p.signatures (past_all p.signatures at_start h.done) h.later)) k.text_is h.written;
        recorded = h.recorded;
        its_event = k.its_event;
        journal = subst P (sym h.journal) (subst R k.happened_is k.answers.answers);
        whole = subst Q (sym h.journal) (subst T k.happened_is k.answers.whole);
        mark = reaches stack_top m.mark (deepest p 0 h.happened) (deepest p 0 seen) (ap (deepest p 0) k.happened_is) h.mark;
        steps = count_of std.target m.steps h.happened seen (either_way m.steps (steps_after std.target 0 h.happened) h.steps) k.happened_is;
        target = h.target;
        left = h.left;
        code = h.holds;
      }

  abbrev Answer : RunEnd → Type 0
  Answer t = MainRan std trace p o b m o' t

  as_ended : (t u : RunEnd) → Answer t → t ≡ u → Answer u
  as_ended t u ran is = subst (λ (x : RunEnd). Answer x) is ran

  pub ran_done : (t : RunEnd) → Answer t → t ≡ run.Done → RunMatches (main_tracing trace std) std p o o' m
  ran_done t ran is =
      let done = as_ended t run.Done ran is in ended (returned done.result) b.table b.moves done.ended

  pub ran_returned : (t : RunEnd) → Answer t → t ≡ run.Done → (meaning_of p).end ≡ returned void_value
  ran_returned t ran is =
      let done = as_ended t run.Done ran is in done.ended.over.end_is ∙ ap returned done.left.0

  pub ran_counted : (t : RunEnd) → Answer t → (target : Target) → std.target ≡ target → t ≡ run.Done → m.steps ≡ (call_steps target * returns_in (trace_of p)) % 2 ^ 64
  ran_counted t ran target same is =
      let done = as_ended t run.Done ran is in
      (ran_done t ran is).calls done.result done.ended.over.end_is
      ∙ ap (λ (t : Target). (call_steps t * returns_in (trace_of p)) % 2 ^ 64) same

  pub ran_left : (t : RunEnd) → Answer t → t ≡ run.Done → MainHasReturned p b m
  ran_left t ran is =
      let done = as_ended t run.Done ran is in
      record { idle = done.idle; sp = done.left.1; closures = sym done.ended.over.closures_are; moves = sym done.ended.over.moves_are }

  pub ran_stopped : (t : RunEnd) → Answer t → (stop : Stop) → t ≡ run.Stopped stop → RunMatches (main_tracing trace std) std p o o' m
  ran_stopped t ran stop is = ended (stopped stop) b.table b.moves (as_ended t (run.Stopped stop) ran is)

  pub ran_stops : (t : RunEnd) → Answer t → (stop : Stop) → t ≡ run.Stopped stop → (meaning_of p).end ≡ stopped stop
  ran_stops t ran stop is = (as_ended t (run.Stopped stop) ran is).over.end_is

  pub ran_left_at_stop : (t : RunEnd) → Answer t → (stop : Stop) → t ≡ run.Stopped stop → MainHasStopped p b
  ran_left_at_stop t ran stop is =
      let over = (as_ended t (run.Stopped stop) ran is).over in
      record { closures = sym over.closures_are; moves = sym over.moves_are }

  pub ran_no_memory : (t : RunEnd) → Answer t → t ≡ run.NoMemory → o'.faults ≡ o.faults
  ran_no_memory t ran is = (as_ended t run.NoMemory ran is).cause

  pub ran_failed : (t : RunEnd) → Answer t → t ≡ run.Failed → Rose o.faults o'.faults
  ran_failed t ran is = (as_ended t run.Failed ran is).cause.0

  pub ran_cut_by_memory : (t : RunEnd) → Answer t → t ≡ run.NoMemory → RunWasInterrupted (main_tracing trace std) std p false o o' m b.table b.moves
  ran_cut_by_memory t ran is = cut_off cut.NoMemory (as_ended t run.NoMemory ran is)

  pub ran_cut_by_write : (t : RunEnd) → Answer t → t ≡ run.Failed → RunWasInterrupted (main_tracing trace std) std p true o o' m b.table b.moves
  ran_cut_by_write t ran is = cut_off cut.Failed (as_ended t run.Failed ran is)

  pub ran_never_falls : (t : RunEnd) → Answer t → o.faults ≤ o'.faults
  ran_never_falls run.Done ran = no_fewer o.faults o'.faults ran.ended.written.count
  ran_never_falls (run.Stopped stop) ran = no_fewer o.faults o'.faults ran.written.count
  ran_never_falls run.NoMemory ran = no_fewer o.faults o'.faults ran.cause
  ran_never_falls run.Failed ran = ran.cause.1

  pub ran_part : (t : RunEnd) → Answer t → WrotePart (main_tracing trace std) p o o'
  ran_part run.Done ran = whole_written (returned ran.result) b.table b.moves ran.ended
  ran_part (run.Stopped stop) ran = whole_written (stopped stop) b.table b.moves ran
  ran_part run.NoMemory ran = part_written cut.NoMemory ran
  ran_part run.Failed ran = part_written cut.Failed ran
