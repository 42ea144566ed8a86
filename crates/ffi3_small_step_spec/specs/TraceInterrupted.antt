-- A trace that was interrupted in what is written of it.
use Rattle.std.specs.Prelude.{◌≡◌, ℕ, Bool, List, ◌++◌, length, take}
use Rattle.ffi3_type_spec.specs.Signature.{Signature}
use Rattle.ffi3_place_spec.specs.declared.Loc.{Loc}
use Rattle.ffi3_place_spec.specs.Standard.{Standard}
use Rattle.ffi3_place_spec.specs.Event.{Event}
use Rattle.ffi3_semantics_spec.specs.Trace.{TraceItem}
use Rattle.ffi3_semantics_spec.specs.Journal.{Entered}
use Rattle.ffi3_semantics_spec.specs.Lines.{Point, Tracing, text}
use Rattle.ffi3_small_step_spec.specs.Open.{AnswersTo}
use Rattle.ffi3_small_step_spec.specs.Interrupted.{past_all, next_text, begun, IsPart, HasItsEvent}

-- THE RUN WAS INTERRUPTED, in an item's lines or elsewhere: a first part of its trace is done, and a part of the next item's lines is written. What happened is what is done, and the next item where its event is recorded: to this the events answer wholly.
pub record TraceWasInterrupted (std : Standard) (top : ℕ) (held : Loc → ℕ) (tracing : Tracing)
    (signatures : List Signature) (at : Point) (n : ℕ) (unfinished : List Entered) (in_line recorded : Bool)
    (trace done later happened : List TraceItem) (written : List ℕ) (events : List Event) : Type 0 where
  pub all : trace ≡ done ++ later
  pub part : ℕ
  pub proper : IsPart in_line part (length (next_text tracing signatures (past_all signatures at done) later))
  pub text_is : written
      ≡ text tracing signatures at done ++ take part (next_text tracing signatures (past_all signatures at done) later)
  pub its_event : HasItsEvent recorded in_line later
  pub happened_is : happened ≡ done ++ begun recorded later
  pub left_open : List Entered
  pub answers : AnswersTo std top held signatures n unfinished happened events left_open
