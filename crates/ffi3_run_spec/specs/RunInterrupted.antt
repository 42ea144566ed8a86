-- What a run of main tells and leaves that was interrupted: within an item's lines by a write that failed, or elsewhere by want of memory.
use Rattle.std.specs.Prelude.{◌≡◌, ℕ, ◌+◌, ◌%◌, ◌^◌, ◌≤◌, Bool, List, ◌++◌, length, take}
use Rattle.ffi3_io_spec.specs.Sink.{Adds, SinkState}
use Rattle.ffi3_place_spec.specs.Standard.{Standard}
use Rattle.ffi3_semantics_spec.specs.Closures.{Closures}
use Rattle.ffi3_semantics_spec.specs.Journal.{JournalOf, IsWhole, stack_top}
use Rattle.ffi3_semantics_spec.specs.Lines.{Tracing, at_start, text}
use Rattle.ffi3_semantics_spec.specs.Meaning.{Program}
use Rattle.ffi3_semantics_spec.specs.Trace.{TraceItem, trace_of}
use Rattle.ffi3_small_step_spec.specs.Interrupted.{past_all, next_text, begun, IsPart, HasItsEvent}
use Rattle.ffi3_small_step_spec.specs.Depth.{deepest}
use Rattle.ffi3_small_step_spec.specs.Left.{IsLeft, in_a_move}
use Rattle.ffi3_small_step_spec.specs.Path.{main_start}
use Rattle.ffi3_small_step_spec.specs.Remainder.{as_main}
use Rattle.ffi3_machine_spec.specs.State.{State}
use Rattle.ffi3_machine_spec.specs.Slots.{HoldsMap}
use Rattle.ffi3_run_spec.specs.CallSteps.{steps_in}

-- THE RUN IS TOLD IN PART. A first part of its trace is done. The output took the text of that, and of the next item's lines a proper part where it was interrupted in them, and nothing elsewhere. An event is recorded before its lines; the journal answers wholly to what is done and to the item whose event came last, if that is the next. No byte was written beyond the stack that those calls take, and their instructions are counted and no others. These closures, whose code is there, and these moves are left where the direct meaning has come to with what is done; the rest of it is left to do.
pub record RunWasInterrupted (tracing : Tracing) (std : Standard) (p : Program) (in_line : Bool)
    (before after : SinkState) (machine : State) (closures : Closures) (moves : ℕ) : Type 0 where
  pub done : List TraceItem
  pub later : List TraceItem
  pub all : trace_of p ≡ done ++ later
  pub part : ℕ
  pub proper : IsPart in_line part (length (next_text tracing p.signatures (past_all p.signatures at_start done) later))
  pub written :
      Adds before.taken
      (text tracing p.signatures at_start done
      ++ take part (next_text tracing p.signatures (past_all p.signatures at_start done) later))
      after.taken
  pub recorded : Bool
  pub its_event : HasItsEvent recorded in_line later
  pub journal : JournalOf std p.signatures (done ++ begun recorded later) machine.events
  pub whole : IsWhole (done ++ begun recorded later) machine.events
  pub mark : stack_top ≤ machine.mark + deepest p 0 (done ++ begun recorded later)
  pub steps : machine.steps ≡ steps_in std.target (done ++ begun recorded later) % 2 ^ 64
  pub target : machine.target ≡ std.target
  pub left : IsLeft p as_main main_start (in_a_move in_line recorded) done later closures moves
  pub code : HoldsMap std.target closures machine.code
