-- A run is as the direct meaning of its program says: the text that its output takes, and the machine that it leaves.
use Rattle.std.specs.Prelude.{◌≡◌, ℕ, ◌+◌, ◌*◌, ◌%◌, ◌^◌, ◌≤◌, take}
use Rattle.std.specs.List.{AllByRecursion}
use Rattle.ffi3_type_spec.specs.Value.{ValueTree}
use Rattle.ffi3_io_spec.specs.Sink.{Adds, SinkState}
use Rattle.ffi3_io_spec.specs.Written.{TookText}
use Rattle.ffi3_place_spec.specs.Image.{register}
use Rattle.ffi3_place_spec.specs.Standard.{Standard}
use Rattle.ffi3_semantics_spec.specs.Meaning.{Program, returned, meaning_of}
use Rattle.ffi3_semantics_spec.specs.Trace.{trace_of}
use Rattle.ffi3_semantics_spec.specs.Lines.{Tracing, text_of_run}
use Rattle.ffi3_semantics_spec.specs.Journal.{JournalOf, IsWhole, stack_top}
use Rattle.ffi3_small_step_spec.specs.Depth.{deepest}
use Rattle.ffi3_machine_spec.specs.State.{State, image_of}
use Rattle.ffi3_machine_spec.specs.Slots.{HoldsMap}
use Rattle.ffi3_run_spec.specs.CallSteps.{call_steps, steps_in, returns_in}

-- THE RUN IS TOLD WHOLE: the output took exactly the text of the direct meaning, the journal is that meaning's call tree, the code region holds the bytes of the closures that are live, no byte was written beyond the stack that the tree's calls take, the instructions of these calls and no others are counted, and the reserved registers hold 0, as at first.
pub record RunMatches (tracing : Tracing) (std : Standard) (p : Program) (before after : SinkState) (machine : State)
    : Type 0 where
  pub written : TookText (text_of_run tracing p) before after
  pub target : machine.target ≡ std.target
  pub journal : JournalOf std p.signatures (trace_of p) machine.events
  pub whole : IsWhole (trace_of p) machine.events
  pub code : HoldsMap std.target (meaning_of p).closures machine.code
  pub mark : stack_top ≤ machine.mark + deepest p 0 (trace_of p)
  pub steps : machine.steps ≡ steps_in std.target (trace_of p) % 2 ^ 64
  -- where main returned, each call has returned
  pub calls : (v : ValueTree) → (meaning_of p).end ≡ returned v
      → machine.steps ≡ (call_steps std.target * returns_in (trace_of p)) % 2 ^ 64
  pub reserved : AllByRecursion (λ at. register (image_of 0 machine) at ≡ 0) std.reserved

-- a first part of the text of the direct meaning was written
abbrev pub WrotePart : Tracing → Program → SinkState → SinkState → Type 0
WrotePart tracing p before after =
    (part : ℕ) × Adds before.taken (take part (text_of_run tracing p)) after.taken
