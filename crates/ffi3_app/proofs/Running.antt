-- A run of a program that is the script's beside the natives.
use Rattle.std.proofs.Common.{◌≡◌, ℕ, inr, ap}
use Rattle.std.specs.Prelude.{Bool, Err, true, false}
use Rattle.ffi3_place_spec.specs.Standard.{Standard}
use Rattle.ffi3_semantics_spec.specs.Closures.{Closures}
use Rattle.ffi3_semantics_spec.specs.Meaning.{Program}
use Rattle.ffi3_small_step_spec.specs.MainTracing.{main_tracing}
use Rattle.ffi3_machine_spec.specs.State.{State}
use Rattle.ffi3_run_spec.specs.RunInterrupted.{RunWasInterrupted}
use Rattle.ffi3_run_spec.specs.RunMatches.{WrotePart}
use Rattle.ffi3_io_spec.specs.Sink.{Rose, SinkState}
use Rattle.ffi3_app.specs.declared.unfinished.Unfinished.TheVariants.{NoMemory, WriteFault}
use Rattle.ffi3_app_spec.specs.Outcome.{Outcome, runs}
use Rattle.ffi3_app.specs.Work.{Works}

-- what was run of a program was run of the same program
module _ (trace : Bool) (std : Standard) (p q : Program) (same : p ≡ q) (output output' : SinkState) (machine machine' : State) (closures : Closures) (moves : ℕ) where
  abbrev Run : Outcome → Type 0
  Run o = o ≡ runs trace std q

  is_run : runs trace std p ≡ runs trace std q
  is_run = ap (λ (x : Program). runs trace std x) same

  pub short_works : WrotePart (main_tracing trace std) p output output' → RunWasInterrupted (main_tracing trace std) std p false output output' machine' closures moves → output'.faults ≡ output.faults → Works Run output output' machine machine' (Err NoMemory)
  short_works part told count =
      (inr (runs trace std p, is_run, (part, closures, moves, told)), count)

  pub failed_works : WrotePart (main_tracing trace std) p output output' → RunWasInterrupted (main_tracing trace std) std p true output output' machine' closures moves → Rose output.faults output'.faults → Works Run output output' machine machine' (Err WriteFault)
  failed_works part told rose =
      ((runs trace std p, is_run, (part, closures, moves, told)), rose)
