-- The stack after a call that was served.
use Rattle.std.proofs.Common.{◌≡◌, ◌+◌, ◌⊎◌, inl, inr, Bool, List, subst}
use Rattle.ffi3_type_spec.specs.Value.{ValueTree}
use Rattle.ffi3_place_spec.specs.Standard.{Standard}
use Rattle.ffi3_semantics_spec.specs.declared.Closure.{Closure}
use Rattle.ffi3_semantics_spec.specs.Meaning.{Program}
use Rattle.ffi3_machine_spec.specs.State.{State}
use Rattle.ffi3_io_spec.specs.Sink.{SinkState}
use Rattle.ffi3_io_spec.specs.declared.IoError.{IoError}
use Rattle.ffi3_io_spec.specs.declared.IoError.TheVariants as cut
use Rattle.ffi3_next_move.specs.declared.standing.Standing.{Standing}
use Rattle.ffi3_run_state.specs.declared.configuration.Configuration.{Configuration}
use Rattle.ffi3_runner.specs.Serving.{HasNotRun, HasRun, IsAtEntry, Served, end_of}
use Rattle.ffi3_runner.specs.declared.run.RunEnd.{RunEnd}
use Rattle.ffi3_runner.specs.declared.run.RunEnd.TheVariants as run

no_end : (why : IoError) → run.Done ≡ end_of why → ⊥
no_end cut.NoMemory is = cc
no_end cut.Failed is = cc

module _ (std : Standard) (trace : Bool) (p : Program) (closure : Closure) (arguments : List ValueTree) (b : Configuration Standing) (m : State) (output : SinkState) (b' : Configuration Standing) (m' : State) (output' : SinkState) where
  -- where it returned, the return address is popped
  popped : HasRun std trace p closure arguments b m output b' m' output' run.Done ⊎ HasNotRun std trace p closure arguments b m output b' m' output' run.Done → m'.sp ≡ m.sp + std.link
  popped (inl has) = has.ran.left.sp
  popped (inr not) = absurd (no_end not.why not.answer)

  pub returned_sp : (end : RunEnd) → end ≡ run.Done → IsAtEntry std p b.table m closure arguments → Served std trace p b m output b' m' output' end → m'.sp ≡ m.sp + std.link
  returned_sp end is entry served =
      popped (subst (λ (e : RunEnd). HasRun std trace p closure arguments b m output b' m' output' e ⊎ HasNotRun std trace p closure arguments b m output b' m' output' e) is (served closure arguments entry))
