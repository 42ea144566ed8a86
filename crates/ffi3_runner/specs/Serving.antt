-- A call that a runner serves.
use Rattle.std.specs.Prelude.{◌≡◌, ◌⊎◌, Bool, List, Some}
use Rattle.ffi3_type_spec.specs.Signature.{signature_at}
use Rattle.ffi3_type_spec.specs.Value.{ValueTree}
use Rattle.ffi3_place_spec.specs.Standard.{Standard}
use Rattle.ffi3_semantics_spec.specs.declared.Closure.{Closure}
use Rattle.ffi3_semantics_spec.specs.Closures.{Closures, closure_at}
use Rattle.ffi3_semantics_spec.specs.Meaning.{Program}
use Rattle.ffi3_machine_spec.specs.State.{State}
use Rattle.ffi3_io_spec.specs.Sink.{SinkState}
use Rattle.ffi3_io_spec.specs.Written.{TookText}
use Rattle.ffi3_io_spec.specs.declared.IoError.{IoError}
use Rattle.ffi3_io_spec.specs.declared.IoError.TheVariants as cut
use Rattle.ffi3_invoke.specs.Calls.{entered_closure, entry_at}
use Rattle.ffi3_next_move.specs.declared.standing.Standing.{Standing}
use Rattle.ffi3_run_state.specs.declared.configuration.Configuration.{Configuration}
use Rattle.ffi3_run_state.specs.Accepted.{WasInterruptedAtEntry}
use Rattle.ffi3_run_state.specs.Served.{ShowsCall, served_base, served_beginning, served_left, served_tracing}
use Rattle.ffi3_run_state.specs.TraceLines.{entry_lines}
use Rattle.ffi3_runner.specs.Ran.{Ran}
use Rattle.ffi3_runner.specs.declared.run.RunEnd.{RunEnd}
use Rattle.ffi3_runner.specs.declared.run.RunEnd.TheVariants as run

-- THE MACHINE STANDS AT A LIVE CLOSURE'S ENTRY, with these values for its function.
pub record IsAtEntry (std : Standard) (p : Program) (closures : Closures) (m : State) (closure : Closure)
    (arguments : List ValueTree) : Type 0 where
  pub live : closure_at closures (entered_closure m) ≡ Some closure
  pub shows : ShowsCall std (signature_at p.signatures closure.sig) arguments m

-- what a run came to that was interrupted
abbrev pub end_of : IoError → RunEnd
end_of cut.NoMemory = run.NoMemory
end_of cut.Failed = run.Failed

module _ (std : Standard) (trace : Bool) (p : Program) (closure : Closure) (arguments : List ValueTree)
    (b : Configuration Standing) (m : State) (output : SinkState) where
  -- THE CALL RAN: its entry was told where it is traced, and what came then is what the direct meaning leaves of the closure's function on these values, with the closures and moves that were left.
  pub record HasRun (b' : Configuration Standing) (m' : State) (output' : SinkState) (end : RunEnd) : Type 0 where
    pub told : SinkState
    pub entry :
        TookText
        (entry_lines trace std (signature_at p.signatures closure.sig)
        (entry_at std (signature_at p.signatures closure.sig) m) arguments)
        output told
    pub ran :
        Ran p
        (served_base std p closure arguments m b.table b.moves)
        (served_left std p closure arguments m b.table b.moves)
        (served_beginning std (signature_at p.signatures closure.sig) m told
        (served_tracing trace std p.signatures closure.sig m))
        b' m' output' end

  -- or it was interrupted in the lines of its entry, or before them, and the configuration is as it was
  pub record HasNotRun (b' : Configuration Standing) (m' : State) (output' : SinkState) (end : RunEnd) : Type 0 where
    pub why : IoError
    pub answer : end ≡ end_of why
    pub kept : b' ≡ b
    pub cut_off :
        WasInterruptedAtEntry std (signature_at p.signatures closure.sig) arguments trace why m m' output output'

-- WHAT CAME OF A CALL THAT IS SERVED, whatever closure and values the machine showed
abbrev pub Served : Standard → (trace : Bool) → Program
    → Configuration Standing → State → SinkState → Configuration Standing → State → SinkState → RunEnd → Type 0
Served std trace p b m output b' m' output' end =
    (closure : Closure) (arguments : List ValueTree) → IsAtEntry std p b.table m closure arguments
    → HasRun std trace p closure arguments b m output b' m' output' end
    ⊎ HasNotRun std trace p closure arguments b m output b' m' output' end
