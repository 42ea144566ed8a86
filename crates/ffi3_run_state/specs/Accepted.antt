-- What came of the entry of a served call, and of its lines where the run is traced.
use Rattle.std.specs.Prelude.{◌≡◌, ℕ, ◌+◌, ◌≤◌, ◌⊎◌, Bool, List, [], ◌∷◌, ◌++◌, Result, Ok, Err}
use Rattle.ffi3_type_spec.specs.Signature.{Signature, signature_at}
use Rattle.ffi3_type_spec.specs.Value.{ValueTree}
use Rattle.ffi3_place_spec.specs.Standard.{Standard, frame_of, need_of}
use Rattle.ffi3_semantics_spec.specs.declared.Closure.{Closure}
use Rattle.ffi3_semantics_spec.specs.Meaning.{Program}
use Rattle.ffi3_machine_spec.specs.State.{State, stack_at}
use Rattle.ffi3_io_spec.specs.Sink.{SinkState}
use Rattle.ffi3_io_spec.specs.Written.{TookText}
use Rattle.ffi3_io_spec.specs.declared.IoError.{IoError}
use Rattle.ffi3_invoke.specs.Calls.{entry_at}
use Rattle.ffi3_run_state.specs.declared.configuration.Configuration.{Configuration}
use Rattle.ffi3_run_state.specs.Counted.{accepted_steps}
use Rattle.ffi3_run_state.specs.Served.{served_base, served_beginning, served_left, served_tracing}
use Rattle.ffi3_run_state.specs.TraceLines.{entry_lines}
use Rattle.ffi3_run_state.specs.Turned.{StandsAt}
use Rattle.ffi3_io_spec.specs.Written.{LineInterrupted}

-- THE SERVED CALL WAS INTERRUPTED AT ITS ENTRY, in its lines or, for want of memory, before them: the entry is in the journal and its steps are counted, no byte was written below what the call needs, none from the entry's sp on, and nothing else happened.
pub record WasInterruptedAtEntry (std : Standard) (s : Signature) (arguments : List ValueTree) (trace : Bool)
    (why : IoError) (m m' : State) (output output' : SinkState) : Type 0 where
  pub journal : m'.events ≡ m.events ++ entry_at std s m ∷ []
  pub lines : LineInterrupted (entry_lines trace std s (entry_at std s m) arguments) output output' why
  pub mark : (m.mark ≤ m'.mark) ⊎ (m.sp + std.link + frame_of std s ≤ m'.mark + need_of std s)
  pub steps : m'.steps ≡ accepted_steps m.target m.steps
  pub target : m'.target ≡ std.target
  pub code : m'.code ≡ m.code
  pub stack : (address count : ℕ) → m.sp ≤ address → stack_at address count m' ≡ stack_at address count m

-- THE SERVED CALL WAS ACCEPTED: its entry is told where the run is traced, and its run stands before the first move; or it was interrupted there.
abbrev pub Accepted : {S A : Type 0} → Standard → Program → Closure → List ValueTree → (trace : Bool)
    → Configuration S → State → SinkState → Configuration S → State → SinkState → Result A IoError → Type 0
Accepted std p closure arguments trace b m output b' m' output' (Ok done) =
    TookText
    (entry_lines trace std (signature_at p.signatures closure.sig)
    (entry_at std (signature_at p.signatures closure.sig) m) arguments)
    output output'
    × StandsAt p
    (served_base std p closure arguments m b.table b.moves)
    (served_left std p closure arguments m b.table b.moves)
    (served_beginning std (signature_at p.signatures closure.sig) m output'
    (served_tracing trace std p.signatures closure.sig m))
    [] [] b' m' output'
Accepted std p closure arguments trace b m output b' m' output' (Err why) =
    WasInterruptedAtEntry std (signature_at p.signatures closure.sig) arguments trace why m m' output output'
