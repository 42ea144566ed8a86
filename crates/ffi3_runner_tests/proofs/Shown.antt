-- A call that is shown stands at its closure's entry, and its return leaves room for the result.
use Rattle.std.proofs.Common.{◌≡◌, ℕ, ◌+◌, ◌≤◌, false, List, Some, sym, subst, arith}
use Rattle.ffi3_type_spec.specs.declared.limits.TheConstants.{STACK, STACK_TOP}
use Rattle.ffi3_type_spec.specs.Signature.{Signature, signature_at}
use Rattle.ffi3_type_spec.specs.Value.{ValueTree}
use Rattle.ffi3_place_spec.specs.Standard.{Standard, frame_of}
use Rattle.ffi3_semantics_spec.specs.declared.Closure.{Closure}
use Rattle.ffi3_semantics_spec.specs.Closures.{Closures, closure_at}
use Rattle.ffi3_semantics_spec.specs.Meaning.{Program}
use Rattle.ffi3_machine_spec.specs.State.{State}
use Rattle.ffi3_io_spec.specs.Sink.{SinkState}
use Rattle.ffi3_invoke.specs.Calls.{entered_closure}
use Rattle.ffi3_next_move.specs.declared.standing.Standing.{Standing}
use Rattle.ffi3_run_state.specs.declared.configuration.Configuration.{Configuration}
use Rattle.ffi3_run_state.specs.Served.{ShowsCall}
use Rattle.ffi3_runner.specs.Serving.{IsAtEntry, Served}
use Rattle.ffi3_runner.specs.declared.run.RunEnd.{RunEnd}
use Rattle.ffi3_runner.specs.declared.run.RunEnd.TheVariants as run
use Rattle.ffi3_runner_tests.specs.Shown.{IsShown}
use Rattle.ffi3_runner_tests.proofs.Popped.{returned_sp}

module _ (std : Standard) (p : Program) (signatures : List Signature) (table closures : Closures) (arguments : List ValueTree) (m : State) (sig : ℕ) (shown : IsShown std signatures closures arguments sig m) (same : closures ≡ table) (are : signatures ≡ p.signatures) where
  entry_of : IsAtEntry std p table m shown.closure arguments
  entry_of = record {
    live = subst (λ (t : Closures). closure_at t (entered_closure m) ≡ Some shown.closure) same shown.live;
    shows = subst (λ (l : List Signature). ShowsCall std (signature_at l shown.closure.sig) arguments m) are (subst (λ n. ShowsCall std (signature_at signatures n) arguments m) (sym shown.signature) shown.shows);
  }

  pub at_entry : (closure : Closure) × (vs : List ValueTree) × IsAtEntry std p table m closure vs
  at_entry = (shown.closure, arguments, entry_of)

  module _ (b b' : Configuration Standing) (m' : State) (output output' : SinkState) (end : RunEnd) (done : end ≡ run.Done) (configuration : b.table ≡ table) (served : Served std false p b m output b' m' output' end) where
    popped_to : m'.sp ≡ m.sp + std.link
    popped_to = returned_sp std false p shown.closure arguments b m output b' m' output' end done (subst (λ (t : Closures). IsAtEntry std p t m shown.closure arguments) (sym configuration) entry_of) served

    pub bottom : STACK ≤ m'.sp
    bottom = omega (arith, popped_to, shown.shows.room)

    pub frame : (s : Signature) → s ≡ signature_at signatures sig → m'.sp + frame_of std s ≤ STACK_TOP
    frame s s_is =
        subst (λ (x : Signature). m'.sp + frame_of std x ≤ STACK_TOP) (sym s_is) (omega (arith, popped_to, shown.shows.frame))
