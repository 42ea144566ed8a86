-- A machine that shows a call of a live closure, in which a byte stands in everything that the callee must not look at.
use Rattle.std.specs.Prelude.{◌≡◌, ℕ, ◌+◌, ◌<◌, true, List, length, Some}
use Rattle.ffi3_type_spec.specs.Signature.{Signature, signature_at}
use Rattle.ffi3_type_spec.specs.Value.{ValueTree}
use Rattle.ffi3_place_spec.specs.declared.Loc.{Loc}
use Rattle.ffi3_place_spec.specs.declared.Loc.TheVariants.{S}
use Rattle.ffi3_place_spec.specs.Standard.{Standard}
use Rattle.ffi3_semantics_spec.specs.declared.Closure.{Closure}
use Rattle.ffi3_semantics_spec.specs.Closures.{Closures, closure_at}
use Rattle.ffi3_machine_spec.specs.State.{State}
use Rattle.ffi3_machine_transfer.specs.Stored.{IsPlace, byte_of, stack_byte}
use Rattle.ffi3_poison.specs.Poison.{is_free}
use Rattle.ffi3_invoke.specs.Calls.{entered_closure}
use Rattle.ffi3_run_state.specs.Served.{ShowsCall}

-- THE MACHINE STANDS AT THE ENTRY of a live closure by this signature, with these values.
pub record IsShown (std : Standard) (signatures : List Signature) (closures : Closures) (arguments : List ValueTree)
    (sig : ℕ) (m : State) : Type 0 where
  pub closure : Closure
  pub signature : closure.sig ≡ sig
  pub below : sig < length signatures
  pub live : closure_at closures (entered_closure m) ≡ Some closure
  pub shows : ShowsCall std (signature_at signatures sig) arguments m

-- AT THE ENTRY OF A CALL BY THIS SIGNATURE THE BYTE STANDS IN ALL that the callee must not look at: in registers, and in the frame.
pub record IsOverwritten (std : Standard) (s : Signature) (byte : ℕ) (m : State) : Type 0 where
  pub registers : (l : Loc) (k : ℕ) → IsPlace 0 l → k < 8 → is_free std s l k ≡ true
      → byte_of (m.sp + std.link) m l k ≡ byte
  pub frame : (n : ℕ) → is_free std s (S n 1) 0 ≡ true → stack_byte m (m.sp + std.link + n) ≡ byte
