-- What C is answered where an interface is prepared or shared, and what handles keep then.
use Rattle.std.specs.Prelude.{◌≡◌, ℕ, Option, Some, None, slice_get}
use Rattle.std.specs.Arc.{arc_value}
use Rattle.ffi3_type_spec.specs.declared.Target.{Target}
use Rattle.ffi3_type_spec.specs.Signature.{Signature}
use Rattle.ffi3_prepared.specs.declared.Prepared.{Prepared}
use Rattle.ffi3_prepared.specs.Prepared.{signature_in, target_in}
use Rattle.ffi3_handle.specs.declared.kept.Kept.{Kept}
use Rattle.ffi3_capi.specs.declared.codes.TheConstants.{DONE, OUT_OF_MEMORY, NOT_PREPARED}
use Rattle.ffi3_capi.specs.declared.fault.TextFault.{TextFault}
use Rattle.ffi3_capi.specs.declared.fault.FaultKind.TheVariants.{NoFault}
use Rattle.ffi3_capi.specs.declared.status.Refusal.{Refusal}
use Rattle.ffi3_capi.specs.Faults.{fault_with}
use Rattle.ffi3_capi.specs.Placed.{targets, IsPlaceRefusal}
use Rattle.ffi3_capi.specs.Refused.{status_of, fault_in}

abbrev pub interface_in : Kept → Prepared
interface_in k = arc_value k.prepared

-- an interface of this target and of this signature is kept
pub record KeepsOf (to : Target) (s : Signature) (k : Kept) : Type 0 where
  pub to_is : target_in (interface_in k) ≡ to
  pub signature : signature_in (interface_in k) ≡ s

-- THE INTERFACE of the standard with this number, of the function that is declared
pub record IsInterface (declares : Signature → Type 0) (target : ℕ) (k : Kept) : Type 0 where
  pub to_is : slice_get targets target ≡ Some (target_in (interface_in k))
  pub declared : declares (signature_in (interface_in k))

-- WHAT ffi3_prepare ANSWERS, the fault that it tells, and what is kept then
pub data Prepares (declares : Signature → Type 0) (is_fault : TextFault → Type 0) (target : ℕ) (old : Option Kept)
    : ℕ → TextFault → Option Kept → Type 0 where
  prepared : (k : Kept) → IsInterface declares target k
      → Prepares declares is_fault target old DONE (fault_with NoFault) (Some k)
  refused : (r : Refusal) → IsPlaceRefusal is_fault target r
      → Prepares declares is_fault target old (status_of r) (fault_in r) old

-- WHAT ffi3_share ANSWERS, and what the other handle keeps then. Memory alone is free.
pub data Shares (it old : Option Kept) : ℕ → Option Kept → Type 0 where
  shared : (k other : Kept) → it ≡ Some k → interface_in other ≡ interface_in k → Shares it old DONE (Some other)
  unshared : (k : Kept) → it ≡ Some k → Shares it old OUT_OF_MEMORY old
  nothing : it ≡ None → Shares it old NOT_PREPARED old
