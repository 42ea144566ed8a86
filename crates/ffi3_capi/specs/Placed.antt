-- What `ffi3_place` and `ffi3_place_nodes` answer, and what they write. What they are given declares a signature, or has a fault.
use Rattle.std.specs.Prelude.{◌≡◌, ℕ, List, [], ◌∷◌, ◌++◌, length, Some, None, IsSome, slice_get}
use Rattle.ffi3_type_spec.specs.declared.Target.{Target}
use Rattle.ffi3_type_spec.specs.declared.Target.TheVariants.{Amd64, Aapcs64, Riscv, Win64, Apple}
use Rattle.ffi3_type_spec.specs.Signature.{Signature}
use Rattle.ffi3_place_spec.specs.Standard.{Standard, plan_of}
use Rattle.ffi3_explain_spec.specs.Standards.{standard_of}
use Rattle.ffi3_capi.specs.declared.fault.TextFault.{TextFault}
use Rattle.ffi3_capi.specs.declared.pieces.PlacedPiece.{PlacedPiece}
use Rattle.ffi3_capi.specs.declared.placing.PlacedCall.{PlacedCall}
use Rattle.ffi3_capi.specs.declared.placing.Placement.{Placement}
use Rattle.ffi3_capi.specs.declared.status.Refusal.{Refusal}
use Rattle.ffi3_capi.specs.declared.status.Refusal.TheVariants.{NoSuchTarget, NoSuchValue, Fault, NoMemory}
use Rattle.ffi3_capi.specs.declared.fault.FaultKind.TheVariants.{NoFault}
use Rattle.ffi3_capi.specs.Faults.{fault_with}
use Rattle.ffi3_capi.specs.Filled.{has_room, filled, room_status}
use Rattle.ffi3_capi.specs.Pieces.{passed_of, returned_of}
use Rattle.ffi3_capi.specs.Refused.{status_of, fault_in}

-- by number, from 0
abbrev pub targets : List Target
targets = Amd64 ∷ Aapcs64 ∷ Riscv ∷ Win64 ∷ Apple ∷ []

-- what is passed, and then what is given back
abbrev pub pieces_of : Standard → Signature → List PlacedPiece
pieces_of std s = passed_of std s ++ returned_of std s

abbrev pub call_of : Standard → Signature → PlacedCall
call_of std s = record {
  need = (plan_of std s).need;
  frame = (plan_of std s).frame;
  block = (plan_of std s).block;
  vectors = (plan_of std s).vectors;
  arguments = length s.arguments;
  pieces = length (pieces_of std s);
  passed = length (passed_of std s);
  fault = fault_with NoFault;
}

-- of a call that is none, why
abbrev pub no_call : TextFault → PlacedCall
no_call fault = record {
  need = 0;
  frame = 0;
  block = 0;
  vectors = 0;
  arguments = 0;
  pieces = 0;
  passed = 0;
  fault = fault;
}

abbrev pub placement_of : Standard → Signature → Placement
placement_of std s = record { call = call_of std s; pieces = pieces_of std s }

-- THE PLACES of a call, by the standard with this number, of the function that is declared
pub record IsPlacement (declares : Signature → Type 0) (target : ℕ) (p : Placement) : Type 0 where
  pub to : Target
  pub to_is : slice_get targets target ≡ Some to
  pub signature : Signature
  pub declared : declares signature
  pub is : p ≡ placement_of (standard_of to) signature

-- OR WHY THERE ARE NONE: no standard has the number, or no function is declared. Memory alone is free.
abbrev pub IsPlaceRefusal : (TextFault → Type 0) → ℕ → Refusal → Type 0
IsPlaceRefusal is_fault target NoSuchTarget = slice_get targets target ≡ None
IsPlaceRefusal is_fault target (NoSuchValue count) = ⊥
IsPlaceRefusal is_fault target (Fault f) = IsSome (slice_get targets target) × is_fault f
IsPlaceRefusal is_fault target NoMemory = Unit {0}

-- WHAT ffi3_place ANSWERS, and what it writes into the caller's struct and array
pub data Places (declares : Signature → Type 0) (is_fault : TextFault → Type 0) (target : ℕ) (old : List PlacedPiece)
    : ℕ → PlacedCall → List PlacedPiece → Type 0 where
  placed : (p : Placement) → IsPlacement declares target p
      → Places declares is_fault target old (room_status (has_room p.pieces old)) p.call (filled p.pieces old)
  refused : (r : Refusal) → IsPlaceRefusal is_fault target r
      → Places declares is_fault target old (status_of r) (no_call (fault_in r)) old
