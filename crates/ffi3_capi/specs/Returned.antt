-- What C is told of the result that registers and memory have where a function has returned. What declares the function declares a signature, or has a fault.
use Rattle.std.specs.Prelude.{◌≡◌, ℕ, ◌+◌, ◌-◌, ⊤, List, [], length, replicate, Option, Some, None, cond}
use Rattle.ffi3_type_spec.specs.declared.Target.{Target}
use Rattle.ffi3_type_spec.specs.Tree.{Tree}
use Rattle.ffi3_type_spec.specs.Layout.{size_of}
use Rattle.ffi3_type_spec.specs.Signature.{Signature}
use Rattle.ffi3_type_spec.specs.Value.{ValueTree, part, value_in}
use Rattle.ffi3_place_spec.specs.declared.Loc.{Loc}
use Rattle.ffi3_place_spec.specs.declared.Res.{Res}
use Rattle.ffi3_place_spec.specs.declared.Res.TheVariants.{Nothing, Direct, Hidden}
use Rattle.ffi3_place_spec.specs.Holds.{OwnResult, RegisterHolds}
use Rattle.ffi3_place_spec.specs.Image.{Image, register}
use Rattle.ffi3_place_spec.specs.Standard.{Standard, plan_of}
use Rattle.ffi3_explain_spec.specs.Arguments.{is_in_image}
use Rattle.ffi3_explain_spec.specs.Explain.{first_bytes}
use Rattle.ffi3_explain_spec.specs.Standards.{standard_of}
use Rattle.ffi3_capi.specs.declared.codes.TheConstants.{NOT_IN_STACK, NO_ADDRESS}
use Rattle.ffi3_capi.specs.declared.fault.TextFault.{TextFault}
use Rattle.ffi3_capi.specs.declared.fault.FaultKind.TheVariants.{NoFault}
use Rattle.ffi3_capi.specs.declared.returned.FoundResult.{FoundResult}
use Rattle.ffi3_capi.specs.declared.returned.ReturnedResult.{ReturnedResult}
use Rattle.ffi3_capi.specs.declared.returned.Unfound.{Unfound}
use Rattle.ffi3_capi.specs.declared.returned.Unfound.TheVariants.{Call, NotInStack, NoAddress}
use Rattle.ffi3_capi.specs.declared.status.Refusal.TheVariants.{NoSuchTarget, NoSuchValue, Fault, NoMemory}
use Rattle.ffi3_capi.specs.Entry.{IsCall}
use Rattle.ffi3_capi.specs.Faults.{fault_with}
use Rattle.ffi3_capi.specs.Filled.{has_room, filled, room_status}
use Rattle.ffi3_capi.specs.Placed.{IsPlaceRefusal}
use Rattle.ffi3_capi.specs.Refused.{status_of, fault_in}

-- ---- the result that an image at a return has by the standard alone, whoever called

-- it has these bytes; or they stand from this address on, which is outside the image; or in a buffer whose address no register has
pub data Returned : Type 0 where
  are_bytes : List ℕ → Returned
  is_outside : ℕ → Returned
  has_no_address : Returned

-- the buffer to which the register points that the standard names for that, if any. (System V psABI AMD64 3.2.3, "Returning of Values", step 2, and Microsoft, "Return values": rax. Arm AAPCS64, "Result Return", by which Apple's goes too, and RISC-V ELF psABI, "Integer Calling Convention", name none)
abbrev pub result_behind : Image → Tree → Option Loc → Returned
result_behind m t None = has_no_address
result_behind m t (Some at) =
    cond (is_in_image m (register m at) (size_of t))
    (are_bytes (part m.stack (register m at - m.sp) (size_of t)))
    (is_outside (register m at))

abbrev pub result_by : Standard → Image → Tree → Res → Returned
result_by std m t Nothing = are_bytes []
result_by std m t (Direct pieces) = are_bytes (first_bytes m 0 pieces 0 (size_of t))
result_by std m t (Hidden at buffer) = result_behind m t std.returned_address

-- WHICH RESULT THE IMAGE HAS BY THE STANDARD ALONE: in its registers, where a byte in none is 0, or behind the address that is given back
abbrev pub returned_by_standard : Standard → Signature → Image → Returned
returned_by_standard std s m = result_by std m s.result_type (plan_of std s).res

-- the address of a hidden result's buffer, where a caller of this library has it, stands in that register, if any
abbrev pub AddressStands : Standard → Image → Res → Type 0
AddressStands std m Nothing = ⊤
AddressStands std m (Direct pieces) = ⊤
AddressStands std m (Hidden at buffer) = RegisterHolds m std.returned_address (m.sp + buffer)

-- ---- what is told

-- a result of so many bytes, and the address of its buffer
abbrev pub result_of : ℕ → ℕ → TextFault → ReturnedResult
result_of size address fault =
    record { size = size; address = address; reserved = replicate 2 0; fault = fault }

-- the image has these bytes by the standard alone
pub record IsFoundBy (std : Standard) (s : Signature) (m : Image) (f : FoundResult) : Type 0 where
  pub is : returned_by_standard std s m ≡ are_bytes f.bytes
  -- so they are those of the value that the image owns, whatever stands in the rest of its registers
  pub value : (v : ValueTree) → OwnResult std s v m → AddressStands std m (plan_of std s).res
      → value_in s.result_type f.bytes ≡ v
  pub sized : length f.bytes ≡ size_of s.result_type
  pub told : f.told ≡ result_of (size_of s.result_type) 0 (fault_with NoFault)

-- or why they are not found. Memory alone is free.
abbrev pub IsUnfound : Tree → Returned → Unfound → Type 0
IsUnfound t r (Call NoMemory) = Unit {0}
IsUnfound t r (Call NoSuchTarget) = ⊥
IsUnfound t r (Call (NoSuchValue count)) = ⊥
IsUnfound t r (Call (Fault f)) = ⊥
IsUnfound t r (NotInStack size address) = (size ≡ size_of t) × (r ≡ is_outside address)
IsUnfound t r (NoAddress size) = (size ≡ size_of t) × (r ≡ has_no_address)

abbrev pub IsNotFoundBy : Standard → Signature → Image → Unfound → Type 0
IsNotFoundBy std s m u = IsUnfound s.result_type (returned_by_standard std s m) u

-- THE RESULT, by the standard with this number, of the function that is declared
pub record IsFound (declares : Signature → Type 0) (target : ℕ) (m : Image) (f : FoundResult) : Type 0 where
  pub to : Target
  pub signature : Signature
  pub call : IsCall declares target to signature
  pub found : IsFoundBy (standard_of to) signature m f

-- OR WHY THERE IS NONE
pub record IsNotThere (declares : Signature → Type 0) (target : ℕ) (m : Image) (u : Unfound) : Type 0 where
  pub to : Target
  pub signature : Signature
  pub call : IsCall declares target to signature
  pub unfound : IsNotFoundBy (standard_of to) signature m u

abbrev pub IsNotFound : (Signature → Type 0) → (TextFault → Type 0) → ℕ → Image → Unfound → Type 0
IsNotFound declares is_fault target m (Call r) = IsPlaceRefusal is_fault target r
IsNotFound declares is_fault target m (NotInStack size address) =
    IsNotThere declares target m (NotInStack size address)
IsNotFound declares is_fault target m (NoAddress size) =
    IsNotThere declares target m (NoAddress size)

abbrev pub unfound_status : Unfound → ℕ
unfound_status (Call r) = status_of r
unfound_status (NotInStack size address) = NOT_IN_STACK
unfound_status (NoAddress size) = NO_ADDRESS

-- what is told where there are no bytes
abbrev pub no_result : Unfound → ReturnedResult
no_result (Call r) = result_of 0 0 (fault_in r)
no_result (NotInStack size address) = result_of size address (fault_with NoFault)
no_result (NoAddress size) = result_of size 0 (fault_with NoFault)

-- WHAT ffi3_result ANSWERS, and what it writes into the caller's struct and array
pub data ReadsResult (declares : Signature → Type 0) (is_fault : TextFault → Type 0) (target : ℕ) (m : Image) (old : List ℕ)
    : ℕ → ReturnedResult → List ℕ → Type 0 where
  read : (f : FoundResult) → IsFound declares target m f
      → ReadsResult declares is_fault target m old (room_status (has_room f.bytes old)) f.told (filled f.bytes old)
  unread : (u : Unfound) → IsNotFound declares is_fault target m u
      → ReadsResult declares is_fault target m old (unfound_status u) (no_result u) old
