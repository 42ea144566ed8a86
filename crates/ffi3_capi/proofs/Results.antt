-- A result that an image holds is what is read of it by the standard alone; and what is answered to C.
use Rattle.std.specs.Prelude.{true, false, cond, Bool, Option, Some, None, slice_get}
use Rattle.std.proofs.Common.{◌≡◌, ℕ, ◌+◌, ◌-◌, List, length, refl, ap, sym, ◌∙◌, subst, arith}
use Rattle.std.specs.List.{AllByRecursion}
use Rattle.ffi3_type_spec.specs.declared.Target.{Target}
use Rattle.ffi3_type_spec.specs.Tree.{Tree, void}
use Rattle.ffi3_type_spec.specs.Layout.{size_of}
use Rattle.ffi3_type_spec.specs.TargetIsa.{isa_of}
use Rattle.ffi3_type_spec.specs.Signature.{Signature}
use Rattle.ffi3_type_spec.specs.Value.{ValueTree, void_value, value_in, fits, part}
use Rattle.ffi3_place_spec.specs.declared.Loc.{Loc}
use Rattle.ffi3_place_spec.specs.declared.Res.{Res}
use Rattle.ffi3_place_spec.specs.declared.Res.TheVariants.{Nothing, Direct, Hidden}
use Rattle.ffi3_place_spec.specs.Image.{Image, register}
use Rattle.ffi3_place_spec.specs.MachineRegisters.{to_list}
use Rattle.ffi3_place_spec.specs.Standard.{Standard, plan_of}
use Rattle.ffi3_place_spec.specs.Holds.{OwnResult, OwnsResult, RegisterHolds}
use Rattle.ffi3_place_spec.specs.Sound.{IsSound, LiesIn, ResultHasAll}
use Rattle.ffi3_place_spec.proofs.Further.{each_stands}
use Rattle.ffi3_explain_spec.specs.Arguments.{is_in_image}
use Rattle.ffi3_explain_spec.proofs.Pieces.{stood_is_read}
use Rattle.ffi3_explain_spec.specs.Explain.{first_bytes}
use Rattle.ffi3_explain_spec.specs.Standards.{standard_of}
use Rattle.ffi3_transfer.specs.Places.{HasPlace}
use Rattle.ffi3_transfer.proofs.Ready.{places_there}
use Rattle.ffi3_capi.specs.declared.fault.TextFault.{TextFault}
use Rattle.ffi3_capi.specs.declared.fault.FaultKind.TheVariants.{NoFault}
use Rattle.ffi3_capi.specs.Faults.{fault_with}
use Rattle.ffi3_capi.specs.declared.returned.FoundResult.{FoundResult}
use Rattle.ffi3_capi.specs.declared.returned.Unfound.{Unfound}
use Rattle.ffi3_capi.specs.declared.returned.Unfound.TheVariants.{Call}
use Rattle.ffi3_capi.specs.declared.status.Refusal.TheVariants.{NoMemory}
use Rattle.ffi3_capi.specs.Placed.{targets}
use Rattle.ffi3_capi.specs.Returned.{AddressStands, are_bytes, is_outside, result_behind, result_by, returned_by_standard, IsFoundBy, IsNotFound, IsNotFoundBy, result_of}

-- the place of the result is that of the plan
pub by_place : (std : Standard) (s : Signature) (m : Image) (r : Res) → r ≡ (plan_of std s).res → result_by std m s.result_type r ≡ returned_by_standard std s m
by_place std s m r is = ap (result_by std m s.result_type) is

-- the register of the address is one of the machine's
pub address_there : (std : Standard) (m : Image) (at : Option Loc) → AllByRecursion (LiesIn (isa_of std.target) 0) (to_list std.returned_address) → at ≡ std.returned_address → AllByRecursion (HasPlace m 0) (to_list at)
address_there std m at lie is =
    subst (λ (o : Option Loc). AllByRecursion (HasPlace m 0) (to_list o)) (sym is)
    (places_there m 0 (isa_of std.target) 0 (to_list std.returned_address) (omega arith) (each_stands (isa_of std.target) 0 (to_list std.returned_address) lie))

-- ---- the value that the image holds

same_bytes : (a b : List ℕ) → are_bytes a ≡ are_bytes b → a ≡ b
same_bytes a b e = cc

void_fits : (v : ValueTree) (bytes : List ℕ) → fits void v ≡ true → value_in void bytes ≡ v
void_fits void_value bytes fit = refl
void_fits _ bytes fit = cc

module _ (m : Image) (t : Tree) (at : Loc) (buffer : ℕ) (v : ValueTree) (bytes : List ℕ) where
  by_test : (b : Bool) → cond b (are_bytes (part m.stack (register m at - m.sp) (size_of t))) (is_outside (register m at)) ≡ are_bytes bytes → bytes ≡ part m.stack (register m at - m.sp) (size_of t)
  by_test true e = cc
  by_test false e = cc

  held_behind : register m at ≡ m.sp + buffer → value_in t (part m.stack (0 + buffer) (size_of t)) ≡ v → result_behind m t (Some at) ≡ are_bytes bytes → value_in t bytes ≡ v
  held_behind points stands e =
      let offset : register m at - m.sp ≡ 0 + buffer = omega (arith, points) in
      ap (value_in t) (by_test (is_in_image m (register m at) (size_of t)) e)
      ∙ ap (λ (n : ℕ). value_in t (part m.stack n (size_of t))) offset ∙ stands

held_in_buffer : (m : Image) (t : Tree) (o : Option Loc) (buffer : ℕ) (v : ValueTree) (bytes : List ℕ) → RegisterHolds m o (m.sp + buffer) → value_in t (part m.stack (0 + buffer) (size_of t)) ≡ v → result_behind m t o ≡ are_bytes bytes → value_in t bytes ≡ v
held_in_buffer m t None buffer v bytes points stands e = cc
held_in_buffer m t (Some at) buffer v bytes points stands e =
    held_behind m t at buffer v bytes points stands e

held_at : (std : Standard) (m : Image) (t : Tree) (r : Res) (v : ValueTree) (bytes : List ℕ) → ResultHasAll t r → fits t v ≡ true → OwnsResult m t r v → AddressStands std m r → result_by std m t r ≡ are_bytes bytes → value_in t bytes ≡ v
held_at std m t Nothing v bytes all fit owns points e =
    subst (λ u. value_in u bytes ≡ v) (sym all) (void_fits v bytes (subst (λ u. fits u v ≡ true) all fit))
held_at std m t (Direct pieces) v bytes all fit owns points e =
    ap (value_in t) (sym (same_bytes (first_bytes m 0 pieces 0 (size_of t)) bytes e)) ∙ stood_is_read m 0 t pieces v all fit owns
held_at std m t (Hidden at buffer) v bytes all fit owns points e =
    held_in_buffer m t std.returned_address buffer v bytes points owns e

pub held_is_found : (std : Standard) (s : Signature) (m : Image) (bytes : List ℕ) → IsSound std s → returned_by_standard std s m ≡ are_bytes bytes → (v : ValueTree) → OwnResult std s v m → AddressStands std m (plan_of std s).res → value_in s.result_type bytes ≡ v
held_is_found std s m bytes sound is v owns points =
    held_at std m s.result_type (plan_of std s).res v bytes sound.result_has_all owns.fitting owns.stands points is

-- what is found by an interface of the signature
pub found_by : (std : Standard) (cif s : Signature) (m : Image) (f : FoundResult) → cif ≡ s → IsSound std s → returned_by_standard std cif m ≡ are_bytes f.bytes → length f.bytes ≡ size_of cif.result_type → f.told ≡ result_of (length f.bytes) 0 (fault_with NoFault) → IsFoundBy std s m f
found_by std cif s m f same sound is sized told =
    let here : returned_by_standard std s m ≡ are_bytes f.bytes = ap (λ (r : Signature). returned_by_standard std r m) (sym same) ∙ is in
    let size : length f.bytes ≡ size_of s.result_type = sized ∙ ap (λ (r : Signature). size_of r.result_type) same in
    record {
      is = here;
      value = held_is_found std s m f.bytes sound here;
      sized = size;
      told = told ∙ ap (λ (n : ℕ). result_of n 0 (fault_with NoFault)) size;
    }

-- ---- what is answered

pub is_not_found : (declares : Signature → Type 0) (is_fault : TextFault → Type 0) (target : ℕ) (m : Image) (to : Target) (s : Signature) (u : Unfound) → slice_get targets target ≡ Some to → declares s → IsNotFoundBy (standard_of to) s m u → IsNotFound declares is_fault target m u
is_not_found declares is_fault target m to s (Call NoMemory) is declared why = tt
is_not_found declares is_fault target m to s (Call _) is declared why = absurd why
is_not_found declares is_fault target m to s _ is declared why = record {
  to = to;
  signature = s;
  call = record { to_is = is; declared = declared };
  unfound = why;
}
