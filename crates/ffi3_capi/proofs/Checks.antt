-- What is told of a text that is checked.
use Rattle.std.proofs.Common.{◌≡◌, ℕ, List, [], ◌∷◌, length, map, ap, sym, subst, refl, ◌∙◌, zero, suc}
use Rattle.std.specs.Prelude.{IsUtf8, IsSome, Some, None, slice_get, slice_index_or}
use Rattle.ffi3_type_spec.specs.Fault.{left_out_type}
use Rattle.ffi3_type_spec.specs.Tree.{Tree, left_out, long_double, complex, vector}
use Rattle.ffi3_type_spec.specs.Signature.{Signature, SignatureFault, bad_type}
use Rattle.ffi3_cdecl_spec.specs.Tokens.{wide, Sign}
use Rattle.ffi3_cdecl_spec.specs.Reading.{bad_token, unexpected, bad_number, bad_signature, IsReadingIn}
use Rattle.ffi3_cdecl_spec.specs.Reasons.{Told, IsTold}
use Rattle.ffi3_cdecl_spec.specs.Telling.{tell}
use Rattle.ffi3_cdecl_spec.specs.ReadingFor.{IsReadingFor}
use Rattle.ffi3_diagnostics.specs.declared.expected.Expected.{Expected}
use Rattle.ffi3_diagnostics.specs.ToldOf.{expected_of, kinds_of}
use Rattle.ffi3_capi.specs.declared.codes.TheConstants.{DONE, NOT_DECLARED}
use Rattle.ffi3_capi.specs.declared.checking.CheckedText.{CheckedText}
use Rattle.ffi3_capi.specs.declared.fault.TextFault.{TextFault}
use Rattle.ffi3_capi.specs.declared.fault.FaultKind.TheVariants.{NoFault, NotUtf8, BadToken, Unexpected, BadNumber}
use Rattle.ffi3_capi.specs.declared.status.Refusal.{Refusal}
use Rattle.ffi3_capi.specs.declared.status.Refusal.TheVariants.{NoSuchTarget, Fault, NoMemory}
use Rattle.ffi3_capi.specs.Chars.{char_sign}
use Rattle.ffi3_capi.specs.Faults.{kind_number, fault_with, fault_at, signature_fault, left_out_kind, IsFaultIn, misread_in, no_text as bad_bytes, DeclaresIn}
use Rattle.ffi3_capi.specs.Formats.{long_double_on}
use Rattle.ffi3_capi.specs.Placed.{targets}
use Rattle.ffi3_capi.specs.Refused.{status_of, fault_in}
use Rattle.ffi3_capi.specs.CheckedText.{expected_number, told_at, nothing_beside, IsUnexpectedIn, IsCheckRefusal, ChecksText, declares, is_unexpected, refused}

pub kinds_count : (kinds : List Expected) → length kinds ≡ length (kinds_of kinds)
kinds_count [] = refl
kinds_count (k ∷ kinds) = ap suc (kinds_count kinds)

-- kind i of those that are told, by number
pub number_there : (kinds : List Expected) (i : ℕ) (k : Expected) → slice_get kinds i ≡ Some k → expected_number (expected_of k) ≡ slice_index_or (map expected_number (kinds_of kinds)) i 0
number_there [] i k e = cc
number_there (j ∷ kinds) zero k e =
    let same : k ≡ j = cc in ap (λ h. expected_number (expected_of h)) same
number_there (j ∷ kinds) (suc i) k e = number_there kinds i k e

pub no_number_there : (kinds : List Expected) (i : ℕ) → slice_get kinds i ≡ None → 0 ≡ slice_index_or (map expected_number (kinds_of kinds)) i 0
no_number_there (j ∷ kinds) zero e = cc
no_number_there (j ∷ kinds) (suc i) e = no_number_there kinds i e
no_number_there [] _ e = refl

pub unexpected_there : (c : Sign) (text : List ℕ) (at : ℕ) (t : Told) (u : CheckedText) → u ≡ told_at at t → t ≡ tell c text at → (IsReadingIn wide c text (unexpected at) → IsTold c text at t) → IsUtf8 text → IsReadingIn wide c text (unexpected at) → IsUnexpectedIn c text u
unexpected_there c text at t u is computed told utf8 there = record {
  at = at;
  utf8 = utf8;
  there = there;
  is_told = subst (λ (s : Told). IsTold c text at s) computed (told there);
  is = is ∙ ap (told_at at) computed;
}

module _ (target : ℕ) (text : List ℕ) where
  -- an answer with what is told beside it
  answers : (n m : ℕ) (u v : CheckedText) → n ≡ m → u ≡ v → ChecksText target text m v → ChecksText target text n u
  answers n m u v e f h =
      subst (λ k. ChecksText target text k u) (sym e) (subst (λ w. ChecksText target text m w) (sym f) h)

  pub is_refused : (r : Refusal) (n : ℕ) (u : CheckedText) → n ≡ status_of r → u ≡ nothing_beside (fault_in r) → IsCheckRefusal target text r → ChecksText target text n u
  is_refused r n u e f h =
      answers n (status_of r) u (nothing_beside (fault_in r)) e f (refused r h)

  pub no_memory : (n : ℕ) (u : CheckedText) → n ≡ status_of NoMemory → u ≡ nothing_beside (fault_in NoMemory) → ChecksText target text n u
  no_memory n u e f = is_refused NoMemory n u e f tt

  pub no_target : (n : ℕ) (u : CheckedText) → n ≡ status_of NoSuchTarget → u ≡ nothing_beside (fault_in NoSuchTarget) → slice_get targets target ≡ None → ChecksText target text n u
  no_target n u e f none = is_refused NoSuchTarget n u e f none

  pub place_told : (u : CheckedText) → IsSome (slice_get targets target) → IsUnexpectedIn (char_sign target) text u → ChecksText target text NOT_DECLARED u
  place_told u some there = is_unexpected u some there

  pub declares_told : (s : Signature) (f : TextFault) (u : CheckedText) → f ≡ fault_with NoFault → u ≡ nothing_beside f → IsSome (slice_get targets target) → DeclaresIn (long_double_on target) (char_sign target) text s → ChecksText target text DONE u
  declares_told s f u e g some is =
      subst (λ v. ChecksText target text DONE v) (sym (g ∙ ap nothing_beside e)) (declares s some is)

  other_fault : (f g : TextFault) (n : ℕ) (u : CheckedText) → f ≡ g → (g.kind ≡ kind_number Unexpected → ⊥) → n ≡ status_of (Fault f) → u ≡ nothing_beside (fault_in (Fault f)) → IsSome (slice_get targets target) → IsFaultIn (long_double_on target) (char_sign target) text g → ChecksText target text n u
  other_fault f g n u same other e h some is =
      is_refused (Fault g) n u e (h ∙ ap nothing_beside same) (some, is, other)

  pub no_text : (f : TextFault) (n : ℕ) (u : CheckedText) → f ≡ fault_with NotUtf8 → n ≡ status_of (Fault f) → u ≡ nothing_beside (fault_in (Fault f)) → IsSome (slice_get targets target) → (¬ IsUtf8 text) → ChecksText target text n u
  no_text f n u same e h some none =
      other_fault f (fault_with NotUtf8) n u same (λ is. cc) e h some (bad_bytes none)

  pub bad_token_told : (at : ℕ) (f : TextFault) (n : ℕ) (u : CheckedText) → f ≡ fault_at BadToken at → n ≡ status_of (Fault f) → u ≡ nothing_beside (fault_in (Fault f)) → IsUtf8 text → IsSome (slice_get targets target) → IsReadingFor (long_double_on target) (char_sign target) text (bad_token at) → ChecksText target text n u
  bad_token_told at f n u same e h utf8 some is =
      other_fault f (fault_at BadToken at) n u same (λ is. cc) e h some (misread_in (bad_token at) (fault_at BadToken at) utf8 is refl)

  pub bad_number_told : (at : ℕ) (f : TextFault) (n : ℕ) (u : CheckedText) → f ≡ fault_at BadNumber at → n ≡ status_of (Fault f) → u ≡ nothing_beside (fault_in (Fault f)) → IsUtf8 text → IsSome (slice_get targets target) → IsReadingFor (long_double_on target) (char_sign target) text (bad_number at) → ChecksText target text n u
  bad_number_told at f n u same e h utf8 some is =
      other_fault f (fault_at BadNumber at) n u same (λ is. cc) e h some (misread_in (bad_number at) (fault_at BadNumber at) utf8 is refl)

  left_out_is_other : (t : Tree) → kind_number (left_out_kind t) ≡ kind_number Unexpected → ⊥
  left_out_is_other (left_out long_double) e = cc
  left_out_is_other (left_out complex) e = cc
  left_out_is_other (left_out vector) e = cc
  left_out_is_other _ e = cc

  signature_is_other : (f : SignatureFault) → (signature_fault f).kind ≡ kind_number Unexpected → ⊥
  signature_is_other (bad_type at path (left_out_type t)) e = left_out_is_other t e
  signature_is_other _ e = cc

  pub signature_told : (g : SignatureFault) (f : TextFault) (n : ℕ) (u : CheckedText) → f ≡ signature_fault g → n ≡ status_of (Fault f) → u ≡ nothing_beside (fault_in (Fault f)) → IsUtf8 text → IsSome (slice_get targets target) → IsReadingFor (long_double_on target) (char_sign target) text (bad_signature g) → ChecksText target text n u
  signature_told g f n u same e h utf8 some is =
      other_fault f (signature_fault g) n u same (signature_is_other g) e h some (misread_in (bad_signature g) (signature_fault g) utf8 is refl)
