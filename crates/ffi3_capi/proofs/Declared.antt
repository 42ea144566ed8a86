-- What is told of bytes that declare no function.
use Rattle.std.proofs.Common.{◌≡◌, ℕ, Bool, true, false, List, refl, sym, subst, ◌∙◌}
use Rattle.std.specs.Prelude.{Some, IsUtf8}
use Rattle.ffi3_types.specs.SignatureFaultOf.{signature_fault_of}
use Rattle.ffi3_cdecl_spec.specs.Grammar.{Declaration}
use Rattle.ffi3_cdecl_spec.specs.Reading.{Outcome, reads, bad_token, unexpected, bad_number, bad_signature, IsReadingIn, has_bad_token, has_unexpected, has_bad_number}
use Rattle.ffi3_cdecl_spec.specs.Tokens.{wide, Sign}
use Rattle.ffi3_cdecl.specs.declared.fault.DeclFault.{DeclFault}
use Rattle.ffi3_cdecl.specs.declared.fault.DeclFault.TheVariants.{BadToken, Unexpected, BadNumber, Sig, NoMemory}
use Rattle.ffi3_cdecl_spec.specs.ReadingFor.{IsReadingFor, IsJudgedFor, is_placed, has_bad_signature, is_judged}
use Rattle.ffi3_cdecl_spec.specs.ReadingFor.{has_bad_token as no_token, has_unexpected as no_place, has_bad_number as no_number}
use Rattle.ffi3_cdecl.specs.Tells.{Tells}
use Rattle.ffi3_format_spec.specs.declared.Format.{Format}
use Rattle.ffi3_capi.specs.declared.fault.TextFault.{TextFault}
use Rattle.ffi3_capi.specs.declared.fault.FaultKind.TheVariants.{NotUtf8}
use Rattle.ffi3_capi.specs.Faults.{fault_with, IsFaultOf, misread, not_text, IsFaultIn, misread_in, no_text}
use Rattle.ffi3_capi.specs.Told.{told}

-- a refusal tells how the text is read
pub is_misread : (c : Sign) (text : List ℕ) (e : DeclFault) (f : TextFault) → Tells (IsReadingIn wide c text) e → IsUtf8 text → told e ≡ Some f → IsFaultOf c text f
is_misread c text (BadToken at) f h utf8 is = misread (bad_token at) f utf8 h is
is_misread c text (Unexpected at) f h utf8 is = misread (unexpected at) f utf8 h is
is_misread c text (BadNumber at) f h utf8 is = misread (bad_number at) f utf8 h is
is_misread c text (Sig g) f h utf8 is =
    misread (bad_signature (signature_fault_of g)) f utf8 h is
is_misread c text NoMemory f h utf8 is = cc

some_same : (a b : TextFault) → Some a ≡ Some b → a ≡ b
some_same a b same = cc

pub is_no_text : (c : Sign) (bytes : List ℕ) (f told : TextFault) → (¬ IsUtf8 bytes) → told ≡ fault_with NotUtf8 → Some told ≡ Some f → IsFaultOf c bytes f
is_no_text c bytes f told none is same =
    let e : fault_with NotUtf8 ≡ f = sym is ∙ some_same told f same in
    subst (λ (g : TextFault). IsFaultOf c bytes g) e (not_text none)

-- ---- the same where long doubles have a format

pub is_misread_in : (g : Format) (c : Sign) (text : List ℕ) (e : DeclFault) (f : TextFault) → Tells (IsReadingFor g c text) e → IsUtf8 text → told e ≡ Some f → IsFaultIn g c text f
is_misread_in g c text (BadToken at) f h utf8 is =
    misread_in (bad_token at) f utf8 h is
is_misread_in g c text (Unexpected at) f h utf8 is =
    misread_in (unexpected at) f utf8 h is
is_misread_in g c text (BadNumber at) f h utf8 is =
    misread_in (bad_number at) f utf8 h is
is_misread_in g c text (Sig fault) f h utf8 is =
    misread_in (bad_signature (signature_fault_of fault)) f utf8 h is
is_misread_in g c text NoMemory f h utf8 is = cc

pub is_no_text_in : (g : Format) (c : Sign) (bytes : List ℕ) (f told : TextFault) → (¬ IsUtf8 bytes) → told ≡ fault_with NotUtf8 → Some told ≡ Some f → IsFaultIn g c bytes f
is_no_text_in g c bytes f told none is same =
    let e : fault_with NotUtf8 ≡ f = sym is ∙ some_same told f same in
    subst (λ (h : TextFault). IsFaultIn g c bytes h) e (no_text none)

-- what is wrong with a text before its types are looked at is wrong whatever the format is
abbrev is_of_signature : Outcome → Bool
is_of_signature (reads d) = true
is_of_signature (bad_token at) = false
is_of_signature (unexpected at) = false
is_of_signature (bad_number at) = false
is_of_signature (bad_signature f) = true

judged_is : (g : Format) (d : Declaration) (o : Outcome) → IsJudgedFor g d o → is_of_signature o ≡ true
judged_is g d _ (is_placed right) = refl
judged_is g d _ (has_bad_signature first) = refl

not_both : (b : Bool) → b ≡ true → b ≡ false → ⊥
not_both b e f = cc

plain_reading : (g : Format) (c : Sign) (text : List ℕ) (o : Outcome) → IsReadingFor g c text o → is_of_signature o ≡ false → IsReadingIn wide c text o
plain_reading g c text _ (no_token cut) e = has_bad_token cut
plain_reading g c text _ (no_place start rest cut is) e = has_unexpected start rest cut is
plain_reading g c text _ (no_number cut declared great) e = has_bad_number cut declared great
plain_reading g c text _ (is_judged {d = d} {o = o} cut declared none is) e =
    absurd (not_both (is_of_signature o) (judged_is g d o is) e)

pub bad_token_in : (g : Format) (c : Sign) (text : List ℕ) (at : ℕ) → IsReadingFor g c text (bad_token at) → IsReadingIn wide c text (bad_token at)
bad_token_in g c text at is = plain_reading g c text (bad_token at) is refl

pub bad_number_in : (g : Format) (c : Sign) (text : List ℕ) (at : ℕ) → IsReadingFor g c text (bad_number at) → IsReadingIn wide c text (bad_number at)
bad_number_in g c text at is = plain_reading g c text (bad_number at) is refl

pub unexpected_in : (g : Format) (c : Sign) (text : List ℕ) (at : ℕ) → IsReadingFor g c text (unexpected at) → IsReadingIn wide c text (unexpected at)
unexpected_in g c text at is = plain_reading g c text (unexpected at) is refl
