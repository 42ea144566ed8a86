-- The lines of a text's fault.
use Rattle.std.proofs.Common.{◌≡◌, ℕ, List, [], ◌∷◌, ◌++◌, length, ap, sym, subst, ◌∙◌, append_assoc}
use Rattle.std.specs.Prelude.{IsUtf8, IsSome, None, slice_get, codes}
use Rattle.std.specs.Fmt.{decimal}
use Rattle.ffi3_type_spec.specs.Signature.{Signature, SignatureFault}
use Rattle.ffi3_cdecl_spec.specs.Tokens.{wide}
use Rattle.ffi3_cdecl_spec.specs.Reading.{bad_token, unexpected, bad_number, bad_signature, IsReadingIn}
use Rattle.ffi3_cdecl_spec.specs.Reasons.{Told, IsTold}
use Rattle.ffi3_cdecl_spec.specs.Telling.{tell}
use Rattle.ffi3_cdecl_spec.specs.ReadingFor.{IsReadingFor}
use Rattle.ffi3_diagnostics_spec.specs.Positions.{placed_words}
use Rattle.ffi3_diagnostics_spec.specs.ToldText.{told_words, lines_at}
use Rattle.ffi3_capi.specs.declared.fault.TextFault.{TextFault}
use Rattle.ffi3_capi.specs.declared.fault.FaultKind.TheVariants.{NotUtf8}
use Rattle.ffi3_capi.specs.Chars.{char_sign}
use Rattle.ffi3_capi.specs.Faults.{fault_with, signature_fault, DeclaresIn}
use Rattle.ffi3_capi.specs.Formats.{long_double_on}
use Rattle.ffi3_capi.specs.FaultText.{fault_text}
use Rattle.ffi3_capi.specs.Filled.{filled, with_end}
use Rattle.ffi3_capi.specs.Placed.{targets}
use Rattle.ffi3_capi.specs.FaultLines.{place_line, fault_line, AreFaultLines, no_target, no_fault, no_text, at_bad_token, at_unexpected, at_bad_number, of_signature, TellsLines, lines, no_memory}

pub is_place_line : (a b c words : List ℕ) (at : ℕ) → a ≡ codes "at " ++ (decimal at ++ codes ": ") → b ≡ a ++ words → c ≡ b ++ 10 ∷ [] → c ≡ place_line at words
is_place_line a b c words at e f g =
    let one = codes "at " in
    let two = decimal at in
    let three = codes ": " in
    g ∙ ap (λ ws. ws ++ 10 ∷ []) (f ∙ ap (λ ws. ws ++ words) e) ∙ append_assoc (one ++ (two ++ three)) words (10 ∷ []) ∙ append_assoc one (two ++ three) (words ++ 10 ∷ []) ∙ ap (λ ws. one ++ ws) (append_assoc two three (words ++ 10 ∷ []))

pub signature_line_told : (f : TextFault) (g : SignatureFault) (words told line : List ℕ) → f ≡ signature_fault g → words ≡ fault_text f → told ≡ placed_words g words → line ≡ told ++ 10 ∷ [] → line ≡ fault_line g
signature_line_told f g words told line same are placed pushed =
    pushed ∙ ap (λ ws. ws ++ 10 ∷ []) (placed ∙ ap (placed_words g) (are ∙ ap (λ h. fault_text h) same))

module _ (target : ℕ) (text : List ℕ) where
  told_lines : (ls ms : List ℕ) → ls ≡ ms → AreFaultLines target text ms → AreFaultLines target text ls
  told_lines ls ms e is =
      subst (λ ns. AreFaultLines target text ns) (sym e) is

  pub lines_unexpected : (ls words : List ℕ) (at : ℕ) (t : Told) → ls ≡ place_line at words ++ lines_at text at → words ≡ told_words text at t → t ≡ tell (char_sign target) text at → (IsReadingIn wide (char_sign target) text (unexpected at) → IsTold (char_sign target) text at t) → IsUtf8 text → IsSome (slice_get targets target) → IsReadingIn wide (char_sign target) text (unexpected at) → AreFaultLines target text ls
  lines_unexpected ls words at t e f computed told utf8 some is =
      let told_there = tell (char_sign target) text at in
      told_lines ls (place_line at (told_words text at told_there) ++ lines_at text at) (e ∙ ap (λ ws. place_line at ws ++ lines_at text at) (f ∙ ap (told_words text at) computed)) (at_unexpected at some utf8 is (subst (λ (s : Told). IsTold (char_sign target) text at s) computed (told is)))

  pub lines_bad_token : (ls : List ℕ) (at : ℕ) → ls ≡ place_line at (codes "bad token") ++ lines_at text at → IsUtf8 text → IsSome (slice_get targets target) → IsReadingIn wide (char_sign target) text (bad_token at) → AreFaultLines target text ls
  lines_bad_token ls at e utf8 some is =
      told_lines ls (place_line at (codes "bad token") ++ lines_at text at) e (at_bad_token at some utf8 is)

  pub lines_bad_number : (ls : List ℕ) (at : ℕ) → ls ≡ place_line at (codes "bad number") ++ lines_at text at → IsUtf8 text → IsSome (slice_get targets target) → IsReadingIn wide (char_sign target) text (bad_number at) → AreFaultLines target text ls
  lines_bad_number ls at e utf8 some is =
      told_lines ls (place_line at (codes "bad number") ++ lines_at text at) e (at_bad_number at some utf8 is)

  pub lines_of_signature : (ls : List ℕ) (g : SignatureFault) → ls ≡ fault_line g → IsUtf8 text → IsSome (slice_get targets target) → IsReadingFor (long_double_on target) (char_sign target) text (bad_signature g) → AreFaultLines target text ls
  lines_of_signature ls g e utf8 some is =
      told_lines ls (fault_line g) e (of_signature g some utf8 is)

  pub no_lines : (ls : List ℕ) (s : Signature) → ls ≡ [] → IsSome (slice_get targets target) → DeclaresIn (long_double_on target) (char_sign target) text s → AreFaultLines target text ls
  no_lines ls s e some is = told_lines ls [] e (no_fault s some is)

  pub no_lines_of_none : (ls : List ℕ) → ls ≡ [] → slice_get targets target ≡ None → AreFaultLines target text ls
  no_lines_of_none ls e none = told_lines ls [] e (no_target none)

  pub line_of_no_text : (ls : List ℕ) (f : TextFault) → ls ≡ fault_text f ++ 10 ∷ [] → f ≡ fault_with NotUtf8 → IsSome (slice_get targets target) → (¬ IsUtf8 text) → AreFaultLines target text ls
  line_of_no_text ls f e same some none =
      told_lines ls (fault_text (fault_with NotUtf8) ++ 10 ∷ []) (e ∙ ap (λ h. fault_text h ++ 10 ∷ []) same) (no_text some none)

  pub lines_told : (ls old new : List ℕ) (n : ℕ) → AreFaultLines target text ls → n ≡ length ls → new ≡ filled (with_end ls) old → TellsLines target text old n new
  lines_told ls old new n is e f =
      subst (λ m. TellsLines target text old m new) (sym e) (subst (λ a. TellsLines target text old (length ls) a) (sym f) (lines ls is))

  pub no_lines_told : (old new : List ℕ) (n : ℕ) → n ≡ 0 → new ≡ old → TellsLines target text old n new
  no_lines_told old new n e f =
      subst (λ m. TellsLines target text old m new) (sym e) (subst (λ a. TellsLines target text old 0 a) (sym f) no_memory)
