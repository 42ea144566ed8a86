-- What `ffi3_fault_lines` answers, and what it writes: the fault of a text in words, and of one that has a place in the text the line with a mark below the place.
use Rattle.std.specs.Prelude.{◌≡◌, ℕ, List, [], ◌∷◌, ◌++◌, length, codes, None, IsSome, IsUtf8, slice_get}
use Rattle.std.specs.Fmt.{decimal}
use Rattle.ffi3_type_spec.specs.Signature.{Signature, SignatureFault}
use Rattle.ffi3_cdecl_spec.specs.Tokens.{wide}
use Rattle.ffi3_cdecl_spec.specs.Reading.{bad_token, unexpected, bad_number, bad_signature, IsReadingIn}
use Rattle.ffi3_cdecl_spec.specs.Reasons.{IsTold}
use Rattle.ffi3_cdecl_spec.specs.Telling.{tell}
use Rattle.ffi3_cdecl_spec.specs.ReadingFor.{IsReadingFor}
use Rattle.ffi3_diagnostics_spec.specs.Positions.{placed_words}
use Rattle.ffi3_diagnostics_spec.specs.ToldText.{told_words, lines_at}
use Rattle.ffi3_capi.specs.declared.fault.FaultKind.TheVariants.{NotUtf8}
use Rattle.ffi3_capi.specs.Chars.{char_sign}
use Rattle.ffi3_capi.specs.Faults.{fault_with, signature_fault, DeclaresIn}
use Rattle.ffi3_capi.specs.Formats.{long_double_on}
use Rattle.ffi3_capi.specs.FaultText.{fault_text}
use Rattle.ffi3_capi.specs.Filled.{filled, with_end}
use Rattle.ffi3_capi.specs.Placed.{targets}

-- a line with the offset of a place
abbrev pub place_line : ℕ → List ℕ → List ℕ
place_line at words =
    codes "at " ++ (decimal at ++ (codes ": " ++ (words ++ 10 ∷ [])))

-- the line of a signature's fault, behind the name of the value that has it
abbrev pub fault_line : SignatureFault → List ℕ
fault_line f = placed_words f (fault_text (signature_fault f)) ++ 10 ∷ []

-- THE LINES of a text's fault. What is no declaration for a known target has some.
pub data AreFaultLines (target : ℕ) (text : List ℕ) : List ℕ → Type 0 where
  no_target : slice_get targets target ≡ None → AreFaultLines target text []
  no_fault : (s : Signature) → IsSome (slice_get targets target)
      → DeclaresIn (long_double_on target) (char_sign target) text s
      → AreFaultLines target text []
  no_text : IsSome (slice_get targets target) → (¬ IsUtf8 text)
      → AreFaultLines target text (fault_text (fault_with NotUtf8) ++ 10 ∷ [])
  at_bad_token : (at : ℕ) → IsSome (slice_get targets target) → IsUtf8 text
      → IsReadingIn wide (char_sign target) text (bad_token at)
      → AreFaultLines target text (place_line at (codes "bad token") ++ lines_at text at)
  at_unexpected : (at : ℕ) → IsSome (slice_get targets target) → IsUtf8 text
      → IsReadingIn wide (char_sign target) text (unexpected at)
      → IsTold (char_sign target) text at (tell (char_sign target) text at)
      → AreFaultLines target text (place_line at (told_words text at (tell (char_sign target) text at)) ++ lines_at text at)
  at_bad_number : (at : ℕ) → IsSome (slice_get targets target) → IsUtf8 text
      → IsReadingIn wide (char_sign target) text (bad_number at)
      → AreFaultLines target text (place_line at (codes "bad number") ++ lines_at text at)
  of_signature : (f : SignatureFault) → IsSome (slice_get targets target) → IsUtf8 text
      → IsReadingFor (long_double_on target) (char_sign target) text (bad_signature f)
      → AreFaultLines target text (fault_line f)

-- WHAT ffi3_fault_lines ANSWERS, and what it writes into the caller's array. Memory alone is free: where it was refused, 0 is answered, and nothing is written.
pub data TellsLines (target : ℕ) (text old : List ℕ) : ℕ → List ℕ → Type 0 where
  lines : (ls : List ℕ) → AreFaultLines target text ls
      → TellsLines target text old (length ls) (filled (with_end ls) old)
  no_memory : TellsLines target text old 0 old
