-- What `ffi3_check_text` answers, and what it writes: whether a text declares a function, and what is told of a place that is unexpected.
use Rattle.std.specs.Prelude.{◌≡◌, ℕ, List, [], ◌∷◌, length, map, replicate, slice_index_or, Option, Some, None, IsSome}
use Rattle.std.specs.Prelude.{IsUtf8, slice_get}
use Rattle.ffi3_type_spec.specs.Signature.{Signature}
use Rattle.ffi3_cdecl_spec.specs.Tokens.{wide, Sign}
use Rattle.ffi3_cdecl_spec.specs.Reading.{unexpected, IsReadingIn}
use Rattle.ffi3_cdecl_spec.specs.Expected.{Expected, a_type, a_name, a_number, closing_round, a_comma, a_semicolon}
use Rattle.ffi3_cdecl_spec.specs.Expected.{the_end, a_star, closing_square, closing_curly, opening_curly}
use Rattle.ffi3_cdecl_spec.specs.Expected.{opening_round, opening_square, the_dots, a_word}
use Rattle.ffi3_cdecl_spec.specs.Reasons.{Base, a_struct_of, a_union_of, an_enum_of, a_type_named, Reason}
use Rattle.ffi3_cdecl_spec.specs.Reasons.{an_attribute, a_keyword, by_value, Told, IsTold}
use Rattle.ffi3_cdecl_spec.specs.Telling.{tell}
use Rattle.ffi3_capi.specs.declared.codes.TheConstants.{DONE, NOT_DECLARED}
use Rattle.ffi3_capi.specs.declared.checking.CheckedText.{CheckedText}
use Rattle.ffi3_capi.specs.declared.fault.TextFault.{TextFault}
use Rattle.ffi3_capi.specs.declared.fault.FaultKind.TheVariants.{NoFault, Unexpected}
use Rattle.ffi3_capi.specs.declared.status.Refusal.{Refusal}
use Rattle.ffi3_capi.specs.declared.status.Refusal.TheVariants.{NoSuchTarget, NoSuchValue, Fault, NoMemory}
use Rattle.ffi3_capi.specs.Chars.{char_sign}
use Rattle.ffi3_capi.specs.Faults.{fault_with, fault_at, kind_number, DeclaresIn, IsFaultIn}
use Rattle.ffi3_capi.specs.Formats.{long_double_on}
use Rattle.ffi3_capi.specs.Placed.{targets}
use Rattle.ffi3_capi.specs.Refused.{status_of, fault_in}

-- the kinds of token by number; 0 is none
abbrev pub expected_number : Expected → ℕ
expected_number a_type = 1
expected_number a_name = 2
expected_number a_number = 3
expected_number closing_round = 4
expected_number a_comma = 5
expected_number a_semicolon = 6
expected_number the_end = 7
expected_number a_star = 8
expected_number closing_square = 9
expected_number closing_curly = 10
expected_number opening_curly = 11
expected_number opening_round = 12
expected_number opening_square = 13
expected_number the_dots = 14
expected_number a_word = 15

-- the types by value whose size the text does not tell
abbrev pub base_number : Base → ℕ
base_number (a_struct_of tag) = 3
base_number (a_union_of tag) = 4
base_number (an_enum_of tag) = 5
base_number (a_type_named called) = 6

-- and the reasons; 0 is none
abbrev pub reason_number : Option Reason → ℕ
reason_number None = 0
reason_number (Some an_attribute) = 1
reason_number (Some a_keyword) = 2
reason_number (Some (by_value b)) = base_number b

-- the numbers of four kinds, where so many are told
abbrev pub four_numbers : List Expected → List ℕ
four_numbers ks =
    slice_index_or (map expected_number ks) 0 0 ∷ slice_index_or (map expected_number ks) 1 0
    ∷ slice_index_or (map expected_number ks) 2 0 ∷ slice_index_or (map expected_number ks) 3 0 ∷ []

-- of a place that is unexpected
abbrev pub told_at : ℕ → Told → CheckedText
told_at at t = record {
  length = t.taken;
  reason = reason_number t.reason;
  count = length t.expected;
  expected = four_numbers t.expected;
  reserved = replicate 4 0;
  fault = fault_at Unexpected at;
}

-- nothing beside the fault
abbrev pub nothing_beside : TextFault → CheckedText
nothing_beside fault = record {
  length = 0;
  reason = 0;
  count = 0;
  expected = replicate 4 0;
  reserved = replicate 4 0;
  fault = fault;
}

-- WHAT IS TOLD of a text that has something unexpected, where a `char` is signed or not: what is computed of the place, which is what is to be told of it
pub record IsUnexpectedIn (c : Sign) (text : List ℕ) (u : CheckedText) : Type 0 where
  pub at : ℕ
  pub utf8 : IsUtf8 text
  pub there : IsReadingIn wide c text (unexpected at)
  pub is_told : IsTold c text at (tell c text at)
  pub is : u ≡ told_at at (tell c text at)

-- OR WHY NOTHING IS TOLD of a place: no standard has the number, or the text has another fault. Memory alone is free.
abbrev pub IsCheckRefusal : ℕ → List ℕ → Refusal → Type 0
IsCheckRefusal target text NoSuchTarget = slice_get targets target ≡ None
IsCheckRefusal target text (NoSuchValue count) = ⊥
IsCheckRefusal target text (Fault f) =
    IsSome (slice_get targets target) × IsFaultIn (long_double_on target) (char_sign target) text f
    × (f.kind ≡ kind_number Unexpected → ⊥)
IsCheckRefusal target text NoMemory = Unit {0}

-- WHAT ffi3_check_text ANSWERS, and what it writes into the caller's struct
pub data ChecksText (target : ℕ) (text : List ℕ) : ℕ → CheckedText → Type 0 where
  declares : (s : Signature) → IsSome (slice_get targets target)
      → DeclaresIn (long_double_on target) (char_sign target) text s
      → ChecksText target text DONE (nothing_beside (fault_with NoFault))
  is_unexpected : (u : CheckedText) → IsSome (slice_get targets target) → IsUnexpectedIn (char_sign target) text u
      → ChecksText target text NOT_DECLARED u
  refused : (r : Refusal) → IsCheckRefusal target text r
      → ChecksText target text (status_of r) (nothing_beside (fault_in r))
