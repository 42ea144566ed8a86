-- The made script of seed 1, computed: the types of its arguments, and what it means with one call and with two.
use Rattle.std.specs.Prelude.{◌≡◌, [], ◌∷◌, true, refl, codes}
use Rattle.std.specs.Fmt.{digits}
use Rattle.ffi3_type_spec.specs.Tree.{Tree, scalar, u8, s32, u64, float, double, struct_of}
use Rattle.ffi3_type_spec.specs.Layout.{least_multiple}
use Rattle.ffi3_place_spec.specs.Standard.{Standard}
use Rattle.ffi3_semantics_spec.specs.Lines.{a_line}
use Rattle.ffi3_semantics_spec.specs.Meaning.{Program, meaning_of, act, act_within}
use Rattle.ffi3_script_spec.specs.Script.{print, return_void, outcome}
use Rattle.ffi3_script_spec.specs.Meaning.{program_of}
use Rattle.ffi3_script_spec.specs.Made.{made, made_types, made_main, made_call, makes, does, total_of, state_before, first_state, next_state, drawn}
use Rattle.ffi3_script_spec.specs.Typed.{script_is_typed}
use Rattle.ffi3_script_spec.proofs.RowForms.{run_text}

abbrev two_words : Tree
two_words = struct_of (scalar u64 ∷ scalar u64 ∷ [])

abbrev three_words : Tree
three_words = struct_of (scalar u64 ∷ scalar u64 ∷ scalar u64 ∷ [])

abbrev double_and_byte : Tree
double_and_byte = struct_of (scalar double ∷ scalar u8 ∷ [])

abbrev two_floats : Tree
two_floats = struct_of (scalar float ∷ scalar float ∷ [])

types : made_types 1 ≡ (two_floats ∷ scalar s32 ∷ scalar double ∷ []) ∷ (scalar double ∷ scalar float ∷ scalar double ∷ two_words ∷ []) ∷ (double_and_byte ∷ three_words ∷ two_words ∷ []) ∷ (scalar s32 ∷ []) ∷ []
unfolding first_state next_state drawn
types = refl

-- two calls of function 3, filled with 89 and with 37
calls : made_main (made_types 1) 2 (state_before 1 4) ≡ makes 0 ∷ makes 1 ∷ makes 2 ∷ makes 3 ∷ made_call (made_types 1) 3 89 (total_of 0) ∷ made_call (made_types 1) 3 37 (total_of 1) ∷ does (print (record { type = scalar u64; value = outcome 5 })) ∷ does return_void ∷ []
unfolding first_state next_state drawn
calls = refl

typed : script_is_typed 0 (made 1 2) ≡ true
unfolding first_state next_state drawn least_multiple
typed = refl

-- by a standard by which each call needs 80 bytes
module _ (standard : Standard) where
  abbrev program : Program
  program = record (program_of standard (made 1 2)) { need = λ s. 80 }

  text : run_text program ≡ a_line (codes "543")
  unfolding first_state next_state drawn act act_within digits
  text = refl

  moves_left : (meaning_of program).moves ≡ 9978
  unfolding first_state next_state drawn act act_within
  moves_left = refl

  abbrev with_one_call : Program
  with_one_call = record (program_of standard (made 1 1)) { need = λ s. 80 }

  text_of_one : run_text with_one_call ≡ a_line (codes "119")
  unfolding first_state next_state drawn act act_within digits
  text_of_one = refl

  moves_left_of_one : (meaning_of with_one_call).moves ≡ 9986
  unfolding first_state next_state drawn act act_within
  moves_left_of_one = refl
