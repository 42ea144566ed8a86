-- The text of a value, by its type.
use Rattle.std.specs.Prelude.{ℕ, zero, suc, ◌/◌, ◌%◌, false, List, [], ◌∷◌, ◌++◌, codes}
use Rattle.std.specs.Fmt.{digit_glyph, digits, signed_decimal}
use Rattle.std.specs.Int.{w64, from_le_bytes}
use Rattle.std.specs.List.{join_with_byte}
use Rattle.ffi3_type_spec.specs.Tree.{Scalar, u8, s8, u16, s16, u32, s32, u64, s64, u128, s128, float, double, pointer}
use Rattle.ffi3_type_spec.specs.Tree.{x87, binary128}
use Rattle.ffi3_type_spec.specs.Tree.{Tree, void, scalar, left_out, structure, Trees, no_trees, tree, array}
use Rattle.ffi3_type_spec.specs.Integer.{number_of}
use Rattle.ffi3_type_spec.specs.Value.{ValueTree, ValueTrees, no_values, value, bytes_of, elements_of}

-- bytes in memory order, two lower-case hexadecimal digits each
abbrev pub hexadecimal : List ℕ → List ℕ
hexadecimal [] = []
hexadecimal (b ∷ bytes) =
    digit_glyph false (b / 16) ∷ digit_glyph false (b % 16) ∷ hexadecimal bytes

-- an integer in decimal by its sign, a pointer in hexadecimal without leading zeros, and the bytes of what is floating
abbrev pub scalar_text : Scalar → List ℕ → List ℕ
scalar_text u8 bytes = signed_decimal (number_of u8 bytes)
scalar_text s8 bytes = signed_decimal (number_of s8 bytes)
scalar_text u16 bytes = signed_decimal (number_of u16 bytes)
scalar_text s16 bytes = signed_decimal (number_of s16 bytes)
scalar_text u32 bytes = signed_decimal (number_of u32 bytes)
scalar_text s32 bytes = signed_decimal (number_of s32 bytes)
scalar_text u64 bytes = signed_decimal (number_of u64 bytes)
scalar_text s64 bytes = signed_decimal (number_of s64 bytes)
scalar_text u128 bytes = signed_decimal (number_of u128 bytes)
scalar_text s128 bytes = signed_decimal (number_of s128 bytes)
scalar_text float bytes = hexadecimal bytes
scalar_text double bytes = hexadecimal bytes
scalar_text x87 bytes = hexadecimal bytes
scalar_text binary128 bytes = hexadecimal bytes
scalar_text pointer bytes = codes "0x" ++ digits 16 false (from_le_bytes w64 bytes)

-- the texts of an array's n elements, each by the same function
abbrev pub repeated_texts : (ValueTree → List ℕ) → ℕ → ValueTrees → List (List ℕ)
repeated_texts text zero vs = []
repeated_texts text (suc n) no_values = []
repeated_texts text (suc n) (value v vs) = text v ∷ repeated_texts text n vs

-- a struct's or an array's is that of its elements, between commas; what is left out has no text
abbrev mutual
  pub value_text_of : Tree → ValueTree → List ℕ
  value_text_of void v = codes "void"
  value_text_of (scalar s) v = scalar_text s (bytes_of v)
  value_text_of (left_out k) v = []
  value_text_of (structure ts) v =
      codes "{" ++ join_with_byte 44 (value_texts_of ts (elements_of v)) ++ codes "}"
  value_text_of (array ts n) v =
      codes "[" ++ join_with_byte 44 (repeated_texts (first_text_of ts) n (elements_of v)) ++ codes "]"

  -- by the first of some types
  pub first_text_of : Trees → ValueTree → List ℕ
  first_text_of no_trees v = codes "void"
  first_text_of (tree t ts) v = value_text_of t v

  pub value_texts_of : Trees → ValueTrees → List (List ℕ)
  value_texts_of no_trees vs = []
  value_texts_of (tree t ts) no_values = []
  value_texts_of (tree t ts) (value v vs) = value_text_of t v ∷ value_texts_of ts vs
