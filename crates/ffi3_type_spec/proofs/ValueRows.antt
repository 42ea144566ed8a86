-- Worked values: their texts, and what they widen to.
use Rattle.std.proofs.Common.{◌≡◌, [], ◌∷◌, refl}
use Rattle.std.specs.Prelude.{codes, negsuc, pos, replicate, ◌++◌}
use Rattle.std.specs.Fmt.{digits}
use Rattle.ffi3_type_spec.specs.Layout.{least_multiple}
use Rattle.ffi3_type_spec.specs.Tree.{u8, s8, u16, s16, u32, s32, u64, s64, u128, s128, float, pointer, void, scalar, structure, no_trees, tree}
use Rattle.ffi3_type_spec.specs.Integer.{widened, widened_from_32, number_of, bytes_of_number, sum_of}
use Rattle.ffi3_type_spec.specs.Value.{void_value, leaf_value, struct_value, no_values, value, value_in}
use Rattle.ffi3_type_spec.specs.ValueText.{value_text_of}

widened-sint8 : widened s8 (0xFF ∷ []) ≡ 0xFFFF_FFFF_FFFF_FFFF
widened-sint8 = refl

widened-uint8 : widened u8 (0xFF ∷ []) ≡ 0xFF
widened-uint8 = refl

widened-sint32 : widened s32 (0 ∷ 0 ∷ 0 ∷ 0x80 ∷ []) ≡ 0xFFFF_FFFF_8000_0000
widened-sint32 = refl

widened-uint32 : widened u32 (0 ∷ 0 ∷ 0 ∷ 0x80 ∷ []) ≡ 0x8000_0000
widened-uint32 = refl

widened-uint32-from-32 : widened_from_32 u32 (0 ∷ 0 ∷ 0 ∷ 0x80 ∷ []) ≡ 0xFFFF_FFFF_8000_0000
widened-uint32-from-32 = refl

text-sint8 : value_text_of (scalar s8) (leaf_value (0x80 ∷ [])) ≡ codes "-128"
unfolding digits
text-sint8 = refl

text-uint16 : value_text_of (scalar u16) (leaf_value (0x34 ∷ 0x12 ∷ [])) ≡ codes "4660"
unfolding digits
text-uint16 = refl

text-sint64 : value_text_of (scalar s64) (leaf_value (0 ∷ 0 ∷ 0 ∷ 0 ∷ 0 ∷ 0 ∷ 0 ∷ 0x80 ∷ [])) ≡ codes "-9223372036854775808"
unfolding digits
text-sint64 = refl

text-uint64 : value_text_of (scalar u64) (leaf_value (0xFF ∷ 0xFF ∷ 0xFF ∷ 0xFF ∷ 0xFF ∷ 0xFF ∷ 0xFF ∷ 0xFF ∷ [])) ≡ codes "18446744073709551615"
unfolding digits
text-uint64 = refl

text-null : value_text_of (scalar pointer) (leaf_value (0 ∷ 0 ∷ 0 ∷ 0 ∷ 0 ∷ 0 ∷ 0 ∷ 0 ∷ [])) ≡ codes "0x0"
unfolding digits
text-null = refl

text-pointer : value_text_of (scalar pointer) (leaf_value (0xEF ∷ 0x0B ∷ 0 ∷ 0 ∷ 0 ∷ 0 ∷ 0 ∷ 0 ∷ [])) ≡ codes "0xbef"
unfolding digits
text-pointer = refl

text-float : value_text_of (scalar float) (leaf_value (0 ∷ 0 ∷ 0x80 ∷ 0x3F ∷ [])) ≡ codes "0000803f"
text-float = refl

text-void : value_text_of void void_value ≡ codes "void"
text-void = refl

text-struct : value_text_of (structure (tree (scalar u8) (tree (scalar s16) no_trees))) (struct_value (value (leaf_value (1 ∷ [])) (value (leaf_value (0xFE ∷ 0xFF ∷ [])) no_values))) ≡ codes "{1,-2}"
unfolding digits
text-struct = refl

-- the byte at 1 is padding
value-struct : value_in (structure (tree (scalar u8) (tree (scalar s16) no_trees))) (1 ∷ 0xAA ∷ 0xFE ∷ 0xFF ∷ []) ≡ struct_value (value (leaf_value (1 ∷ [])) (value (leaf_value (0xFE ∷ 0xFF ∷ [])) no_values))
unfolding least_multiple
value-struct = refl

-- -1 and 127 and 2, and what does not fit its type
number-sint16 : number_of s16 (0xFF ∷ 0xFF ∷ []) ≡ negsuc 0
number-sint16 = refl

bytes-sint8 : bytes_of_number s8 (pos 128) ≡ 0x80 ∷ []
bytes-sint8 = refl

bytes-uint16 : bytes_of_number u16 (negsuc 0) ≡ 0xFF ∷ 0xFF ∷ []
bytes-uint16 = refl

sum-sint8 : sum_of s8 (0x7F ∷ []) (2 ∷ []) ≡ 0x81 ∷ []
sum-sint8 = refl

-- 128 bits: the greatest and the least number, and a sum past 64 bits and past 128
text-uint128 : value_text_of (scalar u128) (leaf_value (replicate 16 0xFF)) ≡ codes "340282366920938463463374607431768211455"
unfolding digits
text-uint128 = refl

text-sint128 : value_text_of (scalar s128) (leaf_value (replicate 15 0 ++ 0x80 ∷ [])) ≡ codes "-170141183460469231731687303715884105728"
unfolding digits
text-sint128 = refl

text-sum-uint128 : value_text_of (scalar u128) (leaf_value (sum_of u128 (bytes_of_number u128 (pos 18446744073709551615)) (bytes_of_number u128 (pos 1)))) ≡ codes "18446744073709551616"
unfolding digits
text-sum-uint128 = refl

sum-uint128 : sum_of u128 (replicate 16 0xFF) (bytes_of_number u128 (pos 2)) ≡ 1 ∷ replicate 15 0
sum-uint128 = refl

bytes-sint128 : bytes_of_number s128 (negsuc 0) ≡ replicate 16 0xFF
bytes-sint128 = refl
