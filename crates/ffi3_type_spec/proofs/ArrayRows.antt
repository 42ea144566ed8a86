-- Worked arrays: layouts as C compilers give them, values, texts and first faults.
use Rattle.std.proofs.Common.{◌≡◌, ℕ, zero, suc, ◌<◌, [], ◌∷◌, refl, arith}
use Rattle.std.specs.Prelude.{codes}
use Rattle.std.specs.Fmt.{digits}
use Rattle.ffi3_type_spec.specs.declared.Role.TheVariants.{AsResult, AsArgument, AsElement, Anywhere}
use Rattle.ffi3_type_spec.specs.Tree.{Tree, scalar, array_of, struct_of, tree_at, u8, s8, u32, float}
use Rattle.ffi3_type_spec.specs.Layout.{layout, least_multiple, offset_of}
use Rattle.ffi3_type_spec.specs.Fault.{IsFirstFault, HasNoFault, bad_typedef, out_of_place, misshapen}
use Rattle.ffi3_type_spec.specs.Value.{ValueTree, leaf_value, struct_value, no_values, value, value_in}
use Rattle.ffi3_type_spec.specs.Text.{text_of}
use Rattle.ffi3_type_spec.specs.ValueText.{value_text_of}
use Rattle.ffi3_type_spec.proofs.Faults.{first_bad, first_in_part, right_by_parts, scalar_faults}

-- struct{uint8[3],uint32[2]}
abbrev mixed : Tree
mixed = struct_of (array_of (scalar u8) 3 ∷ array_of (scalar u32) 2 ∷ [])

mixed-layout : layout mixed ≡ record { size = 12; align = 4; leaves = record { at = 0; kind = u8 } ∷ record { at = 1; kind = u8 } ∷ record { at = 2; kind = u8 } ∷ record { at = 4; kind = u32 } ∷ record { at = 8; kind = u32 } ∷ [] }
unfolding least_multiple
mixed-layout = refl

mixed-text : text_of mixed ≡ codes "struct{uint8[3],uint32[2]}"
unfolding digits
mixed-text = refl

-- struct{float[4]}
floats-layout : layout (struct_of (array_of (scalar float) 4 ∷ [])) ≡ layout (struct_of (scalar float ∷ scalar float ∷ scalar float ∷ scalar float ∷ []))
unfolding least_multiple
floats-layout = refl

-- in C int8_t a[2][3]
nested-text : text_of (array_of (array_of (scalar s8) 3) 2) ≡ codes "sint8[3][2]"
unfolding digits
nested-text = refl

nested-offset : offset_of (array_of (array_of (scalar s8) 3) 2) 1 ≡ 3
nested-offset = refl

-- the value [7,9]
abbrev pair : ValueTree
pair = struct_value (value (leaf_value (7 ∷ [])) (value (leaf_value (9 ∷ [])) no_values))

pair-value : value_in (array_of (scalar u8) 2) (7 ∷ 9 ∷ []) ≡ pair
pair-value = refl

pair-text : value_text_of (array_of (scalar u8) 2) pair ≡ codes "[7,9]"
unfolding digits
pair-text = refl

-- struct{struct{uint8[2]}[2]}
structs-text : value_text_of (struct_of (array_of (struct_of (array_of (scalar u8) 2 ∷ [])) 2 ∷ [])) (struct_value (value (struct_value (value (struct_value (value pair no_values)) (value (struct_value (value pair no_values)) no_values))) no_values)) ≡ codes "{[{[7,9]},{[7,9]}]}"
unfolding digits
structs-text = refl

-- a whole array is no argument and no result, but stands anywhere
bad_argument : IsFirstFault 0 AsArgument (array_of (scalar u8) 3) [] bad_typedef
bad_argument = first_bad _ (omega arith) (out_of_place refl refl)

bad_result : IsFirstFault 0 AsResult (array_of (scalar u8) 3) [] bad_typedef
bad_result = first_bad _ (omega arith) (out_of_place refl refl)

no_fault : HasNoFault 0 Anywhere (array_of (scalar u8) 3)
no_fault = right_by_parts _ refl (omega arith) refl refl only (omega arith)
  where
    only : (i : ℕ) → i < 1 → HasNoFault 1 AsElement (tree_at (scalar u8 ∷ []) i)
    only zero h = scalar_faults u8
    only (suc i) h = absurd (omega arith)

-- struct{uint8[0]}
no_count : IsFirstFault 0 AsArgument (struct_of (array_of (scalar u8) 0 ∷ [])) (0 ∷ []) bad_typedef
no_count =
    first_in_part _ refl (omega arith) refl refl 0 [] bad_typedef (omega arith) (λ j h. absurd (omega arith)) (first_bad _ (omega arith) (misshapen refl refl))
