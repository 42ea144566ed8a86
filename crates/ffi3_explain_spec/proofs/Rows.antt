-- Worked rows, computed.
use Rattle.std.specs.Prelude.{◌≡◌, ℕ, List, [], ◌∷◌, ◌++◌, replicate, refl}
use Rattle.ffi3_type_spec.specs.Tree.{Tree, void, scalar, struct_of, array_of, u8, u32, s32, float, pointer}
use Rattle.ffi3_type_spec.specs.Layout.{least_multiple}
use Rattle.ffi3_type_spec.specs.Value.{leaf_value, struct_value, values_of}
use Rattle.ffi3_place_spec.specs.declared.Loc.TheVariants.{G, F, S}
use Rattle.ffi3_place_spec.specs.Image.{Image}
use Rattle.ffi3_place_spec.proofs.Worked.{sig_of, variadic_from}
use Rattle.ffi3_amd64_spec.specs.Amd64.{amd64}
use Rattle.ffi3_riscv_spec.specs.Riscv.{riscv}
use Rattle.ffi3_win64_spec.specs.Win64.{win64}
use Rattle.ffi3_apple_spec.specs.Apple.{apple}
use Rattle.ffi3_explain_spec.specs.declared.Part.TheVariants.{Arg, Count}
use Rattle.ffi3_explain_spec.specs.Explain.{explained, holds_values, is_broken_at}
use Rattle.ffi3_explain_spec.specs.Arguments.{held_by_standard, are_values, points_outside}

-- ---- riscv, void(uint32): a0 is register 10

abbrev with_a0 : ℕ → Image
with_a0 n = record {
  general = replicate 10 0 ++ (n ∷ replicate 21 0);
  floating = replicate 32 0;
  sp = 0;
  stack = [];
}

zero_extended : explained riscv (sig_of void (scalar u32 ∷ [])) (with_a0 0x80000000) ≡ is_broken_at (record { part = Arg 0; place = G 10; found = 0x80000000; wants = 0xFFFFFFFF80000000 })
unfolding least_multiple
zero_extended = refl

sign_extended : explained riscv (sig_of void (scalar u32 ∷ [])) (with_a0 0xFFFFFFFF80000000) ≡ holds_values (leaf_value (0 ∷ 0 ∷ 0 ∷ 128 ∷ []) ∷ [])
unfolding least_multiple
sign_extended = refl

-- what fills the rest of the place is not judged by the standard alone
zero_extended_too : held_by_standard riscv (sig_of void (scalar u32 ∷ [])) (with_a0 0x80000000) ≡ are_values (leaf_value (0 ∷ 0 ∷ 0 ∷ 128 ∷ []) ∷ [])
unfolding least_multiple
zero_extended_too = refl

-- ---- amd64, void(struct{sint32,float}): rdi is register 7, and rax register 0

abbrev pair : Tree
pair = struct_of (scalar s32 ∷ scalar float ∷ [])

abbrev with_rdi : ℕ → ℕ → Image
with_rdi rax n = record {
  general = rax ∷ (replicate 6 0 ++ (n ∷ replicate 24 0));
  floating = replicate 32 0;
  sp = 0;
  stack = replicate 8 0;
}

a_pair : explained amd64 (sig_of void (pair ∷ [])) (with_rdi 0 0x3F80000000000007) ≡ holds_values (struct_value (values_of (leaf_value (7 ∷ 0 ∷ 0 ∷ 0 ∷ []) ∷ leaf_value (0 ∷ 0 ∷ 128 ∷ 63 ∷ []) ∷ [])) ∷ [])
unfolding least_multiple
a_pair = refl

another_count : explained amd64 (sig_of void (pair ∷ [])) (with_rdi 1 0x3F80000000000007) ≡ is_broken_at (record { part = Count; place = G 0; found = 1; wants = 0 })
unfolding least_multiple
another_count = refl

-- the same of a struct{array(uint8,3),uint8,float}
a_row_of_bytes : explained amd64 (sig_of void (struct_of (array_of (scalar u8) 3 ∷ scalar u8 ∷ scalar float ∷ []) ∷ [])) (with_rdi 0 0x3F80000004030201) ≡ holds_values (struct_value (values_of (struct_value (values_of (leaf_value (1 ∷ []) ∷ leaf_value (2 ∷ []) ∷ leaf_value (3 ∷ []) ∷ [])) ∷ leaf_value (4 ∷ []) ∷ leaf_value (0 ∷ 0 ∷ 128 ∷ 63 ∷ []) ∷ [])) ∷ [])
unfolding least_multiple
a_row_of_bytes = refl

-- ---- win64, void(pointer;float): the float stands in rdx, register 2, and in xmm1; of the second place only the float's bytes are judged

abbrev with_float : ℕ → ℕ → Image
with_float first second = record {
  general = 0 ∷ 5 ∷ first ∷ replicate 29 0;
  floating = 0 ∷ second ∷ replicate 30 0;
  sp = 0;
  stack = replicate 8 0;
}

second_differs : explained win64 (variadic_from void (scalar pointer ∷ scalar float ∷ []) 1) (with_float 0xAAAAAAAA3F800000 0xBBBBBBBB3F800001) ≡ is_broken_at (record { part = Arg 1; place = F 1; found = 0xBBBBBBBB3F800001; wants = 0xBBBBBBBB3F800000 })
unfolding least_multiple
second_differs = refl

second_agrees : explained win64 (variadic_from void (scalar pointer ∷ scalar float ∷ []) 1) (with_float 0xAAAAAAAA3F800000 0xBBBBBBBB3F800000) ≡ holds_values (leaf_value (5 ∷ 0 ∷ 0 ∷ 0 ∷ 0 ∷ 0 ∷ 0 ∷ 0 ∷ []) ∷ leaf_value (0 ∷ 0 ∷ 128 ∷ 63 ∷ []) ∷ [])
unfolding least_multiple
second_agrees = refl

-- ---- win64, void(struct{uint8,uint8,uint8}): rcx, register 1, has the address of the caller's copy

abbrev triple : Tree
triple = struct_of (scalar u8 ∷ scalar u8 ∷ scalar u8 ∷ [])

abbrev with_address : ℕ → Image
with_address n = record {
  general = 0 ∷ n ∷ replicate 30 0;
  floating = replicate 32 0;
  sp = 0x1000;
  stack = replicate 8 0 ++ (1 ∷ 2 ∷ 3 ∷ 4 ∷ []);
}

-- wherever it lies
elsewhere : held_by_standard win64 (sig_of void (triple ∷ [])) (with_address 0x1009) ≡ are_values (struct_value (values_of (leaf_value (2 ∷ []) ∷ leaf_value (3 ∷ []) ∷ leaf_value (4 ∷ []) ∷ [])) ∷ [])
unfolding least_multiple
elsewhere = refl

-- and it must be there whole
outside : held_by_standard win64 (sig_of void (triple ∷ [])) (with_address 0x100A) ≡ points_outside (record { argument = 0; address = 0x100A })
unfolding least_multiple
outside = refl

-- ---- apple: eight floats in v0 to v7, and two on the stack, each in its own four bytes

abbrev with_stack : List ℕ → Image
with_stack stack = record {
  general = replicate 32 0;
  floating = replicate 32 0;
  sp = 0;
  stack = stack;
}

side_by_side : explained apple (sig_of void (replicate 8 (scalar float) ++ scalar float ∷ scalar float ∷ [])) (with_stack (0 ∷ 0 ∷ 128 ∷ 63 ∷ 0 ∷ 0 ∷ 0 ∷ 64 ∷ replicate 8 0)) ≡ holds_values (replicate 8 (leaf_value (0 ∷ 0 ∷ 0 ∷ 0 ∷ [])) ++ leaf_value (0 ∷ 0 ∷ 128 ∷ 63 ∷ []) ∷ leaf_value (0 ∷ 0 ∷ 0 ∷ 64 ∷ []) ∷ [])
unfolding least_multiple
side_by_side = refl

-- apple, void(pointer;sint32): a variadic one has eight bytes, which it fills
variadic_not_extended : explained apple (variadic_from void (scalar pointer ∷ scalar s32 ∷ []) 1) (with_stack (249 ∷ 255 ∷ 255 ∷ 255 ∷ replicate 12 0)) ≡ is_broken_at (record { part = Arg 1; place = S 0 8; found = 0xFFFFFFF9; wants = 0xFFFFFFFFFFFFFFF9 })
unfolding least_multiple
variadic_not_extended = refl
