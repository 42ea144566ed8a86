-- Worked rows, computed.
use Rattle.std.specs.Prelude.{◌≡◌, ℕ, List, [], ◌∷◌, ◌++◌, refl, Some, replicate}
use Rattle.ffi3_type_spec.specs.Tree.{Tree, void, scalar, struct_of, s8, s32, s128, float, double, pointer, array_of, u8, u32, binary128}
use Rattle.ffi3_type_spec.specs.Layout.{least_multiple}
use Rattle.ffi3_place_spec.specs.declared.Loc.{Loc}
use Rattle.ffi3_place_spec.specs.declared.Loc.TheVariants.{G, F, S}
use Rattle.ffi3_place_spec.specs.declared.Ext.TheVariants.{Riscv, Boxed}
use Rattle.ffi3_place_spec.specs.declared.Piece.{Piece}
use Rattle.ffi3_place_spec.specs.declared.SaveWord.TheVariants.{Register, Hidden as HiddenWord}
use Rattle.ffi3_place_spec.specs.declared.Place.{Place}
use Rattle.ffi3_place_spec.specs.declared.Place.TheVariants.{Direct, ByRef}
use Rattle.ffi3_place_spec.specs.declared.Res.TheVariants.{Nothing, Direct as DirectRes, Hidden}
use Rattle.ffi3_place_spec.specs.Standard.{plan_of}
use Rattle.ffi3_place_spec.proofs.Worked.{sig_of, variadic_from, at, alone, integer, pair, triple, wide, halves}
use Rattle.ffi3_riscv_spec.specs.Riscv.{riscv}

abbrev extended : Loc → ℕ → Piece
extended l n = record { loc = l; off = 0; len = n; ext = Riscv }

abbrev boxed : Loc → ℕ → Piece
boxed l o = record { loc = l; off = o; len = 4; ext = Boxed }

abbrev doubles : Tree
doubles = struct_of (scalar double ∷ scalar double ∷ [])

abbrev mixed : Tree
mixed = struct_of (scalar float ∷ scalar s32 ∷ [])

-- eight doubles in fa0 to fa7, and eight integers in a0 to a7
abbrev in_floating : List Place
in_floating =
    alone (F 10) ∷ alone (F 11) ∷ alone (F 12) ∷ alone (F 13) ∷ alone (F 14) ∷ alone (F 15) ∷ alone (F 16) ∷ alone (F 17) ∷ []

abbrev in_general : List Place
in_general =
    alone (G 10) ∷ alone (G 11) ∷ alone (G 12) ∷ alone (G 13) ∷ alone (G 14) ∷ alone (G 15) ∷ alone (G 16) ∷ alone (G 17) ∷ []

-- the save area: ra, s0 to s11, fs0 to fs11, the hidden pointer
pub saved : riscv.save_area ≡ Register (G 1) ∷ Register (G 8) ∷ Register (G 9) ∷ Register (G 18) ∷ Register (G 19) ∷ Register (G 20) ∷ Register (G 21) ∷ Register (G 22) ∷ Register (G 23) ∷ Register (G 24) ∷ Register (G 25) ∷ Register (G 26) ∷ Register (G 27) ∷ Register (F 8) ∷ Register (F 9) ∷ Register (F 18) ∷ Register (F 19) ∷ Register (F 20) ∷ Register (F 21) ∷ Register (F 22) ∷ Register (F 23) ∷ Register (F 24) ∷ Register (F 25) ∷ Register (F 26) ∷ Register (F 27) ∷ HiddenWord ∷ []
saved = refl

-- sint32(sint32)
pub one_integer : plan_of riscv (sig_of (scalar s32) (scalar s32 ∷ [])) ≡ record {
  places = Direct (extended (G 10) 4 ∷ []) ∷ [];
  res = DirectRes (extended (G 10) 4 ∷ []);
  need = 224;
  frame = 0;
  block = 16;
  vectors = 0;
}
unfolding least_multiple
one_integer = refl

-- void(struct{sint32,float}): a register of each kind, and the integer isn't extended
pub integer_and_float : plan_of riscv (sig_of void (struct_of (scalar s32 ∷ scalar float ∷ []) ∷ [])) ≡ record {
  places = Direct (at (G 10) 0 4 ∷ boxed (F 10) 4 ∷ []) ∷ [];
  res = Nothing;
  need = 224;
  frame = 0;
  block = 16;
  vectors = 0;
}
unfolding least_multiple
integer_and_float = refl

-- struct{float,pointer} as argument and as result: a pointer is no integer, so both take integer registers
pub float_and_pointer : plan_of riscv (sig_of (struct_of (scalar float ∷ scalar pointer ∷ [])) (struct_of (scalar float ∷ scalar pointer ∷ []) ∷ [])) ≡ record {
  places = Direct (at (G 10) 0 8 ∷ at (G 11) 8 8 ∷ []) ∷ [];
  res = DirectRes (at (G 10) 0 8 ∷ at (G 11) 8 8 ∷ []);
  need = 224;
  frame = 0;
  block = 16;
  vectors = 0;
}
unfolding least_multiple
float_and_pointer = refl

-- struct{double,float} as argument and as result
pub two_floating : plan_of riscv (sig_of (struct_of (scalar double ∷ scalar float ∷ [])) (struct_of (scalar double ∷ scalar float ∷ []) ∷ [])) ≡ record {
  places = Direct (at (F 10) 0 8 ∷ boxed (F 11) 8 ∷ []) ∷ [];
  res = DirectRes (at (F 10) 0 8 ∷ boxed (F 11) 8 ∷ []);
  need = 224;
  frame = 0;
  block = 16;
  vectors = 0;
}
unfolding least_multiple
two_floating = refl

-- a float, alone and in one struct or two
pub nested_floats : plan_of riscv (sig_of (struct_of (scalar float ∷ [])) (scalar float ∷ struct_of (scalar float ∷ []) ∷ struct_of (struct_of (scalar float ∷ []) ∷ []) ∷ [])) ≡ record {
  places = Direct (boxed (F 10) 0 ∷ []) ∷ Direct (boxed (F 11) 0 ∷ []) ∷ Direct (boxed (F 12) 0 ∷ []) ∷ [];
  res = DirectRes (boxed (F 10) 0 ∷ []);
  need = 240;
  frame = 0;
  block = 32;
  vectors = 0;
}
unfolding least_multiple
nested_floats = refl

-- seven sint64, a pair and a sint64: the pair is split between a7 and the stack
pub split_pair : plan_of riscv (sig_of void (integer ∷ integer ∷ integer ∷ integer ∷ integer ∷ integer ∷ integer ∷ pair ∷ integer ∷ [])) ≡ record {
  places = alone (G 10) ∷ alone (G 11) ∷ alone (G 12) ∷ alone (G 13) ∷ alone (G 14) ∷ alone (G 15) ∷ alone (G 16) ∷ Direct (at (G 17) 0 8 ∷ at (S 0 8) 8 8 ∷ []) ∷ alone (S 8 8) ∷ [];
  res = Nothing;
  need = 304;
  frame = 16;
  block = 80;
  vectors = 0;
}
unfolding least_multiple
split_pair = refl

-- eight sint64, and a pair, a sint8 and a triple on the stack, the last by reference
pub none_left : plan_of riscv (sig_of void (replicate 8 integer ++ pair ∷ scalar s8 ∷ triple ∷ [])) ≡ record {
  places = in_general ++ Direct (at (S 0 8) 0 8 ∷ at (S 8 8) 8 8 ∷ []) ∷ Direct (extended (S 16 8) 1 ∷ []) ∷ ByRef (S 24 8) 32 ∷ [];
  res = Nothing;
  need = 384;
  frame = 64;
  block = 112;
  vectors = 0;
}
unfolding least_multiple
none_left = refl

-- a struct of four floats: two words
pub four_floats : plan_of riscv (sig_of void (struct_of (replicate 4 (scalar float)) ∷ [])) ≡ record {
  places = Direct (at (G 10) 0 8 ∷ at (G 11) 8 8 ∷ []) ∷ [];
  res = Nothing;
  need = 224;
  frame = 0;
  block = 16;
  vectors = 0;
}
unfolding least_multiple
four_floats = refl

-- eight doubles and struct{float,sint32}: no floating register is left, and the pair is one word
pub mixed_without_floating : plan_of riscv (sig_of void (replicate 8 (scalar double) ++ mixed ∷ [])) ≡ record {
  places = in_floating ++ alone (G 10) ∷ [];
  res = Nothing;
  need = 288;
  frame = 0;
  block = 80;
  vectors = 0;
}
unfolding least_multiple
mixed_without_floating = refl

-- seven of each and struct{float,sint32}, then one more: the last registers, and then the stack
pub mixed_with_one_left : plan_of riscv (sig_of void (replicate 7 (scalar double) ++ (replicate 7 integer ++ mixed ∷ mixed ∷ []))) ≡ record {
  places = alone (F 10) ∷ alone (F 11) ∷ alone (F 12) ∷ alone (F 13) ∷ alone (F 14) ∷ alone (F 15) ∷ alone (F 16) ∷ alone (G 10) ∷ alone (G 11) ∷ alone (G 12) ∷ alone (G 13) ∷ alone (G 14) ∷ alone (G 15) ∷ alone (G 16) ∷ Direct (boxed (F 17) 0 ∷ at (G 17) 4 4 ∷ []) ∷ alone (S 0 8) ∷ [];
  res = Nothing;
  need = 352;
  frame = 16;
  block = 128;
  vectors = 0;
}
unfolding least_multiple
mixed_with_one_left = refl

-- eight sint64 and struct{float,sint32}: no integer register is left, and fa0 stays free for the double behind it
pub mixed_without_general : plan_of riscv (sig_of void (replicate 8 integer ++ mixed ∷ scalar double ∷ [])) ≡ record {
  places = in_general ++ alone (S 0 8) ∷ alone (F 10) ∷ [];
  res = Nothing;
  need = 304;
  frame = 16;
  block = 80;
  vectors = 0;
}
unfolding least_multiple
mixed_without_general = refl

-- seven doubles and struct{double,double}: one floating register is left, which the double behind it takes; a last one takes an integer register
pub two_with_one_left : plan_of riscv (sig_of void (replicate 7 (scalar double) ++ doubles ∷ scalar double ∷ scalar double ∷ [])) ≡ record {
  places = alone (F 10) ∷ alone (F 11) ∷ alone (F 12) ∷ alone (F 13) ∷ alone (F 14) ∷ alone (F 15) ∷ alone (F 16) ∷ Direct (at (G 10) 0 8 ∷ at (G 11) 8 8 ∷ []) ∷ alone (F 17) ∷ alone (G 12) ∷ [];
  res = Nothing;
  need = 304;
  frame = 0;
  block = 96;
  vectors = 0;
}
unfolding least_multiple
two_with_one_left = refl

-- sint32(pointer;double): a variadic double takes an integer register
pub variadic : plan_of riscv (record { result_type = scalar s32; arguments = scalar pointer ∷ scalar double ∷ []; fixed = Some 1 }) ≡ record {
  places = alone (G 10) ∷ alone (G 11) ∷ [];
  res = DirectRes (extended (G 10) 4 ∷ []);
  need = 224;
  frame = 0;
  block = 16;
  vectors = 0;
}
unfolding least_multiple
variadic = refl

-- void(double;struct{float},struct{float,sint32}): the fixed double takes fa0, variadic structs take words
pub variadic_structs : plan_of riscv (record { result_type = void; arguments = scalar double ∷ struct_of (scalar float ∷ []) ∷ mixed ∷ []; fixed = Some 1 }) ≡ record {
  places = alone (F 10) ∷ Direct (at (G 10) 0 4 ∷ []) ∷ alone (G 11) ∷ [];
  res = Nothing;
  need = 240;
  frame = 0;
  block = 32;
  vectors = 0;
}
unfolding least_multiple
variadic_structs = refl

-- a result of three uint64, and one of four doubles: the address of the buffer is in a0
pub hidden_result : plan_of riscv (sig_of triple []) ≡ record { places = []; res = Hidden (G 10) 0; need = 240; frame = 32; block = 0; vectors = 0 }
unfolding least_multiple
hidden_result = refl

pub hidden_doubles : plan_of riscv (sig_of (struct_of (replicate 4 (scalar double))) []) ≡ record { places = []; res = Hidden (G 10) 0; need = 240; frame = 32; block = 0; vectors = 0 }
unfolding least_multiple
hidden_doubles = refl

-- behind a hidden result the first integer takes a1; the buffer lies behind the copy
pub behind_hidden : plan_of riscv (sig_of triple (integer ∷ triple ∷ [])) ≡ record { places = alone (G 11) ∷ ByRef (G 12) 0 ∷ []; res = Hidden (G 10) 24; need = 288; frame = 48; block = 32; vectors = 0 }
unfolding least_multiple
behind_hidden = refl

-- a struct over two words goes by reference, and a sint8 is extended
pub reference : plan_of riscv (sig_of void (triple ∷ scalar s8 ∷ [])) ≡ record {
  places = ByRef (G 10) 0 ∷ Direct (extended (G 11) 1 ∷ []) ∷ [];
  res = Nothing;
  need = 272;
  frame = 32;
  block = 32;
  vectors = 0;
}
unfolding least_multiple
reference = refl

-- seven sint64, a uint128 and a sint64: the uint128 is split between a7 and the stack
pub split_wide : plan_of riscv (sig_of void (integer ∷ integer ∷ integer ∷ integer ∷ integer ∷ integer ∷ integer ∷ wide ∷ integer ∷ [])) ≡ record {
  places = alone (G 10) ∷ alone (G 11) ∷ alone (G 12) ∷ alone (G 13) ∷ alone (G 14) ∷ alone (G 15) ∷ alone (G 16) ∷ halves (G 17) (S 0 8) ∷ alone (S 8 8) ∷ [];
  res = Nothing;
  need = 304;
  frame = 16;
  block = 80;
  vectors = 0;
}
unfolding least_multiple
split_wide = refl

-- the same, the last two variadic: the uint128 begins at an even word, and a7 stays untouched
pub variadic_wide : plan_of riscv (variadic_from void (integer ∷ integer ∷ integer ∷ integer ∷ integer ∷ integer ∷ integer ∷ wide ∷ integer ∷ []) 7) ≡ record {
  places = alone (G 10) ∷ alone (G 11) ∷ alone (G 12) ∷ alone (G 13) ∷ alone (G 14) ∷ alone (G 15) ∷ alone (G 16) ∷ halves (S 0 8) (S 8 8) ∷ alone (S 16 8) ∷ [];
  res = Nothing;
  need = 320;
  frame = 32;
  block = 80;
  vectors = 0;
}
unfolding least_multiple
variadic_wide = refl

-- void(sint64;uint128): from an even register on
pub variadic_in_even_register : plan_of riscv (variadic_from void (integer ∷ wide ∷ []) 1) ≡ record {
  places = alone (G 10) ∷ halves (G 12) (G 13) ∷ [];
  res = Nothing;
  need = 240;
  frame = 0;
  block = 32;
  vectors = 0;
}
unfolding least_multiple
variadic_in_even_register = refl

-- void(sint64,uint128): from the next register on; a0 and a1 return a sint128
pub fixed_in_next_register : plan_of riscv (sig_of (scalar s128) (integer ∷ wide ∷ [])) ≡ record {
  places = alone (G 10) ∷ halves (G 11) (G 12) ∷ [];
  res = DirectRes (at (G 10) 0 8 ∷ at (G 11) 8 8 ∷ []);
  need = 240;
  frame = 0;
  block = 32;
  vectors = 0;
}
unfolding least_multiple
fixed_in_next_register = refl

-- eight sint64, a sint64 and a uint128: on the stack it begins at an even word
pub wide_on_stack : plan_of riscv (sig_of void (replicate 8 integer ++ integer ∷ wide ∷ [])) ≡ record {
  places = in_general ++ alone (S 0 8) ∷ halves (S 16 8) (S 24 8) ∷ [];
  res = Nothing;
  need = 336;
  frame = 32;
  block = 96;
  vectors = 0;
}
unfolding least_multiple
wide_on_stack = refl

-- void(struct{uint64,uint64,uint64},struct{float,uint128}): both by reference, the second copy at a multiple of 16
pub wide_copies : plan_of riscv (sig_of void (triple ∷ struct_of (scalar float ∷ wide ∷ []) ∷ [])) ≡ record {
  places = ByRef (G 10) 0 ∷ ByRef (G 11) 32 ∷ [];
  res = Nothing;
  need = 336;
  frame = 64;
  block = 64;
  vectors = 0;
}
unfolding least_multiple
wide_copies = refl

-- void(struct{float[2]},struct{uint8[3],uint32[2]}): two floats, as of struct{float,float}; two words, as of struct{uint8,uint8,uint8,uint32,uint32}
pub arrays : plan_of riscv (sig_of void (struct_of (array_of (scalar float) 2 ∷ []) ∷ struct_of (array_of (scalar u8) 3 ∷ array_of (scalar u32) 2 ∷ []) ∷ [])) ≡ record {
  places = Direct (boxed (F 10) 0 ∷ boxed (F 11) 4 ∷ []) ∷ Direct (at (G 10) 0 8 ∷ at (G 11) 8 4 ∷ []) ∷ [];
  res = Nothing;
  need = 240;
  frame = 0;
  block = 32;
  vectors = 0;
}
unfolding least_multiple
arrays = refl

-- ---- long double, of 128 bits: as an integer of 128 bits

abbrev quad : Tree
quad = scalar binary128

-- binary128(seven sint64, binary128, double): split between a7 and the stack; no floating register
pub long_double : plan_of riscv (sig_of quad (integer ∷ integer ∷ integer ∷ integer ∷ integer ∷ integer ∷ integer ∷ quad ∷ scalar double ∷ [])) ≡ record {
  places = alone (G 10) ∷ alone (G 11) ∷ alone (G 12) ∷ alone (G 13) ∷ alone (G 14) ∷ alone (G 15) ∷ alone (G 16) ∷ halves (G 17) (S 0 8) ∷ alone (F 10) ∷ [];
  res = DirectRes (at (G 10) 0 8 ∷ at (G 11) 8 8 ∷ []);
  need = 304;
  frame = 16;
  block = 80;
  vectors = 0;
}
unfolding least_multiple
long_double = refl

-- void(sint64;binary128): a variadic one begins at an even word
pub variadic_long_double : plan_of riscv (variadic_from void (integer ∷ quad ∷ []) 1) ≡ record {
  places = alone (G 10) ∷ halves (G 12) (G 13) ∷ [];
  res = Nothing;
  need = 240;
  frame = 0;
  block = 32;
  vectors = 0;
}
unfolding least_multiple
variadic_long_double = refl

-- struct{binary128}(struct{float,binary128})
pub long_double_in_structs : plan_of riscv (sig_of (struct_of (quad ∷ [])) (struct_of (scalar float ∷ quad ∷ []) ∷ [])) ≡ record {
  places = ByRef (G 10) 0 ∷ [];
  res = DirectRes (at (G 10) 0 8 ∷ at (G 11) 8 8 ∷ []);
  need = 272;
  frame = 32;
  block = 32;
  vectors = 0;
}
unfolding least_multiple
long_double_in_structs = refl
