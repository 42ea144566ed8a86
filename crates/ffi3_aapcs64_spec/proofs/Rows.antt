-- Worked rows, computed.
use Rattle.std.specs.Prelude.{◌≡◌, ℕ, [], ◌∷◌, refl, Some, replicate}
use Rattle.ffi3_type_spec.specs.Tree.{Tree, void, scalar, struct_of, u8, s8, u16, s32, float, double, pointer, array_of, u32, binary128}
use Rattle.ffi3_type_spec.specs.Layout.{least_multiple}
use Rattle.ffi3_place_spec.specs.declared.Loc.TheVariants.{G, F, S}
use Rattle.ffi3_place_spec.specs.declared.Place.TheVariants.{Direct, ByRef}
use Rattle.ffi3_place_spec.specs.declared.Res.TheVariants.{Nothing, Direct as DirectRes, Hidden}
use Rattle.ffi3_place_spec.specs.Standard.{plan_of}
use Rattle.ffi3_place_spec.proofs.Worked.{sig_of, at, widened, alone, integer, pair, triple, wide, byte_and_wide, halves}
use Rattle.ffi3_aapcs64_spec.specs.Aapcs64.{aapcs64}

abbrev floats : ℕ → Tree
floats n = struct_of (replicate n (scalar float))

abbrev doubles : ℕ → Tree
doubles n = struct_of (replicate n (scalar double))

-- sint32(sint32)
pub one_integer : plan_of aapcs64 (sig_of (scalar s32) (scalar s32 ∷ [])) ≡ record {
  places = Direct (widened (G 0) 4 ∷ []) ∷ [];
  res = DirectRes (widened (G 0) 4 ∷ []);
  need = 192;
  frame = 0;
  block = 16;
  vectors = 0;
}
unfolding least_multiple
one_integer = refl

-- void(struct{sint32,float}): not homogeneous
pub integer_and_float : plan_of aapcs64 (sig_of void (struct_of (scalar s32 ∷ scalar float ∷ []) ∷ [])) ≡ record {
  places = alone (G 0) ∷ [];
  res = Nothing;
  need = 192;
  frame = 0;
  block = 16;
  vectors = 0;
}
unfolding least_multiple
integer_and_float = refl

-- struct{float,double}: not homogeneous either
pub float_and_double : plan_of aapcs64 (sig_of void (struct_of (scalar float ∷ scalar double ∷ []) ∷ [])) ≡ record {
  places = Direct (at (G 0) 0 8 ∷ at (G 1) 8 8 ∷ []) ∷ [];
  res = Nothing;
  need = 192;
  frame = 0;
  block = 16;
  vectors = 0;
}
unfolding least_multiple
float_and_double = refl

-- seven sint64, a pair and a sint64: the pair goes whole to the stack, and x7 stays unused
pub pair_to_stack : plan_of aapcs64 (sig_of void (integer ∷ integer ∷ integer ∷ integer ∷ integer ∷ integer ∷ integer ∷ pair ∷ integer ∷ [])) ≡ record {
  places = alone (G 0) ∷ alone (G 1) ∷ alone (G 2) ∷ alone (G 3) ∷ alone (G 4) ∷ alone (G 5) ∷ alone (G 6) ∷ Direct (at (S 0 8) 0 8 ∷ at (S 8 8) 8 8 ∷ []) ∷ alone (S 16 8) ∷ [];
  res = Nothing;
  need = 288;
  frame = 32;
  block = 80;
  vectors = 0;
}
unfolding least_multiple
pair_to_stack = refl

-- six sint64, a pair and a uint16: x6 and x7 are the last
pub pair_in_last : plan_of aapcs64 (sig_of void (integer ∷ integer ∷ integer ∷ integer ∷ integer ∷ integer ∷ pair ∷ scalar u16 ∷ [])) ≡ record {
  places = alone (G 0) ∷ alone (G 1) ∷ alone (G 2) ∷ alone (G 3) ∷ alone (G 4) ∷ alone (G 5) ∷ Direct (at (G 6) 0 8 ∷ at (G 7) 8 8 ∷ []) ∷ Direct (widened (S 0 8) 2 ∷ []) ∷ [];
  res = Nothing;
  need = 272;
  frame = 16;
  block = 80;
  vectors = 0;
}
unfolding least_multiple
pair_in_last = refl

-- a struct of four floats
pub four_floats : plan_of aapcs64 (sig_of void (floats 4 ∷ [])) ≡ record {
  places = Direct (at (F 0) 0 4 ∷ at (F 1) 4 4 ∷ at (F 2) 8 4 ∷ at (F 3) 12 4 ∷ []) ∷ [];
  res = Nothing;
  need = 192;
  frame = 0;
  block = 16;
  vectors = 0;
}
unfolding least_multiple
four_floats = refl

-- struct{float[4]}: the same
pub array_of_floats : plan_of aapcs64 (sig_of void (struct_of (array_of (scalar float) 4 ∷ []) ∷ [])) ≡ record {
  places = Direct (at (F 0) 0 4 ∷ at (F 1) 4 4 ∷ at (F 2) 8 4 ∷ at (F 3) 12 4 ∷ []) ∷ [];
  res = Nothing;
  need = 192;
  frame = 0;
  block = 16;
  vectors = 0;
}
unfolding least_multiple
array_of_floats = refl

-- void(struct{uint8[3],uint32[2]}): two doublewords, as of struct{uint8,uint8,uint8,uint32,uint32}
pub arrays : plan_of aapcs64 (sig_of void (struct_of (array_of (scalar u8) 3 ∷ array_of (scalar u32) 2 ∷ []) ∷ [])) ≡ record {
  places = Direct (at (G 0) 0 8 ∷ at (G 1) 8 4 ∷ []) ∷ [];
  res = Nothing;
  need = 192;
  frame = 0;
  block = 16;
  vectors = 0;
}
unfolding least_multiple
arrays = refl

-- a struct of five floats is not homogeneous: it is copied
pub five_floats : plan_of aapcs64 (sig_of void (floats 5 ∷ [])) ≡ record { places = ByRef (G 0) 0 ∷ []; res = Nothing; need = 240; frame = 32; block = 32; vectors = 0 }
unfolding least_multiple
five_floats = refl

-- nested structs are flattened: three floats as argument, and one double as result
pub nested_members : plan_of aapcs64 (sig_of (struct_of (doubles 1 ∷ [])) (struct_of (floats 2 ∷ scalar float ∷ []) ∷ [])) ≡ record {
  places = Direct (at (F 0) 0 4 ∷ at (F 1) 4 4 ∷ at (F 2) 8 4 ∷ []) ∷ [];
  res = DirectRes (at (F 0) 0 8 ∷ []);
  need = 192;
  frame = 0;
  block = 16;
  vectors = 0;
}
unfolding least_multiple
nested_members = refl

-- six doubles, three doubles in a struct, and a double: v6 and v7 stay unused
pub doubles_to_stack : plan_of aapcs64 (sig_of void (scalar double ∷ scalar double ∷ scalar double ∷ scalar double ∷ scalar double ∷ scalar double ∷ doubles 3 ∷ scalar double ∷ [])) ≡ record {
  places = alone (F 0) ∷ alone (F 1) ∷ alone (F 2) ∷ alone (F 3) ∷ alone (F 4) ∷ alone (F 5) ∷ Direct (at (S 0 8) 0 8 ∷ at (S 8 8) 8 8 ∷ at (S 16 8) 16 8 ∷ []) ∷ alone (S 24 8) ∷ [];
  res = Nothing;
  need = 288;
  frame = 32;
  block = 80;
  vectors = 0;
}
unfolding least_multiple
doubles_to_stack = refl

-- two structs that take all eight, then a float on the stack, and a sint64 that finds x0
pub members_in_last : plan_of aapcs64 (sig_of void (floats 4 ∷ doubles 4 ∷ scalar float ∷ integer ∷ [])) ≡ record {
  places = Direct (at (F 0) 0 4 ∷ at (F 1) 4 4 ∷ at (F 2) 8 4 ∷ at (F 3) 12 4 ∷ []) ∷ Direct (at (F 4) 0 8 ∷ at (F 5) 8 8 ∷ at (F 6) 16 8 ∷ at (F 7) 24 8 ∷ []) ∷ Direct (at (S 0 8) 0 4 ∷ []) ∷ alone (G 0) ∷ [];
  res = Nothing;
  need = 256;
  frame = 16;
  block = 64;
  vectors = 0;
}
unfolding least_multiple
members_in_last = refl

-- sint32(pointer;double): variadic arguments are placed as fixed ones
pub variadic : plan_of aapcs64 (record { result_type = scalar s32; arguments = scalar pointer ∷ scalar double ∷ []; fixed = Some 1 }) ≡ record {
  places = alone (G 0) ∷ alone (F 0) ∷ [];
  res = DirectRes (widened (G 0) 4 ∷ []);
  need = 192;
  frame = 0;
  block = 16;
  vectors = 0;
}
unfolding least_multiple
variadic = refl

-- a result of three uint64: the address of the buffer is in x8
pub hidden_result : plan_of aapcs64 (sig_of triple []) ≡ record { places = []; res = Hidden (G 8) 0; need = 208; frame = 32; block = 0; vectors = 0 }
unfolding least_multiple
hidden_result = refl

-- four doubles, as a result, are in registers
pub direct_doubles : plan_of aapcs64 (sig_of (doubles 4) []) ≡ record {
  places = [];
  res = DirectRes (at (F 0) 0 8 ∷ at (F 1) 8 8 ∷ at (F 2) 16 8 ∷ at (F 3) 24 8 ∷ []);
  need = 176;
  frame = 0;
  block = 0;
  vectors = 0;
}
unfolding least_multiple
direct_doubles = refl

-- a struct over 16 bytes goes by reference
pub copied_argument : plan_of aapcs64 (sig_of void (triple ∷ scalar s8 ∷ [])) ≡ record {
  places = ByRef (G 0) 0 ∷ Direct (widened (G 1) 1 ∷ []) ∷ [];
  res = Nothing;
  need = 240;
  frame = 32;
  block = 32;
  vectors = 0;
}
unfolding least_multiple
copied_argument = refl

-- structs of 16 and of 17 bytes: the copy takes 24, and the hidden result's buffer follows it
pub sixteen_and_seventeen : plan_of aapcs64 (sig_of triple (struct_of (replicate 16 (scalar u8)) ∷ struct_of (replicate 17 (scalar u8)) ∷ [])) ≡ record {
  places = Direct (at (G 0) 0 8 ∷ at (G 1) 8 8 ∷ []) ∷ ByRef (G 2) 0 ∷ [];
  res = Hidden (G 8) 24;
  need = 272;
  frame = 48;
  block = 48;
  vectors = 0;
}
unfolding least_multiple
sixteen_and_seventeen = refl

-- seven sint64, two structs by reference and a sint64: the first reference is in x7, the second on the stack; the copies follow the stack arguments
pub references_on_stack : plan_of aapcs64 (sig_of void (integer ∷ integer ∷ integer ∷ integer ∷ integer ∷ integer ∷ integer ∷ triple ∷ triple ∷ integer ∷ [])) ≡ record {
  places = alone (G 0) ∷ alone (G 1) ∷ alone (G 2) ∷ alone (G 3) ∷ alone (G 4) ∷ alone (G 5) ∷ alone (G 6) ∷ ByRef (G 7) 16 ∷ ByRef (S 0 8) 40 ∷ alone (S 8 8) ∷ [];
  res = Nothing;
  need = 352;
  frame = 64;
  block = 112;
  vectors = 0;
}
unfolding least_multiple
references_on_stack = refl

-- seven sint64, a uint128 and a sint64: the uint128 goes whole to the stack, and x7 stays unused
pub wide_to_stack : plan_of aapcs64 (sig_of void (integer ∷ integer ∷ integer ∷ integer ∷ integer ∷ integer ∷ integer ∷ wide ∷ integer ∷ [])) ≡ record {
  places = alone (G 0) ∷ alone (G 1) ∷ alone (G 2) ∷ alone (G 3) ∷ alone (G 4) ∷ alone (G 5) ∷ alone (G 6) ∷ halves (S 0 8) (S 8 8) ∷ alone (S 16 8) ∷ [];
  res = Nothing;
  need = 288;
  frame = 32;
  block = 80;
  vectors = 0;
}
unfolding least_multiple
wide_to_stack = refl

-- void(sint64,uint128): from an even register on
pub wide_in_even_register : plan_of aapcs64 (sig_of void (integer ∷ wide ∷ [])) ≡ record {
  places = alone (G 0) ∷ halves (G 2) (G 3) ∷ [];
  res = Nothing;
  need = 208;
  frame = 0;
  block = 32;
  vectors = 0;
}
unfolding least_multiple
wide_in_even_register = refl

-- void(struct{uint64,uint64,uint64},struct{uint8,uint128}): the second copy begins at a multiple of 16
pub wide_copies : plan_of aapcs64 (sig_of void (triple ∷ byte_and_wide ∷ [])) ≡ record {
  places = ByRef (G 0) 0 ∷ ByRef (G 1) 32 ∷ [];
  res = Nothing;
  need = 304;
  frame = 64;
  block = 64;
  vectors = 0;
}
unfolding least_multiple
wide_copies = refl

-- uint128(struct{uint128}): a struct of alignment 16 that is passed directly, and the result in x0 and x1
pub wide_result : plan_of aapcs64 (sig_of wide (integer ∷ struct_of (wide ∷ []) ∷ [])) ≡ record {
  places = alone (G 0) ∷ halves (G 2) (G 3) ∷ [];
  res = DirectRes (at (G 0) 0 8 ∷ at (G 1) 8 8 ∷ []);
  need = 208;
  frame = 0;
  block = 32;
  vectors = 0;
}
unfolding least_multiple
wide_result = refl

-- seven sint64, a struct by reference, a sint64 and a uint128, which begins at a multiple of 16 of the stack; a buffer at a multiple of 16 behind a copy of 24 bytes
pub wide_stack : plan_of aapcs64 (sig_of byte_and_wide (integer ∷ integer ∷ integer ∷ integer ∷ integer ∷ integer ∷ integer ∷ triple ∷ integer ∷ wide ∷ [])) ≡ record {
  places = alone (G 0) ∷ alone (G 1) ∷ alone (G 2) ∷ alone (G 3) ∷ alone (G 4) ∷ alone (G 5) ∷ alone (G 6) ∷ ByRef (G 7) 32 ∷ alone (S 0 8) ∷ halves (S 16 8) (S 24 8) ∷ [];
  res = Hidden (G 8) 64;
  need = 384;
  frame = 96;
  block = 112;
  vectors = 0;
}
unfolding least_multiple
wide_stack = refl

-- ---- long double, of quad precision: v(k) is F k, and its upper half F (32 + k)

abbrev quad : Tree
quad = scalar binary128

abbrev quads : ℕ → Tree
quads n = struct_of (replicate n quad)

-- binary128(struct{float,binary128},binary128,sint32): the struct is no HFA
pub long_double : plan_of aapcs64 (sig_of quad (struct_of (scalar float ∷ quad ∷ []) ∷ quad ∷ scalar s32 ∷ [])) ≡ record {
  places = ByRef (G 0) 0 ∷ halves (F 0) (F 32) ∷ Direct (widened (G 1) 4 ∷ []) ∷ [];
  res = DirectRes (at (F 0) 0 8 ∷ at (F 32) 8 8 ∷ []);
  need = 272;
  frame = 32;
  block = 64;
  vectors = 0;
}
unfolding least_multiple
long_double = refl

-- four in a struct, as result and as argument behind one
pub four_quads : plan_of aapcs64 (sig_of (quads 4) (quad ∷ quads 4 ∷ [])) ≡ record {
  places = halves (F 0) (F 32) ∷ Direct (at (F 1) 0 8 ∷ at (F 33) 8 8 ∷ at (F 2) 16 8 ∷ at (F 34) 24 8 ∷ at (F 3) 32 8 ∷ at (F 35) 40 8 ∷ at (F 4) 48 8 ∷ at (F 36) 56 8 ∷ []) ∷ [];
  res = DirectRes (at (F 0) 0 8 ∷ at (F 32) 8 8 ∷ at (F 1) 16 8 ∷ at (F 33) 24 8 ∷ at (F 2) 32 8 ∷ at (F 34) 40 8 ∷ at (F 3) 48 8 ∷ at (F 35) 56 8 ∷ []);
  need = 256;
  frame = 0;
  block = 80;
  vectors = 0;
}
unfolding least_multiple
four_quads = refl

-- five are no HFA
pub five_quads : plan_of aapcs64 (sig_of (quads 5) (quads 5 ∷ [])) ≡ record {
  places = ByRef (G 0) 0 ∷ [];
  res = Hidden (G 8) 80;
  need = 416;
  frame = 160;
  block = 80;
  vectors = 0;
}
unfolding least_multiple
five_quads = refl

-- seven doubles, struct{binary128,binary128}, double: v7 does not suffice, and is not used any more
pub quads_on_stack : plan_of aapcs64 (sig_of void (scalar double ∷ scalar double ∷ scalar double ∷ scalar double ∷ scalar double ∷ scalar double ∷ scalar double ∷ quads 2 ∷ scalar double ∷ [])) ≡ record {
  places = alone (F 0) ∷ alone (F 1) ∷ alone (F 2) ∷ alone (F 3) ∷ alone (F 4) ∷ alone (F 5) ∷ alone (F 6) ∷ Direct (at (S 0 8) 0 8 ∷ at (S 8 8) 8 8 ∷ at (S 16 8) 16 8 ∷ at (S 24 8) 24 8 ∷ []) ∷ alone (S 32 8) ∷ [];
  res = Nothing;
  need = 320;
  frame = 48;
  block = 96;
  vectors = 0;
}
unfolding least_multiple
quads_on_stack = refl

-- nine doubles and a long double: on the stack at a multiple of 16
pub quad_behind_a_gap : plan_of aapcs64 (sig_of void (scalar double ∷ scalar double ∷ scalar double ∷ scalar double ∷ scalar double ∷ scalar double ∷ scalar double ∷ scalar double ∷ scalar double ∷ quad ∷ [])) ≡ record {
  places = alone (F 0) ∷ alone (F 1) ∷ alone (F 2) ∷ alone (F 3) ∷ alone (F 4) ∷ alone (F 5) ∷ alone (F 6) ∷ alone (F 7) ∷ alone (S 0 8) ∷ halves (S 16 8) (S 24 8) ∷ [];
  res = Nothing;
  need = 304;
  frame = 32;
  block = 96;
  vectors = 0;
}
unfolding least_multiple
quad_behind_a_gap = refl
