-- Worked rows, computed.
use Rattle.std.specs.Prelude.{◌≡◌, [], ◌∷◌, refl, Some, replicate}
use Rattle.ffi3_type_spec.specs.Tree.{Tree, void, scalar, struct_of, array_of, u8, s8, u16, u32, s32, s64, s128, float, double, pointer, x87}
use Rattle.ffi3_type_spec.specs.Layout.{least_multiple}
use Rattle.ffi3_place_spec.specs.declared.Loc.TheVariants.{G, F, S}
use Rattle.ffi3_place_spec.specs.declared.Place.TheVariants.{Direct}
use Rattle.ffi3_place_spec.specs.declared.Res.{Res}
use Rattle.ffi3_place_spec.specs.declared.Res.TheVariants.{Nothing, Direct as DirectRes, Hidden}
use Rattle.ffi3_place_spec.specs.Standard.{plan_of, need_of, frame_of, block_bytes}
use Rattle.ffi3_place_spec.proofs.Worked.{sig_of, at, widened, alone, integer, pair, triple, wide, byte_and_wide, halves}
use Rattle.ffi3_amd64_spec.specs.Amd64.{amd64}

-- sint32(sint32)
pub one_integer : plan_of amd64 (sig_of (scalar s32) (scalar s32 ∷ [])) ≡ record {
  places = Direct (widened (G 7) 4 ∷ []) ∷ [];
  res = DirectRes (widened (G 0) 4 ∷ []);
  need = 80;
  frame = 0;
  block = 16;
  vectors = 0;
}
unfolding least_multiple
one_integer = refl

-- void(struct{sint32,float}): one INTEGER eightbyte
pub integer_and_float : plan_of amd64 (sig_of void (struct_of (scalar s32 ∷ scalar float ∷ []) ∷ [])) ≡ record {
  places = alone (G 7) ∷ [];
  res = Nothing;
  need = 80;
  frame = 0;
  block = 16;
  vectors = 0;
}
unfolding least_multiple
integer_and_float = refl

-- struct{double,sint8} as argument and as result: an SSE eightbyte, then an INTEGER one
pub double_and_byte : plan_of amd64 (sig_of (struct_of (scalar double ∷ scalar s8 ∷ [])) (struct_of (scalar double ∷ scalar s8 ∷ []) ∷ [])) ≡ record {
  places = Direct (at (F 0) 0 8 ∷ at (G 7) 8 8 ∷ []) ∷ [];
  res = DirectRes (at (F 0) 0 8 ∷ at (G 0) 8 8 ∷ []);
  need = 80;
  frame = 0;
  block = 16;
  vectors = 1;
}
unfolding least_multiple
double_and_byte = refl

-- five sint64, a pair and a sint64: the pair goes whole to the stack, and the last still finds r9
pub pair_to_stack : plan_of amd64 (sig_of void (integer ∷ integer ∷ integer ∷ integer ∷ integer ∷ pair ∷ integer ∷ [])) ≡ record {
  places = alone (G 7) ∷ alone (G 6) ∷ alone (G 2) ∷ alone (G 1) ∷ alone (G 8) ∷ Direct (at (S 0 8) 0 8 ∷ at (S 8 8) 8 8 ∷ []) ∷ alone (G 9) ∷ [];
  res = Nothing;
  need = 144;
  frame = 16;
  block = 64;
  vectors = 0;
}
unfolding least_multiple
pair_to_stack = refl

-- six sint64 and a pair
pub pair_after_six : plan_of amd64 (sig_of void (integer ∷ integer ∷ integer ∷ integer ∷ integer ∷ integer ∷ pair ∷ [])) ≡ record {
  places = alone (G 7) ∷ alone (G 6) ∷ alone (G 2) ∷ alone (G 1) ∷ alone (G 8) ∷ alone (G 9) ∷ Direct (at (S 0 8) 0 8 ∷ at (S 8 8) 8 8 ∷ []) ∷ [];
  res = Nothing;
  need = 144;
  frame = 16;
  block = 64;
  vectors = 0;
}
unfolding least_multiple
pair_after_six = refl

-- seven sint64, a pair and a sint64
pub all_later_to_stack : plan_of amd64 (sig_of void (integer ∷ integer ∷ integer ∷ integer ∷ integer ∷ integer ∷ integer ∷ pair ∷ integer ∷ [])) ≡ record {
  places = alone (G 7) ∷ alone (G 6) ∷ alone (G 2) ∷ alone (G 1) ∷ alone (G 8) ∷ alone (G 9) ∷ alone (S 0 8) ∷ Direct (at (S 8 8) 0 8 ∷ at (S 16 8) 8 8 ∷ []) ∷ alone (S 24 8) ∷ [];
  res = Nothing;
  need = 176;
  frame = 32;
  block = 80;
  vectors = 0;
}
unfolding least_multiple
all_later_to_stack = refl

-- a struct of four floats: two SSE eightbytes
pub four_floats : plan_of amd64 (sig_of void (struct_of (scalar float ∷ scalar float ∷ scalar float ∷ scalar float ∷ []) ∷ [])) ≡ record {
  places = Direct (at (F 0) 0 8 ∷ at (F 1) 8 8 ∷ []) ∷ [];
  res = Nothing;
  need = 80;
  frame = 0;
  block = 16;
  vectors = 2;
}
unfolding least_multiple
four_floats = refl

-- sint32(pointer;double): variadic arguments are placed as fixed ones
pub variadic : plan_of amd64 (record { result_type = scalar s32; arguments = scalar pointer ∷ scalar double ∷ []; fixed = Some 1 }) ≡ record {
  places = alone (G 7) ∷ alone (F 0) ∷ [];
  res = DirectRes (widened (G 0) 4 ∷ []);
  need = 80;
  frame = 0;
  block = 16;
  vectors = 1;
}
unfolding least_multiple
variadic = refl

-- a result of three uint64, and one of four doubles: the address of the buffer is in rdi
pub hidden_result : plan_of amd64 (sig_of triple []) ≡ record { places = []; res = Hidden (G 7) 0; need = 96; frame = 32; block = 0; vectors = 0 }
unfolding least_multiple
hidden_result = refl

pub hidden_doubles : plan_of amd64 (sig_of (struct_of (scalar double ∷ scalar double ∷ scalar double ∷ scalar double ∷ [])) []) ≡ record { places = []; res = Hidden (G 7) 0; need = 96; frame = 32; block = 0; vectors = 0 }
unfolding least_multiple
hidden_doubles = refl

-- a struct over two eightbytes goes to the stack, and a sint8 is extended
pub memory_argument : plan_of amd64 (sig_of void (triple ∷ scalar s8 ∷ [])) ≡ record {
  places = Direct (at (S 0 8) 0 8 ∷ at (S 8 8) 8 8 ∷ at (S 16 8) 16 8 ∷ []) ∷ Direct (widened (G 7) 1 ∷ []) ∷ [];
  res = Nothing;
  need = 128;
  frame = 32;
  block = 32;
  vectors = 0;
}
unfolding least_multiple
memory_argument = refl

-- a struct of 16 bytes takes two registers; one of 17 goes to the stack, and its last piece has one byte
pub sixteen_and_seventeen : plan_of amd64 (sig_of void (struct_of (replicate 16 (scalar u8)) ∷ struct_of (replicate 17 (scalar u8)) ∷ scalar u16 ∷ [])) ≡ record {
  places = Direct (at (G 7) 0 8 ∷ at (G 6) 8 8 ∷ []) ∷ Direct (at (S 0 8) 0 8 ∷ at (S 8 8) 8 8 ∷ at (S 16 8) 16 1 ∷ []) ∷ Direct (widened (G 2) 2 ∷ []) ∷ [];
  res = Nothing;
  need = 144;
  frame = 32;
  block = 48;
  vectors = 0;
}
unfolding least_multiple
sixteen_and_seventeen = refl

-- A hidden result, four sint64 and mixed structs: the first takes r9 and xmm0. The second finds no general register, and takes no vector register either.
pub mixed_after_hidden : plan_of amd64 (sig_of triple (integer ∷ integer ∷ integer ∷ integer ∷ struct_of (scalar s64 ∷ scalar double ∷ []) ∷ struct_of (scalar double ∷ scalar s64 ∷ []) ∷ scalar float ∷ [])) ≡ record {
  places = alone (G 6) ∷ alone (G 2) ∷ alone (G 1) ∷ alone (G 8) ∷ Direct (at (G 9) 0 8 ∷ at (F 0) 8 8 ∷ []) ∷ Direct (at (S 0 8) 0 8 ∷ at (S 8 8) 8 8 ∷ []) ∷ Direct (at (F 1) 0 4 ∷ []) ∷ [];
  res = Hidden (G 7) 16;
  need = 192;
  frame = 48;
  block = 80;
  vectors = 2;
}
unfolding least_multiple
mixed_after_hidden = refl

-- nine doubles: xmm7 is the last vector register
pub nine_doubles : plan_of amd64 (sig_of (scalar double) (replicate 9 (scalar double))) ≡ record {
  places = alone (F 0) ∷ alone (F 1) ∷ alone (F 2) ∷ alone (F 3) ∷ alone (F 4) ∷ alone (F 5) ∷ alone (F 6) ∷ alone (F 7) ∷ alone (S 0 8) ∷ [];
  res = DirectRes (at (F 0) 0 8 ∷ []);
  need = 160;
  frame = 16;
  block = 80;
  vectors = 8;
}
unfolding least_multiple
nine_doubles = refl

-- 64 arguments
pub numbers_of_64 : (need_of amd64 (sig_of void (replicate 64 integer)) ≡ 1040) × (frame_of amd64 (sig_of void (replicate 64 integer)) ≡ 464) × (block_bytes (sig_of void (replicate 64 integer)) ≡ 512)
unfolding least_multiple
numbers_of_64 = (refl, refl, refl)

-- seven sint64, a uint128 and a sint64: the uint128 begins at a multiple of 16
pub wide_on_stack : plan_of amd64 (sig_of void (integer ∷ integer ∷ integer ∷ integer ∷ integer ∷ integer ∷ integer ∷ wide ∷ integer ∷ [])) ≡ record {
  places = alone (G 7) ∷ alone (G 6) ∷ alone (G 2) ∷ alone (G 1) ∷ alone (G 8) ∷ alone (G 9) ∷ alone (S 0 8) ∷ halves (S 16 8) (S 24 8) ∷ alone (S 32 8) ∷ [];
  res = Nothing;
  need = 192;
  frame = 48;
  block = 80;
  vectors = 0;
}
unfolding least_multiple
wide_on_stack = refl

-- uint128(sint64,sint128): the next two registers, with no even rounding; rax and rdx return it
pub wide_in_registers : plan_of amd64 (sig_of wide (integer ∷ scalar s128 ∷ [])) ≡ record {
  places = alone (G 7) ∷ halves (G 6) (G 2) ∷ [];
  res = DirectRes (at (G 0) 0 8 ∷ at (G 2) 8 8 ∷ []);
  need = 96;
  frame = 0;
  block = 32;
  vectors = 0;
}
unfolding least_multiple
wide_in_registers = refl

-- struct{uint8,uint128} as result and as argument, behind one of three eightbytes on the stack
pub wide_in_memory : plan_of amd64 (sig_of byte_and_wide (triple ∷ byte_and_wide ∷ [])) ≡ record {
  places = Direct (at (S 0 8) 0 8 ∷ at (S 8 8) 8 8 ∷ at (S 16 8) 16 8 ∷ []) ∷ Direct (at (S 32 8) 0 8 ∷ at (S 40 8) 8 8 ∷ at (S 48 8) 16 8 ∷ at (S 56 8) 24 8 ∷ []) ∷ [];
  res = Hidden (G 7) 64;
  need = 224;
  frame = 96;
  block = 64;
  vectors = 0;
}
unfolding least_multiple
wide_in_memory = refl

-- void(struct{uint8[3],uint32[2]}): two INTEGER eightbytes, as of struct{uint8,uint8,uint8,uint32,uint32}
pub arrays : plan_of amd64 (sig_of void (struct_of (array_of (scalar u8) 3 ∷ array_of (scalar u32) 2 ∷ []) ∷ [])) ≡ record {
  places = Direct (at (G 7) 0 8 ∷ at (G 6) 8 4 ∷ []) ∷ [];
  res = Nothing;
  need = 80;
  frame = 0;
  block = 16;
  vectors = 0;
}
unfolding least_multiple
arrays = refl

-- ---- long double

abbrev long_double : Tree
long_double = scalar x87

-- a complex one: two by itself
abbrev complex : Tree
complex = array_of long_double 2

-- in st(0); in st(0) and st(1)
abbrev in_st0 : Res
in_st0 = DirectRes (at (F 16) 0 8 ∷ at (F 17) 8 2 ∷ [])

abbrev in_st0_and_st1 : Res
in_st0_and_st1 = DirectRes (at (F 16) 0 8 ∷ at (F 17) 8 2 ∷ at (F 18) 16 8 ∷ at (F 19) 24 2 ∷ [])

-- x87(x87,sint32,struct{x87},complex,sint64): each long double on the stack, at a multiple of 16, and no register is taken
pub long_doubles : plan_of amd64 (sig_of long_double (long_double ∷ scalar s32 ∷ struct_of (long_double ∷ []) ∷ complex ∷ integer ∷ [])) ≡ record {
  places = halves (S 0 8) (S 8 8) ∷ Direct (widened (G 7) 4 ∷ []) ∷ halves (S 16 8) (S 24 8) ∷ Direct (at (S 32 8) 0 8 ∷ at (S 40 8) 8 8 ∷ at (S 48 8) 16 8 ∷ at (S 56 8) 24 8 ∷ []) ∷ alone (G 6) ∷ [];
  res = in_st0;
  need = 208;
  frame = 64;
  block = 80;
  vectors = 0;
}
unfolding least_multiple
long_doubles = refl

-- seven sint64, a long double and a sint64: a gap of eight bytes before it
pub long_double_behind_seven : plan_of amd64 (sig_of void (integer ∷ integer ∷ integer ∷ integer ∷ integer ∷ integer ∷ integer ∷ long_double ∷ integer ∷ [])) ≡ record {
  places = alone (G 7) ∷ alone (G 6) ∷ alone (G 2) ∷ alone (G 1) ∷ alone (G 8) ∷ alone (G 9) ∷ alone (S 0 8) ∷ halves (S 16 8) (S 24 8) ∷ alone (S 32 8) ∷ [];
  res = Nothing;
  need = 192;
  frame = 48;
  block = 80;
  vectors = 0;
}
unfolding least_multiple
long_double_behind_seven = refl

-- struct{struct{x87}}, struct{x87[1]}
pub struct_of_one : plan_of amd64 (sig_of (struct_of (struct_of (long_double ∷ []) ∷ [])) []) ≡ record { places = []; res = in_st0; need = 64; frame = 0; block = 0; vectors = 0 }
unfolding least_multiple
struct_of_one = refl

pub array_of_one : plan_of amd64 (sig_of (struct_of (array_of long_double 1 ∷ [])) []) ≡ record { places = []; res = in_st0; need = 64; frame = 0; block = 0; vectors = 0 }
unfolding least_multiple
array_of_one = refl

-- a complex one; but not a struct of two, nor of a complex one
pub complex_result : plan_of amd64 (sig_of complex []) ≡ record { places = []; res = in_st0_and_st1; need = 64; frame = 0; block = 0; vectors = 0 }
unfolding least_multiple
complex_result = refl

pub hidden_pair : plan_of amd64 (sig_of (struct_of (long_double ∷ long_double ∷ [])) []) ≡ record { places = []; res = Hidden (G 7) 0; need = 96; frame = 32; block = 0; vectors = 0 }
unfolding least_multiple
hidden_pair = refl

pub hidden_complex : plan_of amd64 (sig_of (struct_of (complex ∷ [])) []) ≡ record { places = []; res = Hidden (G 7) 0; need = 96; frame = 32; block = 0; vectors = 0 }
unfolding least_multiple
hidden_complex = refl

-- struct{float,x87}(struct{sint32,x87},double): class MEMORY
pub long_double_beside : plan_of amd64 (sig_of (struct_of (scalar float ∷ long_double ∷ [])) (struct_of (scalar s32 ∷ long_double ∷ []) ∷ scalar double ∷ [])) ≡ record {
  places = Direct (at (S 0 8) 0 8 ∷ at (S 8 8) 8 8 ∷ at (S 16 8) 16 8 ∷ at (S 24 8) 24 8 ∷ []) ∷ alone (F 0) ∷ [];
  res = Hidden (G 7) 32;
  need = 176;
  frame = 64;
  block = 48;
  vectors = 1;
}
unfolding least_multiple
long_double_beside = refl
