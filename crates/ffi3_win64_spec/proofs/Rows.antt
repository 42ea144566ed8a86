-- Worked rows, computed.
use Rattle.std.specs.Prelude.{◌≡◌, [], ◌∷◌, refl, replicate}
use Rattle.ffi3_type_spec.specs.Tree.{void, scalar, struct_of, array_of, u8, s8, u32, s32, s128, float, double, pointer, x87}
use Rattle.ffi3_type_spec.specs.Layout.{least_multiple}
use Rattle.ffi3_place_spec.specs.declared.Loc.TheVariants.{G, F, S}
use Rattle.ffi3_place_spec.specs.declared.SaveWord.TheVariants.{Register, Hidden as HiddenWord}
use Rattle.ffi3_place_spec.specs.declared.Place.TheVariants.{Direct, ByRef}
use Rattle.ffi3_place_spec.specs.declared.Res.TheVariants.{Nothing, Direct as DirectRes, Hidden}
use Rattle.ffi3_place_spec.specs.Standard.{plan_of, need_of, frame_of, block_bytes}
use Rattle.ffi3_place_spec.proofs.Worked.{sig_of, variadic_from, at, widened, alone, integer, pair, triple, wide}
use Rattle.ffi3_win64_spec.specs.Win64.{win64}

-- the save area: rbx, rbp, rdi, rsi, r12 to r15, xmm6 to xmm15, the address of a hidden result
pub saved : win64.save_area ≡ Register (G 3) ∷ Register (G 5) ∷ Register (G 7) ∷ Register (G 6) ∷ Register (G 12) ∷ Register (G 13) ∷ Register (G 14) ∷ Register (G 15) ∷ Register (F 6) ∷ Register (F 7) ∷ Register (F 8) ∷ Register (F 9) ∷ Register (F 10) ∷ Register (F 11) ∷ Register (F 12) ∷ Register (F 13) ∷ Register (F 14) ∷ Register (F 15) ∷ HiddenWord ∷ []
saved = refl

-- void(sint64,double,sint32,float,double): each position has its own register of each kind, and the fifth its own stack
pub by_position : plan_of win64 (sig_of void (integer ∷ scalar double ∷ scalar s32 ∷ scalar float ∷ scalar double ∷ [])) ≡ record {
  places = alone (G 1) ∷ alone (F 1) ∷ Direct (widened (G 8) 4 ∷ []) ∷ Direct (at (F 3) 0 4 ∷ []) ∷ alone (S 32 8) ∷ [];
  res = Nothing;
  need = 256;
  frame = 48;
  block = 48;
  vectors = 0;
}
unfolding least_multiple
by_position = refl

-- sint32(pointer;double): a double where arguments are variable stands in both registers
pub variadic : plan_of win64 (variadic_from (scalar s32) (scalar pointer ∷ scalar double ∷ []) 1) ≡ record {
  places = alone (G 1) ∷ Direct (at (G 2) 0 8 ∷ at (F 1) 0 8 ∷ []) ∷ [];
  res = DirectRes (widened (G 0) 4 ∷ []);
  need = 208;
  frame = 32;
  block = 16;
  vectors = 0;
}
unfolding least_multiple
variadic = refl

-- a result of three uint64: the address of the buffer, behind the callee's 32 bytes, is in rcx
pub hidden_result : plan_of win64 (sig_of triple []) ≡ record { places = []; res = Hidden (G 1) 32; need = 224; frame = 64; block = 0; vectors = 0 }
unfolding least_multiple
hidden_result = refl

-- two arguments of three uint64: the second copy begins at a multiple of 16
pub two_copies : plan_of win64 (sig_of void (triple ∷ triple ∷ [])) ≡ record {
  places = ByRef (G 1) 32 ∷ ByRef (G 2) 64 ∷ [];
  res = Nothing;
  need = 304;
  frame = 96;
  block = 48;
  vectors = 0;
}
unfolding least_multiple
two_copies = refl

-- sint32(sint32)
pub one_integer : plan_of win64 (sig_of (scalar s32) (scalar s32 ∷ [])) ≡ record {
  places = Direct (widened (G 1) 4 ∷ []) ∷ [];
  res = DirectRes (widened (G 0) 4 ∷ []);
  need = 208;
  frame = 32;
  block = 16;
  vectors = 0;
}
unfolding least_multiple
one_integer = refl

-- structs of three and of sixteen bytes are copied, one of two floats is an integer of eight bytes
pub struct_sizes : plan_of win64 (sig_of (struct_of (scalar float ∷ scalar float ∷ [])) (struct_of (scalar u8 ∷ scalar u8 ∷ scalar u8 ∷ []) ∷ struct_of (scalar float ∷ scalar float ∷ []) ∷ pair ∷ [])) ≡ record {
  places = ByRef (G 1) 32 ∷ alone (G 2) ∷ ByRef (G 8) 48 ∷ [];
  res = DirectRes (at (G 0) 0 8 ∷ []);
  need = 256;
  frame = 64;
  block = 32;
  vectors = 0;
}
unfolding least_multiple
struct_sizes = refl

-- A hidden result takes the first position: the third argument is the last in a register. The address of a copy goes to the stack as any argument, and so does a narrow integer.
pub behind_hidden : plan_of win64 (sig_of triple (scalar float ∷ integer ∷ scalar double ∷ triple ∷ scalar s8 ∷ [])) ≡ record {
  places = Direct (at (F 1) 0 4 ∷ []) ∷ alone (G 8) ∷ alone (F 3) ∷ ByRef (S 32 8) 48 ∷ Direct (widened (S 40 8) 1 ∷ []) ∷ [];
  res = Hidden (G 1) 80;
  need = 336;
  frame = 112;
  block = 64;
  vectors = 0;
}
unfolding least_multiple
behind_hidden = refl

-- double(sint32, double, double, double, double;): all floating arguments of a variadic signature in registers are in both, the fixed ones too; on the stack there is one place
pub all_variadic : plan_of win64 (variadic_from (scalar double) (scalar s32 ∷ scalar double ∷ scalar double ∷ scalar double ∷ scalar double ∷ []) 5) ≡ record {
  places = Direct (widened (G 1) 4 ∷ []) ∷ Direct (at (G 2) 0 8 ∷ at (F 1) 0 8 ∷ []) ∷ Direct (at (G 8) 0 8 ∷ at (F 2) 0 8 ∷ []) ∷ Direct (at (G 9) 0 8 ∷ at (F 3) 0 8 ∷ []) ∷ alone (S 32 8) ∷ [];
  res = DirectRes (at (F 0) 0 8 ∷ []);
  need = 256;
  frame = 48;
  block = 48;
  vectors = 0;
}
unfolding least_multiple
all_variadic = refl

-- void(sint64,uint128): a 128-bit integer is copied
pub wide_argument : plan_of win64 (sig_of void (integer ∷ wide ∷ [])) ≡ record {
  places = alone (G 1) ∷ ByRef (G 2) 32 ∷ [];
  res = Nothing;
  need = 240;
  frame = 48;
  block = 32;
  vectors = 0;
}
unfolding least_multiple
wide_argument = refl

-- sint128(uint128): and hidden as a result, in a buffer behind the copy
pub wide_result : plan_of win64 (sig_of (scalar s128) (wide ∷ [])) ≡ record {
  places = ByRef (G 2) 32 ∷ [];
  res = Hidden (G 1) 48;
  need = 240;
  frame = 64;
  block = 16;
  vectors = 0;
}
unfolding least_multiple
wide_result = refl

-- struct{uint8[8]}(struct{uint8[8]},struct{uint32[3]}): eight bytes in a register, twelve copied
pub arrays : plan_of win64 (sig_of (struct_of (array_of (scalar u8) 8 ∷ [])) (struct_of (array_of (scalar u8) 8 ∷ []) ∷ struct_of (array_of (scalar u32) 3 ∷ []) ∷ [])) ≡ record {
  places = alone (G 1) ∷ ByRef (G 2) 32 ∷ [];
  res = DirectRes (at (G 0) 0 8 ∷ []);
  need = 240;
  frame = 48;
  block = 32;
  vectors = 0;
}
unfolding least_multiple
arrays = refl

-- 64 arguments
pub numbers_of_64 : (need_of win64 (sig_of void (replicate 64 integer)) ≡ 1184) × (frame_of win64 (sig_of void (replicate 64 integer)) ≡ 512) × (block_bytes (sig_of void (replicate 64 integer)) ≡ 512)
unfolding least_multiple
numbers_of_64 = (refl, refl, refl)

-- x87(x87,double), GCC's long double: a copy, and a hidden result
pub long_double : plan_of win64 (sig_of (scalar x87) (scalar x87 ∷ scalar double ∷ [])) ≡ record {
  places = ByRef (G 2) 32 ∷ alone (F 2) ∷ [];
  res = Hidden (G 1) 48;
  need = 256;
  frame = 64;
  block = 32;
  vectors = 0;
}
unfolding least_multiple
long_double = refl
