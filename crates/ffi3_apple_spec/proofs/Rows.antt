-- Worked rows, computed by hand; each is what clang 16 does for arm64-apple-macos11.
use Rattle.std.specs.Prelude.{◌≡◌, ℕ, List, [], ◌∷◌, ◌++◌, refl, replicate}
use Rattle.ffi3_type_spec.specs.Tree.{Tree, void, scalar, struct_of, u8, s8, u16, s16, s32, float, double, pointer}
use Rattle.ffi3_type_spec.specs.Layout.{least_multiple}
use Rattle.ffi3_place_spec.specs.declared.Loc.TheVariants.{G, F, S}
use Rattle.ffi3_place_spec.specs.declared.Place.{Place}
use Rattle.ffi3_place_spec.specs.declared.Place.TheVariants.{Direct, ByRef}
use Rattle.ffi3_place_spec.specs.declared.Res.TheVariants.{Nothing, Direct as DirectRes, Hidden}
use Rattle.ffi3_place_spec.specs.Standard.{plan_of}
use Rattle.ffi3_place_spec.proofs.Worked.{sig_of, variadic_from, at, widened, alone, integer, pair, triple, wide, halves}
use Rattle.ffi3_apple_spec.specs.Apple.{apple}

abbrev floats : ℕ → Tree
floats n = struct_of (replicate n (scalar float))

abbrev doubles : ℕ → Tree
doubles n = struct_of (replicate n (scalar double))

abbrev bytes : ℕ → Tree
bytes n = struct_of (replicate n (scalar u8))

abbrev eight : List Tree
eight = replicate 8 integer

abbrev in_general : List Place
in_general =
    alone (G 0) ∷ alone (G 1) ∷ alone (G 2) ∷ alone (G 3) ∷ alone (G 4) ∷ alone (G 5) ∷ alone (G 6) ∷ alone (G 7) ∷ []

abbrev in_vector : List Place
in_vector =
    alone (F 0) ∷ alone (F 1) ∷ alone (F 2) ∷ alone (F 3) ∷ alone (F 4) ∷ alone (F 5) ∷ alone (F 6) ∷ alone (F 7) ∷ []

-- so many bytes of the stack from one on, which are all of the argument
abbrev part : ℕ → ℕ → Place
part n w = Direct (at (S n w) 0 w ∷ [])

-- uint8(sint8,uint16): each is extended
pub narrow : plan_of apple (sig_of (scalar u8) (scalar s8 ∷ scalar u16 ∷ [])) ≡ record {
  places = Direct (widened (G 0) 1 ∷ []) ∷ Direct (widened (G 1) 2 ∷ []) ∷ [];
  res = DirectRes (widened (G 0) 1 ∷ []);
  need = 192;
  frame = 0;
  block = 16;
  vectors = 0;
}
unfolding least_multiple
narrow = refl

-- eight sint64, then uint8, sint16, uint8, sint32, uint8 and sint64: each at a multiple of its own size
pub packed_integers : plan_of apple (sig_of void (eight ++ scalar u8 ∷ scalar s16 ∷ scalar u8 ∷ scalar s32 ∷ scalar u8 ∷ integer ∷ [])) ≡ record {
  places = in_general ++ part 0 1 ∷ part 2 2 ∷ part 4 1 ∷ part 8 4 ∷ part 12 1 ∷ alone (S 16 8) ∷ [];
  res = Nothing;
  need = 320;
  frame = 32;
  block = 112;
  vectors = 0;
}
unfolding least_multiple
packed_integers = refl

-- eight sint64 and eight doubles, then sint16, float, uint8 and double
pub packed_floats : plan_of apple (sig_of void (eight ++ replicate 8 (scalar double) ++ scalar s16 ∷ scalar float ∷ scalar u8 ∷ scalar double ∷ [])) ≡ record {
  places = in_general ++ in_vector ++ part 0 2 ∷ part 4 4 ∷ part 8 1 ∷ alone (S 16 8) ∷ [];
  res = Nothing;
  need = 368;
  frame = 32;
  block = 160;
  vectors = 0;
}
unfolding least_multiple
packed_floats = refl

-- sint32(pointer,...,sint32,double,sint64): what is variadic is on the stack, whatever registers are left
pub formatted : plan_of apple (variadic_from (scalar s32) (scalar pointer ∷ scalar s32 ∷ scalar double ∷ integer ∷ []) 1) ≡ record {
  places = alone (G 0) ∷ Direct (widened (S 0 8) 4 ∷ []) ∷ alone (S 8 8) ∷ alone (S 16 8) ∷ [];
  res = DirectRes (widened (G 0) 4 ∷ []);
  need = 240;
  frame = 32;
  block = 32;
  vectors = 0;
}
unfolding least_multiple
formatted = refl

-- no register is left: three floats, two doubles and a float in structs stand as their members would
pub homogeneous_on_stack : plan_of apple (sig_of void (eight ++ replicate 8 (scalar double) ++ scalar u8 ∷ floats 3 ∷ scalar u8 ∷ doubles 2 ∷ scalar u8 ∷ floats 1 ∷ scalar float ∷ [])) ≡ record {
  places = in_general ++ in_vector ++ part 0 1 ∷ Direct (at (S 4 8) 0 8 ∷ at (S 12 4) 8 4 ∷ []) ∷ part 16 1 ∷ halves (S 24 8) (S 32 8) ∷ part 40 1 ∷ part 44 4 ∷ part 48 4 ∷ [];
  res = Nothing;
  need = 448;
  frame = 64;
  block = 208;
  vectors = 0;
}
unfolding least_multiple
homogeneous_on_stack = refl

-- other structs take doublewords: of three bytes, of one, and of three sint16
pub other_structs_on_stack : plan_of apple (sig_of void (eight ++ scalar u8 ∷ bytes 3 ∷ scalar u8 ∷ bytes 1 ∷ struct_of (replicate 3 (scalar s16)) ∷ scalar u8 ∷ [])) ≡ record {
  places = in_general ++ part 0 1 ∷ Direct (at (S 8 8) 0 3 ∷ []) ∷ part 16 1 ∷ Direct (at (S 24 8) 0 1 ∷ []) ∷ Direct (at (S 32 8) 0 6 ∷ []) ∷ part 40 1 ∷ [];
  res = Nothing;
  need = 336;
  frame = 48;
  block = 112;
  vectors = 0;
}
unfolding least_multiple
other_structs_on_stack = refl

-- sint32, uint128, sint32: x1 and x2 have the second
pub wide_in_odd : plan_of apple (sig_of void (scalar s32 ∷ wide ∷ scalar s32 ∷ [])) ≡ record {
  places = Direct (widened (G 0) 4 ∷ []) ∷ halves (G 1) (G 2) ∷ Direct (widened (G 3) 4 ∷ []) ∷ [];
  res = Nothing;
  need = 208;
  frame = 0;
  block = 32;
  vectors = 0;
}
unfolding least_multiple
wide_in_odd = refl

-- on the stack a uint128 begins at a multiple of 16
pub wide_on_stack : plan_of apple (sig_of void (eight ++ scalar u8 ∷ wide ∷ scalar u8 ∷ [])) ≡ record {
  places = in_general ++ part 0 1 ∷ halves (S 16 8) (S 24 8) ∷ part 32 1 ∷ [];
  res = Nothing;
  need = 320;
  frame = 48;
  block = 96;
  vectors = 0;
}
unfolding least_multiple
wide_on_stack = refl

-- seven sint64, a pair and two uint8: x7 stays unused
pub pair_to_stack : plan_of apple (sig_of void (replicate 7 integer ++ pair ∷ scalar u8 ∷ scalar u8 ∷ [])) ≡ record {
  places = alone (G 0) ∷ alone (G 1) ∷ alone (G 2) ∷ alone (G 3) ∷ alone (G 4) ∷ alone (G 5) ∷ alone (G 6) ∷ halves (S 0 8) (S 8 8) ∷ part 16 1 ∷ part 17 1 ∷ [];
  res = Nothing;
  need = 304;
  frame = 32;
  block = 96;
  vectors = 0;
}
unfolding least_multiple
pair_to_stack = refl

-- a struct of 24 bytes: its address stands on the stack between two uint8
pub reference_on_stack : plan_of apple (sig_of void (eight ++ scalar u8 ∷ triple ∷ scalar u8 ∷ [])) ≡ record {
  places = in_general ++ part 0 1 ∷ ByRef (S 8 8) 32 ∷ part 16 1 ∷ [];
  res = Nothing;
  need = 352;
  frame = 64;
  block = 112;
  vectors = 0;
}
unfolding least_multiple
reference_on_stack = refl

-- a result of 24 bytes: x8 has the address of its buffer
pub hidden_result : plan_of apple (sig_of triple (integer ∷ [])) ≡ record {
  places = alone (G 0) ∷ [];
  res = Hidden (G 8) 0;
  need = 224;
  frame = 32;
  block = 16;
  vectors = 0;
}
unfolding least_multiple
hidden_result = refl

-- what is variadic begins at a multiple of 8 behind what is packed
pub variadic_behind_packed : plan_of apple (variadic_from void (eight ++ scalar u8 ∷ scalar s16 ∷ scalar s32 ∷ wide ∷ scalar s32 ∷ bytes 3 ∷ []) 10) ≡ record {
  places = in_general ++ part 0 1 ∷ part 2 2 ∷ Direct (widened (S 8 8) 4 ∷ []) ∷ halves (S 16 8) (S 24 8) ∷ Direct (widened (S 32 8) 4 ∷ []) ∷ Direct (at (S 40 8) 0 3 ∷ []) ∷ [];
  res = Nothing;
  need = 352;
  frame = 48;
  block = 128;
  vectors = 0;
}
unfolding least_multiple
variadic_behind_packed = refl

-- three floats, four doubles and a struct of 24 bytes, variadic: the first two stand in doublewords, the third goes by reference
pub variadic_structs : plan_of apple (variadic_from void (scalar s32 ∷ floats 3 ∷ doubles 4 ∷ triple ∷ []) 1) ≡ record {
  places = Direct (widened (G 0) 4 ∷ []) ∷ Direct (at (S 0 8) 0 8 ∷ at (S 8 8) 8 4 ∷ []) ∷ Direct (at (S 16 8) 0 8 ∷ at (S 24 8) 8 8 ∷ at (S 32 8) 16 8 ∷ at (S 40 8) 24 8 ∷ []) ∷ ByRef (S 48 8) 64 ∷ [];
  res = Nothing;
  need = 352;
  frame = 96;
  block = 80;
  vectors = 0;
}
unfolding least_multiple
variadic_structs = refl
