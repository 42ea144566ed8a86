-- The types that the kinds of the code stand for.
use Rattle.std.specs.Prelude.{ℕ, List, [], ◌∷◌, map}
use Rattle.ffi3_type_spec.specs.Tree.{Tree, scalar, u8, s32, u64, float, double, struct_of}
use Rattle.ffi3_bench_script.specs.declared.kinds.Kind.{Kind}
use Rattle.ffi3_bench_script.specs.declared.kinds.Kind.TheVariants.{Uint8, Sint32, Float, Double, TwoWords}
use Rattle.ffi3_bench_script.specs.declared.kinds.Kind.TheVariants.{DoubleAndByte, TwoFloats, ThreeWords}
use Rattle.ffi3_bench_script.specs.declared.draws.Draws.{Draws}

abbrev pub type_of : Kind → Tree
type_of Uint8 = scalar u8
type_of Sint32 = scalar s32
type_of Float = scalar float
type_of Double = scalar double
type_of TwoWords = struct_of (scalar u64 ∷ scalar u64 ∷ [])
type_of DoubleAndByte = struct_of (scalar double ∷ scalar u8 ∷ [])
type_of TwoFloats = struct_of (scalar float ∷ scalar float ∷ [])
type_of ThreeWords = struct_of (scalar u64 ∷ scalar u64 ∷ scalar u64 ∷ [])

abbrev pub types_of : List Kind → List Tree
types_of kinds = map type_of kinds

-- the state of the draws
abbrev pub state_of : Draws → ℕ
state_of d = d.state
