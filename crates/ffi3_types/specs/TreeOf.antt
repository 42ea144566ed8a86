-- The tree that each Rust type stands for.
use Rattle.ffi3_type_spec.specs.Tree.{Tree, void, scalar, left_out, struct_of, u8, s8, u16, s16, u32, s32, u64, s64}
use Rattle.ffi3_type_spec.specs.Tree.{u128, s128, float, double, pointer, long_double, complex, vector, array}
use Rattle.ffi3_type_spec.specs.Tree.{trees_of, x87, binary128}
use Rattle.ffi3_types.specs.declared.FfiType.{FfiType}
use Rattle.ffi3_types.specs.declared.FfiType.TheVariants.{Void, U8, S8, U16, S16, U32, S32, U64, S64, U128, S128, Float}
use Rattle.ffi3_types.specs.declared.FfiType.TheVariants.{Double, Pointer, Struct, LongDouble, Complex, Vector, Array}
use Rattle.ffi3_types.specs.declared.FfiType.TheVariants.{X87, Binary128}

abbrev pub tree_of : FfiType → Tree
tree_of Void = void
tree_of U8 = scalar u8
tree_of S8 = scalar s8
tree_of U16 = scalar u16
tree_of S16 = scalar s16
tree_of U32 = scalar u32
tree_of S32 = scalar s32
tree_of U64 = scalar u64
tree_of S64 = scalar s64
tree_of U128 = scalar u128
tree_of S128 = scalar s128
tree_of Float = scalar float
tree_of Double = scalar double
tree_of Pointer = scalar pointer
tree_of (Struct fields) = struct_of fields
tree_of (Array fields count) = array (trees_of fields) count
tree_of LongDouble = left_out long_double
tree_of Complex = left_out complex
tree_of Vector = left_out vector
tree_of X87 = scalar x87
tree_of Binary128 = scalar binary128
