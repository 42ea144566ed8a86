-- A type and its tree tell each other apart.
use Rattle.std.proofs.Common.{◌≡◌, refl, ap, sym, ◌∙◌}
use Rattle.ffi3_type_spec.specs.Tree.{Tree, void, scalar, left_out, structure, list_of, list_of-trees_of, u8, s8, u16, s16, u32, s32, u64, s64, u128, s128, float, double, pointer, x87, binary128, long_double, complex, vector, array}
use Rattle.ffi3_types.specs.TreeOf.{tree_of}
use Rattle.ffi3_types.specs.declared.FfiType.{FfiType}
use Rattle.ffi3_types.specs.declared.FfiType.TheVariants.{Void, U8, S8, U16, S16, U32, S32, U64, S64, U128, S128, Float, Double, Pointer, Struct, LongDouble, Complex, Vector, Array, X87, Binary128}

-- the type of a tree
abbrev pub type_of : Tree → FfiType
type_of void = Void
type_of (scalar u8) = U8
type_of (scalar s8) = S8
type_of (scalar u16) = U16
type_of (scalar s16) = S16
type_of (scalar u32) = U32
type_of (scalar s32) = S32
type_of (scalar u64) = U64
type_of (scalar s64) = S64
type_of (scalar u128) = U128
type_of (scalar s128) = S128
type_of (scalar float) = Float
type_of (scalar double) = Double
type_of (scalar pointer) = Pointer
type_of (scalar x87) = X87
type_of (scalar binary128) = Binary128
type_of (left_out long_double) = LongDouble
type_of (left_out complex) = Complex
type_of (left_out vector) = Vector
type_of (structure ts) = Struct (list_of ts)
type_of (array ts n) = Array (list_of ts) n

pub type_of-tree_of : (t : FfiType) → type_of (tree_of t) ≡ t
type_of-tree_of (Struct fields) = ap Struct (list_of-trees_of fields)
type_of-tree_of (Array fields count) = ap (λ ts. Array ts count) (list_of-trees_of fields)
type_of-tree_of Void = refl
type_of-tree_of _ = refl

pub tree_of-inj : (s t : FfiType) → tree_of s ≡ tree_of t → s ≡ t
tree_of-inj s t e = sym (type_of-tree_of s) ∙ ap type_of e ∙ type_of-tree_of t
