-- Size, alignment and leaves of a type. (libffi manual, "Size and Alignment"; arrays: C, "Types")
use Rattle.std.specs.Prelude.{◌≡◌, ℕ, zero, suc, ◌+◌, ◌*◌, ◌≤◌, ◌%◌, max, List, [], ◌∷◌, ◌++◌, map, length}
use Rattle.std.specs.Prelude.{slice_index_or, Bool, true, false, ◌||◌}
use Rattle.std.specs.Int.{next_multiple_of}
use Rattle.ffi3_type_spec.specs.Tree.{Scalar, u8, s8, u16, s16, u32, s32, u64, s64, u128, s128, float, double, pointer}
use Rattle.ffi3_type_spec.specs.Tree.{x87, binary128}
use Rattle.ffi3_type_spec.specs.Tree.{Tree, void, scalar, left_out, structure, Trees, no_trees, tree, array}

-- m is the least multiple of a that is not below n
pub record IsLeastMultiple (a n m : ℕ) : Type 0 where
  pub multiple : m % a ≡ 0
  pub not_below : n ≤ m
  pub least : (k : ℕ) → k % a ≡ 0 → n ≤ k → m ≤ k

-- the least multiple of a that is not below n, for an a that is not 0
unfoldable pub least_multiple : ℕ → ℕ → ℕ
least_multiple a n = next_multiple_of n a

-- a scalar in a flattened type, with its offset in bytes from the start
pub record Leaf : Type 0 where
  pub at : ℕ
  pub kind : Scalar

pub record Layout : Type 0 where
  pub size : ℕ
  pub align : ℕ
  pub leaves : List Leaf

-- the bytes of a scalar's value
abbrev pub scalar_size : Scalar → ℕ
scalar_size u8 = 1
scalar_size s8 = 1
scalar_size u16 = 2
scalar_size s16 = 2
scalar_size u32 = 4
scalar_size s32 = 4
scalar_size u64 = 8
scalar_size s64 = 8
scalar_size u128 = 16
scalar_size s128 = 16
scalar_size float = 4
scalar_size double = 8
scalar_size pointer = 8
scalar_size x87 = 10
scalar_size binary128 = 16

-- The bytes that a scalar takes, which are its alignment too: the six above the ten of x87's format are padding. (psABI AMD64 3.1.2: "Although a long double requires 16 bytes of storage, only the first 10 bytes are significant")
abbrev pub scalar_room : Scalar → ℕ
scalar_room u8 = 1
scalar_room s8 = 1
scalar_room u16 = 2
scalar_room s16 = 2
scalar_room u32 = 4
scalar_room s32 = 4
scalar_room u64 = 8
scalar_room s64 = 8
scalar_room u128 = 16
scalar_room s128 = 16
scalar_room float = 4
scalar_room double = 8
scalar_room pointer = 8
scalar_room x87 = 16
scalar_room binary128 = 16

-- no bytes
abbrev pub nothing : Layout
nothing = record { size = 0; align = 1; leaves = [] }

abbrev pub scalar_layout : Scalar → Layout
scalar_layout s =
    record { size = scalar_room s; align = scalar_room s; leaves = record { at = 0; kind = s } ∷ [] }

-- element i
abbrev pub element : List Layout → ℕ → Layout
element es i = slice_index_or es i nothing

-- where the elements before number i end: each starts at the least multiple of its alignment that is not below the end of the one before
abbrev pub end_before : List Layout → ℕ → ℕ
end_before es zero = 0
end_before es (suc i) =
    least_multiple (element es i).align (end_before es i) + (element es i).size

-- where element i starts
abbrev pub start_of : List Layout → ℕ → ℕ
start_of es i = least_multiple (element es i).align (end_before es i)

-- the greatest alignment of the elements before number i
abbrev pub align_before : List Layout → ℕ → ℕ
align_before es zero = 1
align_before es (suc i) = max (align_before es i) (element es i).align

abbrev pub moved : ℕ → Leaf → Leaf
moved by leaf = record { at = by + leaf.at; kind = leaf.kind }

-- the leaves of the first elements
abbrev pub leaves_before : List Layout → ℕ → List Leaf
leaves_before es zero = []
leaves_before es (suc i) =
    leaves_before es i ++ map (moved (start_of es i)) (element es i).leaves

-- a struct with these elements
abbrev pub struct_layout : List Layout → Layout
struct_layout es = record {
  size = least_multiple (align_before es (length es)) (end_before es (length es));
  align = align_before es (length es);
  leaves = leaves_before es (length es);
}

-- the leaves of the first elements of an array: element i starts at i times its size
abbrev pub repeated : Layout → ℕ → List Leaf
repeated l zero = []
repeated l (suc i) = repeated l i ++ map (moved (i * l.size)) l.leaves

-- an array of n elements with this layout
abbrev pub array_layout : Layout → ℕ → Layout
array_layout l n =
    record { size = n * l.size; align = l.align; leaves = repeated l n }

abbrev mutual
  pub layout : Tree → Layout
  layout void = nothing
  layout (scalar s) = scalar_layout s
  layout (left_out k) = nothing
  layout (structure ts) = struct_layout (layouts ts)
  layout (array ts n) = array_layout (element (layouts ts) 0) n

  pub layouts : Trees → List Layout
  layouts no_trees = []
  layouts (tree t ts) = layout t ∷ layouts ts

abbrev pub size_of : Tree → ℕ
size_of t = (layout t).size

abbrev pub align_of : Tree → ℕ
align_of t = (layout t).align

abbrev pub leaves_of : Tree → List Leaf
leaves_of t = (layout t).leaves

-- where element i of a struct or an array starts
abbrev pub offset_of : Tree → ℕ → ℕ
offset_of void i = 0
offset_of (scalar s) i = 0
offset_of (left_out k) i = 0
offset_of (structure ts) i = start_of (layouts ts) i
offset_of (array ts n) i = i * (element (layouts ts) 0).size

-- the two formats of long double that take 16 bytes
abbrev pub is_long_double : Scalar → Bool
is_long_double u8 = false
is_long_double s8 = false
is_long_double u16 = false
is_long_double s16 = false
is_long_double u32 = false
is_long_double s32 = false
is_long_double u64 = false
is_long_double s64 = false
is_long_double u128 = false
is_long_double s128 = false
is_long_double float = false
is_long_double double = false
is_long_double pointer = false
is_long_double x87 = true
is_long_double binary128 = true

-- the type is one, or has one in it
abbrev mutual
  pub has_long_double : Tree → Bool
  has_long_double void = false
  has_long_double (scalar s) = is_long_double s
  has_long_double (left_out k) = false
  has_long_double (structure ts) = have_long_double ts
  has_long_double (array ts n) = have_long_double ts

  -- one of the types is one, or has one in it
  pub have_long_double : Trees → Bool
  have_long_double no_trees = false
  have_long_double (tree t ts) = has_long_double t || have_long_double ts

-- leaf i of a type
abbrev pub leaf_at : Tree → ℕ → Leaf
leaf_at t i = slice_index_or (leaves_of t) i (record { at = 0; kind = u8 })
