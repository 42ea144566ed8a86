-- What every layout keeps: least multiples, the greatest alignment, leaves in order; an array is laid out as its elements. (libffi manual, "Size and Alignment"; C, "Structure and union specifiers": elements lie in order, each at a multiple of its alignment; "Types": the elements of an array lie one after another, and there is one at least)
use Rattle.std.specs.Prelude.{◌≡◌, ℕ, zero, suc, ◌+◌, ◌%◌, ◌<◌, ◌≤◌, List, [], ◌∷◌, ◌++◌, length, replicate, Option}
use Rattle.std.specs.Prelude.{Some, slice_get, option_and_then}
use Rattle.ffi3_type_spec.specs.Tree.{Tree, scalar, Scalar, tree_at, elements_of, struct_of, array_of}
use Rattle.ffi3_type_spec.specs.Layout.{Leaf, IsLeastMultiple, scalar_size, scalar_room, layout, size_of, align_of, leaves_of}
use Rattle.ffi3_type_spec.specs.Layout.{leaf_at, offset_of}

-- where a leaf ends
abbrev pub leaf_end : Leaf → ℕ
leaf_end leaf = leaf.at + scalar_size leaf.kind

-- the element that a path of element numbers leads to; each element of an array has a number
abbrev pub element_on : List ℕ → Tree → Option Tree
element_on [] t = Some t
element_on (i ∷ path) t = option_and_then (element_on path) (slice_get (elements_of t) i)

-- where the element at a path starts: the sum of the offsets on the way
abbrev pub offset_on : List ℕ → Tree → ℕ
offset_on [] t = 0
offset_on (i ∷ path) t = offset_of t i + offset_on path (tree_at (elements_of t) i)

-- a scalar of the type that stands where its path says
pub record StandsOnPath (t : Tree) (leaf : Leaf) : Type 0 where
  pub path : List ℕ
  pub leads : element_on path t ≡ Some (scalar leaf.kind)
  pub starts : leaf.at ≡ offset_on path t

-- a leaf of this kind starts there
pub record HasLeafAt (t : Tree) (start : ℕ) (kind : Scalar) : Type 0 where
  pub number : ℕ
  pub in_range : number < length (leaves_of t)
  pub starts : (leaf_at t number).at ≡ start
  pub is : (leaf_at t number).kind ≡ kind

-- where the element before number i ends: 0 for the first
abbrev pub end_of_previous : Tree → ℕ → ℕ
end_of_previous t zero = 0
end_of_previous t (suc i) = offset_of t i + size_of (tree_at (elements_of t) i)

-- the greatest alignment of these types
pub record IsGreatestAlignment (ts : List Tree) (align : ℕ) : Type 0 where
  pub number : ℕ
  pub in_range : number < length ts
  pub reached : align_of (tree_at ts number) ≡ align
  pub none_greater : (i : ℕ) → i < length ts → align_of (tree_at ts i) ≤ align

pub record IsWellLaidOut (t : Tree) : Type 0 where
  -- each element of a struct or an array stands at the least multiple of its alignment that is not below the end of the one before
  pub placed : (i : ℕ) → i < length (elements_of t)
      → IsLeastMultiple (align_of (tree_at (elements_of t) i)) (end_of_previous t i) (offset_of t i)
  -- the alignment of what has elements is the greatest of theirs
  pub greatest : 0 < length (elements_of t) → IsGreatestAlignment (elements_of t) (align_of t)
  -- its size is the least multiple of its alignment that is not below the end of its last element
  pub least : 0 < length (elements_of t)
      → IsLeastMultiple (align_of t) (end_of_previous t (length (elements_of t))) (size_of t)
  -- leaves lie in the type
  pub inside : (i : ℕ) → i < length (leaves_of t) → leaf_end (leaf_at t i) ≤ size_of t
  -- they rise from the left and do not overlap
  pub in_order : (i j : ℕ) → i < j → j < length (leaves_of t) → leaf_end (leaf_at t i) ≤ (leaf_at t j).at
  -- each is aligned to the bytes that it takes
  pub aligned : (i : ℕ) → i < length (leaves_of t) → (leaf_at t i).at % scalar_room (leaf_at t i).kind ≡ 0
  -- its offset is the sum of those on its path
  pub summed : (i : ℕ) → i < length (leaves_of t) → StandsOnPath t (leaf_at t i)
  -- each scalar of the type is a leaf, where its path says
  pub complete : (path : List ℕ) (s : Scalar) → element_on path t ≡ Some (scalar s) → HasLeafAt t (offset_on path t) s
  -- any type's size is a multiple of its alignment
  pub whole : size_of t % align_of t ≡ 0

-- an array of one element or more is laid out as a struct of as many equal elements
abbrev pub ArrayIsStruct : Type 0
ArrayIsStruct =
    (t : Tree) (n : ℕ) → 0 < n → layout (array_of t n) ≡ layout (struct_of (replicate n t))

-- an array of one element or more in a struct is laid out as if its elements stood there
abbrev pub ArrayIsItsElements : Type 0
ArrayIsItsElements =
    (xs ys : List Tree) (t : Tree) (n : ℕ) → 0 < n
    → layout (struct_of (xs ++ array_of t n ∷ ys)) ≡ layout (struct_of (xs ++ (replicate n t ++ ys)))
