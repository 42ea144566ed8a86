-- What a value is, and which value the bytes of a type have. (libffi manual, "The Basics": a value lies in memory as C lays it out)
use Rattle.std.specs.Prelude.{◌≡◌, ℕ, zero, suc, ◌+◌, ◌*◌, ◌<◌, ◌≤◌, Bool, true, false, ◌&&◌, ◌==◌, List, [], ◌∷◌}
use Rattle.std.specs.Prelude.{length, take, drop, replicate, All, slice_index, ◌≢◌, refl}
use Rattle.std.proofs.Common.{ap, ◌∙◌}
use Rattle.std.specs.Coded.{Coded, code_by, coded_list}
use denote.Struct.Codes.{itself}
use base.Stored.{Gv, gnil, gnum, gcons}
use Rattle.ffi3_type_spec.specs.Tree.{Tree, void, scalar, left_out, structure, array, Trees, no_trees, tree, trees_of}
use Rattle.ffi3_type_spec.specs.Tree.{Scalar, u8, s8, u16, s16, u32, s32, u64, s64, u128, s128, float, double, pointer}
use Rattle.ffi3_type_spec.specs.Tree.{x87, binary128}
use Rattle.ffi3_type_spec.specs.Layout.{Layout, layouts, element, scalar_size, size_of, start_of, leaves_of}

mutual
  pub data ValueTree : Type 0 where
    void_value : ValueTree
    leaf_value : List ℕ → ValueTree
    struct_value : ValueTrees → ValueTree

  pub data ValueTrees : Type 0 where
    no_values : ValueTrees
    value : ValueTree → ValueTrees → ValueTrees

abbrev pub list_of_values : ValueTrees → List ValueTree
list_of_values no_values = []
list_of_values (value v vs) = v ∷ list_of_values vs

abbrev pub values_of : List ValueTree → ValueTrees
values_of [] = no_values
values_of (v ∷ vs) = value v (values_of vs)

-- the bytes of a leaf
abbrev pub bytes_of : ValueTree → List ℕ
bytes_of void_value = []
bytes_of (leaf_value bytes) = bytes
bytes_of (struct_value vs) = []

-- the values of the elements of a struct or an array
abbrev pub elements_of : ValueTree → ValueTrees
elements_of void_value = no_values
elements_of (leaf_value bytes) = no_values
elements_of (struct_value vs) = vs

-- how many nodes a value has
abbrev mutual
  pub value_nodes : ValueTree → ℕ
  value_nodes void_value = 1
  value_nodes (leaf_value bytes) = 1
  value_nodes (struct_value vs) = all_value_nodes vs + 1

  pub all_value_nodes : ValueTrees → ℕ
  all_value_nodes no_values = 0
  all_value_nodes (value v vs) = value_nodes v + all_value_nodes vs

-- the n bytes from an offset on
abbrev pub part : List ℕ → ℕ → ℕ → List ℕ
part bytes from n = take n (drop from bytes)

-- the values of n elements of an array from number i on, each of so many bytes
abbrev pub repeated_values : (List ℕ → ValueTree) → (size : ℕ) → (i n : ℕ) → List ℕ → ValueTrees
repeated_values read size i zero bytes = no_values
repeated_values read size i (suc n) bytes =
    value (read (part bytes (i * size) size)) (repeated_values read size (i + 1) n bytes)

-- the bytes of a scalar's value among those that it takes: of x87's format the first ten
abbrev pub significant : Scalar → List ℕ → List ℕ
significant u8 bytes = bytes
significant s8 bytes = bytes
significant u16 bytes = bytes
significant s16 bytes = bytes
significant u32 bytes = bytes
significant s32 bytes = bytes
significant u64 bytes = bytes
significant s64 bytes = bytes
significant u128 bytes = bytes
significant s128 bytes = bytes
significant float bytes = bytes
significant double bytes = bytes
significant pointer bytes = bytes
significant x87 bytes = take 10 bytes
significant binary128 bytes = bytes

-- the value that the bytes of a type have: that of a struct or an array is the list of its elements' values, and padding has no part in it
abbrev mutual
  pub value_in : Tree → List ℕ → ValueTree
  value_in void bytes = void_value
  value_in (scalar s) bytes = leaf_value (significant s bytes)
  value_in (left_out k) bytes = void_value
  value_in (structure ts) bytes = struct_value (values_in ts (layouts ts) 0 bytes)
  value_in (array ts n) bytes =
      struct_value (repeated_values (first_value_in ts) (element (layouts ts) 0).size 0 n bytes)

  -- that of the first of some types
  pub first_value_in : Trees → List ℕ → ValueTree
  first_value_in no_trees bytes = void_value
  first_value_in (tree t ts) bytes = value_in t bytes

  -- those of the elements from number i on
  pub values_in : Trees → List Layout → ℕ → List ℕ → ValueTrees
  values_in no_trees es i bytes = no_values
  values_in (tree t ts) es i bytes =
      value (value_in t (part bytes (start_of es i) (size_of t))) (values_in ts es (i + 1) bytes)

-- the value whose bytes are all zero
abbrev pub zero_value : Tree → ValueTree
zero_value t = value_in t (replicate (size_of t) 0)

-- the value is a leaf of n bytes
abbrev pub is_leaf_of : ℕ → ValueTree → Bool
is_leaf_of n (leaf_value bytes) = length bytes == n
is_leaf_of n _ = false

abbrev pub is_void : ValueTree → Bool
is_void void_value = true
is_void _ = false

-- the value has the shape of the type, and the lengths of its leaves; an array's is a list, as a struct's is, and nothing fits an array of no type
abbrev mutual
  pub fits : Tree → ValueTree → Bool
  fits void v = is_void v
  fits (scalar s) v = is_leaf_of (scalar_size s) v
  fits (left_out k) v = false
  fits (structure ts) (struct_value vs) = all_fit ts vs
  fits (structure ts) _ = false
  fits (array no_trees n) v = false
  fits (array (tree t ts) n) (struct_value vs) = all_fit (trees_of (replicate n t)) vs
  fits (array (tree t ts) n) _ = false

  pub all_fit : Trees → ValueTrees → Bool
  all_fit no_trees no_values = true
  all_fit no_trees (value v vs) = false
  all_fit (tree t ts) no_values = false
  all_fit (tree t ts) (value v vs) = fits t v && all_fit ts vs

-- a byte that lies in no leaf
abbrev pub IsPadding : Tree → ℕ → Type 0
IsPadding t i =
    All (λ leaf. leaf.at ≤ i → leaf.at + scalar_size leaf.kind ≤ i) (leaves_of t)

-- the bytes have this value, and their padding is the old
pub record IsWritten (t : Tree) (v : ValueTree) (old new : List ℕ) : Type 0 where
  pub reads_back : value_in t new ≡ v
  pub padding_stays : (i : ℕ) → i < length old → IsPadding t i → slice_index new i ≡ slice_index old i

-- each byte in which the two differ is padding
abbrev pub DifferInPaddingAlone : Tree → List ℕ → List ℕ → Type 0
DifferInPaddingAlone t a b =
    (i : ℕ) → i < length a → slice_index a i ≢ slice_index b i → IsPadding t i

-- how a value is stored where a ghost value holds one, and back
abbrev bytes_code : List ℕ → Gv
bytes_code [] = gnil
bytes_code (b ∷ bs) = gcons (gnum b) (bytes_code bs)

abbrev number_in : Gv → ℕ
number_in (gnum n) = n
number_in _ = 0

abbrev bytes_back : Gv → List ℕ
bytes_back (gcons g h) = number_in g ∷ bytes_back h
bytes_back _ = []

abbrev mutual
  stored_value : ValueTree → Gv
  stored_value void_value = gnil
  stored_value (leaf_value bytes) = gcons gnil (bytes_code bytes)
  stored_value (struct_value vs) = gcons (gnum 0) (stored_values vs)

  stored_values : ValueTrees → Gv
  stored_values no_values = gnil
  stored_values (value v vs) = gcons (stored_value v) (stored_values vs)

abbrev mutual
  restored_value : Gv → ValueTree
  restored_value (gcons gnil h) = leaf_value (bytes_back h)
  restored_value (gcons (gnum n) h) = struct_value (restored_values h)
  restored_value _ = void_value

  restored_values : Gv → ValueTrees
  restored_values (gcons g h) = value (restored_value g) (restored_values h)
  restored_values _ = no_values

bytes_back-bytes_code : (bs : List ℕ) → bytes_back (bytes_code bs) ≡ bs
bytes_back-bytes_code [] = refl
bytes_back-bytes_code (b ∷ bs) = ap (λ cs. b ∷ cs) (bytes_back-bytes_code bs)

mutual
  pub restored_value-stored_value : (v : ValueTree) → restored_value (stored_value v) ≡ v
  restored_value-stored_value void_value = refl
  restored_value-stored_value (leaf_value bytes) = ap leaf_value (bytes_back-bytes_code bytes)
  restored_value-stored_value (struct_value vs) = ap struct_value (restored_values-stored_values vs)

  pub restored_values-stored_values : (vs : ValueTrees) → restored_values (stored_values vs) ≡ vs
  restored_values-stored_values no_values = refl
  restored_values-stored_values (value v vs) =
      ap (λ w. value w (restored_values (stored_values vs))) (restored_value-stored_value v)
      ∙ ap (λ ws. value v ws) (restored_values-stored_values vs)

abbrev pub value_code : Coded ValueTree
value_code = code_by Gv itself stored_value restored_value restored_value-stored_value

abbrev pub value_list_code : Coded (List ValueTree)
value_list_code = coded_list value_code
