-- An array over a list of types, as the struct of its elements: values, bytes and texts of one are those of the other.
use Rattle.std.proofs.Common.{◌≡◌, ℕ, zero, suc, ◌+◌, ◌*◌, ◌<◌, ◌≤◌, true, false, List, [], ◌∷◌, ◌++◌, replicate, length, refl, ap, sym, ◌∙◌, subst, arith}
use Rattle.std.specs.Prelude.{codes}
use Rattle.std.specs.List.{join_with_byte}
use Rattle.std.proofs.lemmas.Nat.{mul-le}
use Rattle.ffi3_type_spec.specs.declared.Role.TheVariants.{AsElement, Anywhere}
use Rattle.ffi3_type_spec.specs.Tree.{Tree, void, array, trees_of, struct_of, tree_at, first_of, list_of-trees_of, nodes, all_nodes}
use Rattle.ffi3_type_spec.specs.Layout.{size_of}
use Rattle.ffi3_type_spec.specs.Fault.{HasNoFault, IsLaidOut}
use Rattle.ffi3_type_spec.specs.Value.{ValueTree, struct_value, ValueTrees, value_in, fits, all_fit, IsWritten}
use Rattle.ffi3_type_spec.specs.ValueText.{value_text_of, value_texts_of}
use Rattle.ffi3_type_spec.proofs.Layouts.{nodes-element}
use Rattle.ffi3_type_spec.proofs.Faults.{fault_outside, right_is_small, struct_is_right}
use Rattle.ffi3_type_spec.proofs.Arrays.{length_of_equal, one_of_equal, array_size}
use Rattle.ffi3_type_spec.proofs.ArrayPlaces.{array_is_shaped}
use Rattle.ffi3_type_spec.proofs.ArrayValues.{array_value, array_written, array_texts}

all_nodes_of_equal : (n : ℕ) (t : Tree) → all_nodes (trees_of (replicate n t)) ≡ n * nodes t
all_nodes_of_equal zero t = omega arith
all_nodes_of_equal (suc n) t =
    let more : suc n * nodes t ≡ nodes t + n * nodes t = omega arith in
    omega (arith, all_nodes_of_equal n t, more)

module _ (ts : List Tree) (n : ℕ) where
  abbrev members : List Tree
  members = replicate n (tree_at ts 0)

  same_first : first_of (trees_of ts) ≡ tree_at ts 0
  same_first = ap (λ us. tree_at us 0) (list_of-trees_of ts)

  pub members_size : size_of (array (trees_of ts) n) ≡ size_of (struct_of members)
  members_size = array_size (trees_of ts) n ∙ ap (λ t. size_of (struct_of (replicate n t))) same_first

  pub members_value : (bytes : List ℕ) → value_in (array (trees_of ts) n) bytes ≡ value_in (struct_of members) bytes
  members_value bytes =
      array_value (trees_of ts) n bytes ∙ ap (λ t. value_in (struct_of (replicate n t)) bytes) same_first

  pub members_written : (v : ValueTree) (old new : List ℕ) → IsWritten (struct_of members) v old new → IsWritten (array (trees_of ts) n) v old new
  members_written v old new written =
      array_written (trees_of ts) n v old new (subst (λ t. IsWritten (struct_of (replicate n t)) v old new) (sym same_first) written)

  pub members_text : (vs : ValueTrees) → value_text_of (array (trees_of ts) n) (struct_value vs) ≡ codes "[" ++ join_with_byte 44 (value_texts_of (trees_of members) vs) ++ codes "]"
  members_text vs =
      ap (λ texts. codes "[" ++ join_with_byte 44 texts ++ codes "]") (array_texts (trees_of ts) n vs ∙ ap (λ t. value_texts_of (trees_of (replicate n t)) vs) same_first)

  -- by which a recursion from an array to its elements ends
  pub members_nodes : 0 < length ts → all_nodes (trees_of members) + 1 ≤ nodes (array (trees_of ts) n)
  members_nodes some =
      let each = nodes-element ts 0 some in
      let all = mul-le n (nodes (tree_at ts 0)) n (all_nodes (trees_of ts)) (omega arith) each in
      omega (arith, all, all_nodes_of_equal n (tree_at ts 0))

  -- the struct of the elements of an array without fault has none
  pub members_right : IsLaidOut (array (trees_of ts) n) → IsLaidOut (struct_of members)
  members_right h =
      let shape = array_is_shaped 0 Anywhere ts n h in
      let count : length members ≡ n = length_of_equal n (tree_at ts 0) in
      let some : 0 < length ts = omega (arith, shape.0) in
      let small = right_is_small 0 Anywhere (array (trees_of ts) n) h in
      struct_is_right members (omega arith) (omega (arith, count, shape.1)) (λ i below. subst (HasNoFault 1 AsElement) (sym (one_of_equal n i (tree_at ts 0) void (omega (arith, count, below)))) (element_right some)) (omega (arith, small, members_size))
    where
      element_right : 0 < length ts → HasNoFault 1 AsElement (tree_at ts 0)
      element_right some path f fault =
          h (0 ∷ path) f (fault_outside (array (trees_of ts) n) 0 path f (rw list_of-trees_of some) (rw list_of-trees_of fault))

-- what fits an array fits the struct of its elements; without an element type nothing does
pub members_fit : (ts : List Tree) (n : ℕ) (vs : ValueTrees) → 0 < length ts → fits (array (trees_of ts) n) (struct_value vs) ≡ all_fit (trees_of (replicate n (tree_at ts 0))) vs
members_fit [] n vs some = absurd (omega arith)
members_fit (t ∷ ts) n vs some = refl

pub none_fits : (ts : List Tree) (n : ℕ) (v : ValueTree) → length ts ≡ 0 → fits (array (trees_of ts) n) v ≡ false
none_fits [] n v none = refl
none_fits (t ∷ ts) n v none = absurd (omega arith)

pub fitted_is_some : (ts : List Tree) (n : ℕ) (v : ValueTree) → fits (array (trees_of ts) n) v ≡ true → 0 < length ts
fitted_is_some [] n v fit = cc
fitted_is_some (t ∷ ts) n v fit = omega arith

-- a type that is an array over a list, and the list of its elements, each known by an equation
module _ (t : Tree) (ts : List Tree) (n : ℕ) (is : t ≡ array (trees_of ts) n) where
  pub array_some : IsLaidOut t → 0 < length ts
  array_some h =
      omega (arith, (array_is_shaped 0 Anywhere ts n (subst IsLaidOut is h)).0)

  pub fitted_some : (v : ValueTree) → fits t v ≡ true → 0 < length ts
  fitted_some v fit = fitted_is_some ts n v (ap (λ u. fits u v) (sym is) ∙ fit)

  module _ (ms : List Tree) (made : ms ≡ replicate n (tree_at ts 0)) where
    made_struct : struct_of (replicate n (tree_at ts 0)) ≡ struct_of ms
    made_struct = ap struct_of (sym made)

    pub made_nodes : 0 < length ts → all_nodes (trees_of ms) + 1 ≤ nodes t
    made_nodes some =
        omega (arith, members_nodes ts n some, ap nodes is, ap (λ us. all_nodes (trees_of us)) made)

    pub made_right : IsLaidOut t → IsLaidOut (struct_of ms)
    made_right h = subst IsLaidOut made_struct (members_right ts n (subst IsLaidOut is h))

    pub made_size : size_of t ≡ size_of (struct_of ms)
    made_size = ap size_of is ∙ members_size ts n ∙ ap size_of made_struct

    pub made_value : (bytes : List ℕ) → value_in t bytes ≡ value_in (struct_of ms) bytes
    made_value bytes =
        ap (λ u. value_in u bytes) is ∙ members_value ts n bytes ∙ ap (λ u. value_in u bytes) made_struct

    pub made_fit : (vs : ValueTrees) → 0 < length ts → fits t (struct_value vs) ≡ all_fit (trees_of ms) vs
    made_fit vs some =
        ap (λ u. fits u (struct_value vs)) is ∙ members_fit ts n vs some ∙ ap (λ us. all_fit (trees_of us) vs) (sym made)

    pub made_written : (v : ValueTree) (old new : List ℕ) → IsWritten (struct_of ms) v old new → IsWritten t v old new
    made_written v old new written =
        subst (λ u. IsWritten u v old new) (sym is) (members_written ts n v old new (subst (λ u. IsWritten u v old new) (sym made_struct) written))

    pub made_text : (vs : ValueTrees) → value_text_of t (struct_value vs) ≡ codes "[" ++ join_with_byte 44 (value_texts_of (trees_of ms) vs) ++ codes "]"
    made_text vs =
        ap (λ u. value_text_of u (struct_value vs)) is ∙ members_text ts n vs ∙ ap (λ us. codes "[" ++ join_with_byte 44 (value_texts_of (trees_of us) vs) ++ codes "]") (sym made)
