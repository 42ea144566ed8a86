-- The leaf that each Rust leaf stands for.
use Rattle.std.specs.Prelude.{◌≡◌, ℕ, List, slice_index_or, refl}
use Rattle.std.specs.Coded.{Coded, code_by, coded×, coded_list, coded_ℕ}
use Rattle.ffi3_type_spec.specs.Tree.{Tree, scalar, u8, tree_code}
use Rattle.ffi3_type_spec.specs.Layout.{Leaf}
use Rattle.ffi3_type_spec.specs.Integer.{scalar_of}
use Rattle.ffi3_types.specs.TreeOf.{tree_of}
use Rattle.ffi3_types.specs.declared.leaves.Leaf as code

-- its kind is a scalar
abbrev pub IsLeaf : code.Leaf → Type 0
IsLeaf leaf = tree_of leaf.kind ≡ scalar (scalar_of (tree_of leaf.kind))

abbrev pub leaf_of : code.Leaf → Leaf
leaf_of leaf = record { at = leaf.at; kind = scalar_of (tree_of leaf.kind) }

-- leaf i of a list
abbrev pub leaf_in : List Leaf → ℕ → Leaf
leaf_in ls i = slice_index_or ls i (record { at = 0; kind = u8 })

abbrev leaf_code : Coded Leaf
leaf_code =
    code_by
    (ℕ × Tree)
    (coded× coded_ℕ tree_code)
    (λ l. (l.at, scalar l.kind))
    (λ p. record { at = p.0; kind = scalar_of p.1 })
    (λ _. refl)

abbrev pub leaf_list_code : Coded (List Leaf)
leaf_list_code = coded_list leaf_code
