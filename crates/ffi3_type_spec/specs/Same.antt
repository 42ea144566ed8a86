-- When two types, and two signatures, are equal, as a test that computes.
use Rattle.std.specs.Prelude.{ℕ, Bool, true, false, ◌&&◌, ◌==◌, List, [], ◌∷◌, Option, Some, None}
use Rattle.ffi3_type_spec.specs.Tree.{scalar_number, LeftOutKind, long_double, complex, vector, Tree, void, scalar}
use Rattle.ffi3_type_spec.specs.Tree.{left_out, structure, array, Trees, no_trees, tree}
use Rattle.ffi3_type_spec.specs.Signature.{Signature}

abbrev same_kind : LeftOutKind → LeftOutKind → Bool
same_kind long_double long_double = true
same_kind complex complex = true
same_kind vector vector = true
same_kind _ _ = false

abbrev mutual
  pub same_tree : Tree → Tree → Bool
  same_tree void void = true
  same_tree (scalar s) (scalar r) = scalar_number s == scalar_number r
  same_tree (left_out k) (left_out l) = same_kind k l
  same_tree (structure ts) (structure us) = same_trees ts us
  same_tree (array ts m) (array us n) = same_trees ts us && m == n
  same_tree _ _ = false

  pub same_trees : Trees → Trees → Bool
  same_trees no_trees no_trees = true
  same_trees (tree t ts) (tree u us) = same_tree t u && same_trees ts us
  same_trees _ _ = false

abbrev pub same_list : List Tree → List Tree → Bool
same_list [] [] = true
same_list (t ∷ ts) (u ∷ us) = same_tree t u && same_list ts us
same_list _ _ = false

abbrev pub same_fixed : Option ℕ → Option ℕ → Bool
same_fixed None None = true
same_fixed (Some m) (Some n) = m == n
same_fixed _ _ = false

-- equal in result, arguments and number of fixed arguments
abbrev pub same_signature : Signature → Signature → Bool
same_signature s r =
    same_tree s.result_type r.result_type && same_list s.arguments r.arguments && same_fixed s.fixed r.fixed
