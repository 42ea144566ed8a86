-- The text of a signature whose long doubles have no format yet: that of ffi3_type_spec, and C's words for these.
use Rattle.std.specs.Prelude.{◌≡◌, ℕ, ◌<◌, ◌≤◌, List, [], ◌∷◌, ◌++◌, length, take, drop, slice_index_or, Option, Some, None}
use Rattle.std.specs.Prelude.{codes}
use Rattle.std.specs.Fmt.{decimal}
use Rattle.std.specs.List.{join_with_byte}
use Rattle.ffi3_type_spec.specs.Tree.{LeftOutKind, long_double, complex, vector}
use Rattle.ffi3_type_spec.specs.Tree.{Tree, void, scalar, left_out, structure, Trees, no_trees, tree, trees_of, array}
use Rattle.ffi3_type_spec.specs.Text.{scalar_name}
use Rattle.ffi3_type_spec.specs.Signature.{Signature}

-- a vector has no text
abbrev pub left_out_text : LeftOutKind → List ℕ
left_out_text long_double = codes "long double"
left_out_text complex = codes "long double _Complex"
left_out_text vector = []

abbrev mutual
  pub told_text : Tree → List ℕ
  told_text void = codes "void"
  told_text (scalar s) = scalar_name s
  told_text (left_out k) = left_out_text k
  told_text (structure ts) = codes "struct{" ++ join_with_byte 44 (told_texts ts) ++ codes "}"
  told_text (array ts n) = slice_index_or (told_texts ts) 0 [] ++ codes "[" ++ decimal n ++ codes "]"

  pub told_texts : Trees → List (List ℕ)
  told_texts no_trees = []
  told_texts (tree t ts) = told_text t ∷ told_texts ts

-- the texts of types, between commas
abbrev pub told_list : List Tree → List ℕ
told_list ts = join_with_byte 44 (told_texts (trees_of ts))

-- where more arguments may follow, a semicolon stands after the last fixed one
abbrev pub told_arguments : List Tree → Option ℕ → List ℕ
told_arguments ts None = told_list ts
told_arguments ts (Some n) = told_list (take n ts) ++ codes ";" ++ told_list (drop n ts)

abbrev pub told_signature : Signature → List ℕ
told_signature s =
    told_text s.result_type ++ codes "(" ++ told_arguments s.arguments s.fixed ++ codes ")"

-- of a variadic function, one argument at least is fixed, and no more than there are
abbrev pub FixesSome : Signature → Type 0
FixesSome s = (n : ℕ) → s.fixed ≡ Some n → (0 < n) × (n ≤ length s.arguments)
