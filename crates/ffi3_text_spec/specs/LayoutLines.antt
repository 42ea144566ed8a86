-- Lines of layout: size, alignment and leaves of a signature's types.
use Rattle.std.specs.Prelude.{ℕ, ◌<◌, ⊤, List, [], ◌∷◌, ◌++◌, length, codes}
use Rattle.std.specs.List.{flat_map}
use Rattle.std.specs.Fmt.{decimal}
use Rattle.ffi3_type_spec.specs.Tree.{Tree, void, scalar, tree_at}
use Rattle.ffi3_type_spec.specs.Layout.{Leaf, size_of, align_of, leaves_of}
use Rattle.ffi3_type_spec.specs.Signature.{Signature, Position, at_result, at_argument}
use Rattle.ffi3_type_spec.specs.Text.{text_of}

-- the signature has this type
abbrev pub IsIn : Signature → Position → Type 0
IsIn s at_result = ⊤
IsIn s (at_argument j) = j < length s.arguments

-- a type at an offset, after a space
abbrev pub at_text : ℕ → Tree → List ℕ
at_text at t = (codes " " ++ (decimal at ++ codes ":")) ++ text_of t

abbrev pub leaf_text : Leaf → List ℕ
leaf_text l = at_text l.at (scalar l.kind)

abbrev pub leaf_texts : List Leaf → List ℕ
leaf_texts ls = flat_map leaf_text ls

-- size, alignment and leaves
abbrev pub sized_text : Tree → List ℕ
sized_text t =
    (codes " size " ++ (decimal (size_of t) ++ (codes " align " ++ (decimal (align_of t) ++ codes " leaves"))))
    ++ leaf_texts (leaves_of t)

-- nothing follows Void
abbrev pub layout_text : Tree → List ℕ
layout_text void = []
layout_text t = sized_text t

abbrev pub type_layout_text : Tree → List ℕ
type_layout_text t = text_of t ++ layout_text t

-- THE LINE OF THE RESULT OR AN ARGUMENT of signature i
abbrev pub layout_text_of : ℕ → Signature → Position → List ℕ
layout_text_of i s at_result =
    (codes "sig " ++ (decimal i ++ codes " ret ")) ++ type_layout_text s.result_type ++ 10 ∷ []
layout_text_of i s (at_argument j) =
    (codes "sig " ++ (decimal i ++ (codes " arg " ++ (decimal j ++ codes " "))))
    ++ type_layout_text (tree_at s.arguments j) ++ 10 ∷ []
