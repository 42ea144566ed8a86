-- Types and signatures as text, in the words of `type_names`.
use Rattle.std.specs.Prelude.{ℕ, List, [], ◌∷◌, ◌++◌, take, drop, slice_index_or, Option, Some, None, codes}
use Rattle.std.specs.Fmt.{decimal}
use Rattle.std.specs.List.{join_with_byte}
use Rattle.ffi3_type_spec.specs.Tree.{Scalar, u8, s8, u16, s16, u32, s32, u64, s64, u128, s128, float, double, pointer}
use Rattle.ffi3_type_spec.specs.Tree.{x87, binary128}
use Rattle.ffi3_type_spec.specs.Tree.{Tree, void, scalar, left_out, structure, Trees, no_trees, tree, trees_of, array}
use Rattle.ffi3_type_spec.specs.Signature.{Signature}

abbrev pub scalar_name : Scalar → List ℕ
scalar_name u8 = codes "uint8"
scalar_name s8 = codes "sint8"
scalar_name u16 = codes "uint16"
scalar_name s16 = codes "sint16"
scalar_name u32 = codes "uint32"
scalar_name s32 = codes "sint32"
scalar_name u64 = codes "uint64"
scalar_name s64 = codes "sint64"
scalar_name u128 = codes "uint128"
scalar_name s128 = codes "sint128"
scalar_name float = codes "float"
scalar_name double = codes "double"
scalar_name pointer = codes "pointer"
scalar_name x87 = codes "x87"
scalar_name binary128 = codes "binary128"

-- a name, or a struct's elements between commas, or an array's element and its count; what is left out has no text
abbrev mutual
  pub text_of : Tree → List ℕ
  text_of void = codes "void"
  text_of (scalar s) = scalar_name s
  text_of (left_out k) = []
  text_of (structure ts) = codes "struct{" ++ join_with_byte 44 (texts_of ts) ++ codes "}"
  text_of (array ts n) = slice_index_or (texts_of ts) 0 [] ++ codes "[" ++ decimal n ++ codes "]"

  pub texts_of : Trees → List (List ℕ)
  texts_of no_trees = []
  texts_of (tree t ts) = text_of t ∷ texts_of ts

-- the texts of types, between commas
abbrev pub list_text : List Tree → List ℕ
list_text ts = join_with_byte 44 (texts_of (trees_of ts))

-- where more arguments may follow, a semicolon stands after the last fixed one
abbrev pub arguments_text : List Tree → Option ℕ → List ℕ
arguments_text ts None = list_text ts
arguments_text ts (Some n) = list_text (take n ts) ++ codes ";" ++ list_text (drop n ts)

abbrev pub signature_text : Signature → List ℕ
signature_text s =
    text_of s.result_type ++ codes "(" ++ arguments_text s.arguments s.fixed ++ codes ")"
