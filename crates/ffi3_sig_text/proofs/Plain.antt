-- Where nothing is left out, the text is that of ffi3_type_spec.
use Rattle.std.proofs.Common.{◌≡◌, arith, ℕ, zero, suc, ◌<◌, List, [], ◌∷◌, ◌++◌, length, take, drop, Option, Some, None, refl, ap, ap₂}
use Rattle.std.specs.Prelude.{codes, slice_get, slice_index_or, option_and_then}
use Rattle.std.specs.Fmt.{decimal}
use Rattle.std.specs.List.{join_with_byte}
use Rattle.ffi3_type_spec.specs.declared.Role.{Role}
use Rattle.ffi3_type_spec.specs.Tree.{Tree, void, scalar, left_out, structure, array, Trees, no_trees, tree, trees_of, list_of, tree_at, LeftOutKind}
use Rattle.ffi3_type_spec.specs.Fault.{HasNoFault, node_at, left_out_type, left_out_kind}
use Rattle.ffi3_type_spec.specs.Signature.{Signature, SignatureHasNoFault}
use Rattle.ffi3_type_spec.specs.Text.{text_of, texts_of, list_text, arguments_text, signature_text}
use Rattle.ffi3_type_spec.proofs.Right.{result_is_right, argument_is_right}
use Rattle.ffi3_format_spec.specs.SigText.{told_text, told_texts, told_list, told_arguments, told_signature}

-- the type has nothing that is left out
abbrev mutual
  pub IsWhole : Tree → Type 0
  IsWhole void = Unit {0}
  IsWhole (scalar s) = Unit {0}
  IsWhole (left_out k) = ⊥
  IsWhole (structure ts) = AreWhole ts
  IsWhole (array ts n) = AreWhole ts

  pub AreWhole : Trees → Type 0
  AreWhole no_trees = Unit {0}
  AreWhole (tree t ts) = IsWhole t × AreWhole ts

mutual
  pub plain_text : (t : Tree) → IsWhole t → told_text t ≡ text_of t
  plain_text void h = refl
  plain_text (scalar s) h = refl
  plain_text (left_out k) h = absurd h
  plain_text (structure ts) h =
      ap (λ xs. codes "struct{" ++ join_with_byte 44 xs ++ codes "}") (plain_texts ts h)
  plain_text (array ts n) h =
      ap (λ xs. slice_index_or xs 0 [] ++ codes "[" ++ decimal n ++ codes "]") (plain_texts ts h)

  pub plain_texts : (ts : Trees) → AreWhole ts → told_texts ts ≡ texts_of ts
  plain_texts no_trees h = refl
  plain_texts (tree t ts) (h, hs) = ap₂ (λ x xs. x ∷ xs) (plain_text t h) (plain_texts ts hs)

-- ---- what can be called has nothing that is left out

abbrev NoneLeftOut : Tree → Type 0
NoneLeftOut t = (path : List ℕ) (k : LeftOutKind) → node_at path t ≡ Some (left_out k) → ⊥

abbrev NoneLeftOutIn : Trees → Type 0
NoneLeftOutIn ts =
    (i : ℕ) (path : List ℕ) (k : LeftOutKind) → option_and_then (node_at path) (slice_get (list_of ts) i) ≡ Some (left_out k) → ⊥

mutual
  is_whole : (t : Tree) → NoneLeftOut t → IsWhole t
  is_whole void none = tt
  is_whole (scalar s) none = tt
  is_whole (left_out k) none = none [] k refl
  is_whole (structure ts) none = are_whole ts (λ i path. none (i ∷ path))
  is_whole (array ts n) none = are_whole ts (λ i path. none (i ∷ path))

  are_whole : (ts : Trees) → NoneLeftOutIn ts → AreWhole ts
  are_whole no_trees none = tt
  are_whole (tree t ts) none = (is_whole t (λ path. none 0 path), are_whole ts (λ i. none (suc i)))

right_is_whole : (role : Role) (t : Tree) → HasNoFault 0 role t → IsWhole t
right_is_whole role t right =
    is_whole t (λ path k is. right path (left_out_type (left_out k)) (left_out_kind is))

all_whole : (ts : List Tree) → ((i : ℕ) → i < length ts → IsWhole (tree_at ts i)) → AreWhole (trees_of ts)
all_whole [] each = tt
all_whole (t ∷ ts) each =
    (each 0 (omega arith), all_whole ts (λ i below. each (suc i) (omega (arith, below))))

taken_whole : (n : ℕ) (ts : List Tree) → AreWhole (trees_of ts) → AreWhole (trees_of (take n ts))
taken_whole zero [] whole = tt
taken_whole zero (t ∷ ts) whole = tt
taken_whole (suc n) [] whole = tt
taken_whole (suc n) (t ∷ ts) whole = (whole.0, taken_whole n ts whole.1)

dropped_whole : (n : ℕ) (ts : List Tree) → AreWhole (trees_of ts) → AreWhole (trees_of (drop n ts))
dropped_whole zero [] whole = tt
dropped_whole zero (t ∷ ts) whole = whole
dropped_whole (suc n) [] whole = tt
dropped_whole (suc n) (t ∷ ts) whole = dropped_whole n ts whole.1

plain_list : (ts : List Tree) → AreWhole (trees_of ts) → told_list ts ≡ list_text ts
plain_list ts whole = ap (join_with_byte 44) (plain_texts (trees_of ts) whole)

plain_arguments : (ts : List Tree) (fixed : Option ℕ) → AreWhole (trees_of ts) → told_arguments ts fixed ≡ arguments_text ts fixed
plain_arguments ts None whole = plain_list ts whole
plain_arguments ts (Some n) whole =
    ap₂ (λ xs ys. xs ++ codes ";" ++ ys) (plain_list (take n ts) (taken_whole n ts whole)) (plain_list (drop n ts) (dropped_whole n ts whole))

-- SO ITS TEXT IS THE SAME
pub callable_text : (s : Signature) → SignatureHasNoFault s → told_signature s ≡ signature_text s
callable_text s right =
    ap₂ (λ xs ys. xs ++ codes "(" ++ ys ++ codes ")") (plain_text s.result_type (right_is_whole _ s.result_type (result_is_right s right))) (plain_arguments s.arguments s.fixed (all_whole s.arguments (λ i below. right_is_whole _ (tree_at s.arguments i) (argument_is_right s right i below))))
