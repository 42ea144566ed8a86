-- What tests tell: of conjunctions, of a choice, and of types that are the same.
use Rattle.std.proofs.Common.{◌≡◌, ℕ, Bool, true, false, List, [], ◌∷◌, refl, ap, ◌∙◌, sym}
use Rattle.std.specs.Prelude.{◌&&◌, ◌==◌, if◌then◌else◌, slice_index_or}
use Rattle.std.proofs.lemmas.Bool.{eqb-true, eq-eqb}
use Rattle.ffi3_type_spec.specs.Tree.{Scalar, u8, s8, u16, s16, u32, s32, u64, s64, u128, s128, float, double, pointer, x87, binary128, scalar_number, LeftOutKind, long_double, complex, vector, Tree, void, scalar, left_out, structure, array, Trees, no_trees, tree}
use Rattle.ffi3_type_spec.specs.Same.{same_tree, same_trees, same_list}

-- ---- conjunctions

pub and_left : (a b : Bool) → (a && b) ≡ true → a ≡ true
and_left true b h = refl
and_left false b h = h

pub and_right : (a b : Bool) → (a && b) ≡ true → b ≡ true
and_right true b h = h
and_right false b h = cc

pub both : (a b : Bool) → a ≡ true → b ≡ true → (a && b) ≡ true
both true b h k = k
both false b h k = cc

-- ---- a choice

pub if_true : {A : Type 0} (b : Bool) (x y : A) → b ≡ true → (if b then x else y) ≡ x
if_true true x y h = refl
if_true false x y h = cc

pub if_false : {A : Type 0} (b : Bool) (x y : A) → b ≡ false → (if b then x else y) ≡ y
if_false true x y h = cc
if_false false x y h = refl

-- ---- types

abbrev scalar_numbered : ℕ → Scalar
scalar_numbered n =
    slice_index_or (u8 ∷ s8 ∷ u16 ∷ s16 ∷ u32 ∷ s32 ∷ u64 ∷ s64 ∷ u128 ∷ s128 ∷ float ∷ double ∷ pointer ∷ u8 ∷ u8 ∷ u8 ∷ x87
    ∷ binary128 ∷ []) n u8

numbered_back : (s : Scalar) → scalar_numbered (scalar_number s) ≡ s
numbered_back u8 = refl
numbered_back _ = refl

-- two scalars of one number are one
pub scalars_of_number : (r s : Scalar) → (scalar_number r == scalar_number s) ≡ true → r ≡ s
scalars_of_number r s h =
    sym (numbered_back r) ∙ ap scalar_numbered (eqb-true (scalar_number r) (scalar_number s) h) ∙ numbered_back s

kind_is_same : (k l : LeftOutKind) → same_tree (left_out k) (left_out l) ≡ true → k ≡ l
kind_is_same long_double long_double h = refl
kind_is_same complex complex h = refl
kind_is_same vector vector h = refl
kind_is_same _ _ h = cc

mutual
  pub types_are_same : (t u : Tree) → same_tree t u ≡ true → t ≡ u
  types_are_same void void h = refl
  types_are_same (scalar r) (scalar s) h = ap scalar (scalars_of_number r s h)
  types_are_same (left_out k) (left_out l) h = ap left_out (kind_is_same k l h)
  types_are_same (structure ts) (structure us) h = ap structure (lists_are_same ts us h)
  types_are_same (array ts m) (array us n) h =
      let lists = lists_are_same ts us (and_left (same_trees ts us) (m == n) h) in
      let counts = eqb-true m n (and_right (same_trees ts us) (m == n) h) in
      λ i. array (lists i) (counts i)
  types_are_same _ _ h = cc

  pub lists_are_same : (ts us : Trees) → same_trees ts us ≡ true → ts ≡ us
  lists_are_same no_trees no_trees h = refl
  lists_are_same (tree t ts) (tree u us) h =
      ap (λ v. tree v ts) (types_are_same t u (and_left (same_tree t u) (same_trees ts us) h))
      ∙ ap (tree u) (lists_are_same ts us (and_right (same_tree t u) (same_trees ts us) h))
  lists_are_same _ _ h = cc

kind_is_itself : (k : LeftOutKind) → same_tree (left_out k) (left_out k) ≡ true
kind_is_itself long_double = refl
kind_is_itself complex = refl
kind_is_itself vector = refl

mutual
  pub type_is_itself : (t : Tree) → same_tree t t ≡ true
  type_is_itself void = refl
  type_is_itself (scalar s) = eq-eqb (scalar_number s) (scalar_number s) refl
  type_is_itself (left_out k) = kind_is_itself k
  type_is_itself (structure ts) = list_is_itself ts
  type_is_itself (array ts n) = both (same_trees ts ts) (n == n) (list_is_itself ts) (eq-eqb n n refl)

  pub list_is_itself : (ts : Trees) → same_trees ts ts ≡ true
  list_is_itself no_trees = refl
  list_is_itself (tree t ts) =
      both (same_tree t t) (same_trees ts ts) (type_is_itself t) (list_is_itself ts)

pub types_are_themselves : (ts : List Tree) → same_list ts ts ≡ true
types_are_themselves [] = refl
types_are_themselves (t ∷ ts) =
    both (same_tree t t) (same_list ts ts) (type_is_itself t) (types_are_themselves ts)
