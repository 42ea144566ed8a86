-- The doublewords of a value have every byte of its leaves.
use Rattle.std.proofs.Common.{◌≡◌, ℕ, zero, suc, ◌+◌, ◌-◌, ◌*◌, ◌/◌, ◌<◌, ◌≤◌, true, List, [], ◌∷◌, ◌++◌, ap, sym, ◌∙◌, refl, arith, subst, append_assoc, ⊎_elim}
use Rattle.std.specs.List.{AllByRecursion, Any}
use Rattle.std.proofs.lemmas.Bool.{cases_lt}
use Rattle.ffi3_type_spec.specs.Tree.{Tree, scalar, Scalar, u8, s8, u16, s16, u32, s32}
use Rattle.ffi3_type_spec.specs.Layout.{Leaf, size_of, scalar_size, least_multiple}
use Rattle.ffi3_place_spec.specs.declared.Loc.{Loc}
use Rattle.ffi3_place_spec.specs.declared.Loc.TheVariants.{S}
use Rattle.ffi3_place_spec.specs.declared.Ext.{Ext}
use Rattle.ffi3_place_spec.specs.declared.Ext.TheVariants.{Widen}
use Rattle.ffi3_place_spec.specs.declared.Piece.{Piece}
use Rattle.ffi3_place_spec.specs.Standard.{doubleword, round8}
use Rattle.ffi3_place_spec.specs.Doublewords.{doublewords, filling, widening, doublewords_at, stack_pieces, leaf_piece}
use Rattle.ffi3_place_spec.specs.Holds.{Carries}
use Rattle.ffi3_place_spec.specs.Sound.{IsWhole, IsPieceOf, IsExtended, HaveAll, is_narrow_integer}
use Rattle.ffi3_place_spec.proofs.Covered.{EndsIn, covers_leaves, any_later}

-- ---- what fills the rest of a place

-- the filling suits each piece that is a whole narrow integer
abbrev pub SuitsNarrow : Ext → Type 0
SuitsNarrow e =
    (t : Tree) (p : Piece)
    → (is_narrow_integer t ≡ true) × (p.off ≡ 0) × (p.len ≡ size_of t) × IsWhole p.loc
    → IsExtended t p e

-- the filling suits each doubleword of the value, in a place of eight bytes
abbrev pub SuitsDoublewords : Tree → Ext → Type 0
SuitsDoublewords t e =
    (l : Loc) (j : ℕ) → IsWhole l → 8 * j < size_of t → IsExtended t (doubleword l j (size_of t) e) e

filled_scalar : (e : Ext) → SuitsNarrow e → (s : Scalar) → SuitsDoublewords (scalar s) (filling e (scalar s))
filled_scalar e suits u8 l j whole h = suits (scalar u8) (doubleword l j 1 e) (refl, omega arith, omega arith, whole)
filled_scalar e suits s8 l j whole h = suits (scalar s8) (doubleword l j 1 e) (refl, omega arith, omega arith, whole)
filled_scalar e suits u16 l j whole h = suits (scalar u16) (doubleword l j 2 e) (refl, omega arith, omega arith, whole)
filled_scalar e suits s16 l j whole h = suits (scalar s16) (doubleword l j 2 e) (refl, omega arith, omega arith, whole)
filled_scalar e suits u32 l j whole h = suits (scalar u32) (doubleword l j 4 e) (refl, omega arith, omega arith, whole)
filled_scalar e suits s32 l j whole h = suits (scalar s32) (doubleword l j 4 e) (refl, omega arith, omega arith, whole)
filled_scalar e suits _ l j whole h = tt

-- only a lone integer is filled, and it is one doubleword
pub filling_suits : (e : Ext) → SuitsNarrow e → (t : Tree) → SuitsDoublewords t (filling e t)
filling_suits e suits (scalar s) l j whole h = filled_scalar e suits s l j whole h
filling_suits e suits _ l j whole h = tt

pub widening_suits : (t : Tree) → SuitsDoublewords t (widening t)
widening_suits t = filling_suits Widen (λ u p h. h) t

-- ---- pieces

-- a doubleword of a value is a piece of it
pub doubleword_is_piece : (t : Tree) (e : Ext) → SuitsDoublewords t e → (l : Loc) (j : ℕ) → IsWhole l → 8 * j < size_of t → IsPieceOf t (doubleword l j (size_of t) e)
doubleword_is_piece t e suits l j whole h =
    record { short = omega arith; within = omega arith; fits = omega (arith, whole); extended = suits l j whole h }

-- a leaf of at most eight bytes of a value is a piece of it
pub leaf_is_piece : (t : Tree) (at : Loc) (e : Ext) (l : Leaf) → IsWhole at → scalar_size l.kind ≤ 8 → EndsIn (size_of t) l → IsExtended t (leaf_piece at e l) e → IsPieceOf t (leaf_piece at e l)
leaf_is_piece t at e l whole small ends suits =
    record { short = small; within = ends; fits = omega (arith, whole, small); extended = suits }

-- each doubleword of the value is a piece of it
abbrev pub ArePieces : (ℕ → Loc) → Tree → Ext → Type 0
ArePieces place t e =
    (j : ℕ) → 8 * j < size_of t → IsPieceOf t (doubleword (place j) j (size_of t) e)

pub whole_pieces : (place : ℕ → Loc) (t : Tree) (e : Ext) → SuitsDoublewords t e → ((j : ℕ) → IsWhole (place j)) → ArePieces place t e
whole_pieces place t e suits whole j h = doubleword_is_piece t e suits (place j) j (whole j) h

module _ (place : ℕ → Loc) (t : Tree) (e : Ext) (are : ArePieces place t e) where
  doublewords_are_pieces : (j count : ℕ) → j + count ≤ doublewords t → AllByRecursion (IsPieceOf t) (doublewords_at place (size_of t) e j count)
  doublewords_are_pieces j zero h = tt
  doublewords_are_pieces j (suc count) h =
      (are j (omega arith), doublewords_are_pieces (j + 1) count (omega arith))

  doublewords_carry : (o j count : ℕ) → 8 * j ≤ o → o < 8 * (j + count) → o < size_of t → Any (Carries o) (doublewords_at place (size_of t) e j count)
  doublewords_carry o j zero low high fits = absurd (omega arith)
  doublewords_carry o j (suc count) low high fits =
      ⊎_elim (λ h. (0, _, omega arith, refl, (low, omega arith)))
      (λ h. any_later (Carries o) _ _ (doublewords_carry o (j + 1) count (omega arith) (omega arith) fits))
      (cases_lt o (8 * j + 8))

  -- all doublewords have all of the value
  pub doublewords_have_all : HaveAll t (doublewords_at place (size_of t) e 0 (doublewords t))
  doublewords_have_all = record {
    each = doublewords_are_pieces 0 (doublewords t) (omega arith);
    covered = covers_leaves t (doublewords_at place (size_of t) e 0 (doublewords t)) (λ o h. doublewords_carry o 0 (doublewords t) (omega arith) (omega (arith, h)) h);
  }

pub stack_has_all : (start : ℕ) (t : Tree) → HaveAll t (stack_pieces start t)
stack_has_all start t =
    let place : ℕ → Loc = λ j. S (start + 8 * j) 8 in
    doublewords_have_all place t (widening t) (whole_pieces place t (widening t) (widening_suits t) (λ j. refl))

pub doublewords_in : (n : ℕ) → 8 * ((n + 7) / 8) ≤ round8 n
unfolding least_multiple
doublewords_in n = omega arith

-- one more doubleword, where the new list and its last piece are known by equations
pub doublewords_turn : (place : ℕ → Loc) (size : ℕ) (e : Ext) (j count : ℕ) (out new whole : List Piece) (l : Loc) (p : Piece) → j < count → l ≡ place j → p ≡ doubleword l j size e → new ≡ out ++ p ∷ [] → out ++ doublewords_at place size e j (count - j) ≡ whole → new ++ doublewords_at place size e (j + 1) (count - (j + 1)) ≡ whole
doublewords_turn place size e j count out new whole l p h loc piece pushed before =
    let next : suc (count - (j + 1)) ≡ count - j = omega arith in
    let opened = subst (λ m. out ++ doublewords_at place size e j m ≡ whole) (sym next) before in
    ap (λ ps. ps ++ doublewords_at place size e (j + 1) (count - (j + 1))) (pushed ∙ ap (λ q. out ++ q ∷ []) (piece ∙ ap (λ m. doubleword m j size e) loc)) ∙ append_assoc out _ _ ∙ opened
