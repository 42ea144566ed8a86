-- Each piece of a value has all of it.
use Rattle.std.proofs.Common.{◌≡◌, ℕ, ◌+◌, ◌*◌, ◌≤◌, Bool, true, false, not, ◌&&◌, ltb, cond, List, [], ◌∷◌, refl, arith}
use Rattle.std.specs.List.{AllByRecursion}
use Rattle.std.proofs.lemmas.Bool.Decides.{nat_tests}
use Rattle.ffi3_type_spec.specs.Tree.{Tree, scalar, Scalar, u8, s8, u16, s16, u32, s32}
use Rattle.ffi3_type_spec.specs.Layout.{size_of}
use Rattle.ffi3_type_spec.specs.Integer.{is_floating_type}
use Rattle.ffi3_place_spec.specs.declared.Loc.{Loc}
use Rattle.ffi3_place_spec.specs.declared.Loc.TheVariants.{G, F, S}
use Rattle.ffi3_place_spec.specs.Standard.{in_pieces, by_reference, place_at, places_from, copy_end}
use Rattle.ffi3_place_spec.specs.Doublewords.{widening}
use Rattle.ffi3_place_spec.specs.Sound.{IsWhole, IsExtended, IsPieceOf, HaveAll, PlaceHasAll, PlacesHaveAll}
use Rattle.ffi3_place_spec.proofs.Covered.{covers_leaves}
use Rattle.ffi3_win64_spec.specs.Win64.{is_whole_size, is_copied, general_argument, position_place, floating_places, whole, whole_in, argument_pieces, spot_at, spots_from}

-- ---- what is not copied has at most eight bytes

small_size : (n : ℕ) → not (is_whole_size n) ≡ false → n ≤ 8
small_size n h = grind (arith, nat_tests)

pub small : (t : Tree) → is_copied t ≡ false → size_of t ≤ 8
small t h = small_size (size_of t) h

-- ---- pieces

scalar_extended : (s : Scalar) (at : Loc) → IsWhole at → IsExtended (scalar s) (whole at (scalar s)) (widening (scalar s))
scalar_extended u8 at is = (refl, refl, refl, is)
scalar_extended s8 at is = (refl, refl, refl, is)
scalar_extended u16 at is = (refl, refl, refl, is)
scalar_extended s16 at is = (refl, refl, refl, is)
scalar_extended u32 at is = (refl, refl, refl, is)
scalar_extended s32 at is = (refl, refl, refl, is)
scalar_extended _ at is = tt

-- only a lone narrow integer is extended
whole_extended : (t : Tree) (at : Loc) → IsWhole at → IsExtended t (whole at t) (widening t)
whole_extended (scalar s) at is = scalar_extended s at is
whole_extended _ at is = tt

whole_are_pieces : (t : Tree) → size_of t ≤ 8 → (ls : List Loc) → AllByRecursion IsWhole ls → AllByRecursion (IsPieceOf t) (whole_in t ls)
whole_are_pieces t h [] are = tt
whole_are_pieces t h (l ∷ ls) are =
    (record { short = h; within = omega arith; fits = omega (arith, h, are.0); extended = whole_extended t l are.0 }, whole_are_pieces t h ls are.1)

pub position_is_whole : (p : ℕ) → IsWhole (position_place p)
position_is_whole p = by_test (ltb p 4)
  where
    by_test : (b : Bool) → IsWhole (cond b (G (general_argument p)) (S (8 * p) 8))
    by_test true = refl
    by_test false = refl

-- all of it in one place, and in others
pub whole_has_all : (t : Tree) → is_copied t ≡ false → (l : Loc) (ls : List Loc) → AllByRecursion IsWhole (l ∷ ls) → HaveAll t (whole_in t (l ∷ ls))
whole_has_all t h l ls are = record {
  each = whole_are_pieces t (small t h) (l ∷ ls) are;
  covered = covers_leaves t (whole_in t (l ∷ ls)) (λ o fits. (0, whole l t, omega arith, refl, (omega arith, omega (arith, fits))));
}

-- ---- arguments

pieces_have_all_if : (variadic : Bool) (p : ℕ) (t : Tree) (b : Bool) → is_copied t ≡ false → HaveAll t (whole_in t (cond b (floating_places variadic p) (position_place p ∷ [])))
pieces_have_all_if true p t true h = whole_has_all t h (G (general_argument p)) (F p ∷ []) (refl, (refl, tt))
pieces_have_all_if false p t true h = whole_has_all t h (F p) [] (refl, tt)
pieces_have_all_if variadic p t false h = whole_has_all t h (position_place p) [] (position_is_whole p, tt)

spot_has_all_if : (start : ℕ → Tree → ℕ) (end : ℕ) (variadic : Bool) (p : ℕ) (t : Tree) (copied : Bool) → is_copied t ≡ copied → PlaceHasAll t (place_at start end t (cond copied (by_reference (position_place p)) (in_pieces (argument_pieces variadic p t))))
spot_has_all_if start end variadic p t true e = position_is_whole p
spot_has_all_if start end variadic p t false e =
    pieces_have_all_if variadic p t (is_floating_type t && ltb p 4) e

pub arguments_have_all : (start : ℕ → Tree → ℕ) (end : ℕ) (variadic : Bool) (p : ℕ) (ts : List Tree) → PlacesHaveAll ts (places_from start end ts (spots_from variadic p ts))
arguments_have_all start end variadic p [] = tt
arguments_have_all start end variadic p (t ∷ ts) =
    (spot_has_all_if start end variadic p t (is_copied t) refl, arguments_have_all start (copy_end start end t (spot_at variadic p t)) variadic (p + 1) ts)
