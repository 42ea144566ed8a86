-- The rest of each place is filled as the standard says: a lone narrow integer is extended by its sign, all else is free.
use Rattle.std.proofs.Common.{◌≡◌, ℕ, ◌+◌, ◌*◌, Bool, true, false, ◌&&◌, ltb, cond, List, [], ◌∷◌, refl}
use Rattle.std.specs.List.{AllByRecursion}
use Rattle.ffi3_type_spec.specs.Tree.{Tree, scalar, Scalar, float, double}
use Rattle.ffi3_type_spec.specs.Integer.{is_floating_type}
use Rattle.ffi3_place_spec.specs.declared.Loc.{Loc}
use Rattle.ffi3_place_spec.specs.declared.Loc.TheVariants.{G, F, S}
use Rattle.ffi3_place_spec.specs.declared.Ext.TheVariants.{Widen}
use Rattle.ffi3_place_spec.specs.Standard.{in_pieces, by_reference, place_at, places_from, copy_end}
use Rattle.ffi3_place_spec.specs.Sound.{is_floating_place, IsFilled, IsWhole, PlaceIsFilled, PlacesAreFilled}
use Rattle.ffi3_place_spec.proofs.Filled.{narrow_filling, no_narrow_place}
use Rattle.ffi3_win64_spec.proofs.Covered.{position_is_whole}
use Rattle.ffi3_win64_spec.specs.Win64.{win64, is_copied, general_argument, position_place, floating_places, whole, whole_in, argument_pieces, result_place, spot_at, spots_from}

differ : (b : Bool) → b ≡ true → b ≡ false → ⊥
differ b h k = cc

-- a piece that is in no vector register
plain_filled : (t : Tree) (at : Loc) → is_floating_place at ≡ false → IsWhole at → IsFilled win64 t (whole at t)
plain_filled t at plain wide =
    record { narrow = λ is_narrow _. narrow_filling Widen t is_narrow; single = λ h k. absurd (differ (is_floating_place at) h plain); narrow_place = no_narrow_place at wide }

-- floating-point, in any place
scalar_filled : (s : Scalar) (at : Loc) → IsWhole at → is_floating_type (scalar s) ≡ true → IsFilled win64 (scalar s) (whole at (scalar s))
scalar_filled float at wide e = record { narrow = λ h _. cc; single = λ h k. refl; narrow_place = no_narrow_place at wide }
scalar_filled double at wide e = record { narrow = λ h _. cc; single = λ h k. refl; narrow_place = no_narrow_place at wide }
scalar_filled _ at wide e = cc

floating_filled : (t : Tree) (at : Loc) → IsWhole at → is_floating_type t ≡ true → IsFilled win64 t (whole at t)
floating_filled (scalar s) at wide e = scalar_filled s at wide e
floating_filled _ at wide e = cc

position_is_plain : (p : ℕ) → is_floating_place (position_place p) ≡ false
position_is_plain p = by_test (ltb p 4)
  where
    by_test : (b : Bool) → is_floating_place (cond b (G (general_argument p)) (S (8 * p) 8)) ≡ false
    by_test true = refl
    by_test false = refl

-- ---- arguments

pieces_filled_if : (variadic : Bool) (p : ℕ) (t : Tree) (f l : Bool) → is_floating_type t ≡ f → AllByRecursion (IsFilled win64 t) (whole_in t (cond (f && l) (floating_places variadic p) (position_place p ∷ [])))
pieces_filled_if true p t true true e = (floating_filled t (G (general_argument p)) refl e, (floating_filled t (F p) refl e, tt))
pieces_filled_if false p t true true e = (floating_filled t (F p) refl e, tt)
pieces_filled_if variadic p t true false e = (plain_filled t (position_place p) (position_is_plain p) (position_is_whole p), tt)
pieces_filled_if variadic p t false l e = (plain_filled t (position_place p) (position_is_plain p) (position_is_whole p), tt)

spot_filled_if : (start : ℕ → Tree → ℕ) (end : ℕ) (variadic : Bool) (p : ℕ) (t : Tree) (copied : Bool) → PlaceIsFilled win64 t (place_at start end t (cond copied (by_reference (position_place p)) (in_pieces (argument_pieces variadic p t))))
spot_filled_if start end variadic p t true = tt
spot_filled_if start end variadic p t false = pieces_filled_if variadic p t (is_floating_type t) (ltb p 4) refl

pub arguments_filled : (start : ℕ → Tree → ℕ) (end : ℕ) (variadic : Bool) (p : ℕ) (ts : List Tree) → PlacesAreFilled win64 ts (places_from start end ts (spots_from variadic p ts))
arguments_filled start end variadic p [] = tt
arguments_filled start end variadic p (t ∷ ts) =
    (spot_filled_if start end variadic p t (is_copied t), arguments_filled start (copy_end start end t (spot_at variadic p t)) variadic (p + 1) ts)

-- ---- a result

result_filled_if : (t : Tree) (f : Bool) → is_floating_type t ≡ f → IsFilled win64 t (whole (cond f (F 0) (G 0)) t)
result_filled_if t true e = floating_filled t (F 0) refl e
result_filled_if t false e = plain_filled t (G 0) refl refl

pub result_filled : (t : Tree) → AllByRecursion (IsFilled win64 t) (whole (result_place t) t ∷ [])
result_filled t = (result_filled_if t (is_floating_type t) refl, tt)
