-- The pieces of one argument that stand on the stack rise: there is one at most.
use Rattle.std.proofs.Common.{ℕ, ◌+◌, Bool, true, false, ◌&&◌, ltb, cond, List, [], ◌∷◌}
use Rattle.std.specs.List.{AllByRecursion}
use Rattle.ffi3_type_spec.specs.Tree.{Tree}
use Rattle.ffi3_type_spec.specs.Integer.{is_floating_type}
use Rattle.ffi3_place_spec.specs.declared.Loc.TheVariants.{G, F}
use Rattle.ffi3_place_spec.specs.Standard.{in_pieces, by_reference, place_at, places_from, copy_end}
use Rattle.ffi3_place_spec.specs.Sound.{AreRising, PlaceRises}
use Rattle.ffi3_place_spec.proofs.Rising.{register_rises, general_not_stack}
use Rattle.ffi3_win64_spec.specs.Win64.{is_copied, general_argument, position_place, floating_places, whole, whole_in, argument_pieces, spot_at, spots_from}

pieces_rise_if : (variadic : Bool) (p : ℕ) (t : Tree) (b : Bool) → AreRising (whole_in t (cond b (floating_places variadic p) (position_place p ∷ [])))
pieces_rise_if true p t true = (register_rises (whole (G (general_argument p)) t) (general_not_stack (general_argument p)) (whole (F p) t ∷ []), (tt, tt))
pieces_rise_if false p t true = (tt, tt)
pieces_rise_if variadic p t false = (tt, tt)

spot_rises_if : (start : ℕ → Tree → ℕ) (end : ℕ) (variadic : Bool) (p : ℕ) (t : Tree) (copied : Bool) → PlaceRises (place_at start end t (cond copied (by_reference (position_place p)) (in_pieces (argument_pieces variadic p t))))
spot_rises_if start end variadic p t true = tt
spot_rises_if start end variadic p t false = pieces_rise_if variadic p t (is_floating_type t && ltb p 4)

pub arguments_rise : (start : ℕ → Tree → ℕ) (end : ℕ) (variadic : Bool) (p : ℕ) (ts : List Tree) → AllByRecursion PlaceRises (places_from start end ts (spots_from variadic p ts))
arguments_rise start end variadic p [] = tt
arguments_rise start end variadic p (t ∷ ts) =
    (spot_rises_if start end variadic p t (is_copied t), arguments_rise start (copy_end start end t (spot_at variadic p t)) variadic (p + 1) ts)
