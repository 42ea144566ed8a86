-- A loop that looks for an element that passes a test.
use Rattle.std.specs.Prelude.{Bool, true, false, ◌||◌}
use Rattle.std.specs.List.{list_any}
use Rattle.std.proofs.Common.{◌≡◌, ℕ, ◌+◌, ◌<◌, ◌≤◌, List, ◌∷◌, take, drop, get_or, length, refl, ap, sym, ◌∙◌}
use Rattle.std.proofs.lemmas.List.{take_all, drop_all}
use Rattle.std.proofs.lemmas.List.Folds.{list_any_at, list_any_more}
use Rattle.ffi3_type_spec.specs.Tree.{Tree}
use Rattle.ffi3_place_spec.specs.declared.Loc.{Loc}
use Rattle.ffi3_place_spec.specs.declared.Place.{Place}
use Rattle.ffi3_poison.specs.Poison.{place_has, places_have}
use Rattle.ffi3_poison.proofs.StillOwned.{or_left}

pub both_false : (a b : Bool) → a ≡ false → b ≡ false → (a || b) ≡ false
both_false true b h k = cc
both_false false b h k = k

pub not_first : (a b : Bool) → a ≡ false → (a || b) ≡ b
not_first true b h = cc
not_first false b h = refl

module _ {X : Type 0} (p : X → Bool) (xs : List X) (i : ℕ) (x : X) (below : i < length xs) (is : x ≡ get_or xs i x) where
  pub none_yet : list_any p (take i xs) ≡ false → p x ≡ false → list_any p (take (i + 1) xs) ≡ false
  none_yet before here =
      list_any_more p xs i x below ∙ both_false (list_any p (take i xs)) (p (get_or xs i x)) before (ap p (sym is) ∙ here)

  pub is_one : p x ≡ true → list_any p xs ≡ true
  is_one here = list_any_at p xs i x below (ap p (sym is) ∙ here)

pub is_none : {X : Type 0} (p : X → Bool) (xs : List X) (i : ℕ) → length xs ≤ i → list_any p (take i xs) ≡ false → list_any p xs ≡ false
is_none p xs i h none = ap (list_any p) (sym (take_all i xs h)) ∙ none

-- ---- arguments with their places

module _ (l : Loc) (k : ℕ) where
  pub no_argument : (i : ℕ) (ts : List Tree) (ps : List Place) → length ts ≤ i → places_have l k (drop i ts) (drop i ps) ≡ false
  no_argument i ts ps h = ap (λ us. places_have l k us (drop i ps)) (drop_all i ts h)

  module _ (i : ℕ) (ts : List Tree) (ps : List Place) (t : Tree) (p : Place) (types : drop i ts ≡ t ∷ drop (i + 1) ts) (places : drop i ps ≡ p ∷ drop (i + 1) ps) where
    opened : places_have l k (drop i ts) (drop i ps) ≡ (place_has t l k p || places_have l k (drop (i + 1) ts) (drop (i + 1) ps))
    opened =
        ap (λ us. places_have l k us (drop i ps)) types ∙ ap (places_have l k (t ∷ drop (i + 1) ts)) places

    pub argument_has : place_has t l k p ≡ true → places_have l k (drop i ts) (drop i ps) ≡ true
    argument_has has =
        opened ∙ or_left (place_has t l k p) (places_have l k (drop (i + 1) ts) (drop (i + 1) ps)) has

    pub argument_has_not : place_has t l k p ≡ false → places_have l k (drop i ts) (drop i ps) ≡ places_have l k (drop (i + 1) ts) (drop (i + 1) ps)
    argument_has_not has =
        opened ∙ not_first (place_has t l k p) (places_have l k (drop (i + 1) ts) (drop (i + 1) ps)) has
