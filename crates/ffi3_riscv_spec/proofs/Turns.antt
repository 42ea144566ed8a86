-- One more argument, over plain variables.
use Rattle.std.proofs.Common.{◌≡◌, ℕ, ◌+◌, ◌<◌, List, [], ◌∷◌, ◌++◌, map, drop, length, ap, subst, ◌∙◌, append_assoc}
use Rattle.std.specs.Prelude.{Option}
use Rattle.ffi3_type_spec.specs.Tree.{Tree, tree_at}
use Rattle.ffi3_place_spec.specs.Standard.{Spot}
use Rattle.ffi3_place_spec.proofs.Elements.{argument_read}
use Rattle.ffi3_riscv_spec.specs.declared.Shape.{Shape}
use Rattle.ffi3_riscv_spec.specs.declared.TakenWords.{TakenWords}
use Rattle.ffi3_riscv_spec.specs.Riscv.{is_fixed, spot_of, taken_at_start, taken_by_shape, shape_after, spot_after, taken_with, spots_after, taken_after}

-- ---- one more argument, by its number, its type, where it begins and how it is passed

module _ (fixed : Option ℕ) (end from new : TakenWords) (i : ℕ) (ts : List Tree) (t : Tree) (shape : Shape) (inside : i < length ts) (read : t ≡ tree_at ts i) (begins : from ≡ taken_at_start end (is_fixed fixed i) t) (passed : shape ≡ shape_after end (is_fixed fixed i) t) (taken : new ≡ taken_by_shape from shape) where
  abbrev rest : List Tree
  rest = drop (i + 1) ts

  spot_is : spot_of from t shape ≡ spot_after end (is_fixed fixed i) t
  spot_is = ap (λ x. spot_of from t x) passed ∙ ap (λ a. spot_of a t (shape_after end (is_fixed fixed i) t)) begins

  taken_is : new ≡ taken_with end (is_fixed fixed i) t
  taken_is = taken ∙ ap (λ x. taken_by_shape from x) passed ∙ ap (λ a. taken_by_shape a (shape_after end (is_fixed fixed i) t)) begins

  pub taken_turn : (whole : TakenWords) → taken_after fixed end i (drop i ts) ≡ whole → taken_after fixed new (i + 1) rest ≡ whole
  taken_turn whole before =
      let begun = subst (λ l. taken_after fixed end i l ≡ whole) (argument_read ts i t inside read) before in
      ap (λ u. taken_after fixed u (i + 1) rest) taken_is ∙ begun

  -- of each spot its place, whatever `place` gives
  pub places_turn : {X : Type 0} (place : Spot → X) (out more whole : List X) (here : X) → here ≡ place (spot_of from t shape) → more ≡ out ++ here ∷ [] → out ++ map place (spots_after fixed end i (drop i ts)) ≡ whole → more ++ map place (spots_after fixed new (i + 1) rest) ≡ whole
  places_turn place out more whole here stands pushed before =
      let stands_there : here ≡ place (spot_after end (is_fixed fixed i) t) = stands ∙ ap place spot_is in
      let begun = subst (λ l. out ++ map place (spots_after fixed end i l) ≡ whole) (argument_read ts i t inside read) before in
      ap (λ o. o ++ map place (spots_after fixed new (i + 1) rest)) (pushed ∙ ap (λ q. out ++ q ∷ []) stands_there) ∙ append_assoc out (place (spot_after end (is_fixed fixed i) t) ∷ []) (map place (spots_after fixed new (i + 1) rest)) ∙ ap (λ u. out ++ place (spot_after end (is_fixed fixed i) t) ∷ map place (spots_after fixed u (i + 1) rest)) taken_is ∙ begun
