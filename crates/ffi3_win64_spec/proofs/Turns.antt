-- What one more argument adds, over plain variables.
use Rattle.std.proofs.Common.{◌≡◌, ℕ, ◌+◌, ◌<◌, ◌≤◌, Bool, List, [], ◌∷◌, ◌++◌, drop, length, ap, sym, ◌∙◌, arith, subst, append_assoc}
use Rattle.ffi3_type_spec.specs.declared.limits.TheConstants.{LARGEST_GAP}
use Rattle.ffi3_type_spec.specs.Tree.{Tree, tree_at}
use Rattle.ffi3_type_spec.proofs.Layouts.{least_multiple-below}
use Rattle.ffi3_place_spec.specs.declared.Place.{Place}
use Rattle.ffi3_place_spec.specs.Standard.{place_at, places_from, copy_end, copies_end, round16}
use Rattle.ffi3_place_spec.proofs.Elements.{argument_read}
use Rattle.ffi3_win64_spec.specs.Win64.{win64, spot_at, spots_from}

module _ (variadic : Bool) (first i : ℕ) (ts : List Tree) (t : Tree) (inside : i < length ts) (read : t ≡ tree_at ts i) (end next : ℕ) (ends : next ≡ copy_end win64.copy_start end t (spot_at variadic (first + i) t)) where
  index : first + i + 1 ≡ first + (i + 1)
  index = omega arith

  -- where its copy ends
  pub copies_turn : (whole : ℕ) → copies_end win64.copy_start end (drop i ts) (spots_from variadic (first + i) (drop i ts)) ≡ whole → copies_end win64.copy_start next (drop (i + 1) ts) (spots_from variadic (first + (i + 1)) (drop (i + 1) ts)) ≡ whole
  copies_turn whole before =
      let opened = subst (λ us. copies_end win64.copy_start end us (spots_from variadic (first + i) us) ≡ whole) (argument_read ts i t inside read) before in
      let counted = subst (λ p. copies_end win64.copy_start (copy_end win64.copy_start end t (spot_at variadic (first + i) t)) (drop (i + 1) ts) (spots_from variadic p (drop (i + 1) ts)) ≡ whole) index opened in
      subst (λ n. copies_end win64.copy_start n (drop (i + 1) ts) (spots_from variadic (first + (i + 1)) (drop (i + 1) ts)) ≡ whole) (sym ends) counted

  -- its place
  pub places_turn : (out new whole : List Place) (p : Place) → p ≡ place_at win64.copy_start end t (spot_at variadic (first + i) t) → new ≡ out ++ p ∷ [] → out ++ places_from win64.copy_start end (drop i ts) (spots_from variadic (first + i) (drop i ts)) ≡ whole → new ++ places_from win64.copy_start next (drop (i + 1) ts) (spots_from variadic (first + (i + 1)) (drop (i + 1) ts)) ≡ whole
  places_turn out new whole p placed pushed before =
      let here : Place = place_at win64.copy_start end t (spot_at variadic (first + i) t) in
      let opened = subst (λ us. out ++ places_from win64.copy_start end us (spots_from variadic (first + i) us) ≡ whole) (argument_read ts i t inside read) before in
      let counted = subst (λ p. out ++ (here ∷ places_from win64.copy_start (copy_end win64.copy_start end t (spot_at variadic (first + i) t)) (drop (i + 1) ts) (spots_from variadic p (drop (i + 1) ts))) ≡ whole) index opened in
      let ended = subst (λ n. out ++ (here ∷ places_from win64.copy_start n (drop (i + 1) ts) (spots_from variadic (first + (i + 1)) (drop (i + 1) ts))) ≡ whole) (sym ends) counted in
      ap (λ ps. ps ++ places_from win64.copy_start next (drop (i + 1) ts) (spots_from variadic (first + (i + 1)) (drop (i + 1) ts))) (pushed ∙ ap (λ q. out ++ q ∷ []) placed) ∙ append_assoc out _ _ ∙ ended

-- a copy begins near what stands before it
pub round16-near : (end : ℕ) → round16 end ≤ end + LARGEST_GAP
round16-near end = omega (arith, least_multiple-below 16 end (omega arith))
