-- A plan goes by layouts where the standard's placing and its starts of copies do.
use Rattle.std.proofs.Common.{◌≡◌, ℕ, ◌+◌, max, List, [], ◌∷◌, ◌++◌, fold, refl, ap, ◌∙◌}
use Rattle.std.specs.List.{sum_by}
use Rattle.ffi3_type_spec.specs.Tree.{Tree, structure, trees_of}
use Rattle.ffi3_type_spec.specs.Layout.{layout, layouts, struct_layout, array_layout, size_of, least_multiple}
use Rattle.ffi3_type_spec.specs.Signature.{Signature}
use Rattle.ffi3_place_spec.specs.declared.Place.TheVariants.{ByRef}
use Rattle.ffi3_place_spec.specs.declared.Res.TheVariants.{Hidden}
use Rattle.ffi3_place_spec.specs.Standard.{Standard, Spot, in_pieces, by_reference, ResultSpot, no_result, in_result_pieces, in_buffer, Placing, round8, round16, start, place_at, copy_end, places_from, copies_end, result_at, buffer_end, copies_start, frame_copies_end, frame_of, block_bytes, need_of, plan_of}
use Rattle.ffi3_place_spec.specs.Alike.{AreAlike, same_type, same_layout, AllAlike, SignaturesAreAlike, GoesByLayout, HasElementsForArray, in_place, inside, inside_array, AreAlikeButForArrays, no_difference, elements_for_array, AllAlikeButForArrays, PlacesArraysAsElements}
use Rattle.ffi3_type_spec.proofs.Arrays.{array_is_its_elements}

pub size_alike : (t u : Tree) → AreAlike t u → size_of t ≡ size_of u
size_alike t u same_type = refl
size_alike t u (same_layout e) = ap (λ l. l.size) e

pub start_alike : (end : ℕ) (t u : Tree) → AreAlike t u → start end t ≡ start end u
start_alike end t u same_type = refl
start_alike end t u (same_layout e) = ap (λ l. least_multiple (max 8 l.align) end) e

-- a function over a list of types is the same of lists that are alike, if one type more at the head makes no difference
pub all_alike : {X R : Type 0} (F : List Tree → X → R) → ((t u : Tree) (ts us : List Tree) → AreAlike t u → ((x : X) → F ts x ≡ F us x) → (x : X) → F (t ∷ ts) x ≡ F (u ∷ us) x) → (ts us : List Tree) → AllAlike ts us → (x : X) → F ts x ≡ F us x
all_alike F step [] [] h x = refl
all_alike F step [] (u ∷ us) h x = absurd h
all_alike F step (t ∷ ts) [] h x = absurd h
all_alike F step (t ∷ ts) (u ∷ us) h x = step t u ts us h.0 (all_alike F step ts us h.1) x

pub sizes_alike : (ts us : List Tree) → AllAlike ts us → sum_by (λ t. round8 (size_of t)) ts ≡ sum_by (λ t. round8 (size_of t)) us
sizes_alike ts us h =
    all_alike (λ (vs : List Tree) (n : ℕ). fold (λ (a : ℕ) (t : Tree). a + round8 (size_of t)) n vs)
    (λ t u ts us here rest n. ap (λ k. fold (λ (a : ℕ) (v : Tree). a + round8 (size_of v)) (n + round8 k) ts) (size_alike t u here) ∙ rest (n + round8 (size_of u))) ts us h 0

module _ (start : ℕ → Tree → ℕ) (starts : (end : ℕ) (t u : Tree) → AreAlike t u → start end t ≡ start end u) where
  place_alike : (end : ℕ) (t u : Tree) → AreAlike t u → (s : Spot) → place_at start end t s ≡ place_at start end u s
  place_alike end t u h (in_pieces pieces) = refl
  place_alike end t u h (by_reference at) = ap (ByRef at) (starts end t u h)

  end_alike : (end : ℕ) (t u : Tree) → AreAlike t u → (s : Spot) → copy_end start end t s ≡ copy_end start end u s
  end_alike end t u h (in_pieces pieces) = refl
  end_alike end t u h (by_reference at) =
      ap (λ n. n + round8 (size_of t)) (starts end t u h) ∙ ap (λ n. start end u + round8 n) (size_alike t u h)

  places_alike : (ts us : List Tree) → AllAlike ts us → (end : ℕ) (ss : List Spot) → places_from start end ts ss ≡ places_from start end us ss
  places_alike ts us h end ss = all_alike (λ (vs : List Tree) (x : ℕ × List Spot). places_from start x.0 vs x.1) step ts us h (end, ss)
    where
      step : (t u : Tree) (ts us : List Tree) → AreAlike t u → ((x : ℕ × List Spot) → places_from start x.0 ts x.1 ≡ places_from start x.0 us x.1) → (x : ℕ × List Spot) → places_from start x.0 (t ∷ ts) x.1 ≡ places_from start x.0 (u ∷ us) x.1
      step t u ts us here rest (end, []) = refl
      step t u ts us here rest (end, s ∷ ss) =
          ap (λ p. p ∷ places_from start (copy_end start end t s) ts ss) (place_alike end t u here s) ∙ ap (λ e. place_at start end u s ∷ places_from start e ts ss) (end_alike end t u here s) ∙ ap (λ ps. place_at start end u s ∷ ps) (rest (copy_end start end u s, ss))

  ends_alike : (ts us : List Tree) → AllAlike ts us → (end : ℕ) (ss : List Spot) → copies_end start end ts ss ≡ copies_end start end us ss
  ends_alike ts us h end ss = all_alike (λ (vs : List Tree) (x : ℕ × List Spot). copies_end start x.0 vs x.1) step ts us h (end, ss)
    where
      step : (t u : Tree) (ts us : List Tree) → AreAlike t u → ((x : ℕ × List Spot) → copies_end start x.0 ts x.1 ≡ copies_end start x.0 us x.1) → (x : ℕ × List Spot) → copies_end start x.0 (t ∷ ts) x.1 ≡ copies_end start x.0 (u ∷ us) x.1
      step t u ts us here rest (end, []) = refl
      step t u ts us here rest (end, s ∷ ss) =
          ap (λ e. copies_end start e ts ss) (end_alike end t u here s) ∙ rest (copy_end start end u s, ss)

  result_alike : (end : ℕ) (t u : Tree) → AreAlike t u → (s : ResultSpot) → result_at start end t s ≡ result_at start end u s
  result_alike end t u h no_result = refl
  result_alike end t u h (in_result_pieces pieces) = refl
  result_alike end t u h (in_buffer at) = ap (Hidden at) (starts end t u h)

  buffer_alike : (end : ℕ) (t u : Tree) → AreAlike t u → (s : ResultSpot) → buffer_end start end t s ≡ buffer_end start end u s
  buffer_alike end t u h no_result = refl
  buffer_alike end t u h (in_result_pieces pieces) = refl
  buffer_alike end t u h (in_buffer at) =
      ap (λ n. n + round8 (size_of t)) (starts end t u h) ∙ ap (λ n. start end u + round8 n) (size_alike t u h)

pub plan_alike : (std : Standard) → ((end : ℕ) (t u : Tree) → AreAlike t u → std.copy_start end t ≡ std.copy_start end u) → (s r : Signature) → SignaturesAreAlike s r → std.placing s ≡ std.placing r → plan_of std s ≡ plan_of std r
plan_alike std starts s r h e =
    let start : ℕ → Tree → ℕ = std.copy_start in
    let p : Placing = std.placing r in
    let places = ap (λ (q : Placing). places_from std.copy_start (copies_start q) s.arguments q.arguments) e ∙ places_alike std.copy_start starts s.arguments r.arguments h.arguments (copies_start p) p.arguments in
    let copies : frame_copies_end std s ≡ frame_copies_end std r = ap (λ (q : Placing). copies_end std.copy_start (copies_start q) s.arguments q.arguments) e ∙ ends_alike std.copy_start starts s.arguments r.arguments h.arguments (copies_start p) p.arguments in
    let res = ap (λ (q : Placing). result_at std.copy_start (frame_copies_end std s) s.result_type q.result_spot) e ∙ ap (λ n. result_at std.copy_start n s.result_type p.result_spot) copies ∙ result_alike std.copy_start starts (frame_copies_end std r) s.result_type r.result_type h.result_type p.result_spot in
    let buffer = ap (λ (q : Placing). buffer_end std.copy_start (frame_copies_end std s) s.result_type q.result_spot) e ∙ ap (λ n. buffer_end std.copy_start n s.result_type p.result_spot) copies ∙ buffer_alike std.copy_start starts (frame_copies_end std r) s.result_type r.result_type h.result_type p.result_spot in
    let block : block_bytes s ≡ block_bytes r = ap round16 (sizes_alike s.arguments r.arguments h.arguments) in
    let frame : frame_of std s ≡ frame_of std r = ap round16 buffer in
    let need : need_of std s ≡ need_of std r = ap (λ n. n + std.link + std.save + block_bytes s) frame ∙ ap (λ n. frame_of std r + std.link + std.save + n) block in
    let vectors = ap (λ (q : Placing). q.vector_registers) e in
    λ i. record {
      places = places i;
      res = res i;
      need = need i;
      frame = frame i;
      block = block i;
      vectors = vectors i;
    }

-- ---- an array in a struct, and as many elements in its place

layouts_with : (xs ys : List Tree) (t u : Tree) → layout t ≡ layout u → layouts (trees_of (xs ++ t ∷ ys)) ≡ layouts (trees_of (xs ++ u ∷ ys))
layouts_with [] ys t u e = ap (λ l. l ∷ layouts (trees_of ys)) e
layouts_with (x ∷ xs) ys t u e = ap (λ ls. layout x ∷ ls) (layouts_with xs ys t u e)

elements_for_array_alike : (t u : Tree) → HasElementsForArray t u → layout t ≡ layout u
elements_for_array_alike t u (in_place xs ys e n h) = array_is_its_elements xs ys e n h
elements_for_array_alike t u (inside xs ys {t = x} {u = y} h) =
    ap struct_layout (layouts_with xs ys x y (elements_for_array_alike x y h))
elements_for_array_alike t u (inside_array n {t = x} {u = y} h) =
    ap (λ l. array_layout l n) (elements_for_array_alike x y h)

but_for_arrays : (t u : Tree) → AreAlikeButForArrays t u → AreAlike t u
but_for_arrays t u no_difference = same_type
but_for_arrays t u (elements_for_array {ts = ts} {us = us} h) =
    same_layout (elements_for_array_alike (structure ts) (structure us) h)

all_but_for_arrays : (ts us : List Tree) → AllAlikeButForArrays ts us → AllAlike ts us
all_but_for_arrays [] [] h = h
all_but_for_arrays [] (u ∷ us) h = absurd h
all_but_for_arrays (t ∷ ts) [] h = absurd h
all_but_for_arrays (t ∷ ts) (u ∷ us) h =
    (but_for_arrays t u h.0, all_but_for_arrays ts us h.1)

-- a standard that goes by layout places arrays as their elements
pub arrays_as_elements : (std : Standard) → GoesByLayout std → PlacesArraysAsElements std
arrays_as_elements std by_layout s r h =
    by_layout s r (record { result_type = but_for_arrays s.result_type r.result_type h.result_type; arguments = all_but_for_arrays s.arguments r.arguments h.arguments; fixed = h.fixed })
