-- Laws of the leaves of a type.
use Rattle.std.proofs.Common.{◌≡◌, ℕ, zero, suc, ◌+◌, ◌*◌, ◌<◌, ◌≤◌, ◌-◌, inl, inr, List, map, length, refl, ap, sym, ◌∙◌, subst, arith, length-append, add-one}
use Rattle.std.specs.Prelude.{slice_index_or}
use Rattle.std.proofs.lemmas.Bool.{cases_lt}
use Rattle.std.proofs.lemmas.List.{length-map, get_or-map, get_or_append_left, get_or-append_right}
use Rattle.ffi3_type_spec.specs.Tree.{Tree, trees_of, struct_of, tree_at, u8}
use Rattle.ffi3_type_spec.specs.Layout.{Layout, layouts, element, start_of, size_of, leaves_of, leaves_before, repeated, moved, Leaf, leaf_at}
use Rattle.ffi3_type_spec.proofs.Layouts.{rises, length-layouts, layout_here}
use Rattle.ffi3_type_spec.proofs.LayoutLaws.{rising-count, tree_well}

pub leaves_before-step : (es : List Layout) (i : ℕ) → length (leaves_before es (suc i)) ≡ length (leaves_before es i) + length (element es i).leaves
leaves_before-step es i =
    length-append (leaves_before es i) (map (moved (start_of es i)) (element es i).leaves) ∙ ap (λ n. length (leaves_before es i) + n) (length-map (element es i).leaves (moved (start_of es i)))

pub repeated-step : (l : Layout) (i : ℕ) → length (repeated l (suc i)) ≡ length (repeated l i) + length l.leaves
repeated-step l i =
    length-append (repeated l i) (map (moved (i * l.size)) l.leaves) ∙ ap (λ n. length (repeated l i) + n) (length-map l.leaves (moved (i * l.size)))

-- no type has more leaves than bytes
pub leaves_le-size : (t : Tree) → length (leaves_of t) ≤ size_of t
leaves_le-size t = omega (arith, rising-count 0 (leaves_of t) (size_of t) (tree_well t).rising)

-- one more element, t
module _ (ts : List Tree) (i : ℕ) (t : Tree) (is : t ≡ tree_at ts i) where
  pub leaves-turn : (before count : ℕ) → before ≡ length (leaves_before (layouts (trees_of ts)) i) → count ≡ length (leaves_of t) → before + count ≡ length (leaves_before (layouts (trees_of ts)) (i + 1))
  leaves-turn before count b n =
      let step = leaves_before-step (layouts (trees_of ts)) i in
      let here = ap (λ l. length l.leaves) (layout_here ts i t is) in
      rw add-one (omega (arith, step, here, b, n))

pub leaves_before-le : (es : List Layout) (i n : ℕ) → i ≤ n → length (leaves_before es i) ≤ length (leaves_before es n)
leaves_before-le es = rises (λ n. length (leaves_before es n)) (λ n. omega (arith, leaves_before-step es n))

-- the leaves of element k among those of the first n
pub leaf_in_element : (es : List Layout) (k n i : ℕ) (d : Leaf) → k < n → length (leaves_before es k) ≤ i → i < length (leaves_before es (suc k)) → slice_index_or (leaves_before es n) i d ≡ moved (start_of es k) (slice_index_or (element es k).leaves (i - length (leaves_before es k)) d)
leaf_in_element es k zero i d h from below = absurd (omega arith)
leaf_in_element es k (suc n) i d h from below =
    let tail = map (moved (start_of es n)) (element es n).leaves in
    elim (cases_lt k n) [
      | inl earlier ↦ get_or_append_left (leaves_before es n) tail d i (omega (arith, leaves_before-le es (suc k) n (omega arith))) ∙ leaf_in_element es k n i d earlier from below
      | inr here ↦ let same : k ≡ n = omega arith in
          let from_n = subst (λ j. length (leaves_before es j) ≤ i) same from in
          let below_n = subst (λ j. i < length (leaves_before es (suc j))) same below in
          let inside : i - length (leaves_before es n) < length (element es n).leaves = omega (arith, leaves_before-step es n, below_n, from_n) in
          subst (λ j. slice_index_or (leaves_before es (suc n)) i d ≡ moved (start_of es j) (slice_index_or (element es j).leaves (i - length (leaves_before es j)) d)) (sym same) (get_or-append_right (leaves_before es n) tail (length (leaves_before es n)) i d refl from_n ∙ get_or-map (moved (start_of es n)) (element es n).leaves (i - length (leaves_before es n)) d d inside)
    ]

-- leaf i of a struct, where it is one of element k, t
pub leaf_of_struct : (ts : List Tree) (k : ℕ) (t : Tree) (i before start : ℕ) → k < length ts → t ≡ tree_at ts k → before ≡ length (leaves_before (layouts (trees_of ts)) k) → before ≤ i → i < before + length (leaves_of t) → start ≡ start_of (layouts (trees_of ts)) k → leaf_at (struct_of ts) i ≡ moved start (leaf_at t (i - before))
leaf_of_struct ts k t i before start below is b from inside s =
    let es = layouts (trees_of ts) in
    let d : Leaf = record { at = 0; kind = u8 } in
    let here = layout_here ts k t is in
    let count = ap (λ l. length l.leaves) here in
    let found = leaf_in_element es k (length es) i d (omega (arith, length-layouts ts)) (omega (arith, b)) (omega (arith, leaves_before-step es k, count, b)) in
    found ∙ ap (λ l. moved (start_of es k) (slice_index_or l.leaves (i - length (leaves_before es k)) d)) here ∙ ap (λ n. moved (start_of es k) (slice_index_or (leaves_of t) (i - n) d)) (sym b) ∙ ap (λ a. moved a (leaf_at t (i - before))) (sym s)

pub leaves_at_end : (ts : List Tree) (n total : ℕ) → n ≡ length ts → total ≡ length (leaves_before (layouts (trees_of ts)) n) → total ≡ length (leaves_of (struct_of ts))
leaves_at_end ts n total all e = rw (e, all, length-layouts)

-- the leaves of some elements are no more than the struct has bytes
pub leaves_within_struct : (ts : List Tree) (n : ℕ) → n ≤ length ts → length (leaves_before (layouts (trees_of ts)) n) ≤ size_of (struct_of ts)
leaves_within_struct ts n below =
    let es = layouts (trees_of ts) in
    omega (arith, leaves_before-le es n (length es) (omega (arith, length-layouts ts)), leaves_le-size (struct_of ts))
