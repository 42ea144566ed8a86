-- The bytes of a struct's values, written one after another.
use Rattle.std.proofs.Common.{◌≡◌, ℕ, suc, ◌+◌, ◌-◌, ◌<◌, ◌≤◌, inl, inr, List, ◌++◌, length, take, drop, refl, ap, sym, ◌∙◌, subst, arith, true, length-append, length-take, length-drop}
use Rattle.std.specs.Prelude.{slice_index, slice_index_or}
use Rattle.std.proofs.lemmas.Bool.{cases_lt, eqb-true}
use Rattle.std.proofs.Math.Seq.{take-append_seam}
use Rattle.std.proofs.lemmas.List.{get_or_default, ext_get_or, get_or-append_right, get_or-drop}
use Rattle.ffi3_type_spec.specs.Tree.{Scalar, Tree, scalar, array, no_trees, tree_at, trees_of, struct_of, u8}
use Rattle.ffi3_type_spec.specs.Layout.{Leaf, layouts, element, size_of, start_of, end_before, leaves_of, leaves_before, leaf_at, moved, scalar_size, scalar_room}
use Rattle.ffi3_type_spec.specs.Value.{ValueTree, leaf_value, struct_value, fits, values_of, value_in, part, IsPadding, IsWritten, is_leaf_of}
use Rattle.ffi3_type_spec.proofs.Layouts.{length-layouts, end_before-le, element-layouts, least_multiple-above, scalar_size-room}
use Rattle.ffi3_type_spec.proofs.Leaves.{leaf_of_struct, leaves_before-step, leaves_before-le}
use Rattle.ffi3_type_spec.proofs.Values.{value_at, element_value, element_within, struct_by_elements}
use Rattle.ffi3_type_spec.proofs.ElementPlaces.{Lies}
use Rattle.ffi3_type_spec.proofs.Parts.{index_part, length_part, same_part, below_part, inside_part, above_part}
use Rattle.ffi3_type_spec.proofs.Significant.{significant_first}

-- padding of a struct within an element is padding of the element
pub padding_inside : (ts : List Tree) (i j : ℕ) → i < length ts → IsPadding (struct_of ts) (start_of (layouts (trees_of ts)) i + j) → IsPadding (tree_at ts i) j
padding_inside ts i j below h m d inside =
    let es = layouts (trees_of ts) in
    let t = tree_at ts i in
    let start = start_of es i in
    let before = length (leaves_before es i) in
    let d' : Leaf = record { at = 0; kind = u8 } in
    let same : (before + m) - before ≡ m = omega arith in
    let default : slice_index_or (leaves_of t) m d ≡ slice_index_or (leaves_of t) m d' = get_or_default (leaves_of t) m d d' inside in
    let found : leaf_at (struct_of ts) (before + m) ≡ moved start (leaf_at t ((before + m) - before)) = leaf_of_struct ts i t (before + m) before start below refl refl (omega arith) (omega arith) refl in
    let is : leaf_at (struct_of ts) (before + m) ≡ moved start (slice_index_or (leaves_of t) m d) = found ∙ ap (λ n. moved start (leaf_at t n)) same ∙ ap (moved start) (sym default) in
    let count = ap (λ l. length l.leaves) (element-layouts ts i) in
    let room : before + m < length (leaves_of (struct_of ts)) = omega (arith, leaves_before-le es (suc i) (length es) (omega (arith, length-layouts ts)), leaves_before-step es i, count) in
    let P : Leaf → Type 0 = λ l. l.at ≤ start + j → l.at + scalar_size l.kind ≤ start + j in
    let here : P (moved start (slice_index_or (leaves_of t) m d)) = subst P is (h (before + m) d' room) in
    λ from. omega (arith, here (omega arith))

-- the values of the first i elements are written, and padding is as it was
pub record IsWrittenBefore (ts : List Tree) (vs : List ValueTree) (old new : List ℕ) (i : ℕ) : Type 0 where
  pub each : (k : ℕ) → k < i → value_at vs k ≡ element_value ts new k
  pub padding : (j : ℕ) → j < length old → IsPadding (struct_of ts) j → slice_index new j ≡ slice_index old j

pub none_written : (ts : List Tree) (vs : List ValueTree) (old : List ℕ) → IsWrittenBefore ts vs old old 0
none_written ts vs old =
    record { each = λ k below. absurd (omega arith); padding = λ j below pad. refl }

-- one more element
pub one_more_written : (ts : List Tree) (vs : List ValueTree) (old now new mid : List ℕ) (i start size : ℕ) → i < length ts → length old ≡ size_of (struct_of ts) → length now ≡ length old → length new ≡ length old → start ≡ start_of (layouts (trees_of ts)) i → size ≡ size_of (tree_at ts i) → new ≡ take start now ++ (mid ++ drop size (drop start now)) → length mid ≡ size → IsWrittenBefore ts vs old now i → IsWritten (tree_at ts i) (value_at vs i) (part now start size) mid → IsWrittenBefore ts vs old new (i + 1)
one_more_written ts vs old now new mid i start size below sized kept kept_too s z is n before written =
    record { each = each; padding = padding }
  where
    within : start + size ≤ length now
    within = omega (arith, element_within ts i below)

    written_part : part new start size ≡ mid
    written_part =
        let sized_part = length_part new start size (omega (arith, within)) in
        ext_get_or 0 (part new start size) mid (sized_part ∙ sym n) (λ k inside. index_part new start size k (omega arith) ∙ inside_part now new mid start size is n within k (omega arith))

    -- an element before stays where it was
    stays : (k : ℕ) → k < i → element_value ts now k ≡ element_value ts new k
    stays k earlier =
        let es = layouts (trees_of ts) in
        let from = start_of es k in
        let count = size_of (tree_at ts k) in
        let here = ap (λ l. l.size) (element-layouts ts k) in
        let ends = end_before-le es (suc k) i (omega arith) in
        let above = least_multiple-above (element es i).align (end_before es i) in
        let room : from + count ≤ start = omega arith in
        ap (value_in (tree_at ts k)) (same_part now new from count (omega (arith, within)) (omega (arith, within)) (λ j low high. sym (below_part now new mid start size is n within j (omega arith))))

    each : (k : ℕ) → k < i + 1 → value_at vs k ≡ element_value ts new k
    each k earlier =
        elim (cases_lt k i) [
          | inl first ↦ before.each k first ∙ stays k first
          | inr last ↦ let same : k ≡ i = omega arith in
              let here : value_at vs i ≡ element_value ts new i = sym written.reads_back ∙ ap (value_in (tree_at ts i)) (sym written_part) ∙ ap (λ j. value_in (tree_at ts i) (part new j size)) s ∙ ap (λ j. value_in (tree_at ts i) (part new (start_of (layouts (trees_of ts)) i) j)) z in
              ap (value_at vs) same ∙ here ∙ ap (element_value ts new) (sym same)
        ]

    -- a byte of the part, if it is padding
    pads : (j : ℕ) → j < size → IsPadding (struct_of ts) (start + j) → slice_index new (start + j) ≡ slice_index now (start + j)
    pads j inside pad =
        let sized_part = length_part now start size within in
        let own : IsPadding (tree_at ts i) j = padding_inside ts i j below (subst (λ k. IsPadding (struct_of ts) (k + j)) s pad) in
        inside_part now new mid start size is n within j inside ∙ written.padding_stays j (omega arith) own ∙ index_part now start size j inside

    padding : (j : ℕ) → j < length old → IsPadding (struct_of ts) j → slice_index new j ≡ slice_index old j
    padding j inside pad =
        elim (cases_lt j start) [
          | inl first ↦ below_part now new mid start size is n within j first ∙ before.padding j inside pad
          | inr from ↦ elim (cases_lt j (start + size)) [
            | inl within_part ↦ let back : j ≡ start + (j - start) = omega arith in
                let here = pads (j - start) (omega arith) (subst (IsPadding (struct_of ts)) back pad) in
                ap (slice_index new) back ∙ here ∙ ap (slice_index now) (sym back) ∙ before.padding j inside pad
            | inr above ↦ above_part now new mid start size is n within j above ∙ before.padding j inside pad
          ]
        ]

-- the same, of bytes whose part was lent
pub turn_written : (ts : List Tree) (vs : List ValueTree) (old now mid : List ℕ) (i start size k : ℕ) (t : Tree) (v : ValueTree) → i < length ts → length old ≡ size_of (struct_of ts) → length now ≡ length old → Lies ts i start size → k ≡ size → length mid ≡ k → t ≡ tree_at ts i → v ≡ value_at vs i → IsWrittenBefore ts vs old now i → IsWritten t v (take k (drop start now)) mid → IsWrittenBefore ts vs old (take start now ++ (mid ++ drop k (drop start now))) (i + 1)
turn_written ts vs old now mid i start size k t v below sized kept here same n is is_value before written =
    let new : List ℕ = take start now ++ (mid ++ drop k (drop start now)) in
    let count : length new ≡ length old = simp (length-append, length-take, length-drop) (omega (arith, here.within)) in
    let own = subst (λ u. IsWritten u v (take k (drop start now)) mid) is written in
    let value_own = subst (λ w. IsWritten (tree_at ts i) w (take k (drop start now)) mid) is_value own in
    let part_own = subst (λ j. IsWritten (tree_at ts i) (value_at vs i) (take j (drop start now)) mid) same value_own in
    one_more_written ts vs old now new mid i start size below sized kept count here.start_is here.size_is (ap (λ j. take start now ++ (mid ++ drop j (drop start now))) same) (n ∙ same) before part_own

-- a scalar's padding stands behind its bytes
scalar_written : (s : Scalar) (bytes old new : List ℕ) → length bytes ≡ scalar_size s → length old ≡ scalar_room s → new ≡ bytes ++ drop (length bytes) old → IsWritten (scalar s) (leaf_value bytes) old new
scalar_written s bytes old new count n e =
    record {
      reads_back = ap leaf_value (significant_first s new whole ∙ ap (take (scalar_size s)) e ∙ ap (λ k. take k (bytes ++ drop (length bytes) old)) (sym count) ∙ take-append_seam bytes (drop (length bytes) old));
      padding_stays = λ i below pad. let from : 0 + scalar_size s ≤ i = pad 0 (record { at = 0; kind = s }) (omega arith) (omega arith) in
          let behind : scalar_size s ≤ i = omega arith in
          let back : length bytes + (i - length bytes) ≡ i = omega (arith, count, behind) in
          ap (λ xs. slice_index xs i) e ∙ get_or-append_right bytes (drop (length bytes) old) (length bytes) i 0 refl (omega (arith, count, behind)) ∙ get_or-drop (length bytes) old (i - length bytes) 0 ∙ ap (slice_index old) back;
    }
  where
    whole : length new ≡ scalar_room s
    whole =
        ap length e
        ∙ length-append bytes (drop (length bytes) old)
        ∙ omega (arith, length-drop (length bytes) old, count, n, scalar_size-room s)

same_length : (n : ℕ) (bytes : List ℕ) → is_leaf_of n (leaf_value bytes) ≡ true → length bytes ≡ n
same_length n bytes h = eqb-true (length bytes) n h

pub leaf_written : (t : Tree) (bytes old new : List ℕ) → fits t (leaf_value bytes) ≡ true → length old ≡ size_of t → new ≡ bytes ++ drop (length bytes) old → IsWritten t (leaf_value bytes) old new
leaf_written (scalar s) bytes old new fit n e =
    scalar_written s bytes old new (same_length (scalar_size s) bytes fit) n e
leaf_written (array no_trees k) bytes old new fit n e = cc
leaf_written _ bytes old new fit n e = cc

-- all elements are written
pub all_written : (ts : List Tree) (vs : List ValueTree) (old new : List ℕ) (i : ℕ) → length vs ≡ length ts → i ≡ length ts → IsWrittenBefore ts vs old new i → IsWritten (struct_of ts) (struct_value (values_of vs)) old new
all_written ts vs old new i count all written =
    record {
      reads_back = ap struct_value (sym (struct_by_elements ts new vs count (λ k below. written.each k (omega arith))));
      padding_stays = written.padding;
    }
