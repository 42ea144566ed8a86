-- A struct or an array is laid out as the manual says: least multiples, and the greatest alignment.
use Rattle.std.proofs.Common.{◌≡◌, ℕ, zero, suc, ◌+◌, ◌*◌, ◌<◌, ◌≤◌, inl, inr, List, length, refl, ap, sym, ◌∙◌, subst, arith}
use Rattle.std.proofs.lemmas.Bool.{cases_lt}
use Rattle.std.proofs.lemmas.Nat.Gcd.{mod-eq-zero_of_dvd}
use Rattle.ffi3_type_spec.specs.Tree.{Tree, void, structure, array, Trees, no_trees, tree, tree_at, list_of, elements_of, first_of}
use Rattle.ffi3_type_spec.specs.Layout.{Layout, IsLeastMultiple, layout, layouts, element, end_before, start_of, align_before, size_of, align_of, offset_of}
use Rattle.ffi3_type_spec.specs.LayoutLaws.{end_of_previous, IsGreatestAlignment}
use Rattle.ffi3_type_spec.proofs.Layouts.{align_positive}
use Rattle.ffi3_type_spec.proofs.LeastMultiples.{is_least_multiple, multiple_is_least, times_divides}
use Rattle.ffi3_type_spec.proofs.Arrays.{length_of_equal, one_of_equal, first_layout, size_whole}

-- an element stands in the list of layouts as in the list of types
element_is : (ts : Trees) (i : ℕ) → element (layouts ts) i ≡ layout (tree_at (list_of ts) i)
element_is no_trees i = refl
element_is (tree t ts) zero = refl
element_is (tree t ts) (suc i) = element_is ts i

pub length_is : (ts : Trees) → length (layouts ts) ≡ length (list_of ts)
length_is no_trees = refl
length_is (tree t ts) = ap suc (length_is ts)

element_align : (ts : Trees) (i : ℕ) → (element (layouts ts) i).align ≡ align_of (tree_at (list_of ts) i)
element_align ts i = ap (λ l. l.align) (element_is ts i)

element_positive : (ts : Trees) (i : ℕ) → 1 ≤ (element (layouts ts) i).align
element_positive ts i = omega (arith, element_align ts i, align_positive (tree_at (list_of ts) i))

-- where the element before ends, the elements before end
previous_is : (ts : Trees) (i : ℕ) → end_before (layouts ts) i ≡ end_of_previous (structure ts) i
previous_is ts zero = refl
previous_is ts (suc i) = ap (λ l. start_of (layouts ts) i + l.size) (element_is ts i)

-- an array's elements are equal, and follow one another at once
module _ (ts : Trees) (n : ℕ) where
  one_is : (i : ℕ) → i < n → tree_at (elements_of (array ts n)) i ≡ first_of ts
  one_is i h = one_of_equal n i (first_of ts) void h

  offset_is : (i : ℕ) → offset_of (array ts n) i ≡ i * size_of (first_of ts)
  offset_is i = ap (λ l. i * l.size) (first_layout ts)

  end_in_array : (i : ℕ) → i ≤ n → end_of_previous (array ts n) i ≡ i * size_of (first_of ts)
  end_in_array zero h = omega arith
  end_in_array (suc i) h =
      let size : size_of (tree_at (elements_of (array ts n)) i) ≡ size_of (first_of ts) = ap size_of (one_is i (omega arith)) in
      let more : suc i * size_of (first_of ts) ≡ i * size_of (first_of ts) + size_of (first_of ts) = omega arith in
      omega (arith, offset_is i, size, more)

  at_multiple : (i : ℕ) → IsLeastMultiple (align_of (first_of ts)) (i * size_of (first_of ts)) (i * size_of (first_of ts))
  at_multiple i =
      let t = first_of ts in
      multiple_is_least (align_of t) (i * size_of t) (mod-eq-zero_of_dvd (align_of t) (times_divides (align_of t) (size_of t) i (size_whole t)))

  array_placed : (i : ℕ) → i < n → IsLeastMultiple (align_of (tree_at (elements_of (array ts n)) i)) (end_of_previous (array ts n) i) (offset_of (array ts n) i)
  array_placed i h =
      let a = align_of (first_of ts) in
      let there = subst (λ m. IsLeastMultiple a (i * size_of (first_of ts)) m) (sym (offset_is i)) (at_multiple i) in
      let ends = subst (λ m. IsLeastMultiple a m (offset_of (array ts n) i)) (sym (end_in_array i (omega arith))) there in
      subst (λ m. IsLeastMultiple m (end_of_previous (array ts n) i) (offset_of (array ts n) i)) (sym (ap align_of (one_is i h))) ends

  array_align : align_of (array ts n) ≡ align_of (first_of ts)
  array_align = ap (λ l. l.align) (first_layout ts)

  array_greatest : 0 < n → IsGreatestAlignment (elements_of (array ts n)) (align_of (array ts n))
  array_greatest h =
      let count : length (elements_of (array ts n)) ≡ n = length_of_equal n (first_of ts) in
      record {
        number = 0;
        in_range = omega (arith, count, h);
        reached = ap align_of (one_is 0 h) ∙ sym array_align;
        none_greater = λ i below. let here = ap align_of (one_is i (omega (arith, count, below))) in omega (arith, here, array_align);
      }

  array_least : IsLeastMultiple (align_of (array ts n)) (end_of_previous (array ts n) (length (elements_of (array ts n)))) (size_of (array ts n))
  array_least =
      let count : length (elements_of (array ts n)) ≡ n = length_of_equal n (first_of ts) in
      let a = align_of (first_of ts) in
      let size : size_of (array ts n) ≡ n * size_of (first_of ts) = ap (λ l. n * l.size) (first_layout ts) in
      let there = subst (λ m. IsLeastMultiple a (n * size_of (first_of ts)) m) (sym size) (at_multiple n) in
      let ends = subst (λ m. IsLeastMultiple a m (size_of (array ts n))) (sym (end_in_array n (omega arith))) there in
      let all = subst (λ m. IsLeastMultiple a (end_of_previous (array ts n) m) (size_of (array ts n))) (sym count) ends in
      subst (λ m. IsLeastMultiple m (end_of_previous (array ts n) (length (elements_of (array ts n)))) (size_of (array ts n))) (sym array_align) all

pub element_placed : (t : Tree) (i : ℕ) → i < length (elements_of t) → IsLeastMultiple (align_of (tree_at (elements_of t) i)) (end_of_previous t i) (offset_of t i)
element_placed (structure ts) i h =
    let es = layouts ts in
    let here = is_least_multiple (element es i).align (end_before es i) (omega (arith, element_positive ts i)) in
    let ends = subst (λ n. IsLeastMultiple (element es i).align n (start_of es i)) (previous_is ts i) here in
    subst (λ a. IsLeastMultiple a (end_of_previous (structure ts) i) (start_of es i)) (element_align ts i) ends
element_placed (array ts n) i h =
    array_placed ts n i (omega (arith, length_of_equal n (first_of ts)))
element_placed _ i h = absurd (omega arith)

-- the greatest alignment of the first elements is that of one of them, and none is greater
reached_before : (es : List Layout) → ((k : ℕ) → 1 ≤ (element es k).align) → (n : ℕ) → (k : ℕ) × (k < suc n) × ((element es k).align ≡ align_before es (suc n))
reached_before es positive zero = (0, omega arith, omega (arith, positive 0))
reached_before es positive (suc n) =
    let inner = reached_before es positive n in
    elim (cases_lt (align_before es (suc n)) (element es (suc n)).align) [
      | inl less ↦ (suc n, omega arith, omega (arith, less))
      | inr at_least ↦ (inner.0, omega (arith, inner.1), omega (arith, inner.2, at_least))
    ]

none_greater_before : (es : List Layout) (n k : ℕ) → k < n → (element es k).align ≤ align_before es n
none_greater_before es zero k h = absurd (omega arith)
none_greater_before es (suc n) k h =
    elim (cases_lt k n) [
      | inl earlier ↦ omega (arith, none_greater_before es n k earlier)
      | inr at_least ↦ let same : n ≡ k = omega arith in
          subst (λ j. (element es j).align ≤ align_before es (suc n)) same (omega arith)
    ]

greatest_of : (ts : Trees) (n : ℕ) → n ≡ length (list_of ts) → 0 < n → IsGreatestAlignment (list_of ts) (align_before (layouts ts) n)
greatest_of ts zero e h = absurd (omega arith)
greatest_of ts (suc n) e h =
    let es = layouts ts in
    let first = reached_before es (element_positive ts) n in
    record {
      number = first.0;
      in_range = omega (arith, first.1, e);
      reached = sym (element_align ts first.0) ∙ first.2;
      none_greater = λ i below. omega (arith, element_align ts i, none_greater_before es (suc n) i (omega (arith, e, below)));
    }

pub greatest_alignment : (t : Tree) → 0 < length (elements_of t) → IsGreatestAlignment (elements_of t) (align_of t)
greatest_alignment (structure ts) h =
    greatest_of ts (length (layouts ts)) (length_is ts) (omega (arith, length_is ts))
greatest_alignment (array ts n) h =
    array_greatest ts n (omega (arith, length_of_equal n (first_of ts)))
greatest_alignment _ h = absurd (omega arith)

pub least_size : (t : Tree) → 0 < length (elements_of t) → IsLeastMultiple (align_of t) (end_of_previous t (length (elements_of t))) (size_of t)
least_size (structure ts) h =
    let n = length (layouts ts) in
    let end = end_before (layouts ts) n in
    let size = size_of (structure ts) in
    let here = is_least_multiple (align_of (structure ts)) end (omega (arith, align_positive (structure ts))) in
    let ends = subst (λ m. IsLeastMultiple (align_of (structure ts)) m size) (previous_is ts n) here in
    subst (λ m. IsLeastMultiple (align_of (structure ts)) (end_of_previous (structure ts) m) size) (length_is ts) ends
least_size (array ts n) h = array_least ts n
least_size _ h = absurd (omega arith)
