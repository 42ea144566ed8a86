use Rattle.std.proofs.Common.{◌≡◌, ℕ, zero, suc, ◌+◌, ◌*◌, ◌<◌, ◌≤◌, ◌≢◌, inl, inr, List, length, true, ap, sym, ◌∙◌, subst, arith, []}
use Rattle.std.proofs.lemmas.Nat.{mul-le}
use Rattle.std.proofs.lemmas.Bool.{false≢true, cases_lt}
use Rattle.std.proofs.lemmas.List.{nil_from_length}
use Rattle.ffi3_type_spec.specs.declared.limits.TheConstants.{LARGEST_TYPE}
use Rattle.ffi3_type_spec.specs.declared.Role.TheVariants.{AsElement}
use Rattle.ffi3_type_spec.specs.Tree.{Tree, array, trees_of, tree_at, long_double, complex, vector}
use Rattle.ffi3_type_spec.specs.Layout.{size_of, align_of, layouts, element, end_before}
use Rattle.ffi3_type_spec.specs.Fault.{HasNoFault, IsFirstFault, takes, too_large}
use Rattle.ffi3_type_spec.proofs.Faults.{first_too_deep, first_empty, first_void, first_left_out, first_inside, struct_is_right, first_too_large, void_faults, scalar_faults}
use Rattle.ffi3_type_spec.proofs.Faults.{right_is_small}
use Rattle.ffi3_type_spec.proofs.Layouts.{scalar_room-bounds, align_positive, align_bounded, aligns_bounded, align_before-positive, align_before-bounded, element-layouts, least_multiple-below, end_before-turn, align_before-turn, size_at_end, align_at_end}
use Rattle.ffi3_type_spec.proofs.ArrayPlaces.{array_size_is, array_align_is, array_too_deep, array_out_of_place, array_of_many, array_of_none, array_first_inside, array_is_right, array_too_large}
use Rattle.ffi3_types.specs.ScalarSize.{scalar_size_of}
use Rattle.ffi3_types.specs.TreeOf.{tree_of}
use Rattle.ffi3_types.proofs.Scalars.{one_scalar, sized_scalar}
use Rattle.ffi3_types.specs.FirstElement.{NoElementHasFault}
use Rattle.ffi3_types.proofs.check.+check.Goals.{check_elements-then-item-align, check_elements-else-item-align}
use Rattle.ffi3_types.proofs.check.+check.Goals as goal

-- ---- a struct

pub check_struct-returns-then-outer-ge-DEEPEST_NESTING-clause-err : goal.check_struct-returns-then-outer-ge-DEEPEST_NESTING-clause-err
check_struct-returns-then-outer-ge-DEEPEST_NESTING-clause-err t c =
    rw c.new.ensures (first_too_deep c.args.fields.now (omega arith))

pub check_struct-returns-then-len-eq0-clause-err : goal.check_struct-returns-then-len-eq0-clause-err
check_struct-returns-then-len-eq0-clause-err t c =
    let empty : c.args.fields.now ≡ [] = nil_from_length _ (omega arith) in
    rw (c.new-then-len-eq0.ensures, empty) (first_empty c.if-outer-ge-DEEPEST_NESTING.false)

pub check_struct-returns-then-whole-gt-LARGEST_TYPE-clause-err : goal.check_struct-returns-then-whole-gt-LARGEST_TYPE-clause-err
check_struct-returns-then-whole-gt-LARGEST_TYPE-clause-err t c =
    let sized = c.in-Ok.ensures.size in
    let first = first_too_large c.args.fields.now c.if-outer-ge-DEEPEST_NESTING.false (omega arith) c.in-Ok.ensures.ok (omega arith) in
    rw (c.new-then-whole-gt-LARGEST_TYPE.ensures, sized) first

pub check_struct-returns-else-whole-gt-LARGEST_TYPE-clause-ok : goal.check_struct-returns-else-whole-gt-LARGEST_TYPE-clause-ok
check_struct-returns-else-whole-gt-LARGEST_TYPE-clause-ok t c =
    let sized = c.in-Ok.ensures.size in
    struct_is_right c.args.fields.now c.if-outer-ge-DEEPEST_NESTING.false (omega arith) c.in-Ok.ensures.ok (omega (arith, sized))

pub check_struct-returns-in-Err-clause-err : goal.check_struct-returns-in-Err-clause-err
check_struct-returns-in-Err-clause-err t c =
    let e = c.in-Err.ensures.err in
    let first = first_inside c.args.fields.now c.if-outer-ge-DEEPEST_NESTING.false (omega arith) e.number e.rest _ e.in_range e.none_before e.first in
    rw e.path_is first

-- ---- a node

pub check_node-returns-then-size-ne0 : goal.check_node-returns-then-size-ne0
check_node-returns-then-size-ne0 t c =
    let is = sized_scalar (tree_of c.args.ty.now) (λ e. omega (arith, c.if-size-ne0.true, c.scalar_size-size.ensures, e)) in
    record {
      ok = rw is.1 (scalar_faults is.0);
      size = c.scalar_size-size.ensures ∙ ap scalar_size_of is.1 ∙ sym (ap size_of is.1);
      align = c.scalar_size-size.ensures ∙ ap scalar_size_of is.1 ∙ sym (ap align_of is.1);
      err = tt;
      room = tt;
    }

pub check_node-check_other-requires : goal.check_node-check_other-requires
check_node-check_other-requires t c =
    (omega arith, (c.requires, omega (arith, c.if-size-ne0.false, c.scalar_size-size.ensures)))

pub check_other-unreachable-requires : goal.check_other-unreachable-requires
check_other-unreachable-requires t c =
    let is = one_scalar c.args.ty.now c.in-U8.is in
    omega (arith, ap scalar_size_of is.1, (scalar_room-bounds is.0).0, c.requires.no_scalar)

pub check_other-returns-then-takes_void-clause-ok : goal.check_other-returns-then-takes_void-clause-ok
check_other-returns-then-takes_void-clause-ok t c =
    let taken = sym c.takes_void.ensures ∙ c.if-takes_void.true in
    rw c.in-Void.is (λ path f fault. absurd (false≢true (sym (void_faults path f fault).2 ∙ taken)))

pub check_other-returns-else-takes_void-clause-err : goal.check_other-returns-else-takes_void-clause-err
check_other-returns-else-takes_void-clause-err t c =
    rw (c.in-Void.is, c.new.ensures) (first_void (sym c.takes_void.ensures ∙ c.if-takes_void.false))

pub check_other-returns-in-LongDouble-clause-err : goal.check_other-returns-in-LongDouble-clause-err
check_other-returns-in-LongDouble-clause-err t c =
    rw (c.in-LongDouble.is, c.new-in-LongDouble.ensures) (first_left_out long_double)

pub check_other-returns-in-Complex-clause-err : goal.check_other-returns-in-Complex-clause-err
check_other-returns-in-Complex-clause-err t c =
    rw (c.in-Complex.is, c.new-in-Complex.ensures) (first_left_out complex)

pub check_other-returns-in-Vector-clause-err : goal.check_other-returns-in-Vector-clause-err
check_other-returns-in-Vector-clause-err t c =
    rw (c.in-Vector.is, c.new-in-Vector.ensures) (first_left_out vector)

-- ---- an array

pub check_array-returns-then-outer-ge-DEEPEST_NESTING-clause-err : goal.check_array-returns-then-outer-ge-DEEPEST_NESTING-clause-err
check_array-returns-then-outer-ge-DEEPEST_NESTING-clause-err t c =
    rw c.new.ensures (array_too_deep c.args.fields.now c.args.count (omega arith))

pub check_array-returns-then-not-may_stand-clause-err : goal.check_array-returns-then-not-may_stand-clause-err
check_array-returns-then-not-may_stand-clause-err t c =
    rw c.new-then-not-may_stand.ensures (array_out_of_place c.args.fields.now c.args.count c.if-outer-ge-DEEPEST_NESTING.false (sym c.may_stand.ensures ∙ c.if-not-may_stand.true))

pub check_array-returns-then-len-ne1-clause-err : goal.check_array-returns-then-len-ne1-clause-err
check_array-returns-then-len-ne1-clause-err t c =
    let other : length c.args.fields.now ≢ 1 = λ e. omega (arith, c.len.ensures.count, c.if-len-ne1.true, e) in
    rw c.new-then-len-ne1.ensures (array_of_many c.args.fields.now c.args.count c.if-outer-ge-DEEPEST_NESTING.false other)

pub check_array-returns-then-count-eq0-clause-err : goal.check_array-returns-then-count-eq0-clause-err
check_array-returns-then-count-eq0-clause-err t c =
    rw c.new-then-count-eq0.ensures (array_of_none c.args.fields.now c.args.count c.if-outer-ge-DEEPEST_NESTING.false c.if-count-eq0.true)

pub check_array-returns-in-Err-clause-err : goal.check_array-returns-in-Err-clause-err
check_array-returns-in-Err-clause-err t c =
    let ts = c.args.fields.now in
    let placed : takes c.args.role (array (trees_of c.args.fields.now) c.args.count) ≡ true = sym c.may_stand.ensures ∙ c.if-not-may_stand.false in
    let one : length ts ≡ 1 = omega (arith, c.len.ensures.count, c.if-len-ne1.false) in
    let first = rw c.get.ensures.element at c.in-Err.ensures.err in
    rw (c.inside.ensures.path, c.inside.ensures.fault) (array_first_inside ts c.args.count c.if-outer-ge-DEEPEST_NESTING.false placed one (omega arith) 0 _ _ (omega (arith, one)) (λ j below. absurd (omega arith)) first)

pub check_array-overflow_mul-size : goal.check_array-overflow_mul-size
check_array-overflow_mul-size t c =
    let small = right_is_small (c.args.outer + 1) AsElement (tree_of c.get.result.now) c.in-Ok.ensures.ok in
    let within : c.args.count * c.in-Ok.item.size ≤ 4294967296 * LARGEST_TYPE = mul-le c.args.count c.in-Ok.item.size 4294967296 LARGEST_TYPE (omega (arith, c.ranges.count.fits)) (omega (arith, small, c.in-Ok.ensures.size)) in
    omega (arith, within)

-- the size by that of an element
whole_size : (ts : List Tree) (count size : ℕ) (t : Tree) → t ≡ tree_at ts 0 → size ≡ size_of t → count * size ≡ size_of (array (trees_of ts) count)
whole_size ts count size t is s =
    ap (λ k. count * k) (s ∙ ap size_of is) ∙ sym (array_size_is ts count)

-- the one element is all of them
only_element : (outer : ℕ) (ts : List Tree) (t : Tree) → length ts ≡ 1 → t ≡ tree_at ts 0 → HasNoFault outer AsElement t → (i : ℕ) → i < length ts → HasNoFault outer AsElement (tree_at ts i)
only_element outer ts t one is right i below =
    let same : i ≡ 0 = omega (arith, one, below) in
    let first = subst (λ u. HasNoFault outer AsElement u) is right in
    subst (λ k. HasNoFault outer AsElement (tree_at ts k)) (sym same) first

pub check_array-returns-then-size-gt-LARGEST_TYPE-clause-err : goal.check_array-returns-then-size-gt-LARGEST_TYPE-clause-err
check_array-returns-then-size-gt-LARGEST_TYPE-clause-err t c =
    let ts = c.args.fields.now in
    let placed : takes c.args.role (array (trees_of c.args.fields.now) c.args.count) ≡ true = sym c.may_stand.ensures ∙ c.if-not-may_stand.false in
    let one : length ts ≡ 1 = omega (arith, c.len.ensures.count, c.if-len-ne1.false) in
    let whole = sym (whole_size ts c.args.count c.in-Ok.item.size (tree_of c.get.result.now) c.get.ensures.element c.in-Ok.ensures.size) in
    let right = only_element (c.args.outer + 1) ts (tree_of c.get.result.now) one c.get.ensures.element c.in-Ok.ensures.ok in
    rw c.new-then-size-gt-LARGEST_TYPE.ensures (subst (λ k. IsFirstFault c.args.outer c.args.role (array (trees_of ts) c.args.count) [] (too_large k)) whole (array_too_large ts c.args.count c.if-outer-ge-DEEPEST_NESTING.false placed one (omega arith) right (omega (arith, whole, c.if-size-gt-LARGEST_TYPE.true))))

pub check_array-returns-else-size-gt-LARGEST_TYPE-clause-ok : goal.check_array-returns-else-size-gt-LARGEST_TYPE-clause-ok
check_array-returns-else-size-gt-LARGEST_TYPE-clause-ok t c =
    let ts = c.args.fields.now in
    let placed : takes c.args.role (array (trees_of c.args.fields.now) c.args.count) ≡ true = sym c.may_stand.ensures ∙ c.if-not-may_stand.false in
    let one : length ts ≡ 1 = omega (arith, c.len.ensures.count, c.if-len-ne1.false) in
    let whole = sym (whole_size ts c.args.count c.in-Ok.item.size (tree_of c.get.result.now) c.get.ensures.element c.in-Ok.ensures.size) in
    let right = only_element (c.args.outer + 1) ts (tree_of c.get.result.now) one c.get.ensures.element c.in-Ok.ensures.ok in
    array_is_right ts c.args.count c.if-outer-ge-DEEPEST_NESTING.false placed one (omega arith) right (omega (arith, whole, c.if-size-gt-LARGEST_TYPE.false))

pub check_array-returns-else-size-gt-LARGEST_TYPE-clause-size : goal.check_array-returns-else-size-gt-LARGEST_TYPE-clause-size
check_array-returns-else-size-gt-LARGEST_TYPE-clause-size t c =
    whole_size c.args.fields.now c.args.count c.in-Ok.item.size (tree_of c.get.result.now) c.get.ensures.element c.in-Ok.ensures.size

pub check_array-returns-else-size-gt-LARGEST_TYPE-clause-align : goal.check_array-returns-else-size-gt-LARGEST_TYPE-clause-align
check_array-returns-else-size-gt-LARGEST_TYPE-clause-align t c =
    c.in-Ok.ensures.align ∙ ap align_of c.get.ensures.element ∙ sym (array_align_is c.args.fields.now c.args.count)

-- ---- the elements of a struct, and where they end

-- one more element without fault
one_more : (outer : ℕ) (ts : List Tree) (i : ℕ) (t : Tree) → t ≡ tree_at ts i → NoElementHasFault outer ts i → HasNoFault outer AsElement t → NoElementHasFault outer ts (i + 1)
one_more outer ts i t is before right j below =
    elim (cases_lt j i) [
      | inl earlier ↦ before j earlier
      | inr here ↦ let same : j ≡ i = omega arith in
          subst (λ k. HasNoFault outer AsElement (tree_at ts k)) (sym same) (subst (λ u. HasNoFault outer AsElement u) is right)
    ]

-- elements without fault end within 16 bytes more each than the largest type has
ends_bounded : (outer : ℕ) (ts : List Tree) (i : ℕ) → NoElementHasFault outer ts i → end_before (layouts (trees_of ts)) i ≤ i * (LARGEST_TYPE + 16)
ends_bounded outer ts zero right = omega arith
ends_bounded outer ts (suc i) right =
    let es = layouts (trees_of ts) in
    let before = ends_bounded outer ts i (λ j below. right j (omega arith)) in
    let sized = right_is_small outer AsElement (tree_at ts i) (right i (omega arith)) in
    let here = element-layouts ts i in
    let size_is = ap (λ l. l.size) here in
    let align_is = ap (λ l. l.align) here in
    let positive = align_positive (tree_at ts i) in
    let bounded = align_bounded (tree_at ts i) in
    let below = least_multiple-below (element es i).align (end_before es i) (omega arith) in
    omega arith

pub check_elements-round_up-requires-clause-nonzero : goal.check_elements-round_up-requires-clause-nonzero
check_elements-round_up-requires-clause-nonzero t c =
    omega (arith, align_positive (tree_of c.get.result.now), c.in-Ok.ensures.align)

pub check_elements-round_up-requires-clause-fits : goal.check_elements-round_up-requires-clause-fits
check_elements-round_up-requires-clause-fits t c =
    let ends = ends_bounded c.args.outer c.args.fields.now c.loop-i.i c.loop-i.invariant.right in
    omega (arith, align_bounded (tree_of c.get.result.now), c.in-Ok.ensures.align, ends, c.loop-i.invariant.end, c.loop-i-test.true, c.len-i-end.ensures)

pub check_elements-overflow_add-end : goal.check_elements-overflow_add-end
check_elements-overflow_add-end t c =
    let ends = ends_bounded c.args.outer c.args.fields.now c.loop-i.i c.loop-i.invariant.right in
    let small = right_is_small c.args.outer AsElement (tree_of c.get.result.now) c.in-Ok.ensures.ok in
    omega (arith, align_bounded (tree_of c.get.result.now), c.in-Ok.ensures.align, c.in-Ok.ensures.size, small, ends, c.loop-i.invariant.end, c.loop-i-test.true, c.len-i-end.ensures, c.round_up.ensures.close)

pub check_elements-loop-i-preserved : goal.check_elements-loop-i-preserved
check_elements-loop-i-preserved t c =
    let ts = c.args.fields.now in
    let here = c.get.ensures.element in
    let ends = end_before-turn ts c.loop-i.i _ here _ _ _ c.loop-i.invariant.end c.in-Ok.ensures.size c.in-Ok.ensures.align in
    let aligned = align_before-turn ts c.loop-i.i _ here _ _ c.loop-i.invariant.align c.in-Ok.ensures.align in
    record {
      right = one_more c.args.outer ts c.loop-i.i (tree_of c.get.result.now) here c.loop-i.invariant.right c.in-Ok.ensures.ok;
      end = rw c.round_up.ensures.value ends;
      align = elim c.if-item-align.branch [ check_elements-then-item-align w ↦ omega (arith, aligned) | check_elements-else-item-align w ↦ omega (arith, aligned) ];
    }

pub check_elements-round_up-requires-2-clause-nonzero : goal.check_elements-round_up-requires-2-clause-nonzero
check_elements-round_up-requires-2-clause-nonzero t c =
    omega (arith, align_before-positive (layouts (trees_of c.args.fields.now)) c.loop-i.i, c.loop-i.invariant.align)

pub check_elements-round_up-requires-2-clause-fits : goal.check_elements-round_up-requires-2-clause-fits
check_elements-round_up-requires-2-clause-fits t c =
    let ts = c.args.fields.now in
    let ends = ends_bounded c.args.outer ts c.loop-i.i c.loop-i.invariant.right in
    let aligned = align_before-bounded (layouts (trees_of ts)) c.loop-i.i (aligns_bounded (trees_of ts)) in
    omega (arith, aligned, c.loop-i.invariant.align, ends, c.loop-i.invariant.end, c.loop-i.auto, c.len-i-end.ensures)

pub check_elements-returns-clause-size : goal.check_elements-returns-clause-size
check_elements-returns-clause-size t c =
    rw c.round_up-2.ensures.value (size_at_end c.args.fields.now c.loop-i.i (omega arith) _ _ c.loop-i.invariant.end c.loop-i.invariant.align)

pub check_elements-returns-clause-align : goal.check_elements-returns-clause-align
check_elements-returns-clause-align t c =
    align_at_end c.args.fields.now c.loop-i.i (omega arith) _ c.loop-i.invariant.align
