use Rattle.std.proofs.Common.{◌≡◌, ◌+◌, ◌-◌, ◌++◌, drop, ap, sym, ◌∙◌, subst, arith, true, length-take, length-drop}
use Rattle.ffi3_type_spec.specs.Value.{struct_value, values_of, IsWritten}
use Rattle.ffi3_type_spec.proofs.Members.{array_some, made_nodes, made_right, made_size, made_fit, made_written}
use Rattle.ffi3_type_spec.specs.Value.{fits}
use Rattle.ffi3_type_spec.proofs.Layouts.{align_positive, end_before-turn}
use Rattle.ffi3_type_spec.proofs.ElementPlaces.{lies, right_here, room_before, room_here}
use Rattle.ffi3_type_spec.proofs.ValueElements.{fitting_lengths, fitting_element}
use Rattle.ffi3_type_spec.proofs.Parts.{length_part}
use Rattle.ffi3_type_spec.proofs.Writing.{leaf_written, turn_written, all_written}
use Rattle.ffi3_types.specs.TreeOf.{tree_of}
use Rattle.ffi3_values.specs.ValueOf.{value_of}
use Rattle.ffi3_values.proofs.write.+write_bytes.Goals as goal

pub write_bytes-returns-in-Leaf : goal.write_bytes-returns-in-Leaf
write_bytes-returns-in-Leaf t c =
    let is = c.in-Leaf.is in
    let copied = ap (λ xs. xs ++ drop c.len-count.result c.args.out.now) (c.copy_from_slice.ensures.after ∙ c.as_slice.ensures) in
    let kept = ap (λ n. c.in-Leaf.bytes ++ drop n c.args.out.now) c.len-count.ensures in
    rw is (leaf_written (tree_of c.args.ty.now) c.in-Leaf.bytes c.args.out.now _ (ap (λ v. fits (tree_of c.args.ty.now) (value_of v)) (sym is) ∙ c.requires.fits) c.requires.sized (copied ∙ kept))

pub write_values-align-requires : goal.write_values-align-requires
write_values-align-requires t c =
    right_here c.args.fields.now c.loop-i.i _ c.requires.right (omega arith) c.get-ty.ensures.element

pub write_values-round_up-start-requires-clause-nonzero : goal.write_values-round_up-start-requires-clause-nonzero
write_values-round_up-start-requires-clause-nonzero t c =
    omega (arith, align_positive (tree_of c.get-ty.result.now), c.align.ensures)

pub write_values-round_up-start-requires-clause-fits : goal.write_values-round_up-start-requires-clause-fits
write_values-round_up-start-requires-clause-fits t c =
    room_before c.args.fields.now c.loop-i.i (tree_of c.get-ty.result.now) _ _ c.requires.right (omega arith) c.loop-i.invariant.end c.align.ensures

pub write_values-size-requires : goal.write_values-size-requires
write_values-size-requires t c =
    right_here c.args.fields.now c.loop-i.i _ c.requires.right (omega arith) c.get-ty.ensures.element

pub write_values-overflow_add-end : goal.write_values-overflow_add-end
write_values-overflow_add-end t c =
    let ts = c.args.fields.now in
    let here = lies ts c.loop-i.i _ _ _ _ _ (omega arith) c.get-ty.ensures.element c.loop-i.invariant.end c.align.ensures c.round_up-start.ensures.value c.size.ensures in
    omega (arith, room_here ts c.loop-i.i _ _ c.requires.right here)

pub write_values-get-requires : goal.write_values-get-requires
write_values-get-requires t c =
    omega (arith, fitting_lengths c.args.fields.now c.args.values.now c.requires.fits)

pub write_values-slice_bounds-write_bytes-end : goal.write_values-slice_bounds-write_bytes-end
write_values-slice_bounds-write_bytes-end t c =
    let here = lies c.args.fields.now c.loop-i.i _ _ _ _ _ (omega arith) c.get-ty.ensures.element c.loop-i.invariant.end c.align.ensures c.round_up-start.ensures.value c.size.ensures in
    omega (arith, here.within, c.requires.sized)

pub write_values-write_bytes-requires : goal.write_values-write_bytes-requires
write_values-write_bytes-requires t c =
    let ts = c.args.fields.now in
    let here = lies ts c.loop-i.i _ _ _ _ _ (omega arith) c.get-ty.ensures.element c.loop-i.invariant.end c.align.ensures c.round_up-start.ensures.value c.size.ensures in
    let right = right_here ts c.loop-i.i _ c.requires.right (omega arith) c.get-ty.ensures.element in
    let fit = fitting_element ts c.args.values.now c.loop-i.i c.requires.fits (omega arith) in
    let fit_here : fits (tree_of c.get-ty.result.now) (value_of c.get.result.now) ≡ true = rw (c.get-ty.ensures.element, c.get.ensures.element) fit in
    (omega arith, (right, (fit_here, simp (length-take, length-drop) (omega (arith, here.within, c.requires.sized, c.size.ensures)))))

pub write_values-loop-i-preserved : goal.write_values-loop-i-preserved
write_values-loop-i-preserved t c =
    let ts = c.args.fields.now in
    let here = lies ts c.loop-i.i _ _ _ _ _ (omega arith) c.get-ty.ensures.element c.loop-i.invariant.end c.align.ensures c.round_up-start.ensures.value c.size.ensures in
    let whole : (c.round_up-start.result + c.size.result) - c.round_up-start.result ≡ c.size.result = omega arith in
    record {
      end = rw c.round_up-start.ensures.value (end_before-turn ts c.loop-i.i _ c.get-ty.ensures.element _ _ _ c.loop-i.invariant.end c.size.ensures c.align.ensures);
      written = turn_written ts c.args.values.now c.args.out.now c.loop-i.out c.write_bytes.new.out c.loop-i.i _ c.size.result _ _ _ (omega arith) c.requires.sized c.loop-i.auto.out here (omega arith) (c.write_bytes.auto.out ∙ length_part c.loop-i.out c.round_up-start.result _ (omega (arith, here.within, c.requires.sized))) c.get-ty.ensures.element c.get.ensures.element c.loop-i.invariant.written c.write_bytes.ensures;
    }

pub write_values-returns : goal.write_values-returns
write_values-returns t c =
    all_written c.args.fields.now c.args.values.now _ _ c.loop-i.i (fitting_lengths c.args.fields.now c.args.values.now c.requires.fits) (omega arith) c.loop-i.invariant.written

-- ---- an array, by the struct of its elements

pub write_bytes-write_values-requires-in-Array : goal.write_bytes-write_values-requires-in-Array
write_bytes-write_values-requires-in-Array t c =
    let ty = tree_of c.args.ty.now in
    let ts = c.in-Array.fields in
    let n = c.in-Array.count in
    let is = ap tree_of c.in-Array.is in
    let some = array_some ty ts n is c.requires.right in
    let fewer = made_nodes ty ts n is c.of_array-members.result c.of_array-members.ensures some in
    let right = made_right ty ts n is c.of_array-members.result c.of_array-members.ensures c.requires.right in
    let sized = c.requires.sized ∙ made_size ty ts n is c.of_array-members.result c.of_array-members.ensures in
    let fit = ap (λ v. fits ty (value_of v)) (sym c.in-List.is) ∙ c.requires.fits in
    let all = sym (made_fit ty ts n is c.of_array-members.result c.of_array-members.ensures (values_of c.in-List.values) some) ∙ fit in
    (omega (arith, fewer), (right, (all, sized)))

pub write_bytes-returns-in-Array : goal.write_bytes-returns-in-Array
write_bytes-returns-in-Array t c =
    let ty = tree_of c.args.ty.now in
    let written = made_written ty c.in-Array.fields c.in-Array.count (ap tree_of c.in-Array.is) c.of_array-members.result c.of_array-members.ensures (struct_value (values_of c.in-List.values)) c.args.out.now c.write_values-in-Array.new.out c.write_values-in-Array.ensures in
    subst (λ v. IsWritten ty (value_of v) c.args.out.now c.write_values-in-Array.new.out) (sym c.in-List.is) written
