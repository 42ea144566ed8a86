use Rattle.std.proofs.Common.{◌≡◌, inl, inr, [], Some, ap, sym, ◌∙◌, arith, length, length-take, length-drop, length-append}
use Rattle.ffi3_type_spec.specs.Value.{struct_value, values_of}
use Rattle.ffi3_type_spec.proofs.Members.{array_some, made_nodes, made_right, made_size, made_value, made_fit}
use Rattle.ffi3_type_spec.specs.Tree.{Tree, LeftOutKind, left_out, long_double, complex, vector}
use Rattle.ffi3_type_spec.specs.Fault.{left_out_kind, left_out_type, IsLaidOut}
use Rattle.ffi3_type_spec.proofs.Layouts.{align_positive, end_before-turn}
use Rattle.ffi3_type_spec.proofs.Values.{struct_by_elements, push_value}
use Rattle.ffi3_type_spec.proofs.ValueElements.{fit_by_elements, push_fitting}
use Rattle.ffi3_type_spec.proofs.ElementPlaces.{lies, part_is, right_here, room_before, room_here}
use Rattle.ffi3_types.specs.TreeOf.{tree_of}
use Rattle.ffi3_values.proofs.from_bytes.+from_bytes.Goals as goal

-- what is left out has a fault
never_left_out : (t : Tree) (k : LeftOutKind) → IsLaidOut t → t ≡ left_out k → ⊥
never_left_out t k right is = right [] (left_out_type (left_out k)) (left_out_kind (ap Some is))

pub value_from_bytes-unreachable-requires : goal.value_from_bytes-unreachable-requires
value_from_bytes-unreachable-requires t c =
    let right = c.requires.right in
    elim c.in-LongDouble.is [
      | inl is ↦ never_left_out _ long_double right (ap tree_of is)
      | inr other ↦ elim other [ inl is ↦ never_left_out _ complex right (ap tree_of is) | inr is ↦ never_left_out _ vector right (ap tree_of is) ]
    ]

pub values_from_bytes-align-requires : goal.values_from_bytes-align-requires
values_from_bytes-align-requires t c =
    right_here c.args.fields.now c.loop-i.i _ c.requires.right (omega arith) c.get-ty.ensures.element

pub values_from_bytes-round_up-start-requires-clause-nonzero : goal.values_from_bytes-round_up-start-requires-clause-nonzero
values_from_bytes-round_up-start-requires-clause-nonzero t c =
    omega (arith, align_positive (tree_of c.get-ty.result.now), c.align.ensures)

pub values_from_bytes-round_up-start-requires-clause-fits : goal.values_from_bytes-round_up-start-requires-clause-fits
values_from_bytes-round_up-start-requires-clause-fits t c =
    room_before c.args.fields.now c.loop-i.i (tree_of c.get-ty.result.now) _ _ c.requires.right (omega arith) c.loop-i.invariant.end c.align.ensures

pub values_from_bytes-size-requires : goal.values_from_bytes-size-requires
values_from_bytes-size-requires t c =
    right_here c.args.fields.now c.loop-i.i _ c.requires.right (omega arith) c.get-ty.ensures.element

pub values_from_bytes-overflow_add-end : goal.values_from_bytes-overflow_add-end
values_from_bytes-overflow_add-end t c =
    let ts = c.args.fields.now in
    let here = lies ts c.loop-i.i _ _ _ _ _ (omega arith) c.get-ty.ensures.element c.loop-i.invariant.end c.align.ensures c.round_up-start.ensures.value c.size.ensures in
    omega (arith, room_here ts c.loop-i.i _ _ c.requires.right here)

pub values_from_bytes-slice_bounds-part-end : goal.values_from_bytes-slice_bounds-part-end
values_from_bytes-slice_bounds-part-end t c =
    let here = lies c.args.fields.now c.loop-i.i _ _ _ _ _ (omega arith) c.get-ty.ensures.element c.loop-i.invariant.end c.align.ensures c.round_up-start.ensures.value c.size.ensures in
    omega (arith, here.within, c.requires.sized)

pub values_from_bytes-value_from_bytes-requires : goal.values_from_bytes-value_from_bytes-requires
values_from_bytes-value_from_bytes-requires t c =
    let ts = c.args.fields.now in
    let here = lies ts c.loop-i.i _ _ _ _ _ (omega arith) c.get-ty.ensures.element c.loop-i.invariant.end c.align.ensures c.round_up-start.ensures.value c.size.ensures in
    let right = right_here ts c.loop-i.i _ c.requires.right (omega arith) c.get-ty.ensures.element in
    (omega arith, (right, simp (length-take, length-drop) (omega (arith, here.within, c.requires.sized, c.size.ensures))))

pub values_from_bytes-loop-i-preserved : goal.values_from_bytes-loop-i-preserved
values_from_bytes-loop-i-preserved t c =
    let ts = c.args.fields.now in
    let here = lies ts c.loop-i.i _ _ _ _ _ (omega arith) c.get-ty.ensures.element c.loop-i.invariant.end c.align.ensures c.round_up-start.ensures.value c.size.ensures in
    record {
      end = rw c.round_up-start.ensures.value (end_before-turn ts c.loop-i.i _ c.get-ty.ensures.element _ _ _ c.loop-i.invariant.end c.size.ensures c.align.ensures);
      count = omega (arith, simp length-append at (ap length c.in_ok-push.ensures.ok));
      each = rw c.in_ok-push.ensures.ok (push_value ts c.args.bytes.now c.loop-i.values _ c.loop-i.i c.loop-i.invariant.count c.loop-i.invariant.each (c.in_ok-value_from_bytes.ensures.value ∙ part_is ts c.loop-i.i _ _ _ c.args.bytes.now c.get-ty.ensures.element here));
      fit = rw c.in_ok-push.ensures.ok (push_fitting ts c.loop-i.values _ c.loop-i.i c.loop-i.invariant.count c.loop-i.invariant.fit (rw c.get-ty.ensures.element at c.in_ok-value_from_bytes.ensures.fits));
    }

pub values_from_bytes-returns : goal.values_from_bytes-returns
values_from_bytes-returns t c =
    let count : length c.loop-i.values ≡ length c.args.fields.now = omega arith in
    record {
      value = struct_by_elements c.args.fields.now c.args.bytes.now c.loop-i.values count (λ k below. c.loop-i.invariant.each k (omega arith));
      fits = fit_by_elements c.args.fields.now c.loop-i.values count (λ k below. c.loop-i.invariant.fit k (omega arith));
    }

-- ---- an array, by the struct of its elements

pub value_from_bytes-of_array-members-requires : goal.value_from_bytes-of_array-members-requires
value_from_bytes-of_array-members-requires t c =
    array_some (tree_of c.args.ty.now) c.in-Array.fields c.in-Array.count (ap tree_of c.in-Array.is) c.requires.right

pub value_from_bytes-values_from_bytes-requires-in-Array : goal.value_from_bytes-values_from_bytes-requires-in-Array
value_from_bytes-values_from_bytes-requires-in-Array t c =
    let ty = tree_of c.args.ty.now in
    let ts = c.in-Array.fields in
    let n = c.in-Array.count in
    let is = ap tree_of c.in-Array.is in
    let some = array_some ty ts n is c.requires.right in
    let fewer = made_nodes ty ts n is c.of_array-members.result c.of_array-members.ensures some in
    let right = made_right ty ts n is c.of_array-members.result c.of_array-members.ensures c.requires.right in
    let sized = c.requires.sized ∙ made_size ty ts n is c.of_array-members.result c.of_array-members.ensures in
    (omega (arith, fewer), (right, sized))

pub value_from_bytes-returns-in_ok-values_from_bytes-in-Array-clause-value : goal.value_from_bytes-returns-in_ok-values_from_bytes-in-Array-clause-value
value_from_bytes-returns-in_ok-values_from_bytes-in-Array-clause-value t c =
    ap struct_value c.in_ok-values_from_bytes-in-Array.ensures.value ∙ sym (made_value (tree_of c.args.ty.now) c.in-Array.fields c.in-Array.count (ap tree_of c.in-Array.is) c.of_array-members.result c.of_array-members.ensures c.args.bytes.now)

pub value_from_bytes-returns-in_ok-values_from_bytes-in-Array-clause-fits : goal.value_from_bytes-returns-in_ok-values_from_bytes-in-Array-clause-fits
value_from_bytes-returns-in_ok-values_from_bytes-in-Array-clause-fits t c =
    let ty = tree_of c.args.ty.now in
    let is = ap tree_of c.in-Array.is in
    let some = array_some ty c.in-Array.fields c.in-Array.count is c.requires.right in
    made_fit ty c.in-Array.fields c.in-Array.count is c.of_array-members.result c.of_array-members.ensures (values_of c.in_ok-values_from_bytes-in-Array.field-0) some ∙ c.in_ok-values_from_bytes-in-Array.ensures.fits
