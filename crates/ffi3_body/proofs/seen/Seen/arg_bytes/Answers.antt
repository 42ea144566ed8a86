use Rattle.std.proofs.Common.{◌≡◌, length, ap, arith}
use Rattle.ffi3_type_spec.specs.Layout.{size_of}
use Rattle.ffi3_type_spec.proofs.Layouts.{least_multiple-above}
use Rattle.ffi3_types.specs.TreeOf.{tree_of}
use Rattle.ffi3_semantics_spec.specs.SeenActivation.{block_offset}
use Rattle.ffi3_body.proofs.seen.Seen.arg_bytes.Goals as goal

pub overflow_add-offset : goal.overflow_add-offset
overflow_add-offset c =
    omega (arith, c.loop-k.invariant.offset_is, c.arg_type.ensures.within, c.arg_type.ensures.bound, c.round_up-offset.ensures.value, c.size.ensures)

pub slice_bounds-result-end : goal.slice_bounds-result-end
slice_bounds-result-end c =
    let rounded = least_multiple-above 8 (size_of (tree_of c.arg_type-2.result.now)) in
    let at_end : c.loop-k.k ≡ c.args.i = omega arith in
    let offset_is = ap (block_offset c.args.self.now.signature.arguments) at_end in
    let block_is = ap (λ a. length a.block) c.self.view_is in
    omega (arith, rounded, block_is, offset_is, c.loop-k.invariant.offset_is, c.arg_type-2.ensures.within, c.size-size.ensures)
