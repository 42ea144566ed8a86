use Rattle.std.proofs.Common.{◌+◌, ◌≤◌, length, ap, sym, ◌∙◌, arith}
use Rattle.std.specs.Prelude.{slice_index_or}
use Rattle.ffi3_type_spec.specs.Layout.{size_of}
use Rattle.ffi3_type_spec.specs.Tree.{tree_at}
use Rattle.ffi3_type_spec.specs.Value.{value_in, void_value}
use Rattle.ffi3_type_spec.proofs.Layouts.{least_multiple-above}
use Rattle.ffi3_place_spec.specs.Standard.{block_bytes}
use Rattle.ffi3_machine_spec.specs.State.{stack_at}
use Rattle.ffi3_semantics_spec.specs.SeenActivation.{block_offset}
use Rattle.ffi3_body.proofs.Blocks.{argument_here, whole_within}
use Rattle.ffi3_callee.proofs.Placing.{stack_inside}
use Rattle.ffi3_callee.proofs.arg.Goals as goal

pub arg-ty-requires : goal.arg-ty-requires
arg-ty-requires g c =
    omega (arith, c.requires.in_range, ap (λ r. length r.arguments) c.checked_sig-sig.ensures.value)

pub offset_of-offset-requires : goal.offset_of-offset-requires
offset_of-offset-requires g c =
    omega (arith, c.requires.in_range, ap (λ r. length r.arguments) c.checked_sig-sig.ensures.value)

pub overflow_add-from : goal.overflow_add-from
overflow_add-from g c =
    let s = c.args.cif.now in
    let offset_is = c.offset_of-offset.ensures ∙ ap (λ r. block_offset r.arguments c.args.i) c.checked_sig-sig.ensures.value in
    omega (arith, c.block.ensures, offset_is, whole_within s c.args.i c.requires.in_range, c.requires.incoming.entry, c.requires.incoming.high)

pub lend_stack-requires-clause-low : goal.lend_stack-requires-clause-low
lend_stack-requires-clause-low g c = omega (arith, c.block.ensures, c.requires.incoming.low)

pub lend_stack-requires-clause-high : goal.lend_stack-requires-clause-high
lend_stack-requires-clause-high g c =
    let s = c.args.cif.now in
    let offset_is = c.offset_of-offset.ensures ∙ ap (λ r. block_offset r.arguments c.args.i) c.checked_sig-sig.ensures.value in
    let size_is = c.size-size.ensures.value ∙ ap size_of (c.arg-ty.ensures ∙ ap (λ r. tree_at r.arguments c.args.i) c.checked_sig-sig.ensures.value) in
    omega (arith, c.block.ensures, offset_is, size_is, least_multiple-above 8 (size_of (tree_at s.arguments c.args.i)), whole_within s c.args.i c.requires.in_range, c.requires.incoming.entry, c.requires.incoming.high)

pub returns : goal.returns
returns g c =
    let s = c.args.cif.now in
    let i = c.args.i in
    let m = c.args.machine.now in
    let t = tree_at s.arguments i in
    let block = c.args.incoming.now.block in
    let offset_is = c.offset_of-offset.ensures ∙ ap (λ r. block_offset r.arguments i) c.checked_sig-sig.ensures.value in
    let size_is = c.size-size.ensures.value ∙ ap size_of (c.arg-ty.ensures ∙ ap (λ r. tree_at r.arguments i) c.checked_sig-sig.ensures.value) in
    let here = c.lend_stack.ensures.value ∙ ap (λ n. stack_at (n + c.offset_of-offset.result) c.size-size.result m) c.block.ensures ∙ ap (λ n. stack_at (block + n) c.size-size.result m) offset_is ∙ ap (λ n. stack_at (block + block_offset s.arguments i) n m) size_is in
    let inside : block_offset s.arguments i + size_of t ≤ block_bytes s = omega (arith, least_multiple-above 8 (size_of t), whole_within s i c.requires.in_range) in
    record {
      are = here;
      count = c.lend_stack.ensures.len ∙ size_is;
      value = λ vs all. ap (value_in t) (here ∙ sym (stack_inside block (block_bytes s) (block_offset s.arguments i) (size_of t) m c.requires.incoming.low inside)) ∙ sym (argument_here s.arguments (stack_at block (block_bytes s) m) i c.requires.in_range) ∙ ap (λ ws. slice_index_or ws i void_value) all;
    }
