use Rattle.std.proofs.Common.{◌≤◌, ap, ◌∙◌, arith}
use Rattle.ffi3_type_spec.specs.declared.limits.TheConstants.{LARGEST_TYPE}
use Rattle.ffi3_type_spec.specs.declared.Role.TheVariants.{Anywhere}
use Rattle.ffi3_type_spec.specs.Layout.{size_of, align_of}
use Rattle.ffi3_type_spec.proofs.Faults.{right_is_small}
use Rattle.ffi3_types.specs.TreeOf.{tree_of}
use Rattle.ffi3_aapcs64.proofs.Classed.of.Goals as goal

pub registers_needed-registers-requires-clause-small : goal.registers_needed-registers-requires-clause-small
registers_needed-registers-requires-clause-small c =
    omega (arith, c.extent-extent.ensures.size, right_is_small 0 Anywhere (tree_of c.as_type.result.now) c.as_type.ensures.right)

pub invariant_of-result : goal.invariant_of-result
invariant_of-result c =
    let small : c.extent-extent.result.size ≤ LARGEST_TYPE = omega (arith, c.extent-extent.ensures.size, right_is_small 0 Anywhere (tree_of c.as_type.result.now) c.as_type.ensures.right) in
    record {
      sized = c.extent-extent.ensures.size ∙ ap size_of c.as_type.ensures.value;
      small = small;
      aligned = c.extent-extent.ensures.align ∙ ap align_of c.as_type.ensures.value;
      by_vectors = c.in_vectors-vectors.ensures;
      by_copy = c.is_copied-copied.ensures;
      needed = c.registers_needed-registers.ensures;
    }
