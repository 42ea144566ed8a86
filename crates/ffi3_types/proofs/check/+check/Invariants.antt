use Rattle.std.proofs.Common.{◌≡◌, ◌+◌, ◌*◌}
use Rattle.ffi3_type_spec.specs.Tree.{nodes, all_nodes, trees_of}
use Rattle.ffi3_type_spec.specs.Layout.{layouts, end_before, align_before}
use Rattle.ffi3_types.specs.TreeOf.{tree_of}
use Rattle.ffi3_types.specs.FirstElement.{NoElementHasFault}
use Rattle.ffi3_types.proofs.check.+check.Given as goal

abbrev pub decreases-check_node : goal.decreases-check_node
decreases-check_node l = 4 * nodes (tree_of l.ty.now) + 1

abbrev pub decreases-check_other : goal.decreases-check_other
decreases-check_other l = 4 * nodes (tree_of l.ty.now)

abbrev pub decreases-check_struct : goal.decreases-check_struct
decreases-check_struct l = 4 * all_nodes (trees_of l.fields.now) + 3

abbrev pub decreases-check_array : goal.decreases-check_array
decreases-check_array l = 4 * all_nodes (trees_of l.fields.now) + 2

abbrev pub decreases-check_elements : goal.decreases-check_elements
decreases-check_elements l = 4 * all_nodes (trees_of l.fields.now) + 2

abbrev pub invariant-check_elements-loop-i : goal.invariant-check_elements-loop-i
invariant-check_elements-loop-i l = record {
  right : NoElementHasFault l.outer l.fields l.i;
  end : l.end ≡ end_before (layouts (trees_of l.fields)) l.i;
  align : l.align ≡ align_before (layouts (trees_of l.fields)) l.i;
}
