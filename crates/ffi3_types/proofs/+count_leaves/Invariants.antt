use Rattle.std.proofs.Common.{◌≡◌, ◌+◌, ◌*◌, length}
use Rattle.ffi3_type_spec.specs.Tree.{nodes, all_nodes, trees_of}
use Rattle.ffi3_type_spec.specs.Layout.{layouts, leaves_before}
use Rattle.ffi3_types.specs.TreeOf.{tree_of}
use Rattle.ffi3_types.proofs.+count_leaves.Given as goal

abbrev pub decreases-FfiType::count_leaves : goal.decreases-FfiType::count_leaves
decreases-FfiType::count_leaves l = 2 * nodes (tree_of l.self.now)

abbrev pub decreases-Fields::count_leaves : goal.decreases-Fields::count_leaves
decreases-Fields::count_leaves l = 2 * all_nodes (trees_of l.self.now) + 1

abbrev pub decreases-Fields::count_leaves_of_array : goal.decreases-Fields::count_leaves_of_array
decreases-Fields::count_leaves_of_array l = 2 * all_nodes (trees_of l.self.now) + 1

abbrev pub invariant-Fields::count_leaves-loop-k : goal.invariant-Fields::count_leaves-loop-k
invariant-Fields::count_leaves-loop-k l =
    l.total ≡ length (leaves_before (layouts (trees_of l.self)) l.k)
