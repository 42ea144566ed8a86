use Rattle.std.proofs.Common.{◌≡◌, ◌+◌, ◌*◌, ◌++◌, map}
use Rattle.ffi3_type_spec.specs.Tree.{nodes, all_nodes, trees_of}
use Rattle.ffi3_type_spec.specs.Layout.{layouts, element, end_before, leaves_before, repeated, moved}
use Rattle.ffi3_types.specs.TreeOf.{tree_of}
use Rattle.ffi3_types.proofs.+push_leaves.Given as goal

abbrev pub decreases-FfiType::push_leaves : goal.decreases-FfiType::push_leaves
decreases-FfiType::push_leaves l = 2 * nodes (tree_of l.self.now)

abbrev pub decreases-Fields::push_leaves : goal.decreases-Fields::push_leaves
decreases-Fields::push_leaves l = 2 * all_nodes (trees_of l.self.now) + 1

abbrev pub decreases-Fields::push_leaves_of_array : goal.decreases-Fields::push_leaves_of_array
decreases-Fields::push_leaves_of_array l = 2 * all_nodes (trees_of l.self.now) + 1

abbrev pub invariant-Fields::push_leaves-loop-k : goal.invariant-Fields::push_leaves-loop-k
invariant-Fields::push_leaves-loop-k l = record {
  end : l.end ≡ end_before (layouts (trees_of l.self)) l.k;
  leaves : l.leaves ≡ l.initial.leaves ++ map (moved l.from) (leaves_before (layouts (trees_of l.self)) l.k);
}

abbrev pub invariant-Fields::push_leaves_of_array-loop-i : goal.invariant-Fields::push_leaves_of_array-loop-i
invariant-Fields::push_leaves_of_array-loop-i l =
    l.leaves ≡ l.initial.leaves ++ map (moved l.from) (repeated (element (layouts (trees_of l.self)) 0) l.i)
