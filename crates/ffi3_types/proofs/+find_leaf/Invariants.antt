use Rattle.std.proofs.Common.{◌≡◌, ◌+◌, ◌*◌, ◌≤◌, length}
use Rattle.ffi3_type_spec.specs.Tree.{nodes, all_nodes, trees_of}
use Rattle.ffi3_type_spec.specs.Layout.{layouts, leaves_before, end_before}
use Rattle.ffi3_types.specs.TreeOf.{tree_of}
use Rattle.ffi3_types.proofs.+find_leaf.Given as goal

abbrev pub decreases-FfiType::find_leaf : goal.decreases-FfiType::find_leaf
decreases-FfiType::find_leaf l = 2 * nodes (tree_of l.self.now)

abbrev pub decreases-Fields::find_leaf : goal.decreases-Fields::find_leaf
decreases-Fields::find_leaf l = 2 * all_nodes (trees_of l.self.now) + 1

abbrev pub decreases-Fields::find_leaf_of_array : goal.decreases-Fields::find_leaf_of_array
decreases-Fields::find_leaf_of_array l = 2 * all_nodes (trees_of l.self.now) + 1

abbrev pub invariant-Fields::find_leaf-loop-k : goal.invariant-Fields::find_leaf-loop-k
invariant-Fields::find_leaf-loop-k l = record {
  end : l.end ≡ end_before (layouts (trees_of l.self)) l.k;
  before : l.before ≡ length (leaves_before (layouts (trees_of l.self)) l.k);
  from : l.before ≤ l.i;
}
