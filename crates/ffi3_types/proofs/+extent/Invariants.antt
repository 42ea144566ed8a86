use Rattle.std.proofs.Common.{◌≡◌, ◌+◌, ◌*◌}
use Rattle.ffi3_type_spec.specs.Tree.{nodes, all_nodes, trees_of}
use Rattle.ffi3_type_spec.specs.Layout.{layouts, end_before, align_before}
use Rattle.ffi3_types.specs.TreeOf.{tree_of}
use Rattle.ffi3_types.proofs.+extent.Given as goal

abbrev pub decreases-FfiType::extent : goal.decreases-FfiType::extent
decreases-FfiType::extent l = 3 * nodes (tree_of l.self.now)

abbrev pub decreases-Fields::extent : goal.decreases-Fields::extent
decreases-Fields::extent l = 3 * all_nodes (trees_of l.self.now) + 2

abbrev pub decreases-Fields::extent_of_array : goal.decreases-Fields::extent_of_array
decreases-Fields::extent_of_array l = 3 * all_nodes (trees_of l.self.now) + 1

abbrev pub decreases-Fields::front : goal.decreases-Fields::front
decreases-Fields::front l = 3 * all_nodes (trees_of l.self.now) + 1

abbrev pub invariant-Fields::front-loop-i : goal.invariant-Fields::front-loop-i
invariant-Fields::front-loop-i l = record {
  end : l.end ≡ end_before (layouts (trees_of l.self)) l.i;
  align : l.align ≡ align_before (layouts (trees_of l.self)) l.i;
}
