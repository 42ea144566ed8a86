use Rattle.std.proofs.Common.{◌≡◌, ◌+◌, ◌*◌, ◌<◌, ℕ}
use Rattle.ffi3_type_spec.specs.Tree.{nodes, all_nodes, trees_of, tree_at}
use Rattle.ffi3_types.specs.TreeOf.{tree_of}
use Rattle.ffi3_types.proofs.same.+same.Given as goal

abbrev pub decreases-same_type : goal.decreases-same_type
decreases-same_type l = 2 * nodes (tree_of l.a.now)

abbrev pub decreases-same_fields : goal.decreases-same_fields
decreases-same_fields l = 2 * all_nodes (trees_of l.a.now) + 1

abbrev pub invariant-same_fields-loop-i : goal.invariant-same_fields-loop-i
invariant-same_fields-loop-i l = (k : ℕ) → k < l.i → tree_at l.a k ≡ tree_at l.b k
