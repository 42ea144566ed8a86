use Rattle.std.proofs.Common.{◌≡◌, ◌+◌, ◌*◌, take}
use Rattle.ffi3_type_spec.specs.Tree.{nodes, all_nodes, trees_of}
use Rattle.ffi3_types.specs.TreeOf.{tree_of}
use Rattle.ffi3_types.proofs.+copy.Given as goal

abbrev pub decreases-FfiType::copy : goal.decreases-FfiType::copy
decreases-FfiType::copy l = 2 * nodes (tree_of l.self.now)

abbrev pub decreases-Fields::copy : goal.decreases-Fields::copy
decreases-Fields::copy l = 2 * all_nodes (trees_of l.self.now) + 1

abbrev pub invariant-Fields::copy-loop-i : goal.invariant-Fields::copy-loop-i
invariant-Fields::copy-loop-i l = l.fields ≡ take l.i l.self
