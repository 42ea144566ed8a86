use Rattle.std.proofs.Common.{◌≡◌, ◌+◌, ◌*◌, take, map}
use Rattle.ffi3_type_spec.specs.Tree.{nodes, all_nodes, trees_of}
use Rattle.ffi3_types.specs.TreeOf.{tree_of}
use Rattle.ffi3_format_spec.specs.Format.{resolved}
use Rattle.ffi3_format.proofs.resolving.+resolving.Given as goal

abbrev pub decreases-resolved : goal.decreases-resolved
decreases-resolved l = 2 * nodes (tree_of l.ty.now)

abbrev pub decreases-all_resolved : goal.decreases-all_resolved
decreases-all_resolved l = 2 * all_nodes (trees_of l.types.now) + 1

abbrev pub invariant-all_resolved-loop-i : goal.invariant-all_resolved-loop-i
invariant-all_resolved-loop-i l = l.fields ≡ map (resolved l.format) (take l.i l.types)
