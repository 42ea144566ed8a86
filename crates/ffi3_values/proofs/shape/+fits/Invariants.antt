use Rattle.std.proofs.Common.{◌≡◌, ◌+◌, ◌*◌, drop}
use Rattle.ffi3_type_spec.specs.Tree.{nodes, all_nodes, trees_of}
use Rattle.ffi3_type_spec.specs.Value.{all_fit, values_of}
use Rattle.ffi3_types.specs.TreeOf.{tree_of}
use Rattle.ffi3_values.proofs.shape.+fits.Given as goal

abbrev pub decreases-fits : goal.decreases-fits
decreases-fits l = 2 * nodes (tree_of l.ty.now)

abbrev pub decreases-all_fit : goal.decreases-all_fit
decreases-all_fit l = 2 * all_nodes (trees_of l.fields.now) + 1

abbrev pub invariant-all_fit-loop-i : goal.invariant-all_fit-loop-i
invariant-all_fit-loop-i l =
    all_fit (trees_of l.fields) (values_of l.values) ≡ all_fit (trees_of (drop l.i l.fields)) (values_of (drop l.i l.values))
