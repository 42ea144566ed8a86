use Rattle.std.proofs.Common.{◌+◌, ◌*◌}
use Rattle.ffi3_type_spec.specs.Tree.{nodes, all_nodes, trees_of}
use Rattle.ffi3_types.specs.TreeOf.{tree_of}
use Rattle.ffi3_format.proofs.Wants.{LeftDecide}
use Rattle.ffi3_format.proofs.wanting.+wanting.Given as goal

abbrev pub decreases-wants_format : goal.decreases-wants_format
decreases-wants_format l = 2 * nodes (tree_of l.ty.now)

abbrev pub decreases-want_format : goal.decreases-want_format
decreases-want_format l = 2 * all_nodes (trees_of l.types.now) + 1

abbrev pub invariant-want_format-loop-i : goal.invariant-want_format-loop-i
invariant-want_format-loop-i l = LeftDecide l.types l.i
