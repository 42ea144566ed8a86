use Rattle.std.proofs.Common.{◌+◌, ◌*◌}
use Rattle.ffi3_type_spec.specs.Tree.{nodes, all_nodes, trees_of}
use Rattle.ffi3_types.specs.TreeOf.{tree_of}
use Rattle.ffi3_types.proofs.LongDoubles.{LeftDecide}
use Rattle.ffi3_types.proofs.+long_doubles.Given as goal

abbrev pub decreases-FfiType::has_long_double : goal.decreases-FfiType::has_long_double
decreases-FfiType::has_long_double l = 2 * nodes (tree_of l.self.now)

abbrev pub decreases-Fields::have_long_double : goal.decreases-Fields::have_long_double
decreases-Fields::have_long_double l = 2 * all_nodes (trees_of l.self.now) + 1

abbrev pub invariant-Fields::have_long_double-loop-i : goal.invariant-Fields::have_long_double-loop-i
invariant-Fields::have_long_double-loop-i l = LeftDecide l.self l.i
