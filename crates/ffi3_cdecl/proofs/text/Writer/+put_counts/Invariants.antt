use Rattle.std.proofs.Common.{◌+◌, ◌*◌}
use Rattle.ffi3_type_spec.specs.Tree.{nodes, all_nodes, trees_of}
use Rattle.ffi3_types.specs.TreeOf.{tree_of}
use Rattle.ffi3_cdecl.proofs.text.Writer.+put_counts.Given as goal

abbrev pub decreases-put_counts : goal.decreases-put_counts
decreases-put_counts l = 2 * nodes (tree_of l.ty.now)

abbrev pub decreases-put_first_counts : goal.decreases-put_first_counts
decreases-put_first_counts l = 2 * all_nodes (trees_of l.fields.now) + 1
