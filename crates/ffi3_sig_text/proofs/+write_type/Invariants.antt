use Rattle.std.proofs.Common.{◌≡◌, ◌+◌, ◌*◌, ◌-◌, ◌++◌, drop}
use Rattle.ffi3_type_spec.specs.Tree.{nodes, all_nodes, trees_of}
use Rattle.ffi3_sig_text.proofs.Texts.{texts_before}
use Rattle.ffi3_types.specs.TreeOf.{tree_of}
use Rattle.ffi3_sig_text.proofs.+write_type.Given as goal

abbrev pub decreases-write_type : goal.decreases-write_type
decreases-write_type l = 3 * nodes (tree_of l.ty.now)

abbrev pub decreases-write_range : goal.decreases-write_range
decreases-write_range l = 3 * all_nodes (trees_of l.types.now) + 1

abbrev pub decreases-write_first : goal.decreases-write_first
decreases-write_first l = 3 * all_nodes (trees_of l.types.now) + 1

abbrev pub decreases-write_array : goal.decreases-write_array
decreases-write_array l = 3 * all_nodes (trees_of l.types.now) + 2

abbrev pub decreases-write_all : goal.decreases-write_all
decreases-write_all l = 3 * all_nodes (trees_of l.types.now) + 2

abbrev pub invariant-write_range-loop-i : goal.invariant-write_range-loop-i
invariant-write_range-loop-i l =
    l.text ≡ l.initial.text ++ texts_before (drop l.from l.types) (l.i - l.from)
