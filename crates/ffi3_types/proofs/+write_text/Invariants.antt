use Rattle.std.proofs.Common.{◌≡◌, ◌+◌, ◌*◌, ◌-◌, ◌++◌, drop}
use Rattle.ffi3_type_spec.specs.Tree.{nodes, all_nodes, trees_of}
use Rattle.ffi3_type_spec.proofs.Texts.{texts_before}
use Rattle.ffi3_types.specs.TreeOf.{tree_of}
use Rattle.ffi3_types.proofs.+write_text.Given as goal

abbrev pub decreases-FfiType::write_text : goal.decreases-FfiType::write_text
decreases-FfiType::write_text l = 3 * nodes (tree_of l.self.now)

abbrev pub decreases-Fields::write_range : goal.decreases-Fields::write_range
decreases-Fields::write_range l = 3 * all_nodes (trees_of l.self.now) + 1

abbrev pub decreases-Fields::write_first : goal.decreases-Fields::write_first
decreases-Fields::write_first l = 3 * all_nodes (trees_of l.self.now) + 1

abbrev pub decreases-Fields::write_array : goal.decreases-Fields::write_array
decreases-Fields::write_array l = 3 * all_nodes (trees_of l.self.now) + 2

abbrev pub decreases-Fields::write_all : goal.decreases-Fields::write_all
decreases-Fields::write_all l = 3 * all_nodes (trees_of l.self.now) + 2

abbrev pub invariant-Fields::write_range-loop-i : goal.invariant-Fields::write_range-loop-i
invariant-Fields::write_range-loop-i l =
    l.text ≡ l.initial.text ++ texts_before (drop l.from l.self) (l.i - l.from)
