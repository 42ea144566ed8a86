use Rattle.std.proofs.Common.{◌≡◌, ◌+◌, ◌*◌, ◌++◌}
use Rattle.ffi3_type_spec.specs.Tree.{nodes, all_nodes, trees_of}
use Rattle.ffi3_type_spec.proofs.ValueTexts.{element_texts, joined}
use Rattle.ffi3_types.specs.TreeOf.{tree_of}
use Rattle.ffi3_values.proofs.text.+write_text.Given as goal

abbrev pub decreases-write_text : goal.decreases-write_text
decreases-write_text l = 2 * nodes (tree_of l.ty.now)

abbrev pub decreases-write_texts : goal.decreases-write_texts
decreases-write_texts l = 2 * all_nodes (trees_of l.fields.now) + 1

abbrev pub invariant-write_texts-loop-i : goal.invariant-write_texts-loop-i
invariant-write_texts-loop-i l =
    l.text ≡ l.initial.text ++ joined (element_texts l.fields l.values) l.i
