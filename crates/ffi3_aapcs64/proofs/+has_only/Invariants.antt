use Rattle.std.proofs.Common.{◌≡◌, ◌+◌, ◌*◌, true}
use Rattle.std.specs.List.{list_all}
use Rattle.ffi3_type_spec.specs.Tree.{nodes, all_nodes, trees_of}
use Rattle.ffi3_type_spec.specs.Layout.{layouts, leaves_before}
use Rattle.ffi3_types.specs.TreeOf.{tree_of}
use Rattle.ffi3_aapcs64_spec.specs.Aapcs64.{is_member}
use Rattle.ffi3_aapcs64.proofs.+has_only.Given as goal

abbrev pub decreases-has_only : goal.decreases-has_only
decreases-has_only l = 2 * nodes (tree_of l.ty.now)

abbrev pub decreases-have_only : goal.decreases-have_only
decreases-have_only l = 2 * all_nodes (trees_of l.fields.now) + 1

abbrev pub invariant-have_only-loop-i : goal.invariant-have_only-loop-i
invariant-have_only-loop-i l =
    list_all (is_member l.kind) (leaves_before (layouts (trees_of l.fields)) l.i) ≡ true
