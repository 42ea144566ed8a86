use Rattle.std.proofs.Common.{◌≡◌, ◌+◌, ◌*◌}
use Rattle.ffi3_type_spec.specs.Tree.{nodes, all_nodes, trees_of}
use Rattle.ffi3_type_spec.specs.Layout.{layouts, end_before}
use Rattle.ffi3_type_spec.proofs.Writing.{IsWrittenBefore}
use Rattle.ffi3_types.specs.TreeOf.{tree_of}
use Rattle.ffi3_values.proofs.write.+write_bytes.Given as goal

abbrev pub decreases-write_bytes : goal.decreases-write_bytes
decreases-write_bytes l = 2 * nodes (tree_of l.ty.now)

abbrev pub decreases-write_values : goal.decreases-write_values
decreases-write_values l = 2 * all_nodes (trees_of l.fields.now) + 1

abbrev pub invariant-write_values-loop-i : goal.invariant-write_values-loop-i
invariant-write_values-loop-i l = record {
  end : l.end ≡ end_before (layouts (trees_of l.fields)) l.i;
  written : IsWrittenBefore l.fields l.values l.initial.out l.out l.i;
}
