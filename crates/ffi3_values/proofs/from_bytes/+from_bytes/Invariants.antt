use Rattle.std.proofs.Common.{◌≡◌, ◌+◌, ◌*◌, ◌<◌, ℕ, length, true}
use Rattle.ffi3_type_spec.specs.Tree.{nodes, all_nodes, trees_of, tree_at}
use Rattle.ffi3_type_spec.specs.Layout.{layouts, end_before}
use Rattle.ffi3_type_spec.specs.Value.{fits}
use Rattle.ffi3_type_spec.proofs.Values.{value_at, element_value}
use Rattle.ffi3_types.specs.TreeOf.{tree_of}
use Rattle.ffi3_values.proofs.from_bytes.+from_bytes.Given as goal

abbrev pub decreases-value_from_bytes : goal.decreases-value_from_bytes
decreases-value_from_bytes l = 2 * nodes (tree_of l.ty.now)

abbrev pub decreases-values_from_bytes : goal.decreases-values_from_bytes
decreases-values_from_bytes l = 2 * all_nodes (trees_of l.fields.now) + 1

abbrev pub invariant-values_from_bytes-loop-i : goal.invariant-values_from_bytes-loop-i
invariant-values_from_bytes-loop-i l = record {
  end : l.end ≡ end_before (layouts (trees_of l.fields)) l.i;
  count : length l.values ≡ l.i;
  each : (k : ℕ) → k < l.i → value_at l.values k ≡ element_value l.fields l.bytes k;
  fit : (k : ℕ) → k < l.i → fits (tree_at l.fields k) (value_at l.values k) ≡ true;
}
