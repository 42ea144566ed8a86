use Rattle.std.proofs.Common.{◌≡◌, ◌+◌, ◌*◌, ◌≤◌, ◌++◌, drop, take}
use Rattle.std.specs.List.{sum_by}
use Rattle.ffi3_type_spec.specs.declared.limits.TheConstants.{ARGUMENT_SPAN, LARGEST_TYPE}
use Rattle.ffi3_type_spec.specs.Layout.{size_of}
use Rattle.ffi3_place_spec.specs.Standard.{places_from, round8}
use Rattle.ffi3_amd64_spec.specs.Amd64.{amd64, taken_after, taken_at_first, spots_after}
use Rattle.ffi3_amd64.proofs.place_all.Given as goal

abbrev pub invariant-loop-i : goal.invariant-loop-i
invariant-loop-i l = record {
  taken : taken_after l.before (drop l.i l.sig.arguments) ≡ taken_after (taken_at_first l.sig.result_type) l.sig.arguments;
  few_general : l.before.general ≤ 6;
  few_vector : l.before.vector ≤ 8;
  low : l.before.stack ≤ ARGUMENT_SPAN * l.i;
  done : l.places ++ places_from amd64.copy_start 0 (drop l.i l.sig.arguments) (spots_after l.before (drop l.i l.sig.arguments)) ≡ places_from amd64.copy_start 0 l.sig.arguments (spots_after (taken_at_first l.sig.result_type) l.sig.arguments);
  sizes : l.sizes ≡ sum_by (λ t. round8 (size_of t)) (take l.i l.sig.arguments);
  few_bytes : l.sizes ≤ (LARGEST_TYPE + 7) * l.i;
}
