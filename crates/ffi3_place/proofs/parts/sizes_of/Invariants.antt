use Rattle.std.proofs.Common.{◌≡◌, ◌+◌, ◌*◌, ◌≤◌, take}
use Rattle.std.specs.List.{sum_by}
use Rattle.ffi3_type_spec.specs.declared.limits.TheConstants.{LARGEST_TYPE}
use Rattle.ffi3_type_spec.specs.Layout.{size_of}
use Rattle.ffi3_place_spec.specs.Standard.{round8}
use Rattle.ffi3_place.proofs.parts.sizes_of.Given as goal

abbrev pub invariant-loop-i : goal.invariant-loop-i
invariant-loop-i l = record {
  value : l.all ≡ sum_by (λ t. round8 (size_of t)) (take l.i l.sig.arguments);
  bound : l.all ≤ (LARGEST_TYPE + 7) * l.i;
}
