use Rattle.std.proofs.Common.{◌≡◌, ◌*◌, ◌≤◌, ◌++◌, drop, map}
use Rattle.ffi3_type_spec.specs.declared.limits.TheConstants.{ARGUMENT_SPAN}
use Rattle.ffi3_aapcs64_spec.specs.Aapcs64.{untouched, taken_after, spots_after}
use Rattle.ffi3_place.specs.WithoutCopy.{without_copy}
use Rattle.ffi3_aapcs64.proofs.place_all.Given as goal

abbrev pub invariant-loop-i : goal.invariant-loop-i
invariant-loop-i l = record {
  few_general : l.taken.general ≤ 5 * l.i;
  few_vector : l.taken.vector ≤ 5 * l.i;
  low : l.taken.stack ≤ ARGUMENT_SPAN * l.i;
  after : taken_after l.taken (drop l.i l.sig.arguments) ≡ taken_after untouched l.sig.arguments;
  done : l.places ++ map without_copy (spots_after l.taken (drop l.i l.sig.arguments)) ≡ map without_copy (spots_after untouched l.sig.arguments);
}
