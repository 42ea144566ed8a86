use Rattle.std.proofs.Common.{◌≡◌, ◌*◌, ◌≤◌, ◌++◌, drop, map}
use Rattle.ffi3_type_spec.specs.declared.limits.TheConstants.{ARGUMENT_SPAN}
use Rattle.ffi3_aapcs64_spec.specs.Aapcs64.{untouched}
use Rattle.ffi3_apple_spec.specs.Apple.{taken_after, spots_after}
use Rattle.ffi3_place.specs.WithoutCopy.{without_copy}
use Rattle.ffi3_apple.proofs.place_all.Given as goal

abbrev pub invariant-loop-i : goal.invariant-loop-i
invariant-loop-i l = record {
  few_general : l.taken.general ≤ 5 * l.i;
  few_vector : l.taken.vector ≤ 5 * l.i;
  low : l.taken.stack ≤ ARGUMENT_SPAN * l.i;
  after : taken_after l.sig.fixed l.taken l.i (drop l.i l.sig.arguments) ≡ taken_after l.sig.fixed untouched 0 l.sig.arguments;
  done : l.places ++ map without_copy (spots_after l.sig.fixed l.taken l.i (drop l.i l.sig.arguments)) ≡ map without_copy (spots_after l.sig.fixed untouched 0 l.sig.arguments);
}
