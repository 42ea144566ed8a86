use Rattle.std.proofs.Common.{◌≡◌, ◌+◌, ◌*◌, ◌≤◌, ◌++◌, take, drop, length}
use Rattle.ffi3_type_spec.specs.declared.limits.TheConstants.{ARGUMENT_SPAN}
use Rattle.ffi3_place.proofs.Laid.{laid_places, laid_ends}
use Rattle.ffi3_place.proofs.ends.lay_copies.Given as goal

abbrev pub invariant-loop-i : goal.invariant-loop-i
invariant-loop-i l = record {
  one_each : length l.places ≡ length l.sig.arguments;
  near : l.end ≤ l.from + ARGUMENT_SPAN * l.i;
  ends : laid_ends l.end (drop l.i l.sig.arguments) (drop l.i l.places) ≡ laid_ends l.from l.sig.arguments l.fn.places;
  done : take l.i l.places ++ laid_places l.end (drop l.i l.sig.arguments) (drop l.i l.places) ≡ laid_places l.from l.sig.arguments l.fn.places;
}
