use Rattle.std.proofs.Common.{◌≡◌, ◌+◌, ◌*◌, ◌≤◌, ◌++◌, drop}
use Rattle.std.specs.Prelude.{is_some}
use Rattle.ffi3_type_spec.specs.declared.limits.TheConstants.{ARGUMENT_SPAN}
use Rattle.ffi3_place_spec.specs.Standard.{places_from, copies_end}
use Rattle.ffi3_win64_spec.specs.Win64.{win64, spots_from}
use Rattle.ffi3_win64.proofs.place_all.Given as goal

abbrev pub invariant-loop-i : goal.invariant-loop-i
invariant-loop-i l = record {
  near : l.end ≤ l.start + ARGUMENT_SPAN * l.i;
  copies : copies_end win64.copy_start l.end (drop l.i l.sig.arguments) (spots_from (is_some l.sig.fixed) (l.first + l.i) (drop l.i l.sig.arguments)) ≡ copies_end win64.copy_start l.start l.sig.arguments (spots_from (is_some l.sig.fixed) l.first l.sig.arguments);
  done : l.places ++ places_from win64.copy_start l.end (drop l.i l.sig.arguments) (spots_from (is_some l.sig.fixed) (l.first + l.i) (drop l.i l.sig.arguments)) ≡ places_from win64.copy_start l.start l.sig.arguments (spots_from (is_some l.sig.fixed) l.first l.sig.arguments);
}
