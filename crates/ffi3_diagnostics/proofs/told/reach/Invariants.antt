use Rattle.std.proofs.Common.{◌≡◌, ◌-◌, drop}
use Rattle.ffi3_cdecl_spec.specs.Telling.{reach, nothing_reached}
use Rattle.ffi3_cdecl.specs.TokenOf.{sign_of}
use Rattle.ffi3_diagnostics.specs.ToldOf.{reached_of}
use Rattle.ffi3_diagnostics.proofs.told.reach.Given as goal

abbrev pub invariant-loop-at : goal.invariant-loop-at
invariant-loop-at l =
    reach (sign_of l.c) (l.stop - l.at) l.inside (reached_of l.q) (drop l.at l.bytes) ≡ reach (sign_of l.c) l.fn.stop 0 nothing_reached l.fn.bytes
