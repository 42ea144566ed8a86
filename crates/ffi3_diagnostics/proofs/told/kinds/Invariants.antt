use Rattle.std.proofs.Common.{◌≡◌, ◌≤◌, length}
use Rattle.ffi3_cdecl_spec.specs.Telling.{reach, nothing_reached}
use Rattle.ffi3_cdecl.specs.TokenOf.{sign_of}
use Rattle.ffi3_diagnostics.proofs.Reaching.{with_those, those_from}
use Rattle.ffi3_diagnostics.proofs.told.kinds.Given as goal

abbrev pub invariant-loop-i : goal.invariant-loop-i
invariant-loop-i l =
    (length l.told.items ≤ 4) × (with_those (reach (sign_of l.c) l.stop 0 nothing_reached l.bytes).state l.told.items l.i ≡ those_from (reach (sign_of l.c) l.stop 0 nothing_reached l.bytes).state 0)
