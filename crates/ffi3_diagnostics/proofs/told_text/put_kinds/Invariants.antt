use Rattle.std.proofs.Common.{◌≡◌, ◌++◌, drop}
use Rattle.ffi3_diagnostics_spec.specs.ToldText.{one_of}
use Rattle.ffi3_diagnostics.specs.ToldOf.{kinds_of}
use Rattle.ffi3_diagnostics.proofs.told_text.put_kinds.Given as goal

abbrev pub invariant-loop-i : goal.invariant-loop-i
invariant-loop-i l =
    l.out ++ one_of (kinds_of (drop l.i l.kinds)) ≡ l.fn.out ++ one_of (kinds_of l.fn.kinds)
