use Rattle.std.proofs.Common.{◌≡◌, ◌++◌, drop, map}
use Rattle.ffi3_diagnostics_spec.specs.ToldText.{shown}
use Rattle.ffi3_diagnostics.proofs.told_text.put_shown.Given as goal

abbrev pub invariant-loop-i : goal.invariant-loop-i
invariant-loop-i l =
    l.out ++ map shown (drop l.i l.bytes) ≡ l.fn.out ++ map shown l.fn.bytes
