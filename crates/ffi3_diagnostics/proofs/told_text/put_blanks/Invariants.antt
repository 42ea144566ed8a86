use Rattle.std.proofs.Common.{◌≡◌, ◌++◌, drop}
use Rattle.ffi3_diagnostics_spec.specs.ToldText.{blanks_below}
use Rattle.ffi3_diagnostics.proofs.told_text.put_blanks.Given as goal

abbrev pub invariant-loop-i : goal.invariant-loop-i
invariant-loop-i l =
    l.out ++ blanks_below (drop l.i l.line) ≡ l.fn.out ++ blanks_below l.fn.line
