use Rattle.std.proofs.Common.{◌≡◌, drop}
use Rattle.ffi3_diagnostics_spec.specs.ToldText.{without_end}
use Rattle.ffi3_diagnostics.proofs.Wording.{whole_end}
use Rattle.ffi3_diagnostics.proofs.told_text.without_end.Given as goal

abbrev pub invariant-loop-i : goal.invariant-loop-i
invariant-loop-i l =
    whole_end l.end l.i (without_end (drop l.i l.bytes)) ≡ without_end l.fn.bytes
