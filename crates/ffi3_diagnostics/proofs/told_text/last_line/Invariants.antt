use Rattle.std.proofs.Common.{◌≡◌, [], drop}
use Rattle.ffi3_diagnostics_spec.specs.ToldText.{last_line}
use Rattle.ffi3_diagnostics.proofs.told_text.last_line.Given as goal

abbrev pub invariant-loop-i : goal.invariant-loop-i
invariant-loop-i l =
    last_line l.line (drop l.i l.bytes) ≡ last_line [] l.fn.bytes
