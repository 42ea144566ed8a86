use Rattle.std.proofs.Common.{length, drop, ◌-◌, ◌≡◌, ◌≤◌, ◌+◌}
use Rattle.ffi3_cdecl_spec.specs.Tokens.{front}
use Rattle.ffi3_diagnostics_spec.specs.ToldText.{goes_on_line}
use Rattle.ffi3_diagnostics.proofs.told_text.rest_of_line.Given as goal

abbrev pub invariant-loop-n : goal.invariant-loop-n
invariant-loop-n l =
    (l.n ≤ length l.bytes) × (l.n + length (front goes_on_line (drop l.n l.bytes)) ≡ length (front goes_on_line l.bytes))

abbrev pub decreases-loop-n : goal.decreases-loop-n
decreases-loop-n l = length l.bytes - l.n
