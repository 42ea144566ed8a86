use Rattle.std.proofs.Common.{length, drop, ◌-◌, ◌≡◌, ◌≤◌, ◌+◌}
use Rattle.ffi3_app.specs.LineEnds.{line_length}
use Rattle.ffi3_app.proofs.write.end_of_line.Given as goal

abbrev pub invariant-loop-at : goal.invariant-loop-at
invariant-loop-at l =
    (l.start ≤ l.at) × (l.at ≤ length l.text) × (l.at + line_length (drop l.at l.text) ≡ l.start + line_length (drop l.start l.text))

abbrev pub decreases-loop-at : goal.decreases-loop-at
decreases-loop-at l = length l.text - l.at
