use Rattle.std.proofs.Common.{length, ◌-◌, ◌≤◌, drop}
use Rattle.ffi3_app.proofs.Pieces.{Continues}
use Rattle.ffi3_app.proofs.write.write_lines.Given as goal

abbrev pub invariant-loop-at : goal.invariant-loop-at
invariant-loop-at g l = record {
  within : l.at ≤ length l.text;
  continues : Continues l.text (drop l.at l.text) (g.O.Sink.state l.fn.output) (g.O.Sink.state l.output);
}

abbrev pub decreases-loop-at : goal.decreases-loop-at
decreases-loop-at g l = length l.text - l.at
