use Rattle.std.proofs.Common.{◌≤◌, ◌-◌, length}
use Rattle.ffi3_nodes.proofs.flat.count_types.Given as goal

abbrev pub invariant-loop-at : goal.invariant-loop-at
invariant-loop-at l = l.count ≤ l.at

abbrev pub decreases-loop-at : goal.decreases-loop-at
decreases-loop-at l = length l.nodes - l.at
