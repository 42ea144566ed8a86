use Rattle.std.proofs.Common.{◌≡◌, ◌≤◌, length, reverse}
use Rattle.ffi3_nodes.specs.Faults.{closed}
use Rattle.ffi3_nodes.proofs.open.Open.close.Given as goal

abbrev pub invariant-loop-wanted : goal.invariant-loop-wanted
invariant-loop-wanted l =
    (closed (reverse l.self-inside.wanted.items) ≡ closed (reverse l.initial.self-inside.wanted.items))
    × (length l.self-inside.wanted.items ≤ 16)

abbrev pub decreases-loop-wanted : goal.decreases-loop-wanted
decreases-loop-wanted l = length l.self-inside.wanted.items
