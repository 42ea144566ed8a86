use Rattle.std.proofs.Common.{◌-◌, length, drop}
use Rattle.ffi3_nodes.specs.Nodes.{AreWritten}
use Rattle.ffi3_nodes.proofs.build.build.Given as goal

abbrev pub invariant-loop-i : goal.invariant-loop-i
invariant-loop-i l = AreWritten l.behind (drop (length l.nodes - l.i) l.nodes)
