use Rattle.std.proofs.Common.{◌≤◌, ◌-◌, length}
use Rattle.ffi3_type_spec.specs.Tree.{Tree}
use Rattle.ffi3_nodes.specs.Read.{AreReadSoFar}
use Rattle.ffi3_nodes.proofs.flat.push_scalars.Given as goal

abbrev pub invariant-loop-end : goal.invariant-loop-end
invariant-loop-end l = record {
  read : (ret : Tree) → AreReadSoFar ret l.fn.args l.nodes l.at → AreReadSoFar ret l.args l.nodes l.end;
  on : l.at ≤ l.end;
}

abbrev pub decreases-loop-end : goal.decreases-loop-end
decreases-loop-end l = length l.nodes - l.end
