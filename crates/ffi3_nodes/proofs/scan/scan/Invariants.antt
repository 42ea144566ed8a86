use Rattle.std.proofs.Common.{◌≡◌, [], drop}
use Rattle.ffi3_nodes.specs.Faults.{fault_from}
use Rattle.ffi3_nodes.proofs.scan.scan.Given as goal

abbrev pub invariant-loop-i : goal.invariant-loop-i
invariant-loop-i l = fault_from [] 0 l.nodes ≡ fault_from l.inside l.i (drop l.i l.nodes)
