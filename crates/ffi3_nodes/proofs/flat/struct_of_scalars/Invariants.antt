use Rattle.ffi3_nodes.proofs.FlatTypes.{AreMembers}
use Rattle.ffi3_nodes.proofs.flat.struct_of_scalars.Given as goal

abbrev pub invariant-loop-i : goal.invariant-loop-i
invariant-loop-i l = AreMembers l.types l.nodes l.i
