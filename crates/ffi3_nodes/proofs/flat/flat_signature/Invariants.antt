use Rattle.std.proofs.Common.{◌-◌, length}
use Rattle.ffi3_types.specs.TreeOf.{tree_of}
use Rattle.ffi3_nodes.specs.Read.{AreReadSoFar}
use Rattle.ffi3_nodes.proofs.flat.flat_signature.Given as goal

abbrev pub invariant-loop-at : goal.invariant-loop-at
invariant-loop-at l = AreReadSoFar (tree_of l.begun.ty) l.args l.nodes l.at

abbrev pub decreases-loop-at : goal.decreases-loop-at
decreases-loop-at l = length l.nodes - l.at
