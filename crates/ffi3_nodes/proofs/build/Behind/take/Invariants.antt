use Rattle.ffi3_nodes.proofs.Taking.{IsTakenSoFar}
use Rattle.ffi3_types.specs.TreeOf.{tree_of}
use Rattle.std.proofs.Common.{map}
use Rattle.ffi3_nodes.proofs.build.Behind.take.Given as goal

abbrev pub invariant-loop-i : goal.invariant-loop-i
invariant-loop-i l = IsTakenSoFar (map tree_of l.initial.self-inside.types.items) (map tree_of l.self-inside.types.items) l._i l.types
