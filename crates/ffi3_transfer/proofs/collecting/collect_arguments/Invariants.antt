use Rattle.std.proofs.Common.{length}
use Rattle.ffi3_place_spec.specs.Standard.{plan_of}
use Rattle.ffi3_transfer.specs.Stored.{image_in}
use Rattle.ffi3_transfer.proofs.Turns.{AreCollected}
use Rattle.ffi3_transfer.proofs.collecting.collect_arguments.Given as goal

abbrev pub invariant-loop-i : goal.invariant-loop-i
invariant-loop-i g l = AreCollected (image_in l.registers l.stack) g.A.Abi.standard.link l.placed.arguments (plan_of g.A.Abi.standard l.placed).places (length l.fn.values) l.i l.at l.values
