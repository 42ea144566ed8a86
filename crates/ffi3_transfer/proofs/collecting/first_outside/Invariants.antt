use Rattle.ffi3_place_spec.specs.Standard.{plan_of}
use Rattle.ffi3_transfer.specs.Stored.{image_in}
use Rattle.ffi3_transfer.proofs.Turns.{AreInside}
use Rattle.ffi3_transfer.proofs.collecting.first_outside.Given as goal

abbrev pub invariant-loop-i : goal.invariant-loop-i
invariant-loop-i g l = AreInside (image_in l.registers l.stack) l.base l.placed.arguments (plan_of g.A.Abi.standard l.placed).places l.i
