use Rattle.ffi3_place_spec.specs.Standard.{plan_of, frame_of}
use Rattle.ffi3_transfer.specs.Stored.{image_in}
use Rattle.ffi3_transfer.proofs.Arguments.{AllStored}
use Rattle.ffi3_transfer.proofs.storing.store_arguments.Given as goal

abbrev pub invariant-loop-i : goal.invariant-loop-i
invariant-loop-i g l = AllStored g.A.Abi.standard.link g.A.Abi.standard.target (frame_of g.A.Abi.standard l.placed) l.placed.arguments (plan_of g.A.Abi.standard l.placed).places l.values l.i l.at (image_in l.initial.registers l.initial.stack) (image_in l.registers l.stack)
