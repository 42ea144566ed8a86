use Rattle.ffi3_place_spec.specs.Standard.{plan_of}
use Rattle.ffi3_transfer.specs.Stored.{image_in}
use Rattle.ffi3_capi.proofs.OneByOne.{AreFront}
use Rattle.ffi3_capi.proofs.each.see_arguments.Given as goal

abbrev pub invariant-loop-i : goal.invariant-loop-i
invariant-loop-i g l = AreFront (image_in l.registers l.stack) l.base l.placed.arguments (plan_of g.A.Abi.standard l.placed).places l.i l.bytes l.each
