use Rattle.ffi3_machine_transfer.specs.Passing.{passing}
use Rattle.ffi3_callee.proofs.Moving.{AreMovedTo}
use Rattle.ffi3_callee.proofs.arguments.copy_registers.Given as goal

abbrev pub invariant-loop-i : goal.invariant-loop-i
invariant-loop-i l = AreMovedTo l.base l.to l.pieces l.i (passing l.initial.machine) (passing l.machine)
