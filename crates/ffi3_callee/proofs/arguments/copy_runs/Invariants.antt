use Rattle.std.specs.Prelude.{drop}
use Rattle.ffi3_machine_transfer.specs.Passing.{passing}
use Rattle.ffi3_callee.specs.Moved.{AreRunsMoved}
use Rattle.ffi3_callee.proofs.arguments.copy_runs.Given as goal

abbrev pub invariant-loop-i : goal.invariant-loop-i
invariant-loop-i l = AreRunsMoved l.fn.base l.to (drop l.i l.runs) (passing l.initial.machine) (passing l.machine)
