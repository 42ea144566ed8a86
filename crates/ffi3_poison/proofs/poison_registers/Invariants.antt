use Rattle.ffi3_poison.specs.Overwritten.{AreRegistersDone}
use Rattle.ffi3_poison.proofs.poison_registers.Given as goal

abbrev pub invariant-loop-k : goal.invariant-loop-k
invariant-loop-k g l = AreRegistersDone g.A.Abi.standard l.cif l.base l.byte l.k l.initial.machine l.machine
