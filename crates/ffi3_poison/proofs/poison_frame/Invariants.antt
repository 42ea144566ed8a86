use Rattle.ffi3_poison.specs.Overwritten.{IsFrameDone}
use Rattle.ffi3_poison.proofs.poison_frame.Given as goal

abbrev pub invariant-loop-n : goal.invariant-loop-n
invariant-loop-n g l = IsFrameDone g.A.Abi.standard l.cif l.fn.base l.byte l.n l.initial.machine l.machine
