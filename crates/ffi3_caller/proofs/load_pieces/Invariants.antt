use Rattle.ffi3_machine_transfer.specs.Passing.{passing}
use Rattle.ffi3_caller.proofs.Loading.{IsLeftToLoad}
use Rattle.ffi3_caller.proofs.load_pieces.Given as goal

abbrev pub invariant-loop-i : goal.invariant-loop-i
invariant-loop-i l = IsLeftToLoad (passing l.machine) l.pieces l.fn.out l.i l.out
