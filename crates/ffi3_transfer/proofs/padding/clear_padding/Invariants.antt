use Rattle.ffi3_transfer.proofs.Cleared.{AreCleared}
use Rattle.ffi3_transfer.proofs.padding.clear_padding.Given as goal

abbrev pub invariant-loop-k : goal.invariant-loop-k
invariant-loop-k l = AreCleared l.ty l.fn.out l.k l.end l.out
