use Rattle.ffi3_amd64.specs.Flat.{IsWalked}
use Rattle.ffi3_amd64.proofs.flat.walk_over.Given as goal

abbrev pub invariant-loop-i : goal.invariant-loop-i
invariant-loop-i l = IsWalked l.walk l.fields l.i
