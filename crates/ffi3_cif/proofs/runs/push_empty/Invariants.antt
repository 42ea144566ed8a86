use Rattle.std.proofs.Common.{◌≡◌, ◌++◌, [], replicate}
use Rattle.ffi3_cif.proofs.runs.push_empty.Given as goal

abbrev pub invariant-loop-k : goal.invariant-loop-k
invariant-loop-k l = l.listed ≡ l.initial.listed ++ replicate l._k []
