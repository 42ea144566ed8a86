use Rattle.std.proofs.Common.{◌≡◌, ◌++◌, drop}
use Rattle.ffi3_capi.specs.Pieces.{arguments_from}
use Rattle.ffi3_capi.proofs.pieces.put_arguments.Given as goal

abbrev pub invariant-loop-i : goal.invariant-loop-i
invariant-loop-i l = l.pieces ++ arguments_from l.isa l.i (drop l.i l.places) ≡ l.initial.pieces ++ arguments_from l.isa 0 l.places
