use Rattle.std.proofs.Common.{◌<◌}
use Rattle.std.specs.Prelude.{◌^◌}
use Rattle.ffi3_explain.proofs.Ends.{IsPieceEnd}
use Rattle.ffi3_explain.proofs.reach.pieces_end.Given as goal

abbrev pub invariant-loop-j : goal.invariant-loop-j
invariant-loop-j l = IsPieceEnd l.pieces l.j l.end × (l.end < 2 ^ 33)
