use Rattle.std.proofs.Common.{◌≡◌, ◌++◌, map, drop}
use Rattle.ffi3_capi.specs.Pieces.{value_piece, joined_to, joined}
use Rattle.ffi3_capi.proofs.pieces.join.Given as goal

abbrev pub invariant-loop-k : goal.invariant-loop-k
invariant-loop-k l = l.pieces ++ joined_to l.isa l.piece (map (value_piece l.part) (drop l.k l.from)) ≡ l.initial.pieces ++ joined l.isa (map (value_piece l.part) l.from)
