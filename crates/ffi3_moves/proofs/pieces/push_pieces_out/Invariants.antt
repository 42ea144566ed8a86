use Rattle.std.proofs.Common.{◌≡◌, ◌++◌, drop}
use Rattle.ffi3_moves.specs.Moves.{pieces_out}
use Rattle.ffi3_moves.proofs.pieces.push_pieces_out.Given as goal

abbrev pub invariant-loop-j : goal.invariant-loop-j
invariant-loop-j l = l.moves ≡ l.initial.moves ++ pieces_out l.part l.at (drop l.j l.pieces)
