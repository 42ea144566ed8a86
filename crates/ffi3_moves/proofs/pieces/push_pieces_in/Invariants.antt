use Rattle.std.proofs.Common.{◌≡◌, ◌++◌, take}
use Rattle.ffi3_moves.specs.Moves.{pieces_in}
use Rattle.ffi3_moves.proofs.pieces.push_pieces_in.Given as goal

abbrev pub invariant-loop-j : goal.invariant-loop-j
invariant-loop-j l = l.moves ≡ l.initial.moves ++ pieces_in l.part l.at l.ty (take l.j l.pieces)
