use Rattle.std.proofs.Common.{◌≡◌, ◌+◌, drop, map}
use Rattle.std.proofs.lemmas.List.Edits.{sets}
use Rattle.ffi3_moves.specs.Moves.{pieces_in}
use Rattle.ffi3_moves.specs.Told.{told_move}
use Rattle.ffi3_moves.proofs.told.put_pieces_in.Given as goal

abbrev pub invariant-loop-j : goal.invariant-loop-j
invariant-loop-j l =
    sets l.told (l.at + l.j) (map told_move (pieces_in l.part l.from l.ty (drop l.j l.pieces))) ≡ sets l.initial.told l.at (map told_move (pieces_in l.part l.from l.ty l.pieces))
