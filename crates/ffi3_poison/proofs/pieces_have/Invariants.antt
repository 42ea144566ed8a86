use Rattle.std.specs.Prelude.{false}
use Rattle.std.specs.List.{list_any}
use Rattle.std.proofs.Common.{◌≡◌, take}
use Rattle.ffi3_poison.specs.Poison.{piece_has}
use Rattle.ffi3_poison.proofs.pieces_have.Given as goal

abbrev pub invariant-loop-i : goal.invariant-loop-i
invariant-loop-i l = list_any (piece_has l.ty l.at l.k) (take l.i l.pieces) ≡ false
