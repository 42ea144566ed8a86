-- Moves as C has them.
use Rattle.std.specs.Prelude.{ℕ, List, length, drop, ◌++◌, nat_le, cond, map}
use Rattle.ffi3_moves.specs.declared.Kind.{Kind}
use Rattle.ffi3_moves.specs.declared.Kind.TheVariants.{Bytes, Zero, Sign, Ones, Number, Address, Behind}
use Rattle.ffi3_moves.specs.declared.Move.{Move}
use Rattle.ffi3_moves.specs.declared.told.ToldMove.{ToldMove}

abbrev pub kind_number : Kind → ℕ
kind_number Bytes = 0
kind_number Zero = 1
kind_number Sign = 2
kind_number Ones = 3
kind_number Number = 4
kind_number Address = 5
kind_number Behind = 6

abbrev pub told_move : Move → ToldMove
told_move m = record { kind = kind_number m.kind; part = m.part; from = m.from; to = m.to; length = m.length }

-- what a caller's array holds once it was told moves: they stand in front, or nothing of them where they have no room
abbrev pub told_in : List Move → List ToldMove → List ToldMove
told_in ms old = cond (nat_le (length (map told_move ms)) (length old)) (map told_move ms ++ drop (length (map told_move ms)) old) old
