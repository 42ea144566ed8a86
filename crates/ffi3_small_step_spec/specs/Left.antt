-- Where a run stands that was interrupted, and which closures and moves are left to it.
use Rattle.std.specs.Prelude.{◌≡◌, ℕ, suc, ◌-◌, ⊤, ◌⊎◌, List, take, Bool, true, false}
use Rattle.ffi3_semantics_spec.specs.Closures.{Closures}
use Rattle.ffi3_semantics_spec.specs.Meaning.{Program}
use Rattle.ffi3_semantics_spec.specs.Trace.{TraceItem}
use Rattle.ffi3_small_step_spec.specs.Remainder.{Bottom, before, rest}
use Rattle.ffi3_small_step_spec.specs.Path.{Position, IsOnPath, happens_next}

-- in a move: in the lines of what happens in it, or once the event of that is recorded
abbrev pub in_a_move : (in_line recorded : Bool) → Bool
in_a_move in_line true = true
in_a_move in_line false = in_line

-- so many moves are left of those that are left there: in the next move one fewer, and none at the limit; before it all of them, or one fewer where it was counted already
abbrev pub AreMovesLeft : (in_move : Bool) → (there left : ℕ) → Type 0
AreMovesLeft true there left = left ≡ there - 1
AreMovesLeft false there left = (left ≡ there) ⊎ (there ≡ suc left)

-- in a move, what comes later begins with what happens in that
abbrev pub BeginsWith : (in_move : Bool) → (next later : List TraceItem) → Type 0
BeginsWith true next later = next ≡ take 1 later
BeginsWith false next later = ⊤

-- WHERE AN INTERRUPTED RUN STANDS, and what is left to do: along its path it has come to a position, with this done, and from there all that was left at its start goes on. The closures are those of the position, and the moves left are its own but for the one that was counted last. In a move, that is the next one there, and not done.
pub record IsLeft (p : Program) (bottom : Bottom) (start : Position) (in_move : Bool) (done later : List TraceItem)
    (closures : Closures) (moves : ℕ) : Type 0 where
  pub at : Position
  pub path : IsOnPath p bottom start done at
  pub follows : rest p bottom start.call_stack start.closures start.moves
      ≡ before done (rest p bottom at.call_stack at.closures at.moves)
  pub closures_are : closures ≡ at.closures
  pub moves_are : AreMovesLeft in_move at.moves moves
  pub next : BeginsWith in_move (happens_next p bottom at) later
