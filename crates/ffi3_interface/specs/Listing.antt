-- The moves that C is told of an interface.
use Rattle.std.specs.Prelude.{◌≡◌, ◌≤◌, ◌^◌, ℕ, List, [], ◌∷◌, length, map, Option, Some, None, slice_get}
use Rattle.ffi3_type_spec.specs.Signature.{Signature}
use Rattle.ffi3_place_spec.specs.Standard.{Standard}
use Rattle.ffi3_moves.specs.declared.Move.{Move}
use Rattle.ffi3_moves.specs.declared.told.ToldMove.{ToldMove}
use Rattle.ffi3_moves.specs.Told.{told_move}
use Rattle.ffi3_moves.specs.Moves.{store_moves, load_moves, collect_moves, give_moves, hidden_move, moves_of}
use Rattle.ffi3_prepared.specs.declared.Prepared.{Prepared}
use Rattle.ffi3_prepared.specs.Prepared.{signature_in, standard_in}
use Rattle.ffi3_handle.specs.declared.kept.Kept.{Kept}
use Rattle.ffi3_capi.specs.declared.codes.TheConstants.{UNKNOWN_VALUE, OUT_OF_MEMORY, NOT_PREPARED}
use Rattle.ffi3_capi.specs.Filled.{has_room, filled, room_status}
use Rattle.ffi3_interface.specs.declared.listing.MoveList.{MoveList}
use Rattle.ffi3_interface.specs.declared.listing.MoveList.TheVariants.{Store, Load, Collect, Give, Hidden}
use Rattle.ffi3_interface.specs.Keeping.{interface_in}

-- by number, from 0
abbrev pub lists : List MoveList
lists = Store ∷ Load ∷ Collect ∷ Give ∷ Hidden ∷ []

abbrev pub moves_by : Standard → Signature → MoveList → List Move
moves_by std s Store = store_moves std s
moves_by std s Load = load_moves std s
moves_by std s Collect = collect_moves std s
moves_by std s Give = give_moves std s
moves_by std s Hidden = moves_of (hidden_move std s)

-- THE MOVES of a list, as C has them
abbrev pub told_moves : Prepared → MoveList → List ToldMove
told_moves p list = map told_move (moves_by (standard_in p) (signature_in p) list)

-- WHAT ffi3_moves ANSWERS, how many moves it says there are, and what it writes into the caller's array. 2^64 moves and more are none that it could count.
pub data TellsMoves (it : Option Kept) (number : ℕ) (old : List ToldMove) : ℕ → ℕ → List ToldMove → Type 0 where
  told : (k : Kept) (list : MoveList) → it ≡ Some k → slice_get lists number ≡ Some list
      → TellsMoves it number old (room_status (has_room (told_moves (interface_in k) list) old))
      (length (told_moves (interface_in k) list)) (filled (told_moves (interface_in k) list) old)
  untold : (k : Kept) (list : MoveList) → it ≡ Some k → slice_get lists number ≡ Some list
      → 2 ^ 64 ≤ length (told_moves (interface_in k) list) → TellsMoves it number old OUT_OF_MEMORY 0 old
  nothing : (list : MoveList) → it ≡ None → slice_get lists number ≡ Some list
      → TellsMoves it number old NOT_PREPARED 0 old
  unknown : slice_get lists number ≡ None → TellsMoves it number old UNKNOWN_VALUE 0 old
