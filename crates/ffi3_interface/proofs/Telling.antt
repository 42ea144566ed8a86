-- What C is answered where it asks for moves, from what the calls say.
use Rattle.std.proofs.Common.{◌≡◌, ◌<◌, ◌≤◌, ◌^◌, ℕ, List, length, map, Bool, sym, subst, ap, ◌∙◌, slice_get, arith}
use Rattle.std.proofs.lemmas.List.{length-map}
use Rattle.std.specs.Prelude.{Option, Some, nat_le}
use Rattle.ffi3_moves.specs.declared.Move.{Move}
use Rattle.ffi3_moves.specs.declared.told.ToldMove.{ToldMove}
use Rattle.ffi3_moves.specs.Told.{told_in, told_move}
use Rattle.ffi3_prepared.specs.declared.Prepared.{Prepared}
use Rattle.ffi3_handle.specs.declared.kept.Kept.{Kept}
use Rattle.ffi3_prepared.specs.Prepared.{signature_in, standard_in}
use Rattle.ffi3_capi.specs.declared.codes.TheConstants.{OUT_OF_MEMORY}
use Rattle.ffi3_capi.specs.Filled.{has_room, filled, room_status}
use Rattle.ffi3_interface.specs.declared.listing.MoveList.{MoveList}
use Rattle.ffi3_interface.specs.Keeping.{interface_in}
use Rattle.ffi3_interface.specs.Listing.{lists, moves_by, told_moves, TellsMoves, told, untold}

not_below : (a b : ℕ) → (a < b → ⊥) → b ≤ a
not_below a b never = grind arith

-- the room of two numbers is that of lists of so many
pub room_is : (count room : ℕ) (fits : Bool) (moves old : List ToldMove) → nat_le count room ≡ fits → count ≡ length moves → room ≡ length old → room_status fits ≡ room_status (has_room moves old)
room_is count room fits moves old test counted has =
    ap room_status (sym test ∙ ap (λ (n : ℕ). nat_le n room) counted ∙ ap (nat_le (length moves)) has)

pub moves_told : {it : Option Kept} {number : ℕ} {old : List ToldMove} (k : Kept) (list : MoveList) (p : Prepared) (new : List ToldMove) (status count room : ℕ) → it ≡ Some k → slice_get lists number ≡ Some list → p ≡ interface_in k → count ≡ length (moves_by (standard_in p) (signature_in p) list) → new ≡ told_in (moves_by (standard_in p) (signature_in p) list) old → room ≡ length old → ((moves ys : List ToldMove) → count ≡ length moves → room ≡ length ys → status ≡ room_status (has_room moves ys)) → TellsMoves it number old status count new
moves_told {it} {number} {old} k list p new status count room is which at counted_moves wrote has answered =
    let moves : List Move = moves_by (standard_in p) (signature_in p) list in
    let found : List ToldMove = map told_move moves in
    let counted : count ≡ length found = counted_moves ∙ sym (length-map moves told_move) in
    let found_is : found ≡ told_moves (interface_in k) list = ap (λ (q : Prepared). told_moves q list) at in
    let base = subst (λ (ms : List ToldMove). TellsMoves it number old (room_status (has_room ms old)) (length ms) (filled ms old)) (sym found_is) (told k list is which) in
    let with_count = subst (λ (n : ℕ). TellsMoves it number old (room_status (has_room found old)) n (filled found old)) (sym counted) base in
    let with_array = subst (λ (ms : List ToldMove). TellsMoves it number old (room_status (has_room found old)) count ms) (sym wrote) with_count in
    subst (λ (n : ℕ). TellsMoves it number old n count new) (sym (answered found old counted has)) with_array

pub untold_as : {it : Option Kept} {number : ℕ} {old : List ToldMove} (k : Kept) (list : MoveList) (p : Prepared) (new : List ToldMove) → it ≡ Some k → slice_get lists number ≡ Some list → p ≡ interface_in k → (length (moves_by (standard_in p) (signature_in p) list) < 2 ^ 64 → ⊥) → new ≡ old → TellsMoves it number old OUT_OF_MEMORY 0 new
untold_as {it} {number} {old} k list p new is which at many same =
    let counted : length (moves_by (standard_in p) (signature_in p) list) ≡ length (told_moves (interface_in k) list) = sym (length-map (moves_by (standard_in p) (signature_in p) list) told_move) ∙ ap (λ (q : Prepared). length (told_moves q list)) at in
    let most : 2 ^ 64 ≤ length (told_moves (interface_in k) list) = subst (λ (n : ℕ). 2 ^ 64 ≤ n) counted (not_below _ (2 ^ 64) many) in
    subst (λ (ms : List ToldMove). TellsMoves it number old OUT_OF_MEMORY 0 ms) (sym same) (untold k list is which most)
