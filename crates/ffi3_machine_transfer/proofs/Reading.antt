-- The bytes of a value, one by one, and the piece that has them.
use Rattle.std.proofs.Common.{◌≡◌, ℕ, ◌+◌, List, [], ◌∷◌, get_or, ap, sym, ◌∙◌, subst}
use Rattle.ffi3_type_spec.specs.Tree.{Tree}
use Rattle.ffi3_type_spec.specs.Layout.{Leaf, leaves_of}
use Rattle.ffi3_type_spec.specs.Value.{ValueTree, value_in}
use Rattle.ffi3_place_spec.specs.declared.Piece.{Piece}
use Rattle.ffi3_place_spec.specs.Holds.{leaf_bytes}
use Rattle.ffi3_place_spec.proofs.Reading.{LeavesRead, leaves_read}
use Rattle.ffi3_machine_spec.specs.State.{State}
use Rattle.ffi3_machine_transfer.specs.Stored.{HasLeaves, HasPiece, IsByteOf}

byte_read : (out : List ℕ) (ls : List Leaf) (bs : List (List ℕ)) (o : ℕ) → LeavesRead out ls bs → IsByteOf ls bs o (get_or out o 0)
byte_read out [] [] o r = tt
byte_read out [] (b ∷ bs) o r = tt
byte_read out (l ∷ ls) [] o r = tt
byte_read out (l ∷ ls) (b ∷ bs) o r =
    (λ k h e. ap (λ i. get_or out i 0) (sym e) ∙ r.0 k h, byte_read out ls bs o r.1)

pub value_byte : (t : Tree) (v : ValueTree) (out : List ℕ) (o : ℕ) → value_in t out ≡ v → IsByteOf (leaves_of t) (leaf_bytes v) o (get_or out o 0)
value_byte t v out o is = subst (λ u. IsByteOf (leaves_of t) (leaf_bytes u) o (get_or out o 0)) is (byte_read out (leaves_of t) (leaf_bytes (value_in t out)) o (leaves_read t out))

-- a piece that has the bytes of a value has its leaves
pub piece_held : (base : ℕ) (m : State) (t : Tree) (v : ValueTree) (bytes : List ℕ) (p : Piece) → value_in t bytes ≡ v → HasPiece base m bytes p → HasLeaves base m t v p
piece_held base m t v bytes p is held = λ k h. subst (IsByteOf (leaves_of t) (leaf_bytes v) (p.off + k)) (sym (held k h)) (value_byte t v bytes (p.off + k) is)
