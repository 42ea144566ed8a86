-- A piece that is stored over what is read from its place.
use Rattle.std.proofs.Common.{◌≡◌, ℕ, ◌+◌, ◌-◌, ◌≤◌, inl, inr, List, length, ap, ◌∙◌, arith}
use Rattle.std.proofs.lemmas.Bool.{cases_lt}
use Rattle.ffi3_type_spec.specs.Tree.{Tree}
use Rattle.ffi3_type_spec.specs.Value.{ValueTree, IsWritten}
use Rattle.ffi3_place_spec.specs.declared.Piece.{Piece}
use Rattle.ffi3_machine_spec.specs.State.{State}
use Rattle.ffi3_machine_transfer.specs.Stored.{byte_of, IsPieceLoaded, IsSetAndFilled, IsStored}
use Rattle.ffi3_machine_transfer.proofs.Reading.{piece_held}

-- what stood there is read, the value is written over it, and the piece is put back
pub piece_stored : (base : ℕ) (t : Tree) (v : ValueTree) (first loaded bytes : List ℕ) (p : Piece) (old new : State) → p.off + p.len ≤ length loaded → IsPieceLoaded base old p first loaded → IsWritten t v loaded bytes → IsSetAndFilled base t v bytes p old new → IsStored base t v p old new
piece_stored base t v first loaded bytes p old new fits was written is = record {
  stands = (piece_held base new t v bytes p written.reads_back is.held, is.filled);
  unused = λ free k below none.
      elim (cases_lt k p.len) [
        | inl inside ↦
            let back : p.off + k - p.off ≡ k = omega arith in
            is.held k inside ∙ written.padding_stays (p.off + k) (omega (arith, fits, inside)) (none inside) ∙ was.here (p.off + k) (omega arith, omega (arith, inside)) ∙ ap (byte_of base old p.loc) back
        | inr above ↦ is.kept free k above below
      ];
  stays = is.stays;
  within = is.within;
}
