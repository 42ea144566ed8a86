-- The bytes of pieces that stand in registers, put where they belong in a value.
use Rattle.std.specs.Prelude.{ℕ, ◌+◌, List, [], ◌∷◌, take, slice_index}
use Rattle.std.specs.List.{AllByRecursion, replace_range}
use Rattle.std.specs.Int.{w64, to_le_bytes}
use Rattle.ffi3_place_spec.specs.declared.Loc.{Loc}
use Rattle.ffi3_place_spec.specs.declared.Loc.TheVariants.{G, F, S}
use Rattle.ffi3_place_spec.specs.declared.Piece.{Piece}
use Rattle.ffi3_place_spec.specs.Sound.{IsWithin}
use Rattle.ffi3_machine_spec.specs.State.{State}

-- each piece lies in a value of so many bytes, and has at most eight
abbrev pub AreWithin : ℕ → List Piece → Type 0
AreWithin size pieces = AllByRecursion (IsWithin size) pieces

-- what a register holds
abbrev pub register_of : State → Loc → ℕ
register_of m (G k) = slice_index m.general k
register_of m (F k) = slice_index m.floating k
register_of m (S n w) = 0

-- the low bytes of the piece's register stand at its offset
abbrev pub with_piece : State → Piece → List ℕ → List ℕ
with_piece m p out =
    replace_range out p.off (p.off + p.len) (take p.len (to_le_bytes w64 (register_of m p.loc)))

abbrev pub loaded : State → List Piece → List ℕ → List ℕ
loaded m [] out = out
loaded m (p ∷ ps) out = loaded m ps (with_piece m p out)
