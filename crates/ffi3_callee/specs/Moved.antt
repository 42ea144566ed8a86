-- An argument's bytes that are moved from their places to a copy of the argument.
use Rattle.std.specs.Prelude.{◌≡◌, ℕ, ◌+◌, ◌-◌, ◌⊎◌, Bool, true, false, List, [], ◌∷◌}
use Rattle.std.specs.List.{AllByRecursion}
use Rattle.ffi3_place_spec.specs.declared.Loc.{Loc}
use Rattle.ffi3_place_spec.specs.declared.Loc.TheVariants.{G, F, S}
use Rattle.ffi3_place_spec.specs.declared.Piece.{Piece}
use Rattle.ffi3_place_spec.specs.Holds.{Carries}
use Rattle.ffi3_cif.specs.declared.runs.Run.{Run}
use Rattle.ffi3_cif.specs.Runs.{OneCopies}
use Rattle.ffi3_machine_spec.specs.State.{State}
use Rattle.ffi3_place_spec.specs.Sound.{IsWithin}
use Rattle.ffi3_machine_transfer.specs.Stored.{WroteOnly, byte_of, stack_byte}
use Rattle.ffi3_machine_transfer.specs.Runs.{RunLies}
use Rattle.ffi3_callee.specs.Loaded.{HaveByte}

-- each byte of a run stands at its offset of the copy at `to`
pub record AreRunsMoved (base to : ℕ) (runs : List Run) (old new : State) : Type 0 where
  pub copied : (at off : ℕ) → OneCopies at off runs → stack_byte new (to + off) ≡ stack_byte old (base + at)
  pub only : (room size : ℕ) → AllByRecursion (RunLies room size) runs → WroteOnly to (to + size) old new

abbrev pub is_on_stack : Loc → Bool
is_on_stack (S n w) = true
is_on_stack (G r) = false
is_on_stack (F r) = false

-- the piece stands in a register, and has the byte at offset o
abbrev pub CarriesInRegister : ℕ → Piece → Type 0
CarriesInRegister o p = (is_on_stack p.loc ≡ false) × Carries o p

abbrev pub OneCarriesInRegister : ℕ → List Piece → Type 0
OneCarriesInRegister o [] = ⊥
OneCarriesInRegister o (p ∷ ps) = CarriesInRegister o p ⊎ OneCarriesInRegister o ps

-- a piece in a register stands at its offset of the copy at `to`, and the copy's other bytes stay
pub record IsPieceMoved (base to : ℕ) (p : Piece) (old new : State) : Type 0 where
  pub here : (o : ℕ) → CarriesInRegister o p → stack_byte new (to + o) ≡ byte_of base old p.loc (o - p.off)
  pub others : (o : ℕ) → CarriesInRegister o p ⊎ (stack_byte new (to + o) ≡ stack_byte old (to + o))
  pub only : (size : ℕ) → IsWithin size p → WroteOnly to (to + size) old new

-- each byte that a piece in a register carries, and all in the same way, stands at its offset of the copy; one that stood there before still does
pub record ArePiecesMoved (base to : ℕ) (pieces : List Piece) (old new : State) : Type 0 where
  pub right : (o x : ℕ) → HaveByte base old o x pieces → OneCarriesInRegister o pieces ⊎ (stack_byte old (to + o) ≡ x)
      → stack_byte new (to + o) ≡ x
  pub only : (size : ℕ) → AllByRecursion (IsWithin size) pieces → WroteOnly to (to + size) old new
