-- Which byte of a value stands where, by the pieces that C is told.
use Rattle.std.specs.Prelude.{◌≡◌, ℕ, ◌+◌, ◌-◌, cond, nat_lt, ◌==◌, List, map}
use Rattle.std.specs.List.{range_with_len, flat_map}
use Rattle.ffi3_type_spec.specs.declared.Isa.{Isa}
use Rattle.ffi3_place_spec.specs.declared.Loc.{Loc}
use Rattle.ffi3_place_spec.specs.declared.Loc.TheVariants.{G, F, S}
use Rattle.ffi3_place_spec.specs.declared.Piece.{Piece}
use Rattle.ffi3_place_spec.specs.MachineRegisters.{significand, sign_and_exponent, upper_half}
use Rattle.ffi3_capi.specs.declared.codes.TheConstants.{ON_STACK, IN_FLOATING, IN_X87}
use Rattle.ffi3_capi.specs.declared.pieces.PlacedPiece.{PlacedPiece}
use Rattle.ffi3_capi.specs.Pieces.{value_piece, joined}

-- a byte of the stack, or of a word of a register
pub record Spot : Type 0 where
  pub loc : Loc
  pub byte : ℕ

-- byte k of a register of two words, the low one first
abbrev pub spot_of_two : Loc → Loc → ℕ → Spot
spot_of_two low high k =
    cond (nat_lt k 8) (record { loc = low; byte = k }) (record { loc = high; byte = k - 8 })

-- byte k of a place with this number
abbrev pub spot_in : (place number k : ℕ) → Spot
spot_in place number k =
    cond (place == ON_STACK) (record { loc = S (number + k) 1; byte = 0 })
    (cond (place == IN_X87) (spot_of_two (significand number) (sign_and_exponent number) k)
    (cond (place == IN_FLOATING) (spot_of_two (F number) (upper_half number) k) (record { loc = G number; byte = k })))

-- a byte of a value of a call, and where it stands
pub record ByteOf : Type 0 where
  pub part : ℕ
  pub holds : ℕ
  pub offset : ℕ
  pub stands : Spot

abbrev pub byte_of : PlacedPiece → ℕ → ByteOf
byte_of p k = record {
  part = p.part;
  holds = p.holds;
  offset = p.offset + k;
  stands = spot_in p.place p.number k;
}

abbrev pub bytes_of : PlacedPiece → List ByteOf
bytes_of p = map (byte_of p) (range_with_len 0 p.length)

-- in the order of the pieces
abbrev pub bytes_told : List PlacedPiece → List ByteOf
bytes_told ps = flat_map bytes_of ps

-- PIECES THAT ARE TOLD AS ONE tell the same bytes of the value at the same places
abbrev pub TellsTheSameBytes : List Piece → Type 0
TellsTheSameBytes pieces =
    (isa : Isa) (part : ℕ) → bytes_told (joined isa (map (value_piece part) pieces)) ≡ bytes_told (map (value_piece part) pieces)
