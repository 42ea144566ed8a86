-- Where everything stands in a call, piece by piece, as C is told it.
use Rattle.std.specs.Prelude.{ℕ, ◌+◌, Bool, true, false, cond, nat_lt, ◌&&◌, ◌==◌, List, [], ◌∷◌, ◌++◌, map, Option, Some, None}
use Rattle.ffi3_type_spec.specs.declared.Isa.{Isa}
use Rattle.ffi3_type_spec.specs.declared.Isa.TheVariants.{Amd64, Aarch64, Riscv as RiscvIsa}
use Rattle.ffi3_type_spec.specs.TargetIsa.{isa_of}
use Rattle.ffi3_type_spec.specs.Signature.{Signature}
use Rattle.ffi3_place_spec.specs.declared.Loc.{Loc}
use Rattle.ffi3_place_spec.specs.declared.Loc.TheVariants.{G, F, S}
use Rattle.ffi3_place_spec.specs.declared.Ext.{Ext}
use Rattle.ffi3_place_spec.specs.declared.Ext.TheVariants.{Free, Widen, Riscv, Boxed}
use Rattle.ffi3_place_spec.specs.declared.Piece.{Piece}
use Rattle.ffi3_place_spec.specs.declared.Place.{Place}
use Rattle.ffi3_place_spec.specs.declared.Place.TheVariants.{Direct, ByRef}
use Rattle.ffi3_place_spec.specs.declared.Res.{Res}
use Rattle.ffi3_place_spec.specs.declared.Res.TheVariants.{Nothing, Direct as DirectRes, Hidden}
use Rattle.ffi3_place_spec.specs.MachineRegisters.{significand, sign_and_exponent, upper_half}
use Rattle.ffi3_place_spec.specs.Locs.{place_size}
use Rattle.ffi3_place_spec.specs.Standard.{Standard, plan_of}
use Rattle.ffi3_capi.specs.declared.codes.TheConstants.{RESULT_PART, HIDDEN_PART, HOLDS_BYTES, HOLDS_ADDRESS}
use Rattle.ffi3_capi.specs.declared.codes.TheConstants.{IN_GENERAL, IN_FLOATING, ON_STACK, IN_X87, REST_FREE, REST_EXTENDED}
use Rattle.ffi3_capi.specs.declared.codes.TheConstants.{REST_EXTENDED_BY_32, REST_ONES, REST_NONE, ADDRESS_BYTES}
use Rattle.ffi3_capi.specs.declared.pieces.PlacedPiece.{PlacedPiece}

abbrev pub place_of : Loc → ℕ
place_of (G r) = IN_GENERAL
place_of (F r) = IN_FLOATING
place_of (S n w) = ON_STACK

-- a register's number, or the offset from the first stack argument
abbrev pub number_of : Loc → ℕ
number_of (G r) = r
number_of (F r) = r
number_of (S n w) = n

-- what fills the rest of a place of eight bytes
abbrev pub rest_by : Ext → ℕ
rest_by Free = REST_FREE
rest_by Widen = REST_EXTENDED
rest_by Riscv = REST_EXTENDED_BY_32
rest_by Boxed = REST_ONES

-- a place of fewer bytes has no rest
abbrev pub is_packed : Loc → Bool
is_packed at = nat_lt (place_size at) 8

abbrev pub rest_of : Loc → Ext → ℕ
rest_of at e = cond (is_packed at) REST_NONE (rest_by e)

-- bytes of an argument or of the result
abbrev pub value_piece : ℕ → Piece → PlacedPiece
value_piece part p = record {
  part = part;
  holds = HOLDS_BYTES;
  place = place_of p.loc;
  number = number_of p.loc;
  offset = p.off;
  length = p.len;
  rest = rest_of p.loc p.ext;
}

-- the address of what stands so many bytes from the start of the caller's frame
abbrev pub address_piece : ℕ → Loc → ℕ → PlacedPiece
address_piece part at frame = record {
  part = part;
  holds = HOLDS_ADDRESS;
  place = place_of at;
  number = number_of at;
  offset = frame;
  length = ADDRESS_BYTES;
  rest = REST_FREE;
}

-- ---- the bytes of one register, and bytes on the stack, in as few pieces as they make

-- the second stands on the stack right behind the first, and has the bytes of the value that follow
abbrev pub goes_on : PlacedPiece → PlacedPiece → Bool
goes_on p n =
    (p.place == ON_STACK) && (n.place == ON_STACK)
    && (p.number + p.length == n.number) && (p.offset + p.length == n.offset)

-- the rest is that of the last
abbrev pub longer : PlacedPiece → PlacedPiece → PlacedPiece
longer p n = record p { length = p.length + n.length; rest = n.rest }

-- both stand in the floating file, and the second has the bytes of the value that follow the first's eight
abbrev pub is_above : PlacedPiece → PlacedPiece → Bool
is_above p n =
    (p.place == IN_FLOATING) && (n.place == IN_FLOATING) && (p.length == 8) && (p.offset + 8 == n.offset)

-- the first has the lower half of a vector register, and the second its upper half
abbrev pub is_upper_half : PlacedPiece → PlacedPiece → Bool
is_upper_half p n =
    is_above p n && (n.length == 8) && (n.number == number_of (upper_half p.number))

-- the whole vector register, by the number of its lower half
abbrev pub whole_vector : PlacedPiece → PlacedPiece → PlacedPiece
whole_vector p n = record p { length = 16; rest = n.rest }

-- only AMD64 has x87 registers (System V psABI AMD64 3.2.1)
abbrev pub has_x87 : Isa → Bool
has_x87 Amd64 = true
has_x87 Aarch64 = false
has_x87 RiscvIsa = false

-- the first has the significand of the x87 register with this number, and the second its sign and exponent
abbrev pub is_x87 : Isa → ℕ → PlacedPiece → PlacedPiece → Bool
is_x87 isa k p n =
    has_x87 isa && is_above p n && (n.length == 2) && (p.number == number_of (significand k))
    && (n.number == number_of (sign_and_exponent k))

-- the whole x87 register
abbrev pub whole_x87 : ℕ → PlacedPiece → PlacedPiece → PlacedPiece
whole_x87 k p n = record p { place = IN_X87; number = k; length = 10; rest = n.rest }

-- a piece of an instruction set's machine, and those behind it
abbrev pub joined_to : Isa → PlacedPiece → List PlacedPiece → List PlacedPiece
joined_to isa p [] = p ∷ []
joined_to isa p (n ∷ ns) =
    cond (goes_on p n) (joined_to isa (longer p n) ns)
    (cond (is_upper_half p n) (joined_to isa (whole_vector p n) ns)
    (cond (is_x87 isa 0 p n) (joined_to isa (whole_x87 0 p n) ns)
    (cond (is_x87 isa 1 p n) (joined_to isa (whole_x87 1 p n) ns) (p ∷ joined_to isa n ns))))

abbrev pub joined : Isa → List PlacedPiece → List PlacedPiece
joined isa [] = []
joined isa (p ∷ ps) = joined_to isa p ps

-- ---- a whole call

abbrev pub argument_pieces : Isa → ℕ → Place → List PlacedPiece
argument_pieces isa i (Direct pieces) = joined isa (map (value_piece i) pieces)
argument_pieces isa i (ByRef at copy) = address_piece i at copy ∷ []

-- those of the arguments from number i on
abbrev pub arguments_from : Isa → ℕ → List Place → List PlacedPiece
arguments_from isa i [] = []
arguments_from isa i (p ∷ ps) = argument_pieces isa i p ++ arguments_from isa (i + 1) ps

-- the address of the result's buffer, where it is passed
abbrev pub hidden_pieces : Res → List PlacedPiece
hidden_pieces Nothing = []
hidden_pieces (DirectRes pieces) = []
hidden_pieces (Hidden at buffer) = address_piece HIDDEN_PART at buffer ∷ []

-- and where it is returned
abbrev pub returned_address : Option Loc → ℕ → List PlacedPiece
returned_address None buffer = []
returned_address (Some at) buffer = address_piece RESULT_PART at buffer ∷ []

abbrev pub returned_pieces : Isa → Option Loc → Res → List PlacedPiece
returned_pieces isa register Nothing = []
returned_pieces isa register (DirectRes pieces) = joined isa (map (value_piece RESULT_PART) pieces)
returned_pieces isa register (Hidden at buffer) = returned_address register buffer

-- WHAT A CALLER PASSES: arguments by their numbers, then the address of the result's buffer
abbrev pub passed_of : Standard → Signature → List PlacedPiece
passed_of std s =
    arguments_from (isa_of std.target) 0 (plan_of std s).places ++ hidden_pieces (plan_of std s).res

-- AND WHAT IT IS GIVEN BACK
abbrev pub returned_of : Standard → Signature → List PlacedPiece
returned_of std s =
    returned_pieces (isa_of std.target) std.returned_address (plan_of std s).res
