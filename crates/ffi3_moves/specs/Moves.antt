-- The moves of a call, by the places of its plan: those of its caller and of its callee, for arguments and for the result. Values stand one after another, each from a multiple of 8 on. (No standard has moves: each place and what fills it are the standard's own, and `Laws` says of these lists, when they are played, what the standard asks for.)
use Rattle.std.specs.Prelude.{ℕ, ◌+◌, ◌*◌, Bool, ◌||◌, ◌==◌, cond, List, [], ◌∷◌, ◌++◌, map, Option, Some, None, option_map}
use Rattle.ffi3_type_spec.specs.Tree.{Tree, Scalar}
use Rattle.ffi3_type_spec.specs.Layout.{size_of, scalar_size}
use Rattle.ffi3_type_spec.specs.Integer.{is_signed, scalar_of}
use Rattle.ffi3_type_spec.specs.Signature.{Signature}
use Rattle.ffi3_place_spec.specs.declared.Loc.{Loc}
use Rattle.ffi3_place_spec.specs.declared.Loc.TheVariants.{G, F, S}
use Rattle.ffi3_place_spec.specs.declared.Ext.{Ext}
use Rattle.ffi3_place_spec.specs.declared.Ext.TheVariants.{Free, Widen, Riscv, Boxed}
use Rattle.ffi3_place_spec.specs.declared.Piece.{Piece}
use Rattle.ffi3_place_spec.specs.declared.Place.{Place}
use Rattle.ffi3_place_spec.specs.declared.Place.TheVariants.{Direct, ByRef}
use Rattle.ffi3_place_spec.specs.declared.Res.{Res}
use Rattle.ffi3_place_spec.specs.declared.Res.TheVariants.{Nothing, Direct as DirectRes, Hidden}
use Rattle.ffi3_place_spec.specs.Standard.{Standard, plan_of, round8}
use Rattle.ffi3_moves.specs.declared.Kind.{Kind}
use Rattle.ffi3_moves.specs.declared.Kind.TheVariants.{Bytes, Zero, Sign, Ones, Number, Address, Behind}
use Rattle.ffi3_moves.specs.declared.Move.{Move}
use Rattle.ffi3_moves.specs.declared.kinds.Way.{Way}
use Rattle.ffi3_moves.specs.declared.kinds.Way.TheVariants.{In, Out}
use Rattle.ffi3_moves.specs.Play.{frame_at}

-- where a place stands in an exchange: a register's as the stubs have it, with AMD64's st(0) and st(1) at 384 to 415 by the numbers of their words; the upper halves of AArch64's v0 to v7 by theirs at 512 to 575, where stubs keep addresses, since no stub moves them; a stack place behind the start of the frame
abbrev pub exchange_at : Loc → ℕ
exchange_at (G r) = 8 * r
exchange_at (F r) = 256 + 8 * r
exchange_at (S n w) = frame_at + n

-- by the sign of an integer's type
abbrev pub by_sign : Bool → Kind
by_sign signed = cond signed Sign Zero

-- how the rest of a piece's place is filled; on RISC-V an integer of 32 bits is extended by its upper bit, whatever its sign (RISC-V ELF psABI, "Integer Calling Convention": "widened according to the sign of their type up to 32 bits, then sign-extended to XLEN bits"; "Hardware Floating-point Calling Convention": a narrower float is NaN-boxed)
abbrev pub filling : Ext → Scalar → Kind
filling Free s = Bytes
filling Widen s = by_sign (is_signed s)
filling Riscv s = by_sign (is_signed s || (scalar_size s == 4))
filling Boxed s = Ones

-- ---- values to places, and back; that of argument i stands at an offset of the values

abbrev pub piece_in : ℕ → ℕ → Tree → Piece → Move
piece_in i at t p = record {
  kind = filling p.ext (scalar_of t);
  part = i;
  from = at + p.off;
  to = exchange_at p.loc;
  length = p.len;
}

abbrev pub piece_out : ℕ → ℕ → Piece → Move
piece_out i at p = record { kind = Bytes; part = i; from = exchange_at p.loc; to = at + p.off; length = p.len }

abbrev pub pieces_in : ℕ → ℕ → Tree → List Piece → List Move
pieces_in i at t ps = map (piece_in i at t) ps

-- from the last to the first: of two pieces that have a byte the first tells it, as of a variadic double, which stands in a vector register and in a general one (Microsoft, "Varargs")
abbrev pub pieces_out : ℕ → ℕ → List Piece → List Move
pieces_out i at [] = []
pieces_out i at (p ∷ ps) = pieces_out i at ps ++ piece_out i at p ∷ []

-- an argument by reference: the value goes to its copy in the frame, whose address goes to its place
abbrev pub copy_in : ℕ → ℕ → Tree → ℕ → Move
copy_in i at t copy = record { kind = Bytes; part = i; from = at; to = frame_at + copy; length = size_of t }

abbrev pub address_in : ℕ → Loc → ℕ → Move
address_in i l copy = record { kind = Address; part = i; from = copy; to = exchange_at l; length = 8 }

abbrev pub argument_in : ℕ → ℕ → Tree → Place → List Move
argument_in i at t (Direct pieces) = pieces_in i at t pieces
argument_in i at t (ByRef l copy) = copy_in i at t copy ∷ address_in i l copy ∷ []

-- and back: from the address that its place has
abbrev pub copy_out : ℕ → ℕ → Tree → Loc → Move
copy_out i at t l = record { kind = Behind; part = i; from = exchange_at l; to = at; length = size_of t }

abbrev pub argument_out : ℕ → ℕ → Tree → Place → List Move
argument_out i at t (Direct pieces) = pieces_out i at pieces
argument_out i at t (ByRef l copy) = copy_out i at t l ∷ []

-- by the way that they go
abbrev pub argument_moves : Way → ℕ → ℕ → Tree → Place → List Move
argument_moves In = argument_in
argument_moves Out = argument_out

-- those of the arguments from number i on
abbrev pub arguments_moves : Way → ℕ → ℕ → List Tree → List Place → List Move
arguments_moves way i at (t ∷ ts) (p ∷ ps) = argument_moves way i at t p ++ arguments_moves way (i + 1) (at + round8 (size_of t)) ts ps
arguments_moves way i at _ _ = []

abbrev pub arguments_in : ℕ → ℕ → List Tree → List Place → List Move
arguments_in = arguments_moves In

abbrev pub arguments_out : ℕ → ℕ → List Tree → List Place → List Move
arguments_out = arguments_moves Out

-- the number of vector registers, where a register tells it (System V psABI AMD64 3.2.3, "Parameter Passing": %al)
abbrev pub count_in : Option Loc → ℕ → List Move
count_in (Some l) n = record { kind = Number; part = 0; from = n; to = exchange_at l; length = 8 } ∷ []
count_in None n = []

-- ---- the four lists

-- THE CALLER'S ARGUMENTS, from the values to the exchange at the callee's entry
abbrev pub store_moves : Standard → Signature → List Move
store_moves std s = arguments_in 0 0 s.arguments (plan_of std s).places ++ count_in std.vector_count (plan_of std s).vectors

-- THE CALLER'S RESULT, from the exchange at the return
abbrev pub result_out : Tree → Res → List Move
result_out t Nothing = []
result_out t (DirectRes pieces) = pieces_out 0 0 pieces
result_out t (Hidden l buffer) = record { kind = Bytes; part = 0; from = frame_at + buffer; to = 0; length = size_of t } ∷ []

abbrev pub load_moves : Standard → Signature → List Move
load_moves std s = result_out s.result_type (plan_of std s).res

-- THE CALLEE'S ARGUMENTS, from the exchange at the entry
abbrev pub collect_moves : Standard → Signature → List Move
collect_moves std s = arguments_out 0 0 s.arguments (plan_of std s).places

-- THE CALLEE'S RESULT, to the exchange at the return; a hidden one goes to where its address points, by no move
abbrev pub result_in : Tree → Res → List Move
result_in t Nothing = []
result_in t (DirectRes pieces) = pieces_in 0 0 t pieces
result_in t (Hidden l buffer) = []

abbrev pub give_moves : Standard → Signature → List Move
give_moves std s = result_in s.result_type (plan_of std s).res

-- ---- a hidden result, apart from the lists

-- the address of the buffer that the frame has for it, to its place; a caller with a buffer of its own puts the address of that there
abbrev pub hidden_in : Res → Option Move
hidden_in Nothing = None
hidden_in (DirectRes pieces) = None
hidden_in (Hidden l buffer) = Some (record { kind = Address; part = 0; from = buffer; to = exchange_at l; length = 8 })

abbrev pub hidden_move : Standard → Signature → Option Move
hidden_move std s = hidden_in (plan_of std s).res

-- the move alone, or none
abbrev pub moves_of : Option Move → List Move
moves_of (Some m) = m ∷ []
moves_of None = []

-- where its callee gives the address back, if the standard has a register for it (System V psABI AMD64 3.2.3, "Returning of Values", step 2; Microsoft, "Return values": rax in both)
abbrev pub given_back_at : Res → Option Loc → Option ℕ
given_back_at Nothing l = None
given_back_at (DirectRes pieces) l = None
given_back_at (Hidden at buffer) l = option_map exchange_at l

abbrev pub returned_at : Standard → Signature → Option ℕ
returned_at std s = given_back_at (plan_of std s).res std.returned_address
