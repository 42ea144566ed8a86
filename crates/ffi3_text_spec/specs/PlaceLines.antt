-- Lines of place: where the arguments and the result of a signature stand.
use Rattle.std.specs.Prelude.{ℕ, ◌+◌, ◌==◌, Bool, true, false, cond, List, [], ◌∷◌, ◌++◌, codes, Option, Some, None}
use Rattle.std.specs.Prelude.{slice_index_or}
use Rattle.std.specs.List.{flat_map, find, sum_by}
use Rattle.std.specs.Fmt.{decimal}
use Rattle.ffi3_type_spec.specs.declared.Isa.{Isa}
use Rattle.ffi3_type_spec.specs.TargetIsa.{isa_of}
use Rattle.ffi3_type_spec.specs.Signature.{Signature, Position, at_result, at_argument}
use Rattle.ffi3_place_spec.specs.declared.Loc.{Loc}
use Rattle.ffi3_place_spec.specs.declared.Loc.TheVariants.{F, S}
use Rattle.ffi3_place_spec.specs.MachineRegisters.{word_below}
use Rattle.ffi3_place_spec.specs.declared.Piece.{Piece}
use Rattle.ffi3_place_spec.specs.declared.Place.{Place}
use Rattle.ffi3_place_spec.specs.declared.Place.TheVariants.{Direct, ByRef}
use Rattle.ffi3_place_spec.specs.declared.Res.{Res}
use Rattle.ffi3_place_spec.specs.declared.Res.TheVariants.{Nothing, Direct as DirectRes, Hidden}
use Rattle.ffi3_place_spec.specs.Standard.{Standard, plan_of}
use Rattle.ffi3_text_spec.specs.Registers.{loc_name}
use Rattle.ffi3_text_spec.specs.declared.Part.{Part}

abbrev pub is_on_stack : Loc → Bool
is_on_stack (S n w) = true
is_on_stack _ = false

-- so many bytes of the value, from an offset on, stand at a place
abbrev pub piece_text : Isa → Loc → ℕ → ℕ → List ℕ
piece_text isa at off len =
    codes " " ++ loc_name isa at ++ (codes ":" ++ (decimal off ++ (codes "+" ++ decimal len)))

-- ---- pieces in registers: those in words of one register are told as one, with the bytes of both

-- the number of a place in the floating file
abbrev pub is_numbered : Option ℕ → ℕ → Bool
is_numbered None r = false
is_numbered (Some n) r = n == r

-- the second place is the word above the first in one register: of st(k) its sign and exponent above the significand, of v(k) the upper half above the lower
abbrev pub stands_above : Isa → Loc → Loc → Bool
stands_above isa (F r) (F u) = is_numbered (word_below isa u) r
stands_above isa _ _ = false

-- a piece by itself
abbrev pub part_of : Piece → Part
part_of p = record { loc = p.loc; off = p.off; len = p.len }

-- with so many bytes more
abbrev pub longer : Part → ℕ → Part
longer p n = record { loc = p.loc; off = p.off; len = p.len + n }

abbrev pub joined_to : Isa → Part → List Piece → List Part
joined_to isa p [] = p ∷ []
joined_to isa p (q ∷ qs) =
    cond (stands_above isa p.loc q.loc) (joined_to isa (longer p q.len) qs) (p ∷ joined_to isa (part_of q) qs)

-- the pieces, in order, each with those behind it that stand in words above it
abbrev pub joined : Isa → List Piece → List Part
joined isa [] = []
joined isa (p ∷ ps) = joined_to isa (part_of p) ps

abbrev pub register_part_text : Isa → Part → List ℕ
register_part_text isa p =
    cond (is_on_stack p.loc) [] (piece_text isa p.loc p.off p.len)

-- the pieces in registers, in order
abbrev pub register_texts : Isa → List Piece → List ℕ
register_texts isa ps = flat_map (register_part_text isa) (joined isa ps)

-- ---- pieces on the stack

abbrev pub first_on_stack : List Piece → Option Piece
first_on_stack ps = find (λ p. is_on_stack p.loc) ps

abbrev pub stack_length : Piece → ℕ
stack_length p = cond (is_on_stack p.loc) p.len 0

abbrev pub bytes_on_stack : List Piece → ℕ
bytes_on_stack ps = sum_by stack_length ps

-- the pieces on the stack are told as one, which starts where the first does and has the bytes of all
abbrev pub stack_text : Isa → Option Piece → ℕ → List ℕ
stack_text isa None len = []
stack_text isa (Some p) len = piece_text isa p.loc p.off len

abbrev pub pieces_text : Isa → List Piece → List ℕ
pieces_text isa ps =
    register_texts isa ps ++ stack_text isa (first_on_stack ps) (bytes_on_stack ps)

abbrev pub argument_text : Isa → Place → List ℕ
argument_text isa (Direct pieces) = pieces_text isa pieces
argument_text isa (ByRef at copy) =
    codes " ref " ++ loc_name isa at ++ (codes " copy " ++ decimal copy)

abbrev pub result_text : Isa → Res → List ℕ
result_text isa Nothing = codes " void"
result_text isa (DirectRes pieces) = pieces_text isa pieces
result_text isa (Hidden at buffer) =
    codes " hidden " ++ loc_name isa at ++ (codes " buffer " ++ decimal buffer)

-- argument j of a list of places
abbrev pub argument_place : List Place → ℕ → Place
argument_place ps j = slice_index_or ps j (Direct [])

-- THE LINE OF THE PLACES of the result or an argument
abbrev pub place_text_of : Standard → Signature → Position → List ℕ
place_text_of std s at_result =
    codes "ret" ++ result_text (isa_of std.target) (plan_of std s).res ++ 10 ∷ []
place_text_of std s (at_argument j) =
    (codes "arg " ++ decimal j)
    ++ argument_text (isa_of std.target) (argument_place (plan_of std s).places j) ++ 10 ∷ []

-- the number of vector registers that arguments use, behind the register that tells it, where the standard has one
abbrev pub vectors_text : Isa → Option Loc → ℕ → List ℕ
vectors_text isa None n = []
vectors_text isa (Some at) n = codes " " ++ (loc_name isa at ++ (codes " " ++ decimal n))

-- THE LINE OF SIGNATURE i: the bytes of stack that a call takes
abbrev pub sig_text_of : ℕ → Standard → Signature → List ℕ
sig_text_of i std s =
    (codes "sig " ++ (decimal i ++ (codes " need " ++ (decimal (plan_of std s).need
    ++ (codes " frame " ++ (decimal (plan_of std s).frame
    ++ (codes " block " ++ decimal (plan_of std s).block)))))))
    ++ vectors_text (isa_of std.target) std.vector_count (plan_of std s).vectors ++ 10 ∷ []
