-- Where the arguments and the result of a call stand on AArch64. (Arm AAPCS64, IHI 0055, "Parameter passing rules" and "Result return". Rules are named by stage and number, as B.4, as the releases from 2020Q2 on number them.)
use Rattle.std.specs.Prelude.{ℕ, ◌+◌, ◌*◌, Bool, true, false, not, ◌&&◌, cond, nat_le, nat_lt, List, [], ◌∷◌, ◌++◌, map}
use Rattle.std.specs.Prelude.{length, Option, Some, None, is_some}
use Rattle.std.specs.List.{list_all}
use Rattle.ffi3_type_spec.specs.declared.Target.TheVariants as target
use Rattle.ffi3_type_spec.specs.declared.Isa.{Isa}
use Rattle.ffi3_type_spec.specs.TargetIsa.{isa_of}
use Rattle.ffi3_type_spec.specs.Tree.{Tree, void, scalar, structure, Scalar, u8, s8, u16, s16, u32, s32, u64, s64}
use Rattle.ffi3_type_spec.specs.Tree.{u128, s128, float, double, pointer, x87, binary128, array}
use Rattle.ffi3_type_spec.specs.Layout.{Leaf, leaves_of, size_of, align_of, least_multiple}
use Rattle.ffi3_type_spec.specs.Signature.{Signature}
use Rattle.ffi3_place_spec.specs.declared.Loc.{Loc}
use Rattle.ffi3_place_spec.specs.declared.Loc.TheVariants.{G, F, S}
use Rattle.ffi3_place_spec.specs.declared.Ext.TheVariants.{Free, Widen}
use Rattle.ffi3_place_spec.specs.declared.Piece.{Piece}
use Rattle.ffi3_place_spec.specs.declared.SaveWord.{SaveWord}
use Rattle.ffi3_place_spec.specs.declared.SaveWord.TheVariants.{Register, Hidden, Spare}
use Rattle.ffi3_place_spec.specs.declared.Taken.{Taken}
use Rattle.ffi3_place_spec.specs.MachineRegisters.{pushed_bytes, stack_pointer, reserved_places, link_place}
use Rattle.ffi3_place_spec.specs.MachineRegisters.{trampoline_registers, to_list, upper_half}
use Rattle.ffi3_place_spec.specs.Standard.{Standard, Placing, Spot, in_pieces, by_reference, ResultSpot, no_result}
use Rattle.ffi3_place_spec.specs.Standard.{in_result_pieces, in_buffer, start, round8}
use Rattle.ffi3_place_spec.specs.Doublewords.{doublewords, doublewords_at, widening, stack_pieces, leaf_piece}
use Rattle.ffi3_aapcs64_spec.specs.declared.Kind.{Kind}
use Rattle.ffi3_aapcs64_spec.specs.declared.Kind.TheVariants.{Float, Double, Quad}

-- ---- homogeneous floating-point aggregates, HFA (5.9.5.1)

-- the kind of a floating-point type: single, double or quad precision, which is long double (5.1, table 3; "Arithmetic types"). An x87, which is no type of this standard, goes by its size as an integer of 128 bits.
abbrev pub kind_of : Scalar → Option Kind
kind_of float = Some Float
kind_of double = Some Double
kind_of u8 = None
kind_of s8 = None
kind_of u16 = None
kind_of s16 = None
kind_of u32 = None
kind_of s32 = None
kind_of u64 = None
kind_of s64 = None
kind_of u128 = None
kind_of s128 = None
kind_of pointer = None
kind_of x87 = None
kind_of binary128 = Some Quad

abbrev pub is_kind : Kind → Option Kind → Bool
is_kind Float (Some Float) = true
is_kind Float (Some Double) = false
is_kind Float (Some Quad) = false
is_kind Double (Some Float) = false
is_kind Double (Some Double) = true
is_kind Double (Some Quad) = false
is_kind Quad (Some Float) = false
is_kind Quad (Some Double) = false
is_kind Quad (Some Quad) = true
is_kind Float None = false
is_kind Double None = false
is_kind Quad None = false

abbrev pub is_of : Kind → Scalar → Bool
is_of kind s = is_kind kind (kind_of s)

abbrev pub is_member : Kind → Leaf → Bool
is_member kind l = is_of kind l.kind

-- one to four members, all of them of single, of double or of quad precision
abbrev pub homogeneous_members : List Leaf → Option (Kind × ℕ)
homogeneous_members ls =
    cond (nat_lt 0 (length ls) && nat_le (length ls) 4)
    (cond (list_all (is_member Float) ls) (Some (Float, length ls))
    (cond (list_all (is_member Double) ls) (Some (Double, length ls))
    (cond (list_all (is_member Quad) ls) (Some (Quad, length ls)) None))) None

-- the type and the number of the members of an HFA, with nested structs and arrays flattened
abbrev pub homogeneous : Tree → Option (Kind × ℕ)
homogeneous (structure ts) = homogeneous_members (leaves_of (structure ts))
homogeneous _ = None

-- composite types: structs, and arrays, which are neither arguments nor results by themselves, but one that stands for a complex long double
abbrev pub is_composite : Tree → Bool
is_composite (structure ts) = true
is_composite (array ts n) = true
is_composite _ = false

-- ---- stage B: what is passed

-- a floating-point type or an HFA, which takes SIMD and floating-point registers (C.1, C.2, B.3)
abbrev pub in_vectors : Tree → Bool
in_vectors (scalar s) = is_some (kind_of s)
in_vectors t = is_some (homogeneous t)

-- B.4: any other composite larger than 16 bytes is copied by the caller, and replaced by a pointer to the copy
abbrev pub is_copied : Tree → Bool
is_copied t = is_composite t && (not (in_vectors t) && nat_lt 16 (size_of t))

-- the argument after stage B
abbrev pub passed : Tree → Tree
passed t = cond {A = Tree} (is_copied t) (scalar pointer) t

-- how many registers of its kind it needs: one for each member (C.1, C.2), or one for each doubleword (C.9, C.11, C.12)
abbrev pub registers_needed : Tree → ℕ
registers_needed t = cond (in_vectors t) (length (leaves_of t)) (doublewords (passed t))

-- how much stack it takes where it is not in registers: a multiple of eight bytes (B.5, C.3, C.5, C.16)
abbrev pub stack_size : Tree → ℕ
stack_size t = round8 (size_of (passed t))

-- ---- where one argument begins after another

-- An argument's first general-purpose register, where those before it end: an even one for a type of alignment 16. (C.10)
abbrev pub first_general : ℕ → Tree → ℕ
first_general end t = cond (nat_le 16 (align_of t)) (least_multiple 2 end) end

-- Its first byte on the stack, where what stands before it ends: at a multiple of 8, or of the type's alignment where that is greater. (C.4, C.14)
abbrev pub stack_start : ℕ → Tree → ℕ
stack_start end t = start end t

-- ---- registers: x0 to x7, and v0 to v7

-- a member in register v: one of quad precision fills both halves of it
abbrev pub member_in : ℕ → Leaf → List Piece
member_in v l =
    cond (is_of Quad l.kind)
    (record { loc = F v; off = l.at; len = 8; ext = Free }
    ∷ record { loc = upper_half v; off = l.at + 8; len = 8; ext = Free } ∷ [])
    (leaf_piece (F v) Free l ∷ [])

-- C.1, C.2: one register for each member, from number v on
abbrev pub member_pieces : ℕ → List Leaf → List Piece
member_pieces v [] = []
member_pieces v (l ∷ ls) = member_in v l ++ member_pieces (v + 1) ls

-- C.9, C.11, C.12: one register for each doubleword, from number g on
abbrev pub general_pieces : ℕ → Tree → List Piece
general_pieces g t =
    doublewords_at (λ j. G (g + j)) (size_of t) (widening t) 0 (doublewords t)

abbrev pub register_pieces : ℕ → Tree → List Piece
register_pieces first t =
    cond (in_vectors t) (member_pieces first (leaves_of t)) (general_pieces first t)

-- an argument, or the pointer to its copy, in registers from a number of its kind on
abbrev pub register_spot : ℕ → Tree → Spot
register_spot first t =
    cond (is_copied t) (by_reference (G first)) (in_pieces (register_pieces first t))

-- the same on the stack, from a byte on (C.6, C.15, C.17)
abbrev pub stack_spot : ℕ → Tree → Spot
stack_spot first t =
    cond (is_copied t) (by_reference (S first 8)) (in_pieces (stack_pieces first t))

-- ---- stage C: arguments, with the next general-purpose register number (NGRN), the next SIMD and floating-point register number (NSRN), and the next stacked argument address (NSAA) from the first stack argument

-- Where the argument's registers begin and end, by its kind. They end past 8 where the registers left do not suffice, so that no register of the kind is used any more. (C.3, C.13 set the number to 8.)
abbrev pub register_start : Taken → Tree → ℕ
register_start before t =
    cond (in_vectors t) before.vector (first_general before.general (passed t))

abbrev pub register_end : Taken → Tree → ℕ
register_end before t = register_start before t + registers_needed t

-- C.1, C.2, C.9, C.11, C.12: in registers exactly where those left suffice for all of it
abbrev pub in_registers : Taken → Tree → Bool
in_registers before t = nat_le (register_end before t) 8

abbrev pub stack_end : Taken → Tree → ℕ
stack_end before t = stack_start before.stack (passed t) + stack_size t

abbrev pub taken_with : Taken → Tree → Taken
taken_with before t = record {
  general = cond (in_vectors t) before.general (register_end before t);
  vector = cond (in_vectors t) (register_end before t) before.vector;
  stack = cond (in_registers before t) before.stack (stack_end before t);
}

abbrev pub spot_after : Taken → Tree → Spot
spot_after before t =
    cond (in_registers before t)
    (register_spot (register_start before t) t)
    (stack_spot (stack_start before.stack (passed t)) t)

abbrev pub spots_after : Taken → List Tree → List Spot
spots_after before [] = []
spots_after before (t ∷ ts) = spot_after before t ∷ spots_after (taken_with before t) ts

abbrev pub taken_after : Taken → List Tree → Taken
taken_after before [] = before
taken_after before (t ∷ ts) = taken_after (taken_with before t) ts

-- stage A
abbrev pub untouched : Taken
untouched = record { general = 0; vector = 0; stack = 0 }

-- ---- results ("Result return")

-- in the registers of a first argument; where that would be replaced by a pointer, in memory of the caller, whose address is in x8
abbrev pub result_from : Spot → ResultSpot
result_from (in_pieces pieces) = in_result_pieces pieces
result_from (by_reference at) = in_buffer (G 8)

abbrev pub result_spot_of : Tree → ResultSpot
result_spot_of void = no_result
result_spot_of t = result_from (spot_after untouched t)

abbrev pub placing_of : Signature → Placing
placing_of s = record {
  arguments = spots_after untouched s.arguments;
  result_spot = result_spot_of s.result_type;
  stack_bytes = (taken_after untouched s.arguments).stack;
  vector_registers = 0;
}

-- ---- registers by their roles (6.1.1, 6.1.2)

abbrev machine : Isa
machine = isa_of target.Aapcs64

-- x0 to x7, x8 for the result's address, and v0 to v7
abbrev pub argument_registers : List Loc
argument_registers =
    G 0 ∷ G 1 ∷ G 2 ∷ G 3 ∷ G 4 ∷ G 5 ∷ G 6 ∷ G 7 ∷ G 8 ∷ F 0 ∷ F 1 ∷ F 2 ∷ F 3 ∷ F 4 ∷ F 5 ∷ F 6 ∷ F 7 ∷ []

-- callee-saved: x19 to x29
abbrev pub saved_general : List Loc
saved_general =
    G 19 ∷ G 20 ∷ G 21 ∷ G 22 ∷ G 23 ∷ G 24 ∷ G 25 ∷ G 26 ∷ G 27 ∷ G 28 ∷ G 29 ∷ []

-- callee-saved: the low 64 bits of v8 to v15
abbrev pub saved_vector : List Loc
saved_vector = F 8 ∷ F 9 ∷ F 10 ∷ F 11 ∷ F 12 ∷ F 13 ∷ F 14 ∷ F 15 ∷ []

-- the save area: x19 to x30, v8 to v15, the result's address that came in x8, and a spare word
abbrev pub saved_words : List SaveWord
saved_words =
    map Register (saved_general ++ (to_list (link_place machine) ++ saved_vector)) ++ (Hidden ∷ Spare ∷ [])

-- A lone narrow integer is extended by its sign, which is this library's rule: the standard leaves the bits above it unspecified ("Parameter passing rules", C.9, C.16).
abbrev pub aapcs64 : Standard
aapcs64 = record {
  target = target.Aapcs64;
  link = pushed_bytes machine;
  save = 8 * length saved_words;
  stack_pointer = G (stack_pointer machine);
  callee_saved = saved_general ++ saved_vector;
  reserved = reserved_places machine;
  link_register = link_place machine;
  argument_registers = argument_registers;
  save_area = saved_words;
  trampoline_registers = trampoline_registers machine;
  vector_count = None;
  returned_address = None;
  narrow = Widen;
  single = Free;
  copy_start = start;
  placing = placing_of;
}
