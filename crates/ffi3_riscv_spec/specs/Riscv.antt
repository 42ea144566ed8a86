-- Where the arguments and the result of a call stand on RISC-V with LP64D: XLEN and ABI_FLEN are 64. (RISC-V ELF psABI: each rule names its section, "Integer Calling Convention" or "Hardware Floating-point Calling Convention", and the paragraph by what it is on.)
use Rattle.std.specs.Prelude.{ℕ, ◌+◌, ◌-◌, ◌*◌, Bool, true, false, not, ◌&&◌, ◌||◌, cond, nat_le, nat_lt, List, [], ◌∷◌}
use Rattle.std.specs.Prelude.{◌++◌, map, length, Option, Some, None}
use Rattle.ffi3_type_spec.specs.declared.Target.TheVariants as target
use Rattle.ffi3_type_spec.specs.declared.Isa.TheVariants as isa
use Rattle.ffi3_type_spec.specs.Tree.{Tree, void, Scalar, u8, s8, u16, s16, u32, s32, u64, s64, u128, s128, float}
use Rattle.ffi3_type_spec.specs.Tree.{double, pointer, x87, binary128}
use Rattle.ffi3_type_spec.specs.Layout.{Leaf, leaves_of, leaf_at, size_of, align_of, scalar_size, least_multiple}
use Rattle.ffi3_type_spec.specs.Signature.{Signature}
use Rattle.ffi3_type_spec.specs.Integer.{is_floating, is_integer}
use Rattle.ffi3_place_spec.specs.declared.Loc.{Loc}
use Rattle.ffi3_place_spec.specs.declared.Loc.TheVariants.{G, F, S}
use Rattle.ffi3_place_spec.specs.declared.Ext.{Ext}
use Rattle.ffi3_place_spec.specs.declared.Ext.TheVariants.{Free, Riscv, Boxed}
use Rattle.ffi3_place_spec.specs.declared.Piece.{Piece}
use Rattle.ffi3_place_spec.specs.declared.SaveWord.{SaveWord}
use Rattle.ffi3_place_spec.specs.declared.SaveWord.TheVariants.{Register, Hidden}
use Rattle.ffi3_place_spec.specs.MachineRegisters.{pushed_bytes, stack_pointer, link_place, reserved_places}
use Rattle.ffi3_place_spec.specs.MachineRegisters.{trampoline_registers, to_list}
use Rattle.ffi3_place_spec.specs.Standard.{Standard, Placing, Spot, in_pieces, by_reference, ResultSpot, no_result}
use Rattle.ffi3_place_spec.specs.Standard.{in_result_pieces, in_buffer, start}
use Rattle.ffi3_place_spec.specs.Doublewords.{doublewords, filling, doublewords_at, leaf_piece}
use Rattle.ffi3_riscv_spec.specs.declared.Shape.{Shape}
use Rattle.ffi3_riscv_spec.specs.declared.Shape.TheVariants.{OneF, TwoF, FI, IF, Words, ByRef}
use Rattle.ffi3_riscv_spec.specs.declared.TakenWords.{TakenWords}

-- ---- shapes

-- A value of at most 2×XLEN bits is passed in its doublewords, a larger one by reference. ("Integer Calling Convention", on scalars, and on aggregates of at most XLEN, at most 2×XLEN and more than 2×XLEN bits)
abbrev pub integer_shape : Tree → Shape
integer_shape t =
    cond {A = Shape} (nat_le (size_of t) 16) (Words (doublewords t)) ByRef

-- an integer no more than XLEN bits wide; a pointer is no integer
abbrev pub is_word_integer : Scalar → Bool
is_word_integer s = is_integer s && nat_le (scalar_size s) 8

-- Two leaves: two floating-point reals, or one and one such integer in either order. ("Hardware Floating-point Calling Convention", on a struct of two floating-point reals, and of one and one integer)
abbrev pub shape_of_two : Shape → Scalar → Scalar → Shape
shape_of_two otherwise a b =
    cond {A = Shape} (is_floating a && is_floating b) TwoF
    (cond {A = Shape} (is_floating a && is_word_integer b) FI
    (cond {A = Shape} (is_word_integer a && is_floating b) IF otherwise))

-- A value whose structs are flattened, arrays in them too. A floating-point real is no more than ABI_FLEN bits wide: a long double, which has 128, follows the integer convention, alone and in a struct. ("Hardware Floating-point Calling Convention", on what "struct" means there, on a real floating-point argument, and on a struct of just one)
abbrev pub shape_of_leaves : Shape → List Leaf → Shape
shape_of_leaves otherwise (a ∷ []) =
    cond {A = Shape} (is_floating a.kind) OneF otherwise
shape_of_leaves otherwise (a ∷ b ∷ []) = shape_of_two otherwise a.kind b.kind
shape_of_leaves otherwise _ = otherwise

-- how a named argument is passed where enough registers are free
abbrev pub shape_of : Tree → Shape
shape_of t = shape_of_leaves (integer_shape t) (leaves_of t)

-- how many integer words a value takes
abbrev pub words_of : Shape → ℕ
words_of OneF = 0
words_of TwoF = 0
words_of FI = 1
words_of IF = 1
words_of (Words n) = n
words_of ByRef = 1

-- how many floating registers
abbrev pub floats_of : Shape → ℕ
floats_of OneF = 1
floats_of TwoF = 2
floats_of FI = 1
floats_of IF = 1
floats_of (Words n) = 0
floats_of ByRef = 0

-- Enough of fa0 to fa7 and of a0 to a7 are free for a value of the floating-point convention. The integer convention always has words left. ("Hardware Floating-point Calling Convention", the conditions of each of its paragraphs)
abbrev pub registers_suffice : TakenWords → Shape → Bool
registers_suffice before OneF = nat_le (before.floats + 1) 8
registers_suffice before TwoF = nat_le (before.floats + 2) 8
registers_suffice before FI = nat_le (before.floats + 1) 8 && nat_le (before.words + 1) 8
registers_suffice before IF = nat_le (before.floats + 1) 8 && nat_le (before.words + 1) 8
registers_suffice before (Words n) = true
registers_suffice before ByRef = true

-- A named argument is passed by its shape where enough registers are free. All others, and variadic arguments, follow the integer convention. ("Hardware Floating-point Calling Convention": "the remainder of this section applies only to named arguments", and "otherwise, it is passed according to the integer calling convention")
abbrev pub passed_as : TakenWords → Bool → Tree → Shape
passed_as before fixed t =
    cond {A = Shape} (fixed && registers_suffice before (shape_of t)) (shape_of t) (integer_shape t)

-- ---- places

-- a0 to a7 ("Integer Register Convention")
abbrev pub integer_register : ℕ → ℕ
integer_register k = 10 + k

-- fa0 to fa7 ("Floating-point Register Convention")
abbrev pub floating_register : ℕ → ℕ
floating_register k = 10 + k

-- Word k of the stream of integer words: a0 to a7, and then the stack from offset 0 on. ("Integer Calling Convention", on a value of which the first XLEN bits are passed in the last register and the rest on the stack, and on the first argument on the stack)
abbrev pub word : ℕ → Loc
word k =
    cond {A = Loc} (nat_lt k 8) (G (integer_register k)) (S (8 * (k - 8)) 8)

-- An integer narrower than XLEN is widened by its sign to 32 bits, then sign-extended. ("Integer Calling Convention", on scalars of at most XLEN bits)
abbrev pub extension : Tree → Ext
extension t = filling Riscv t

-- A float in a floating-point register is NaN-boxed. ("Hardware Floating-point Calling Convention", on a floating-point argument narrower than FLEN)
abbrev pub boxing : Scalar → Ext
boxing u8 = Free
boxing s8 = Free
boxing u16 = Free
boxing s16 = Free
boxing u32 = Free
boxing s32 = Free
boxing u64 = Free
boxing s64 = Free
boxing u128 = Free
boxing s128 = Free
boxing float = Boxed
boxing double = Free
boxing pointer = Free
boxing x87 = Free
boxing binary128 = Free

-- a leaf in floating argument register number f
abbrev pub floating_piece : ℕ → Leaf → Piece
floating_piece f l = leaf_piece (F (floating_register f)) (boxing l.kind) l

-- The integer of a struct of one floating-point real and one integer is passed "without extending the integer to XLEN bits". ("Hardware Floating-point Calling Convention")
abbrev pub integer_piece : ℕ → Leaf → Piece
integer_piece w l = leaf_piece (G (integer_register w)) Free l

-- so many doublewords of a value, in one word of the stream each, where w is the number of the first
abbrev pub word_pieces : ℕ → Tree → ℕ → List Piece
word_pieces w t count =
    doublewords_at (λ j. word (w + j)) (size_of t) (extension t) 0 count

-- where a value stands, by how it is passed
abbrev pub spot_of : TakenWords → Tree → Shape → Spot
spot_of before t OneF = in_pieces (floating_piece before.floats (leaf_at t 0) ∷ [])
spot_of before t TwoF =
    in_pieces (floating_piece before.floats (leaf_at t 0) ∷ floating_piece (before.floats + 1) (leaf_at t 1) ∷ [])
spot_of before t FI =
    in_pieces (floating_piece before.floats (leaf_at t 0) ∷ integer_piece before.words (leaf_at t 1) ∷ [])
spot_of before t IF =
    in_pieces (integer_piece before.words (leaf_at t 0) ∷ floating_piece before.floats (leaf_at t 1) ∷ [])
spot_of before t (Words n) = in_pieces (word_pieces before.words t n)
spot_of before t ByRef = by_reference (word before.words)

-- ---- arguments

-- whether the argument of this number is named, not variadic
abbrev pub is_fixed : Option ℕ → ℕ → Bool
is_fixed None i = true
is_fixed (Some n) i = nat_lt i n

-- An argument begins at an even word where it is aligned to 2×XLEN and has at most 2×XLEN bits, and is variadic or on the stack. ("Integer Calling Convention": such a variadic argument is passed in an aligned register pair, and what is passed on the stack is aligned to the greater of its type's alignment and XLEN)
abbrev pub is_at_even_word : Bool → Tree → ℕ → Bool
is_at_even_word fixed t end =
    nat_le 16 (align_of t) && (nat_le (size_of t) 16 && (not fixed || nat_le 8 end))

-- where an argument's words begin, behind those that end at `end`
abbrev pub first_word : Bool → Tree → ℕ → ℕ
first_word fixed t end =
    cond (is_at_even_word fixed t end) (least_multiple 2 end) end

-- what is taken where an argument begins, behind others
abbrev pub taken_at_start : TakenWords → Bool → Tree → TakenWords
taken_at_start taken fixed t =
    record { words = first_word fixed t taken.words; floats = taken.floats }

-- what is taken once a value of this shape is placed behind what was taken before
abbrev pub taken_by_shape : TakenWords → Shape → TakenWords
taken_by_shape before shape =
    record { words = before.words + words_of shape; floats = before.floats + floats_of shape }

-- how an argument is passed behind others, where it stands, and what is taken after it
module _ (taken : TakenWords) (fixed : Bool) (t : Tree) where
  abbrev pub shape_after : Shape
  shape_after = passed_as (taken_at_start taken fixed t) fixed t

  abbrev pub spot_after : Spot
  spot_after = spot_of (taken_at_start taken fixed t) t shape_after

  abbrev pub taken_with : TakenWords
  taken_with = taken_by_shape (taken_at_start taken fixed t) shape_after

-- the arguments from number i on
abbrev pub spots_after : Option ℕ → TakenWords → ℕ → List Tree → List Spot
spots_after fixed taken i [] = []
spots_after fixed taken i (t ∷ ts) =
    spot_after taken (is_fixed fixed i) t ∷ spots_after fixed (taken_with taken (is_fixed fixed i) t) (i + 1) ts

abbrev pub taken_after : Option ℕ → TakenWords → ℕ → List Tree → TakenWords
taken_after fixed taken i [] = taken
taken_after fixed taken i (t ∷ ts) =
    taken_after fixed (taken_with taken (is_fixed fixed i) t) (i + 1) ts

-- ---- results

-- what is taken where nothing is placed yet
abbrev pub untouched : TakenWords
untouched = record { words = 0; floats = 0 }

-- A result is returned as a first named argument of its type would be passed. Where that is by reference, the address of a buffer is an implicit first argument. ("Integer Calling Convention" and "Hardware Floating-point Calling Convention", on return values)
abbrev pub result_shape : Tree → Shape
result_shape t = passed_as untouched true t

abbrev pub result_from : Spot → ResultSpot
result_from (in_pieces pieces) = in_result_pieces pieces
result_from (by_reference at) = in_buffer at

abbrev pub result_spot_of : Tree → ResultSpot
result_spot_of void = no_result
result_spot_of t = result_from (spot_of untouched t (result_shape t))

abbrev pub is_by_reference : Shape → Bool
is_by_reference OneF = false
is_by_reference TwoF = false
is_by_reference FI = false
is_by_reference IF = false
is_by_reference (Words n) = false
is_by_reference ByRef = true

-- the hidden pointer to a result's buffer takes the first word
abbrev pub taken_at_first : Tree → TakenWords
taken_at_first result_type =
    record { words = cond (is_by_reference (result_shape result_type)) 1 0; floats = 0 }

-- what all arguments take, and the hidden pointer before them
abbrev pub taken_by_all : Signature → TakenWords
taken_by_all s = taken_after s.fixed (taken_at_first s.result_type) 0 s.arguments

-- the bytes of the words that stand on the stack
abbrev pub stack_of : TakenWords → ℕ
stack_of taken = 8 * (taken.words - 8)

abbrev pub placing_of : Signature → Placing
placing_of s = record {
  arguments = spots_after s.fixed (taken_at_first s.result_type) 0 s.arguments;
  result_spot = result_spot_of s.result_type;
  stack_bytes = stack_of (taken_by_all s);
  vector_registers = 0;
}

-- s0 to s11 and fs0 to fs11, which are callee-saved ("Integer Register Convention", "Floating-point Register Convention")
abbrev pub callee_saved : List Loc
callee_saved =
    G 8 ∷ G 9 ∷ G 18 ∷ G 19 ∷ G 20 ∷ G 21 ∷ G 22 ∷ G 23 ∷ G 24 ∷ G 25 ∷ G 26 ∷ G 27
    ∷ F 8 ∷ F 9 ∷ F 18 ∷ F 19 ∷ F 20 ∷ F 21 ∷ F 22 ∷ F 23 ∷ F 24 ∷ F 25 ∷ F 26 ∷ F 27 ∷ []

-- a0 to a7 and fa0 to fa7 ("Integer Register Convention", "Floating-point Register Convention")
abbrev pub argument_registers : List Loc
argument_registers =
    G 10 ∷ G 11 ∷ G 12 ∷ G 13 ∷ G 14 ∷ G 15 ∷ G 16 ∷ G 17 ∷ F 10 ∷ F 11 ∷ F 12 ∷ F 13 ∷ F 14 ∷ F 15 ∷ F 16 ∷ F 17 ∷ []

-- The words of a callee's save area, from its lowest address: ra, the callee-saved registers, and the hidden pointer. (This library's own order.)
abbrev pub saved_words : List SaveWord
saved_words =
    map Register (to_list (link_place isa.Riscv) ++ callee_saved) ++ (Hidden ∷ [])

-- The calling standard. ra holds the return address; no register tells how many floating-point registers are used, and none returns a hidden pointer.
abbrev pub riscv : Standard
riscv = record {
  target = target.Riscv;
  link = pushed_bytes isa.Riscv;
  save = 8 * length saved_words;
  stack_pointer = G (stack_pointer isa.Riscv);
  callee_saved = callee_saved;
  reserved = reserved_places isa.Riscv;
  link_register = link_place isa.Riscv;
  argument_registers = argument_registers;
  save_area = saved_words;
  trampoline_registers = trampoline_registers isa.Riscv;
  vector_count = None;
  returned_address = None;
  narrow = Riscv;
  single = Boxed;
  copy_start = start;
  placing = placing_of;
}
