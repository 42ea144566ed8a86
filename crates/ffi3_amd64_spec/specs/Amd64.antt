-- Where the arguments and the result of a call stand on AMD64. (System V psABI AMD64 3.2.3, "Parameter Passing" and "Returning of Values")
use Rattle.std.specs.Prelude.{ℕ, zero, suc, ◌+◌, ◌*◌, Bool, true, false, not, ◌&&◌, cond, nat_le, nat_lt, List, [], ◌∷◌}
use Rattle.std.specs.Prelude.{◌++◌, map, get_or, length, Some, ◌||◌}
use Rattle.std.specs.List.{list_any, count_by}
use Rattle.ffi3_type_spec.specs.declared.Isa.TheVariants as isa
use Rattle.ffi3_type_spec.specs.declared.Target.TheVariants as target
use Rattle.ffi3_type_spec.specs.Tree.{Tree, void, scalar, left_out, structure, array, Scalar, x87, is_complex}
use Rattle.ffi3_type_spec.specs.Layout.{Leaf, leaves_of, size_of, scalar_size}
use Rattle.ffi3_type_spec.specs.Signature.{Signature}
use Rattle.ffi3_type_spec.specs.Integer.{is_floating}
use Rattle.ffi3_place_spec.specs.declared.Loc.{Loc}
use Rattle.ffi3_place_spec.specs.declared.Loc.TheVariants.{G, F}
use Rattle.ffi3_place_spec.specs.declared.Ext.TheVariants.{Widen, Free}
use Rattle.ffi3_place_spec.specs.declared.Piece.{Piece}
use Rattle.ffi3_place_spec.specs.declared.SaveWord.{SaveWord}
use Rattle.ffi3_place_spec.specs.declared.SaveWord.TheVariants.{Register, Hidden}
use Rattle.ffi3_place_spec.specs.declared.Taken.{Taken}
use Rattle.ffi3_place_spec.specs.MachineRegisters.{pushed_bytes, stack_pointer, link_place, reserved_places}
use Rattle.ffi3_place_spec.specs.MachineRegisters.{trampoline_registers, significand, sign_and_exponent}
use Rattle.ffi3_place_spec.specs.Standard.{Standard, Placing, Spot, in_pieces, ResultSpot, no_result, in_result_pieces}
use Rattle.ffi3_place_spec.specs.Standard.{in_buffer, doubleword, round8, start}
use Rattle.ffi3_place_spec.specs.Doublewords.{doublewords, widening, stack_pieces}
use Rattle.ffi3_amd64_spec.specs.declared.Class.{Class}
use Rattle.ffi3_amd64_spec.specs.declared.Class.TheVariants.{Integer, Sse}

abbrev pub is_integer_class : Class → Bool
is_integer_class Integer = true
is_integer_class Sse = false

abbrev pub is_sse_class : Class → Bool
is_sse_class Integer = false
is_sse_class Sse = true

-- a byte of the leaf lies in eightbyte j
abbrev pub lies_in_eightbyte : ℕ → Leaf → Bool
lies_in_eightbyte j l = nat_lt l.at (8 * j + 8) && nat_lt (8 * j) (l.at + scalar_size l.kind)

abbrev pub is_integer_leaf_in : ℕ → Leaf → Bool
is_integer_leaf_in j l = lies_in_eightbyte j l && not (is_floating l.kind)

-- INTEGER exactly where a byte of an integer or pointer leaf lies in it, otherwise SSE. (Classification of aggregates, steps 3 and 4: each eightbyte for itself; INTEGER before SSE, rule (d). Classification, on __int128: it is classified as a struct of two longs. A binary128, which is no type of this standard, goes by its size as that.)
abbrev pub class_of : Tree → ℕ → Class
class_of t j = cond (list_any (is_integer_leaf_in j) (leaves_of t)) Integer Sse

-- aggregates: structs, and arrays, of which only one that stands for a complex long double is an argument or a result by itself (Classification of aggregates)
abbrev pub is_aggregate : Tree → Bool
is_aggregate void = false
is_aggregate (scalar s) = false
is_aggregate (left_out k) = false
is_aggregate (structure ts) = true
is_aggregate (array ts n) = true

-- ---- long double (its mantissa of 64 bits has class X87, its exponent of 16 and six bytes of padding have class X87UP)

abbrev pub is_x87_scalar : Scalar → Bool
is_x87_scalar x87 = true
is_x87_scalar _ = false

-- classes X87 and X87UP: one long double and nothing else, by itself or in a struct (Classification; of aggregates, steps 3 and 4)
abbrev pub is_one_x87 : List Leaf → Bool
is_one_x87 (l ∷ []) = is_x87_scalar l.kind
is_one_x87 _ = false

abbrev pub is_x87 : Tree → Bool
is_x87 void = false
is_x87 (scalar s) = is_x87_scalar s
is_x87 (left_out k) = false
is_x87 (structure ts) = is_one_x87 (leaves_of (structure ts))
is_x87 (array ts n) = false

-- class COMPLEX_X87: a complex long double by itself (Classification)
abbrev pub is_complex_x87 : Tree → Bool
is_complex_x87 void = false
is_complex_x87 (scalar s) = false
is_complex_x87 (left_out k) = false
is_complex_x87 (structure ts) = false
is_complex_x87 (array ts n) = is_complex ts n

-- one of these three classes
abbrev pub is_class_x87 : Tree → Bool
is_class_x87 t = is_x87 t || is_complex_x87 t

-- ---- memory

-- class MEMORY: an aggregate over two eightbytes, none of which is SSEUP here (Classification of aggregates, step 5 (c): the post merger cleanup)
abbrev pub is_class_memory : Tree → Bool
is_class_memory t = is_aggregate t && (not (is_complex_x87 t) && nat_lt 16 (size_of t))

-- passed in memory: class MEMORY (Passing, step 1), and X87, X87UP and COMPLEX_X87 (Passing, step 5)
abbrev pub in_memory : Tree → Bool
in_memory t = is_class_memory t || is_class_x87 t

-- how many eightbytes a value takes: its size rounded up (eightbyte is this standard's word for doubleword)
abbrev pub eightbytes : Tree → ℕ
eightbytes t = doublewords t

abbrev pub classes_from : Tree → ℕ → ℕ → List Class
classes_from t j zero = []
classes_from t j (suc n) = class_of t j ∷ classes_from t (j + 1) n

-- the classes of the eightbytes that are passed in registers, none where the value is passed in memory
abbrev pub classes : Tree → List Class
classes t = cond (in_memory t) [] (classes_from t 0 (eightbytes t))

-- how many of them are INTEGER
abbrev pub integers : Tree → ℕ
integers t = count_by is_integer_class (classes t)

-- how many are SSE
abbrev pub sses : Tree → ℕ
sses t = count_by is_sse_class (classes t)

-- ---- registers

-- rdi, rsi, rdx, rcx, r8, r9 (Passing, step 2)
abbrev pub general_arguments : List ℕ
general_arguments = 7 ∷ 6 ∷ 2 ∷ 1 ∷ 8 ∷ 9 ∷ []

abbrev pub general_argument : ℕ → ℕ
general_argument k = get_or general_arguments k 0

-- rax, rdx (Returning of Values, step 3)
abbrev pub result_register : ℕ → ℕ
result_register k = get_or (0 ∷ 2 ∷ []) k 0

-- xmm0 and those that follow, to xmm7 for arguments (Passing, step 3) and to xmm1 for results (Returning of Values, step 4)
abbrev pub vector_register : ℕ → ℕ
vector_register k = k

-- The register of an eightbyte is the next of its class: its number is that of the value's first, and the eightbytes of the class before it. (Passing, steps 2 and 3)
abbrev pub register_of : (ℕ → ℕ) → ℕ → ℕ → List Class → Class → Loc
register_of general g f earlier Integer = G (general (g + count_by is_integer_class earlier))
register_of general g f earlier Sse = F (vector_register (f + count_by is_sse_class earlier))

-- one piece for each eightbyte, where g and f are the numbers of the first general and the first vector register
abbrev pub register_pieces : (ℕ → ℕ) → ℕ → ℕ → Tree → List Class → List Class → List Piece
register_pieces general g f t earlier [] = []
register_pieces general g f t earlier (c ∷ cs) =
    doubleword (register_of general g f earlier c) (length earlier) (size_of t) (widening t)
    ∷ register_pieces general g f t (earlier ++ c ∷ []) cs

-- ---- arguments

-- Registers are available for every eightbyte of the argument: there are six general ones and eight vector registers. (Passing: "If there are no registers available for any eightbyte of an argument, the whole argument is passed on the stack")
abbrev pub in_registers : Taken → Tree → Bool
in_registers before t =
    not (in_memory t) && (nat_le (before.general + integers t) 6 && nat_le (before.vector + sses t) 8)

-- where an argument on the stack begins, after the end of the one before it (Passing, step 1: at an address respecting its alignment; Classification, on __int128: on a 16-byte boundary)
abbrev pub stack_start : ℕ → Tree → ℕ
stack_start end t = start end t

-- it ends with the last of its eightbytes (Classification: the size of each argument gets rounded up to eightbytes)
abbrev pub stack_end : ℕ → Tree → ℕ
stack_end end t = stack_start end t + round8 (size_of t)

-- An argument takes registers for all its eightbytes, or stack, and then no register. (Passing: "If registers have already been assigned for some eightbytes of such an argument, the assignments get reverted")
abbrev pub taken_with : Taken → Tree → Taken
taken_with before t =
    cond {A = Taken} (in_registers before t)
    (record { general = before.general + integers t; vector = before.vector + sses t; stack = before.stack })
    (record { general = before.general; vector = before.vector; stack = stack_end before.stack t })

-- an argument in the next registers of its eightbytes' classes, or on the stack
abbrev pub argument_pieces : Taken → Tree → List Piece
argument_pieces before t =
    cond (in_registers before t)
    (register_pieces general_argument before.general before.vector t [] (classes t))
    (stack_pieces (stack_start before.stack t) t)

-- no argument is passed by reference
abbrev pub spot_after : Taken → Tree → Spot
spot_after before t = in_pieces (argument_pieces before t)

-- the arguments in left-to-right order
abbrev pub spots_after : Taken → List Tree → List Spot
spots_after before [] = []
spots_after before (t ∷ ts) = spot_after before t ∷ spots_after (taken_with before t) ts

abbrev pub taken_after : Taken → List Tree → Taken
taken_after before [] = before
taken_after before (t ∷ ts) = taken_after (taken_with before t) ts

-- The address of a result in memory is a hidden first argument. (Returning of Values, step 2)
abbrev pub taken_at_first : Tree → Taken
taken_at_first result_type =
    record { general = cond (is_class_memory result_type) 1 0; vector = 0; stack = 0 }

-- ---- results

-- leaf k of the value in st(k): a long double in st(0), the real part of a complex one in st(0) and the imaginary part in st(1) (Returning of Values, steps 6 to 8)
abbrev pub x87_pieces : ℕ → List Leaf → List Piece
x87_pieces k [] = []
x87_pieces k (l ∷ ls) =
    record { loc = significand k; off = l.at; len = 8; ext = Free }
    ∷ record { loc = sign_and_exponent k; off = l.at + 8; len = 2; ext = Free } ∷ x87_pieces (k + 1) ls

-- a result in registers: on the x87 stack, or in the next registers of each eightbyte's class (Returning of Values, steps 3, 4 and 6 to 8)
abbrev pub result_pieces : Tree → List Piece
result_pieces t =
    cond (is_class_x87 t) (x87_pieces 0 (leaves_of t)) (register_pieces result_register 0 0 t [] (classes t))

-- in the caller's storage for class MEMORY, otherwise in registers (Returning of Values, step 2)
abbrev pub result_spot_of : Tree → ResultSpot
result_spot_of void = no_result
result_spot_of t =
    cond (is_class_memory t) (in_buffer (G (general_argument 0))) (in_result_pieces (result_pieces t))

abbrev pub placing_of : Signature → Placing
placing_of s = record {
  arguments = spots_after (taken_at_first s.result_type) s.arguments;
  result_spot = result_spot_of s.result_type;
  stack_bytes = (taken_after (taken_at_first s.result_type) s.arguments).stack;
  vector_registers = (taken_after (taken_at_first s.result_type) s.arguments).vector;
}

-- ---- the standard

-- rbx, rbp, r12 to r15 (psABI AMD64 3.2.1: "Registers %rbp, %rbx and %r12 through %r15 belong to the calling function")
abbrev pub callee_saved : List Loc
callee_saved = G 3 ∷ G 5 ∷ G 12 ∷ G 13 ∷ G 14 ∷ G 15 ∷ []

-- the general registers of arguments, and xmm0 to xmm7 (Passing, steps 2 and 3)
abbrev pub argument_registers : List Loc
argument_registers = map G general_arguments ++ F 0 ∷ F 1 ∷ F 2 ∷ F 3 ∷ F 4 ∷ F 5 ∷ F 6 ∷ F 7 ∷ []

-- Each callee-saved register, and above them the hidden argument. (Where they stand is this library's rule.)
abbrev pub saved_words : List SaveWord
saved_words = map Register callee_saved ++ Hidden ∷ []

-- What it names of the machine is what an AMD64 machine has. rax tells the number of vector registers (3.2.3, al at calls of functions with variable arguments) and returns the hidden argument (Returning of Values, step 2). (That it tells the exact number, and at every call, is this library's rule: the standard asks for an upper bound in al, where arguments may be variable.)
abbrev pub amd64 : Standard
amd64 = record {
  target = target.Amd64;
  link = pushed_bytes isa.Amd64;
  save = 8 * length saved_words;
  stack_pointer = G (stack_pointer isa.Amd64);
  callee_saved = callee_saved;
  reserved = reserved_places isa.Amd64;
  link_register = link_place isa.Amd64;
  argument_registers = argument_registers;
  save_area = saved_words;
  trampoline_registers = trampoline_registers isa.Amd64;
  vector_count = Some (G (result_register 0));
  returned_address = Some (G (result_register 0));
  narrow = Widen;
  single = Free;
  copy_start = start;
  placing = placing_of;
}
