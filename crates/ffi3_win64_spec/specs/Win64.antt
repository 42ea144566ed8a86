-- Where the arguments and the result of a call stand by the Microsoft x64 calling convention. (Microsoft, "x64 calling convention": each rule names its section, "Calling convention defaults", "Parameter passing", "Varargs", "Return values" or "Caller/callee saved registers"; the stack also "x64 stack usage", "Stack allocation". Integer names keep the sizes that they have on the other targets: `ulong` and `slong` have 64 bits, where Windows' `long` has 32)
use Rattle.std.specs.Prelude.{ℕ, ◌+◌, ◌*◌, ◌==◌, ◌||◌, Bool, not, ◌&&◌, cond, nat_lt, max, List, [], ◌∷◌, ◌++◌}
use Rattle.std.specs.Prelude.{map, get_or, length, Some, None, is_some}
use Rattle.ffi3_type_spec.specs.declared.Target.TheVariants as target
use Rattle.ffi3_type_spec.specs.declared.Isa.{Isa}
use Rattle.ffi3_type_spec.specs.TargetIsa.{isa_of}
use Rattle.ffi3_type_spec.specs.Tree.{Tree, void}
use Rattle.ffi3_type_spec.specs.Layout.{size_of}
use Rattle.ffi3_type_spec.specs.Integer.{is_floating_type}
use Rattle.ffi3_type_spec.specs.Signature.{Signature}
use Rattle.ffi3_place_spec.specs.declared.Loc.{Loc}
use Rattle.ffi3_place_spec.specs.declared.Loc.TheVariants.{G, F, S}
use Rattle.ffi3_place_spec.specs.declared.Ext.TheVariants.{Free, Widen}
use Rattle.ffi3_place_spec.specs.declared.Piece.{Piece}
use Rattle.ffi3_place_spec.specs.declared.SaveWord.{SaveWord}
use Rattle.ffi3_place_spec.specs.declared.SaveWord.TheVariants.{Register, Hidden}
use Rattle.ffi3_place_spec.specs.MachineRegisters.{pushed_bytes, stack_pointer, reserved_places, link_place}
use Rattle.ffi3_place_spec.specs.MachineRegisters.{trampoline_registers}
use Rattle.ffi3_place_spec.specs.Standard.{Standard, Placing, Spot, in_pieces, by_reference, ResultSpot, no_result}
use Rattle.ffi3_place_spec.specs.Standard.{in_result_pieces, in_buffer, round16}
use Rattle.ffi3_place_spec.specs.Doublewords.{widening}

-- ---- what is passed

-- A value of 1, 2, 4 or 8 bytes is passed as it is: a scalar in one register, a struct as if it were an integer of the same size. ("Parameter passing", on structs of 8, 16, 32 or 64 bits. Void has no bytes, and none of it is passed.)
abbrev pub is_whole_size : ℕ → Bool
is_whole_size n = n == 0 || n == 1 || n == 2 || n == 4 || n == 8

-- An argument that doesn't fit in 8 bytes, or isn't 1, 2, 4 or 8 bytes, is passed by reference: a pointer to memory that the caller allocates. So are 16-byte arguments, among them a 128-bit integer, and the long double of x87's format that GCC has for Windows. ("Calling convention defaults"; "Parameter passing", on structs of other sizes. Microsoft's document names neither: that they go by their size is this library's rule, and GCC's.)
abbrev pub is_copied : Tree → Bool
is_copied t = not (is_whole_size (size_of t))

-- ---- positions: there is a strict one-to-one correspondence between the arguments of a call and the registers used for them, and a single argument is never spread across several. ("Calling convention defaults")

-- Integers in the leftmost four positions are passed in rcx, rdx, r8 and r9, from left to right. ("Parameter passing")
abbrev pub general_arguments : List ℕ
general_arguments = 1 ∷ 2 ∷ 8 ∷ 9 ∷ []

abbrev pub general_argument : ℕ → ℕ
general_argument p = get_or general_arguments p 0

-- The general register of a position. The fifth argument and those after it are passed on the stack, each in eight bytes, behind the space for the first four. ("Parameter passing"; "Calling convention defaults": after the shadow store)
abbrev pub position_place : ℕ → Loc
position_place p = cond (nat_lt p 4) (G (general_argument p)) (S (8 * p) 8)

-- A float or a double in the first four positions is passed in xmm0 to xmm3, depending on the position. ("Parameter passing") Of a function with variable arguments both the integer register and the floating-point register must contain the value. ("Varargs". That the named arguments are passed so too, and that the integer register comes first, is this library's rule.)
abbrev pub floating_places : Bool → ℕ → List Loc
floating_places variadic p = cond variadic (G (general_argument p) ∷ F p ∷ []) (F p ∷ [])

-- the places of an argument that is passed as it is
abbrev pub argument_places : Bool → ℕ → Tree → List Loc
argument_places variadic p t =
    cond (is_floating_type t && nat_lt p 4) (floating_places variadic p) (position_place p ∷ [])

-- all of a value in one place
abbrev pub whole : Loc → Tree → Piece
whole at t = record { loc = at; off = 0; len = size_of t; ext = widening t }

-- all of it in each of its places
abbrev pub whole_in : Tree → List Loc → List Piece
whole_in t places = map (λ at. whole at t) places

abbrev pub argument_pieces : Bool → ℕ → Tree → List Piece
argument_pieces variadic p t = whole_in t (argument_places variadic p t)

-- the argument in position p
abbrev pub spot_at : Bool → ℕ → Tree → Spot
spot_at variadic p t =
    cond (is_copied t) (by_reference (position_place p)) (in_pieces (argument_pieces variadic p t))

-- the arguments in the positions from p on
abbrev pub spots_from : Bool → ℕ → List Tree → List Spot
spots_from variadic p [] = []
spots_from variadic p (t ∷ ts) = spot_at variadic p t ∷ spots_from variadic (p + 1) ts

-- ---- results

-- A result of other sizes is returned in memory that the caller allocates, whose address is passed as the first argument: the remaining arguments are shifted one argument to the right. ("Return values". So is a 128-bit integer, by this library's rule.)
abbrev pub first_position : Tree → ℕ
first_position result_type = cond (is_copied result_type) 1 0

-- A scalar that fits into 64 bits, and a struct of 8, 16, 32 or 64 bits, is returned in rax; a float or a double in xmm0. ("Return values")
abbrev pub result_place : Tree → Loc
result_place t = cond (is_floating_type t) (F 0) (G 0)

abbrev pub result_spot_of : Tree → ResultSpot
result_spot_of void = no_result
result_spot_of t =
    cond (is_copied t) (in_buffer (position_place 0)) (in_result_pieces (whole (result_place t) t ∷ []))

-- ---- all of a signature

-- Eight bytes of stack for each position, and for four at least: the caller must always allocate space to store four register parameters, even if the callee doesn't take that many. The first 32 bytes are the shadow store, or home area, the callee's own. ("Calling convention defaults"; "x64 stack usage", "Stack allocation")
abbrev pub stack_of : ℕ → ℕ
stack_of positions = 8 * max 4 positions

-- Memory that the caller allocates for a value passed by reference is aligned to 16 bytes. ("Parameter passing". So is a result's buffer, by this library's rule.)
abbrev pub copy_start : ℕ → Tree → ℕ
copy_start end t = round16 end

abbrev pub placing_of : Signature → Placing
placing_of s = record {
  arguments = spots_from (is_some s.fixed) (first_position s.result_type) s.arguments;
  result_spot = result_spot_of s.result_type;
  stack_bytes = stack_of (first_position s.result_type + length s.arguments);
  vector_registers = 0;
}

-- ---- registers by their roles

abbrev machine : Isa
machine = isa_of target.Win64

-- the general registers of arguments, and xmm0 to xmm3 ("Calling convention defaults")
abbrev pub argument_registers : List Loc
argument_registers = map G general_arguments ++ F 0 ∷ F 1 ∷ F 2 ∷ F 3 ∷ []

-- nonvolatile: rbx, rbp, rdi, rsi, r12 to r15, and xmm6 to xmm15. ("Caller/callee saved registers". A callee keeps all 128 bits of a vector register; the machine here has the low 64 alone.)
abbrev pub nonvolatile : List Loc
nonvolatile =
    G 3 ∷ G 5 ∷ G 7 ∷ G 6 ∷ G 12 ∷ G 13 ∷ G 14 ∷ G 15
    ∷ F 6 ∷ F 7 ∷ F 8 ∷ F 9 ∷ F 10 ∷ F 11 ∷ F 12 ∷ F 13 ∷ F 14 ∷ F 15 ∷ []

-- Each of them, and above them the address of a hidden result. (Their order in the save area is this library's rule.)
abbrev pub saved_words : List SaveWord
saved_words = map Register nonvolatile ++ Hidden ∷ []

-- The pointer to a result in memory must be returned by the callee in rax. ("Return values") No register tells the number of vector registers. (A lone narrow integer is extended by its sign, which is this library's rule: by the standard the callee ignores the upper bits of an argument, "Parameter passing", and those of a result are undefined, "Return values".)
abbrev pub win64 : Standard
win64 = record {
  target = target.Win64;
  link = pushed_bytes machine;
  save = 8 * length saved_words;
  stack_pointer = G (stack_pointer machine);
  callee_saved = nonvolatile;
  reserved = reserved_places machine;
  link_register = link_place machine;
  argument_registers = argument_registers;
  save_area = saved_words;
  trampoline_registers = trampoline_registers machine;
  vector_count = None;
  returned_address = Some (G 0);
  narrow = Widen;
  single = Free;
  copy_start = copy_start;
  placing = placing_of;
}
