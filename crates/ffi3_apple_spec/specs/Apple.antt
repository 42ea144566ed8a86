-- Where the arguments and the result of a call stand on Apple's AArch64 platforms: as AAPCS64 has them, but for how the stack is filled, for variadic arguments and for types of alignment 16. (Apple, "Writing ARM64 code for Apple platforms": each rule names its section. All else is Arm AAPCS64, IHI 0055. What neither says is as clang 16 has it for arm64-apple-macos.)
use Rattle.std.specs.Prelude.{ℕ, ◌+◌, ◌-◌, ◌*◌, Bool, true, not, ◌&&◌, ◌||◌, cond, nat_le, nat_lt, min, List, [], ◌∷◌}
use Rattle.std.specs.Prelude.{Option, Some, None}
use Rattle.ffi3_type_spec.specs.declared.Target.TheVariants as target
use Rattle.ffi3_type_spec.specs.Tree.{Tree}
use Rattle.ffi3_type_spec.specs.Layout.{size_of, align_of, least_multiple}
use Rattle.ffi3_type_spec.specs.Signature.{Signature}
use Rattle.ffi3_place_spec.specs.declared.Loc.TheVariants.{S}
use Rattle.ffi3_place_spec.specs.declared.Ext.TheVariants.{Free}
use Rattle.ffi3_place_spec.specs.declared.Piece.{Piece}
use Rattle.ffi3_place_spec.specs.declared.Taken.{Taken}
use Rattle.ffi3_place_spec.specs.Standard.{Standard, Placing, Spot, in_pieces, start}
use Rattle.ffi3_place_spec.specs.Doublewords.{doublewords, doublewords_at}
use Rattle.ffi3_aapcs64_spec.specs.Aapcs64.{aapcs64, is_composite, in_vectors, passed, registers_needed, register_spot}
use Rattle.ffi3_aapcs64_spec.specs.Aapcs64.{stack_size as rounded_size, stack_spot as rounded_spot, untouched}
use Rattle.ffi3_aapcs64_spec.specs.Aapcs64.{result_spot_of}

-- whether the argument of this number is named, not variadic
abbrev pub is_named : Option ℕ → ℕ → Bool
is_named None i = true
is_named (Some n) i = nat_lt i n

-- ---- the stack

-- A named argument may take slots that are no multiples of eight bytes: a scalar or an HFA takes its own size, at a multiple of its own alignment. Any other struct takes doublewords, and so does each variadic argument. ("Pass arguments to functions correctly"; "Update code that passes arguments to variadic functions": at 8-byte boundaries. That a struct which is no HFA takes doublewords is clang's.)
abbrev pub is_packed : Bool → Tree → Bool
is_packed named t = named && (in_vectors t || not (is_composite t))

-- where an argument begins on the stack, where what stands before it ends
abbrev pub stack_start : Bool → ℕ → Tree → ℕ
stack_start named end t =
    cond (is_packed named t) (least_multiple (align_of t) end) (start end (passed t))

-- how much of the stack it takes
abbrev pub stack_size : Bool → Tree → ℕ
stack_size named t = cond (is_packed named t) (size_of t) (rounded_size t)

-- a value on the stack, from a byte on, in places that have its own bytes alone
abbrev pub packed_pieces : ℕ → Tree → List Piece
packed_pieces first t =
    doublewords_at (λ j. S (first + 8 * j) (min 8 (size_of t - 8 * j))) (size_of t) Free 0 (doublewords t)

-- an argument, or the pointer to its copy, on the stack from a byte on
abbrev pub stack_spot : Bool → ℕ → Tree → Spot
stack_spot named first t =
    cond (is_packed named t) (in_pieces (packed_pieces first t)) (rounded_spot first t)

-- ---- arguments: stage C of AAPCS64

-- An argument's first register, by its kind: also one of alignment 16 may begin in an odd-numbered register. ("Pass arguments to functions correctly", in place of C.10)
abbrev pub register_start : Taken → Tree → ℕ
register_start before t = cond (in_vectors t) before.vector before.general

-- its registers end past 8 where those left do not suffice, so that no register of the kind is used any more
abbrev pub register_end : Taken → Tree → ℕ
register_end before t = register_start before t + registers_needed t

-- A variadic argument is on the stack, whatever registers are left. ("Update code that passes arguments to variadic functions")
abbrev pub in_registers : Bool → Taken → Tree → Bool
in_registers named before t = named && nat_le (register_end before t) 8

abbrev pub stack_end : Bool → Taken → Tree → ℕ
stack_end named before t = stack_start named before.stack t + stack_size named t

-- the registers are counted on behind the named arguments too, where none is used
abbrev pub taken_with : Bool → Taken → Tree → Taken
taken_with named before t = record {
  general = cond (in_vectors t) before.general (register_end before t);
  vector = cond (in_vectors t) (register_end before t) before.vector;
  stack = cond (in_registers named before t) before.stack (stack_end named before t);
}

abbrev pub spot_after : Bool → Taken → Tree → Spot
spot_after named before t =
    cond (in_registers named before t)
    (register_spot (register_start before t) t)
    (stack_spot named (stack_start named before.stack t) t)

-- the arguments from number i on
abbrev pub spots_after : Option ℕ → Taken → ℕ → List Tree → List Spot
spots_after fixed before i [] = []
spots_after fixed before i (t ∷ ts) =
    spot_after (is_named fixed i) before t ∷ spots_after fixed (taken_with (is_named fixed i) before t) (i + 1) ts

abbrev pub taken_after : Option ℕ → Taken → ℕ → List Tree → Taken
taken_after fixed before i [] = before
taken_after fixed before i (t ∷ ts) =
    taken_after fixed (taken_with (is_named fixed i) before t) (i + 1) ts

-- ---- the standard

abbrev pub placing_of : Signature → Placing
placing_of s = record {
  arguments = spots_after s.fixed untouched 0 s.arguments;
  result_spot = result_spot_of s.result_type;
  stack_bytes = (taken_after s.fixed untouched 0 s.arguments).stack;
  vector_registers = 0;
}

-- Registers have their roles of AAPCS64; x18 is the platform's, and x29 the frame pointer, which a callee gives back. ("Respect the purpose of specific CPU registers") The caller extends a lone narrow integer to 32 bits, and the callee a result ("Pass arguments to functions correctly"): here it is extended to 64, as by AAPCS64, which is right for both.
abbrev pub apple : Standard
apple = record aapcs64 { target = target.Apple; placing = placing_of }
