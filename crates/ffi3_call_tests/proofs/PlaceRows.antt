-- Worked lines of place on AMD64, computed.
use Rattle.std.specs.Prelude.{◌≡◌, ℕ, List, [], ◌∷◌, ◌++◌, refl, None, Some, codes}
use Rattle.std.specs.Fmt.{digits}
use Rattle.ffi3_type_spec.specs.Tree.{Tree, void, scalar, struct_of, s8, s32, u64, s64, u128, float, double, pointer}
use Rattle.ffi3_type_spec.specs.Layout.{least_multiple}
use Rattle.ffi3_type_spec.specs.Signature.{Signature, at_result, at_argument}
use Rattle.ffi3_amd64_spec.specs.Amd64.{amd64}
use Rattle.ffi3_text_spec.specs.PlaceLines.{place_text_of, sig_text_of}

abbrev sig_of : Tree → List Tree → Signature
sig_of r a = record { result_type = r; arguments = a; fixed = None }

abbrev a_line : List ℕ → List ℕ
a_line text = text ++ 10 ∷ []

abbrev integer_and_float : Signature
integer_and_float = sig_of void (struct_of (scalar s32 ∷ scalar float ∷ []) ∷ [])

pub one_eightbyte-sig : sig_text_of 0 amd64 integer_and_float ≡ a_line (codes "sig 0 need 80 frame 0 block 16 rax 0")
unfolding least_multiple digits
one_eightbyte-sig = refl

pub one_eightbyte-argument : place_text_of amd64 integer_and_float (at_argument 0) ≡ a_line (codes "arg 0 rdi:0+8")
unfolding least_multiple digits
one_eightbyte-argument = refl

pub one_eightbyte-result : place_text_of amd64 integer_and_float at_result ≡ a_line (codes "ret void")
unfolding least_multiple digits
one_eightbyte-result = refl

-- five sint64, a struct of two and a sint64: the struct goes whole to the stack
abbrev integer : Tree
integer = scalar s64

abbrev pair : Tree
pair = struct_of (integer ∷ integer ∷ [])

abbrev pair_after_five : Signature
pair_after_five =
    sig_of void (integer ∷ integer ∷ integer ∷ integer ∷ integer ∷ pair ∷ integer ∷ [])

pub pair_after_five-sig : sig_text_of 0 amd64 pair_after_five ≡ a_line (codes "sig 0 need 144 frame 16 block 64 rax 0")
unfolding least_multiple digits
pair_after_five-sig = refl

pub pair_after_five-last : place_text_of amd64 pair_after_five (at_argument 4) ≡ a_line (codes "arg 4 r8:0+8")
unfolding least_multiple digits
pair_after_five-last = refl

pub pair_after_five-pair : place_text_of amd64 pair_after_five (at_argument 5) ≡ a_line (codes "arg 5 stack0:0+16")
unfolding least_multiple digits
pair_after_five-pair = refl

pub pair_after_five-next : place_text_of amd64 pair_after_five (at_argument 6) ≡ a_line (codes "arg 6 r9:0+8")
unfolding least_multiple digits
pair_after_five-next = refl

-- seven sint64, an integer of 128 bits and a sint64: it begins at a multiple of 16 on the stack
abbrev wide_after_seven : Signature
wide_after_seven =
    sig_of void (integer ∷ integer ∷ integer ∷ integer ∷ integer ∷ integer ∷ integer ∷ scalar u128 ∷ integer ∷ [])

pub wide_after_seven-sig : sig_text_of 0 amd64 wide_after_seven ≡ a_line (codes "sig 0 need 192 frame 48 block 80 rax 0")
unfolding least_multiple digits
wide_after_seven-sig = refl

pub wide_after_seven-wide : place_text_of amd64 wide_after_seven (at_argument 7) ≡ a_line (codes "arg 7 stack16:0+16")
unfolding least_multiple digits
wide_after_seven-wide = refl

pub wide_after_seven-next : place_text_of amd64 wide_after_seven (at_argument 8) ≡ a_line (codes "arg 8 stack32:0+8")
unfolding least_multiple digits
wide_after_seven-next = refl

-- a struct over two eightbytes: in the caller's buffer as a result, on the stack as an argument
abbrev triple : Tree
triple = struct_of (scalar u64 ∷ scalar u64 ∷ scalar u64 ∷ [])

pub hidden-sig : sig_text_of 0 amd64 (sig_of triple []) ≡ a_line (codes "sig 0 need 96 frame 32 block 0 rax 0")
unfolding least_multiple digits
hidden-sig = refl

pub hidden-result : place_text_of amd64 (sig_of triple []) at_result ≡ a_line (codes "ret hidden rdi buffer 0")
unfolding least_multiple digits
hidden-result = refl

pub in_memory-sig : sig_text_of 0 amd64 (sig_of void (triple ∷ scalar s8 ∷ [])) ≡ a_line (codes "sig 0 need 128 frame 32 block 32 rax 0")
unfolding least_multiple digits
in_memory-sig = refl

pub in_memory-first : place_text_of amd64 (sig_of void (triple ∷ scalar s8 ∷ [])) (at_argument 0) ≡ a_line (codes "arg 0 stack0:0+24")
unfolding least_multiple digits
in_memory-first = refl

pub in_memory-second : place_text_of amd64 (sig_of void (triple ∷ scalar s8 ∷ [])) (at_argument 1) ≡ a_line (codes "arg 1 rdi:0+1")
unfolding least_multiple digits
in_memory-second = refl

-- sint32(pointer;double)
abbrev variadic : Signature
variadic =
    record { result_type = scalar s32; arguments = scalar pointer ∷ scalar double ∷ []; fixed = Some 1 }

pub variadic-sig : sig_text_of 0 amd64 variadic ≡ a_line (codes "sig 0 need 80 frame 0 block 16 rax 1")
unfolding least_multiple digits
variadic-sig = refl

pub variadic-second : place_text_of amd64 variadic (at_argument 1) ≡ a_line (codes "arg 1 xmm0:0+8")
unfolding least_multiple digits
variadic-second = refl

pub variadic-result : place_text_of amd64 variadic at_result ≡ a_line (codes "ret rax:0+4")
unfolding least_multiple digits
variadic-result = refl
