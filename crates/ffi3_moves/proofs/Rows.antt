-- Worked rows, computed.
use Rattle.std.specs.Prelude.{◌≡◌, List, [], ◌∷◌, ◌++◌, refl, replicate, Some, None}
use Rattle.ffi3_type_spec.specs.Tree.{Tree, void, scalar, struct_of, u8, s8, u16, u32, s32, float, double, pointer, x87, binary128}
use Rattle.ffi3_type_spec.specs.Layout.{least_multiple}
use Rattle.ffi3_place_spec.proofs.Worked.{sig_of, variadic_from, triple}
use Rattle.ffi3_amd64_spec.specs.Amd64.{amd64}
use Rattle.ffi3_aapcs64_spec.specs.Aapcs64.{aapcs64}
use Rattle.ffi3_riscv_spec.specs.Riscv.{riscv}
use Rattle.ffi3_win64_spec.specs.Win64.{win64}
use Rattle.ffi3_apple_spec.specs.Apple.{apple}
use Rattle.ffi3_moves.specs.declared.Kind.{Kind}
use Rattle.ffi3_moves.specs.declared.Kind.TheVariants.{Bytes, Zero, Sign, Ones, Number, Address, Behind}
use Rattle.ffi3_moves.specs.declared.Move.{Move}
use Rattle.ffi3_moves.specs.Play.{play}
use Rattle.ffi3_moves.specs.Moves.{store_moves, load_moves, collect_moves, give_moves, hidden_move, returned_at}
use Rattle.std.specs.Prelude.{ℕ}

abbrev row : Kind → ℕ → ℕ → ℕ → ℕ → Move
row k i from to n = record { kind = k; part = i; from = from; to = to; length = n }

-- ---- what moves do: -2, 254, a float of 0, numbers and addresses
signed : play 0 (row Sign 0 0 0 1 ∷ []) (254 ∷ []) (1 ∷ 2 ∷ 3 ∷ 4 ∷ 5 ∷ 6 ∷ 7 ∷ 8 ∷ 9 ∷ []) ≡ 254 ∷ 255 ∷ 255 ∷ 255 ∷ 255 ∷ 255 ∷ 255 ∷ 255 ∷ 9 ∷ []
signed = refl

unsigned : play 0 (row Zero 0 0 0 1 ∷ []) (254 ∷ []) (1 ∷ 2 ∷ 3 ∷ 4 ∷ 5 ∷ 6 ∷ 7 ∷ 8 ∷ 9 ∷ []) ≡ 254 ∷ 0 ∷ 0 ∷ 0 ∷ 0 ∷ 0 ∷ 0 ∷ 0 ∷ 9 ∷ []
unsigned = refl

boxed : play 0 (row Ones 0 1 0 4 ∷ []) (9 ∷ 0 ∷ 0 ∷ 128 ∷ 63 ∷ []) (1 ∷ 2 ∷ 3 ∷ 4 ∷ 5 ∷ 6 ∷ 7 ∷ 8 ∷ []) ≡ 0 ∷ 0 ∷ 128 ∷ 63 ∷ 255 ∷ 255 ∷ 255 ∷ 255 ∷ []
boxed = refl

copied : play 0 (row Bytes 0 1 2 2 ∷ []) (9 ∷ 8 ∷ 7 ∷ 6 ∷ []) (1 ∷ 2 ∷ 3 ∷ 4 ∷ 5 ∷ []) ≡ 1 ∷ 2 ∷ 8 ∷ 7 ∷ 5 ∷ []
copied = refl

addressed : play 4096 (row Number 0 258 0 8 ∷ row Address 0 16 8 8 ∷ []) [] (1 ∷ 1 ∷ 1 ∷ 1 ∷ 1 ∷ 1 ∷ 1 ∷ 1 ∷ 1 ∷ 1 ∷ 1 ∷ 1 ∷ 1 ∷ 1 ∷ 1 ∷ 1 ∷ []) ≡ 2 ∷ 1 ∷ 0 ∷ 0 ∷ 0 ∷ 0 ∷ 0 ∷ 0 ∷ 16 ∷ 16 ∷ 0 ∷ 0 ∷ 0 ∷ 0 ∷ 0 ∷ 0 ∷ []
addressed = refl

-- from an address below the frame nothing comes
elsewhere : play 8 (row Behind 0 0 0 1 ∷ []) (7 ∷ 0 ∷ 0 ∷ 0 ∷ 0 ∷ 0 ∷ 0 ∷ 0 ∷ []) (5 ∷ []) ≡ 5 ∷ []
elsewhere = refl

-- ---- sint32(sint32,uint8) on AMD64: rdi, rsi and rax, which tells that no vector register is used
amd64_store : store_moves amd64 (sig_of (scalar s32) (scalar s32 ∷ scalar u8 ∷ [])) ≡ row Sign 0 0 56 4 ∷ row Zero 1 8 48 1 ∷ row Number 0 0 0 8 ∷ []
unfolding least_multiple
amd64_store = refl

amd64_collect : collect_moves amd64 (sig_of (scalar s32) (scalar s32 ∷ scalar u8 ∷ [])) ≡ row Bytes 0 56 0 4 ∷ row Bytes 1 48 8 1 ∷ []
unfolding least_multiple
amd64_collect = refl

amd64_load : load_moves amd64 (sig_of (scalar s32) (scalar s32 ∷ scalar u8 ∷ [])) ≡ row Bytes 0 0 0 4 ∷ []
unfolding least_multiple
amd64_load = refl

amd64_give : give_moves amd64 (sig_of (scalar s32) (scalar s32 ∷ scalar u8 ∷ [])) ≡ row Sign 0 0 0 4 ∷ []
unfolding least_multiple
amd64_give = refl

-- sint32(pointer;double): xmm0, which rax tells
variadic : store_moves amd64 (variadic_from (scalar s32) (scalar pointer ∷ scalar double ∷ []) 1) ≡ row Bytes 0 0 56 8 ∷ row Bytes 1 8 256 8 ∷ row Number 0 1 0 8 ∷ []
unfolding least_multiple
variadic = refl

-- struct{double,sint32} as argument, in xmm0 and rdi, and as result, in xmm0 and rax
two_classes : store_moves amd64 (sig_of (struct_of (scalar double ∷ scalar s32 ∷ [])) (struct_of (scalar double ∷ scalar s32 ∷ []) ∷ [])) ≡ row Bytes 0 0 256 8 ∷ row Bytes 0 8 56 8 ∷ row Number 0 1 0 8 ∷ []
unfolding least_multiple
two_classes = refl

two_classes_load : load_moves amd64 (sig_of (struct_of (scalar double ∷ scalar s32 ∷ [])) (struct_of (scalar double ∷ scalar s32 ∷ []) ∷ [])) ≡ row Bytes 0 0 8 8 ∷ row Bytes 0 256 0 8 ∷ []
unfolding least_multiple
two_classes_load = refl

-- a hidden result: its address in rdi, given back in rax
amd64_hidden : hidden_move amd64 (sig_of triple []) ≡ Some (row Address 0 0 56 8)
unfolding least_multiple
amd64_hidden = refl

amd64_returned : returned_at amd64 (sig_of triple []) ≡ Some 0
unfolding least_multiple
amd64_returned = refl

-- on AAPCS64 in x8, and no register gives it back
aapcs64_hidden : hidden_move aapcs64 (sig_of triple []) ≡ Some (row Address 0 0 64 8)
unfolding least_multiple
aapcs64_hidden = refl

aapcs64_returned : returned_at aapcs64 (sig_of triple []) ≡ None
unfolding least_multiple
aapcs64_returned = refl

aapcs64_load : load_moves aapcs64 (sig_of triple []) ≡ row Bytes 0 576 0 24 ∷ []
unfolding least_multiple
aapcs64_load = refl

-- void(sint8,double) on AAPCS64: x0 and v0
aapcs64_store : store_moves aapcs64 (sig_of void (scalar s8 ∷ scalar double ∷ [])) ≡ row Sign 0 0 0 1 ∷ row Bytes 1 8 256 8 ∷ []
unfolding least_multiple
aapcs64_store = refl

-- void(uint32,float) on RISC-V: 32 bits are extended by the upper one, and the float has ones above it
riscv_store : store_moves riscv (sig_of void (scalar u32 ∷ scalar float ∷ [])) ≡ row Sign 0 0 80 4 ∷ row Ones 1 8 336 4 ∷ []
unfolding least_multiple
riscv_store = refl

-- three uint64 by reference: a copy at the frame's start, whose address is in a0
riscv_reference : store_moves riscv (sig_of void (triple ∷ [])) ≡ row Bytes 0 0 576 24 ∷ row Address 0 0 80 8 ∷ []
unfolding least_multiple
riscv_reference = refl

riscv_collect : collect_moves riscv (sig_of void (triple ∷ scalar u8 ∷ [])) ≡ row Behind 0 80 0 24 ∷ row Bytes 1 88 24 1 ∷ []
unfolding least_multiple
riscv_collect = refl

-- two of them on Microsoft x64: copies behind the callee's 32 bytes, each at a multiple of 16
win64_reference : store_moves win64 (sig_of void (triple ∷ triple ∷ [])) ≡ row Bytes 0 0 608 24 ∷ row Address 0 32 8 8 ∷ row Bytes 1 24 640 24 ∷ row Address 1 64 16 8 ∷ []
unfolding least_multiple
win64_reference = refl

-- a double where arguments are variable stands in both registers, of which the general one tells it
win64_variadic : collect_moves win64 (variadic_from (scalar s32) (scalar pointer ∷ scalar double ∷ []) 1) ≡ row Bytes 0 8 0 8 ∷ row Bytes 1 264 8 8 ∷ row Bytes 1 16 8 8 ∷ []
unfolding least_multiple
win64_variadic = refl

-- ---- long doubles of 16 bytes: ten of AMD64's are in st(0), significand first
amd64_long_double : load_moves amd64 (sig_of (scalar x87) []) ≡ row Bytes 0 392 8 2 ∷ row Bytes 0 384 0 8 ∷ []
unfolding least_multiple
amd64_long_double = refl

-- and on the stack it has all 16
amd64_long_double_passed : store_moves amd64 (sig_of void (scalar x87 ∷ [])) ≡ row Bytes 0 0 576 8 ∷ row Bytes 0 8 584 8 ∷ row Number 0 0 0 8 ∷ []
unfolding least_multiple
amd64_long_double_passed = refl

-- on AAPCS64 in v0, whose upper half stands behind the words of all registers
aapcs64_long_double : store_moves aapcs64 (sig_of void (scalar binary128 ∷ [])) ≡ row Bytes 0 0 256 8 ∷ row Bytes 0 8 512 8 ∷ []
unfolding least_multiple
aapcs64_long_double = refl

-- ---- on Apple's, behind eight pointers: uint8, uint16 and sint32 stand packed, and no byte between them is written or read
abbrev pointers : List Tree
pointers = replicate 8 (scalar pointer)

abbrev to_registers : List Move
to_registers =
    row Bytes 0 0 0 8 ∷ row Bytes 1 8 8 8 ∷ row Bytes 2 16 16 8 ∷ row Bytes 3 24 24 8 ∷ row Bytes 4 32 32 8 ∷ row Bytes 5 40 40 8 ∷ row Bytes 6 48 48 8 ∷ row Bytes 7 56 56 8 ∷ []

apple_packed : store_moves apple (sig_of void (pointers ++ scalar u8 ∷ scalar u16 ∷ scalar s32 ∷ [])) ≡ to_registers ++ row Bytes 8 64 576 1 ∷ row Bytes 9 72 578 2 ∷ row Bytes 10 80 580 4 ∷ []
unfolding least_multiple
apple_packed = refl

-- the same out of eight registers and the stack, where they were written as they are
apple_packed_collect : collect_moves apple (sig_of void (pointers ++ scalar u8 ∷ scalar u16 ∷ scalar s32 ∷ [])) ≡ to_registers ++ row Bytes 8 576 64 1 ∷ row Bytes 9 578 72 2 ∷ row Bytes 10 580 80 4 ∷ []
unfolding least_multiple
apple_packed_collect = refl

-- a variadic double in eight bytes of the stack, whatever registers are left
apple_variadic : store_moves apple (variadic_from (scalar s32) (scalar pointer ∷ scalar double ∷ []) 1) ≡ row Bytes 0 0 0 8 ∷ row Bytes 1 8 576 8 ∷ []
unfolding least_multiple
apple_variadic = refl
