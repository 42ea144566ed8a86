-- What an instruction set's machine has: its registers by number, and what a call and a closure's trampoline do with them. (System V psABI AMD64, "Register Usage"; Arm AAPCS64 6.1.1 and 6.1.2; RISC-V ELF psABI, "Integer Register Convention" and "Floating-point Register Convention")
use Rattle.std.specs.Prelude.{ℕ, ◌+◌, ◌*◌, Bool, false, ◌==◌, ◌≡◌, ⊤, List, [], ◌∷◌, map, Option}
use Rattle.std.specs.Prelude.{Some, None, option_map, ◌-◌, ◌&&◌, cond, nat_le, nat_lt}
use Rattle.std.specs.List.{list_any}
use Rattle.ffi3_type_spec.specs.declared.Isa.{Isa}
use Rattle.ffi3_type_spec.specs.declared.Isa.TheVariants.{Amd64, Aarch64, Riscv}
use Rattle.ffi3_place_spec.specs.declared.Loc.{Loc}
use Rattle.ffi3_place_spec.specs.declared.Loc.TheVariants.{G, F, S}

-- how many general registers have a number: rax to r15; x0 to x30; zero to t6
abbrev pub general_registers : Isa → ℕ
general_registers Amd64 = 16
general_registers Aarch64 = 31
general_registers Riscv = 32

-- how many floating registers: xmm0 to xmm15; v0 to v31; ft0 to ft11
abbrev pub floating_registers : Isa → ℕ
floating_registers Amd64 = 16
floating_registers Aarch64 = 32
floating_registers Riscv = 32

-- the number of the stack pointer: rsp; the 31 that means sp; x2
abbrev pub stack_pointer : Isa → ℕ
stack_pointer Amd64 = 4
stack_pointer Aarch64 = 31
stack_pointer Riscv = 2

-- what a call leaves on the stack: AMD64 pushes the return address of eight bytes
abbrev pub pushed_bytes : Isa → ℕ
pushed_bytes Amd64 = 8
pushed_bytes Aarch64 = 0
pushed_bytes Riscv = 0

-- the register in which a call leaves the return address: x30; ra
abbrev pub link_register : Isa → Option ℕ
link_register Amd64 = None
link_register Aarch64 = Some 30
link_register Riscv = Some 1

-- the registers that neither side of a call writes: the platform register x18; zero, gp and tp
abbrev pub reserved_registers : Isa → List ℕ
reserved_registers Amd64 = []
reserved_registers Aarch64 = 18 ∷ []
reserved_registers Riscv = 0 ∷ 3 ∷ 4 ∷ []

abbrev pub is_reserved : Isa → ℕ → Bool
is_reserved isa k = list_any (λ r. k == r) (reserved_registers isa)

-- the register that is 0 always, so that a write to it is dropped: zero
abbrev pub is_zero_register : Isa → ℕ → Bool
is_zero_register Amd64 k = false
is_zero_register Aarch64 k = false
is_zero_register Riscv k = k == 0

-- the register that holds a closure's address where it is entered: r10; x17; t1
abbrev pub closure_register : Isa → ℕ
closure_register Amd64 = 10
closure_register Aarch64 = 17
closure_register Riscv = 6

-- the register through which a trampoline jumps: x16; t2
abbrev pub jump_register : Isa → Option ℕ
jump_register Amd64 = None
jump_register Aarch64 = Some 16
jump_register Riscv = Some 7

-- ---- further words of the floating file: what a register has beyond the 64 bits that the modelled machine knows of it. They have numbers that no register has, and no stub moves them.

-- Of AMD64 st(0) is 16 and 17, and st(1) 18 and 19: its significand of 64 bits, and its sign and exponent in 16 more (psABI AMD64 3.2.1, figure 3.4; Intel 64 and IA-32 Architectures Software Developer's Manual, volume 1, "x87 FPU Data Registers"). Of AArch64 32 to 39 are the upper halves of v0 to v7 (AAPCS64 6.1.2).
abbrev pub is_further : Isa → ℕ → Bool
is_further Amd64 r = nat_le 16 r && nat_lt r 20
is_further Aarch64 r = nat_le 32 r && nat_lt r 40
is_further Riscv r = false

-- the word of the same register that stands below it: the significand, or the lower half
abbrev pub word_below : Isa → ℕ → Option ℕ
word_below Amd64 r = cond (r == 17) (Some 16) (cond (r == 19) (Some 18) None)
word_below Aarch64 r = cond (nat_le 32 r) (Some (r - 32)) None
word_below Riscv r = None

-- ---- the same as places

-- the two words of st(k)
abbrev pub significand : ℕ → Loc
significand k = F (16 + 2 * k)

abbrev pub sign_and_exponent : ℕ → Loc
sign_and_exponent k = F (17 + 2 * k)

-- the upper half of v(k)
abbrev pub upper_half : ℕ → Loc
upper_half k = F (32 + k)

-- the further words in which arguments are passed
abbrev pub further_arguments : Isa → List Loc
further_arguments Amd64 = []
further_arguments Aarch64 = F 32 ∷ F 33 ∷ F 34 ∷ F 35 ∷ F 36 ∷ F 37 ∷ F 38 ∷ F 39 ∷ []
further_arguments Riscv = []

-- the place alone, or none
abbrev pub to_list : Option Loc → List Loc
to_list (Some at) = at ∷ []
to_list None = []

-- all that a trampoline writes
abbrev pub trampoline_registers : Isa → List Loc
trampoline_registers isa = G (closure_register isa) ∷ to_list (option_map G (jump_register isa))

abbrev pub reserved_places : Isa → List Loc
reserved_places isa = map G (reserved_registers isa)

abbrev pub link_place : Isa → Option Loc
link_place isa = option_map G (link_register isa)

-- a write to the place is not dropped
abbrev pub TakesWrites : Isa → Loc → Type 0
TakesWrites isa (G k) = is_zero_register isa k ≡ false
TakesWrites isa (F k) = ⊤
TakesWrites isa (S n w) = ⊤
