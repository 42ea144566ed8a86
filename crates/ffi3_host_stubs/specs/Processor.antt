-- A processor with memory at every address, and what one instruction does to it. (Intel 64 and IA-32 Architectures Software Developer's Manual, volume 2; Arm Architecture Reference Manual for A-profile, C6.2; RISC-V unprivileged ISA, 2.4 to 2.6, RV64I and "D")
use Rattle.std.specs.Prelude.{◌≡◌, ℕ, zero, suc, ⊤, ◌+◌, ◌-◌, ◌*◌, ◌%◌, ◌<◌, ◌≤◌, ◌⊎◌, Bool, ◌&&◌, ◌==◌, if◌then◌else◌, nat_le, nat_lt}
use Rattle.std.specs.Prelude.{pos, negsuc, List, [], ◌∷◌, length}
use Rattle.std.specs.Int.{byte_at}
use Rattle.ffi3_machine_spec.specs.Memory.{number_of}
use Rattle.ffi3_type_spec.specs.declared.Isa.{Isa}
use Rattle.ffi3_type_spec.specs.declared.Isa.TheVariants.{Amd64, Aarch64, Riscv}
use Rattle.ffi3_place_spec.specs.MachineRegisters.{is_zero_register, stack_pointer}
use Rattle.ffi3_isa.specs.declared.Instr.{Instr}
use Rattle.ffi3_isa.specs.declared.Instr.TheVariants.{Endbr, Nop, Lea, JmpMem, LdrLit, Adr, Br, Auipc, Ld, Jalr, Addi}
use Rattle.ffi3_isa.specs.declared.Instr.TheVariants.{Sd, Fld, Fsd, CallMem, Ret, Blr}
use Rattle.ffi3_isa.specs.Amd64.{IsAmd64}
use Rattle.ffi3_machine_spec.specs.Encoding.{rex, mod_rm}
use Rattle.ffi3_isa.specs.Aarch64.{IsAarch64}
use Rattle.ffi3_isa.specs.Riscv.{IsRiscv}
use Rattle.ffi3_machine.specs.MachineStep.{moved, even, reads_zero, reads_sp, IsAligned}

-- Register k of each file, of a floating one the low 64 bits, above which loads leave zeros; the stack pointer and pc; the stack's lowest address. At address a stands the byte `code a` where instructions are taken, and `memory a` where they load and store. Code is mapped so that nothing writes it: no store changes what is taken
pub record Processor : Type 0 where
  pub general : ℕ → ℕ
  pub floating : ℕ → ℕ
  pub sp : ℕ
  pub pc : ℕ
  pub limit : ℕ
  pub code : ℕ → ℕ
  pub memory : ℕ → ℕ

-- the addresses of programs lie below: the lower half of 64 bits
abbrev pub half : ℕ
half = 0x8000000000000000

-- so many bytes from an address on
abbrev pub bytes_at : (ℕ → ℕ) → ℕ → ℕ → List ℕ
bytes_at from addr zero = []
bytes_at from addr (suc n) = from addr ∷ bytes_at from (addr + 1) n

-- the number that the eight bytes at an address make
abbrev pub word_at : ℕ → Processor → ℕ
word_at addr s = number_of 8 (bytes_at s.memory addr 8)

-- ---- what changes

-- one value of a function is another
abbrev pub set_at : ℕ → ℕ → (ℕ → ℕ) → ℕ → ℕ
set_at k value f i = if i == k then value else f i

-- whether an address is one of eight
abbrev pub is_within : ℕ → ℕ → Bool
is_within addr a = nat_le addr a && nat_lt a (addr + 8)

-- eight bytes of memory are those of a number, the lowest first
abbrev pub put_word : ℕ → ℕ → (ℕ → ℕ) → ℕ → ℕ
put_word addr value memory a = if is_within addr a then byte_at (a - addr) value else memory a

abbrev pub with_pc : ℕ → Processor → Processor
with_pc pc s = record s { pc = pc }

abbrev pub with_word : ℕ → ℕ → Processor → Processor
with_word addr value s = record s { memory = put_word addr value s.memory }

-- register k, as an instruction sets it that moves or loads; a write to the register that is 0 is dropped
abbrev pub with_register : Isa → ℕ → ℕ → Processor → Processor
with_register isa k value s = record s {
  general = if reads_zero isa k then s.general else (if reads_sp isa k then s.general else set_at k value s.general);
  sp = if reads_sp isa k then value else s.sp;
}

-- register k, as a sum sets it
abbrev pub with_sum : Isa → ℕ → ℕ → Processor → Processor
with_sum isa k value s = record s {
  general = if is_zero_register isa k then s.general else (if k == stack_pointer isa then s.general else set_at k value s.general);
  sp = if k == stack_pointer isa then value else s.sp;
}

abbrev pub with_floating : ℕ → ℕ → Processor → Processor
with_floating k value s = record s { floating = set_at k value s.floating }

-- ---- what is read

-- register k, as an instruction reads it
abbrev pub register : Isa → ℕ → Processor → ℕ
register isa k s = if reads_zero isa k then 0 else (if reads_sp isa k then s.sp else s.general k)

-- register k as the base of an address or of a sum
abbrev pub base : Isa → ℕ → Processor → ℕ
base isa k s = if is_zero_register isa k then 0 else (if k == stack_pointer isa then s.sp else s.general k)

-- the address behind an instruction of so many bytes
abbrev pub next : ℕ → Processor → ℕ
next size s = moved s.pc (pos size)

-- ---- one instruction

-- the processor after it, with its pc behind it unless it jumps
abbrev pub done : Isa → Instr → ℕ → Processor → Processor
done isa Endbr size s = with_pc (next size s) s
done isa Nop size s = with_pc (next size s) s
done isa (Lea reg d) size s = with_pc (next size s) (with_register isa reg (moved (next size s) d) s)
done isa (JmpMem d) size s = with_pc (word_at (moved (next size s) d) s) s
done isa (LdrLit t d) size s = with_pc (next size s) (with_register isa t (word_at (moved s.pc d) s) s)
done isa (Adr rd d) size s = with_pc (next size s) (with_register isa rd (moved s.pc d) s)
done isa (Br n) size s = with_pc (register isa n s) s
done isa (Auipc rd d) size s = with_pc (next size s) (with_register isa rd (moved s.pc d) s)
done isa (Ld rd rs d) size s = with_pc (next size s) (with_register isa rd (word_at (moved (base isa rs s) d) s) s)
done isa (Jalr rd rs d) size s = with_pc (even (moved (register isa rs s) d)) (with_register isa rd (next size s) s)
done isa (Addi rd rs d) size s = with_pc (next size s) (with_sum isa rd (moved (base isa rs s) d) s)
done isa (Sd rd rs d) size s = with_pc (next size s) (with_word (moved (base isa rs s) d) (register isa rd s) s)
done isa (Fld rd rs d) size s = with_pc (next size s) (with_floating rd (word_at (moved (base isa rs s) d) s) s)
done isa (Fsd rd rs d) size s = with_pc (next size s) (with_word (moved (base isa rs s) d) (s.floating rd) s)
done isa (CallMem rs d) size s =
    with_pc (word_at (moved (base isa rs s) d) s)
    (with_word (moved s.sp (negsuc 7)) (next size s) (record s { sp = moved s.sp (negsuc 7) }))
done isa Ret size s = with_pc (word_at s.sp s) (record s { sp = moved s.sp (pos 8) })
done isa (Blr n) size s = with_pc (register isa n s) (with_register isa 30 (next size s) s)

-- ---- what stands at pc

-- MOV r/m64, r64: REX.W 89 /r with mod 11, from register 8 r + reg to register 8 b + rm. It is a sum with 0
pub record IsMove (bytes : List ℕ) (instr : Instr) (size : ℕ) : Type 0 where
  pub r : ℕ
  pub reg : ℕ
  pub b : ℕ
  pub rm : ℕ
  pub rest : List ℕ
  pub r_in_range : r < 2
  pub reg_in_range : reg < 8
  pub b_in_range : b < 2
  pub rm_in_range : rm < 8
  pub is_bytes : bytes ≡ rex 1 r 0 b ∷ 0x89 ∷ mod_rm 3 reg rm ∷ rest
  pub means : instr ≡ Addi (8 * b + rm) (8 * r + reg) (pos 0)
  pub is_size : size ≡ 3

-- AMD64's are those of the model's machine, and the move of a register
pub data IsAmd64Code (bytes : List ℕ) (instr : Instr) (size : ℕ) : Type 0 where
  listed : IsAmd64 bytes instr size → IsAmd64Code bytes instr size
  move_of : IsMove bytes instr size → IsAmd64Code bytes instr size

abbrev pub IsCode : Isa → List ℕ → Instr → ℕ → Type 0
IsCode Amd64 bytes instr size = IsAmd64Code bytes instr size
IsCode Aarch64 bytes instr size = IsAarch64 bytes instr size
IsCode Riscv bytes instr size = IsRiscv bytes instr size

-- the bytes below sp that a signal handler leaves as they are: the red zone (System V psABI AMD64, 3.2.2); elsewhere Linux leaves none
abbrev pub red_zone : Isa → ℕ
red_zone Amd64 = 128
red_zone Aarch64 = 0
red_zone Riscv = 0

-- The eight bytes at an address are not of those that a signal handler may write at any time: the stack's below sp, but the red zone
abbrev pub IsKept : Isa → ℕ → Processor → Type 0
IsKept isa addr s = (addr + 8 ≤ s.limit) ⊎ (s.sp ≤ addr + red_zone isa)

-- what the instruction loads is kept
abbrev pub LoadsKept : Isa → Instr → ℕ → Processor → Type 0
LoadsKept isa (JmpMem d) size s = IsKept isa (moved (next size s) d) s
LoadsKept isa (LdrLit t d) size s = IsKept isa (moved s.pc d) s
LoadsKept isa (Ld rd rs d) size s = IsKept isa (moved (base isa rs s) d) s
LoadsKept isa (Fld rd rs d) size s = IsKept isa (moved (base isa rs s) d) s
LoadsKept isa (CallMem rs d) size s = IsKept isa (moved (base isa rs s) d) s
LoadsKept isa Ret size s = IsKept isa s.sp s
LoadsKept isa _ size s = ⊤

-- where sp must be if it is the base of a load or a store: on AArch64 at a multiple of 16 (Arm ARM, "SP alignment checking")
abbrev pub IsStackAligned : Isa → ℕ → Type 0
IsStackAligned Amd64 sp = ⊤
IsStackAligned Aarch64 sp = sp % 16 ≡ 0
IsStackAligned Riscv sp = ⊤

abbrev pub IsBased : Isa → Instr → Processor → Type 0
IsBased isa (Ld rd rs d) s = rs ≡ stack_pointer isa → IsStackAligned isa s.sp
IsBased isa (Sd rd rs d) s = rs ≡ stack_pointer isa → IsStackAligned isa s.sp
IsBased isa (Fld rd rs d) s = rs ≡ stack_pointer isa → IsStackAligned isa s.sp
IsBased isa (Fsd rd rs d) s = rs ≡ stack_pointer isa → IsStackAligned isa s.sp
IsBased isa _ s = ⊤

-- The instruction that stands at pc takes the processor from one state to the other, and loads nothing that a signal handler may have written
pub record Steps (isa : Isa) (before after : Processor) : Type 0 where
  pub instr : Instr
  pub size : ℕ
  pub window : ℕ
  pub aligned : IsAligned isa before.pc
  pub stands : IsCode isa (bytes_at before.code before.pc window) instr size
  pub based : IsBased isa instr before
  pub kept : LoadsKept isa instr size before
  pub is_after : after ≡ done isa instr size before

-- so many instructions, one after another
abbrev pub TakesSteps : Isa → ℕ → Processor → Processor → Type 0
TakesSteps isa zero before after = after ≡ before
TakesSteps isa (suc n) before after = (between : Processor) × Steps isa before between × TakesSteps isa n between after

-- the bytes stand from an address on where instructions are taken, below the upper half
pub record HasCode (s : Processor) (addr : ℕ) (bytes : List ℕ) : Type 0 where
  pub high : addr + length bytes ≤ half
  pub are : bytes_at s.code addr (length bytes) ≡ bytes
