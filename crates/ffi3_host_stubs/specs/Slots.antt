-- The code of a closure's slot whose data stand a distance behind it. (Intel 64 and IA-32 Architectures Software Developer's Manual, volume 2; Arm Architecture Reference Manual for A-profile, C6.2; RISC-V unprivileged ISA, 2)
use Rattle.std.specs.Prelude.{◌≡◌, ℕ, ◌+◌, ◌-◌, ◌*◌, ◌/◌, ◌%◌, ◌^◌, ◌<◌, ◌≤◌, ◌⊎◌, if◌then◌else◌, nat_le, List, [], ◌∷◌, ◌++◌}
use Rattle.ffi3_type_spec.specs.declared.Isa.{Isa}
use Rattle.ffi3_type_spec.specs.declared.Isa.TheVariants.{Amd64, Aarch64, Riscv}
use Rattle.ffi3_place_spec.specs.MachineRegisters.{closure_register, trampoline_registers}
use Rattle.ffi3_machine_spec.specs.Encoding.{rex, mod_rm}
use Rattle.ffi3_machine.specs.MachineStep.{IsAligned}
use Rattle.ffi3_machine_spec.specs.Stubs.{word, riscv_i}
use Rattle.ffi3_stubs.specs.Calls.{target_of}
use Rattle.ffi3_host_stubs.specs.Processor.{Processor, half, word_at, TakesSteps, HasCode}
use Rattle.ffi3_host_stubs.specs.Calls.{OthersStay}

-- d less n, in so many bits of two's complement
abbrev pub less_by : ℕ → ℕ → ℕ → ℕ
less_by width d n = if nat_le n d then d - n else 2 ^ width - (n - d)

-- where in the data the address stands to which the code goes
abbrev pub entry_at : Isa → ℕ
entry_at Amd64 = 24
entry_at Aarch64 = 16
entry_at Riscv = 16

-- The slot's own address and d make that of its data; d is 0 where they stand in the slot.
-- AMD64: endbr64; lea r10, [rip + (d - 11)]; jmp [rip + (d + 7)]; nop of seven bytes
-- AArch64: ldr x16, . + (d + 16); adr x17, . + (d - 4); br x16
-- RISC-V: auipc t1, d / 4096; ld t2, 16(t1); jalr zero, 0(t2); addi zero, zero, 0
unfoldable pub slot_code : Isa → ℕ → List ℕ
slot_code Amd64 d =
    (0xF3 ∷ 0x0F ∷ 0x1E ∷ 0xFA ∷ [])
    ++ (rex 1 1 0 0 ∷ 0x8D ∷ mod_rm 0 2 5 ∷ word (less_by 32 d 11))
    ++ (0xFF ∷ mod_rm 0 4 5 ∷ word (d + 7))
    ++ (0x0F ∷ 0x1F ∷ mod_rm 2 0 0 ∷ word 0)
slot_code Aarch64 d =
    word (0b01011000 * 2 ^ 24 + (d + 16) / 4 * 2 ^ 5 + 16)
    ++ word (0b10000 * 2 ^ 24 + less_by 19 (d / 4) 1 * 2 ^ 5 + 17)
    ++ word (0b1101011000011111000000 * 2 ^ 10 + 16 * 2 ^ 5)
slot_code Riscv d =
    word (d / 4096 * 2 ^ 12 + 6 * 2 ^ 7 + 0b0010111)
    ++ riscv_i 16 6 0b011 7 0b0000011
    ++ riscv_i 0 7 0b000 0 0b1100111
    ++ riscv_i 0 0 0b000 0 0b0010011

-- how far the instructions reach: 32 bits with a sign; 21 bits, in fours; the upper 20 of 32 bits. AMD64's numbers are rounder than they might be, and leave out what is not 0 and less than the code before its first distance
abbrev pub CanReach : Isa → ℕ → Type 0
CanReach Amd64 d = ((d ≡ 0) ⊎ (11 ≤ d)) × (d < 2147483000)
CanReach Aarch64 d = (d % 4 ≡ 0) × (d + 16 < 1048576)
CanReach Riscv d = (d % 4096 ≡ 0) × (d < 2147483648)

pub record HasReached (isa : Isa) (d : ℕ) (before after : Processor) : Type 0 where
  pub closure : after.general (closure_register isa) ≡ before.pc + d
  pub pc : after.pc ≡ target_of isa (word_at (before.pc + d + entry_at isa) before)
  pub others : OthersStay (trampoline_registers isa) before after
  pub sp : after.sp ≡ before.sp
  pub memory : after.memory ≡ before.memory
  pub limit : after.limit ≡ before.limit
  pub code : after.code ≡ before.code

-- Wherever the bytes stand, with their data outside the stack or not below sp: three instructions lead where the data say, with the address of the data in the closure's register
abbrev pub Reaches : Isa → ℕ → List ℕ → Type 0
Reaches isa d bytes =
    (s : Processor) → IsAligned isa s.pc → HasCode s s.pc bytes → s.pc + d + 64 ≤ half
    → (s.pc + d + 64 ≤ s.limit) ⊎ (s.sp ≤ s.pc + d) → word_at (s.pc + d + entry_at isa) s ≤ half → (t : Processor) × TakesSteps isa 3 s t × HasReached isa d s t
