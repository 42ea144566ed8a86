-- The bytes of a slot, which are a closure's trampoline and its data, and the code region that holds those of a map of closures. (libffi manual, "The Closure API"; Intel 64 and IA-32 Architectures Software Developer's Manual, volume 2; Arm Architecture Reference Manual for A-profile, C6.2; RISC-V unprivileged ISA, 2)
use Rattle.std.specs.Prelude.{◌≡◌, ℕ, ◌*◌, ◌<◌, List, [], ◌∷◌, ◌++◌, length, take, drop, replicate, slice_index_or}
use Rattle.std.specs.Prelude.{Option, Some, None, is_some, count_by}
use Rattle.std.specs.Int.{w64, to_le_bytes}
use Rattle.ffi3_type_spec.specs.declared.Target.{Target}
use Rattle.ffi3_type_spec.specs.declared.Isa.{Isa}
use Rattle.ffi3_type_spec.specs.declared.Isa.TheVariants.{Amd64, Aarch64, Riscv}
use Rattle.ffi3_type_spec.specs.TargetIsa.{isa_of}
use Rattle.ffi3_type_spec.specs.declared.limits.TheConstants.{ENTRY}
use Rattle.ffi3_machine_spec.specs.State.{free_slot}
use Rattle.ffi3_semantics_spec.specs.declared.Closure.{Closure}
use Rattle.ffi3_semantics_spec.specs.Closures.{Closures, slots, slot_bytes}

-- AMD64: endbr64; lea r10, [rip - 11]; jmp [rip + 7]; nop of seven bytes
-- AArch64: ldr x16, .+16; adr x17, .-4; br x16
-- RISC-V: auipc t1, 0; ld t2, 16(t1); jalr zero, 0(t2); addi zero, zero, 0
unfoldable pub trampoline : Isa → List ℕ
trampoline Amd64 =
    (0xF3 ∷ 0x0F ∷ 0x1E ∷ 0xFA ∷ [])
    ++ (0x4C ∷ 0x8D ∷ 0x15 ∷ 0xF5 ∷ 0xFF ∷ 0xFF ∷ 0xFF ∷ [])
    ++ (0xFF ∷ 0x25 ∷ 0x07 ∷ 0x00 ∷ 0x00 ∷ 0x00 ∷ [])
    ++ (0x0F ∷ 0x1F ∷ 0x80 ∷ 0x00 ∷ 0x00 ∷ 0x00 ∷ 0x00 ∷ [])
trampoline Aarch64 =
    (0x90 ∷ 0x00 ∷ 0x00 ∷ 0x58 ∷ [])
    ++ (0xF1 ∷ 0xFF ∷ 0xFF ∷ 0x10 ∷ [])
    ++ (0x00 ∷ 0x02 ∷ 0x1F ∷ 0xD6 ∷ [])
trampoline Riscv =
    (0x17 ∷ 0x03 ∷ 0x00 ∷ 0x00 ∷ [])
    ++ (0x83 ∷ 0x33 ∷ 0x03 ∷ 0x01 ∷ [])
    ++ (0x67 ∷ 0x80 ∷ 0x03 ∷ 0x00 ∷ [])
    ++ (0x13 ∷ 0x00 ∷ 0x00 ∷ 0x00 ∷ [])

-- the first 32 bytes of a slot that is live: the code, and ENTRY where the code loads it from
unfoldable pub slot_head : Isa → List ℕ
slot_head Amd64 = trampoline Amd64 ++ to_le_bytes w64 ENTRY
slot_head Aarch64 = trampoline Aarch64 ++ replicate 4 0 ++ to_le_bytes w64 ENTRY ++ replicate 8 0
slot_head Riscv = trampoline Riscv ++ to_le_bytes w64 ENTRY ++ replicate 8 0

-- function, signature and user data at 32, 40 and 48, each of 8 bytes
unfoldable pub slot_tail : Closure → List ℕ
slot_tail c = to_le_bytes w64 c.func ++ to_le_bytes w64 c.sig ++ to_le_bytes w64 c.user ++ replicate 8 0

-- the 64 bytes of a slot that is live
abbrev pub live_slot : Isa → Closure → List ℕ
live_slot isa c = slot_head isa ++ slot_tail c

-- the 64 bytes of a slot, by the map's entry
abbrev pub slot_content : Isa → Option Closure → List ℕ
slot_content isa None = free_slot isa
slot_content isa (Some c) = live_slot isa c

-- how many closures are live
abbrev pub live_count : Closures → ℕ
live_count closures = count_by is_some closures

-- the code region holds the bytes of the map
pub record HoldsMap (target : Target) (closures : Closures) (code : List ℕ) : Type 0 where
  pub region : length code ≡ slots * slot_bytes
  pub slot : (k : ℕ) → k < slots
      → take slot_bytes (drop (slot_bytes * k) code) ≡ slot_content (isa_of target) (slice_index_or closures k None)
