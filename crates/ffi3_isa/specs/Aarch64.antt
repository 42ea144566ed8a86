-- Which words are which instruction on aarch64. (Arm Architecture Reference Manual for A-profile, C6.2)
use Rattle.std.specs.Prelude.{◌≡◌, ℕ, ◌+◌, ◌*◌, ◌^◌, ◌<◌, ◌==◌, if◌then◌else◌, pos, ◌-ℤ◌, List, Option, Some, None}
use Rattle.ffi3_isa.specs.declared.Instr.{Instr}
use Rattle.ffi3_isa.specs.declared.Instr.TheVariants.{LdrLit, Adr, Br, Ld, Sd, Fld, Fsd, Addi, Blr}
use Rattle.ffi3_isa.specs.Fields.{sign_extend, first_word}

-- those of which trampolines are made
pub data IsTrampolineWord (word : ℕ) : Instr → Type 0 where
  -- LDR (literal), 64 bits: opc 01, 011, V 0, 00, imm19, Rt; the offset is SignExtend(imm19:'00')
  ldr_literal : {imm19 t : ℕ} → imm19 < 2 ^ 19 → t < 32 → word ≡ 0b01011000 * 2 ^ 24 + imm19 * 2 ^ 5 + t
      → IsTrampolineWord word (LdrLit t (sign_extend 21 (imm19 * 4)))
  -- ADR: op 0, immlo, 10000, immhi, Rd; the offset is SignExtend(immhi:immlo)
  adr : {immlo immhi rd : ℕ}
      → immlo < 4 → immhi < 2 ^ 19 → rd < 32 → word ≡ immlo * 2 ^ 29 + 0b10000 * 2 ^ 24 + immhi * 2 ^ 5 + rd
      → IsTrampolineWord word (Adr rd (sign_extend 21 (immhi * 4 + immlo)))
  -- BR: 1101011, Z 0, 0, op 00, 11111, 0000, A 0, M 0, Rn, Rm 00000
  br : {n : ℕ} → n < 32 → word ≡ 0b1101011000011111000000 * 2 ^ 10 + n * 2 ^ 5 → IsTrampolineWord word (Br n)

-- the word has an immediate of 12 bits, Rn, and Rt or Rd
pub record IsImmediate (word op imm12 n t : ℕ) : Type 0 where
  pub imm_in_range : imm12 < 2 ^ 12
  pub n_in_range : n < 32
  pub t_in_range : t < 32
  pub is_word : word ≡ op * 2 ^ 22 + imm12 * 2 ^ 10 + n * 2 ^ 5 + t

-- by the upper ten bits: LDR, STR (immediate, unsigned offset), 64 bits, of X and of D; ADD, SUB (immediate), 64 bits, not shifted
abbrev pub immediate : ℕ → ℕ → ℕ → ℕ → Option Instr
immediate op imm12 n t =
    if op == 0b1111100101
    then Some (Ld t n (pos (8 * imm12)))
    else (if op == 0b1111100100
    then Some (Sd t n (pos (8 * imm12)))
    else (if op == 0b1111110101
    then Some (Fld t n (pos (8 * imm12)))
    else (if op == 0b1111110100
    then Some (Fsd t n (pos (8 * imm12)))
    else (if op == 0b1001000100
    then Some (Addi t n (pos imm12))
    else (if op == 0b1101000100
    then Some (Addi t n (pos 0 -ℤ pos imm12))
    else None)))))

-- those of which stubs are made besides
pub data IsStubWord (word : ℕ) : Instr → Type 0 where
  based : {op imm12 n t : ℕ} {i : Instr} → IsImmediate word op imm12 n t → immediate op imm12 n t ≡ Some i
      → IsStubWord word i
  -- BLR: 1101011, Z 0, 0, op 01, 11111, 0000, A 0, M 0, Rn, Rm 00000
  blr : {n : ℕ} → n < 32 → word ≡ 0b1101011000111111000000 * 2 ^ 10 + n * 2 ^ 5 → IsStubWord word (Blr n)
  -- RET: op 10
  ret : {n : ℕ} → n < 32 → word ≡ 0b1101011001011111000000 * 2 ^ 10 + n * 2 ^ 5 → IsStubWord word (Br n)

pub data IsAarch64Word (word : ℕ) : Instr → Type 0 where
  trampoline : {i : Instr} → IsTrampolineWord word i → IsAarch64Word word i
  stub : {i : Instr} → IsStubWord word i → IsAarch64Word word i

-- the bytes begin with the instruction, which has so many bytes
pub record IsAarch64 (bytes : List ℕ) (instr : Instr) (size : ℕ) : Type 0 where
  pub word : ℕ
  pub begins : first_word bytes ≡ Some word
  pub means : IsAarch64Word word instr
  pub is_size : size ≡ 4
