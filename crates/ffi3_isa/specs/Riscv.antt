-- Which words are which instruction on RISC-V. (RISC-V unprivileged ISA, 2.2, 2.4, 2.5 and RV64I)
use Rattle.std.specs.Prelude.{◌≡◌, ℕ, ◌+◌, ◌*◌, ◌^◌, ◌<◌, List, Some}
use Rattle.ffi3_isa.specs.declared.Instr.{Instr}
use Rattle.ffi3_isa.specs.declared.Instr.TheVariants.{Auipc, Ld, Jalr, Addi, Sd, Fld, Fsd}
use Rattle.ffi3_isa.specs.Fields.{sign_extend, first_word}

-- the word is an I-type instruction: imm[11:0], rs1, funct3, rd, opcode
pub record IsI (word imm rs1 funct3 rd opcode : ℕ) : Type 0 where
  pub imm_in_range : imm < 2 ^ 12
  pub rs1_in_range : rs1 < 32
  pub rd_in_range : rd < 32
  pub is_word : word ≡ imm * 2 ^ 20 + rs1 * 2 ^ 15 + funct3 * 2 ^ 12 + rd * 2 ^ 7 + opcode

-- the word is a U-type instruction: imm[31:12], rd, opcode
pub record IsU (word imm rd opcode : ℕ) : Type 0 where
  pub imm_in_range : imm < 2 ^ 20
  pub rd_in_range : rd < 32
  pub is_word : word ≡ imm * 2 ^ 12 + rd * 2 ^ 7 + opcode

-- the word is an S-type instruction: imm[11:5], rs2, rs1, funct3, imm[4:0], opcode
pub record IsS (word high low rs2 rs1 funct3 opcode : ℕ) : Type 0 where
  pub high_in_range : high < 2 ^ 7
  pub low_in_range : low < 2 ^ 5
  pub rs2_in_range : rs2 < 32
  pub rs1_in_range : rs1 < 32
  pub is_word : word ≡ high * 2 ^ 25 + rs2 * 2 ^ 20 + rs1 * 2 ^ 15 + funct3 * 2 ^ 12 + low * 2 ^ 7 + opcode

pub data IsRiscvWord (word : ℕ) : Instr → Type 0 where
  -- AUIPC: the immediate is the upper 20 bits of an offset of 32
  auipc : {imm rd : ℕ} → IsU word imm rd 0b0010111 → IsRiscvWord word (Auipc rd (sign_extend 32 (imm * 2 ^ 12)))
  -- LD: opcode LOAD, width 011
  ld : {imm rs1 rd : ℕ} → IsI word imm rs1 0b011 rd 0b0000011 → IsRiscvWord word (Ld rd rs1 (sign_extend 12 imm))
  -- JALR
  jalr : {imm rs1 rd : ℕ} → IsI word imm rs1 0b000 rd 0b1100111 → IsRiscvWord word (Jalr rd rs1 (sign_extend 12 imm))
  -- ADDI: opcode OP-IMM, funct3 000
  addi : {imm rs1 rd : ℕ} → IsI word imm rs1 0b000 rd 0b0010011 → IsRiscvWord word (Addi rd rs1 (sign_extend 12 imm))
  -- SD: opcode STORE, width 011
  sd : {high low rs2 rs1 : ℕ} → IsS word high low rs2 rs1 0b011 0b0100011
      → IsRiscvWord word (Sd rs2 rs1 (sign_extend 12 (high * 32 + low)))
  -- FLD: opcode LOAD-FP, width 011 (RISC-V unprivileged ISA, "D" extension)
  fld : {imm rs1 rd : ℕ} → IsI word imm rs1 0b011 rd 0b0000111 → IsRiscvWord word (Fld rd rs1 (sign_extend 12 imm))
  -- FSD: opcode STORE-FP, width 011
  fsd : {high low rs2 rs1 : ℕ} → IsS word high low rs2 rs1 0b011 0b0100111
      → IsRiscvWord word (Fsd rs2 rs1 (sign_extend 12 (high * 32 + low)))

-- the bytes begin with the instruction, which has so many bytes
pub record IsRiscv (bytes : List ℕ) (instr : Instr) (size : ℕ) : Type 0 where
  pub word : ℕ
  pub begins : first_word bytes ≡ Some word
  pub means : IsRiscvWord word instr
  pub is_size : size ≡ 4
