-- Which bytes are which instruction on amd64. (Intel 64 and IA-32 Architectures Software Developer's Manual, volume 2)
use Rattle.std.specs.Prelude.{◌≡◌, ℕ, ◌+◌, ◌*◌, ◌<◌, ◌==◌, if◌then◌else◌, List, [], ◌∷◌, ℤ, Option, Some, None}
use Rattle.std.specs.Int.{w32, from_le_bytes}
use Rattle.ffi3_machine_spec.specs.Encoding.{rex, mod_rm}
use Rattle.ffi3_isa.specs.declared.Instr.{Instr}
use Rattle.ffi3_isa.specs.declared.Instr.TheVariants.{Endbr, Nop, Lea, JmpMem, Ld, Sd, Fld, Fsd, Addi, CallMem, Ret}
use Rattle.ffi3_isa.specs.Fields.{sign_extend}

-- a displacement of four bytes, the lowest first, sign-extended (2.2.1.3)
abbrev pub disp32 : ℕ → ℕ → ℕ → ℕ → ℤ
disp32 a b c d = sign_extend 32 (from_le_bytes w32 (a ∷ b ∷ c ∷ d ∷ []))

-- The prefix and the ModR/M byte of LEA r64, [RIP + disp32], and the register that they name: REX.W; mod 00, r/m 101 for RIP-relative addressing (2.2.1.6); REX.R is the upper bit of the register. The stack pointer, register 4, is not listed
pub record IsLeaOf (prefix mod_reg_rm register : ℕ) : Type 0 where
  pub r : ℕ
  pub reg : ℕ
  pub r_in_range : r < 2
  pub reg_in_range : reg < 8
  pub is_prefix : prefix ≡ rex 1 r 0 0
  pub is_mod_rm : mod_reg_rm ≡ mod_rm 0 reg 5
  pub is_register : register ≡ 8 * r + reg
  pub is_listed : ¬ register ≡ 4

-- those of which trampolines are made
pub data IsTrampolineCode (bytes : List ℕ) : Instr → ℕ → Type 0 where
  -- ENDBR64: F3 0F 1E FA
  endbr64 : {rest : List ℕ} → bytes ≡ 0xF3 ∷ 0x0F ∷ 0x1E ∷ 0xFA ∷ rest → IsTrampolineCode bytes Endbr 4
  -- LEA r64, m: REX.W 8D /r
  lea : {prefix mod_reg_rm register a b c d : ℕ} {rest : List ℕ}
      → bytes ≡ prefix ∷ 0x8D ∷ mod_reg_rm ∷ a ∷ b ∷ c ∷ d ∷ rest → IsLeaOf prefix mod_reg_rm register
      → IsTrampolineCode bytes (Lea register (disp32 a b c d)) 7
  -- JMP r/m64: FF /4, here with mod 00, r/m 101
  jmp : {a b c d : ℕ} {rest : List ℕ} → bytes ≡ 0xFF ∷ mod_rm 0 4 5 ∷ a ∷ b ∷ c ∷ d ∷ rest
      → IsTrampolineCode bytes (JmpMem (disp32 a b c d)) 6
  -- NOP r/m32: 0F 1F /0, here with mod 10, r/m 000
  nop : {a b c d : ℕ} {rest : List ℕ} → bytes ≡ 0x0F ∷ 0x1F ∷ mod_rm 2 0 0 ∷ a ∷ b ∷ c ∷ d ∷ rest
      → IsTrampolineCode bytes Nop 7

-- The prefix and the ModR/M byte of an instruction of 64 bits with a register and [r11 + disp32]: REX.W and REX.B; mod 10, r/m 011. Register 4 is the stack pointer
pub record IsAtR11 (prefix mod_reg_rm register : ℕ) : Type 0 where
  pub r : ℕ
  pub reg : ℕ
  pub r_in_range : r < 2
  pub reg_in_range : reg < 8
  pub is_prefix : prefix ≡ rex 1 r 0 1
  pub is_mod_rm : mod_reg_rm ≡ mod_rm 2 reg 3
  pub is_register : register ≡ 8 * r + reg

-- The same with [rsp + disp32]: r/m 100, and a SIB byte 24 follows, of rsp with no index (2.1.5). Register 4 is not listed
pub record IsAtSp (prefix mod_reg_rm register : ℕ) : Type 0 where
  pub r : ℕ
  pub reg : ℕ
  pub r_in_range : r < 2
  pub reg_in_range : reg < 8
  pub is_prefix : prefix ≡ rex 1 r 0 0
  pub is_mod_rm : mod_reg_rm ≡ mod_rm 2 reg 4
  pub is_register : register ≡ 8 * r + reg
  pub is_listed : ¬ register ≡ 4

-- MOV r64, r/m64: 8B /r; MOV r/m64, r64: 89 /r
abbrev pub mov : ℕ → ℕ → ℕ → ℤ → Option Instr
mov op register base d =
    if op == 0x8B
    then Some (Ld register base d)
    else (if op == 0x89
    then Some (Sd register base d)
    else None)

-- MOVSD xmm, m64: F2 0F 10 /r; MOVSD m64, xmm: F2 0F 11 /r
abbrev pub movsd : ℕ → ℕ → ℕ → ℤ → Option Instr
movsd op register base d =
    if op == 0x10
    then Some (Fld register base d)
    else (if op == 0x11
    then Some (Fsd register base d)
    else None)

pub record IsMovAtR11 (bytes : List ℕ) (instr : Instr) (size : ℕ) : Type 0 where
  pub prefix : ℕ
  pub op : ℕ
  pub mod_reg_rm : ℕ
  pub register : ℕ
  pub a : ℕ
  pub b : ℕ
  pub c : ℕ
  pub d : ℕ
  pub rest : List ℕ
  pub is_bytes : bytes ≡ prefix ∷ op ∷ mod_reg_rm ∷ a ∷ b ∷ c ∷ d ∷ rest
  pub names : IsAtR11 prefix mod_reg_rm register
  pub means : mov op register 11 (disp32 a b c d) ≡ Some instr
  pub is_size : size ≡ 7

pub record IsMovAtSp (bytes : List ℕ) (instr : Instr) (size : ℕ) : Type 0 where
  pub prefix : ℕ
  pub op : ℕ
  pub mod_reg_rm : ℕ
  pub register : ℕ
  pub a : ℕ
  pub b : ℕ
  pub c : ℕ
  pub d : ℕ
  pub rest : List ℕ
  pub is_bytes : bytes ≡ prefix ∷ op ∷ mod_reg_rm ∷ 0x24 ∷ a ∷ b ∷ c ∷ d ∷ rest
  pub names : IsAtSp prefix mod_reg_rm register
  pub means : mov op register 4 (disp32 a b c d) ≡ Some instr
  pub is_size : size ≡ 8

-- the prefix is REX.B
pub record IsMovsd (bytes : List ℕ) (instr : Instr) (size : ℕ) : Type 0 where
  pub op : ℕ
  pub register : ℕ
  pub a : ℕ
  pub b : ℕ
  pub c : ℕ
  pub d : ℕ
  pub rest : List ℕ
  pub is_bytes : bytes ≡ 0xF2 ∷ rex 0 0 0 1 ∷ 0x0F ∷ op ∷ mod_rm 2 register 3 ∷ a ∷ b ∷ c ∷ d ∷ rest
  pub in_range : register < 8
  pub means : movsd op register 11 (disp32 a b c d) ≡ Some instr
  pub is_size : size ≡ 9

pub data IsFixed (bytes : List ℕ) : Instr → ℕ → Type 0 where
  -- LEA r64, m: of rsp and [rsp + disp32]
  lea_sp : {a b c d : ℕ} {rest : List ℕ} → bytes ≡ rex 1 0 0 0 ∷ 0x8D ∷ mod_rm 2 4 4 ∷ 0x24 ∷ a ∷ b ∷ c ∷ d ∷ rest
      → IsFixed bytes (Addi 4 4 (disp32 a b c d)) 8
  -- CALL r/m64: FF /2, here with REX.B, mod 10, r/m 011
  call : {a b c d : ℕ} {rest : List ℕ} → bytes ≡ rex 0 0 0 1 ∷ 0xFF ∷ mod_rm 2 2 3 ∷ a ∷ b ∷ c ∷ d ∷ rest
      → IsFixed bytes (CallMem 11 (disp32 a b c d)) 7
  -- RET: C3
  ret : {rest : List ℕ} → bytes ≡ 0xC3 ∷ rest → IsFixed bytes Ret 1

-- the bytes begin with the instruction, which has so many bytes; all but the first are those of which stubs are made besides
pub data IsAmd64 (bytes : List ℕ) (instr : Instr) (size : ℕ) : Type 0 where
  trampoline : IsTrampolineCode bytes instr size → IsAmd64 bytes instr size
  fixed : IsFixed bytes instr size → IsAmd64 bytes instr size
  mov_at_r11 : IsMovAtR11 bytes instr size → IsAmd64 bytes instr size
  mov_at_sp : IsMovAtSp bytes instr size → IsAmd64 bytes instr size
  movsd_at_r11 : IsMovsd bytes instr size → IsAmd64 bytes instr size
