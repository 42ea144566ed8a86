-- A word is put together from its fields.
use Rattle.std.proofs.Common.{◌≡◌, ℕ, ◌+◌, ◌*◌, ◌/◌, ◌%◌, ◌^◌, ◌<◌, arith, ℤ, Option, Some, None, IfSome, refl, ap, sym}
use Rattle.std.proofs.lemmas.Bool.Decides.{nat_tests}
use Rattle.ffi3_isa.specs.declared.Instr.{Instr}
use Rattle.ffi3_isa.specs.declared.Instr.TheVariants.{Auipc, Ld, Jalr, Addi, LdrLit, Adr, Br, Sd, Fld, Fsd, Blr}
use Rattle.ffi3_isa.specs.Fields.{sign_extend}
use Rattle.ffi3_isa.specs.Aarch64.{IsTrampolineWord, ldr_literal, adr, br, IsStubWord, based, blr, ret, IsImmediate, immediate, IsAarch64Word, trampoline, stub}
use Rattle.ffi3_isa.specs.Riscv.{IsI, IsU, IsS, IsRiscvWord, auipc, ld, jalr, addi, sd, fld, fsd}

pub is_i : (word imm rs1 funct3 rd opcode : ℕ) → word < 2 ^ 32 → imm ≡ word / 2 ^ 20 % 2 ^ 12 → rs1 ≡ word / 2 ^ 15 % 2 ^ 5 → funct3 ≡ word / 2 ^ 12 % 2 ^ 3 → rd ≡ word / 2 ^ 7 % 2 ^ 5 → opcode ≡ word / 2 ^ 0 % 2 ^ 7 → IsI word imm rs1 funct3 rd opcode
is_i word imm rs1 funct3 rd opcode h a b c d e = record {
  imm_in_range = omega arith;
  rs1_in_range = omega arith;
  rd_in_range = omega arith;
  is_word = omega arith;
}

pub is_u : (word imm rd opcode : ℕ) → word < 2 ^ 32 → imm ≡ word / 2 ^ 12 % 2 ^ 20 → rd ≡ word / 2 ^ 7 % 2 ^ 5 → opcode ≡ word / 2 ^ 0 % 2 ^ 7 → IsU word imm rd opcode
is_u word imm rd opcode h a b c = record {
  imm_in_range = omega arith;
  rd_in_range = omega arith;
  is_word = omega arith;
}

pub is_auipc : (word imm rd : ℕ) (d : ℤ) → IsU word imm rd 0b0010111 → d ≡ sign_extend 32 (imm * 2 ^ 12) → IsRiscvWord word (Auipc rd d)
is_auipc word imm rd d u e = rw e (auipc u)

pub is_ld : (word imm rs1 rd : ℕ) (d : ℤ) → IsI word imm rs1 0b011 rd 0b0000011 → d ≡ sign_extend 12 imm → IsRiscvWord word (Ld rd rs1 d)
is_ld word imm rs1 rd d i e = rw e (ld i)

pub is_jalr : (word imm rs1 rd : ℕ) (d : ℤ) → IsI word imm rs1 0b000 rd 0b1100111 → d ≡ sign_extend 12 imm → IsRiscvWord word (Jalr rd rs1 d)
is_jalr word imm rs1 rd d i e = rw e (jalr i)

pub is_addi : (word imm rs1 rd : ℕ) (d : ℤ) → IsI word imm rs1 0b000 rd 0b0010011 → d ≡ sign_extend 12 imm → IsRiscvWord word (Addi rd rs1 d)
is_addi word imm rs1 rd d i e = rw e (addi i)

pub is_literal : (word imm19 t opcode : ℕ) (d : ℤ) → word < 2 ^ 32 → imm19 ≡ word / 2 ^ 5 % 2 ^ 19 → t ≡ word / 2 ^ 0 % 2 ^ 5 → opcode ≡ word / 2 ^ 24 % 2 ^ 8 → opcode ≡ 0b01011000 → d ≡ sign_extend 21 (imm19 * 4) → IsTrampolineWord word (LdrLit t d)
is_literal word imm19 t opcode d h a b c k e =
    let low : imm19 < 2 ^ 19 = omega arith in
    let small : t < 32 = omega arith in
    let whole : word ≡ 0b01011000 * 2 ^ 24 + imm19 * 2 ^ 5 + t = omega arith in
    rw e (ldr_literal low small whole)

pub is_adr : (word immlo immhi rd top opcode : ℕ) (d : ℤ) → word < 2 ^ 32 → immlo ≡ word / 2 ^ 29 % 2 ^ 2 → immhi ≡ word / 2 ^ 5 % 2 ^ 19 → rd ≡ word / 2 ^ 0 % 2 ^ 5 → top ≡ word / 2 ^ 31 % 2 ^ 1 → top ≡ 0 → opcode ≡ word / 2 ^ 24 % 2 ^ 5 → opcode ≡ 0b10000 → d ≡ sign_extend 21 (immhi * 4 + immlo) → IsTrampolineWord word (Adr rd d)
is_adr word immlo immhi rd top opcode d h a b c x y z k e =
    let two : immlo < 4 = omega arith in
    let low : immhi < 2 ^ 19 = omega arith in
    let small : rd < 32 = omega arith in
    let whole : word ≡ immlo * 2 ^ 29 + 0b10000 * 2 ^ 24 + immhi * 2 ^ 5 + rd = omega arith in
    rw e (adr two low small whole)

pub is_br : (word n low opcode : ℕ) → word < 2 ^ 32 → n ≡ word / 2 ^ 5 % 2 ^ 5 → low ≡ word / 2 ^ 0 % 2 ^ 5 → low ≡ 0 → opcode ≡ word / 2 ^ 10 % 2 ^ 22 → opcode ≡ 0b1101011000011111000000 → IsTrampolineWord word (Br n)
is_br word n low opcode h a b x c k =
    let small : n < 32 = omega arith in
    let whole : word ≡ 0b1101011000011111000000 * 2 ^ 10 + n * 2 ^ 5 = omega arith in
    br small whole

-- a word with the fields of ADR is no other instruction
pub only_adr : (word : ℕ) (i : Instr) (immlo immhi rd top opcode : ℕ) (d : ℤ) → word < 2 ^ 32 → immlo ≡ word / 2 ^ 29 % 2 ^ 2 → immhi ≡ word / 2 ^ 5 % 2 ^ 19 → rd ≡ word / 2 ^ 0 % 2 ^ 5 → top ≡ word / 2 ^ 31 % 2 ^ 1 → top ≡ 0 → opcode ≡ word / 2 ^ 24 % 2 ^ 5 → opcode ≡ 0b10000 → d ≡ sign_extend 21 (immhi * 4 + immlo) → IsTrampolineWord word i → i ≡ Adr rd d
only_adr word i immlo immhi rd top opcode d h a b c x y z k e (ldr_literal {imm19 = imm19} {t = t} low small is) =
    absurd (omega arith)
only_adr word i immlo immhi rd top opcode d h a b c x y z k e (adr {immlo = lo} {immhi = hi} {rd = r} two low small is) =
    let same_low : lo ≡ immlo = omega arith in
    let same_high : hi ≡ immhi = omega arith in
    let same_register : r ≡ rd = omega arith in
    rw (e, same_low, same_high, same_register)
only_adr word i immlo immhi rd top opcode d h a b c x y z k e (br {n = n} small is) =
    absurd (omega arith)

pub is_s : (word high low rs2 rs1 funct3 opcode : ℕ) → word < 2 ^ 32 → high ≡ word / 2 ^ 25 % 2 ^ 7 → low ≡ word / 2 ^ 7 % 2 ^ 5 → rs2 ≡ word / 2 ^ 20 % 2 ^ 5 → rs1 ≡ word / 2 ^ 15 % 2 ^ 5 → funct3 ≡ word / 2 ^ 12 % 2 ^ 3 → opcode ≡ word / 2 ^ 0 % 2 ^ 7 → IsS word high low rs2 rs1 funct3 opcode
is_s word high low rs2 rs1 funct3 opcode h a b c d e f = record {
  high_in_range = omega arith;
  low_in_range = omega arith;
  rs2_in_range = omega arith;
  rs1_in_range = omega arith;
  is_word = omega arith;
}

pub is_sd : (word high low rs2 rs1 : ℕ) (d : ℤ) → IsS word high low rs2 rs1 0b011 0b0100011 → d ≡ sign_extend 12 (high * 32 + low) → IsRiscvWord word (Sd rs2 rs1 d)
is_sd word high low rs2 rs1 d i e = rw e (sd i)

pub is_fld : (word imm rs1 rd : ℕ) (d : ℤ) → IsI word imm rs1 0b011 rd 0b0000111 → d ≡ sign_extend 12 imm → IsRiscvWord word (Fld rd rs1 d)
is_fld word imm rs1 rd d i e = rw e (fld i)

pub is_fsd : (word high low rs2 rs1 : ℕ) (d : ℤ) → IsS word high low rs2 rs1 0b011 0b0100111 → d ≡ sign_extend 12 (high * 32 + low) → IsRiscvWord word (Fsd rs2 rs1 d)
is_fsd word high low rs2 rs1 d i e = rw e (fsd i)

-- ---- the words of stubs on aarch64

pub is_immediate : (word op imm12 n t : ℕ) → word < 2 ^ 32 → op ≡ word / 2 ^ 22 % 2 ^ 10 → imm12 ≡ word / 2 ^ 10 % 2 ^ 12 → n ≡ word / 2 ^ 5 % 2 ^ 5 → t ≡ word / 2 ^ 0 % 2 ^ 5 → IsImmediate word op imm12 n t
is_immediate word op imm12 n t h a b c d = record {
  imm_in_range = omega arith;
  n_in_range = omega arith;
  t_in_range = omega arith;
  is_word = omega arith;
}

pub stub_listed : (word op imm12 n t : ℕ) (r : Option Instr) → IsImmediate word op imm12 n t → r ≡ immediate op imm12 n t → IfSome r (λ i. IsStubWord word i)
stub_listed word op imm12 n t None h e = tt
stub_listed word op imm12 n t (Some i) h e = based h (sym e)

pub is_blr : (word n low opcode : ℕ) → word < 2 ^ 32 → n ≡ word / 2 ^ 5 % 2 ^ 5 → low ≡ word / 2 ^ 0 % 2 ^ 5 → low ≡ 0 → opcode ≡ word / 2 ^ 10 % 2 ^ 22 → opcode ≡ 0b1101011000111111000000 → IsStubWord word (Blr n)
is_blr word n low opcode h a b x c k =
    let small : n < 32 = omega arith in
    let whole : word ≡ 0b1101011000111111000000 * 2 ^ 10 + n * 2 ^ 5 = omega arith in
    blr small whole

pub is_ret : (word n low opcode : ℕ) → word < 2 ^ 32 → n ≡ word / 2 ^ 5 % 2 ^ 5 → low ≡ word / 2 ^ 0 % 2 ^ 5 → low ≡ 0 → opcode ≡ word / 2 ^ 10 % 2 ^ 22 → opcode ≡ 0b1101011001011111000000 → IsStubWord word (Br n)
is_ret word n low opcode h a b x c k =
    let small : n < 32 = omega arith in
    let whole : word ≡ 0b1101011001011111000000 * 2 ^ 10 + n * 2 ^ 5 = omega arith in
    ret small whole

-- an op that no row of the table has
none_of_table : (op imm12 n t : ℕ) → op < 580 → immediate op imm12 n t ≡ None
none_of_table op imm12 n t h = grind (arith, nat_tests)

no_row : (op known imm12 n t : ℕ) (i : Instr) → op ≡ known → immediate known imm12 n t ≡ None → ¬ (immediate op imm12 n t ≡ Some i)
no_row op known imm12 n t i same none is = let e : immediate op imm12 n t ≡ immediate known imm12 n t = ap (λ (o : ℕ). immediate o imm12 n t) same in cc

-- a word with the fields of BLR is no other
pub only_blr : (word : ℕ) (i : Instr) (n : ℕ) → n < 32 → word ≡ 0b1101011000111111000000 * 2 ^ 10 + n * 2 ^ 5 → IsStubWord word i → i ≡ Blr n
only_blr word i n small whole (based {op = op} {imm12 = imm12} {n = m} {t = t} h is) =
    let w : word ≡ op * 2 ^ 22 + imm12 * 2 ^ 10 + m * 2 ^ 5 + t = h.is_word in
    let x : imm12 < 4096 = h.imm_in_range in
    let y : m < 32 = h.n_in_range in
    let z : t < 32 = h.t_in_range in
    let same : op ≡ 856 = omega arith in
    absurd (no_row op 856 imm12 m t i same refl is)
only_blr word i n small whole (blr {n = m} other is) =
    let same : m ≡ n = omega arith in
    ap Blr same
only_blr word i n small whole (ret {n = m} other is) = absurd (omega arith)

pub only_ret : (word : ℕ) (i : Instr) (n : ℕ) → n < 32 → word ≡ 0b1101011001011111000000 * 2 ^ 10 + n * 2 ^ 5 → IsStubWord word i → i ≡ Br n
only_ret word i n small whole (based {op = op} {imm12 = imm12} {n = m} {t = t} h is) =
    let w : word ≡ op * 2 ^ 22 + imm12 * 2 ^ 10 + m * 2 ^ 5 + t = h.is_word in
    let x : imm12 < 4096 = h.imm_in_range in
    let y : m < 32 = h.n_in_range in
    let z : t < 32 = h.t_in_range in
    let same : op ≡ 857 = omega arith in
    absurd (no_row op 857 imm12 m t i same refl is)
only_ret word i n small whole (blr {n = m} other is) = absurd (omega arith)
only_ret word i n small whole (ret {n = m} other is) =
    let same : m ≡ n = omega arith in
    ap Br same

-- a word with neither's fields is one of the table
pub only_table : (word : ℕ) (i : Instr) (op imm12 n t top : ℕ) → IsImmediate word op imm12 n t → top ≡ word / 2 ^ 10 % 2 ^ 22 → (t ≡ 0 → ¬ (top ≡ 0b1101011000111111000000)) → (t ≡ 0 → ¬ (top ≡ 0b1101011001011111000000)) → IsStubWord word i → immediate op imm12 n t ≡ Some i
only_table word i op imm12 n t top g at a b (based {op = op2} {imm12 = imm2} {n = n2} {t = t2} h is) =
    let w : word ≡ op * 2 ^ 22 + imm12 * 2 ^ 10 + n * 2 ^ 5 + t = g.is_word in
    let x : imm12 < 4096 = g.imm_in_range in
    let y : n < 32 = g.n_in_range in
    let z : t < 32 = g.t_in_range in
    let w2 : word ≡ op2 * 2 ^ 22 + imm2 * 2 ^ 10 + n2 * 2 ^ 5 + t2 = h.is_word in
    let x2 : imm2 < 4096 = h.imm_in_range in
    let y2 : n2 < 32 = h.n_in_range in
    let z2 : t2 < 32 = h.t_in_range in
    let same_op : op ≡ op2 = omega (arith, w, w2) in
    let same_imm : imm12 ≡ imm2 = omega arith in
    let same_n : n ≡ n2 = omega arith in
    let same_t : t ≡ t2 = omega arith in
    rw (same_op, same_imm, same_n, same_t) is
only_table word i op imm12 n t top g at a b (blr {n = m} small is) =
    let w : word ≡ op * 2 ^ 22 + imm12 * 2 ^ 10 + n * 2 ^ 5 + t = g.is_word in
    let z : t < 32 = g.t_in_range in
    let none : t ≡ 0 = omega arith in
    let same : top ≡ 0b1101011000111111000000 = omega arith in
    absurd (a none same)
only_table word i op imm12 n t top g at a b (ret {n = m} small is) =
    let w : word ≡ op * 2 ^ 22 + imm12 * 2 ^ 10 + n * 2 ^ 5 + t = g.is_word in
    let z : t < 32 = g.t_in_range in
    let none : t ≡ 0 = omega arith in
    let same : top ≡ 0b1101011001011111000000 = omega arith in
    absurd (b none same)

-- no word is both
pub words_apart : (word : ℕ) (i j : Instr) → IsTrampolineWord word i → ¬ IsStubWord word j
words_apart word i j (ldr_literal {imm19 = imm19} {t = r} low small is) (based {op = op} {imm12 = imm12} {n = m} {t = t} h means) =
    let w : word ≡ op * 2 ^ 22 + imm12 * 2 ^ 10 + m * 2 ^ 5 + t = h.is_word in
    let under : op < 580 = omega arith in
    let none : immediate op imm12 m t ≡ None = none_of_table op imm12 m t under in
    absurd (no_row op op imm12 m t j refl none means)
words_apart word i j (ldr_literal {imm19 = imm19} {t = r} low small is) (blr {n = m} other that) = absurd (omega arith)
words_apart word i j (ldr_literal {imm19 = imm19} {t = r} low small is) (ret {n = m} other that) = absurd (omega arith)
words_apart word i j (adr {immlo = lo} {immhi = hi} {rd = r} two low small is) (based {op = op} {imm12 = imm12} {n = m} {t = t} h means) =
    let w : word ≡ op * 2 ^ 22 + imm12 * 2 ^ 10 + m * 2 ^ 5 + t = h.is_word in
    let under : op < 580 = omega arith in
    let none : immediate op imm12 m t ≡ None = none_of_table op imm12 m t under in
    absurd (no_row op op imm12 m t j refl none means)
words_apart word i j (adr {immlo = lo} {immhi = hi} {rd = r} two low small is) (blr {n = m} other that) = absurd (omega arith)
words_apart word i j (adr {immlo = lo} {immhi = hi} {rd = r} two low small is) (ret {n = m} other that) = absurd (omega arith)
words_apart word i j (br {n = r} small is) (based {op = op} {imm12 = imm12} {n = m} {t = t} h means) =
    let w : word ≡ op * 2 ^ 22 + imm12 * 2 ^ 10 + m * 2 ^ 5 + t = h.is_word in
    let x : imm12 < 4096 = h.imm_in_range in
    let y : m < 32 = h.n_in_range in
    let z : t < 32 = h.t_in_range in
    let same : op ≡ 856 = omega arith in
    absurd (no_row op 856 imm12 m t j same refl means)
words_apart word i j (br {n = r} small is) (blr {n = m} other that) = absurd (omega arith)
words_apart word i j (br {n = r} small is) (ret {n = m} other that) = absurd (omega arith)

pub first_only : (word : ℕ) (i j : Instr) → IsTrampolineWord word j → ((k : Instr) → IsTrampolineWord word k → Some j ≡ Some k) → IsAarch64Word word i → Some j ≡ Some i
first_only word i j is only (trampoline h) = only i h
first_only word i j is only (stub h) = absurd (words_apart word j i is h)

pub second_only : (word : ℕ) (i : Instr) (r s : Option Instr) → r ≡ None → ((k : Instr) → IsTrampolineWord word k → r ≡ Some k) → ((k : Instr) → IsStubWord word k → s ≡ Some k) → IsAarch64Word word i → s ≡ Some i
second_only word i r s none first second (trampoline h) = let e = first i h in cc
second_only word i r s none first second (stub h) = second i h

pub second_listed : (word : ℕ) (r : Option Instr) → IfSome r (λ i. IsStubWord word i) → IfSome r (λ i. IsAarch64Word word i)
second_listed word None h = tt
second_listed word (Some i) h = stub h

-- ---- a word of RISC-V is one instruction at most

opcode : Instr → ℕ
opcode (Auipc rd d) = 0b0010111
opcode (Ld rd rs d) = 0b0000011
opcode (Jalr rd rs d) = 0b1100111
opcode (Addi rd rs d) = 0b0010011
opcode (Sd rd rs d) = 0b0100011
opcode (Fld rd rs d) = 0b0000111
opcode (Fsd rd rs d) = 0b0100111
opcode i = 0

opcode_u : (word imm rd op : ℕ) → op < 128 → IsU word imm rd op → word % 128 ≡ op
opcode_u word imm rd op h u = let e = u.is_word in omega arith

opcode_i : (word imm rs1 funct3 rd op : ℕ) → op < 128 → IsI word imm rs1 funct3 rd op → word % 128 ≡ op
opcode_i word imm rs1 funct3 rd op h u = let e = u.is_word in omega arith

opcode_s : (word high low rs2 rs1 funct3 op : ℕ) → op < 128 → IsS word high low rs2 rs1 funct3 op → word % 128 ≡ op
opcode_s word high low rs2 rs1 funct3 op h u = let e = u.is_word in omega arith

has_opcode : (word : ℕ) (i : Instr) → IsRiscvWord word i → word % 128 ≡ opcode i
unfolding opcode
has_opcode word i (auipc {imm = imm} {rd = rd} u) = opcode_u word imm rd 0b0010111 (omega arith) u
has_opcode word i (ld {imm = imm} {rs1 = rs1} {rd = rd} u) = opcode_i word imm rs1 0b011 rd 0b0000011 (omega arith) u
has_opcode word i (jalr {imm = imm} {rs1 = rs1} {rd = rd} u) = opcode_i word imm rs1 0b000 rd 0b1100111 (omega arith) u
has_opcode word i (addi {imm = imm} {rs1 = rs1} {rd = rd} u) = opcode_i word imm rs1 0b000 rd 0b0010011 (omega arith) u
has_opcode word i (sd {high = high} {low = low} {rs2 = rs2} {rs1 = rs1} u) = opcode_s word high low rs2 rs1 0b011 0b0100011 (omega arith) u
has_opcode word i (fld {imm = imm} {rs1 = rs1} {rd = rd} u) = opcode_i word imm rs1 0b011 rd 0b0000111 (omega arith) u
has_opcode word i (fsd {high = high} {low = low} {rs2 = rs2} {rs1 = rs1} u) = opcode_s word high low rs2 rs1 0b011 0b0100111 (omega arith) u

pub only_auipc : (word imm rd : ℕ) (i : Instr) → IsU word imm rd 23 → IsRiscvWord word i → Auipc rd (sign_extend 32 (imm * 2 ^ 12)) ≡ i
unfolding opcode
only_auipc word imm rd i u (auipc {imm = imm2} {rd = rd2} v) =
    let a : imm ≡ imm2 = omega arith in
    let b : rd ≡ rd2 = omega arith in
    rw (a, b) refl
only_auipc word imm rd i u (ld v) = absurd (omega (arith, opcode_u word imm rd 23 (omega arith) u, has_opcode word i (ld v)))
only_auipc word imm rd i u (jalr v) = absurd (omega (arith, opcode_u word imm rd 23 (omega arith) u, has_opcode word i (jalr v)))
only_auipc word imm rd i u (addi v) = absurd (omega (arith, opcode_u word imm rd 23 (omega arith) u, has_opcode word i (addi v)))
only_auipc word imm rd i u (sd v) = absurd (omega (arith, opcode_u word imm rd 23 (omega arith) u, has_opcode word i (sd v)))
only_auipc word imm rd i u (fld v) = absurd (omega (arith, opcode_u word imm rd 23 (omega arith) u, has_opcode word i (fld v)))
only_auipc word imm rd i u (fsd v) = absurd (omega (arith, opcode_u word imm rd 23 (omega arith) u, has_opcode word i (fsd v)))

pub only_ld : (word imm rs1 rd : ℕ) (i : Instr) → IsI word imm rs1 0b011 rd 3 → IsRiscvWord word i → Ld rd rs1 (sign_extend 12 imm) ≡ i
unfolding opcode
only_ld word imm rs1 rd i u (auipc v) = absurd (omega (arith, opcode_i word imm rs1 0b011 rd 3 (omega arith) u, has_opcode word i (auipc v)))
only_ld word imm rs1 rd i u (ld {imm = imm2} {rs1 = rs12} {rd = rd2} v) =
    let a : imm ≡ imm2 = omega arith in
    let b : rs1 ≡ rs12 = omega arith in
    let c : rd ≡ rd2 = omega arith in
    rw (a, b, c) refl
only_ld word imm rs1 rd i u (jalr v) = absurd (omega (arith, opcode_i word imm rs1 0b011 rd 3 (omega arith) u, has_opcode word i (jalr v)))
only_ld word imm rs1 rd i u (addi v) = absurd (omega (arith, opcode_i word imm rs1 0b011 rd 3 (omega arith) u, has_opcode word i (addi v)))
only_ld word imm rs1 rd i u (sd v) = absurd (omega (arith, opcode_i word imm rs1 0b011 rd 3 (omega arith) u, has_opcode word i (sd v)))
only_ld word imm rs1 rd i u (fld v) = absurd (omega (arith, opcode_i word imm rs1 0b011 rd 3 (omega arith) u, has_opcode word i (fld v)))
only_ld word imm rs1 rd i u (fsd v) = absurd (omega (arith, opcode_i word imm rs1 0b011 rd 3 (omega arith) u, has_opcode word i (fsd v)))

pub only_jalr : (word imm rs1 rd : ℕ) (i : Instr) → IsI word imm rs1 0b000 rd 103 → IsRiscvWord word i → Jalr rd rs1 (sign_extend 12 imm) ≡ i
unfolding opcode
only_jalr word imm rs1 rd i u (auipc v) = absurd (omega (arith, opcode_i word imm rs1 0b000 rd 103 (omega arith) u, has_opcode word i (auipc v)))
only_jalr word imm rs1 rd i u (ld v) = absurd (omega (arith, opcode_i word imm rs1 0b000 rd 103 (omega arith) u, has_opcode word i (ld v)))
only_jalr word imm rs1 rd i u (jalr {imm = imm2} {rs1 = rs12} {rd = rd2} v) =
    let a : imm ≡ imm2 = omega arith in
    let b : rs1 ≡ rs12 = omega arith in
    let c : rd ≡ rd2 = omega arith in
    rw (a, b, c) refl
only_jalr word imm rs1 rd i u (addi v) = absurd (omega (arith, opcode_i word imm rs1 0b000 rd 103 (omega arith) u, has_opcode word i (addi v)))
only_jalr word imm rs1 rd i u (sd v) = absurd (omega (arith, opcode_i word imm rs1 0b000 rd 103 (omega arith) u, has_opcode word i (sd v)))
only_jalr word imm rs1 rd i u (fld v) = absurd (omega (arith, opcode_i word imm rs1 0b000 rd 103 (omega arith) u, has_opcode word i (fld v)))
only_jalr word imm rs1 rd i u (fsd v) = absurd (omega (arith, opcode_i word imm rs1 0b000 rd 103 (omega arith) u, has_opcode word i (fsd v)))

pub only_addi : (word imm rs1 rd : ℕ) (i : Instr) → IsI word imm rs1 0b000 rd 19 → IsRiscvWord word i → Addi rd rs1 (sign_extend 12 imm) ≡ i
unfolding opcode
only_addi word imm rs1 rd i u (auipc v) = absurd (omega (arith, opcode_i word imm rs1 0b000 rd 19 (omega arith) u, has_opcode word i (auipc v)))
only_addi word imm rs1 rd i u (ld v) = absurd (omega (arith, opcode_i word imm rs1 0b000 rd 19 (omega arith) u, has_opcode word i (ld v)))
only_addi word imm rs1 rd i u (jalr v) = absurd (omega (arith, opcode_i word imm rs1 0b000 rd 19 (omega arith) u, has_opcode word i (jalr v)))
only_addi word imm rs1 rd i u (addi {imm = imm2} {rs1 = rs12} {rd = rd2} v) =
    let a : imm ≡ imm2 = omega arith in
    let b : rs1 ≡ rs12 = omega arith in
    let c : rd ≡ rd2 = omega arith in
    rw (a, b, c) refl
only_addi word imm rs1 rd i u (sd v) = absurd (omega (arith, opcode_i word imm rs1 0b000 rd 19 (omega arith) u, has_opcode word i (sd v)))
only_addi word imm rs1 rd i u (fld v) = absurd (omega (arith, opcode_i word imm rs1 0b000 rd 19 (omega arith) u, has_opcode word i (fld v)))
only_addi word imm rs1 rd i u (fsd v) = absurd (omega (arith, opcode_i word imm rs1 0b000 rd 19 (omega arith) u, has_opcode word i (fsd v)))

pub only_sd : (word high low rs2 rs1 : ℕ) (i : Instr) → IsS word high low rs2 rs1 0b011 35 → IsRiscvWord word i → Sd rs2 rs1 (sign_extend 12 (high * 32 + low)) ≡ i
unfolding opcode
only_sd word high low rs2 rs1 i u (auipc v) = absurd (omega (arith, opcode_s word high low rs2 rs1 0b011 35 (omega arith) u, has_opcode word i (auipc v)))
only_sd word high low rs2 rs1 i u (ld v) = absurd (omega (arith, opcode_s word high low rs2 rs1 0b011 35 (omega arith) u, has_opcode word i (ld v)))
only_sd word high low rs2 rs1 i u (jalr v) = absurd (omega (arith, opcode_s word high low rs2 rs1 0b011 35 (omega arith) u, has_opcode word i (jalr v)))
only_sd word high low rs2 rs1 i u (addi v) = absurd (omega (arith, opcode_s word high low rs2 rs1 0b011 35 (omega arith) u, has_opcode word i (addi v)))
only_sd word high low rs2 rs1 i u (sd {high = high2} {low = low2} {rs2 = rs22} {rs1 = rs12} v) =
    let a : high ≡ high2 = omega arith in
    let b : low ≡ low2 = omega arith in
    let c : rs2 ≡ rs22 = omega arith in
    let d : rs1 ≡ rs12 = omega arith in
    rw (a, b, c, d) refl
only_sd word high low rs2 rs1 i u (fld v) = absurd (omega (arith, opcode_s word high low rs2 rs1 0b011 35 (omega arith) u, has_opcode word i (fld v)))
only_sd word high low rs2 rs1 i u (fsd v) = absurd (omega (arith, opcode_s word high low rs2 rs1 0b011 35 (omega arith) u, has_opcode word i (fsd v)))

pub only_fld : (word imm rs1 rd : ℕ) (i : Instr) → IsI word imm rs1 0b011 rd 7 → IsRiscvWord word i → Fld rd rs1 (sign_extend 12 imm) ≡ i
unfolding opcode
only_fld word imm rs1 rd i u (auipc v) = absurd (omega (arith, opcode_i word imm rs1 0b011 rd 7 (omega arith) u, has_opcode word i (auipc v)))
only_fld word imm rs1 rd i u (ld v) = absurd (omega (arith, opcode_i word imm rs1 0b011 rd 7 (omega arith) u, has_opcode word i (ld v)))
only_fld word imm rs1 rd i u (jalr v) = absurd (omega (arith, opcode_i word imm rs1 0b011 rd 7 (omega arith) u, has_opcode word i (jalr v)))
only_fld word imm rs1 rd i u (addi v) = absurd (omega (arith, opcode_i word imm rs1 0b011 rd 7 (omega arith) u, has_opcode word i (addi v)))
only_fld word imm rs1 rd i u (sd v) = absurd (omega (arith, opcode_i word imm rs1 0b011 rd 7 (omega arith) u, has_opcode word i (sd v)))
only_fld word imm rs1 rd i u (fld {imm = imm2} {rs1 = rs12} {rd = rd2} v) =
    let a : imm ≡ imm2 = omega arith in
    let b : rs1 ≡ rs12 = omega arith in
    let c : rd ≡ rd2 = omega arith in
    rw (a, b, c) refl
only_fld word imm rs1 rd i u (fsd v) = absurd (omega (arith, opcode_i word imm rs1 0b011 rd 7 (omega arith) u, has_opcode word i (fsd v)))

pub only_fsd : (word high low rs2 rs1 : ℕ) (i : Instr) → IsS word high low rs2 rs1 0b011 39 → IsRiscvWord word i → Fsd rs2 rs1 (sign_extend 12 (high * 32 + low)) ≡ i
unfolding opcode
only_fsd word high low rs2 rs1 i u (auipc v) = absurd (omega (arith, opcode_s word high low rs2 rs1 0b011 39 (omega arith) u, has_opcode word i (auipc v)))
only_fsd word high low rs2 rs1 i u (ld v) = absurd (omega (arith, opcode_s word high low rs2 rs1 0b011 39 (omega arith) u, has_opcode word i (ld v)))
only_fsd word high low rs2 rs1 i u (jalr v) = absurd (omega (arith, opcode_s word high low rs2 rs1 0b011 39 (omega arith) u, has_opcode word i (jalr v)))
only_fsd word high low rs2 rs1 i u (addi v) = absurd (omega (arith, opcode_s word high low rs2 rs1 0b011 39 (omega arith) u, has_opcode word i (addi v)))
only_fsd word high low rs2 rs1 i u (sd v) = absurd (omega (arith, opcode_s word high low rs2 rs1 0b011 39 (omega arith) u, has_opcode word i (sd v)))
only_fsd word high low rs2 rs1 i u (fld v) = absurd (omega (arith, opcode_s word high low rs2 rs1 0b011 39 (omega arith) u, has_opcode word i (fld v)))
only_fsd word high low rs2 rs1 i u (fsd {high = high2} {low = low2} {rs2 = rs22} {rs1 = rs12} v) =
    let a : high ≡ high2 = omega arith in
    let b : low ≡ low2 = omega arith in
    let c : rs2 ≡ rs22 = omega arith in
    let d : rs1 ≡ rs12 = omega arith in
    rw (a, b, c, d) refl
