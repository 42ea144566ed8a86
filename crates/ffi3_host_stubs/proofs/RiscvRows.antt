-- Which instruction each row of RISC-V's tables is.
use Rattle.std.proofs.Common.{◌≡◌, ℕ, ◌+◌, ◌*◌, ◌/◌, ◌%◌, ◌^◌, ◌<◌, ◌≤◌, Bool, true, if◌then◌else◌, refl, ap, ◌∙◌, arith, ℤ, pos}
use Rattle.std.proofs.lemmas.Bool.Decides.{nat_tests}
use Rattle.std.specs.Prelude.{nat_lt}
use Rattle.ffi3_isa.specs.declared.Instr.{Instr}
use Rattle.ffi3_isa.specs.declared.Instr.TheVariants.{Ld, Sd, Fld, Fsd, Addi}
use Rattle.ffi3_isa.specs.Fields.{sign_extend, first_word}
use Rattle.ffi3_isa.specs.Riscv.{IsRiscvWord, IsI, IsS, ld, addi, sd, fld, fsd}
use Rattle.ffi3_type_spec.specs.declared.Isa.TheVariants.{Riscv}
use Rattle.ffi3_place_spec.specs.declared.Loc.TheVariants.{G, F, S}
use Rattle.ffi3_machine_spec.specs.Stubs.{load, store, riscv_row, riscv_i, riscv_s, word}
use Rattle.ffi3_machine.specs.MachineStep.{moved}
use Rattle.ffi3_stubs.proofs.Places.{word_first}
use Rattle.ffi3_host_stubs.specs.Processor.{half}
use Rattle.ffi3_host_stubs.proofs.Standing.{plain}
use Rattle.ffi3_host_stubs.proofs.Rows.{Says, Moves, LoadLaw, StoreLaw, source_of, floating_of, none_of}

four_on : (p : ℕ) → p % 4 ≡ 0 → (p + 4) % 4 ≡ 0
four_on p h = omega (arith, h)

pub word_says : (w : ℕ) (i : Instr) → w < 4294967296 → IsRiscvWord w i → Says Riscv (word w) i 4
word_says w i small means = record {
  sized = refl;
  code = λ bytes tail e. record { word = w; begins = ap first_word e ∙ word_first w tail small; means = means; is_size = refl };
  aligned = four_on;
}

pub i_says : (imm rs1 funct3 rd opcode : ℕ) (i : Instr) → imm < 4096 → rs1 < 32 → funct3 < 8 → rd < 32 → opcode < 128 → ((w : ℕ) → IsI w imm rs1 funct3 rd opcode → IsRiscvWord w i) → Says Riscv (riscv_i imm rs1 funct3 rd opcode) i 4
i_says imm rs1 funct3 rd opcode i a b c d e means =
    let w : ℕ = imm * 2 ^ 20 + rs1 * 2 ^ 15 + funct3 * 2 ^ 12 + rd * 2 ^ 7 + opcode in
    word_says w i (omega (arith, a, b, c, d, e)) (means w (record { imm_in_range = a; rs1_in_range = b; rd_in_range = d; is_word = refl }))

s_says : (imm rs2 rs1 opcode : ℕ) (i : Instr) → imm < 2048 → rs2 < 32 → rs1 < 32 → opcode < 128 → ((w : ℕ) → IsS w (imm / 32) (imm % 32) rs2 rs1 0b011 opcode → IsRiscvWord w i) → Says Riscv (riscv_s imm rs2 rs1 opcode) i 4
s_says imm rs2 rs1 opcode i a b c d means =
    let w : ℕ = imm / 32 * 2 ^ 25 + rs2 * 2 ^ 20 + rs1 * 2 ^ 15 + 0b011 * 2 ^ 12 + imm % 32 * 2 ^ 7 + opcode in
    word_says w i (omega (arith, a, b, c, d)) (means w (record { high_in_range = omega (arith, a); low_in_range = omega arith; rs2_in_range = b; rs1_in_range = c; is_word = refl }))

extended : (b : Bool) (x y : ℤ) → b ≡ true → (if b then x else y) ≡ x
extended b x y e = rw e refl

-- a distance below 2048
pub up12 : (from o to : ℕ) → o < 2048 → from + o ≡ to → to ≤ half → moved from (sign_extend 12 o) ≡ to
up12 from o to short e small =
    let test : nat_lt o 2048 ≡ true = grind (arith, nat_tests) in
    ap (λ (d : ℤ). moved from d) (extended (nat_lt o 2048) _ _ test) ∙ plain from o to e small

-- the distance of a store, put together from its two fields
split_to : (from o to : ℕ) → o < 2048 → from + o ≡ to → to ≤ half → moved from (sign_extend 12 (o / 32 * 32 + o % 32)) ≡ to
split_to from o to short e small =
    let joined : o / 32 * 32 + o % 32 ≡ o = omega arith in
    ap (λ n. moved from (sign_extend 12 n)) joined ∙ up12 from o to short e small

-- ld x(k), at(b), and fld f(k), at(b)
pub load_general : (b k at : ℕ) → b < 32 → k < 32 → at < 2048 → Moves Riscv (Ld k b) (riscv_row 0 (load (G k) b at)) 4 at
load_general b k at low small short = record {
  d = sign_extend 12 at;
  says = i_says at b 0b011 k 0b0000011 (Ld k b (sign_extend 12 at)) (omega (arith, short)) low (omega arith) small (omega arith) (λ w f. ld f);
  to = λ from far. up12 from at (from + at) short refl far;
}

pub load_law : (b : ℕ) → b < 32 → LoadLaw Riscv 32 b
load_law b low (G k) at ok eight short = load_general b k at low (source_of Riscv 32 k ok).in_range short
load_law b low (F k) at ok eight short = record {
  d = sign_extend 12 at;
  says = i_says at b 0b011 k 0b0000111 (Fld k b (sign_extend 12 at)) (omega (arith, short)) low (omega arith) (floating_of Riscv 32 k ok) (omega arith) (λ w f. fld f);
  to = λ from far. up12 from at (from + at) short refl far;
}
load_law b low (S k w) at ok eight short = absurd (none_of Riscv 32 k w ok)

-- sd x(k), at(b), and fsd f(k), at(b)
pub store_general : (b k at : ℕ) → b < 32 → k < 32 → at < 2048 → Moves Riscv (Sd k b) (riscv_row 0 (store (G k) b at)) 4 at
store_general b k at low small short = record {
  d = sign_extend 12 (at / 32 * 32 + at % 32);
  says = s_says at k b 0b0100011 (Sd k b (sign_extend 12 (at / 32 * 32 + at % 32))) short small low (omega arith) (λ w f. sd f);
  to = λ from far. split_to from at (from + at) short refl far;
}

pub store_law : (b : ℕ) → b < 32 → StoreLaw Riscv 32 b
store_law b low (G k) at ok eight short = store_general b k at low (source_of Riscv 32 k ok).in_range short
store_law b low (F k) at ok eight short = record {
  d = sign_extend 12 (at / 32 * 32 + at % 32);
  says = s_says at k b 0b0100111 (Fsd k b (sign_extend 12 (at / 32 * 32 + at % 32))) short (floating_of Riscv 32 k ok) low (omega arith) (λ w f. fsd f);
  to = λ from far. split_to from at (from + at) short refl far;
}
store_law b low (S k w) at ok eight short = absurd (none_of Riscv 32 k w ok)

-- addi x(to), x(from), imm
pub sum_says : (to from imm : ℕ) → to < 32 → from < 32 → imm < 4096 → Says Riscv (riscv_i imm from 0b000 to 0b0010011) (Addi to from (sign_extend 12 imm)) 4
sum_says to from imm a b c =
    i_says imm from 0b000 to 0b0010011 (Addi to from (sign_extend 12 imm)) c b (omega arith) a (omega arith) (λ w f. addi f)
