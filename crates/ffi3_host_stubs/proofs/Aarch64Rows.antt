-- Which instruction each row of AArch64's tables is.
use Rattle.std.proofs.Common.{◌≡◌, ℕ, ◌+◌, ◌*◌, ◌/◌, ◌%◌, ◌^◌, ◌<◌, List, refl, ap, ◌∙◌, arith, Some, ℤ, pos, negsuc}
use Rattle.std.specs.Prelude.{◌-ℤ◌}
use Rattle.ffi3_isa.specs.declared.Instr.{Instr}
use Rattle.ffi3_isa.specs.declared.Instr.TheVariants.{Ld, Sd, Fld, Fsd, Addi}
use Rattle.ffi3_isa.specs.Fields.{first_word}
use Rattle.ffi3_isa.specs.Aarch64.{IsAarch64Word, immediate, based, stub}
use Rattle.ffi3_type_spec.specs.declared.Isa.TheVariants.{Aarch64}
use Rattle.ffi3_place_spec.specs.declared.Loc.TheVariants.{G, F, S}
use Rattle.ffi3_machine_spec.specs.Stubs.{sum, aarch64_row, aarch64_immediate, word}
use Rattle.ffi3_stubs.proofs.Places.{word_first}
use Rattle.ffi3_host_stubs.proofs.Standing.{plain}
use Rattle.ffi3_host_stubs.proofs.Rows.{Says, Moves, LoadLaw, StoreLaw, source_of, floating_of, none_of}

four_on : (p : ℕ) → p % 4 ≡ 0 → (p + 4) % 4 ≡ 0
four_on p h = omega (arith, h)

pub word_says : (w : ℕ) (i : Instr) → w < 4294967296 → IsAarch64Word w i → Says Aarch64 (word w) i 4
word_says w i small means = record {
  sized = refl;
  code = λ bytes tail e. record { word = w; begins = ap first_word e ∙ word_first w tail small; means = means; is_size = refl };
  aligned = four_on;
}

immediate_says : (op imm12 n t : ℕ) (i : Instr) → op < 1024 → imm12 < 4096 → n < 32 → t < 32 → immediate op imm12 n t ≡ Some i → Says Aarch64 (aarch64_immediate op imm12 n t) i 4
immediate_says op imm12 n t i a b c d means =
    word_says (op * 2 ^ 22 + imm12 * 2 ^ 10 + n * 2 ^ 5 + t) i (omega (arith, a, b, c, d)) (stub (based (record { imm_in_range = b; n_in_range = c; t_in_range = d; is_word = refl }) means))

by_eights : (instr : ℤ → Instr) (row : List ℕ) (at : ℕ) → at % 8 ≡ 0 → Says Aarch64 row (instr (pos (8 * (at / 8)))) 4 → Moves Aarch64 instr row 4 at
by_eights instr row at eight says = record {
  d = pos (8 * (at / 8));
  says = says;
  to = λ from far. plain from (8 * (at / 8)) (from + at) (omega (arith, eight)) far;
}

lower : (k : ℕ) → k < 31 → k < 32
lower k h = omega (arith, h)

-- ldr x(k) or d(k), [x(b), at]
pub load_law : (b : ℕ) → b < 32 → LoadLaw Aarch64 32 b
load_law b low (G k) at ok eight short =
    by_eights (Ld k b) _ at eight (immediate_says 0b1111100101 (at / 8) b k (Ld k b (pos (8 * (at / 8)))) (omega arith) (omega (arith, short)) low (lower k (source_of Aarch64 32 k ok).in_range) refl)
load_law b low (F k) at ok eight short =
    by_eights (Fld k b) _ at eight (immediate_says 0b1111110101 (at / 8) b k (Fld k b (pos (8 * (at / 8)))) (omega arith) (omega (arith, short)) low (floating_of Aarch64 32 k ok) refl)
load_law b low (S k w) at ok eight short = absurd (none_of Aarch64 32 k w ok)

-- str x(k) or d(k), [x(b), at]
pub store_law : (b : ℕ) → b < 32 → StoreLaw Aarch64 32 b
store_law b low (G k) at ok eight short =
    by_eights (Sd k b) _ at eight (immediate_says 0b1111100100 (at / 8) b k (Sd k b (pos (8 * (at / 8)))) (omega arith) (omega (arith, short)) low (lower k (source_of Aarch64 32 k ok).in_range) refl)
store_law b low (F k) at ok eight short =
    by_eights (Fsd k b) _ at eight (immediate_says 0b1111110100 (at / 8) b k (Fsd k b (pos (8 * (at / 8)))) (omega arith) (omega (arith, short)) low (floating_of Aarch64 32 k ok) refl)
store_law b low (S k w) at ok eight short = absurd (none_of Aarch64 32 k w ok)

-- add x(to), x(from), n, where 31 is sp; and sub sp, sp, 176
pub sum_says : (to from n : ℕ) → to < 32 → from < 32 → n < 4096 → Says Aarch64 (aarch64_row 0 (sum to from (pos n))) (Addi to from (pos n)) 4
sum_says to from n a b c = immediate_says 0b1001000100 n from to (Addi to from (pos n)) (omega arith) c b a refl

pub fall_says : Says Aarch64 (aarch64_row 0 (sum 31 31 (negsuc 175))) (Addi 31 31 (pos 0 -ℤ pos 176)) 4
fall_says =
    immediate_says 0b1101000100 176 31 31 (Addi 31 31 (pos 0 -ℤ pos 176)) (omega arith) (omega arith) (omega arith) (omega arith) refl
