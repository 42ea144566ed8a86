-- Which instruction each row of AMD64's tables is.
use Rattle.std.proofs.Common.{◌≡◌, ℕ, ◌+◌, ◌*◌, ◌/◌, ◌%◌, ◌<◌, ◌≤◌, Bool, true, if◌then◌else◌, List, [], ◌∷◌, refl, ap, ◌∙◌, arith, Some, ℤ, pos}
use Rattle.std.proofs.lemmas.Bool.Decides.{nat_tests}
use Rattle.std.proofs.lemmas.Nat.{from_le_bytes-to_le_bytes_4}
use Rattle.std.specs.Prelude.{nat_lt}
use Rattle.std.specs.Int.{w32, byte_at, from_le_bytes, to_le_bytes}
use Rattle.ffi3_isa.specs.declared.Instr.{Instr}
use Rattle.ffi3_isa.specs.declared.Instr.TheVariants.{Ld, Sd, Fld, Fsd, Addi}
use Rattle.ffi3_isa.specs.Fields.{sign_extend}
use Rattle.ffi3_isa.specs.Amd64.{fixed, mov_at_r11, mov_at_sp, movsd_at_r11, lea_sp, disp32, mov, movsd}
use Rattle.ffi3_machine_spec.specs.Encoding.{rex, mod_rm}
use Rattle.ffi3_type_spec.specs.declared.Isa.TheVariants.{Amd64}
use Rattle.ffi3_place_spec.specs.declared.Loc.TheVariants.{G, F, S}
use Rattle.ffi3_machine_spec.specs.Stubs.{load, store, sum, amd64_row, word}
use Rattle.ffi3_machine.specs.MachineStep.{moved}
use Rattle.ffi3_host_stubs.specs.Processor.{half, listed, move_of}
use Rattle.ffi3_host_stubs.specs.Calls.{IsSource}
use Rattle.ffi3_host_stubs.specs.Stubs.{copy_bytes}
use Rattle.ffi3_host_stubs.proofs.Standing.{plain}
use Rattle.ffi3_host_stubs.proofs.Rows.{Says, Moves, LoadLaw, StoreLaw, source_of, floating_of, none_of}

-- ---- distances

unfoldable pub disp : ℕ → ℤ
disp o = disp32 (byte_at 0 o) (byte_at 1 o) (byte_at 2 o) (byte_at 3 o)

extended : (b : Bool) (x y : ℤ) → b ≡ true → (if b then x else y) ≡ x
extended b x y e = rw e refl

pub disp-pos : (o : ℕ) → o < 2147483648 → disp o ≡ pos o
unfolding disp
disp-pos o h =
    let round : from_le_bytes w32 (to_le_bytes w32 o) ≡ o = from_le_bytes-to_le_bytes_4 o (omega (arith, h)) in
    let test : nat_lt o 2147483648 ≡ true = grind (arith, nat_tests) in
    ap (sign_extend 32) round ∙ extended (nat_lt o 2147483648) _ _ test

pub up : (from o to : ℕ) → o < 2147483648 → from + o ≡ to → to ≤ half → moved from (disp o) ≡ to
up from o to h e small = ap (λ (d : ℤ). moved from d) (disp-pos o h) ∙ plain from o to e small

pub displaced : (instr : ℤ → Instr) (row : List ℕ) (size at : ℕ) → at < 2147483648 → Says Amd64 row (instr (disp at)) size → Moves Amd64 instr row size at
displaced instr row size at near says = record {
  d = disp at;
  says = says;
  to = λ from far. up from at (from + at) near refl far;
}

-- ---- rows

-- mov between a general register and [r11 + at]
pub mov_says : (op k at : ℕ) (i : Instr) → k < 16 → mov op k 11 (disp at) ≡ Some i → Says Amd64 (rex 1 (k / 8) 0 1 ∷ op ∷ mod_rm 2 (k % 8) 3 ∷ word at) i 7
unfolding disp
mov_says op k at i small means = record {
  sized = refl;
  code = λ bytes tail e. listed (mov_at_r11 (record { prefix = rex 1 (k / 8) 0 1; op = op; mod_reg_rm = mod_rm 2 (k % 8) 3; register = k; a = byte_at 0 at; b = byte_at 1 at; c = byte_at 2 at; d = byte_at 3 at; rest = tail; is_bytes = e; names = record { r = k / 8; reg = k % 8; r_in_range = omega (arith, small); reg_in_range = omega arith; is_prefix = refl; is_mod_rm = refl; is_register = omega arith }; means = means; is_size = refl }));
  aligned = λ p h. tt;
}

-- the same with [rsp + at]
area_says : (op k at : ℕ) (i : Instr) → IsSource Amd64 k → mov op k 4 (disp at) ≡ Some i → Says Amd64 (rex 1 (k / 8) 0 0 ∷ op ∷ mod_rm 2 (k % 8) 4 ∷ 0x24 ∷ word at) i 8
unfolding disp
area_says op k at i is means =
    let small : k < 16 = is.in_range in
    record {
      sized = refl;
      code = λ bytes tail e. listed (mov_at_sp (record { prefix = rex 1 (k / 8) 0 0; op = op; mod_reg_rm = mod_rm 2 (k % 8) 4; register = k; a = byte_at 0 at; b = byte_at 1 at; c = byte_at 2 at; d = byte_at 3 at; rest = tail; is_bytes = e; names = record { r = k / 8; reg = k % 8; r_in_range = omega (arith, small); reg_in_range = omega arith; is_prefix = refl; is_mod_rm = refl; is_register = omega arith; is_listed = is.not_sp }; means = means; is_size = refl }));
      aligned = λ p h. tt;
    }

-- movsd between a floating register and [r11 + at]
movsd_says : (op k at : ℕ) (i : Instr) → k < 8 → movsd op k 11 (disp at) ≡ Some i → Says Amd64 (0xF2 ∷ rex 0 0 0 1 ∷ 0x0F ∷ op ∷ mod_rm 2 k 3 ∷ word at) i 9
unfolding disp
movsd_says op k at i small means = record {
  sized = refl;
  code = λ bytes tail e. listed (movsd_at_r11 (record { op = op; register = k; a = byte_at 0 at; b = byte_at 1 at; c = byte_at 2 at; d = byte_at 3 at; rest = tail; is_bytes = e; in_range = small; means = means; is_size = refl }));
  aligned = λ p h. tt;
}

pub load_general : (k at : ℕ) → k < 16 → at < 2048 → Moves Amd64 (Ld k 11) (amd64_row 0 (load (G k) 11 at)) 7 at
load_general k at small short =
    displaced (Ld k 11) _ 7 at (omega (arith, short)) (mov_says 0x8B k at (Ld k 11 (disp at)) small refl)

pub store_general : (k at : ℕ) → k < 16 → at < 2048 → Moves Amd64 (Sd k 11) (amd64_row 0 (store (G k) 11 at)) 7 at
store_general k at small short =
    displaced (Sd k 11) _ 7 at (omega (arith, short)) (mov_says 0x89 k at (Sd k 11 (disp at)) small refl)

pub load_law : LoadLaw Amd64 8 11
load_law (G k) at ok eight short = load_general k at (source_of Amd64 8 k ok).in_range short
load_law (F k) at ok eight short =
    displaced (Fld k 11) _ 9 at (omega (arith, short)) (movsd_says 0x10 k at (Fld k 11 (disp at)) (floating_of Amd64 8 k ok) refl)
load_law (S k w) at ok eight short = absurd (none_of Amd64 8 k w ok)

pub store_law : StoreLaw Amd64 8 11
store_law (G k) at ok eight short = store_general k at (source_of Amd64 8 k ok).in_range short
store_law (F k) at ok eight short =
    displaced (Fsd k 11) _ 9 at (omega (arith, short)) (movsd_says 0x11 k at (Fsd k 11 (disp at)) (floating_of Amd64 8 k ok) refl)
store_law (S k w) at ok eight short = absurd (none_of Amd64 8 k w ok)

no_floating : (k : ℕ) → ¬ k < 0
no_floating k h = omega (arith, h)

pub area_load_law : LoadLaw Amd64 0 4
area_load_law (G k) at ok eight short =
    displaced (Ld k 4) _ 8 at (omega (arith, short)) (area_says 0x8B k at (Ld k 4 (disp at)) (source_of Amd64 0 k ok) refl)
area_load_law (F k) at ok eight short = absurd (no_floating k (floating_of Amd64 0 k ok))
area_load_law (S k w) at ok eight short = absurd (none_of Amd64 0 k w ok)

pub area_store_law : StoreLaw Amd64 0 4
area_store_law (G k) at ok eight short =
    displaced (Sd k 4) _ 8 at (omega (arith, short)) (area_says 0x89 k at (Sd k 4 (disp at)) (source_of Amd64 0 k ok) refl)
area_store_law (F k) at ok eight short = absurd (no_floating k (floating_of Amd64 0 k ok))
area_store_law (S k w) at ok eight short = absurd (none_of Amd64 0 k w ok)

-- mov r11, from
pub copy_says : (from : ℕ) → from < 16 → Says Amd64 (copy_bytes Amd64 11 from) (Addi 11 from (pos 0)) 3
copy_says from small =
    let parts : from ≡ 8 * (from / 8) + from % 8 = omega arith in
    record {
      sized = refl;
      code = λ bytes tail e. move_of (record { r = from / 8; reg = from % 8; b = 1; rm = 3; rest = tail; r_in_range = omega (arith, small); reg_in_range = omega arith; b_in_range = omega arith; rm_in_range = omega arith; is_bytes = e; means = ap (λ (k : ℕ). Addi 11 k (pos 0)) parts; is_size = refl });
      aligned = λ p h. tt;
    }

-- lea rsp, [rsp + d]
pub lea_says : (a b c d : ℕ) → Says Amd64 (rex 1 0 0 0 ∷ 0x8D ∷ mod_rm 2 4 4 ∷ 0x24 ∷ a ∷ b ∷ c ∷ d ∷ []) (Addi 4 4 (disp32 a b c d)) 8
lea_says a b c d = record {
  sized = refl;
  code = λ bytes tail e. listed (fixed (lea_sp e));
  aligned = λ p h. tt;
}

pub rise_says : (n : ℕ) → Says Amd64 (amd64_row 0 (sum 4 4 (pos n))) (Addi 4 4 (disp n)) 8
unfolding disp
rise_says n = lea_says (byte_at 0 n) (byte_at 1 n) (byte_at 2 n) (byte_at 3 n)
