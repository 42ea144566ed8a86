-- The slot of AArch64, wherever it stands and its data.
use Rattle.std.proofs.Common.{⊎_elim, subst, ◌≡◌, ◌⊎◌, inl, inr, ℕ, suc, ◌+◌, ◌-◌, ◌*◌, ◌/◌, ◌%◌, ◌^◌, ◌<◌, ◌≤◌, Bool, true, false, if◌then◌else◌, List, [], ◌++◌, refl, sym, ap, ◌∙◌, arith, lit<, ℤ}
use Rattle.std.proofs.lemmas.Bool.Decides.{nat_tests}
use Rattle.std.specs.Prelude.{nat_le, nat_lt}
use Rattle.ffi3_isa.specs.declared.Instr.TheVariants.{LdrLit, Adr, Br}
use Rattle.ffi3_isa.specs.Fields.{sign_extend}
use Rattle.ffi3_isa.specs.Aarch64.{trampoline, ldr_literal, adr, br}
use Rattle.ffi3_type_spec.specs.declared.Isa.TheVariants.{Aarch64}
use Rattle.ffi3_place_spec.specs.declared.Loc.TheVariants.{G}
use Rattle.ffi3_machine.specs.MachineStep.{moved}
use Rattle.ffi3_machine_spec.specs.Stubs.{word}
use Rattle.ffi3_host_stubs.specs.Processor.{Processor, half, word_at, set_at, next, IsKept, HasCode}
use Rattle.ffi3_host_stubs.specs.Slots.{less_by, slot_code, Reaches}
use Rattle.ffi3_host_stubs.proofs.Standing.{plain, wraps, TakesBy, in_turn}
use Rattle.ffi3_host_stubs.proofs.Effects.{received}
use Rattle.ffi3_host_stubs.proofs.Memory.{none_of_two, received_other}
use Rattle.ffi3_host_stubs.proofs.Rows.{Led, starts, goes_by, jumps_by}
use Rattle.ffi3_host_stubs.proofs.Aarch64Rows.{word_says}

loaded : ℕ → ℕ
loaded o = 0b01011000 * 2 ^ 24 + o * 2 ^ 5 + 16

based : ℕ → ℕ
based o = 0b10000 * 2 ^ 24 + o * 2 ^ 5 + 17

extended : (b : Bool) (x y : ℤ) → b ≡ true → (if b then x else y) ≡ x
extended b x y e = rw e refl

-- a distance forwards
up21 : (from o to : ℕ) → o < 1048576 → from + o ≡ to → to ≤ half → moved from (sign_extend 21 o) ≡ to
up21 from o to short e small =
    let test : nat_lt o 1048576 ≡ true = grind (arith, nat_tests) in
    ap (λ (d : ℤ). moved from d) (extended (nat_lt o 1048576) _ _ test) ∙ plain from o to e small

-- ldr x16, . + 4 k
load_row : {n : ℕ} {o s : Processor} (k to : ℕ) (tail : List ℕ) → k < 524288 → moved s.pc (sign_extend 21 (k * 4)) ≡ to → IsKept Aarch64 to s → Led Aarch64 n o s (word (loaded k) ++ tail) → Led Aarch64 (suc n) o (received 4 (G 16) (word_at to s) s) tail
unfolding loaded
load_row {n} {o} {s} k to tail short is kept h =
    let says = word_says (loaded k) (LdrLit 16 (sign_extend 21 (k * 4))) (omega (arith, short)) (trampoline (ldr_literal {imm19 = k} {t = 16} (omega (arith, short)) (omega arith) refl)) in
    goes_by (word (loaded k)) tail (λ pc. record s { general = set_at 16 (word_at to s) s.general; pc = pc }) says tt (subst (λ (a : ℕ). IsKept Aarch64 a s) (sym is) kept) (ap (λ (a : ℕ). let t : Processor = record s { general = set_at 16 (word_at a s) s.general; pc = next 4 s } in t) is) (λ p. refl) (λ p. refl) h

-- adr x17, . + 4 k
data_row : {n : ℕ} {o s : Processor} (k to : ℕ) (tail : List ℕ) → k < 524288 → moved s.pc (sign_extend 21 (k * 4 + 0)) ≡ to → Led Aarch64 n o s (word (based k) ++ tail) → Led Aarch64 (suc n) o (received 4 (G 17) to s) tail
unfolding based
data_row {n} {o} {s} k to tail short is h =
    let fields : based k ≡ 0 * 2 ^ 29 + 0b10000 * 2 ^ 24 + k * 2 ^ 5 + 17 = omega arith in
    let says = word_says (based k) (Adr 17 (sign_extend 21 (k * 4 + 0))) (omega (arith, short)) (trampoline (adr {immlo = 0} {immhi = k} {rd = 17} (omega arith) (omega (arith, short)) (omega arith) fields)) in
    goes_by (word (based k)) tail (λ pc. record s { general = set_at 17 to s.general; pc = pc }) says tt tt (ap (λ (a : ℕ). let t : Processor = record s { general = set_at 17 a s.general; pc = next 4 s } in t) is) (λ p. refl) (λ p. refl) h

reached : ℕ → Processor → Processor
reached d s = record s { general = set_at 17 (s.pc + d) (set_at 16 (word_at (s.pc + d + 16) s) s.general); pc = word_at (s.pc + d + 16) s }

-- the data's address, from the instruction that makes it
data_at : (pc d : ℕ) → (d ≡ 0) ⊎ (4 ≤ d) → d % 4 ≡ 0 → d + 16 < 1048576 → pc + d + 64 ≤ half → moved (pc + 4) (sign_extend 21 (less_by 19 (d / 4) 1 * 4 + 0)) ≡ pc + d
data_at pc d (inl e) four near far =
    let back : moved (pc + 4) (sign_extend 21 ((2 ^ 19 - 1) * 4 + 0)) ≡ pc = wraps (pc + 4) 18446744073709551612 pc (omega arith) (omega (arith, far)) in
    let same : pc ≡ pc + d = omega (arith, e) in
    ap (λ (k : ℕ). moved (pc + 4) (sign_extend 21 (less_by 19 (k / 4) 1 * 4 + 0))) e ∙ back ∙ same
data_at pc d (inr some) four near far =
    let one : 1 ≤ d / 4 = omega (arith, some) in
    let test : nat_le 1 (d / 4) ≡ true = grind (arith, nat_tests) in
    let sum : pc + 4 + ((d / 4 - 1) * 4 + 0) ≡ pc + d = omega (arith, some, four, one) in
    ap (λ (b : Bool). moved (pc + 4) (sign_extend 21 ((if b then d / 4 - 1 else 2 ^ 19 - (1 - d / 4)) * 4 + 0))) test ∙ up21 (pc + 4) ((d / 4 - 1) * 4 + 0) (pc + d) (omega (arith, near)) sum (omega (arith, far))

short_by : (d : ℕ) → (d ≡ 0) ⊎ (4 ≤ d) → d + 16 < 1048576 → less_by 19 (d / 4) 1 < 524288
short_by d (inl e) near = let last : less_by 19 (0 / 4) 1 < 524288 = lit< tt in subst_zero d e last
  where
    subst_zero : (k : ℕ) → k ≡ 0 → less_by 19 (0 / 4) 1 < 524288 → less_by 19 (k / 4) 1 < 524288
    subst_zero k same h = let both : less_by 19 (k / 4) 1 ≡ less_by 19 (0 / 4) 1 = ap (λ (n : ℕ). less_by 19 (n / 4) 1) same in omega (arith, both, h)
short_by d (inr some) near =
    let one : 1 ≤ d / 4 = omega (arith, some) in
    let test : nat_le 1 (d / 4) ≡ true = grind (arith, nat_tests) in
    let form : less_by 19 (d / 4) 1 ≡ d / 4 - 1 = ap (λ (b : Bool). if b then d / 4 - 1 else 2 ^ 19 - (1 - d / 4)) test in
    omega (arith, form, near)

slot_runs : (s : Processor) (d : ℕ) → (d ≡ 0) ⊎ (4 ≤ d) → d % 4 ≡ 0 → d + 16 < 1048576 → s.pc % 4 ≡ 0 → s.pc + d + 64 ≤ half → (s.pc + d + 64 ≤ s.limit) ⊎ (s.sp ≤ s.pc + d) → HasCode s s.pc (slot_code Aarch64 d) → TakesBy Aarch64 3 s (reached d s)
unfolding slot_code loaded based reached
slot_runs s d apart four near al far outside h =
    let jump : List ℕ = word 0xD61F0200 in
    let k : ℕ = less_by 19 (d / 4) 1 in
    let s2 : Processor = received 4 (G 17) (s.pc + d) (received 4 (G 16) (word_at (s.pc + d + 16) s) s) in
    let whole : s.pc + (d + 16) / 4 * 4 ≡ s.pc + d + 16 = omega (arith, four) in
    let there : moved s.pc (sign_extend 21 ((d + 16) / 4 * 4)) ≡ s.pc + d + 16 = up21 s.pc ((d + 16) / 4 * 4) (s.pc + d + 16) (omega (arith, near)) whole (omega (arith, far)) in
    let one = load_row ((d + 16) / 4) (s.pc + d + 16) (word (based k) ++ (jump ++ [])) (omega (arith, near)) there (⊎_elim (λ e. inl (omega (arith, e))) (λ e. inr (omega (arith, e))) outside) (starts Aarch64 s (slot_code Aarch64 d) al h) in
    let two = data_row k (s.pc + d) (jump ++ []) (short_by d apart near) (data_at s.pc d apart four near far) one in
    jumps_by jump [] (λ pc. record s2 { pc = s2.general 16 }) (word_says 0xD61F0200 (Br 16) (lit< tt) (trampoline (br {n = 16} (lit< tt) refl))) tt tt refl two

either : (d : ℕ) → d % 4 ≡ 0 → (d ≡ 0) ⊎ (4 ≤ d)
either d four = by_test (nat_lt d 4) refl
  where
    by_test : (t : Bool) → nat_lt d 4 ≡ t → (d ≡ 0) ⊎ (4 ≤ d)
    by_test true e = let low : d < 4 = grind (arith, nat_tests) in inl (omega (arith, low, four))
    by_test false e = inr (grind (arith, nat_tests))

pub reaches : (d : ℕ) → d % 4 ≡ 0 → d + 16 < 1048576 → Reaches Aarch64 d (slot_code Aarch64 d)
unfolding reached
reaches d four near s aligned h far outside to =
    let v : ℕ = word_at (s.pc + d + 16) s in
    let m : Processor = received 4 (G 16) v s in (
      reached d s,
      in_turn Aarch64 3 s (reached d s) (slot_runs s d (either d four) four near aligned far outside h),
      record {
        closure = refl;
        pc = refl;
        others = λ l out.
            let p = none_of_two l 17 16 [] out in
            received_other 4 (s.pc + d) l (G 17) m p.0 ∙ received_other 4 v l (G 16) s p.1;
        sp = refl;
        memory = refl;
        limit = refl;
        code = refl;
      },
    )
