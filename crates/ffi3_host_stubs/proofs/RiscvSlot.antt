-- The slot of RISC-V, wherever it stands and its data.
use Rattle.std.proofs.Common.{◌≡◌, ◌⊎◌, inl, inr, ⊎_elim, ℕ, suc, ◌+◌, ◌*◌, ◌/◌, ◌%◌, ◌^◌, ◌<◌, ◌≤◌, Bool, true, if◌then◌else◌, List, [], ◌++◌, refl, subst, sym, ap, ◌∙◌, arith, lit<, ℤ}
use Rattle.std.proofs.lemmas.Bool.Decides.{nat_tests}
use Rattle.std.specs.Prelude.{nat_lt}
use Rattle.ffi3_isa.specs.declared.Instr.TheVariants.{Auipc, Ld, Jalr}
use Rattle.ffi3_isa.specs.Fields.{sign_extend}
use Rattle.ffi3_isa.specs.Riscv.{auipc, ld, jalr}
use Rattle.ffi3_type_spec.specs.declared.Isa.TheVariants.{Riscv}
use Rattle.ffi3_place_spec.specs.declared.Loc.TheVariants.{G}
use Rattle.ffi3_machine.specs.MachineStep.{moved, even}
use Rattle.ffi3_machine_spec.specs.Stubs.{word, load, riscv_row, riscv_i}
use Rattle.ffi3_host_stubs.specs.Processor.{Processor, half, word_at, set_at, next, IsKept, HasCode}
use Rattle.ffi3_host_stubs.specs.Slots.{slot_code, Reaches}
use Rattle.ffi3_host_stubs.proofs.Standing.{plain, unmoved, TakesBy, in_turn}
use Rattle.ffi3_host_stubs.proofs.Effects.{received}
use Rattle.ffi3_host_stubs.proofs.Memory.{none_of_two, received_other}
use Rattle.ffi3_host_stubs.proofs.Rows.{Led, starts, goes_by, jumps_by}
use Rattle.ffi3_host_stubs.proofs.RiscvRows.{word_says, i_says}

based : ℕ → ℕ
based o = o * 2 ^ 12 + 6 * 2 ^ 7 + 0b0010111

extended : (b : Bool) (x y : ℤ) → b ≡ true → (if b then x else y) ≡ x
extended b x y e = rw e refl

-- a distance forwards
up32 : (from o to : ℕ) → o < 2147483648 → from + o ≡ to → to ≤ half → moved from (sign_extend 32 o) ≡ to
up32 from o to short e small =
    let test : nat_lt o 2147483648 ≡ true = grind (arith, nat_tests) in
    ap (λ (d : ℤ). moved from d) (extended (nat_lt o 2147483648) _ _ test) ∙ plain from o to e small

-- auipc t1, k
data_row : {n : ℕ} {o s : Processor} (k to : ℕ) (tail : List ℕ) → k < 524288 → s.pc + k * 4096 ≡ to → to ≤ half → Led Riscv n o s (word (based k) ++ tail) → Led Riscv (suc n) o (received 4 (G 6) to s) tail
unfolding based
data_row {n} {o} {s} k to tail short is low h =
    let there : moved s.pc (sign_extend 32 (k * 2 ^ 12)) ≡ to = up32 s.pc (k * 2 ^ 12) to (omega (arith, short)) is low in
    let says = word_says (based k) (Auipc 6 (sign_extend 32 (k * 2 ^ 12))) (omega (arith, short)) (auipc {imm = k} (record { imm_in_range = omega (arith, short); rd_in_range = lit< tt; is_word = refl })) in
    goes_by (word (based k)) tail (λ pc. record s { general = set_at 6 to s.general; pc = pc }) says tt tt (ap (λ (a : ℕ). let t : Processor = record s { general = set_at 6 a s.general; pc = next 4 s } in t) there) (λ p. refl) (λ p. refl) h

-- ld t2, 16(t1)
load_row : {n : ℕ} {o s : Processor} (x : ℕ) (tail : List ℕ) → s.general 6 ≡ x → x + 16 ≤ half → IsKept Riscv (x + 16) s → Led Riscv n o s (riscv_row 0 (load (G 7) 6 16) ++ tail) → Led Riscv (suc n) o (received 4 (G 7) (word_at (x + 16) s) s) tail
load_row {n} {o} {s} x tail is far kept h =
    let there : moved (s.general 6) (sign_extend 12 16) ≡ x + 16 = plain (s.general 6) 16 (x + 16) (ap (λ (a : ℕ). a + 16) is) far in
    goes_by (riscv_row 0 (load (G 7) 6 16)) tail (λ pc. record s { general = set_at 7 (word_at (x + 16) s) s.general; pc = pc }) (i_says 16 6 0b011 7 0b0000011 (Ld 7 6 (sign_extend 12 16)) (lit< tt) (lit< tt) (lit< tt) (lit< tt) (lit< tt) (λ w f. ld f)) (λ e. tt) (subst (λ (a : ℕ). IsKept Riscv a s) (sym there) kept) (ap (λ (a : ℕ). let t : Processor = record s { general = set_at 7 (word_at a s) s.general; pc = next 4 s } in t) there) (λ p. refl) (λ p. refl) h

reached : ℕ → Processor → Processor
reached d s = record s { general = set_at 7 (word_at (s.pc + d + 16) s) (set_at 6 (s.pc + d) s.general); pc = even (word_at (s.pc + d + 16) s) }

slot_runs : (s : Processor) (d : ℕ) → d % 4096 ≡ 0 → d < 2147483648 → s.pc % 4 ≡ 0 → s.pc + d + 64 ≤ half → (s.pc + d + 64 ≤ s.limit) ⊎ (s.sp ≤ s.pc + d) → word_at (s.pc + d + 16) s ≤ half → HasCode s s.pc (slot_code Riscv d) → TakesBy Riscv 3 s (reached d s)
unfolding slot_code based reached
slot_runs s d page near al far outside callee h =
    let t2 : List ℕ = riscv_i 0 0 0b000 0 0b0010011 in
    let jump : List ℕ = riscv_i 0 7 0b000 0 0b1100111 in
    let v : ℕ = word_at (s.pc + d + 16) s in
    let s2 : Processor = received 4 (G 7) v (received 4 (G 6) (s.pc + d) s) in
    let whole : s.pc + d / 4096 * 4096 ≡ s.pc + d = omega (arith, page) in
    let one = data_row (d / 4096) (s.pc + d) (riscv_row 0 (load (G 7) 6 16) ++ (jump ++ t2)) (omega (arith, near)) whole (omega (arith, far)) (starts Riscv s (slot_code Riscv d) al h) in
    let two = load_row (s.pc + d) (jump ++ t2) refl (omega (arith, far)) (⊎_elim (λ k. inl (omega (arith, k))) (λ k. inr (omega (arith, k))) outside) one in
    jumps_by jump t2 (λ pc. record s2 { pc = even v }) (i_says 0 7 0b000 0 0b1100111 (Jalr 0 7 (sign_extend 12 0)) (lit< tt) (lit< tt) (lit< tt) (lit< tt) (lit< tt) (λ w f. jalr f)) tt tt (ap (λ (a : ℕ). let t : Processor = record s2 { pc = even a } in t) (unmoved v callee)) two

pub reaches : (d : ℕ) → d % 4096 ≡ 0 → d < 2147483648 → Reaches Riscv d (slot_code Riscv d)
unfolding reached
reaches d page near s aligned h far outside to =
    let v : ℕ = word_at (s.pc + d + 16) s in
    let m : Processor = received 4 (G 6) (s.pc + d) s in (
      reached d s,
      in_turn Riscv 3 s (reached d s) (slot_runs s d page near aligned far outside to h),
      record {
        closure = refl;
        pc = refl;
        others = λ l out.
            let p = none_of_two l 6 7 [] out in
            received_other 4 v l (G 7) m p.1 ∙ received_other 4 (s.pc + d) l (G 6) s p.0;
        sp = refl;
        memory = refl;
        limit = refl;
        code = refl;
      },
    )
