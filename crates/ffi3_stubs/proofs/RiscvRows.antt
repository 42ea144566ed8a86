-- What each row of RISC-V's tables does.
use Rattle.std.proofs.Common.{◌≡◌, ◌≢◌, ℕ, ◌+◌, ◌*◌, ◌/◌, ◌%◌, ◌^◌, ◌<◌, ◌≤◌, Bool, true, false, if◌then◌else◌, List, ◌++◌, length, length-append, refl, sym, ap, ◌∙◌, arith, lit<, Some, None, ℤ, pos, negsuc}
use Rattle.std.proofs.lemmas.Bool.Decides.{nat_tests}
use Rattle.std.proofs.lemmas.List.{get_or-set_same, set-set}
use Rattle.std.specs.Prelude.{slice_set, slice_index, nat_lt, ◌==◌}
use Rattle.ffi3_isa.specs.declared.Instr.{Instr}
use Rattle.ffi3_isa.specs.declared.Instr.TheVariants.{Ld, Sd, Fld, Fsd, Addi, Auipc, Jalr}
use Rattle.ffi3_isa.specs.Fields.{sign_extend, first_word}
use Rattle.ffi3_isa.specs.Riscv.{IsRiscvWord, auipc, ld, jalr, addi, sd, fld, fsd}
use Rattle.ffi3_type_spec.specs.declared.Isa.TheVariants.{Riscv}
use Rattle.ffi3_type_spec.specs.declared.limits.TheConstants.{STACK, STACK_TOP, CODE}
use Rattle.ffi3_place_spec.specs.declared.Loc.TheVariants.{G, F}
use Rattle.ffi3_machine_spec.specs.declared.stub.TheConstants.{EXCHANGE}
use Rattle.ffi3_machine_spec.specs.State.{State}
use Rattle.ffi3_machine_spec.specs.Stubs.{load, store, sum, jump, calls, returns, riscv_row, riscv_i, riscv_s, word}
use Rattle.ffi3_machine.specs.MachineStep.{StepsBy, IsInstructionAt, loaded, moved, next, even, base, sets, sums, changed}
use Rattle.ffi3_stubs.specs.Effects.{counted, received, with_sp_by, exchanged, saved, linked, jumped, addressed_twice}
use Rattle.ffi3_stubs.proofs.Standing.{Stands, plain, unmoved, wraps, TakesBy, one_step, and_then, onward}
use Rattle.ffi3_stubs.proofs.Places.{along, word_first, unequal}
use Rattle.ffi3_stubs.proofs.Instructions.{wrote, loads, loads_sp, exchanges, saves, sums_sp}

stands_word : (s : State) (w : ℕ) (tail : List ℕ) (i : Instr) → w < 4294967296 → s.pc % 4 ≡ 0 → IsRiscvWord w i → Stands Riscv s (word w ++ tail) → IsInstructionAt Riscv s i 4
stands_word s w tail i small al means h = record {
  aligned = al;
  listed = record { word = w; begins = ap first_word h.are ∙ word_first w tail small; means = means; is_size = refl };
}

near : (s : State) (bytes : List ℕ) → Stands Riscv s bytes → s.pc + 4 < 4294967296
near s bytes h = let high : s.pc + length bytes ≤ 10240 = h.high in omega arith

extended : (b : Bool) (x y : ℤ) → b ≡ true → (if b then x else y) ≡ x
extended b x y e = rw e refl

-- a distance below 2048
pub up12 : (from o to : ℕ) → o < 2048 → from + o ≡ to → to < 4294967296 → moved from (sign_extend 12 o) ≡ to
up12 from o to short e small =
    let test : nat_lt o 2048 ≡ true = grind (arith, nat_tests) in
    ap (λ (d : ℤ). moved from d) (extended (nat_lt o 2048) _ _ test) ∙ plain from o to e small

near_enough : (s : State) (bytes : List ℕ) → Stands Riscv s bytes → s.pc < CODE
near_enough s bytes h = let high : s.pc + length bytes ≤ 10240 = h.high in omega arith

below_sign : (n : ℕ) → n < 2147483648 → nat_lt n 2147483648 ≡ true
below_sign n h = grind (arith, nat_tests)

aligned_next : (p : ℕ) → p % 4 ≡ 0 → (p + 4) % 4 ≡ 0
aligned_next p h = omega arith

own_base : (s : State) (k v : ℕ) → k ≢ 0 → k ≢ 2 → k < 32 → length s.general ≡ 32 → base Riscv k (received 4 (G k) v s) ≡ v
own_base s k v nz ns low count =
    let m : State = received 4 (G k) v s in
    ap (λ (b : Bool). if b then 0 else (if k == 2 then m.sp else slice_index m.general k)) (unequal k 0 nz) ∙ ap (λ (b : Bool). if b then m.sp else slice_index m.general k) (unequal k 2 ns) ∙ get_or-set_same s.general k v 0 (omega arith)

-- auipc and addi
pub address_row : (s : State) (k hi lo : ℕ) (tail : List ℕ) → k < 32 → k ≢ 0 → k ≢ 2 → hi < 64 → lo < 4096 → length s.general ≡ 32 → s.pc % 4 ≡ 0 → moved (s.pc + hi * 4096) (sign_extend 12 lo) ≡ EXCHANGE → Stands Riscv s (word (hi * 2 ^ 12 + k * 2 ^ 7 + 0b0010111) ++ (riscv_i lo k 0b000 k 0b0010011 ++ tail)) → TakesBy Riscv 2 s (addressed_twice k s)
address_row s k hi lo tail in_range nz ns top low count al sums_to h =
    let close : s.pc + 4 < 4294967296 = near s _ h in
    let near_pc : s.pc < CODE = near_enough s _ h in
    let v : ℕ = s.pc + hi * 4096 in
    let m : State = received 4 (G k) v s in
    let e : State = addressed_twice k s in
    let behind : next 4 s ≡ s.pc + 4 = along s 4 close in
    let test : nat_lt (hi * 4096) 2147483648 ≡ true = below_sign (hi * 4096) (omega arith) in
    let first_sum : moved s.pc (sign_extend 32 (hi * 2 ^ 12)) ≡ v = ap (λ (d : ℤ). moved s.pc d) (extended (nat_lt (hi * 4096) 2147483648) _ _ test) ∙ plain s.pc (hi * 4096) v refl (omega arith) in
    let one : StepsBy Riscv s m = record {
      instr = Auipc k (sign_extend 32 (hi * 2 ^ 12));
      size = 4;
      change = sets Riscv k (s.pc + 4) v;
      stands = stands_word s (hi * 2 ^ 12 + k * 2 ^ 7 + 0b0010111) (riscv_i lo k 0b000 k 0b0010011 ++ tail) (Auipc k (sign_extend 32 (hi * 2 ^ 12))) (omega arith) al (auipc (record { imm_in_range = omega arith; rd_in_range = in_range; is_word = refl })) h;
      does = λ i. Some (sets Riscv k (behind i) (first_sum i));
      is_after = wrote Riscv s k v 4 (record { no_zero = unequal k 0 nz; no_sp = unequal k 2 ns });
    } in
    let h2 : Stands Riscv m (riscv_i lo k 0b000 k 0b0010011 ++ tail) = onward Riscv s m (word (hi * 2 ^ 12 + k * 2 ^ 7 + 0b0010111)) (riscv_i lo k 0b000 k 0b0010011 ++ tail) 4 refl refl (length-append (word (hi * 2 ^ 12 + k * 2 ^ 7 + 0b0010111)) (riscv_i lo k 0b000 k 0b0010011 ++ tail)) h in
    let behind2 : next 4 m ≡ s.pc + 4 + 4 = along m 4 (near m _ h2) in
    let own : base Riscv k m ≡ v = own_base s k v nz ns in_range count in
    let second_sum : moved (base Riscv k m) (sign_extend 12 lo) ≡ EXCHANGE = ap (λ a. moved a (sign_extend 12 lo)) own ∙ sums_to in
    let again : slice_set (slice_set s.general k v) k EXCHANGE ≡ slice_set s.general k EXCHANGE = set-set s.general k v EXCHANGE in
    let not_sp : (k == 2) ≡ false = unequal k 2 ns in
    let not_zero : (k == 0) ≡ false = unequal k 0 nz in
    let shape : Bool → State = λ b. changed Riscv (record { general = if b then None else Some (k, EXCHANGE); floating = None; sp = if b then Some EXCHANGE else None; store = None; pc = s.pc + 4 + 4 }) m in
    let form : Bool → State = λ b. record m { general = if b then m.general else slice_set m.general k EXCHANGE; pc = s.pc + 4 + 4; steps = counted m } in
    let two : StepsBy Riscv m e = record {
      instr = Addi k k (sign_extend 12 lo);
      size = 4;
      change = sums Riscv k (s.pc + 4 + 4) EXCHANGE;
      stands = stands_word m (lo * 2 ^ 20 + k * 2 ^ 15 + 0b000 * 2 ^ 12 + k * 2 ^ 7 + 0b0010011) tail (Addi k k (sign_extend 12 lo)) (omega arith) (aligned_next s.pc al) (addi (record { imm_in_range = low; rs1_in_range = in_range; rd_in_range = in_range; is_word = refl })) h2;
      does = λ i. Some (sums Riscv k (behind2 i) (second_sum i));
      is_after = sym (ap shape not_sp ∙ ap form not_zero ∙ ap (λ (g : List ℕ). let t : State = record m { general = g; pc = s.pc + 4 + 4; steps = counted m } in t) again);
    } in
    and_then Riscv 1 1 2 s m e refl (one_step Riscv s m one) (one_step Riscv m e two)

-- ld x(k), o(b)
pub load_general_row : (s : State) (k b o addr v : ℕ) (tail : List ℕ) → k < 32 → k ≢ 0 → k ≢ 2 → b < 32 → o < 2048 → s.pc % 4 ≡ 0 → Stands Riscv s (riscv_row s.pc (load (G k) b o) ++ tail) → base Riscv b s + o ≡ addr → addr < 4294967296 → loaded Riscv addr s ≡ Some v → StepsBy Riscv s (received 4 (G k) v s)
load_general_row s k b o addr v tail in_range nz ns b_range short al h at far is =
    loads Riscv s (G k) b (sign_extend 12 o) 4 addr v (record { no_zero = unequal k 0 nz; no_sp = unequal k 2 ns }) (stands_word s (o * 2 ^ 20 + b * 2 ^ 15 + 0b011 * 2 ^ 12 + k * 2 ^ 7 + 0b0000011) tail (Ld k b (sign_extend 12 o)) (omega arith) al (ld (record { imm_in_range = omega arith; rs1_in_range = b_range; rd_in_range = in_range; is_word = refl })) h) (along s 4 (near s _ h)) (up12 (base Riscv b s) o addr short at far) is

-- ld sp, o(b)
pub load_sp_row : (s : State) (b o addr v : ℕ) (tail : List ℕ) → b < 32 → o < 2048 → s.pc % 4 ≡ 0 → Stands Riscv s (riscv_row s.pc (load (G 2) b o) ++ tail) → base Riscv b s + o ≡ addr → addr < 4294967296 → loaded Riscv addr s ≡ Some v → StepsBy Riscv s (with_sp_by 4 v s)
load_sp_row s b o addr v tail b_range short al h at far is =
    loads_sp Riscv s b (sign_extend 12 o) 4 addr v (stands_word s (o * 2 ^ 20 + b * 2 ^ 15 + 0b011 * 2 ^ 12 + 2 * 2 ^ 7 + 0b0000011) tail (Ld 2 b (sign_extend 12 o)) (omega arith) al (ld (record { imm_in_range = omega arith; rs1_in_range = b_range; rd_in_range = omega arith; is_word = refl })) h) (along s 4 (near s _ h)) (up12 (base Riscv b s) o addr short at far) is refl

-- fld f(k), o(b)
pub load_floating_row : (s : State) (k b o addr v : ℕ) (tail : List ℕ) → k < 32 → b < 32 → o < 2048 → s.pc % 4 ≡ 0 → Stands Riscv s (riscv_row s.pc (load (F k) b o) ++ tail) → base Riscv b s + o ≡ addr → addr < 4294967296 → loaded Riscv addr s ≡ Some v → StepsBy Riscv s (received 4 (F k) v s)
load_floating_row s k b o addr v tail in_range b_range short al h at far is =
    loads Riscv s (F k) b (sign_extend 12 o) 4 addr v tt (stands_word s (o * 2 ^ 20 + b * 2 ^ 15 + 0b011 * 2 ^ 12 + k * 2 ^ 7 + 0b0000111) tail (Fld k b (sign_extend 12 o)) (omega arith) al (fld (record { imm_in_range = omega arith; rs1_in_range = b_range; rd_in_range = in_range; is_word = refl })) h) (along s 4 (near s _ h)) (up12 (base Riscv b s) o addr short at far) is

stands_store : (s : State) (o k b opcode : ℕ) (tail : List ℕ) (i : Instr) → o < 2048 → k < 32 → b < 32 → opcode < 128 → s.pc % 4 ≡ 0 → IsRiscvWord (o / 32 * 2 ^ 25 + k * 2 ^ 20 + b * 2 ^ 15 + 0b011 * 2 ^ 12 + o % 32 * 2 ^ 7 + opcode) i → Stands Riscv s (riscv_s o k b opcode ++ tail) → IsInstructionAt Riscv s i 4
stands_store s o k b opcode tail i short in_range b_range small al means h =
    stands_word s (o / 32 * 2 ^ 25 + k * 2 ^ 20 + b * 2 ^ 15 + 0b011 * 2 ^ 12 + o % 32 * 2 ^ 7 + opcode) tail i (omega arith) al means h

pub store_general_row : (s : State) (k b o addr : ℕ) (tail : List ℕ) → k < 32 → k ≢ 0 → k ≢ 2 → b < 32 → o + 8 ≤ 552 → s.pc % 4 ≡ 0 → Stands Riscv s (riscv_row s.pc (store (G k) b o) ++ tail) → base Riscv b s ≡ EXCHANGE → EXCHANGE + o ≡ addr → StepsBy Riscv s (exchanged 4 o (slice_index s.general k) s)
store_general_row s k b o addr tail in_range nz ns b_range room al h at is =
    exchanges Riscv s (G k) b (sign_extend 12 (o / 32 * 32 + o % 32)) 4 o addr (record { no_zero = unequal k 0 nz; no_sp = unequal k 2 ns }) (stands_store s o k b 0b0100011 tail (Sd k b (sign_extend 12 (o / 32 * 32 + o % 32))) (omega arith) in_range b_range (omega arith) al (sd (record { high_in_range = omega arith; low_in_range = omega arith; rs2_in_range = in_range; rs1_in_range = b_range; is_word = refl })) h) (along s 4 (near s _ h)) (up12 (base Riscv b s) (o / 32 * 32 + o % 32) addr (omega arith) (omega arith) (omega arith)) room is

pub store_floating_row : (s : State) (k b o addr : ℕ) (tail : List ℕ) → k < 32 → b < 32 → o + 8 ≤ 552 → s.pc % 4 ≡ 0 → Stands Riscv s (riscv_row s.pc (store (F k) b o) ++ tail) → base Riscv b s ≡ EXCHANGE → EXCHANGE + o ≡ addr → StepsBy Riscv s (exchanged 4 o (slice_index s.floating k) s)
store_floating_row s k b o addr tail in_range b_range room al h at is =
    exchanges Riscv s (F k) b (sign_extend 12 (o / 32 * 32 + o % 32)) 4 o addr tt (stands_store s o k b 0b0100111 tail (Fsd k b (sign_extend 12 (o / 32 * 32 + o % 32))) (omega arith) in_range b_range (omega arith) al (fsd (record { high_in_range = omega arith; low_in_range = omega arith; rs2_in_range = in_range; rs1_in_range = b_range; is_word = refl })) h) (along s 4 (near s _ h)) (up12 (base Riscv b s) (o / 32 * 32 + o % 32) addr (omega arith) (omega arith) (omega arith)) room is

pub save_general_row : (s : State) (k o addr : ℕ) (tail : List ℕ) → k < 32 → k ≢ 0 → k ≢ 2 → o < 2048 → s.pc % 4 ≡ 0 → Stands Riscv s (riscv_row s.pc (store (G k) 2 o) ++ tail) → s.sp + o ≡ addr → STACK ≤ addr → addr + 8 ≤ STACK_TOP → StepsBy Riscv s (saved 4 addr (slice_index s.general k) s)
save_general_row s k o addr tail in_range nz ns short al h at low high =
    saves Riscv s (G k) 2 (sign_extend 12 (o / 32 * 32 + o % 32)) 4 addr (record { no_zero = unequal k 0 nz; no_sp = unequal k 2 ns }) (stands_store s o k 2 0b0100011 tail (Sd k 2 (sign_extend 12 (o / 32 * 32 + o % 32))) short in_range (omega arith) (omega arith) al (sd (record { high_in_range = omega arith; low_in_range = omega arith; rs2_in_range = in_range; rs1_in_range = omega arith; is_word = refl })) h) (along s 4 (near s _ h)) (up12 s.sp (o / 32 * 32 + o % 32) addr (omega arith) (omega arith) (omega arith)) low high

pub save_floating_row : (s : State) (k o addr : ℕ) (tail : List ℕ) → k < 32 → o < 2048 → s.pc % 4 ≡ 0 → Stands Riscv s (riscv_row s.pc (store (F k) 2 o) ++ tail) → s.sp + o ≡ addr → STACK ≤ addr → addr + 8 ≤ STACK_TOP → StepsBy Riscv s (saved 4 addr (slice_index s.floating k) s)
save_floating_row s k o addr tail in_range short al h at low high =
    saves Riscv s (F k) 2 (sign_extend 12 (o / 32 * 32 + o % 32)) 4 addr tt (stands_store s o k 2 0b0100111 tail (Fsd k 2 (sign_extend 12 (o / 32 * 32 + o % 32))) short in_range (omega arith) (omega arith) al (fsd (record { high_in_range = omega arith; low_in_range = omega arith; rs2_in_range = in_range; rs1_in_range = omega arith; is_word = refl })) h) (along s 4 (near s _ h)) (up12 s.sp (o / 32 * 32 + o % 32) addr (omega arith) (omega arith) (omega arith)) low high

-- addi sp, sp, 208 and -208
pub rise_row : (s : State) (to : ℕ) (tail : List ℕ) → s.pc % 4 ≡ 0 → Stands Riscv s (riscv_row s.pc (sum 2 2 (pos 208)) ++ tail) → s.sp + 208 ≡ to → to < 4294967296 → StepsBy Riscv s (with_sp_by 4 to s)
rise_row s to tail al h is small =
    sums_sp Riscv s 2 (sign_extend 12 208) 4 to (stands_word s 0x0D010113 tail (Addi 2 2 (sign_extend 12 208)) (lit< tt) al (addi {imm = 208} {rs1 = 2} {rd = 2} (record { imm_in_range = lit< {m = 208} {n = 4096} tt; rs1_in_range = lit< {m = 2} {n = 32} tt; rd_in_range = lit< {m = 2} {n = 32} tt; is_word = refl })) h) (along s 4 (near s _ h)) (plain s.sp 208 to is small)

pub fall_row : (s : State) (to : ℕ) (tail : List ℕ) → s.pc % 4 ≡ 0 → Stands Riscv s (riscv_row s.pc (sum 2 2 (negsuc 207)) ++ tail) → s.sp ≡ to + 208 → s.sp < 4294967296 → StepsBy Riscv s (with_sp_by 4 to s)
fall_row s to tail al h is small =
    sums_sp Riscv s 2 (sign_extend 12 3888) 4 to (stands_word s 0xF3010113 tail (Addi 2 2 (sign_extend 12 3888)) (lit< tt) al (addi {imm = 3888} {rs1 = 2} {rd = 2} (record { imm_in_range = lit< {m = 3888} {n = 4096} tt; rs1_in_range = lit< {m = 2} {n = 32} tt; rd_in_range = lit< {m = 2} {n = 32} tt; is_word = refl })) h) (along s 4 (near s _ h)) (wraps s.sp 18446744073709551408 to (omega arith) (omega arith))

-- jalr ra, 0(t2)
pub call_row : (s : State) (tail : List ℕ) → s.pc % 4 ≡ 0 → Stands Riscv s (riscv_row s.pc (jump (calls 7)) ++ tail) → slice_index s.general 7 < 2 ^ 64 → StepsBy Riscv s (linked 4 1 (even (slice_index s.general 7)) s)
call_row s tail al h small =
    let v : ℕ = slice_index s.general 7 in
    let behind : next 4 s ≡ s.pc + 4 = along s 4 (near s _ h) in
    let to : moved v (sign_extend 12 0) ≡ v = unmoved v small in
    record {
      instr = Jalr 1 7 (sign_extend 12 0);
      size = 4;
      change = sets Riscv 1 (even v) (s.pc + 4);
      stands = stands_word s 0x000380E7 tail (Jalr 1 7 (sign_extend 12 0)) (lit< tt) al (jalr {imm = 0} {rs1 = 7} {rd = 1} (record { imm_in_range = lit< {m = 0} {n = 4096} tt; rs1_in_range = lit< {m = 7} {n = 32} tt; rd_in_range = lit< {m = 1} {n = 32} tt; is_word = refl })) h;
      does = λ i. Some (sets Riscv 1 (even (to i)) (behind i));
      is_after = refl;
    }

-- jalr zero, 0(ra)
pub return_row : (s : State) (tail : List ℕ) → s.pc % 4 ≡ 0 → Stands Riscv s (riscv_row s.pc (jump returns) ++ tail) → slice_index s.general 1 < 2 ^ 64 → StepsBy Riscv s (jumped (even (slice_index s.general 1)) s)
return_row s tail al h small =
    let v : ℕ = slice_index s.general 1 in
    let behind : next 4 s ≡ s.pc + 4 = along s 4 (near s _ h) in
    let to : moved v (sign_extend 12 0) ≡ v = unmoved v small in
    record {
      instr = Jalr 0 1 (sign_extend 12 0);
      size = 4;
      change = sets Riscv 0 (even v) (s.pc + 4);
      stands = stands_word s 0x00008067 tail (Jalr 0 1 (sign_extend 12 0)) (lit< tt) al (jalr {imm = 0} {rs1 = 1} {rd = 0} (record { imm_in_range = lit< {m = 0} {n = 4096} tt; rs1_in_range = lit< {m = 1} {n = 32} tt; rd_in_range = lit< {m = 0} {n = 32} tt; is_word = refl })) h;
      does = λ i. Some (sets Riscv 0 (even (to i)) (behind i));
      is_after = refl;
    }
