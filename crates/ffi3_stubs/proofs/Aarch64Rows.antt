-- What each row of AArch64's tables does.
use Rattle.std.proofs.Common.{◌≡◌, ℕ, ◌+◌, ◌-◌, ◌*◌, ◌/◌, ◌%◌, ◌^◌, ◌<◌, ◌≤◌, Bool, true, false, if◌then◌else◌, List, ◌++◌, length, refl, sym, ap, ◌∙◌, arith, lit<, Some, ℤ, pos, negsuc}
use Rattle.std.proofs.lemmas.Bool.Decides.{nat_tests}
use Rattle.std.specs.Prelude.{slice_set, slice_index, nat_lt, ◌==◌, ◌-ℤ◌}
use Rattle.ffi3_isa.specs.declared.Instr.{Instr}
use Rattle.ffi3_isa.specs.declared.Instr.TheVariants.{Ld, Sd, Fld, Fsd, Addi, Adr, Br, Blr}
use Rattle.ffi3_isa.specs.Fields.{sign_extend, first_word}
use Rattle.ffi3_isa.specs.Aarch64.{IsAarch64Word, immediate, based, blr, ret, adr, stub, trampoline}
use Rattle.ffi3_type_spec.specs.declared.Isa.TheVariants.{Aarch64}
use Rattle.ffi3_type_spec.specs.declared.limits.TheConstants.{STACK, STACK_TOP}
use Rattle.ffi3_place_spec.specs.declared.Loc.TheVariants.{G, F}
use Rattle.ffi3_machine_spec.specs.declared.stub.TheConstants.{EXCHANGE}
use Rattle.ffi3_machine_spec.specs.State.{State}
use Rattle.ffi3_machine_spec.specs.Stubs.{address, load, store, sum, jump, calls, returns, aarch64_row, aarch64_immediate, word}
use Rattle.ffi3_machine.specs.MachineStep.{StepsBy, IsInstructionAt, loaded, moved, next, base, sets, goes_to}
use Rattle.ffi3_stubs.specs.Effects.{counted, addressed, received, with_sp_by, exchanged, saved, linked, jumped}
use Rattle.ffi3_stubs.proofs.Standing.{Stands, plain, unmoved, wraps}
use Rattle.ffi3_stubs.proofs.Places.{along, word_first, unequal}
use Rattle.ffi3_stubs.proofs.Instructions.{IsPlain, loads, exchanges, saves, sums_sp}

-- a word that stands at pc
stands_word : (s : State) (w : ℕ) (tail : List ℕ) (i : Instr) → w < 4294967296 → s.pc % 4 ≡ 0 → IsAarch64Word w i → Stands Aarch64 s (word w ++ tail) → IsInstructionAt Aarch64 s i 4
stands_word s w tail i small al means h = record {
  aligned = al;
  listed = record { word = w; begins = ap first_word h.are ∙ word_first w tail small; means = means; is_size = refl };
}

stands_immediate : (s : State) (op imm12 n t : ℕ) (tail : List ℕ) (i : Instr) → op < 1024 → imm12 < 4096 → n < 32 → t < 32 → s.pc % 4 ≡ 0 → immediate op imm12 n t ≡ Some i → Stands Aarch64 s (aarch64_immediate op imm12 n t ++ tail) → IsInstructionAt Aarch64 s i 4
stands_immediate s op imm12 n t tail i a b c d al means h =
    stands_word s (op * 2 ^ 22 + imm12 * 2 ^ 10 + n * 2 ^ 5 + t) tail i (omega arith) al (stub (based (record { imm_in_range = b; n_in_range = c; t_in_range = d; is_word = refl }) means)) h

near : (s : State) (bytes : List ℕ) → Stands Aarch64 s bytes → s.pc + 4 < 4294967296
near s bytes h = let high : s.pc + length bytes ≤ 10240 = h.high in omega arith

-- adr of the exchange region
extended : (b : Bool) (x y : ℤ) → b ≡ true → (if b then x else y) ≡ x
extended b x y e = rw e refl

small_enough : (o : ℕ) → o < 1048576 → nat_lt (o / 4 * 4 + o % 4) 1048576 ≡ true
small_enough o h = let e : o / 4 * 4 + o % 4 < 1048576 = omega arith in grind (arith, nat_tests)

pub address_row : (s : State) (at k : ℕ) (tail : List ℕ) → s.pc ≡ at → at < 10240 → at % 4 ≡ 0 → k < 31 → Stands Aarch64 s (aarch64_row at (address k) ++ tail) → StepsBy Aarch64 s (addressed 4 k s)
address_row s at k tail here low al in_range h =
    let o : ℕ = EXCHANGE - at in
    let w : ℕ = o % 4 * 2 ^ 29 + 0b10000 * 2 ^ 24 + o / 4 * 2 ^ 5 + k in
    let behind : next 4 s ≡ s.pc + 4 = along s 4 (omega arith) in
    let test : nat_lt (o / 4 * 4 + o % 4) 1048576 ≡ true = small_enough o (omega arith) in
    let distance : sign_extend 21 (o / 4 * 4 + o % 4) ≡ pos (o / 4 * 4 + o % 4) = extended (nat_lt (o / 4 * 4 + o % 4) 1048576) _ _ test in
    let to : moved s.pc (sign_extend 21 (o / 4 * 4 + o % 4)) ≡ EXCHANGE = ap (λ (d : ℤ). moved s.pc d) distance ∙ plain s.pc (o / 4 * 4 + o % 4) EXCHANGE (omega arith) (omega arith) in
    let not_zero : (k == 31) ≡ false = unequal k 31 (λ e. omega arith) in
    let shape : Bool → State = λ b. record s { general = if b then s.general else slice_set s.general k EXCHANGE; pc = s.pc + 4; steps = counted s } in
    record {
      instr = Adr k (sign_extend 21 (o / 4 * 4 + o % 4));
      size = 4;
      change = sets Aarch64 k (s.pc + 4) EXCHANGE;
      stands = stands_word s w tail (Adr k (sign_extend 21 (o / 4 * 4 + o % 4))) (omega arith) (ap (λ x. x % 4) here ∙ al) (trampoline (adr {immlo = o % 4} {immhi = o / 4} {rd = k} (omega arith) (omega arith) (omega arith) refl)) h;
      does = λ i. Some (sets Aarch64 k (behind i) (to i));
      is_after = sym (ap shape not_zero);
    }

plain_below : (t : ℕ) → t < 31 → IsPlain Aarch64 t
plain_below t h = record { no_zero = unequal t 31 (λ e. omega arith); no_sp = refl }

-- ldr x(t), [x(b), o]
pub load_general_row : (s : State) (t b o addr v : ℕ) (tail : List ℕ) → t < 31 → b < 32 → o % 8 ≡ 0 → o < 32768 → s.pc % 4 ≡ 0 → Stands Aarch64 s (aarch64_row s.pc (load (G t) b o) ++ tail) → base Aarch64 b s + o ≡ addr → addr < 4294967296 → loaded Aarch64 addr s ≡ Some v → StepsBy Aarch64 s (received 4 (G t) v s)
load_general_row s t b o addr v tail in_range b_range eight short al h at far is =
    loads Aarch64 s (G t) b (pos (8 * (o / 8))) 4 addr v (plain_below t in_range) (stands_immediate s 0b1111100101 (o / 8) b t tail (Ld t b (pos (8 * (o / 8)))) (omega arith) (omega arith) b_range (omega arith) al refl h) (along s 4 (near s _ h)) (plain (base Aarch64 b s) (8 * (o / 8)) addr (omega arith) far) is

-- ldr d(t), [x(b), o]
pub load_floating_row : (s : State) (t b o addr v : ℕ) (tail : List ℕ) → t < 32 → b < 32 → o % 8 ≡ 0 → o < 32768 → s.pc % 4 ≡ 0 → Stands Aarch64 s (aarch64_row s.pc (load (F t) b o) ++ tail) → base Aarch64 b s + o ≡ addr → addr < 4294967296 → loaded Aarch64 addr s ≡ Some v → StepsBy Aarch64 s (received 4 (F t) v s)
load_floating_row s t b o addr v tail in_range b_range eight short al h at far is =
    loads Aarch64 s (F t) b (pos (8 * (o / 8))) 4 addr v tt (stands_immediate s 0b1111110101 (o / 8) b t tail (Fld t b (pos (8 * (o / 8)))) (omega arith) (omega arith) b_range in_range al refl h) (along s 4 (near s _ h)) (plain (base Aarch64 b s) (8 * (o / 8)) addr (omega arith) far) is

-- str x(t), [x(b), o] to the exchange region
pub store_general_row : (s : State) (t b o addr : ℕ) (tail : List ℕ) → t < 31 → b < 32 → o % 8 ≡ 0 → o + 8 ≤ 552 → s.pc % 4 ≡ 0 → Stands Aarch64 s (aarch64_row s.pc (store (G t) b o) ++ tail) → base Aarch64 b s ≡ EXCHANGE → EXCHANGE + o ≡ addr → StepsBy Aarch64 s (exchanged 4 o (slice_index s.general t) s)
store_general_row s t b o addr tail in_range b_range eight room al h at is =
    exchanges Aarch64 s (G t) b (pos (8 * (o / 8))) 4 o addr (plain_below t in_range) (stands_immediate s 0b1111100100 (o / 8) b t tail (Sd t b (pos (8 * (o / 8)))) (omega arith) (omega arith) b_range (omega arith) al refl h) (along s 4 (near s _ h)) (plain (base Aarch64 b s) (8 * (o / 8)) addr (omega arith) (omega arith)) room is

pub store_floating_row : (s : State) (t b o addr : ℕ) (tail : List ℕ) → t < 32 → b < 32 → o % 8 ≡ 0 → o + 8 ≤ 552 → s.pc % 4 ≡ 0 → Stands Aarch64 s (aarch64_row s.pc (store (F t) b o) ++ tail) → base Aarch64 b s ≡ EXCHANGE → EXCHANGE + o ≡ addr → StepsBy Aarch64 s (exchanged 4 o (slice_index s.floating t) s)
store_floating_row s t b o addr tail in_range b_range eight room al h at is =
    exchanges Aarch64 s (F t) b (pos (8 * (o / 8))) 4 o addr tt (stands_immediate s 0b1111110100 (o / 8) b t tail (Fsd t b (pos (8 * (o / 8)))) (omega arith) (omega arith) b_range in_range al refl h) (along s 4 (near s _ h)) (plain (base Aarch64 b s) (8 * (o / 8)) addr (omega arith) (omega arith)) room is

-- str x(t), [sp, o] and str d(t), [sp, o]
pub save_general_row : (s : State) (t o addr : ℕ) (tail : List ℕ) → t < 31 → o % 8 ≡ 0 → o < 32768 → s.pc % 4 ≡ 0 → Stands Aarch64 s (aarch64_row s.pc (store (G t) 31 o) ++ tail) → s.sp + o ≡ addr → STACK ≤ addr → addr + 8 ≤ STACK_TOP → StepsBy Aarch64 s (saved 4 addr (slice_index s.general t) s)
save_general_row s t o addr tail in_range eight short al h at low high =
    saves Aarch64 s (G t) 31 (pos (8 * (o / 8))) 4 addr (plain_below t in_range) (stands_immediate s 0b1111100100 (o / 8) 31 t tail (Sd t 31 (pos (8 * (o / 8)))) (omega arith) (omega arith) (omega arith) (omega arith) al refl h) (along s 4 (near s _ h)) (plain s.sp (8 * (o / 8)) addr (omega arith) (omega arith)) low high

pub save_floating_row : (s : State) (t o addr : ℕ) (tail : List ℕ) → t < 32 → o % 8 ≡ 0 → o < 32768 → s.pc % 4 ≡ 0 → Stands Aarch64 s (aarch64_row s.pc (store (F t) 31 o) ++ tail) → s.sp + o ≡ addr → STACK ≤ addr → addr + 8 ≤ STACK_TOP → StepsBy Aarch64 s (saved 4 addr (slice_index s.floating t) s)
save_floating_row s t o addr tail in_range eight short al h at low high =
    saves Aarch64 s (F t) 31 (pos (8 * (o / 8))) 4 addr tt (stands_immediate s 0b1111110100 (o / 8) 31 t tail (Fsd t 31 (pos (8 * (o / 8)))) (omega arith) (omega arith) (omega arith) in_range al refl h) (along s 4 (near s _ h)) (plain s.sp (8 * (o / 8)) addr (omega arith) (omega arith)) low high

-- mov sp, x(k)
pub move_row : (s : State) (k : ℕ) (tail : List ℕ) → k < 31 → s.pc % 4 ≡ 0 → Stands Aarch64 s (aarch64_row s.pc (sum 31 k (pos 0)) ++ tail) → base Aarch64 k s ≡ slice_index s.general k → slice_index s.general k < 2 ^ 64 → StepsBy Aarch64 s (with_sp_by 4 (slice_index s.general k) s)
move_row s k tail in_range al h is small =
    sums_sp Aarch64 s k (pos 0) 4 (slice_index s.general k) (stands_immediate s 0b1001000100 0 k 31 tail (Addi 31 k (pos 0)) (omega arith) (omega arith) (omega arith) (omega arith) al refl h) (along s 4 (near s _ h)) (ap (λ (a : ℕ). moved a (pos 0)) is ∙ unmoved (slice_index s.general k) small)

-- add sp, sp, n
pub rise_row : (s : State) (n to : ℕ) (tail : List ℕ) → n < 4096 → s.pc % 4 ≡ 0 → Stands Aarch64 s (aarch64_row s.pc (sum 31 31 (pos n)) ++ tail) → s.sp + n ≡ to → to < 4294967296 → StepsBy Aarch64 s (with_sp_by 4 to s)
rise_row s n to tail short al h is small =
    sums_sp Aarch64 s 31 (pos n) 4 to (stands_immediate s 0b1001000100 n 31 31 tail (Addi 31 31 (pos n)) (omega arith) short (omega arith) (omega arith) al refl h) (along s 4 (near s _ h)) (plain s.sp n to is small)

-- sub sp, sp, 176
pub fall_row : (s : State) (to : ℕ) (tail : List ℕ) → s.pc % 4 ≡ 0 → Stands Aarch64 s (aarch64_row s.pc (sum 31 31 (negsuc 175)) ++ tail) → s.sp ≡ to + 176 → s.sp < 4294967296 → StepsBy Aarch64 s (with_sp_by 4 to s)
fall_row s to tail al h is small =
    sums_sp Aarch64 s 31 (pos 0 -ℤ pos 176) 4 to (stands_immediate s 0b1101000100 176 31 31 tail (Addi 31 31 (pos 0 -ℤ pos 176)) (omega arith) (omega arith) (omega arith) (omega arith) al refl h) (along s 4 (near s _ h)) (wraps s.sp 18446744073709551440 to (omega arith) (omega arith))

-- blr x16
pub call_row : (s : State) (tail : List ℕ) → s.pc % 4 ≡ 0 → Stands Aarch64 s (aarch64_row s.pc (jump (calls 16)) ++ tail) → StepsBy Aarch64 s (linked 4 30 (slice_index s.general 16) s)
call_row s tail al h =
    let behind : next 4 s ≡ s.pc + 4 = along s 4 (near s _ h) in
    record {
      instr = Blr 16;
      size = 4;
      change = sets Aarch64 30 (slice_index s.general 16) (s.pc + 4);
      stands = stands_word s 0xD63F0200 tail (Blr 16) (lit< tt) al (stub (blr {n = 16} (lit< tt) refl)) h;
      does = ap (λ a. Some (sets Aarch64 30 (slice_index s.general 16) a)) behind;
      is_after = refl;
    }

-- ret
pub return_row : (s : State) (tail : List ℕ) → s.pc % 4 ≡ 0 → Stands Aarch64 s (aarch64_row s.pc (jump returns) ++ tail) → StepsBy Aarch64 s (jumped (slice_index s.general 30) s)
return_row s tail al h = record {
  instr = Br 30;
  size = 4;
  change = goes_to (slice_index s.general 30);
  stands = stands_word s 0xD65F03C0 tail (Br 30) (lit< tt) al (stub (ret {n = 30} (lit< tt) refl)) h;
  does = refl;
  is_after = refl;
}
