-- The code region and the map of closures.
use Rattle.std.proofs.Common.{◌≡◌, ◌≢◌, ◌⊎◌, ℕ, zero, suc, ◌+◌, ◌-◌, ◌*◌, ◌++◌, length-append, ◌<◌, ◌≤◌, List, length, take, drop, refl, sym, ap, ◌∙◌, subst, arith, Option, Some, None, inl, inr}
use Rattle.std.specs.List.{replace_range, repeat}
use Rattle.std.proofs.lemmas.Bool.{cases_lt}
use Rattle.std.proofs.lemmas.List.{get_or-set_same, get_or-set_other, get_or-replicate}
use Rattle.std.proofs.Math.Seq.{take-append_seam, drop-append-add}
use Rattle.std.specs.Prelude.{slice_index_or}
use Rattle.ffi3_type_spec.specs.declared.Target.{Target}
use Rattle.ffi3_type_spec.specs.declared.Isa.{Isa}
use Rattle.ffi3_type_spec.specs.declared.Isa.TheVariants.{Amd64, Aarch64, Riscv}
use Rattle.ffi3_type_spec.specs.TargetIsa.{isa_of}
use Rattle.ffi3_type_spec.specs.declared.limits.TheConstants.{CODE}
use Rattle.ffi3_machine_spec.specs.State.{State, free_slot, begun_code, with_code}
use Rattle.ffi3_semantics_spec.specs.declared.Closure.{Closure}
use Rattle.ffi3_semantics_spec.specs.Closures.{Closures, with_closure, no_closures}
use Rattle.ffi3_machine.proofs.Written.{length-written, range-written, above-written, below-written}
use Rattle.ffi3_machine_spec.specs.Slots.{trampoline, slot_head, slot_tail, slot_content, live_slot, HoldsMap}

pub length-free_slot : (isa : Isa) → length (free_slot isa) ≡ 64
unfolding free_slot
length-free_slot Amd64 = refl
length-free_slot Aarch64 = refl
length-free_slot Riscv = refl

pub length-live_slot : (isa : Isa) (c : Closure) → length (live_slot isa c) ≡ 64
unfolding trampoline slot_head slot_tail
length-live_slot Amd64 c = refl
length-live_slot Aarch64 c = refl
length-live_slot Riscv c = refl

length-slot_content : (isa : Isa) (entry : Option Closure) → length (slot_content isa entry) ≡ 64
length-slot_content isa None = length-free_slot isa
length-slot_content isa (Some c) = length-live_slot isa c

cases_ne : (j k : ℕ) → (j ≡ k) ⊎ (j ≢ k)
cases_ne j k = elim (cases_lt j k) [
  | inl less ↦ inr (λ same. omega arith)
  | inr more ↦ elim (cases_lt k j) [
    | inl less ↦ inr (λ same. omega arith)
    | inr most ↦ inl (omega arith)
  ]
]

-- the slot that was written has its bytes
holds-here : (target : Target) (closures : Closures) (code : List ℕ) (k : ℕ) (entry : Option Closure) → length closures ≡ 256 → k < 256 → HoldsMap target closures code → take 64 (drop (64 * k) (replace_range code (64 * k) (64 * k + length (slot_content (isa_of target) entry)) (slot_content (isa_of target) entry))) ≡ slot_content (isa_of target) (slice_index_or (with_closure closures k entry) k None)
holds-here target closures code k entry count h holds =
    let long : length (slot_content (isa_of target) entry) ≡ 64 = length-slot_content (isa_of target) entry in
    let fits : 64 * k + length (slot_content (isa_of target) entry) ≤ length code = omega (arith, holds.region) in
    let is = range-written code (slot_content (isa_of target) entry) (64 * k) fits in
    let P : ℕ → Type 0 = λ n. take n (drop (64 * k) (replace_range code (64 * k) (64 * k + length (slot_content (isa_of target) entry)) (slot_content (isa_of target) entry))) ≡ slot_content (isa_of target) entry in
    subst P long is ∙ ap (slot_content (isa_of target)) (sym (get_or-set_same closures k entry None (omega arith)))

-- another slot has its bytes still
holds-there : (target : Target) (closures : Closures) (code : List ℕ) (k j : ℕ) (entry : Option Closure) → k < 256 → j < 256 → j ≢ k → HoldsMap target closures code → take 64 (drop (64 * j) (replace_range code (64 * k) (64 * k + length (slot_content (isa_of target) entry)) (slot_content (isa_of target) entry))) ≡ slot_content (isa_of target) (slice_index_or (with_closure closures k entry) j None)
holds-there target closures code k j entry h below other holds =
    let long : length (slot_content (isa_of target) entry) ≡ 64 = length-slot_content (isa_of target) entry in
    let fits : 64 * k + length (slot_content (isa_of target) entry) ≤ length code = omega (arith, holds.region) in
    let stays : take 64 (drop (64 * j) (replace_range code (64 * k) (64 * k + length (slot_content (isa_of target) entry)) (slot_content (isa_of target) entry))) ≡ take 64 (drop (64 * j) code) =
    elim (cases_lt j k) [
      | inl less ↦ below-written code (slot_content (isa_of target) entry) (64 * k) 64 (64 * j) fits (omega arith)
      | inr more ↦ above-written code (slot_content (isa_of target) entry) (64 * k) 64 (64 * j) fits (omega arith)
    ] in
    stays ∙ holds.slot j below ∙ ap (slot_content (isa_of target)) (sym (get_or-set_other closures k j entry None other))

-- slot k was written
pub holds-written : (target : Target) (closures : Closures) (code : List ℕ) (k : ℕ) (entry : Option Closure) → length closures ≡ 256 → k < 256 → HoldsMap target closures code → HoldsMap target (with_closure closures k entry) (replace_range code (64 * k) (64 * k + length (slot_content (isa_of target) entry)) (slot_content (isa_of target) entry))
holds-written target closures code k entry count h holds =
    let long : length (slot_content (isa_of target) entry) ≡ 64 = length-slot_content (isa_of target) entry in
    let new = replace_range code (64 * k) (64 * k + length (slot_content (isa_of target) entry)) (slot_content (isa_of target) entry) in
    record {
      region = length-written code (slot_content (isa_of target) entry) (64 * k) (omega (arith, holds.region)) ∙ holds.region;
      slot = λ j below. elim (cases_ne j k) as (λ _. take 64 (drop (64 * j) new) ≡ slot_content (isa_of target) (slice_index_or (with_closure closures k entry) j None)) [
        | inl same ↦ let P : ℕ → Type 0 = λ i. take 64 (drop (64 * i) new) ≡ slot_content (isa_of target) (slice_index_or (with_closure closures k entry) i None) in
            subst P (sym same) (holds-here target closures code k entry count h holds)
        | inr other ↦ holds-there target closures code k j entry h below other holds
      ];
    }

-- the machine after a slot was written
pub holds-after : (before after : State) (closures : Closures) (k addr : ℕ) (entry : Option Closure) (bytes : List ℕ) → length closures ≡ 256 → k < 256 → addr ≡ CODE + 64 * k → bytes ≡ slot_content (isa_of before.target) entry → after ≡ with_code addr bytes before → HoldsMap before.target closures before.code → HoldsMap after.target (with_closure closures k entry) after.code
holds-after before after closures k addr entry bytes count h at is written holds =
    let P : State → Type 0 = λ s. HoldsMap s.target (with_closure closures k entry) s.code in
    let Q : ℕ → Type 0 = λ i. HoldsMap before.target (with_closure closures k entry) (replace_range before.code i (i + length bytes) bytes) in
    let R : List ℕ → Type 0 = λ b. HoldsMap before.target (with_closure closures k entry) (replace_range before.code (64 * k) (64 * k + length b) b) in
    let offset : 64 * k ≡ addr - CODE = omega arith in
    subst P (sym written) (subst Q offset (subst R (sym is) (holds-written before.target closures before.code k entry count h holds)))

-- each of a number of equal pieces
piece : (n k m : ℕ) (xs : List ℕ) → length xs ≡ m → k < n → take m (drop (m * k) (repeat n xs)) ≡ xs
piece zero k m xs long h = absurd (omega arith)
piece (suc n) zero m xs long h =
    let none : m * zero ≡ zero = omega arith in
    let P : ℕ → Type 0 = λ i. take i (xs ++ repeat n xs) ≡ xs in
    ap (λ i. take m (drop i (xs ++ repeat n xs))) none ∙ subst P long (take-append_seam xs (repeat n xs))
piece (suc n) (suc k) m xs long h =
    let more : m * suc k ≡ length xs + m * k = omega arith in
    ap (λ i. take m (drop i (xs ++ repeat n xs))) more ∙ ap (take m) (drop-append-add xs (repeat n xs) (m * k)) ∙ piece n k m xs long (omega arith)

length-repeat : (n : ℕ) (xs : List ℕ) → length (repeat n xs) ≡ n * length xs
length-repeat zero xs = omega arith
length-repeat (suc n) xs = omega (arith, length-append xs (repeat n xs), length-repeat n xs)

pub holds-begun : (target : Target) → HoldsMap target no_closures (begun_code (isa_of target))
unfolding begun_code
holds-begun target = record {
  region = length-repeat 256 (free_slot (isa_of target)) ∙ ap (λ n. 256 * n) (length-free_slot (isa_of target));
  slot = λ k below. piece 256 k 64 (free_slot (isa_of target)) (length-free_slot (isa_of target)) below ∙ ap (slot_content (isa_of target)) (sym (get_or-replicate {A = Option Closure} 256 k None None below));
}
