-- Instructions that stand at pc in the stubs' region, and steps one after another.
use Rattle.std.proofs.Common.{◌≡◌, ℕ, zero, suc, ◌+◌, ◌-◌, ◌%◌, ◌^◌, ◌<◌, ◌≤◌, List, ◌++◌, length, drop, refl, sym, ap, ◌∙◌, subst, arith, lit<}
use Rattle.std.proofs.Math.Nat.{mod-eq_of_lt, add-mod_right}
use Rattle.std.proofs.lemmas.List.{drop-drop, drop_at}
use Rattle.ffi3_type_spec.specs.declared.Isa.{Isa}
use Rattle.ffi3_type_spec.specs.TargetIsa.{isa_of}
use Rattle.ffi3_machine_spec.specs.State.{State}
use Rattle.ffi3_machine_spec.specs.Stubs.{begun_stubs}
use Rattle.ffi3_machine.specs.MachineStep.{StepsBy, TakesSteps, bytes_from}
use Rattle.ffi3_machine.proofs.Stubs.{from_stubs}

-- ---- numbers

pub small : (a : ℕ) → a < 4294967296 → a < 2 ^ 64
small a h = let big : 4294967296 < 2 ^ 64 = lit< tt in omega arith

pub plain : (a n b : ℕ) → a + n ≡ b → b < 4294967296 → (a + n) % 2 ^ 64 ≡ b
plain a n b e h = ap (λ x. x % 2 ^ 64) e ∙ mod-eq_of_lt (small b h)

-- a number of 64 bits to which nothing is added
pub unmoved : (v : ℕ) → v < 2 ^ 64 → (v + 0) % 2 ^ 64 ≡ v
unmoved v h = let same : v + 0 ≡ v = omega arith in ap (λ x. x % 2 ^ 64) same ∙ mod-eq_of_lt h

pub wraps : (a n b : ℕ) → a + n ≡ b + 2 ^ 64 → b < 4294967296 → (a + n) % 2 ^ 64 ≡ b
wraps a n b e h = ap (λ x. x % 2 ^ 64) e ∙ add-mod_right b (2 ^ 64) ∙ mod-eq_of_lt (small b h)

-- ---- bytes at pc

-- the bytes stand from pc on, to the end of the stubs' region
pub record Stands (isa : Isa) (s : State) (bytes : List ℕ) : Type 0 where
  pub low : 4096 ≤ s.pc
  pub high : s.pc + length bytes ≤ 10240
  pub are : bytes_from isa s.pc s.code ≡ bytes

-- behind what has been done
pub onward : (isa : Isa) (s t : State) (xs tail : List ℕ) (n : ℕ) → length xs ≡ n → t.pc ≡ s.pc + n → length (xs ++ tail) ≡ n + length tail → Stands isa s (xs ++ tail) → Stands isa t tail
onward isa s t xs tail n len at both h =
    let low : 4096 ≤ s.pc = h.low in
    let high : s.pc + length (xs ++ tail) ≤ 10240 = h.high in
    let here : drop (s.pc - 4096) (begun_stubs isa) ≡ xs ++ tail = sym (from_stubs isa s.pc s.code low (omega arith)) ∙ h.are in
    let place : t.pc - 4096 ≡ (s.pc - 4096) + n = omega arith in
    record {
      low = omega arith;
      high = omega arith;
      are = from_stubs isa t.pc t.code (omega arith) (omega arith) ∙ ap (λ i. drop i (begun_stubs isa)) place ∙ sym (drop-drop n (s.pc - 4096) (begun_stubs isa)) ∙ ap (drop n) here ∙ drop_at xs tail n len;
    }

-- ---- steps

pub TakesBy : Isa → ℕ → State → State → Type 0
TakesBy isa zero a b = b ≡ a
TakesBy isa (suc n) a b = (c : State) × StepsBy isa a c × TakesBy isa n c b

pub one_step : (isa : Isa) (a b : State) → StepsBy isa a b → TakesBy isa 1 a b
unfolding TakesBy
one_step isa a b h = (b, h, refl)

pub none_taken : (isa : Isa) (a : State) → TakesBy isa 0 a a
unfolding TakesBy
none_taken isa a = refl

pub and_then : (isa : Isa) (m n k : ℕ) (a b c : State) → k ≡ m + n → TakesBy isa m a b → TakesBy isa n b c → TakesBy isa k a c
unfolding TakesBy
and_then isa zero n k a b c e first second =
    let same : n ≡ k = omega arith in
    subst (λ (i : ℕ). TakesBy isa i a c) same (subst (λ (x : State). TakesBy isa n x c) first second)
and_then isa (suc m) n k a b c e first second =
    let next : suc (m + n) ≡ k = omega arith in
    subst (λ (i : ℕ). TakesBy isa i a c) next (first.0, first.1, and_then isa m n (m + n) first.0 b c refl first.2 second)

same_target : (isa : Isa) (a b : State) → StepsBy isa a b → b.target ≡ a.target
same_target isa a b h = ap (λ (x : State). x.target) h.is_after

pub in_turn : (isa : Isa) (n : ℕ) (a b : State) → isa_of a.target ≡ isa → TakesBy isa n a b → TakesSteps n a b
unfolding TakesBy
in_turn isa zero a b e h = h
in_turn isa (suc n) a b e h =
    let still : isa_of h.0.target ≡ isa = ap isa_of (same_target isa a h.0 h.1) ∙ e in
    (h.0, subst (λ (i : Isa). StepsBy i a h.0) (sym e) h.1, in_turn isa n h.0 b still h.2)
