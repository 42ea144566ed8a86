-- Instructions that stand at pc, and steps one after another.
use Rattle.std.proofs.Common.{◌⊎◌, inl, inr, ⊎_elim, ◌≡◌, ℕ, zero, suc, ◌+◌, ◌%◌, ◌^◌, ◌<◌, ◌≤◌, List, [], ◌∷◌, ◌++◌, length, drop, refl, sym, ap, ◌∙◌, subst, arith, lit<, length-append}
use Rattle.std.proofs.Math.Nat.{mod-eq_of_lt, add-mod_right}
use Rattle.ffi3_type_spec.specs.declared.Isa.{Isa}
use Rattle.ffi3_host_stubs.specs.Processor.{Processor, half, bytes_at, next, IsKept, Steps, TakesSteps, HasCode}

-- ---- numbers

pub small : (a : ℕ) → a ≤ half → a < 2 ^ 64
small a h = let big : half < 2 ^ 64 = lit< tt in omega (arith, big, h)

pub plain : (a n b : ℕ) → a + n ≡ b → b ≤ half → (a + n) % 2 ^ 64 ≡ b
plain a n b e h = ap (λ x. x % 2 ^ 64) e ∙ mod-eq_of_lt (small b h)

pub wraps : (a n b : ℕ) → a + n ≡ b + 2 ^ 64 → b ≤ half → (a + n) % 2 ^ 64 ≡ b
wraps a n b e h = ap (λ x. x % 2 ^ 64) e ∙ add-mod_right b (2 ^ 64) ∙ mod-eq_of_lt (small b h)

pub unmoved : (v : ℕ) → v ≤ half → (v + 0) % 2 ^ 64 ≡ v
unmoved v h = let same : v + 0 ≡ v = omega arith in plain v 0 v same h

pub along : (s : Processor) (n : ℕ) → s.pc + n ≤ half → next n s ≡ s.pc + n
along s n h = plain s.pc n (s.pc + n) refl h

-- a word of the region is kept, and where the stack is written the region is not
pub kept_in : (isa : Isa) (s : Processor) (x o : ℕ) → o + 8 ≤ 552 → (x + 552 ≤ s.limit) ⊎ (s.sp ≤ x) → IsKept isa (x + o) s
kept_in isa s x o room region = ⊎_elim (λ h. inl (omega (arith, h, room))) (λ h. inr (omega (arith, h))) region

pub outside_region : (a x low top : ℕ) → low ≤ a → a < top → (x + 552 ≤ low) ⊎ (top ≤ x) → (a < x) ⊎ (x + 552 ≤ a)
outside_region a x low top above below region = ⊎_elim (λ h. inr (omega (arith, above, h))) (λ h. inl (omega (arith, below, h))) region

-- the stack's part from low on, below top
pub apart_from : (x limit low top : ℕ) → limit ≤ low → (x + 552 ≤ limit) ⊎ (top ≤ x) → (x + 552 ≤ low) ⊎ (top ≤ x)
apart_from x limit low top in_stack region = ⊎_elim (λ h. inl (omega (arith, h, in_stack))) (λ h. inr h) region

-- a byte of the region is in no such part
pub region_outside : (a x low top : ℕ) → x ≤ a → a < x + 552 → (x + 552 ≤ low) ⊎ (top ≤ x) → (a < low) ⊎ (top ≤ a)
region_outside a x low top above below region = ⊎_elim (λ h. inl (omega (arith, below, h))) (λ h. inr (omega (arith, above, h))) region

-- ---- bytes at pc

bytes_later : (f : ℕ → ℕ) (at : ℕ) (xs tail : List ℕ) → bytes_at f at (length (xs ++ tail)) ≡ xs ++ tail → bytes_at f (at + length xs) (length tail) ≡ tail
bytes_later f at [] tail h =
    let same : at + 0 ≡ at = omega arith in
    ap (λ a. bytes_at f a (length tail)) same ∙ h
bytes_later f at (x ∷ xs) tail h =
    let rest : bytes_at f (at + 1) (length (xs ++ tail)) ≡ xs ++ tail = ap (drop 1) h in
    let place : at + length (x ∷ xs) ≡ at + 1 + length xs = omega arith in
    ap (λ a. bytes_at f a (length tail)) place ∙ bytes_later f (at + 1) xs tail rest

-- behind what has been done
pub onward : (s t : Processor) (xs tail : List ℕ) (n : ℕ) → length xs ≡ n → t.pc ≡ s.pc + n → t.code ≡ s.code → HasCode s s.pc (xs ++ tail) → HasCode t t.pc tail
onward s t xs tail n len at code h =
    let both : length (xs ++ tail) ≡ length xs + length tail = length-append xs tail in
    let high : s.pc + length (xs ++ tail) ≤ half = h.high in
    let place : t.pc ≡ s.pc + length xs = at ∙ ap (λ k. s.pc + k) (sym len) in
    record {
      high = omega (arith, both, high, place);
      are = ap (λ (f : ℕ → ℕ). bytes_at f t.pc (length tail)) code ∙ ap (λ a. bytes_at s.code a (length tail)) place ∙ bytes_later s.code s.pc xs tail h.are;
    }

-- the first of what stands there ends in the lower half
pub ends : (s : Processor) (xs tail : List ℕ) (n : ℕ) → length xs ≡ n → HasCode s s.pc (xs ++ tail) → s.pc + n ≤ half
ends s xs tail n len h =
    let both : length (xs ++ tail) ≡ length xs + length tail = length-append xs tail in
    let high : s.pc + length (xs ++ tail) ≤ half = h.high in
    omega (arith, both, high, len)

-- ---- steps

pub TakesBy : Isa → ℕ → Processor → Processor → Type 0
TakesBy isa zero a b = b ≡ a
TakesBy isa (suc n) a b = (c : Processor) × Steps isa a c × TakesBy isa n c b

pub one_step : (isa : Isa) (a b : Processor) → Steps isa a b → TakesBy isa 1 a b
unfolding TakesBy
one_step isa a b h = (b, h, refl)

pub none_taken : (isa : Isa) (a : Processor) → TakesBy isa 0 a a
unfolding TakesBy
none_taken isa a = refl

pub and_then : (isa : Isa) (m n k : ℕ) (a b c : Processor) → k ≡ m + n → TakesBy isa m a b → TakesBy isa n b c → TakesBy isa k a c
unfolding TakesBy
and_then isa zero n k a b c e first second =
    let same : n ≡ k = omega (arith, e) in
    subst (λ (i : ℕ). TakesBy isa i a c) same (subst (λ (x : Processor). TakesBy isa n x c) first second)
and_then isa (suc m) n k a b c e first second =
    let next : suc (m + n) ≡ k = omega (arith, e) in
    subst (λ (i : ℕ). TakesBy isa i a c) next (first.0, first.1, and_then isa m n (m + n) first.0 b c refl first.2 second)

pub in_turn : (isa : Isa) (n : ℕ) (a b : Processor) → TakesBy isa n a b → TakesSteps isa n a b
unfolding TakesBy
in_turn isa zero a b h = h
in_turn isa (suc n) a b h = (h.0, h.1, in_turn isa n h.0 b h.2)
