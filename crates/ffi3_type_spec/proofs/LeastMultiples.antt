-- The least multiple that is not below a number.
use Prim.Native.Nat.{◌∣◌}
use Rattle.std.proofs.Common.{◌≡◌, ℕ, ◌+◌, ◌-◌, ◌*◌, ◌/◌, ◌%◌, ◌<◌, ◌≤◌, inl, inr, ap, sym, ◌∙◌, arith}
use Rattle.std.proofs.Math.Nat.{mod-lt, mod-eq_of_lt, mul-mod_left, mod_self}
use Rattle.std.proofs.lemmas.Nat.{div-add-mod', mul-mod_second}
use Rattle.std.proofs.lemmas.Nat.Gcd.{dvd-zero, dvd_of_mod-eq-zero, mod-eq-zero_of_dvd}
use Rattle.std.proofs.lemmas.Bool.{cases_lt}
use Rattle.ffi3_type_spec.specs.Layout.{IsLeastMultiple, least_multiple}
use Rattle.ffi3_type_spec.proofs.Layouts.{least_multiple-above, least_multiple-below}

-- the least multiple is one
multiple-zero : (a n : ℕ) → n % a ≡ 0 → (n + (a - n % a) % a) % a ≡ 0
multiple-zero a n e =
    let whole : a - n % a ≡ a = omega arith in
    let none : (a - n % a) % a ≡ 0 = ap (λ k. k % a) whole ∙ mod_self a in
    let same : n + (a - n % a) % a ≡ n = omega arith in
    ap (λ k. k % a) same ∙ e

multiple-more : (a n : ℕ) → 0 < a → 0 < n % a → (n + (a - n % a) % a) % a ≡ 0
multiple-more a n p h =
    let below : n % a < a = mod-lt n p in
    let rest : (a - n % a) % a ≡ a - n % a = mod-eq_of_lt (omega arith) in
    let next : n + (a - n % a) % a ≡ (n / a + 1) * a = omega (arith, div-add-mod' n a) in
    ap (λ k. k % a) next ∙ mul-mod_left (n / a + 1) a

pub least_multiple-divides : (a n : ℕ) → 0 < a → a ∣ least_multiple a n
unfolding least_multiple
least_multiple-divides a n p =
    elim (cases_lt 0 (n % a)) [
      | inl more ↦ dvd_of_mod-eq-zero a (multiple-more a n p more)
      | inr none ↦ dvd_of_mod-eq-zero a (multiple-zero a n (omega arith))
    ]

-- of two multiples of a that differ by less than a, neither is less
no_multiple_between : (a p q n : ℕ) → p * a < n + a → n ≤ q * a → p ≤ q
no_multiple_between a p q n h k = grind arith

pub least_of : (a n m k : ℕ) → m % a ≡ 0 → m < n + a → k % a ≡ 0 → n ≤ k → m ≤ k
least_of a n m k m0 below k0 above =
    let em = div-add-mod' m a in
    let ek = div-add-mod' k a in
    let le : m / a ≤ k / a = no_multiple_between a (m / a) (k / a) n (omega arith) (omega arith) in
    let scaled : m / a * a ≤ k / a * a = grind arith in
    omega arith

pub is_least_multiple : (a n : ℕ) → 0 < a → IsLeastMultiple a n (least_multiple a n)
is_least_multiple a n p =
    let multiple = mod-eq-zero_of_dvd a (least_multiple-divides a n p) in
    record { multiple = multiple; not_below = least_multiple-above a n; least = λ k k0 above. least_of a n (least_multiple a n) k multiple (least_multiple-below a n p) k0 above }

-- a multiple is its own least multiple
pub least_multiple-same : (a n : ℕ) → n % a ≡ 0 → least_multiple a n ≡ n
unfolding least_multiple
least_multiple-same a n e =
    let whole : a - n % a ≡ a = omega arith in
    let none : (a - n % a) % a ≡ 0 = ap (λ k. k % a) whole ∙ mod_self a in
    omega arith

pub multiple_is_least : (a n : ℕ) → n % a ≡ 0 → IsLeastMultiple a n n
multiple_is_least a n e =
    record { multiple = e; not_below = omega arith; least = λ k k0 above. above }

-- what divides a number divides its multiples
pub times_divides : (a s i : ℕ) → a ∣ s → a ∣ i * s
times_divides a s i d =
    let scaled : (i * s) % a ≡ (i * (s % a)) % a = sym (mul-mod_second i s a) in
    let none : s % a ≡ 0 = mod-eq-zero_of_dvd a d in
    let zero_times : i * 0 ≡ 0 = omega arith in
    dvd_of_mod-eq-zero a (scaled ∙ ap (λ k. (i * k) % a) none ∙ ap (λ k. k % a) zero_times ∙ mod-eq-zero_of_dvd a (dvd-zero a))
