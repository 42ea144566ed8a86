-- The number that the bytes of a place make.
use Rattle.std.proofs.Common.{◌≡◌, ℕ, zero, suc, ◌+◌, ◌<◌, ◌≤◌, List, ◌∷◌, map, get_or, refl, arith}
use Rattle.std.specs.List.{range_with_len}
use Rattle.std.specs.Int.{w64, byte_worth, from_le_bytes, sum_through}

bytes_from : (f g : ℕ → ℕ) (from n : ℕ) → ((k : ℕ) → from ≤ k → k < from + n → f k ≡ g k) → map f (range_with_len from n) ≡ map g (range_with_len from n)
bytes_from f g from zero h = refl
bytes_from f g from (suc n) h =
    let first = h from (omega arith) (omega arith) in
    let rest = bytes_from f g (from + 1) n (λ k low high. h k (omega (arith, low)) (omega (arith, high))) in
    λ i. first i ∷ rest i

-- the same bytes
pub same_bytes : (f g : ℕ → ℕ) (n : ℕ) → ((k : ℕ) → k < n → f k ≡ g k) → map f (range_with_len 0 n) ≡ map g (range_with_len 0 n)
same_bytes f g n h = bytes_from f g 0 n (λ k low high. h k (omega (arith, high)))

-- the same number: what a list does not have counts as 0
pub same_number : (xs ys : List ℕ) → ((k : ℕ) → get_or xs k 0 ≡ get_or ys k 0) → from_le_bytes w64 xs ≡ from_le_bytes w64 ys
same_number xs ys h = λ j. sum_through (λ i. byte_worth i (h i j)) 7
