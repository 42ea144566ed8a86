-- A word of two lists, one behind the other, that is set.
use Rattle.std.specs.Prelude.{slice_set}
use Rattle.std.proofs.Common.{◌≡◌, ℕ, zero, suc, ◌+◌, ◌<◌, List, [], ◌∷◌, ◌++◌, length, refl, ap, arith}

pub set_in_front : (xs ys : List ℕ) (k v : ℕ) → k < length xs → slice_set xs k v ++ ys ≡ slice_set (xs ++ ys) k v
set_in_front [] ys k v below = absurd (omega (arith, below))
set_in_front (x ∷ xs) ys zero v below = refl
set_in_front (x ∷ xs) ys (suc k) v below = ap (λ zs. x ∷ zs) (set_in_front xs ys k v (omega (arith, below)))

pub set_behind : (xs ys : List ℕ) (k j v : ℕ) → k ≡ length xs + j → xs ++ slice_set ys j v ≡ slice_set (xs ++ ys) k v
set_behind [] ys k j v is =
    let same : j ≡ k = omega (arith, is) in
    ap (λ n. slice_set ys n v) same
set_behind (x ∷ xs) ys zero j v is = absurd (omega (arith, is))
set_behind (x ∷ xs) ys (suc k) j v is = ap (λ zs. x ∷ zs) (set_behind xs ys k j v (omega (arith, is)))
