-- How many parameters stand before the dots, counted from behind others.
use Rattle.std.proofs.Common.{◌≡◌, ℕ, suc, ◌+◌, Option, Some, None, option_map, ap, refl, arith}

-- so many more stand before these
abbrev pub more_fixed : ℕ → Option ℕ → Option ℕ
more_fixed n None = None
more_fixed n (Some i) = Some (n + i)

pub more_again : (n : ℕ) (f : Option ℕ) → more_fixed n (option_map suc f) ≡ more_fixed (suc n) f
more_again n None = refl
more_again n (Some i) =
    let e : n + suc i ≡ suc n + i = omega arith in
    ap Some e

pub one_more_fixed : (n : ℕ) → Some (suc n) ≡ more_fixed n (Some 1)
one_more_fixed n =
    let e : suc n ≡ n + 1 = omega arith in
    ap Some e

pub none_before : (f : Option ℕ) → f ≡ more_fixed 0 f
none_before None = refl
none_before (Some i) =
    let e : i ≡ 0 + i = omega arith in
    ap Some e
