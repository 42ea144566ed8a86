-- Sums over the arguments before a number, and ends behind them.
use Rattle.std.specs.Prelude.{ℕ, zero, suc, ◌+◌}

-- the sum of the terms below n
abbrev pub sum_below : (ℕ → ℕ) → ℕ → ℕ
sum_below term zero = 0
sum_below term (suc n) = sum_below term n + term n

-- where the things before number n end, if those before number 0 end at `from`, and `step j end` is where number j ends behind what ends at `end`
abbrev pub end_below : (ℕ → ℕ → ℕ) → ℕ → ℕ → ℕ
end_below step from zero = from
end_below step from (suc n) = step n (end_below step from n)
