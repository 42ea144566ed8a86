-- What a look at the room shows, once it found no fault.
use Rattle.std.proofs.Common.{◌≡◌, ℕ, ◌+◌, ◌<◌, ◌≤◌, ◌^◌, arith}
use Rattle.std.specs.Prelude.{Result, IfOk}
use Rattle.std.proofs.lemmas.Result.{IfOk-weaker}

module _ {U E : Type 0} (r : Result U E) where
  pub below_whole : (sp link frame whole : ℕ) → whole ≡ link + frame → IfOk r (λ u. sp + whole < 2 ^ 64) → IfOk r (λ u. sp + link + frame < 2 ^ 64)
  below_whole sp link frame whole is h =
      IfOk-weaker r (λ u. sp + whole < 2 ^ 64) (λ u. sp + link + frame < 2 ^ 64) (λ u low. shifted low) h
    where
      shifted : sp + whole < 2 ^ 64 → sp + link + frame < 2 ^ 64
      shifted low = omega (arith, is, low)

  pub enough_for : (least wanted there : ℕ) → least ≡ wanted → IfOk r (λ u. least ≤ there) → IfOk r (λ u. wanted ≤ there)
  enough_for least wanted there is h =
      IfOk-weaker r (λ u. least ≤ there) (λ u. wanted ≤ there) (λ u enough. same enough) h
    where
      same : least ≤ there → wanted ≤ there
      same enough = omega (arith, is, enough)
