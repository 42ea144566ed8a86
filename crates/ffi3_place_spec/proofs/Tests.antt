-- What holds for each of a list or of the first numbers, and the parts of a test.
use Rattle.std.proofs.Common.{◌≡◌, ℕ, zero, suc, ◌<◌, Bool, true, false, not, refl, List, [], ◌∷◌, get_or, length, subst, arith}
use Rattle.std.specs.List.{AllByRecursion}
use Rattle.std.proofs.lemmas.List.Elements.{All-from_recursion}
pub use Rattle.ffi3_type_spec.proofs.Tests.{and_left, and_right}

pub not_true : (b : Bool) → not b ≡ true → b ≡ false
not_true true h = cc
not_true false h = refl

pub each_weaker : {X : Type 0} (P Q : X → Type 0) → ((x : X) → P x → Q x) → (xs : List X) → AllByRecursion P xs → AllByRecursion Q xs
each_weaker P Q f [] h = tt
each_weaker P Q f (x ∷ xs) h = (f x h.0, each_weaker P Q f xs h.1)

pub each_at : {X : Type 0} (P : X → Type 0) (xs : List X) (i : ℕ) (x : X) → i < length xs → get_or xs i x ≡ x → AllByRecursion P xs → P x
each_at P xs i x h e all = subst P e (All-from_recursion P xs all i x h)

-- what holds at the first numbers
pub each_of_two : (P : ℕ → Type 0) → P 0 → P 1 → (k : ℕ) → k < 2 → P k
each_of_two P a b zero h = a
each_of_two P a b (suc zero) h = b
each_of_two P a b (suc (suc k)) h = absurd (omega arith)

pub each_of_eight : (P : ℕ → Type 0) → P 0 → P 1 → P 2 → P 3 → P 4 → P 5 → P 6 → P 7 → (k : ℕ) → k < 8 → P k
each_of_eight P a b c d e f g i zero h = a
each_of_eight P a b c d e f g i (suc zero) h = b
each_of_eight P a b c d e f g i (suc (suc zero)) h = c
each_of_eight P a b c d e f g i (suc (suc (suc zero))) h = d
each_of_eight P a b c d e f g i (suc (suc (suc (suc zero)))) h = e
each_of_eight P a b c d e f g i (suc (suc (suc (suc (suc zero))))) h = f
each_of_eight P a b c d e f g i (suc (suc (suc (suc (suc (suc zero)))))) h = g
each_of_eight P a b c d e f g i (suc (suc (suc (suc (suc (suc (suc zero))))))) h = i
each_of_eight P a b c d e f g i (suc (suc (suc (suc (suc (suc (suc (suc k)))))))) h = absurd (omega arith)
