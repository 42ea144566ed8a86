-- Lists by their items.
use Rattle.std.proofs.Common.{◌≡◌, ℕ, suc, ◌<◌, List, [], ◌∷◌, length, refl, arith}
use Rattle.std.specs.Prelude.{slice_get}

-- two lists with the same items
pub same_items : {X : Type 0} (xs ys : List X) → length xs ≡ length ys → ((i : ℕ) → i < length xs → slice_get xs i ≡ slice_get ys i) → xs ≡ ys
same_items [] [] e h = refl
same_items [] (y ∷ ys) e h = absurd (omega (arith, e))
same_items (x ∷ xs) [] e h = absurd (omega (arith, e))
same_items (x ∷ xs) (y ∷ ys) e h =
    let first : x ≡ y = cc (h 0 (omega arith)) in
    let rest : xs ≡ ys = same_items xs ys (omega (arith, e)) (λ i below. h (suc i) (omega arith)) in
    λ i. first i ∷ rest i
