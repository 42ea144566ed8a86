-- Lists of types, number by number.
use Rattle.std.proofs.Common.{◌≡◌, ℕ, suc, ◌<◌, List, [], ◌∷◌, length, refl, ap, ◌∙◌, arith}
use Rattle.ffi3_type_spec.specs.Tree.{Tree, tree_at}

-- lists with equal elements are equal
pub same_by_elements : (xs ys : List Tree) → length xs ≡ length ys → ((k : ℕ) → k < length xs → tree_at xs k ≡ tree_at ys k) → xs ≡ ys
same_by_elements [] [] e h = refl
same_by_elements [] (y ∷ ys) e h = absurd (omega arith)
same_by_elements (x ∷ xs) [] e h = absurd (omega arith)
same_by_elements (x ∷ xs) (y ∷ ys) e h =
    let rest = same_by_elements xs ys (omega arith) (λ k below. h (suc k) (omega arith)) in
    ap (λ z. z ∷ xs) (h 0 (omega arith)) ∙ ap (λ zs. y ∷ zs) rest
