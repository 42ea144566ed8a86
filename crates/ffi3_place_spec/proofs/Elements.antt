-- What is read from a list, and the rest of it.
use Rattle.std.proofs.Common.{◌≡◌, ℕ, zero, suc, ◌+◌, ◌<◌, ◌≤◌, List, [], ◌∷◌, get_or, drop, length, ap, sym, ◌∙◌, refl, arith}
use Rattle.std.proofs.lemmas.List.{drop_more}
use Rattle.ffi3_type_spec.specs.Tree.{Tree, void, tree_at}
use Rattle.ffi3_type_spec.specs.Layout.{leaves_of, leaf_at, size_of, scalar_size}
use Rattle.ffi3_place_spec.proofs.Covered.{EndsIn, leaves_end}
use Rattle.ffi3_place_spec.proofs.Tests.{each_at}

-- the element that was read, and the rest
pub drop_read : {X : Type 0} (xs : List X) (i : ℕ) (x : X) → i < length xs → x ≡ get_or xs i x → drop i xs ≡ x ∷ drop (i + 1) xs
drop_read xs i x h read = drop_more xs i x h ∙ ap (λ y. y ∷ drop (i + 1) xs) (sym read)

get_or_same : {X : Type 0} (xs : List X) (i : ℕ) (c d : X) → i < length xs → get_or xs i c ≡ get_or xs i d
get_or_same [] i c d h = absurd (omega arith)
get_or_same (x ∷ xs) zero c d h = refl
get_or_same (x ∷ xs) (suc i) c d h = get_or_same xs i c d (omega arith)

pub leaf_ends : (t : Tree) (i : ℕ) → i < length (leaves_of t) → (leaf_at t i).at + scalar_size (leaf_at t i).kind ≤ size_of t
leaf_ends t i h =
    each_at (EndsIn (size_of t)) (leaves_of t) i (leaf_at t i) h (get_or_same (leaves_of t) i (leaf_at t i) _ h) (leaves_end t)

pub leaf_read : (t : Tree) (i : ℕ) → i < length (leaves_of t) → drop i (leaves_of t) ≡ leaf_at t i ∷ drop (i + 1) (leaves_of t)
leaf_read t i h = drop_read (leaves_of t) i (leaf_at t i) h (get_or_same (leaves_of t) i _ (leaf_at t i) h)

pub argument_read : (ts : List Tree) (i : ℕ) (t : Tree) → i < length ts → t ≡ tree_at ts i → drop i ts ≡ t ∷ drop (i + 1) ts
argument_read ts i t h read = drop_read ts i t h (read ∙ get_or_same ts i void t h)
