-- How many types at the front of two lists are the same, one after another, and the first type that is another.
use Rattle.std.proofs.Common.{◌≡◌, ◌∙◌, ◌+◌, ◌<◌, ◌≤◌, ℕ, suc, Bool, true, false, cond, List, [], ◌∷◌, length, drop, refl, sym, ap, arith}
use Rattle.std.proofs.lemmas.List.{drop_more, drop_all}
use Rattle.ffi3_type_spec.specs.Tree.{Tree, void, tree_at}
use Rattle.ffi3_type_spec.specs.Same.{same_tree}
use Rattle.ffi3_type_spec.specs.Signature.{Signature, at_result, at_argument}
use Rattle.ffi3_cdecl_spec.specs.Prototype.{same_front, first_other}

front_at : (t u : Tree) (ts us : List Tree) (b : Bool) → same_tree t u ≡ b → same_front (t ∷ ts) (u ∷ us) ≡ cond b (suc (same_front ts us)) 0
front_at t u ts us b e =
    ap (λ x. cond x (suc (same_front ts us)) 0) e

-- one more is the same
pub front_goes_on : (ts us : List Tree) (i n : ℕ) → n ≡ i + same_front (drop i ts) (drop i us) → i < length ts → i < length us → same_tree (tree_at ts i) (tree_at us i) ≡ true → n ≡ i + 1 + same_front (drop (i + 1) ts) (drop (i + 1) us)
front_goes_on ts us i n is in_first in_second same =
    let both : same_front (drop i ts) (drop i us) ≡ suc (same_front (drop (i + 1) ts) (drop (i + 1) us)) = (λ k. same_front (drop_more ts i void in_first k) (drop_more us i void in_second k)) ∙ front_at (tree_at ts i) (tree_at us i) (drop (i + 1) ts) (drop (i + 1) us) true same in
    omega (arith, is, both)

-- the next is another
pub front_ends : (ts us : List Tree) (i n : ℕ) → n ≡ i + same_front (drop i ts) (drop i us) → i < length ts → i < length us → same_tree (tree_at ts i) (tree_at us i) ≡ false → n ≡ i
front_ends ts us i n is in_first in_second other =
    let none : same_front (drop i ts) (drop i us) ≡ 0 = (λ k. same_front (drop_more ts i void in_first k) (drop_more us i void in_second k)) ∙ front_at (tree_at ts i) (tree_at us i) (drop (i + 1) ts) (drop (i + 1) us) false other in
    omega (arith, is, none)

-- one of them ends
nothing_second : (ts : List Tree) → same_front ts [] ≡ 0
nothing_second [] = refl
nothing_second (t ∷ ts) = refl

pub first_ends : (ts us : List Tree) (i n : ℕ) → n ≡ i + same_front (drop i ts) (drop i us) → length ts ≤ i → n ≡ i
first_ends ts us i n is ends =
    let none : same_front (drop i ts) (drop i us) ≡ 0 = ap (λ xs. same_front xs (drop i us)) (drop_all i ts ends) in
    omega (arith, is, none)

pub second_ends : (ts us : List Tree) (i n : ℕ) → n ≡ i + same_front (drop i ts) (drop i us) → length us ≤ i → n ≡ i
second_ends ts us i n is ends =
    let none : same_front (drop i ts) (drop i us) ≡ 0 = ap (λ xs. same_front (drop i ts) xs) (drop_all i us ends) ∙ nothing_second (drop i ts) in
    omega (arith, is, none)

-- ---- the first type that is another

pub in_result : (s r : Signature) → same_tree s.result_type r.result_type ≡ false → at_result ≡ first_other s r
in_result s r other =
    ap (λ b. cond b (at_argument (same_front s.arguments r.arguments)) at_result) (sym other)

pub in_arguments : (s r : Signature) (i : ℕ) → same_tree s.result_type r.result_type ≡ true → same_front s.arguments r.arguments ≡ i → at_argument i ≡ first_other s r
in_arguments s r i same is =
    ap at_argument (sym is) ∙ ap (λ b. cond b (at_argument (same_front s.arguments r.arguments)) at_result) (sym same)
