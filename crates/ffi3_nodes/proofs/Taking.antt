-- The first types of a list, whose last item is the first of them, taken one after another.
use Rattle.std.proofs.Common.{◌≡◌, ℕ, zero, suc, ◌+◌, List, [], ◌∷◌, ◌++◌, take, drop, length, reverse, ap, sym, ◌∙◌, refl, arith, append_assoc}
use Rattle.ffi3_type_spec.specs.Tree.{Tree}
use Rattle.ffi3_nodes.proofs.Opening.{last_first}

-- so many are taken of those at the start, and these are left
pub record IsTakenSoFar (start left : List Tree) (i : ℕ) (taken : List Tree) : Type 0 where
  pub whole : reverse start ≡ taken ++ reverse left
  pub count : length taken ≡ i

pub none_taken : (start taken : List Tree) → taken ≡ [] → IsTakenSoFar start start 0 taken
none_taken start taken e = record { whole = ap (λ l. l ++ reverse start) (sym e); count = ap length e }

length_more : (xs : List Tree) (x : Tree) → length (xs ++ x ∷ []) ≡ length xs + 1
length_more [] x = refl
length_more (y ∷ xs) x =
    let more = length_more xs x in
    omega (arith, more)

take_front : (xs ys : List Tree) (n : ℕ) → length xs ≡ n → take n (xs ++ ys) ≡ xs
take_front [] ys n e =
    let none : n ≡ 0 = omega (arith, e) in
    ap (λ k. take k ys) none
take_front (x ∷ xs) ys zero e = absurd (omega (arith, e))
take_front (x ∷ xs) ys (suc n) e = ap (λ l. x ∷ l) (take_front xs ys n (omega (arith, e)))

drop_front : (xs ys : List Tree) (n : ℕ) → length xs ≡ n → drop n (xs ++ ys) ≡ ys
drop_front [] ys n e =
    let none : n ≡ 0 = omega (arith, e) in
    ap (λ k. drop k ys) none
drop_front (x ∷ xs) ys zero e = absurd (omega (arith, e))
drop_front (x ∷ xs) ys (suc n) e = drop_front xs ys n (omega (arith, e))

pub all_taken : (start left taken : List Tree) (n : ℕ) → IsTakenSoFar start left n taken → taken ≡ take n (reverse start)
all_taken start left taken n so_far = sym (ap (take n) so_far.whole ∙ take_front taken (reverse left) n so_far.count)

pub all_left : (start left taken : List Tree) (n : ℕ) → IsTakenSoFar start left n taken → reverse left ≡ drop n (reverse start)
all_left start left taken n so_far = sym (ap (drop n) so_far.whole ∙ drop_front taken (reverse left) n so_far.count)
