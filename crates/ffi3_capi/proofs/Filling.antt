-- Items that are written into an array one by one.
use Rattle.std.proofs.Common.{◌≡◌, ℕ, ◌+◌, ◌<◌, ◌≤◌, List, [], ◌∷◌, ◌++◌, length, get_or, set, take, drop, ap, sym, ◌∙◌, arith, append_assoc}
use Rattle.std.proofs.lemmas.List.{take_more, drop_more, length-take-le, set_at}

-- one more
pub set_front : {A : Type 0} (xs ys now : List A) (i : ℕ) (x : A) → i < length xs → i < length ys → now ≡ take i xs ++ drop i ys → x ≡ get_or xs i x → set now i x ≡ take (i + 1) xs ++ drop (i + 1) ys
set_front {A = A} xs ys now i x in_xs in_ys e is =
    let low : i ≤ length xs = omega arith in
    let opened : now ≡ take i xs ++ get_or ys i x ∷ drop (i + 1) ys = e ∙ ap (λ (t : List A). take i xs ++ t) (drop_more ys i x in_ys) in
    let changed : set now i x ≡ take i xs ++ x ∷ drop (i + 1) ys = ap (λ (l : List A). set l i x) opened ∙ set_at (take i xs) (get_or ys i x) (drop (i + 1) ys) x i (length-take-le i xs low) in
    let front : take (i + 1) xs ≡ take i xs ++ x ∷ [] = take_more xs i x in_xs ∙ ap (λ (y : A). take i xs ++ y ∷ []) (sym is) in
    changed ∙ sym (append_assoc (take i xs) (x ∷ []) (drop (i + 1) ys)) ∙ ap (λ (t : List A). t ++ drop (i + 1) ys) (sym front)
