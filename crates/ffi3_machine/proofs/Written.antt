-- What stands in a list after a range of it was written.
use Rattle.std.proofs.Common.{◌≡◌, ℕ, ◌+◌, ◌-◌, ◌≤◌, List, ◌++◌, length, take, drop, ap, sym, ◌∙◌, append_assoc, arith, length-drop}
use Rattle.std.specs.List.{replace_range}
use Rattle.std.proofs.lemmas.Grind.{common_steps}
use Rattle.std.proofs.lemmas.List.{drop-take, take-append-le, drop-append-le, length-append}
use Rattle.std.proofs.lemmas.Slice.{drop-append-drop}
use Rattle.std.proofs.Math.Seq.{drop-append_seam, take-append_seam}

length-front : (xs : List ℕ) (i : ℕ) → i ≤ length xs → length (take i xs) ≡ i
length-front xs i h = grind (arith, common_steps)

pub length-written : (xs ys : List ℕ) (i : ℕ) → i + length ys ≤ length xs → length (replace_range xs i (i + length ys) ys) ≡ length xs
length-written xs ys i h = grind (arith, common_steps)

-- the range has what was written
pub range-written : (xs ys : List ℕ) (i : ℕ) → i + length ys ≤ length xs → take (length ys) (drop i (replace_range xs i (i + length ys) ys)) ≡ ys
range-written xs ys i h =
    let front : length (take i xs) ≡ i = length-front xs i (omega arith) in
    let regroup : replace_range xs i (i + length ys) ys ≡ take i xs ++ (ys ++ drop (i + length ys) xs) = append_assoc (take i xs) ys (drop (i + length ys) xs) in
    let at_seam : drop i (take i xs ++ (ys ++ drop (i + length ys) xs)) ≡ ys ++ drop (i + length ys) xs =
    ap (λ n. drop n (take i xs ++ (ys ++ drop (i + length ys) xs))) (sym front) ∙ drop-append_seam (take i xs) (ys ++ drop (i + length ys) xs) in
    ap (λ l. take (length ys) (drop i l)) regroup ∙ ap (take (length ys)) at_seam ∙ take-append_seam ys (drop (i + length ys) xs)

-- a range above it stays
pub above-written : (xs ys : List ℕ) (i n m : ℕ) → i + length ys ≤ length xs → i + length ys ≤ m → take n (drop m (replace_range xs i (i + length ys) ys)) ≡ take n (drop m xs)
above-written xs ys i n m h above =
    let front : length (take i xs ++ ys) ≡ i + length ys = length-append (take i xs) ys ∙ ap (λ k. k + length ys) (length-front xs i (omega arith)) in
    ap (take n) (drop-append-drop (i + length ys) xs (take i xs ++ ys) m above front)

-- a front of a part of a list, cut again
part-of-front : (xs : List ℕ) (i n m : ℕ) → m + n ≤ i → take n (drop m (take i xs)) ≡ take n (drop m xs)
part-of-front xs i n m h =
    let cut : i ≡ m + (i - m) = omega arith in
    ap (λ k. take n (drop m (take k xs))) cut ∙ ap (take n) (drop-take m (i - m) xs) ∙ grind (arith, common_steps)

-- a range below it stays
pub below-written : (xs ys : List ℕ) (i n m : ℕ) → i + length ys ≤ length xs → m + n ≤ i → take n (drop m (replace_range xs i (i + length ys) ys)) ≡ take n (drop m xs)
below-written xs ys i n m h below =
    let front : length (take i xs) ≡ i = length-front xs i (omega arith) in
    let regroup : replace_range xs i (i + length ys) ys ≡ take i xs ++ (ys ++ drop (i + length ys) xs) = append_assoc (take i xs) ys (drop (i + length ys) xs) in
    let dropped : drop m (take i xs ++ (ys ++ drop (i + length ys) xs)) ≡ drop m (take i xs) ++ (ys ++ drop (i + length ys) xs) = drop-append-le m (take i xs) (ys ++ drop (i + length ys) xs) (omega arith) in
    let long : n ≤ length (drop m (take i xs)) = omega (arith, length-drop m (take i xs)) in
    ap (λ l. take n (drop m l)) regroup ∙ ap (take n) dropped ∙ take-append-le n (drop m (take i xs)) (ys ++ drop (i + length ys) xs) long ∙ part-of-front xs i n m below
