-- Numbers are found again in their texts.
use Rattle.std.proofs.Common.{◌≡◌, ℕ, zero, suc, ◌+◌, ◌-◌, ◌*◌, ◌/◌, ◌%◌, ◌^◌, ◌<◌, ◌≤◌, min, Bool, true, false, cond, ◌&&◌, ◌||◌, ◌==◌, List, [], ◌∷◌, ◌++◌, length, get_or, decimal, ap, refl, ◌∙◌, arith, ne_eqb, lit<}
use Rattle.std.proofs.lemmas.Bool.{and_parts, le-leb, lt-leb, leb-true}
use Rattle.std.proofs.lemmas.Fmt.{decimal_digit, decimal_by_steps, decimal_nonempty, first_decimal}
use Rattle.ffi3_cdecl_spec.specs.Tokens.{name, number, is_blank, is_digit, is_letter, goes_on_word, front, TOO_GREAT, with_digits, blank, found, found_at, number_at, dots_at, mark_among, marks, word_of}
use Rattle.ffi3_cdecl_spec.specs.Canonical.{passes}
use Rattle.ffi3_cdecl_spec.proofs.Spoken.{Spoken, digits_apart, front_passes, else_number, word_spoken}

-- ---- the digits of a number

digit_is : (d : ℕ) → d < 10 → is_digit (48 + d) ≡ true
digit_is d h =
    rw (le-leb 48 (48 + d) (omega arith), le-leb (48 + d) 57 (omega arith)) refl

passes-append : (test : ℕ → Bool) (xs ys : List ℕ) → passes test xs ≡ true → passes test ys ≡ true → passes test (xs ++ ys) ≡ true
passes-append test [] ys p q = q
passes-append test (x ∷ xs) ys p q =
    let r = and_parts (test x) (passes test xs) p in
    ap (λ t. t && passes test (xs ++ ys)) r.0 ∙ passes-append test xs ys r.1 q

with_digits-append : (n : ℕ) (ds : List ℕ) (d : ℕ) → with_digits n (ds ++ d ∷ []) ≡ min (10 * with_digits n ds + (d - 48)) TOO_GREAT
with_digits-append n [] d = refl
with_digits-append n (c ∷ ds) d =
    with_digits-append (min (10 * n + (c - 48)) TOO_GREAT) ds d

least : (a b : ℕ) → a ≤ b → min a b ≡ a
least a b h = omega arith

abbrev Digits : ℕ → List ℕ → Type 0
Digits n ds =
    n < TOO_GREAT → (passes is_digit ds ≡ true) × (with_digits 0 ds ≡ n)

one_digit : (n : ℕ) → n < 10 → Digits n ((48 + n) ∷ [])
one_digit n h small =
    let v : 10 * 0 + (48 + n - 48) ≡ n = omega arith in
    let e : n ≤ TOO_GREAT = omega arith in
    (ap (λ t. t && true) (digit_is n h), ap (λ k. min k TOO_GREAT) v ∙ least n TOO_GREAT e)

more_digits : (n : ℕ) (ds : List ℕ) → 10 ≤ n → Digits (n / 10) ds → Digits n (ds ++ (48 + n % 10) ∷ [])
more_digits n ds ten h small =
    let f : n / 10 < TOO_GREAT = omega arith in
    let g : n % 10 < 10 = omega arith in
    let p = h f in
    let v : 10 * (n / 10) + (48 + n % 10 - 48) ≡ n = omega arith in
    let e : n ≤ TOO_GREAT = omega arith in
    (passes-append is_digit ds ((48 + n % 10) ∷ []) p.0 (ap (λ t. t && true) (digit_is (n % 10) g)), with_digits-append 0 ds (48 + n % 10) ∙ ap (λ k. min (10 * k + (48 + n % 10 - 48)) TOO_GREAT) p.1 ∙ ap (λ k. min k TOO_GREAT) v ∙ least n TOO_GREAT e)

short : (n : ℕ) → n < TOO_GREAT → n < 2 ^ 64
short n h = omega arith

digits_of : (n : ℕ) → n < TOO_GREAT → (passes is_digit (decimal n) ≡ true) × (with_digits 0 (decimal n) ≡ n)
digits_of n h = decimal_by_steps Digits one_digit more_digits n (short n h) h

-- ---- a number found

digit_no_letter : (c : ℕ) → c ≤ 57 → is_letter c ≡ false
digit_no_letter c h =
    rw (lt-leb 65 c (omega arith), lt-leb 97 c (omega arith), ne_eqb c 95 (λ e. omega arith)) refl

digit_no_blank : (c : ℕ) → 48 ≤ c → is_blank c ≡ false
digit_no_blank c h =
    rw (ne_eqb c 32 (λ e. omega arith), ne_eqb c 9 (λ e. omega arith), ne_eqb c 10 (λ e. omega arith), ne_eqb c 13 (λ e. omega arith)) refl

-- behind a digit comes what a number has
found_digit : (c : ℕ) (bs cs : List ℕ) → is_digit c ≡ true → front is_digit bs ≡ cs → found_at c bs ≡ number_at c cs
found_digit c bs cs d e =
    let b = and_parts _ _ d in
    ap (λ t. cond t blank (cond (is_letter c) (found (word_of (c ∷ front goes_on_word bs)) (length (front goes_on_word bs))) (else_number c bs))) (digit_no_blank c (leb-true 48 c b.0)) ∙ ap (λ t. cond t (found (word_of (c ∷ front goes_on_word bs)) (length (front goes_on_word bs))) (else_number c bs)) (digit_no_letter c (leb-true c 57 b.1)) ∙ ap (λ t. cond t (number_at c (front is_digit bs)) (cond (c == 46) (dots_at bs) (mark_among c marks))) d ∙ ap (λ ds. number_at c ds) e

number_is : (c : ℕ) (cs : List ℕ) (n : ℕ) → 48 < c → with_digits 0 (c ∷ cs) ≡ n → number_at c cs ≡ found (number n) (length cs)
number_is c cs n h e =
    ap (λ t. cond t (cond (length cs == 0) (found (number 0) 0) (number_at 48 (48 ∷ []))) (found (number (with_digits 0 (c ∷ cs))) (length cs))) (ne_eqb c 48 (λ e. omega arith)) ∙ ap (λ k. found (number k) (length cs)) e

of_digits : (n : ℕ) (ds : List ℕ) → decimal n ≡ ds → n < TOO_GREAT → 0 < length ds → 48 < get_or ds 0 0 → passes is_digit ds ≡ true → with_digits 0 ds ≡ n → Spoken (number n)
of_digits n [] e small some high p v = absurd (omega arith)
of_digits n (c ∷ cs) e small some high p v =
    let q = and_parts (is_digit c) (passes is_digit cs) p in
    record { first = c; more = cs; spelt = e; alone = λ rest apart. found_digit c (cs ++ rest) cs q.0 (front_passes is_digit cs rest q.1 (digits_apart rest (apart refl))) ∙ number_is c cs n high v; small = lt-leb TOO_GREAT n small }

pub number_spoken : (n : ℕ) → n < TOO_GREAT → Spoken (number n)
number_spoken zero h =
    record { first = 48; more = []; spelt = decimal_digit 0 (lit< tt); alone = λ rest apart. ap (λ ds. number_at 48 ds) (digits_apart rest (apart refl)); small = refl }
number_spoken (suc n) h =
    let d = digits_of (suc n) h in
    of_digits (suc n) (decimal (suc n)) refl h (decimal_nonempty (suc n) (short (suc n) h)) (first_decimal (suc n) (omega arith) (short (suc n) h)) d.0 d.1

-- ---- the name of a member

or_true : (x y : Bool) → y ≡ true → (x || y) ≡ true
or_true true y e = refl
or_true false y e = e

word_digits : (ds : List ℕ) → passes is_digit ds ≡ true → passes goes_on_word ds ≡ true
word_digits [] p = refl
word_digits (d ∷ ds) p =
    let q = and_parts (is_digit d) (passes is_digit ds) p in
    ap (λ t. t && passes goes_on_word ds) (or_true (is_letter d) (is_digit d) q.0) ∙ word_digits ds q.1

pub member_name_spoken : (i : ℕ) → i < TOO_GREAT → Spoken (name (109 ∷ decimal i))
member_name_spoken i h =
    word_spoken (name (109 ∷ decimal i)) 109 (decimal i) refl refl (word_digits (decimal i) (digits_of i h).0) refl refl refl
