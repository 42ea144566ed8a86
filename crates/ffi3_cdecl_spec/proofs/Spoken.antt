-- The text of tokens is cut into these tokens.
use Rattle.std.proofs.Common.{◌≡◌, ℕ, suc, ◌+◌, Bool, true, false, cond, ◌||◌, ◌==◌, nat_eq, List, [], ◌∷◌, ◌++◌, length, Some, None, ap, sym, subst, refl, ◌∙◌, arith, true≢false, ne_eqb}
use Rattle.std.specs.Prelude.{⊤}
use Rattle.std.proofs.lemmas.Bool.{and_parts}
use Rattle.ffi3_cdecl_spec.specs.Tokens.{plain, signed, Token, open_round, close_round, open_square, close_square, comma, semicolon, word_of, is_blank, is_digit, is_letter, goes_on_word, front, Found, blank, found, bytes_more, found_at, number_at, dots_at, mark_among, marks, Placed, tokens, before, cut_from}
use Rattle.ffi3_cdecl_spec.specs.Reading.{tokens_of, is_too_great, first_too_great}
use Rattle.ffi3_cdecl_spec.specs.Canonical.{spelled, hugs, holds, spaced, text_of, passes}

-- the bytes do not begin with one that goes on a word
abbrev pub Apart : List ℕ → Type 0
Apart [] = ⊤
Apart (b ∷ bs) = goes_on_word b ≡ false

pub front_apart : (bs : List ℕ) → Apart bs → front goes_on_word bs ≡ []
front_apart [] h = refl
front_apart (b ∷ bs) h =
    ap (λ t. cond t (b ∷ front goes_on_word bs) []) h

second_false : (x y : Bool) → (x || y) ≡ false → y ≡ false
second_false true y e = absurd (true≢false e)
second_false false y e = e

pub digits_apart : (bs : List ℕ) → Apart bs → front is_digit bs ≡ []
digits_apart [] h = refl
digits_apart (b ∷ bs) h =
    ap (λ t. cond t (b ∷ front is_digit bs) []) (second_false (is_letter b) (is_digit b) h)

pub front_passes : (test : ℕ → Bool) (cs rest : List ℕ) → passes test cs ≡ true → front test rest ≡ [] → front test (cs ++ rest) ≡ cs
front_passes test [] rest p e = e
front_passes test (c ∷ cs) rest p e =
    let q = and_parts (test c) (passes test cs) p in
    ap (λ t. cond t (c ∷ front test (cs ++ rest)) []) q.0 ∙ ap (λ bs. c ∷ bs) (front_passes test cs rest q.1 e)

-- a token that is found again in its text
pub record Spoken (x : Token) : Type 0 where
  pub first : ℕ
  pub more : List ℕ
  pub spelt : spelled x ≡ first ∷ more
  pub alone : (rest : List ℕ) → (holds x ≡ false → Apart rest) → found_at first (more ++ rest) ≡ found x (length more)
  pub small : is_too_great x ≡ false

abbrev pub AllSpoken : List Token → Type 0
AllSpoken [] = ⊤
AllSpoken (x ∷ xs) = Spoken x × AllSpoken xs

-- ---- a text of such tokens

abbrev pub Cuts : ℕ → List ℕ → List Token → Type 0
Cuts at text xs =
    (ps : List Placed) × (cut_from plain signed at 0 text ≡ tokens ps) × (tokens_of ps ≡ xs)

passed_by : (cs rest : List ℕ) (at : ℕ) → cut_from plain signed at (length cs) (cs ++ rest) ≡ cut_from plain signed (at + length cs) 0 rest
passed_by [] rest at =
    let e : at ≡ at + 0 = omega arith in
    ap (λ n. cut_from plain signed n 0 rest) e
passed_by (c ∷ cs) rest at =
    let e : (at + 1) + length cs ≡ at + suc (length cs) = omega arith in
    passed_by cs rest (at + 1) ∙ ap (λ n. cut_from plain signed n 0 rest) e

apart_text : (ys : List Token) → Apart (text_of false ys)
apart_text [] = tt
apart_text (open_round ∷ ys) = refl
apart_text (close_round ∷ ys) = refl
apart_text (open_square ∷ ys) = refl
apart_text (close_square ∷ ys) = refl
apart_text (comma ∷ ys) = refl
apart_text (semicolon ∷ ys) = refl
apart_text (x ∷ ys) = refl

cuts_token : (x : Token) (rest : List ℕ) (at : ℕ) (xs : List Token) → Spoken x → (holds x ≡ false → Apart rest) → ((there : ℕ) → Cuts there rest xs) → Cuts at (spelled x ++ rest) (x ∷ xs)
cuts_token x rest at xs s apart cuts =
    let c : Cuts ((at + 1) + length s.more) rest xs = cuts ((at + 1) + length s.more) in
    let e : cut_from plain signed at 0 (s.first ∷ (s.more ++ rest)) ≡ tokens (record { at = at; token = x } ∷ c.0) = ap (λ f. before f at (cut_from plain signed (at + 1) (bytes_more f) (s.more ++ rest))) (s.alone rest apart) ∙ ap (λ k. before (found x (length s.more)) at k) (passed_by s.more rest (at + 1) ∙ c.1) in
    subst (λ t. Cuts at (t ++ rest) (x ∷ xs)) (sym s.spelt) (record { at = at; token = x } ∷ c.0, e, ap (λ ts. x ∷ ts) c.2)

cuts_spaced : (b : Bool) (text : List ℕ) (xs : List Token) → ((there : ℕ) → Cuts there text xs) → (at : ℕ) → Cuts at (spaced b text) xs
cuts_spaced true text xs cuts at = cuts at
cuts_spaced false text xs cuts at =
    let c : Cuts (at + 1) text xs = cuts (at + 1) in
    (c.0, c.1, c.2)

pub cuts_text : (xs : List Token) → AllSpoken xs → (tight : Bool) (at : ℕ) → Cuts at (text_of tight xs) xs
cuts_text [] h tight at = ([], refl, refl)
cuts_text (x ∷ xs) h tight at =
    cuts_spaced (tight || hugs x) (spelled x ++ text_of (holds x) xs) (x ∷ xs) (λ there. cuts_token x (text_of (holds x) xs) there xs h.0 (λ e. subst (λ b. Apart (text_of b xs)) (sym e) (apart_text xs)) (cuts_text xs h.1 (holds x))) at

pub none_great : (ps : List Placed) → AllSpoken (tokens_of ps) → first_too_great ps ≡ None
none_great [] h = refl
none_great (p ∷ ps) h =
    ap (λ t. cond t (Some p.at) (first_too_great ps)) h.0.small ∙ none_great ps h.1

-- ---- words

not_that : (k c : ℕ) → is_letter k ≡ false → is_letter c ≡ true → nat_eq c k ≡ false
not_that k c no_letter letter =
    ne_eqb c k (λ e. true≢false (sym letter ∙ ap is_letter e ∙ no_letter))

pub letter_no_blank : (c : ℕ) → is_letter c ≡ true → is_blank c ≡ false
letter_no_blank c l =
    rw (not_that 32 c refl l, not_that 9 c refl l, not_that 10 c refl l, not_that 13 c refl l) refl

abbrev pub else_number : ℕ → List ℕ → Found
else_number b bs =
    cond (is_digit b) (number_at b (front is_digit bs)) (cond (b == 46) (dots_at bs) (mark_among b marks))

found_word : (c : ℕ) (bs cs : List ℕ) → is_letter c ≡ true → front goes_on_word bs ≡ cs → found_at c bs ≡ found (word_of (c ∷ cs)) (length cs)
found_word c bs cs l e =
    ap (λ t. cond t blank (cond (is_letter c) (found (word_of (c ∷ front goes_on_word bs)) (length (front goes_on_word bs))) (else_number c bs))) (letter_no_blank c l) ∙ ap (λ t. cond t (found (word_of (c ∷ front goes_on_word bs)) (length (front goes_on_word bs))) (else_number c bs)) l ∙ ap (λ ds. found (word_of (c ∷ ds)) (length ds)) e

pub word_spoken : (x : Token) (c : ℕ) (cs : List ℕ) → spelled x ≡ c ∷ cs → is_letter c ≡ true → passes goes_on_word cs ≡ true → word_of (c ∷ cs) ≡ x → holds x ≡ false → is_too_great x ≡ false → Spoken x
word_spoken x c cs e l p w h s =
    record { first = c; more = cs; spelt = e; alone = λ rest apart. found_word c (cs ++ rest) cs l (front_passes goes_on_word cs rest p (front_apart rest (apart h))) ∙ ap (λ t. found t (length cs)) w; small = s }
