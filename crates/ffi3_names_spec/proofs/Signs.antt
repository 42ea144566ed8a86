-- The names are the same whether `char` is signed or not.
use Rattle.std.proofs.Common.{◌≡◌, ◌∙◌, ℕ, zero, suc, Bool, true, false, cond, List, [], ◌∷◌, ◌++◌, length, drop, refl, ap}
use Rattle.std.specs.Prelude.{◌==◌, codes, bytes_eq}
use Rattle.ffi3_cdecl_spec.specs.Tokens.{wide, signed, unsigned, Token, char_word, Found, blank, skipped, nothing_known, found, found_in, wide_word, wide_word_at, word_among, more_words, words as all_words, is_among, blank_words, attribute_words, assembler_words, is_letter, front, goes_on_word, attribute_at, are_silent, begins_string, comment_at, found_at}
use Rattle.ffi3_names_spec.specs.Scan.{Spot, base, tagged, declarator, behind, told, next, names_found, names_over, names_in}

-- one thing, or a `char` of each sign
data Same : Found → Found → Type 0 where
  itself : {f : Found} → Same f f
  of_char : {n : ℕ} → Same (found (char_word signed) n) (found (char_word unsigned) n)

in_first : {f g : Found} (t : Bool) (h : Found) → Same f g → Same (cond t f h) (cond t g h)
in_first true h s = s
in_first false h s = itself

in_second : {f g : Found} (t : Bool) (h : Found) → Same f g → Same (cond t h f) (cond t h g)
in_second true h s = itself
in_second false h s = s

a_word : (t : Bool) (x : Token) (n : ℕ) → Same (found (cond t (char_word signed) x) n) (found (cond t (char_word unsigned) x) n)
a_word true x n = of_char
a_word false x n = itself

word_is : (word : List ℕ) (n : ℕ) → Same (wide_word signed word n) (wide_word unsigned word n)
word_is word n =
    in_second (is_among word blank_words) (skipped n) (a_word (bytes_eq word (codes "char")) (word_among word (more_words ++ all_words)) n)

word_there : (word : List ℕ) (n : ℕ) (bs : List ℕ) → Same (wide_word_at signed word n bs) (wide_word_at unsigned word n bs)
word_there word n bs =
    in_second (is_among word attribute_words) (attribute_at are_silent n bs) (in_second (is_among word assembler_words) (attribute_at begins_string n bs) (word_is word n))

there : (b : ℕ) (bs : List ℕ) → Same (found_in wide signed b bs) (found_in wide unsigned b bs)
there b bs =
    in_first (is_letter b) (cond (b == 47) (comment_at bs) (found_at b bs)) (word_there (b ∷ front goes_on_word bs) (length (front goes_on_word bs)) (drop (length (front goes_on_word bs)) bs))

char_told : (s : Spot) → told s (char_word signed) ≡ told s (char_word unsigned)
char_told (tagged true) = refl
char_told s = refl

char_next : (s : Spot) → next s (char_word signed) ≡ next s (char_word unsigned)
char_next (tagged true) = refl
char_next (declarator zero) = refl
char_next (behind zero) = refl
char_next s = refl

by_found : {f g : Found} → Same f g → (s : Spot) (go on : ℕ → Spot → List (List ℕ)) → ((n : ℕ) (t : Spot) → go n t ≡ on n t) → names_found f s go ≡ names_found g s on
by_found (itself {f = blank}) s go on e = e 0 s
by_found (itself {f = skipped n}) s go on e = e n s
by_found (itself {f = nothing_known}) s go on e = refl
by_found (itself {f = found x n}) s go on e =
    ap (λ ns. told s x ++ ns) (e n (next s x))
by_found (of_char {n = n}) s go on e =
    let x = char_word signed in
    let y = char_word unsigned in
    ap (λ ns. ns ++ go n (next s x)) (char_told s) ∙ ap (λ ns. told s y ++ ns) (ap (go n) (char_next s) ∙ e n (next s y))

over_bytes : (bs : List ℕ) (inside : ℕ) (s : Spot) → names_over signed inside s bs ≡ names_over unsigned inside s bs
over_bytes [] inside s = refl
over_bytes (b ∷ bs) zero s =
    by_found (there b bs) s (λ inside t. names_over signed inside t bs) (λ inside t. names_over unsigned inside t bs) (λ inside t. over_bytes bs inside t)
over_bytes (b ∷ bs) (suc inside) s = over_bytes bs inside s

pub by_either_sign : (text : List ℕ) → names_in signed text ≡ names_in unsigned text
by_either_sign text = over_bytes text 0 (base false)
