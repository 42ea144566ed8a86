-- Words of a type, said one by one: what is still possible, and what the words name, is what the lists of C11 6.7.2 say.
use Rattle.std.proofs.Common.{◌≡◌, ℕ, suc, ◌+◌, ◌<◌, Bool, true, false, cond, ◌&&◌, not, List, [], ◌∷◌, ◌++◌, length, Option, Some, None, ap, sym, subst, refl, ◌∙◌, true≢false, arith}
use Rattle.std.specs.Prelude.{bytes_eq, nat_le, ◌==◌, ◌||◌, is_some}
use Rattle.std.proofs.lemmas.Bool.{le-leb, and_from, and_parts, or_parts, not-true}
use Rattle.std.proofs.lemmas.Slice.Eq.{bytes_eq-Decides}
use Rattle.ffi3_type_spec.specs.Tree.{float}
use Rattle.ffi3_cdecl_spec.specs.Tokens.{Token, Sign, signed, unsigned, type_word, sign_word, char_word}
use Rattle.ffi3_cdecl_spec.specs.Grammar.{Kind, specifier_number, times, counted, type_specifiers, kind_among, named_by}
use Rattle.ffi3_cdecl_spec.specs.Telling.{specifier_words}
use Rattle.ffi3_cdecl_spec.specs.Machine.{Size, of_no_size, said_short, said_long, said_long_long, Said, an_integer, a_character, of_128_bits, a_float, a_double, a_complex, words_of, say}

-- ---- counts of lists that stand one behind the other

abbrev plus : List ℕ → List ℕ → List ℕ
plus [] ms = []
plus (n ∷ ns) [] = n ∷ ns
plus (n ∷ ns) (m ∷ ms) = (n + m) ∷ plus ns ms

time_more : (b : Bool) (m n : ℕ) → cond b (suc (m + n)) (m + n) ≡ cond b (suc m) m + n
time_more true m n = omega arith
time_more false m n = refl

times-append : (n : ℕ) (xs ys : List Token) → times n (xs ++ ys) ≡ times n xs + times n ys
times-append n [] ys = omega arith
times-append n (x ∷ xs) ys =
    ap (λ t. cond (specifier_number x == n) (suc t) t) (times-append n xs ys) ∙ time_more (specifier_number x == n) (times n xs) (times n ys)

counted-append : (xs ys : List Token) → counted (xs ++ ys) ≡ plus (counted xs) (counted ys)
counted-append xs ys =
    λ i. times-append 1 xs ys i ∷ times-append 2 xs ys i ∷ times-append 3 xs ys i ∷ times-append 4 xs ys i ∷ times-append 5 xs ys i ∷ times-append 6 xs ys i ∷ times-append 7 xs ys i ∷ times-append 8 xs ys i ∷ times-append 9 xs ys i ∷ times-append 10 xs ys i ∷ times-append 11 xs ys i ∷ []

counted_same : (xs ys more : List Token) → counted xs ≡ counted ys → counted (xs ++ more) ≡ counted (ys ++ more)
counted_same xs ys more same =
    counted-append xs more ∙ ap (λ ns. plus ns (counted more)) same ∙ sym (counted-append ys more)

-- ---- rows that some words may still come to

abbrev below : List ℕ → List ℕ → Bool
below [] ms = true
below (n ∷ ns) [] = false
below (n ∷ ns) (m ∷ ms) = nat_le n m && below ns ms

below_plus : (ns ms : List ℕ) → length ns ≡ length ms → below ns (plus ns ms) ≡ true
below_plus [] ms e = refl
below_plus (n ∷ ns) [] e = absurd (omega (arith, e))
below_plus (n ∷ ns) (m ∷ ms) e =
    and_from (nat_le n (n + m)) (below ns (plus ns ms)) (le-leb n (n + m) (omega arith)) (below_plus ns ms (omega (arith, e)))

abbrev fits_among : List (List Token × Kind) → List ℕ → Bool
fits_among [] ns = false
fits_among (row ∷ rows) ns = below ns (counted row.0) || fits_among rows ns

no_row : {A : Type 0} (is : Bool) (some : A) (o : Option A) → (is ≡ true → ⊥) → o ≡ None → cond is (Some some) o ≡ None
no_row true some o isnt none = absurd (isnt refl)
no_row false some o isnt none = none

none_fits : (rows : List (List Token × Kind)) (xs more : List Token) → fits_among rows (counted xs) ≡ false → kind_among rows (counted (xs ++ more)) ≡ None
none_fits [] xs more e = refl
none_fits (row ∷ rows) xs more e =
    no_row (bytes_eq (counted (xs ++ more)) (counted row.0)) row.1 (kind_among rows (counted (xs ++ more))) (λ is.
    let same : plus (counted xs) (counted more) ≡ counted row.0 = sym (counted-append xs more) ∙ (bytes_eq-Decides (counted (xs ++ more)) (counted row.0)).0 is in
    let fits : below (counted xs) (counted row.0) ≡ true = subst (λ ns. below (counted xs) ns ≡ true) same (below_plus (counted xs) (counted more) refl) in
    true≢false (sym fits ∙ (or_parts (below (counted xs) (counted row.0)) (fits_among rows (counted xs)) e).0)) (none_fits rows xs more (or_parts (below (counted xs) (counted row.0)) (fits_among rows (counted xs)) e).1)

-- ---- one word more, over all that may have been said

abbrev agrees : List Token → Option Said → Bool
agrees ws (Some s) = bytes_eq (counted ws) (counted (words_of s))
agrees ws None = not (fits_among type_specifiers (counted ws))

abbrev says_right : Said → Token → Bool
says_right s x = agrees (words_of s ++ x ∷ []) (say s x)

-- one of these
pub data IsAmong : Token → List Token → Type 0 where
  at_front : {x : Token} {xs : List Token} → IsAmong x (x ∷ xs)
  further : {x y : Token} {xs : List Token} → IsAmong x xs → IsAmong x (y ∷ xs)

pub specifier_among : (x : Token) → 0 < specifier_number x → IsAmong x specifier_words
specifier_among (sign_word signed) h = at_front
specifier_among (char_word signed) h = further (further at_front)
specifier_among (type_word float) h =
    further (further (further (further (further (further (further (further at_front)))))))
specifier_among x h = first_of (search (at_front, further) depth 12, grind arith)

abbrev for_all : (Token → Bool) → List Token → Bool
for_all f [] = true
for_all f (x ∷ xs) = f x && for_all f xs

of_all : {x : Token} {xs : List Token} (f : Token → Bool) → IsAmong x xs → for_all f xs ≡ true → f x ≡ true
of_all f at_front e = (and_parts _ _ e).0
of_all f (further i) e = of_all f i (and_parts _ _ e).1

abbrev for_words : (Token → Bool) → Bool
for_words f = for_all f specifier_words

abbrev for_signs : (Option Sign → Bool) → Bool
for_signs f = f None && (f (Some signed) && f (Some unsigned))

abbrev for_sizes : (Size → Bool) → Bool
for_sizes f = f of_no_size && (f said_short && (f said_long && f said_long_long))

abbrev for_both : (Bool → Bool) → Bool
for_both f = f true && f false

of_signs : (f : Option Sign → Bool) → for_signs f ≡ true → (g : Option Sign) → f g ≡ true
of_signs f e None = (and_parts _ _ e).0
of_signs f e (Some signed) = (and_parts _ _ (and_parts (f None) _ e).1).0
of_signs f e (Some unsigned) = (and_parts (f (Some signed)) _ (and_parts (f None) _ e).1).1

of_sizes : (f : Size → Bool) → for_sizes f ≡ true → (z : Size) → f z ≡ true
of_sizes f e of_no_size = (and_parts _ _ e).0
of_sizes f e said_short = (and_parts _ _ (and_parts (f of_no_size) _ e).1).0
of_sizes f e said_long =
    (and_parts _ _ (and_parts (f said_short) _ (and_parts (f of_no_size) _ e).1).1).0
of_sizes f e said_long_long =
    (and_parts (f said_long) _ (and_parts (f said_short) _ (and_parts (f of_no_size) _ e).1).1).1

of_both : (f : Bool → Bool) → for_both f ≡ true → (b : Bool) → f b ≡ true
of_both f e true = (and_parts _ _ e).0
of_both f e false = (and_parts (f true) _ e).1

of_words : (f : Token → Bool) → for_words f ≡ true → (x : Token) → 0 < specifier_number x → f x ≡ true
of_words f e x h = of_all f (specifier_among x h) e

abbrev all_integers : Bool
all_integers = for_signs (λ g. for_sizes (λ z. for_both (λ i. for_words (λ x. says_right (an_integer g z i) x))))

abbrev all_characters : Sign → Bool
all_characters c = for_signs (λ g. for_words (λ x. says_right (a_character c g) x))

abbrev all_of_128_bits : Bool
all_of_128_bits = for_signs (λ g. for_words (λ x. says_right (of_128_bits g) x))

abbrev all_floats : Bool
all_floats = for_both (λ c. for_words (λ x. says_right (a_float c) x))

abbrev all_doubles : Bool
all_doubles = for_both (λ l. for_both (λ c. for_words (λ x. says_right (a_double l c) x)))

abbrev all_complex : Bool
all_complex = for_both (λ l. for_words (λ x. says_right (a_complex l) x))

integers_right : all_integers ≡ true
integers_right = refl

characters_right : (c : Sign) → all_characters c ≡ true
characters_right signed = refl
characters_right unsigned = refl

of_128_bits_right : all_of_128_bits ≡ true
of_128_bits_right = refl

floats_right : all_floats ≡ true
floats_right = refl

doubles_right : all_doubles ≡ true
doubles_right = refl

complex_right : all_complex ≡ true
complex_right = refl

right : (s : Said) (x : Token) → 0 < specifier_number x → says_right s x ≡ true
right (an_integer g z i) x h =
    of_words (λ x. says_right (an_integer g z i) x) (of_both (λ i. for_words (λ x. says_right (an_integer g z i) x)) (of_sizes (λ z. for_both (λ i. for_words (λ x. says_right (an_integer g z i) x))) (of_signs (λ g. for_sizes (λ z. for_both (λ i. for_words (λ x. says_right (an_integer g z i) x)))) integers_right g) z) i) x h
right (a_character c g) x h =
    of_words (λ x. says_right (a_character c g) x) (of_signs (λ g. for_words (λ x. says_right (a_character c g) x)) (characters_right c) g) x h
right (of_128_bits g) x h =
    of_words (λ x. says_right (of_128_bits g) x) (of_signs (λ g. for_words (λ x. says_right (of_128_bits g) x)) of_128_bits_right g) x h
right (a_float c) x h =
    of_words (λ x. says_right (a_float c) x) (of_both (λ c. for_words (λ x. says_right (a_float c) x)) floats_right c) x h
right (a_double l c) x h =
    of_words (λ x. says_right (a_double l c) x) (of_both (λ c. for_words (λ x. says_right (a_double l c) x)) (of_both (λ l. for_both (λ c. for_words (λ x. says_right (a_double l c) x))) doubles_right l) c) x h
right (a_complex l) x h =
    of_words (λ x. says_right (a_complex l) x) (of_both (λ l. for_words (λ x. says_right (a_complex l) x)) complex_right l) x h

-- ---- what the words name with others behind them

one_by_one : (xs : List Token) (x : Token) (ws : List Token) → xs ++ x ∷ ws ≡ (xs ++ x ∷ []) ++ ws
one_by_one [] x ws = refl
one_by_one (y ∷ xs) x ws = ap (λ ts. y ∷ ts) (one_by_one xs x ws)

-- A word that can be said: with it, the words come to what they come to without it behind what has been said then.
pub said_more : (s t : Said) (x : Token) → 0 < specifier_number x → say s x ≡ Some t → (ws : List Token) → named_by (words_of s ++ x ∷ ws) ≡ named_by (words_of t ++ ws)
said_more s t x h e ws =
    let is : bytes_eq (counted (words_of s ++ x ∷ [])) (counted (words_of t)) ≡ true = subst (λ o. agrees (words_of s ++ x ∷ []) o ≡ true) e (right s x h) in
    let same : counted (words_of s ++ x ∷ []) ≡ counted (words_of t) = (bytes_eq-Decides (counted (words_of s ++ x ∷ [])) (counted (words_of t))).0 is in
    ap named_by (one_by_one (words_of s) x ws) ∙ ap (kind_among type_specifiers) (counted_same (words_of s ++ x ∷ []) (words_of t) ws same)

-- one that cannot: with it, no words name a type
pub said_too_much : (s : Said) (x : Token) → 0 < specifier_number x → say s x ≡ None → (ws : List Token) → named_by (words_of s ++ x ∷ ws) ≡ None
said_too_much s x h e ws =
    let isnt : not (fits_among type_specifiers (counted (words_of s ++ x ∷ []))) ≡ true = subst (λ o. agrees (words_of s ++ x ∷ []) o ≡ true) e (right s x h) in
    ap named_by (one_by_one (words_of s) x ws) ∙ none_fits type_specifiers (words_of s ++ x ∷ []) ws (not-true _ isnt)

pub sign_number : (g : Sign) → 0 < specifier_number (sign_word g)
sign_number signed = omega arith
sign_number unsigned = omega arith

pub char_number : (c : Sign) → 0 < specifier_number (char_word c)
char_number signed = omega arith
char_number unsigned = omega arith

-- ---- what names a type as it stands

abbrev names : Said → Bool
names s = is_some (named_by (words_of s))

some_kind : (o : Option Kind) → is_some o ≡ true → (k : Kind) × (o ≡ Some k)
some_kind None e = absurd (true≢false (sym e))
some_kind (Some k) e = (k, refl)

-- what these words name
abbrev pub Named : Said → Type 0
Named s = (k : Kind) × (named_by (words_of s) ≡ Some k)

integers_name : for_signs (λ g. for_sizes (λ z. names (an_integer g z true))) ≡ true
integers_name = refl

characters_name : (c : Sign) → for_signs (λ g. names (a_character c g)) ≡ true
characters_name signed = refl
characters_name unsigned = refl

of_128_bits_name : for_signs (λ g. names (of_128_bits g)) ≡ true
of_128_bits_name = refl

floats_name : for_both (λ c. names (a_float c)) ≡ true
floats_name = refl

doubles_name : for_both (λ l. for_both (λ c. names (a_double l c))) ≡ true
doubles_name = refl

pub integer_named : (g : Option Sign) (z : Size) → Named (an_integer g z true)
integer_named g z =
    some_kind _ (of_sizes (λ z. names (an_integer g z true)) (of_signs (λ g. for_sizes (λ z. names (an_integer g z true))) integers_name g) z)

pub character_named : (c : Sign) (g : Option Sign) → Named (a_character c g)
character_named c g =
    some_kind _ (of_signs (λ g. names (a_character c g)) (characters_name c) g)

pub of_128_bits_named : (g : Option Sign) → Named (of_128_bits g)
of_128_bits_named g =
    some_kind _ (of_signs (λ g. names (of_128_bits g)) of_128_bits_name g)

pub float_named : (c : Bool) → Named (a_float c)
float_named c = some_kind _ (of_both (λ c. names (a_float c)) floats_name c)

pub double_named : (l c : Bool) → Named (a_double l c)
double_named l c =
    some_kind _ (of_both (λ c. names (a_double l c)) (of_both (λ l. for_both (λ c. names (a_double l c))) doubles_name l) c)
