-- Brackets, byte by byte.
use Rattle.std.proofs.Common.{◌≡◌, ℕ, zero, suc, ◌+◌, ◌<◌, ◌≤◌, Bool, true, false, cond, ◌&&◌, List, [], ◌∷◌, length, get_or, drop, Option, Some, None, option_map, ap, sym, refl, ◌∙◌, arith, ne_eqb}
use Rattle.std.specs.Prelude.{◌==◌}
use Rattle.std.proofs.lemmas.List.{drop_more, drop_all, drop-drop}
use Rattle.ffi3_cdecl_spec.specs.Tokens.{Quoted, quoted_behind, hides, begins_string, open_behind, bracket_length, is_attribute_at, all_silent, are_silent, is_silent, front, goes_on_word}

-- ---- where a bracket ends

-- a length that is counted from n bytes before
abbrev pub later : ℕ → Option ℕ → Option ℕ
later n o = option_map (λ k. n + k) o

later_more : (n : ℕ) (o : Option ℕ) → later n (option_map suc o) ≡ later (n + 1) o
later_more n None = refl
later_more n (Some k) =
    let e : n + suc k ≡ n + 1 + k = omega arith in
    ap Some e

later_none : (o : Option ℕ) → later 0 o ≡ o
later_none None = refl
later_none (Some k) =
    let e : 0 + k ≡ k = omega arith in
    ap Some e

-- the length from byte n on, where so many brackets are open
abbrev pub length_from : Quoted → ℕ → ℕ → List ℕ → Option ℕ
length_from q o n bs = later n (bracket_length q o (drop n bs))

pub bracket_begins : (q : Quoted) (bs : List ℕ) → length_from q 0 0 bs ≡ bracket_length q 0 bs
bracket_begins q bs = later_none (bracket_length q 0 bs)

bracket_step : (q : Quoted) (o n : ℕ) (bs : List ℕ) → n < length bs → length_from q o n bs ≡ later n (cond (hides q (get_or bs n 0)) None (cond (open_behind q (get_or bs n 0) o == 0) (Some 1) (option_map suc (bracket_length (quoted_behind q (get_or bs n 0)) (open_behind q (get_or bs n 0) o) (drop (n + 1) bs)))))
bracket_step q o n bs h =
    ap (λ cs. later n (bracket_length q o cs)) (drop_more bs n 0 h)

pub bracket_hidden : (q : Quoted) (o n : ℕ) (bs : List ℕ) → n < length bs → hides q (get_or bs n 0) ≡ true → length_from q o n bs ≡ None
bracket_hidden q o n bs h e =
    let rest : Option ℕ = bracket_length (quoted_behind q (get_or bs n 0)) (open_behind q (get_or bs n 0) o) (drop (n + 1) bs) in
    bracket_step q o n bs h ∙ ap (λ t. later n (cond t None (cond (open_behind q (get_or bs n 0) o == 0) (Some 1) (option_map suc rest)))) e

pub bracket_more : (q : Quoted) (o n : ℕ) (bs : List ℕ) → n < length bs → hides q (get_or bs n 0) ≡ false → (open_behind q (get_or bs n 0) o ≡ 0 → ⊥) → length_from q o n bs ≡ length_from (quoted_behind q (get_or bs n 0)) (open_behind q (get_or bs n 0) o) (n + 1) bs
bracket_more q o n bs h plain e =
    let rest : Option ℕ = bracket_length (quoted_behind q (get_or bs n 0)) (open_behind q (get_or bs n 0) o) (drop (n + 1) bs) in
    bracket_step q o n bs h ∙ ap (λ t. later n (cond t None (cond (open_behind q (get_or bs n 0) o == 0) (Some 1) (option_map suc rest)))) plain ∙ ap (λ t. later n (cond t (Some 1) (option_map suc rest))) (ne_eqb (open_behind q (get_or bs n 0) o) 0 e) ∙ later_more n rest

pub bracket_here : (q : Quoted) (o n : ℕ) (bs : List ℕ) → n < length bs → hides q (get_or bs n 0) ≡ false → open_behind q (get_or bs n 0) o ≡ 0 → length_from q o n bs ≡ Some (n + 1)
bracket_here q o n bs h plain e =
    let rest : Option ℕ = bracket_length (quoted_behind q (get_or bs n 0)) (open_behind q (get_or bs n 0) o) (drop (n + 1) bs) in
    bracket_step q o n bs h ∙ ap (λ t. later n (cond t None (cond (open_behind q (get_or bs n 0) o == 0) (Some 1) (option_map suc rest)))) plain ∙ ap (λ m. later n (cond (m == 0) (Some 1) (option_map suc rest))) e

pub bracket_never : (q : Quoted) (o n : ℕ) (bs : List ℕ) → length bs ≤ n → length_from q o n bs ≡ None
bracket_never q o n bs h =
    ap (λ cs. later n (bracket_length q o cs)) (drop_all n bs h)

-- ---- whether all in it is silent

skipped_bytes : (q : Quoted) (o i : ℕ) (bs : List ℕ) → all_silent q o i bs ≡ all_silent q o 0 (drop i bs)
skipped_bytes q o zero bs = refl
skipped_bytes q o (suc i) [] = refl
skipped_bytes q o (suc i) (b ∷ bs) = skipped_bytes q o i bs

drop_twice : (n i : ℕ) (bs : List ℕ) → drop i (drop n bs) ≡ drop (n + i) bs
drop_twice n i bs = drop-drop i n bs

abbrev pub silent_from : Quoted → ℕ → ℕ → List ℕ → Bool
silent_from q o n bs = all_silent q o 0 (drop n bs)

abbrev pub word_from : ℕ → List ℕ → List ℕ
word_from n bs = get_or bs n 0 ∷ front goes_on_word (drop (n + 1) bs)

pub byte_more : (q : Quoted) (o n : ℕ) (bs : List ℕ) → n < length bs → is_attribute_at q (get_or bs n 0) o ≡ false → silent_from q o n bs ≡ silent_from (quoted_behind q (get_or bs n 0)) (open_behind q (get_or bs n 0) o) (n + 1) bs
byte_more q o n bs h e =
    ap (all_silent q o 0) (drop_more bs n 0 h) ∙ ap (λ t. cond t ((o == 2) && (is_silent (word_from n bs) && all_silent q o (length (front goes_on_word (drop (n + 1) bs))) (drop (n + 1) bs))) (silent_from (quoted_behind q (get_or bs n 0)) (open_behind q (get_or bs n 0) o) (n + 1) bs)) e

word_first : (q : Quoted) (o n : ℕ) (bs : List ℕ) → n < length bs → is_attribute_at q (get_or bs n 0) o ≡ true → silent_from q o n bs ≡ (o == 2) && (is_silent (word_from n bs) && all_silent q o (length (front goes_on_word (drop (n + 1) bs))) (drop (n + 1) bs))
word_first q o n bs h e =
    ap (all_silent q o 0) (drop_more bs n 0 h) ∙ ap (λ t. cond t ((o == 2) && (is_silent (word_from n bs) && all_silent q o (length (front goes_on_word (drop (n + 1) bs))) (drop (n + 1) bs))) (silent_from (quoted_behind q (get_or bs n 0)) (open_behind q (get_or bs n 0) o) (n + 1) bs)) e

pub word_alone : (q : Quoted) (o n : ℕ) (bs : List ℕ) → n < length bs → is_attribute_at q (get_or bs n 0) o ≡ true → (o ≡ 2 → ⊥) → silent_from q o n bs ≡ false
word_alone q o n bs h e isnt =
    word_first q o n bs h e ∙ ap (λ t. t && (is_silent (word_from n bs) && all_silent q o (length (front goes_on_word (drop (n + 1) bs))) (drop (n + 1) bs))) (ne_eqb o 2 isnt)

pub word_tells : (q : Quoted) (o n : ℕ) (bs : List ℕ) → n < length bs → is_attribute_at q (get_or bs n 0) o ≡ true → o ≡ 2 → is_silent (word_from n bs) ≡ false → silent_from q o n bs ≡ false
word_tells q o n bs h e two f =
    word_first q o n bs h e ∙ ap (λ m. (m == 2) && (is_silent (word_from n bs) && all_silent q o (length (front goes_on_word (drop (n + 1) bs))) (drop (n + 1) bs))) two ∙ ap (λ t. t && all_silent q o (length (front goes_on_word (drop (n + 1) bs))) (drop (n + 1) bs)) f

word_more : (q : Quoted) (o n : ℕ) (bs : List ℕ) → n < length bs → is_attribute_at q (get_or bs n 0) o ≡ true → o ≡ 2 → is_silent (word_from n bs) ≡ true → silent_from q o n bs ≡ silent_from q o (n + 1 + length (front goes_on_word (drop (n + 1) bs))) bs
word_more q o n bs h e two s =
    word_first q o n bs h e ∙ ap (λ m. (m == 2) && (is_silent (word_from n bs) && all_silent q o (length (front goes_on_word (drop (n + 1) bs))) (drop (n + 1) bs))) two ∙ ap (λ t. t && all_silent q o (length (front goes_on_word (drop (n + 1) bs))) (drop (n + 1) bs)) s ∙ skipped_bytes q o (length (front goes_on_word (drop (n + 1) bs))) (drop (n + 1) bs) ∙ ap (all_silent q o 0) (drop_twice (n + 1) (length (front goes_on_word (drop (n + 1) bs))) bs)

-- a turn of the loop over a word of which so many bytes stand behind the first
pub word_goes_on : (q : Quoted) (o n more : ℕ) (bs : List ℕ) → n < length bs → is_attribute_at q (get_or bs n 0) o ≡ true → o ≡ 2 → is_silent (word_from n bs) ≡ true → more ≡ length (front goes_on_word (drop (n + 1) bs)) → silent_from q o n bs ≡ are_silent bs → silent_from q o (n + (1 + more)) bs ≡ are_silent bs
word_goes_on q o n more bs h e two s count same =
    let sum : n + (1 + more) ≡ n + 1 + length (front goes_on_word (drop (n + 1) bs)) = omega (arith, count) in
    ap (λ i. silent_from q o i bs) sum ∙ sym (word_more q o n bs h e two s) ∙ same

pub all_gone : (q : Quoted) (o n : ℕ) (bs : List ℕ) → length bs ≤ n → silent_from q o n bs ≡ true
all_gone q o n bs h = ap (all_silent q o 0) (drop_all n bs h)

-- ---- whether a string stands behind its "("

pub no_string : (bs : List ℕ) → length bs ≡ 0 → false ≡ begins_string bs
no_string [] e = refl
no_string (b ∷ bs) e = absurd (omega (arith, e))
