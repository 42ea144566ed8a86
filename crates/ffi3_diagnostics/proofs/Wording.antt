-- Words and lines that are put one after another.
use Rattle.std.proofs.Common.{◌≡◌, ℕ, zero, suc, ◌+◌, ◌-◌, ◌<◌, ◌≤◌, Bool, true, false, cond, min, List, [], ◌∷◌, ◌++◌, length, get_or, drop, take, map, ap, sym, refl, ◌∙◌, append_assoc, append-nil, arith, ne_eqb}
use Rattle.std.specs.Prelude.{◌==◌, ◌&&◌, codes, Some}
use Rattle.std.proofs.lemmas.List.{drop_more, drop_all, length-drop}
use Rattle.ffi3_cdecl_spec.specs.Tokens.{is_blank, front}
use Rattle.ffi3_cdecl_spec.specs.Expected as rules
use Rattle.ffi3_cdecl_spec.specs.Reasons.{Reason, Told}
use Rattle.ffi3_type_spec.specs.Signature.{Position}
use Rattle.ffi3_diagnostics_spec.specs.Positions.{position_name, words_at}
use Rattle.ffi3_diagnostics_spec.specs.ToldText.{kind_words, between, one_of, expected_words, reason_words, why_words, shown, printable, stood_words, told_words, goes_on_line, last_line, without_end, marked_at, goes_on_character, blanks_below, marked_lines, lines_at}
use Rattle.ffi3_diagnostics.specs.declared.expected.Expected.{Expected}
use Rattle.ffi3_diagnostics.specs.ToldOf.{expected_of, kinds_of}
use Rattle.ffi3_cdecl.proofs.Fronts.{front_more, front_stops, front_ends, take-front}

-- ---- kinds

kinds_length : (kinds : List Expected) → length (kinds_of kinds) ≡ length kinds
kinds_length [] = refl
kinds_length (k ∷ kinds) = ap suc (kinds_length kinds)

length_left : (kinds : List Expected) (i : ℕ) → length (drop (i + 1) kinds) ≡ length kinds - i - 1
length_left kinds i =
    let n : length kinds - (i + 1) ≡ length kinds - i - 1 = omega arith in
    length-drop (i + 1) kinds ∙ n

-- one more, of which so many stand behind
pub one_kind : (old out : List ℕ) (kinds : List Expected) (i left : ℕ) (k : Expected) → i < length kinds → k ≡ get_or kinds i k → left ≡ length kinds - i - 1 → out ≡ (old ++ kind_words (expected_of k)) ++ between left → out ++ one_of (kinds_of (drop (i + 1) kinds)) ≡ old ++ one_of (kinds_of (drop i kinds))
one_kind old out kinds i left k h e n f =
    let rest = drop (i + 1) kinds in
    let m : left ≡ length (kinds_of rest) = n ∙ sym (length_left kinds i) ∙ sym (kinds_length rest) in
    let here : drop i kinds ≡ k ∷ rest = drop_more kinds i k h ∙ ap (λ j. j ∷ rest) (sym e) in
    ap (λ ws. ws ++ one_of (kinds_of rest)) f ∙ append_assoc (old ++ kind_words (expected_of k)) (between left) (one_of (kinds_of rest)) ∙ append_assoc old (kind_words (expected_of k)) (between left ++ one_of (kinds_of rest)) ∙ ap (λ j. old ++ (kind_words (expected_of k) ++ (between j ++ one_of (kinds_of rest)))) m ∙ ap (λ js. old ++ one_of (kinds_of js)) (sym here)

pub no_kind : (out : List ℕ) (kinds : List Expected) (i : ℕ) → length kinds ≤ i → out ++ one_of (kinds_of (drop i kinds)) ≡ out
no_kind out kinds i h =
    ap (λ js. out ++ one_of (kinds_of js)) (drop_all i kinds h) ∙ append-nil out

pub none_expected : (out : List ℕ) (kinds : List Expected) → length kinds ≡ 0 → out ≡ out ++ expected_words (kinds_of kinds)
none_expected out [] h = sym (append-nil out)
none_expected out (k ∷ kinds) h = absurd (omega (arith, h))

pub some_expected : (old now new : List ℕ) (kinds : List Expected) → (length kinds ≡ 0 → ⊥) → now ≡ old ++ codes ", expected " → new ≡ now ++ one_of (kinds_of kinds) → new ≡ old ++ expected_words (kinds_of kinds)
some_expected old now new [] h e f = absurd (h refl)
some_expected old now new (k ∷ kinds) h e f =
    f ∙ ap (λ ws. ws ++ one_of (kinds_of (k ∷ kinds))) e ∙ append_assoc old (codes ", expected ") (one_of (kinds_of (k ∷ kinds)))

-- ---- words one after another

pub three_words : (old a b new first second third : List ℕ) → a ≡ old ++ first → b ≡ a ++ second → new ≡ b ++ third → new ≡ old ++ (first ++ (second ++ third))
three_words old a b new first second third e f g =
    g ∙ ap (λ ws. ws ++ third) (f ∙ ap (λ ws. ws ++ second) e ∙ append_assoc old first second) ∙ append_assoc old (first ++ second) third ∙ ap (λ ws. old ++ ws) (append_assoc first second third)

pub named_value : (p : Position) (name said told words : List ℕ) → name ≡ position_name p → said ≡ name ++ codes ": " → told ≡ said ++ words → told ≡ words_at p words
named_value p name said told words e f g =
    g ∙ ap (λ ws. ws ++ words) (f ∙ ap (λ ws. ws ++ codes ": ") e) ∙ append_assoc (position_name p) (codes ": ") words

pub some_reason : (old now new : List ℕ) (why : Reason) (kinds : List rules.Expected) → now ≡ old ++ codes ": " → new ≡ now ++ reason_words why → new ≡ old ++ why_words (Some why) kinds
some_reason old now new why kinds e f =
    f ∙ ap (λ ws. ws ++ reason_words why) e ∙ append_assoc old (codes ": ") (reason_words why)

mapped_more : (g : ℕ → ℕ) (old out bs : List ℕ) (i b : ℕ) → i < length bs → b ≡ g (get_or bs i 0) → out ≡ old ++ b ∷ [] → out ++ map g (drop (i + 1) bs) ≡ old ++ map g (drop i bs)
mapped_more g old out bs i b h e f =
    let rest = map g (drop (i + 1) bs) in
    ap (λ ws. ws ++ rest) f ∙ append_assoc old (b ∷ []) rest ∙ ap (λ c. old ++ (c ∷ rest)) e ∙ ap (λ cs. old ++ map g cs) (sym (drop_more bs i 0 h))

mapped_end : (g : ℕ → ℕ) (out bs : List ℕ) (i : ℕ) → length bs ≤ i → out ++ map g (drop i bs) ≡ out
mapped_end g out bs i h =
    ap (λ cs. out ++ map g cs) (drop_all i bs h) ∙ append-nil out

pub shown_more : (old out bs : List ℕ) (i b : ℕ) → i < length bs → b ≡ shown (get_or bs i 0) → out ≡ old ++ b ∷ [] → out ++ map shown (drop (i + 1) bs) ≡ old ++ map shown (drop i bs)
shown_more old out bs i b h e f = mapped_more shown old out bs i b h e f

pub shown_end : (out bs : List ℕ) (i : ℕ) → length bs ≤ i → out ++ map shown (drop i bs) ≡ out
shown_end out bs i h = mapped_end shown out bs i h

pub printable_more : (old out bs : List ℕ) (i b : ℕ) → i < length bs → b ≡ printable (get_or bs i 0) → out ≡ old ++ b ∷ [] → out ++ map printable (drop (i + 1) bs) ≡ old ++ map printable (drop i bs)
printable_more old out bs i b h e f = mapped_more printable old out bs i b h e f

pub printable_end : (out bs : List ℕ) (i : ℕ) → length bs ≤ i → out ++ map printable (drop i bs) ≡ out
printable_end out bs i h = mapped_end printable out bs i h

pub end_stood : (old out rest : List ℕ) (taken : ℕ) → taken ≡ 0 → out ≡ old ++ codes "end" → out ≡ old ++ stood_words taken rest
end_stood old out rest zero e f = f
end_stood old out rest (suc n) e f = absurd (omega (arith, e))

pub token_stood : (old a b new rest : List ℕ) (taken : ℕ) → (taken ≡ 0 → ⊥) → a ≡ old ++ codes "'" → b ≡ a ++ map printable (take (min taken 40) rest) → new ≡ b ++ codes "'" → new ≡ old ++ stood_words taken rest
token_stood old a b new rest zero h e f g = absurd (h refl)
token_stood old a b new rest (suc n) h e f g =
    three_words old a b new (codes "'") (map printable (take (min (suc n) 40) rest)) (codes "'") e f g

pub all_words : (a b new text : List ℕ) (at : ℕ) (t : Told) → a ≡ codes "unexpected " → b ≡ a ++ stood_words t.taken (drop at text) → new ≡ b ++ why_words t.reason t.expected → new ≡ told_words text at t
all_words a b new text at t e f g =
    g ∙ ap (λ ws. ws ++ why_words t.reason t.expected) (f ∙ ap (λ ws. ws ++ stood_words t.taken (drop at text)) e) ∙ append_assoc (codes "unexpected ") (stood_words t.taken (drop at text)) (why_words t.reason t.expected)

-- ---- parts of a text

pub all_taken : (bs : List ℕ) (n : ℕ) → length bs < n → bs ≡ take n bs
all_taken [] zero h = refl
all_taken [] (suc n) h = refl
all_taken (b ∷ bs) zero h = absurd (omega (arith, h))
all_taken (b ∷ bs) (suc n) h =
    ap (λ cs. b ∷ cs) (all_taken bs n (omega (arith, h)))

pub none_left : (bs : List ℕ) (n : ℕ) → length bs < n → [] ≡ drop n bs
none_left bs n h = sym (drop_all n bs (omega (arith, h)))

-- ---- the line

pub line_more : (line new bs : List ℕ) (i : ℕ) → i < length bs → goes_on_line (get_or bs i 0) ≡ true → new ≡ line ++ get_or bs i 0 ∷ [] → last_line new (drop (i + 1) bs) ≡ last_line line (drop i bs)
line_more line new bs i h e f =
    let b = get_or bs i 0 in
    let rest = drop (i + 1) bs in
    ap (λ ws. last_line ws rest) f ∙ ap (λ t. last_line (cond t (line ++ b ∷ []) []) rest) (sym e) ∙ ap (λ cs. last_line line cs) (sym (drop_more bs i 0 h))

pub line_begins : (line new bs : List ℕ) (i : ℕ) → i < length bs → goes_on_line (get_or bs i 0) ≡ false → new ≡ [] → last_line new (drop (i + 1) bs) ≡ last_line line (drop i bs)
line_begins line new bs i h e f =
    let b = get_or bs i 0 in
    let rest = drop (i + 1) bs in
    ap (λ ws. last_line ws rest) f ∙ ap (λ t. last_line (cond t (line ++ b ∷ []) []) rest) (sym e) ∙ ap (λ cs. last_line line cs) (sym (drop_more bs i 0 h))

pub line_end : (line bs : List ℕ) (i : ℕ) → length bs ≤ i → last_line line (drop i bs) ≡ line
line_end line bs i h = ap (λ cs. last_line line cs) (drop_all i bs h)

pub on_line_more : (bs : List ℕ) (n : ℕ) → n < length bs → goes_on_line (get_or bs n 0) ≡ true → length (front goes_on_line (drop n bs)) ≡ length (front goes_on_line (drop (n + 1) bs)) + 1
on_line_more bs n h e = front_more goes_on_line bs n h e

pub on_line_stops : (bs : List ℕ) (n : ℕ) → n < length bs → goes_on_line (get_or bs n 0) ≡ false → length (front goes_on_line (drop n bs)) ≡ 0
on_line_stops bs n h e = front_stops goes_on_line bs n h e

pub on_line_ends : (bs : List ℕ) (n : ℕ) → length bs ≤ n → length (front goes_on_line (drop n bs)) ≡ 0
on_line_ends bs n h = front_ends goes_on_line bs n h

-- ---- the end without its blanks

-- how many bytes stand before the blanks at the end, where the last that is none stood before this place, or so many from it on
abbrev pub whole_end : ℕ → ℕ → ℕ → ℕ
whole_end end i zero = end
whole_end end i (suc n) = i + suc n

pub from_nothing : (n : ℕ) → whole_end 0 0 n ≡ n
from_nothing zero = refl
from_nothing (suc n) = omega arith

goes_to_solid : (end new i n : ℕ) (b : Bool) → b ≡ false → new ≡ i + 1 → whole_end new (i + 1) n ≡ whole_end end i (cond (b && (n == 0)) 0 (suc n))
goes_to_solid end new i n true e f = absurd (cc)
goes_to_solid end new i zero false e f = f
goes_to_solid end new i (suc n) false e f = omega arith

goes_to_blank : (end i n : ℕ) (b : Bool) → b ≡ true → whole_end end (i + 1) n ≡ whole_end end i (cond (b && (n == 0)) 0 (suc n))
goes_to_blank end i n false e = absurd (cc)
goes_to_blank end i zero true e = refl
goes_to_blank end i (suc n) true e =
    let more : (suc n == 0) ≡ false = ne_eqb (suc n) 0 (λ none. absurd (omega (arith, none))) in
    let same : i + 1 + suc n ≡ i + suc (suc n) = omega arith in
    same ∙ ap (λ t. whole_end end i (cond (true && t) 0 (suc (suc n)))) (sym more)

pub solid_more : (bs : List ℕ) (i end new : ℕ) → i < length bs → is_blank (get_or bs i 0) ≡ false → new ≡ i + 1 → whole_end new (i + 1) (without_end (drop (i + 1) bs)) ≡ whole_end end i (without_end (drop i bs))
solid_more bs i end new h e f =
    goes_to_solid end new i (without_end (drop (i + 1) bs)) (is_blank (get_or bs i 0)) e f ∙ ap (λ cs. whole_end end i (without_end cs)) (sym (drop_more bs i 0 h))

pub blank_more : (bs : List ℕ) (i end : ℕ) → i < length bs → is_blank (get_or bs i 0) ≡ true → whole_end end (i + 1) (without_end (drop (i + 1) bs)) ≡ whole_end end i (without_end (drop i bs))
blank_more bs i end h e =
    goes_to_blank end i (without_end (drop (i + 1) bs)) (is_blank (get_or bs i 0)) e ∙ ap (λ cs. whole_end end i (without_end cs)) (sym (drop_more bs i 0 h))

pub solid_end : (bs : List ℕ) (i end : ℕ) → length bs ≤ i → whole_end end i (without_end (drop i bs)) ≡ end
solid_end bs i end h =
    ap (λ cs. whole_end end i (without_end cs)) (drop_all i bs h)

-- ---- the mark

pub blank_below : (old out bs : List ℕ) (i : ℕ) → i < length bs → goes_on_character (get_or bs i 0) ≡ false → out ≡ old ++ 32 ∷ [] → out ++ blanks_below (drop (i + 1) bs) ≡ old ++ blanks_below (drop i bs)
blank_below old out bs i h e f =
    let rest = blanks_below (drop (i + 1) bs) in
    ap (λ ws. ws ++ rest) f ∙ append_assoc old (32 ∷ []) rest ∙ ap (λ t. old ++ cond t rest (32 ∷ rest)) (sym e) ∙ ap (λ cs. old ++ blanks_below cs) (sym (drop_more bs i 0 h))

pub no_blank_below : (out bs : List ℕ) (i : ℕ) → i < length bs → goes_on_character (get_or bs i 0) ≡ true → out ++ blanks_below (drop (i + 1) bs) ≡ out ++ blanks_below (drop i bs)
no_blank_below out bs i h e =
    let rest = blanks_below (drop (i + 1) bs) in
    ap (λ t. out ++ cond t rest (32 ∷ rest)) (sym e) ∙ ap (λ cs. out ++ blanks_below cs) (sym (drop_more bs i 0 h))

pub below_end : (out bs : List ℕ) (i : ℕ) → length bs ≤ i → out ++ blanks_below (drop i bs) ≡ out
below_end out bs i h =
    ap (λ cs. out ++ blanks_below cs) (drop_all i bs h) ∙ append-nil out

pub all_marked : (a b c d e new before behind : List ℕ) (n : ℕ) → a ≡ [] → b ≡ a ++ map shown before → n ≡ length (front goes_on_line behind) → c ≡ b ++ map shown (take n behind) → d ≡ c ++ 10 ∷ [] → e ≡ d ++ blanks_below before → new ≡ e ++ codes "^\n" → new ≡ marked_lines before behind
all_marked a b c d e new before behind n ea eb en ec ed ee ef =
    let line = map shown before in
    let more = map shown (front goes_on_line behind) in
    let there : c ≡ line ++ more = ec ∙ ap (λ ws. ws ++ map shown (take n behind)) (eb ∙ ap (λ ws. ws ++ line) ea) ∙ ap (λ m. line ++ map shown (take m behind)) en ∙ ap (λ cs. line ++ map shown cs) (take-front goes_on_line behind) in
    let below = blanks_below before in
    three_words c d e new (10 ∷ []) below (94 ∷ 10 ∷ []) ed ee ef ∙ ap (λ ws. ws ++ (10 ∷ (below ++ (94 ∷ 10 ∷ [])))) there ∙ append_assoc line more (10 ∷ (below ++ (94 ∷ 10 ∷ [])))

pub line_there : (text before lines : List ℕ) (at place : ℕ) → place ≡ marked_at text at → before ≡ last_line [] (take place text) → lines ≡ marked_lines before (drop place text) → lines ≡ lines_at text at
line_there text before lines at place e f g =
    g ∙ ap (λ ws. marked_lines ws (drop place text)) f ∙ ap (λ p. marked_lines (last_line [] (take p text)) (drop p text)) e
