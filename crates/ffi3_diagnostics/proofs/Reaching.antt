-- What is reached and told, one byte, one word and one kind at a time.
use Rattle.std.proofs.Common.{◌≡◌, ℕ, zero, suc, ◌+◌, ◌-◌, ◌<◌, ◌≤◌, Bool, true, false, List, [], ◌∷◌, ◌++◌, length, get_or, drop, take, ap, sym, refl, subst, ◌∙◌, arith}
use Rattle.std.specs.Prelude.{cond, not, leb, ◌||◌, Option, None, is_some}
use Rattle.std.proofs.lemmas.List.{drop_more, drop_all}
use Rattle.std.proofs.lemmas.Bool.{leb-true, leb-false}
use Rattle.ffi3_cdecl_spec.specs.Tokens.{wide, Sign, Token, type_word, sign_word, const_word, short_word, int_word, long_word, int128_word, char_word, void_word, struct_word, union_word, enum_word, complex_word, attribute_word, other_keyword, name, number, open_round, close_round, open_curly, close_curly, open_square, close_square, comma, semicolon, star, dots, Found, blank, skipped, nothing_known, found, found_in}
use Rattle.ffi3_cdecl_spec.specs.Machine.{State, is_dead, finish}
use Rattle.ffi3_cdecl_spec.specs.OnePass.{keeping}
use Rattle.ffi3_cdecl_spec.specs.Expected as rules
use Rattle.ffi3_cdecl_spec.specs.Expected.{every_kind, a_word, the_end, MOST_TOLD}
use Rattle.ffi3_cdecl_spec.specs.Grammar.{Declaration}
use Rattle.ffi3_cdecl_spec.specs.Reading.{unexpected, IsReadingIn}
use Rattle.ffi3_cdecl_spec.specs.Reasons as reasons
use Rattle.ffi3_cdecl_spec.specs.Reasons.{Base, IsTold}
use Rattle.ffi3_cdecl_spec.specs.Telling.{lives, wants_a_type, could, those, expected, one_lives, specifier_words, Track, behind_base, tracked, sized, reason_of_base, reason_by, reason_at, told_at_end, Reached, reaching, reach, reach_found, nothing_reached, told_found, told_behind, tell}
use Rattle.ffi3_cdecl_spec.proofs.Told.{kept_count, told}
use Rattle.ffi3_diagnostics.specs.declared.expected.Expected.{Expected}
use Rattle.ffi3_diagnostics.specs.declared.track.Base.{Base as CodeBase}
use Rattle.ffi3_diagnostics.specs.declared.track.Track.{Track as CodeTrack}
use Rattle.ffi3_diagnostics.specs.declared.track.Track.TheVariants as tracks
use Rattle.ffi3_diagnostics.specs.ToldOf.{expected_of, kinds_of, track_of}

-- ---- bytes

reach_inside : (c : Sign) (bs : List ℕ) (at inside stop : ℕ) (q : Reached) → at < length bs → at < stop → 0 < inside → reach c (stop - at) inside q (drop at bs) ≡ reach c (stop - (at + 1)) (inside - 1) q (drop (at + 1) bs)
reach_inside c bs at zero stop q h l some = absurd (omega arith)
reach_inside c bs at (suc inside) stop q h l some =
    let n : stop - at ≡ suc (stop - (at + 1)) = omega (arith, l) in
    let e : inside ≡ suc inside - 1 = omega arith in
    ap (λ k. reach c k (suc inside) q (drop at bs)) n ∙ ap (λ cs. reach c (suc (stop - (at + 1))) (suc inside) q cs) (drop_more bs at 0 h) ∙ ap (λ i. reach c (stop - (at + 1)) i q (drop (at + 1) bs)) e

reach_one : (c : Sign) (bs : List ℕ) (at stop : ℕ) (q : Reached) (f : Found) → at < length bs → at < stop → f ≡ found_in wide c (get_or bs at 0) (drop (at + 1) bs) → reach c (stop - at) 0 q (drop at bs) ≡ reach_found f q (λ inside p. reach c (stop - (at + 1)) inside p (drop (at + 1) bs))
reach_one c bs at stop q f h l e =
    let n : stop - at ≡ suc (stop - (at + 1)) = omega (arith, l) in
    ap (λ k. reach c k 0 q (drop at bs)) n ∙ ap (λ cs. reach c (suc (stop - (at + 1))) 0 q cs) (drop_more bs at 0 h) ∙ ap (λ g. reach_found g q (λ inside p. reach c (stop - (at + 1)) inside p (drop (at + 1) bs))) (sym e)

reach_blank : (c : Sign) (bs : List ℕ) (at stop : ℕ) (q : Reached) → at < length bs → at < stop → blank ≡ found_in wide c (get_or bs at 0) (drop (at + 1) bs) → reach c (stop - at) 0 q (drop at bs) ≡ reach c (stop - (at + 1)) 0 q (drop (at + 1) bs)
reach_blank c bs at stop q h l e = reach_one c bs at stop q blank h l e

reach_skipped : (c : Sign) (bs : List ℕ) (at stop : ℕ) (q : Reached) (more : ℕ) → at < length bs → at < stop → skipped more ≡ found_in wide c (get_or bs at 0) (drop (at + 1) bs) → reach c (stop - at) 0 q (drop at bs) ≡ reach c (stop - (at + 1)) more q (drop (at + 1) bs)
reach_skipped c bs at stop q more h l e =
    reach_one c bs at stop q (skipped more) h l e

pub reach_nothing : (c : Sign) (bs : List ℕ) (at stop : ℕ) (q : Reached) → at < length bs → at < stop → nothing_known ≡ found_in wide c (get_or bs at 0) (drop (at + 1) bs) → reach c (stop - at) 0 q (drop at bs) ≡ q
reach_nothing c bs at stop q h l e =
    reach_one c bs at stop q nothing_known h l e

reach_token : (c : Sign) (bs : List ℕ) (at stop : ℕ) (q : Reached) (x : Token) (more : ℕ) → at < length bs → at < stop → found x more ≡ found_in wide c (get_or bs at 0) (drop (at + 1) bs) → reach c (stop - at) 0 q (drop at bs) ≡ reach c (stop - (at + 1)) more (reaching q x) (drop (at + 1) bs)
reach_token c bs at stop q x more h l e =
    reach_one c bs at stop q (found x more) h l e

-- what a turn leaves, where what is reached at the end is as before it
pub turn_inside : (c : Sign) (bs : List ℕ) (at inside more stop : ℕ) (q p all : Reached) → at < length bs → at < stop → 0 < inside → more ≡ inside - 1 → p ≡ q → reach c (stop - at) inside q (drop at bs) ≡ all → reach c (stop - (at + 1)) more p (drop (at + 1) bs) ≡ all
turn_inside c bs at inside more stop q p all h l some e f same =
    ap (λ i. reach c (stop - (at + 1)) i p (drop (at + 1) bs)) e ∙ ap (λ r. reach c (stop - (at + 1)) (inside - 1) r (drop (at + 1) bs)) f ∙ sym (reach_inside c bs at inside stop q h l some) ∙ same

pub turn_blank : (c : Sign) (bs : List ℕ) (at inside more stop : ℕ) (q p all : Reached) → at < length bs → at < stop → inside ≤ 0 → more ≡ inside → p ≡ q → blank ≡ found_in wide c (get_or bs at 0) (drop (at + 1) bs) → reach c (stop - at) inside q (drop at bs) ≡ all → reach c (stop - (at + 1)) more p (drop (at + 1) bs) ≡ all
turn_blank c bs at inside more stop q p all h l none e f g same =
    let z : inside ≡ 0 = omega (arith, none) in
    ap (λ i. reach c (stop - (at + 1)) i p (drop (at + 1) bs)) (e ∙ z) ∙ ap (λ r. reach c (stop - (at + 1)) 0 r (drop (at + 1) bs)) f ∙ sym (reach_blank c bs at stop q h l g) ∙ ap (λ i. reach c (stop - at) i q (drop at bs)) (sym z) ∙ same

pub turn_skipped : (c : Sign) (bs : List ℕ) (at inside more stop n : ℕ) (q p all : Reached) → at < length bs → at < stop → inside ≤ 0 → more ≡ n → p ≡ q → skipped n ≡ found_in wide c (get_or bs at 0) (drop (at + 1) bs) → reach c (stop - at) inside q (drop at bs) ≡ all → reach c (stop - (at + 1)) more p (drop (at + 1) bs) ≡ all
turn_skipped c bs at inside more stop n q p all h l none e f g same =
    let z : inside ≡ 0 = omega (arith, none) in
    ap (λ i. reach c (stop - (at + 1)) i p (drop (at + 1) bs)) e ∙ ap (λ r. reach c (stop - (at + 1)) n r (drop (at + 1) bs)) f ∙ sym (reach_skipped c bs at stop q n h l g) ∙ ap (λ i. reach c (stop - at) i q (drop at bs)) (sym z) ∙ same

pub turn_token : (c : Sign) (bs : List ℕ) (at inside more stop n : ℕ) (x : Token) (q p all : Reached) → at < length bs → at < stop → inside ≤ 0 → more ≡ n → p ≡ reaching q x → found x n ≡ found_in wide c (get_or bs at 0) (drop (at + 1) bs) → reach c (stop - at) inside q (drop at bs) ≡ all → reach c (stop - (at + 1)) more p (drop (at + 1) bs) ≡ all
turn_token c bs at inside more stop n x q p all h l none e f g same =
    let z : inside ≡ 0 = omega (arith, none) in
    ap (λ i. reach c (stop - (at + 1)) i p (drop (at + 1) bs)) e ∙ ap (λ r. reach c (stop - (at + 1)) n r (drop (at + 1) bs)) f ∙ sym (reach_token c bs at stop q x n h l g) ∙ ap (λ i. reach c (stop - at) i q (drop at bs)) (sym z) ∙ same

reach_none : (c : Sign) (n inside : ℕ) (q : Reached) → reach c n inside q [] ≡ q
reach_none c zero inside q = refl
reach_none c (suc n) inside q = refl

-- where it stops, and at the end of the bytes
pub reach_there : (c : Sign) (bs : List ℕ) (at inside stop : ℕ) (q : Reached) → stop ≤ at → reach c (stop - at) inside q (drop at bs) ≡ q
reach_there c bs at inside stop q h =
    let none : stop - at ≡ 0 = omega (arith, h) in
    ap (λ n. reach c n inside q (drop at bs)) none

pub reach_end : (c : Sign) (bs : List ℕ) (at inside stop : ℕ) (q : Reached) → at ≡ length bs → reach c (stop - at) inside q (drop at bs) ≡ q
reach_end c bs at inside stop q h =
    ap (λ cs. reach c (stop - at) inside q cs) (drop_all at bs (omega (arith, h))) ∙ reach_none c (stop - at) inside q

-- ---- a token more

pub kept_lives : (s t : State) (x : Token) (d : Bool) → t ≡ keeping wide s x → d ≡ is_dead t → not d ≡ lives s x
kept_lives s t x d e f =
    ap not f ∙ ap (λ r. not (is_dead r)) e ∙ ap not (kept_count s x)

-- what is reached with one token more
pub reached_with : (s t : State) (y z : Track) (x : Token) → s ≡ keeping wide t x → z ≡ tracked t y x → record { state = s; track = z } ≡ reaching (record { state = t; track = y }) x
reached_with s t y z x e f = λ i. record { state = e i; track = f i }

-- what is said of the state of what is reached
pub lives_reached : (s : State) (y : Track) (q : Reached) (x : Token) (b : Bool) → record { state = s; track = y } ≡ q → b ≡ lives s x → b ≡ lives q.state x
lives_reached s y q x b e f = f ∙ ap (λ (r : Reached). lives r.state x) e

pub type_reached : (s : State) (y : Track) (q : Reached) (b : Bool) → record { state = s; track = y } ≡ q → b ≡ wants_a_type s → b ≡ wants_a_type q.state
type_reached s y q b e f = f ∙ ap (λ (r : Reached). wants_a_type r.state) e

pub end_reached : (s : State) (y : Track) (q : Reached) (d : Option Declaration) (b : Bool) → record { state = s; track = y } ≡ q → d ≡ finish s → b ≡ is_some d → b ≡ could q.state the_end
end_reached s y q d b e f g =
    g ∙ ap (λ o. is_some o) f ∙ ap (λ (r : Reached). is_some (finish r.state)) e

pub reason_by_base : (s : State) (b : Base) (q : Reached) (x : Token) (l : Bool) → record { state = s; track = behind_base b } ≡ q → l ≡ lives (sized s) x → reason_of_base l b ≡ reason_by q.state q.track x
reason_by_base s b q x l e f =
    ap (λ m. reason_of_base m b) f ∙ ap (λ (r : Reached). reason_by r.state r.track x) e

-- where no base was read last
pub reason_without_base : (s : State) (t : CodeTrack) (q : Reached) (x : Token) → record { state = s; track = track_of t } ≡ q → ((b : CodeBase) → t ≡ tracks.BehindBase b → ⊥) → None ≡ reason_by q.state q.track x
reason_without_base s tracks.Nothing q x e none = ap (λ (r : Reached). reason_by r.state r.track x) e
reason_without_base s tracks.BehindStruct q x e none = ap (λ (r : Reached). reason_by r.state r.track x) e
reason_without_base s tracks.BehindUnion q x e none = ap (λ (r : Reached). reason_by r.state r.track x) e
reason_without_base s tracks.BehindEnum q x e none = ap (λ (r : Reached). reason_by r.state r.track x) e
reason_without_base s (tracks.BehindBase b) q x e none = absurd (none b refl)

-- a token that is no attribute and no keyword
pub reason_of_others : (s : State) (y : Track) (x : Token) → (x ≡ attribute_word → ⊥) → (x ≡ other_keyword → ⊥) → reason_at s y x ≡ reason_by s y x
reason_of_others s y (type_word t) a k = refl
reason_of_others s y (sign_word g) a k = refl
reason_of_others s y const_word a k = refl
reason_of_others s y short_word a k = refl
reason_of_others s y int_word a k = refl
reason_of_others s y long_word a k = refl
reason_of_others s y int128_word a k = refl
reason_of_others s y (char_word g) a k = refl
reason_of_others s y void_word a k = refl
reason_of_others s y struct_word a k = refl
reason_of_others s y union_word a k = refl
reason_of_others s y enum_word a k = refl
reason_of_others s y complex_word a k = refl
reason_of_others s y attribute_word a k = absurd (a refl)
reason_of_others s y other_keyword a k = absurd (k refl)
reason_of_others s y (name called) a k = refl
reason_of_others s y (number n) a k = refl
reason_of_others s y open_round a k = refl
reason_of_others s y close_round a k = refl
reason_of_others s y open_curly a k = refl
reason_of_others s y close_curly a k = refl
reason_of_others s y open_square a k = refl
reason_of_others s y close_square a k = refl
reason_of_others s y comma a k = refl
reason_of_others s y semicolon a k = refl
reason_of_others s y star a k = refl
reason_of_others s y dots a k = refl

-- ---- one word after another

or_more : (a b : Bool) → a ≡ true → true ≡ a || b
or_more true b e = refl
or_more false b e = absurd (cc)

or_less : (a b : Bool) → a ≡ false → a || b ≡ b
or_less true b e = absurd (cc)
or_less false b e = refl

words_more : (s : State) (i : ℕ) → i < 11 → one_lives s (drop i specifier_words) ≡ lives s (get_or specifier_words i complex_word) || one_lives s (drop (i + 1) specifier_words)
words_more s i h =
    ap (λ xs. one_lives s xs) (drop_more specifier_words i complex_word h)

pub word_lives : (s : State) (i : ℕ) (x : Token) (b : Bool) → i < 11 → x ≡ get_or specifier_words i complex_word → b ≡ lives s x → b ≡ true → true ≡ one_lives s (drop i specifier_words)
word_lives s i x b h e l live =
    or_more (lives s (get_or specifier_words i complex_word)) (one_lives s (drop (i + 1) specifier_words)) (ap (λ y. lives s y) (sym e) ∙ sym l ∙ live) ∙ sym (words_more s i h)

pub word_dead : (s : State) (i : ℕ) (x : Token) (b : Bool) → i < 11 → x ≡ get_or specifier_words i complex_word → b ≡ lives s x → b ≡ false → one_lives s (drop (i + 1) specifier_words) ≡ one_lives s (drop i specifier_words)
word_dead s i x b h e l none =
    sym (or_less (lives s (get_or specifier_words i complex_word)) (one_lives s (drop (i + 1) specifier_words)) (ap (λ y. lives s y) (sym e) ∙ sym l ∙ none)) ∙ sym (words_more s i h)

pub words_end : (s : State) (i : ℕ) → 11 ≤ i → false ≡ one_lives s (drop i specifier_words)
words_end s i h = ap (λ xs. one_lives s xs) (sym (drop_all i specifier_words h))

-- ---- one kind after another

kind_more : (s : State) (i : ℕ) → i < 15 → those s (drop i every_kind) ≡ cond (could s (get_or every_kind i a_word)) (get_or every_kind i a_word ∷ those s (drop (i + 1) every_kind)) (those s (drop (i + 1) every_kind))
kind_more s i h = ap (λ ks. those s ks) (drop_more every_kind i a_word h)

by_true : {A : Type 0} (b : Bool) (x y : A) → b ≡ true → cond b x y ≡ x
by_true true x y e = refl
by_true false x y e = absurd (cc)

by_false : {A : Type 0} (b : Bool) (x y : A) → b ≡ false → cond b x y ≡ y
by_false true x y e = absurd (cc)
by_false false x y e = refl

-- those of the kinds from this one on that could stand there
unfoldable pub those_from : State → ℕ → List rules.Expected
those_from s i = those s (drop i every_kind)

-- the kinds that are told already, and those that come
abbrev pub with_those : State → List Expected → ℕ → List rules.Expected
with_those s told i = kinds_of told ++ those_from s i

pub no_kind_told : (s : State) (told : List Expected) → told ≡ [] → with_those s told 0 ≡ those_from s 0
no_kind_told s told e = ap (λ ks. with_those s ks 0) e

kinds_push : (told : List Expected) (k : Expected) (more : List rules.Expected) → kinds_of (told ++ k ∷ []) ++ more ≡ kinds_of told ++ (expected_of k ∷ more)
kinds_push [] k more = refl
kinds_push (t ∷ told) k more = ap (λ ks. expected_of t ∷ ks) (kinds_push told k more)

kind_told : (s : State) (i : ℕ) (told new : List Expected) (k : Expected) (b : Bool) → i < 15 → expected_of k ≡ get_or every_kind i a_word → b ≡ could s (expected_of k) → new ≡ cond b (told ++ k ∷ []) told → kinds_of new ++ those s (drop (i + 1) every_kind) ≡ kinds_of told ++ those s (drop i every_kind)
kind_told s i told new k true h e l f =
    let first : could s (get_or every_kind i a_word) ≡ true = ap (λ j. could s j) (sym e) ∙ sym l in
    let here : those s (drop i every_kind) ≡ get_or every_kind i a_word ∷ those s (drop (i + 1) every_kind) = kind_more s i h ∙ by_true (could s (get_or every_kind i a_word)) (get_or every_kind i a_word ∷ those s (drop (i + 1) every_kind)) (those s (drop (i + 1) every_kind)) first in
    ap (λ ks. kinds_of ks ++ those s (drop (i + 1) every_kind)) f ∙ kinds_push told k (those s (drop (i + 1) every_kind)) ∙ ap (λ j. kinds_of told ++ (j ∷ those s (drop (i + 1) every_kind))) e ∙ ap (λ ks. kinds_of told ++ ks) (sym here)
kind_told s i told new k false h e l f =
    let first : could s (get_or every_kind i a_word) ≡ false = ap (λ j. could s j) (sym e) ∙ sym l in
    let here : those s (drop i every_kind) ≡ those s (drop (i + 1) every_kind) = kind_more s i h ∙ by_false (could s (get_or every_kind i a_word)) (get_or every_kind i a_word ∷ those s (drop (i + 1) every_kind)) (those s (drop (i + 1) every_kind)) first in
    ap (λ ks. kinds_of ks ++ those s (drop (i + 1) every_kind)) f ∙ ap (λ ks. kinds_of told ++ ks) (sym here)

pub kind_turn : (s : State) (i : ℕ) (told new : List Expected) (k : Expected) (b : Bool) → i < 15 → expected_of k ≡ get_or every_kind i a_word → b ≡ could s (expected_of k) → new ≡ cond b (told ++ k ∷ []) told → with_those s new (i + 1) ≡ with_those s told i
unfolding those_from
kind_turn s i told new k b h e l f = kind_told s i told new k b h e l f

take_front : (xs ys : List rules.Expected) → take (length xs) (xs ++ ys) ≡ xs
take_front [] ys = refl
take_front (x ∷ xs) ys = ap (λ zs. x ∷ zs) (take_front xs ys)

take_none : (n : ℕ) → take {A = rules.Expected} n [] ≡ []
take_none zero = refl
take_none (suc n) = refl

take_few : (n : ℕ) (xs : List rules.Expected) → length xs ≤ n → take n (xs ++ []) ≡ xs
take_few n [] h = take_none n
take_few zero (x ∷ xs) h = absurd (omega (arith, h))
take_few (suc n) (x ∷ xs) h =
    ap (λ zs. x ∷ zs) (take_few n xs (omega (arith, h)))

kinds_length : (told : List Expected) → length (kinds_of told) ≡ length told
kinds_length [] = refl
kinds_length (t ∷ told) = ap suc (kinds_length told)

length_push : (told : List Expected) (k : Expected) → length (told ++ k ∷ []) ≡ suc (length told)
length_push [] k = refl
length_push (t ∷ told) k = ap suc (length_push told k)

pub still_few : (told new : List Expected) (k : Expected) (b enough : Bool) (n : ℕ) → n ≡ length told → enough ≡ leb MOST_TOLD n → enough ≡ false → new ≡ cond b (told ++ k ∷ []) told → length new ≤ 4
still_few told new k true enough n m l f e =
    let few = leb-false 4 n (sym l ∙ f) in
    let more : length new ≡ suc (length told) = ap (λ ks. length ks) e ∙ length_push told k in
    omega (arith, few, m, more)
still_few told new k false enough n m l f e =
    let few = leb-false 4 n (sym l ∙ f) in
    let same : length new ≡ length told = ap (λ ks. length ks) e in
    omega (arith, few, m, same)

-- where four are told, and where there is no further kind
pub enough_told : (s : State) (told : List Expected) (i n : ℕ) (enough : Bool) → n ≡ length told → enough ≡ leb MOST_TOLD n → enough ≡ true → length told ≤ 4 → with_those s told i ≡ those_from s 0 → kinds_of told ≡ expected s
unfolding those_from
enough_told s told i n enough m l t few e =
    let most = leb-true 4 n (sym l ∙ t) in
    let four : length told ≡ 4 = omega (arith, most, m, few) in
    let long : length (kinds_of told) ≡ 4 = kinds_length told ∙ four in
    sym (take_front (kinds_of told) (those s (drop i every_kind))) ∙ ap (λ j. take j (with_those s told i)) long ∙ ap (λ ks. take 4 ks) e

pub all_told : (s : State) (told : List Expected) (i : ℕ) → 15 ≤ i → length told ≤ 4 → with_those s told i ≡ those_from s 0 → kinds_of told ≡ expected s
unfolding those_from
all_told s told i done few e =
    let none : those s (drop i every_kind) ≡ [] = ap (λ ks. those s ks) (drop_all i every_kind done) in
    let n : length (kinds_of told) ≤ 4 = subst (λ m. m ≤ 4) (sym (kinds_length told)) few in
    sym (take_few 4 (kinds_of told) n) ∙ ap (λ ks. take 4 (kinds_of told ++ ks)) (sym none) ∙ ap (λ ks. take 4 ks) e

-- ---- what is told

module _ (c : Sign) (text : List ℕ) (at : ℕ) where
  abbrev there : Reached
  there = reach c at 0 nothing_reached text

  by_found : (f : Found) → at < length text → f ≡ found_in wide c (get_or text at 0) (drop (at + 1) text) → tell c text at ≡ told_found there f
  by_found f h e =
      ap (λ bs. told_behind c there bs) (drop_more text at 0 h) ∙ ap (λ g. told_found there g) (sym e)

  same_told : (n m : ℕ) (o p : Option reasons.Reason) (ks js : List rules.Expected) → n ≡ m → o ≡ p → ks ≡ js → ◌≡◌ {A = reasons.Told} (record { taken = n; reason = o; expected = ks }) (record { taken = m; reason = p; expected = js })
  same_told n m o p ks js e f g =
      λ i. record { taken = e i; reason = f i; expected = g i }

  pub tell_token : (x : Token) (more n : ℕ) (o : Option reasons.Reason) (ks : List rules.Expected) → at < length text → found x more ≡ found_in wide c (get_or text at 0) (drop (at + 1) text) → n ≡ suc more → o ≡ reason_at there.state there.track x → ks ≡ expected there.state → record { taken = n; reason = o; expected = ks } ≡ tell c text at
  tell_token x more n o ks h e en eo ek =
      same_told n (suc more) o (reason_at there.state there.track x) ks (expected there.state) en eo ek ∙ sym (by_found (found x more) h e)

  at_end_told : (ks : List rules.Expected) → ks ≡ expected there.state → record { taken = 0; reason = None; expected = ks } ≡ told_at_end there.state
  at_end_told ks e = same_told 0 0 None None ks (expected there.state) refl refl e

  pub tell_blank : (ks : List rules.Expected) → at < length text → blank ≡ found_in wide c (get_or text at 0) (drop (at + 1) text) → ks ≡ expected there.state → record { taken = 0; reason = None; expected = ks } ≡ tell c text at
  tell_blank ks h e ek = at_end_told ks ek ∙ sym (by_found blank h e)

  pub tell_skipped : (ks : List rules.Expected) (more : ℕ) → at < length text → skipped more ≡ found_in wide c (get_or text at 0) (drop (at + 1) text) → ks ≡ expected there.state → record { taken = 0; reason = None; expected = ks } ≡ tell c text at
  tell_skipped ks more h e ek =
      at_end_told ks ek ∙ sym (by_found (skipped more) h e)

  pub tell_nothing : (ks : List rules.Expected) → at < length text → nothing_known ≡ found_in wide c (get_or text at 0) (drop (at + 1) text) → ks ≡ expected there.state → record { taken = 0; reason = None; expected = ks } ≡ tell c text at
  tell_nothing ks h e ek = at_end_told ks ek ∙ sym (by_found nothing_known h e)

  pub tell_end : (ks : List rules.Expected) → length text ≤ at → ks ≡ expected there.state → record { taken = 0; reason = None; expected = ks } ≡ tell c text at
  tell_end ks h ek =
      at_end_told ks ek ∙ ap (λ bs. told_behind c there bs) (sym (drop_all at text h))

  pub is_told : (t : reasons.Told) → t ≡ tell c text at → IsReadingIn wide c text (unexpected at) → IsTold c text at t
  is_told t e is = subst (λ u. IsTold c text at u) (sym e) (told c text at is)
