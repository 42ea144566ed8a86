-- What is told of a text is what the definition says.
use Rattle.std.proofs.Common.{◌≡◌, ℕ, zero, suc, ◌+◌, ◌≤◌, List, [], ◌∷◌, ◌++◌, length, take, drop, Option, Some, None, refl, ap, sym, subst, ◌∙◌, append_assoc, append-nil, arith}
use Rattle.std.specs.Prelude.{⊤, cond, not, ◌&&◌, ◌||◌, is_some}
use Rattle.ffi3_type_spec.specs.Tree.{Tree}
use Rattle.ffi3_cdecl_spec.specs.Tokens.{wide, Sign, Token, struct_word, union_word, enum_word, attribute_word, other_keyword, name, number, open_round, Found, blank, skipped, nothing_known, found, found_in, Placed, Cut, tokens, bad_at, cut_in, cut_from, before, bytes_more}
use Rattle.ffi3_cdecl_spec.specs.Grammar.{Declaration}
use Rattle.ffi3_cdecl_spec.specs.Reading.{IsUnexpected, tokens_of, begins_at, unexpected, IsReadingIn, has_unexpected}
use Rattle.ffi3_cdecl_spec.specs.Machine.{State, wants_count, member_bound, step, after, begun, is_dead, finish}
use Rattle.ffi3_cdecl_spec.specs.OnePass.{keeping}
use Rattle.ffi3_cdecl_spec.specs.Expected.{Expected, a_type, a_name, a_number, the_end, a_word, every_kind, sample, MOST_TOLD, AreExpected}
use Rattle.ffi3_cdecl_spec.specs.Reasons.{Reason, IsReasonOf, token_length, Told, IsTold}
use Rattle.ffi3_cdecl_spec.specs.Telling.{lives, wants_a_type, specifier_words, one_lives, could, those, expected, Track, no_track, behind_struct, behind_union, behind_enum, behind_base, name_behind_base, bracket_behind_base, tracked, sized, reason_of_base, reason_by, reason_at, Reached, reaching, reach_found, reach, nothing_reached, told_found, told_behind, tell}
use Rattle.ffi3_cdecl_spec.specs.FaultLaws.{FaultLaws}
use Rattle.ffi3_cdecl_spec.proofs.Kept.{TakenToken, results, SameState, both_want_type, both_want_base, both_opened, both_comma, both_after_member, both_list, both_list_comma, both_struct, both_want_tag, both_struct_tag, both_declarator, both_round, both_itself, both_whole, both_dead, SameEnd, end_same, dead_same, step_same}
use Rattle.ffi3_cdecl_spec.proofs.Ways.{after-append}
use Rattle.ffi3_cdecl_spec.proofs.Expecting.{are_expected, of_a_kind}
use Rattle.ffi3_cdecl_spec.proofs.Tracking.{Follows, follows_on, reason_is}

-- ---- states that differ in types and counts alone

-- whatever types and counts are
abbrev Any : ℕ → Type 0
Any n = ⊤

abbrev AnyTypes : Tree → Tree → Type 0
AnyTypes t u = ⊤

abbrev AnyCounts : List ℕ → List ℕ → Type 0
AnyCounts ns ms = ⊤

any_taken : (t : Token) → TakenToken Any t
any_taken (number n) = tt
any_taken x = tt

abbrev SomeStates : State → State → Type 0
SomeStates s t = SameState Any AnyTypes AnyCounts s t

some_step : {s t : State} → SomeStates s t → (x : Token) → SomeStates (step wide s x) (keeping wide t x)
some_step h x =
    step_same Any AnyTypes AnyCounts (λ t. tt) (λ ts us all. tt) tt (λ n ns ms taken same. tt) (λ ns ms t u c same. tt) wide h x (any_taken x)

pub kept_count : (t : State) (x : Token) → is_dead (keeping wide t x) ≡ is_dead (step wide t x)
kept_count (wants_count t ns ts w) (number n) = refl
kept_count (wants_count t ns ts w) x = refl
kept_count (member_bound b ts w) (number n) = refl
kept_count (member_bound b ts w) x = refl
kept_count t x = refl

dead_alike : {s t : State} → SomeStates s t → (x : Token) → is_dead (step wide s x) ≡ is_dead (keeping wide t x)
dead_alike h x = dead_same Any AnyTypes AnyCounts (some_step h x)

lives_alike : {s t : State} → SomeStates s t → (x : Token) → lives s x ≡ lives t x
lives_alike {t = t} h x = ap not (dead_alike h x ∙ kept_count t x)

some_alike : (o p : Option Declaration) → SameEnd Any AnyTypes AnyCounts o p → is_some o ≡ is_some p
some_alike None None same = refl
some_alike (Some d) (Some e) same = refl
some_alike _ _ same = absurd same

type_alike : {s t : State} → SomeStates s t → wants_a_type s ≡ wants_a_type t
type_alike (both_want_type p) = refl
type_alike (both_want_base p) = refl
type_alike (both_opened h) = refl
type_alike (both_comma h all) = refl
type_alike (both_after_member all p) = refl
type_alike (both_list u) = refl
type_alike (both_list_comma u) = refl
type_alike same = refl

one_alike : {s t : State} → SomeStates s t → (xs : List Token) → one_lives s xs ≡ one_lives t xs
one_alike h [] = refl
one_alike {s = s} {t = t} h (x ∷ xs) =
    ap (λ b. b || one_lives s xs) (lives_alike h x) ∙ ap (λ b. lives t x || b) (one_alike h xs)

could_alike : {s t : State} → SomeStates s t → (k : Expected) → could s k ≡ could t k
could_alike h a_type = type_alike h
could_alike {s = s} {t = t} h a_name =
    ap (λ b. b && not (wants_a_type s)) (lives_alike h (name [])) ∙ ap (λ b. lives t (name []) && not b) (type_alike h)
could_alike h a_number = lives_alike h (number 0)
could_alike {s = s} {t = t} h the_end =
    some_alike (finish s) (finish t) (end_same Any AnyTypes AnyCounts h)
could_alike {s = s} {t = t} h a_word =
    ap (λ b. b && not (wants_a_type s)) (one_alike h specifier_words) ∙ ap (λ b. one_lives t specifier_words && not b) (type_alike h)
could_alike h k = lives_alike h (sample k)

those_alike : {s t : State} → SomeStates s t → (ks : List Expected) → those s ks ≡ those t ks
those_alike h [] = refl
those_alike {s = s} {t = t} h (k ∷ ks) =
    ap (λ b. cond b (k ∷ those s ks) (those s ks)) (could_alike h k) ∙ ap (λ told. cond (could t k) (k ∷ told) told) (those_alike h ks)

expected_alike : {s t : State} → SomeStates s t → expected s ≡ expected t
expected_alike h = ap (take MOST_TOLD) (those_alike h every_kind)

sized_alike : {s t : State} → SomeStates s t → SomeStates (sized s) (sized t)
sized_alike (both_struct p) = both_declarator (both_whole tt) p
sized_alike (both_want_tag p) = both_declarator (both_whole tt) p
sized_alike (both_struct_tag p) = both_declarator (both_whole tt) p
sized_alike (both_declarator k p) = both_declarator (both_whole tt) p
sized_alike (both_round k p) = both_round (both_whole tt) p
sized_alike (both_itself k h all) = both_itself (both_whole tt) h all
sized_alike same = both_dead

reason_by_alike : {s t : State} → SomeStates s t → (y : Track) (x : Token) → reason_by s y x ≡ reason_by t y x
reason_by_alike h (behind_base b) x =
    ap (λ l. reason_of_base l b) (lives_alike (sized_alike h) x)
reason_by_alike h y x = refl

reason_alike : {s t : State} → SomeStates s t → (y : Track) (x : Token) → reason_at s y x ≡ reason_at t y x
reason_alike h y attribute_word = refl
reason_alike h y other_keyword = refl
reason_alike h y x = reason_by_alike h y x

name_tracked : {s t : State} → SomeStates s t → (y : Track) (called : List ℕ) → name_behind_base s y called ≡ name_behind_base t y called
name_tracked (both_struct p) y called = refl
name_tracked (both_want_tag p) y called = refl
name_tracked (both_struct_tag p) y called = refl
name_tracked (both_declarator k p) y called = refl
name_tracked same y called = refl

bracket_tracked : {s t : State} → SomeStates s t → (y : Track) → bracket_behind_base s y ≡ bracket_behind_base t y
bracket_tracked (both_struct_tag p) y = refl
bracket_tracked (both_declarator k p) y = refl
bracket_tracked (both_round k p) y = refl
bracket_tracked same y = refl

tracked_alike : {s t : State} → SomeStates s t → (y : Track) (x : Token) → tracked s y x ≡ tracked t y x
tracked_alike h y struct_word = ap (λ b. cond b behind_struct no_track) (type_alike h)
tracked_alike h y union_word = ap (λ b. cond b behind_union no_track) (type_alike h)
tracked_alike h y enum_word = ap (λ b. cond b behind_enum no_track) (type_alike h)
tracked_alike h y (name called) = name_tracked h y called
tracked_alike h y open_round = bracket_tracked h y
tracked_alike h y x = refl

-- ---- over the tokens

-- what is kept beside the state behind these tokens
abbrev track_after : State → Track → List Token → Track
track_after s y [] = y
track_after s y (x ∷ xs) =
    track_after (step wide s x) (tracked s y x) xs

abbrev reason_of_rest : State → Track → List Token → Option Reason
reason_of_rest s y [] = None
reason_of_rest s y (x ∷ xs) = reason_at s y x

follows_all : (start : List Token) (s : State) (y : Track) (xs : List Token) → after wide begun start ≡ s → Follows start s y → Follows (start ++ xs) (after wide s xs) (track_after s y xs)
follows_all start s y [] e f =
    subst (λ ts. Follows ts s y) (sym (append-nil start)) f
follows_all start s y (x ∷ xs) e f =
    subst (λ ts. Follows ts (after wide (step wide s x) xs) (track_after (step wide s x) (tracked s y x) xs)) (append_assoc start (x ∷ []) xs) (follows_all (start ++ x ∷ []) (step wide s x) (tracked s y x) xs (after-append wide begun start (x ∷ []) ∙ ap (λ r. step wide r x) e) (follows_on start s y x e f))

-- ---- over the bytes

tokens_same : (ps qs : List Placed) → tokens ps ≡ tokens qs → ps ≡ qs
tokens_same ps qs e = cc

no_tokens : (at : ℕ) (ps : List Placed) → bad_at at ≡ tokens ps → ⊥
no_tokens at ps e = cc

first_same : (p q : Placed) (ps qs : List Placed) → p ∷ ps ≡ q ∷ qs → (p ≡ q) × (ps ≡ qs)
first_same p q ps qs e = (cc, cc)

none_is_some : (p : Placed) (ps : List Placed) → [] ≡ p ∷ ps → ⊥
none_is_some p ps e = cc

module _ (c : Sign) where
  -- tokens do not stand before the bytes that they are cut from
  abbrev StandLater : List ℕ → ℕ → Type 0
  StandLater bs end =
      (at inside : ℕ) (front rest : List Placed) → at + length bs ≡ end → cut_from wide c at inside bs ≡ tokens (front ++ rest) → at ≤ begins_at end rest

  later_token : (bs : List ℕ) (at : ℕ) (x : Token) (n end : ℕ) (front rest : List Placed) (behind : Cut) → StandLater bs end → cut_from wide c (at + 1) n bs ≡ behind → at + suc (length bs) ≡ end → before (found x n) at behind ≡ tokens (front ++ rest) → at ≤ begins_at end rest
  later_token bs at x n end front rest (bad_at there) r g l e =
      absurd (no_tokens there (front ++ rest) e)
  later_token bs at x n end [] [] (tokens ts) r g l e =
      absurd (none_is_some (record { at = at; token = x }) ts (sym (tokens_same (record { at = at; token = x } ∷ ts) [] e)))
  later_token bs at x n end [] (p ∷ rest) (tokens ts) r g l e =
      let same = first_same (record { at = at; token = x }) p ts rest (tokens_same (record { at = at; token = x } ∷ ts) (p ∷ rest) e) in
      let here : at ≡ p.at = ap (λ (q : Placed). q.at) same.0 in
      omega (arith, here)
  later_token bs at x n end (p ∷ front) rest (tokens ts) r g l e =
      let same = first_same (record { at = at; token = x }) p ts (front ++ rest) (tokens_same (record { at = at; token = x } ∷ ts) (p ∷ (front ++ rest)) e) in
      let more = r (at + 1) n front rest (omega (arith, l)) (g ∙ ap tokens same.1) in
      omega (arith, more)

  later_found : (bs : List ℕ) (at : ℕ) (f : Found) (end : ℕ) (front rest : List Placed) → StandLater bs end → at + suc (length bs) ≡ end → before f at (cut_from wide c (at + 1) (bytes_more f) bs) ≡ tokens (front ++ rest) → at ≤ begins_at end rest
  later_found bs at blank end front rest r l e =
      let more = r (at + 1) 0 front rest (omega (arith, l)) e in
      omega (arith, more)
  later_found bs at (skipped n) end front rest r l e =
      let more = r (at + 1) n front rest (omega (arith, l)) e in
      omega (arith, more)
  later_found bs at nothing_known end front rest r l e =
      absurd (no_tokens at (front ++ rest) e)
  later_found bs at (found x n) end front rest r l e =
      later_token bs at x n end front rest (cut_from wide c (at + 1) n bs) r refl l e

  later : (bs : List ℕ) (end : ℕ) → StandLater bs end
  later [] end at inside [] [] l e = omega (arith, l)
  later [] end at inside [] (p ∷ rest) l e =
      absurd (none_is_some p rest (tokens_same [] (p ∷ rest) e))
  later [] end at inside (p ∷ front) rest l e =
      absurd (none_is_some p (front ++ rest) (tokens_same [] (p ∷ (front ++ rest)) e))
  later (b ∷ bs) end at zero front rest l e =
      later_found bs at (found_in wide c b bs) end front rest (later bs end) l e
  later (b ∷ bs) end at (suc inside) front rest l e =
      let more = later bs end (at + 1) inside front rest (omega (arith, l)) e in
      omega (arith, more)

  -- what stands at the front of the bytes that are left
  abbrev Stands : List ℕ → List Placed → Type 0
  Stands left [] = left ≡ []
  Stands left (p ∷ ps) =
      (b : ℕ) × (bs : List ℕ) × (more : ℕ) × (left ≡ b ∷ bs) × (found_in wide c b bs ≡ found p.token more)

  record Reaches (q : Reached) (s : State) (y : Track) (left : List ℕ) (rest : List Placed) : Type 0 where
    same_state : SomeStates s q.state
    same_track : q.track ≡ y
    stands : Stands left rest

  abbrev at_state : State → Track → Reached
  at_state t y = record { state = t; track = y }

  -- the bytes up to a place lead to the state behind the tokens in front of it
  abbrev Walks : List ℕ → ℕ → Type 0
  Walks bs end =
      (at inside n : ℕ) (s t : State) (y : Track) (start rest : List Placed) → at + n ≡ begins_at end rest → at + length bs ≡ end → cut_from wide c at inside bs ≡ tokens (start ++ rest) → SomeStates s t → Reaches (reach c n inside (at_state t y) bs) (after wide s (tokens_of start)) (track_after s y (tokens_of start)) (drop n bs) rest

  walk_token : (b : ℕ) (bs : List ℕ) (at : ℕ) (x : Token) (m n end : ℕ) (s t : State) (y : Track) (start rest : List Placed) (behind : Cut) → Walks bs end → cut_from wide c (at + 1) m bs ≡ behind → found_in wide c b bs ≡ found x m → at + n ≡ begins_at end rest → at + suc (length bs) ≡ end → before (found x m) at behind ≡ tokens (start ++ rest) → SomeStates s t → Reaches (reach c n 0 (at_state t y) (b ∷ bs)) (after wide s (tokens_of start)) (track_after s y (tokens_of start)) (drop n (b ∷ bs)) rest
  walk_token b bs at x m n end s t y start rest (bad_at there) r g f k l e h =
      absurd (no_tokens there (start ++ rest) e)
  walk_token b bs at x m n end s t y [] [] (tokens ts) r g f k l e h =
      absurd (none_is_some (record { at = at; token = x }) ts (sym (tokens_same (record { at = at; token = x } ∷ ts) [] e)))
  walk_token b bs at x m zero end s t y [] (p ∷ rest) (tokens ts) r g f k l e h =
      let same = first_same (record { at = at; token = x }) p ts rest (tokens_same (record { at = at; token = x } ∷ ts) (p ∷ rest) e) in
      record { same_state = h; same_track = refl; stands = (b, bs, m, refl, f ∙ ap (λ (q : Placed). found q.token m) same.0) }
  walk_token b bs at x m (suc n) end s t y [] (p ∷ rest) (tokens ts) r g f k l e h =
      let same = first_same (record { at = at; token = x }) p ts rest (tokens_same (record { at = at; token = x } ∷ ts) (p ∷ rest) e) in
      let here : at ≡ p.at = ap (λ (q : Placed). q.at) same.0 in
      absurd (omega (arith, here, k))
  walk_token b bs at x m zero end s t y (p ∷ start) rest (tokens ts) r g f k l e h =
      let same = first_same (record { at = at; token = x }) p ts (start ++ rest) (tokens_same (record { at = at; token = x } ∷ ts) (p ∷ (start ++ rest)) e) in
      let more = later bs end (at + 1) m start rest (omega (arith, l)) (g ∙ ap tokens same.1) in
      absurd (omega (arith, more, k))
  walk_token b bs at x m (suc n) end s t y (p ∷ start) rest (tokens ts) r g f k l e h =
      let same = first_same (record { at = at; token = x }) p ts (start ++ rest) (tokens_same (record { at = at; token = x } ∷ ts) (p ∷ (start ++ rest)) e) in
      let token : x ≡ p.token = ap (λ (q : Placed). q.token) same.0 in
      let Goal = λ (q : Reached). Reaches q (after wide (step wide s p.token) (tokens_of start)) (track_after (step wide s p.token) (tracked s y p.token) (tokens_of start)) (drop n bs) rest in
      let on : Goal (reach c n m (at_state (keeping wide t p.token) (tracked s y p.token)) bs) = r (at + 1) m n (step wide s p.token) (keeping wide t p.token) (tracked s y p.token) start rest (omega (arith, k)) (omega (arith, l)) (g ∙ ap tokens same.1) (some_step h p.token) in
      let kept : Goal (reach c n m (reaching (at_state t y) p.token) bs) = subst (λ z. Goal (reach c n m (at_state (keeping wide t p.token) z) bs)) (tracked_alike h y p.token) on in
      let there : Goal (reach c n m (reaching (at_state t y) x) bs) = subst (λ z. Goal (reach c n m (reaching (at_state t y) z) bs)) (sym token) kept in
      subst (λ z. Goal (reach_found z (at_state t y) (λ inside p. reach c n inside p bs))) (sym f) there

  walk_found : (b : ℕ) (bs : List ℕ) (at : ℕ) (f : Found) (n end : ℕ) (s t : State) (y : Track) (start rest : List Placed) → Walks bs end → found_in wide c b bs ≡ f → at + n ≡ begins_at end rest → at + suc (length bs) ≡ end → before f at (cut_from wide c (at + 1) (bytes_more f) bs) ≡ tokens (start ++ rest) → SomeStates s t → Reaches (reach c n 0 (at_state t y) (b ∷ bs)) (after wide s (tokens_of start)) (track_after s y (tokens_of start)) (drop n (b ∷ bs)) rest
  walk_found b bs at blank zero end s t y start rest r f k l e h =
      let more = later bs end (at + 1) 0 start rest (omega (arith, l)) e in
      absurd (omega (arith, more, k))
  walk_found b bs at blank (suc n) end s t y start rest r f k l e h =
      let P = λ (g : Found). Reaches (reach_found g (at_state t y) (λ inside p. reach c n inside p bs)) (after wide s (tokens_of start)) (track_after s y (tokens_of start)) (drop n bs) rest in
      subst P (sym f) (r (at + 1) 0 n s t y start rest (omega (arith, k)) (omega (arith, l)) e h)
  walk_found b bs at (skipped m) zero end s t y start rest r f k l e h =
      let more = later bs end (at + 1) m start rest (omega (arith, l)) e in
      absurd (omega (arith, more, k))
  walk_found b bs at (skipped m) (suc n) end s t y start rest r f k l e h =
      let P = λ (g : Found). Reaches (reach_found g (at_state t y) (λ inside p. reach c n inside p bs)) (after wide s (tokens_of start)) (track_after s y (tokens_of start)) (drop n bs) rest in
      subst P (sym f) (r (at + 1) m n s t y start rest (omega (arith, k)) (omega (arith, l)) e h)
  walk_found b bs at nothing_known n end s t y start rest r f k l e h =
      absurd (no_tokens at (start ++ rest) e)
  walk_found b bs at (found x m) n end s t y start rest r f k l e h =
      walk_token b bs at x m n end s t y start rest (cut_from wide c (at + 1) m bs) r refl f k l e h

  walk : (bs : List ℕ) (end : ℕ) → Walks bs end
  walk [] end at inside zero s t y [] [] k l e h =
      record { same_state = h; same_track = refl; stands = refl }
  walk [] end at inside (suc n) s t y [] [] k l e h =
      record { same_state = h; same_track = refl; stands = refl }
  walk [] end at inside n s t y [] (p ∷ rest) k l e h =
      absurd (none_is_some p rest (tokens_same [] (p ∷ rest) e))
  walk [] end at inside n s t y (p ∷ start) rest k l e h =
      absurd (none_is_some p (start ++ rest) (tokens_same [] (p ∷ (start ++ rest)) e))
  walk (b ∷ bs) end at (suc inside) zero s t y start rest k l e h =
      let more = later bs end (at + 1) inside start rest (omega (arith, l)) e in
      absurd (omega (arith, more, k))
  walk (b ∷ bs) end at (suc inside) (suc n) s t y start rest k l e h =
      walk bs end (at + 1) inside n s t y start rest (omega (arith, k)) (omega (arith, l)) e h
  walk (b ∷ bs) end at zero n s t y start rest k l e h =
      walk_found b bs at (found_in wide c b bs) n end s t y start rest (walk bs end) refl k l e h

  -- ---- what is told

  reason_of_all : (start rest : List Token) → IsReasonOf start rest (reason_of_rest (after wide begun start) (track_after begun no_track start) rest)
  reason_of_all start [] = refl
  reason_of_all start (x ∷ xs) =
      reason_is start (after wide begun start) (track_after begun no_track start) x xs (follows_all [] begun no_track start refl tt)

  -- of what stands there
  record ToldAs (t : Told) (s : State) (y : Track) (left : List ℕ) (rest : List Placed) : Type 0 where
    taken_is : t.taken ≡ token_length c left
    reason_so : t.reason ≡ reason_of_rest s y (tokens_of rest)
    expected_so : t.expected ≡ expected s

  told_there : (q : Reached) (s : State) (y : Track) (left : List ℕ) (rest : List Placed) → Reaches q s y left rest → ToldAs (told_behind c q left) s y left rest
  told_there q s y left [] r =
      let P = λ (bs : List ℕ). ToldAs (told_behind c q bs) s y bs [] in
      subst P (sym r.stands) (record { taken_is = refl; reason_so = refl; expected_so = sym (expected_alike r.same_state) })
  told_there q s y left (p ∷ ps) r = by_token r.stands
    where
      by_token : (b : ℕ) × (bs : List ℕ) × (more : ℕ) × (left ≡ b ∷ bs) × (found_in wide c b bs ≡ found p.token more) → ToldAs (told_behind c q left) s y left (p ∷ ps)
      by_token (b, bs, more, e, f) =
          let P = λ (cs : List ℕ). ToldAs (told_behind c q cs) s y cs (p ∷ ps) in
          let Q = λ (g : Found). ToldAs (told_found q g) s y (b ∷ bs) (p ∷ ps) in
          let taken : suc more ≡ token_length c (b ∷ bs) = ap (λ g. suc (bytes_more g)) (sym f) in
          let reason : reason_at q.state q.track p.token ≡ reason_at s y p.token = ap (λ z. reason_at q.state z p.token) r.same_track ∙ sym (reason_alike r.same_state y p.token) in
          subst P (sym e) (subst Q (sym f) (record { taken_is = taken; reason_so = reason; expected_so = sym (expected_alike r.same_state) }))

  told_is : (text : List ℕ) (start rest : List Placed) (t : Told) → cut_in wide c text ≡ tokens (start ++ rest) → IsUnexpected wide (tokens_of start) (tokens_of rest) → ToldAs t (after wide begun (tokens_of start)) (track_after begun no_track (tokens_of start)) (drop (begins_at (length text) rest) text) rest → IsTold c text (begins_at (length text) rest) t
  told_is text start rest t e u it = record {
    start = start;
    rest = rest;
    cut_so = e;
    there = refl;
    is_unexpected = u;
    right_length = it.taken_is;
    right_reason = subst (λ o. IsReasonOf (tokens_of start) (tokens_of rest) o) (sym it.reason_so) (reason_of_all (tokens_of start) (tokens_of rest));
    right_kinds = subst (λ ks. AreExpected wide (tokens_of start) ks) (sym it.expected_so) (are_expected (tokens_of start));
  }

  pub told : (text : List ℕ) (at : ℕ) → IsReadingIn wide c text (unexpected at) → IsTold c text at (tell c text at)
  told text _ (has_unexpected start rest e u) =
      let at = begins_at (length text) rest in
      let none : 0 + begins_at (length text) rest ≡ begins_at (length text) rest = omega arith in
      let all : 0 + length text ≡ length text = omega arith in
      told_is text start rest (tell c text at) e u (told_there (reach c at 0 nothing_reached text) (after wide begun (tokens_of start)) (track_after begun no_track (tokens_of start)) (drop at text) rest (walk text (length text) 0 0 at begun begun no_track start rest none all e (both_want_type results)))

pub fault_laws : FaultLaws
fault_laws =
    record { told = told; none_left_out = λ start x v. of_a_kind start x v }
