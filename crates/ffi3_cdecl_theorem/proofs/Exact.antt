-- Exactly one thing is told of an unexpected place, and it is what is computed.
use Rattle.std.proofs.Common.{◌≡◌, ◌⊎◌, inl, inr, ℕ, Bool, true, false, List, [], ◌∷◌, ◌++◌, take, Option, Some, None, refl, ap, sym, subst, ◌∙◌, append_assoc, append-nil, true≢false}
use Rattle.std.specs.Prelude.{⊤}
use Rattle.std.proofs.lemmas.Bool.{not-true}
use Rattle.ffi3_cdecl_spec.specs.Tokens.{wide, Sign, Token, attribute_word, other_keyword, Placed}
use Rattle.ffi3_cdecl_spec.specs.Grammar.{Kind, IsDeclarationIn}
use Rattle.ffi3_cdecl_spec.specs.Expected.{Expected, AreThose, no_kinds, one_could, one_could_not, AreExpected, MOST_TOLD}
use Rattle.ffi3_cdecl_spec.specs.Machine.{State, dead, step, begun, is_dead}
use Rattle.ffi3_cdecl_spec.specs.OnePass.{keeping}
use Rattle.ffi3_cdecl_spec.specs.Reading.{IsViableIn, IsUnexpected, tokens_of, unexpected, IsReadingIn, has_unexpected}
use Rattle.ffi3_cdecl_spec.specs.Reasons.{Base, Reason, an_attribute, a_keyword, by_value, Told, IsTold}
use Rattle.ffi3_cdecl_spec.specs.Telling.{lives, Track, behind_base, sized, reason_of_base, reason_by, Reached, nothing_reached, tell}
use Rattle.ffi3_cdecl_spec.proofs.Followed.{attribute_dead, keyword_dead}
use Rattle.ffi3_cdecl_spec.proofs.Told.{kept_count, told}
use Rattle.ffi3_cdecl_theorem.specs.Exactly.{StandsByValue, IsTheReason, IsTheReasonOf, IsToldExactly}
use Rattle.ffi3_cdecl_theorem.specs.Laws.{ToldLaws}
use Rattle.ffi3_cdecl_theorem.proofs.Cutting.{tokens_same, reason_in, reason_told}
use Rattle.ffi3_cdecl_theorem.proofs.Keeping.{BaseStands, Stands, stands_there}
use Rattle.ffi3_cdecl_theorem.proofs.Near.{an_int, Near, near_sized}
use Rattle.ffi3_cdecl_theorem.proofs.Runs.{keeps, run, keeps_append, viable_keeps, keeps_viable}
use Rattle.ffi3_cdecl_theorem.proofs.Standing.{stands_told}

some_same : {A : Type 0} {x y : A} → Some x ≡ Some y → x ≡ y
some_same e = cc

none_some : {A : Type 0} {x : A} → None ≡ Some x → ⊥
none_some e = cc

-- ---- what is computed is the reason

abbrev IsOther : Token → Type 0
IsOther attribute_word = ⊥
IsOther other_keyword = ⊥
IsOther x = ⊤

module _ (start : List Token) (x : Token) (viable : IsViableIn wide start) (isnt : ¬ IsViableIn wide (start ++ x ∷ [])) where
  abbrev here : Reached
  here = run nothing_reached start

  none_stands : IsOther x → reason_by here.state here.track x ≡ None → (why : Reason) → ¬ IsTheReason start x why
  none_stands other e an_attribute is = subst IsOther is other
  none_stands other e a_keyword is = subst IsOther is other
  none_stands other e (by_value b) is =
      none_some (sym e ∙ stands_told start x viable isnt b is)

  by_base : (s : State) (b : Base) → BaseStands start s b → lives (sized s) x ≡ true → StandsByValue start x b
  by_base s b at l = record {
    would_fit = record { before = at.before; behind = at.behind; stands = at.stands; instead = keeps_viable ((at.before ++ an_int ∷ at.behind) ++ x ∷ []) (ap is_dead (keeps_append begun (at.before ++ an_int ∷ at.behind) (x ∷ [])) ∙ by_near at.near) };
    nothing_between = at.nothing_between;
  }
    where
      by_near : ((k : Kind) × Near k s (keeps begun (at.before ++ an_int ∷ at.behind))) ⊎ (sized s ≡ dead) → is_dead (keeping wide (keeps begun (at.before ++ an_int ∷ at.behind)) x) ≡ false
      by_near (inl (k, n)) =
          ap (λ r. is_dead (keeping wide r x)) (sym (near_sized n)) ∙ kept_count (sized s) x ∙ not-true (is_dead (step wide (sized s) x)) l
      by_near (inr e) =
          absurd (true≢false (sym l ∙ ap (λ r. lives r x) e))

  of_base : (s : State) (b : Base) (xs : List Token) → BaseStands start s b → (l : Bool) → lives (sized s) x ≡ l → (reason_of_base l b ≡ None → (why : Reason) → ¬ IsTheReason start x why) → IsTheReasonOf start (x ∷ xs) (reason_of_base l b)
  of_base s b xs at true e none = by_base s b at e
  of_base s b xs at false e none = none refl

  by_track : (s : State) (y : Track) (xs : List Token) → Stands start s y → (reason_by s y x ≡ None → (why : Reason) → ¬ IsTheReason start x why) → IsTheReasonOf start (x ∷ xs) (reason_by s y x)
  by_track s (behind_base b) xs at none = of_base s b xs at (lives (sized s) x) refl none
  by_track s y xs at none = none refl

  is_reason_by : (xs : List Token) → IsOther x → IsTheReasonOf start (x ∷ xs) (reason_by here.state here.track x)
  is_reason_by xs other =
      by_track here.state here.track xs (stands_there start) (none_stands other)

is_reason : (start : List Token) (x : Token) (xs : List Token) → IsViableIn wide start → ¬ IsViableIn wide (start ++ x ∷ []) → IsTheReasonOf start (x ∷ xs) (reason_in (run nothing_reached start) (x ∷ xs))
is_reason start attribute_word xs viable isnt = refl
is_reason start other_keyword xs viable isnt = refl
is_reason start x xs viable isnt = is_reason_by start x viable isnt xs tt

is_the_reason : (start rest : List Token) → IsUnexpected wide start rest → IsTheReasonOf start rest (reason_in (run nothing_reached start) rest)
is_the_reason start [] u = refl
is_the_reason start (x ∷ xs) u = is_reason start x xs u.viable u.not_expected

-- ---- and there is no other

-- a word that leads nowhere would lead nowhere behind int32_t
no_word : (x : Token) (start : List Token) (b : Base) → ((s : State) → step wide s x ≡ dead) → ¬ StandsByValue start x b
no_word x start b dies v =
    let alive = ap is_dead (sym (keeps_append begun (v.would_fit.before ++ an_int ∷ v.would_fit.behind) (x ∷ []))) ∙ viable_keeps ((v.would_fit.before ++ an_int ∷ v.would_fit.behind) ++ x ∷ []) v.would_fit.instead in
    let gone = kept_count (keeps begun (v.would_fit.before ++ an_int ∷ v.would_fit.behind)) x ∙ ap is_dead (dies (keeps begun (v.would_fit.before ++ an_int ∷ v.would_fit.behind))) in
    true≢false (sym gone ∙ alive)

one_word : attribute_word ≡ other_keyword → ⊥
one_word e = cc

module _ (start : List Token) (x : Token) (viable : IsViableIn wide start) (isnt : ¬ IsViableIn wide (start ++ x ∷ [])) where
  attribute_alone : (b : Base) → x ≡ attribute_word → ¬ StandsByValue start x b
  attribute_alone b e v =
      no_word attribute_word start b attribute_dead (subst (λ z. StandsByValue start z b) e v)

  keyword_alone : (b : Base) → x ≡ other_keyword → ¬ StandsByValue start x b
  keyword_alone b e v =
      no_word other_keyword start b keyword_dead (subst (λ z. StandsByValue start z b) e v)

  one_reason : (v w : Reason) → IsTheReason start x v → IsTheReason start x w → v ≡ w
  one_reason an_attribute an_attribute p q = refl
  one_reason a_keyword a_keyword p q = refl
  one_reason an_attribute a_keyword p q = absurd (one_word (sym p ∙ q))
  one_reason a_keyword an_attribute p q = absurd (one_word (sym q ∙ p))
  one_reason an_attribute (by_value b) p q = absurd (attribute_alone b p q)
  one_reason (by_value b) an_attribute p q = absurd (attribute_alone b q p)
  one_reason a_keyword (by_value b) p q = absurd (keyword_alone b p q)
  one_reason (by_value b) a_keyword p q = absurd (keyword_alone b q p)
  one_reason (by_value b) (by_value d) p q =
      some_same (sym (stands_told start x viable isnt b p) ∙ stands_told start x viable isnt d q)

  one_if_any : (xs : List Token) (v w : Option Reason) → IsTheReasonOf start (x ∷ xs) v → IsTheReasonOf start (x ∷ xs) w → v ≡ w
  one_if_any xs None None p q = refl
  one_if_any xs None (Some w) p q = absurd (p w q)
  one_if_any xs (Some v) None p q = absurd (q v p)
  one_if_any xs (Some v) (Some w) p q = ap Some (one_reason v w p q)

one_reason_of : (start rest : List Token) (v w : Option Reason) → IsUnexpected wide start rest → IsTheReasonOf start rest v → IsTheReasonOf start rest w → v ≡ w
one_reason_of start [] v w u p q = p ∙ sym q
one_reason_of start (x ∷ xs) v w u p q =
    one_if_any start x u.viable u.not_expected xs v w p q

-- ---- one place, and one list of what could stand there

-- what goes on viably begins viably
viable_front : (xs : List Token) (y : Token) (ys : List Token) → IsViableIn wide (xs ++ y ∷ ys) → IsViableIn wide (xs ++ y ∷ [])
viable_front xs y ys (more, d, is) =
    (ys ++ more, d, subst (λ ts. IsDeclarationIn wide ts d) (append_assoc xs (y ∷ ys) more ∙ sym (append_assoc xs (y ∷ []) (ys ++ more))) is)

parts_same : (x y : Token) (xs ys : List Token) → x ∷ xs ≡ y ∷ ys → (x ≡ y) × (xs ≡ ys)
parts_same x y xs ys e = (cc, cc)

-- no token is unexpected behind a part of what is viable
not_inside : (start : List Token) (x : Token) (xs rest behind : List Token) → rest ≡ x ∷ behind → IsUnexpected wide start rest → ¬ IsViableIn wide (start ++ x ∷ xs)
not_inside start x xs rest behind e u v =
    (subst (λ ts. IsUnexpected wide start ts) e u).not_expected (viable_front start x xs v)

one_place : (front xs ys rest other : List Token) → xs ++ rest ≡ ys ++ other → IsUnexpected wide (front ++ xs) rest → IsUnexpected wide (front ++ ys) other → (xs ≡ ys) × (rest ≡ other)
one_place front [] [] rest other e u v = (refl, e)
one_place front [] (y ∷ ys) rest other e u v =
    absurd (not_inside front y ys rest (ys ++ other) e (subst (λ ts. IsUnexpected wide ts rest) (append-nil front) u) v.viable)
one_place front (x ∷ xs) [] rest other e u v =
    absurd (not_inside front x xs other (xs ++ rest) (sym e) (subst (λ ts. IsUnexpected wide ts other) (append-nil front) v) u.viable)
one_place front (x ∷ xs) (y ∷ ys) rest other e u v =
    let same = parts_same x y (xs ++ rest) (ys ++ other) e in
    let on = one_place (front ++ x ∷ []) xs ys rest other same.1 (subst (λ ts. IsUnexpected wide ts rest) (sym (append_assoc front (x ∷ []) xs)) u) (subst (λ ts. IsUnexpected wide ts other) (ap (λ z. front ++ z ∷ ys) (sym same.0) ∙ sym (append_assoc front (x ∷ []) ys)) v) in
    ((λ i. same.0 i ∷ on.0 i), on.1)

tokens_of_append : (ps qs : List Placed) → tokens_of (ps ++ qs) ≡ tokens_of ps ++ tokens_of qs
tokens_of_append [] qs = refl
tokens_of_append (p ∷ ps) qs = ap (λ ts. p.token ∷ ts) (tokens_of_append ps qs)

one_those : (start : List Token) {ks these those : List Expected} → AreThose wide start ks these → AreThose wide start ks those → these ≡ those
one_those start no_kinds no_kinds = refl
one_those start (one_could {k = k} c m) (one_could d n) =
    ap (λ ks. k ∷ ks) (one_those start m n)
one_those start (one_could c m) (one_could_not d n) = absurd (d c)
one_those start (one_could_not c m) (one_could d n) = absurd (c d)
one_those start (one_could_not c m) (one_could_not d n) = one_those start m n

one_expected : (start : List Token) (these those : List Expected) → AreExpected wide start these → AreExpected wide start those → these ≡ those
one_expected start these those a b =
    sym a.first ∙ ap (take MOST_TOLD) (one_those start a.those b.those) ∙ b.first

-- ---- the laws

told_exactly : (c : Sign) (text : List ℕ) (at : ℕ) → IsReadingIn wide c text (unexpected at) → IsToldExactly c text at (tell c text at)
told_exactly c text at is =
    let it : IsTold c text at (tell c text at) = told c text at is in
    let computed : (tell c text at).reason ≡ reason_in (run nothing_reached (tokens_of it.start)) (tokens_of it.rest) = reason_told c text it.start it.rest at it.cut_so it.there in
    record { is_told = it; the_reason = subst (λ o. IsTheReasonOf (tokens_of it.start) (tokens_of it.rest) o) (sym computed) (is_the_reason (tokens_of it.start) (tokens_of it.rest) it.is_unexpected) }

one_told : (c : Sign) (text : List ℕ) (at : ℕ) (t u : Told) → IsToldExactly c text at t → IsToldExactly c text at u → t ≡ u
one_told c text at t u p q =
    let joined : tokens_of p.is_told.start ++ tokens_of p.is_told.rest ≡ tokens_of q.is_told.start ++ tokens_of q.is_told.rest = sym (tokens_of_append p.is_told.start p.is_told.rest) ∙ ap tokens_of (tokens_same (p.is_told.start ++ p.is_told.rest) (q.is_told.start ++ q.is_told.rest) (sym p.is_told.cut_so ∙ q.is_told.cut_so)) ∙ tokens_of_append q.is_told.start q.is_told.rest in
    let place = one_place [] (tokens_of p.is_told.start) (tokens_of q.is_told.start) (tokens_of p.is_told.rest) (tokens_of q.is_told.rest) joined p.is_told.is_unexpected q.is_told.is_unexpected in
    let theirs : IsTheReasonOf (tokens_of p.is_told.start) (tokens_of p.is_told.rest) u.reason = subst (λ ts. IsTheReasonOf ts (tokens_of p.is_told.rest) u.reason) (sym place.0) (subst (λ ts. IsTheReasonOf (tokens_of q.is_told.start) ts u.reason) (sym place.1) q.the_reason) in
    let reason : t.reason ≡ u.reason = one_reason_of (tokens_of p.is_told.start) (tokens_of p.is_told.rest) t.reason u.reason p.is_told.is_unexpected p.the_reason theirs in
    let taken : t.taken ≡ u.taken = p.is_told.right_length ∙ sym q.is_told.right_length in
    let expected : t.expected ≡ u.expected = one_expected (tokens_of p.is_told.start) t.expected u.expected p.is_told.right_kinds (subst (λ ts. AreExpected wide ts u.expected) (sym place.0) q.is_told.right_kinds) in
    λ i. record { taken = taken i; reason = reason i; expected = expected i }

told_once : (c : Sign) (text : List ℕ) (at : ℕ) (t : Told) → IsToldExactly c text at t → t ≡ tell c text at
told_once c text at t it =
    let is : IsReadingIn wide c text (unexpected at) = subst (λ n. IsReadingIn wide c text (unexpected n)) it.is_told.there (has_unexpected it.is_told.start it.is_told.rest it.is_told.cut_so it.is_told.is_unexpected) in
    one_told c text at t (tell c text at) it (told_exactly c text at is)

pub told_laws : ToldLaws
told_laws = record { told_exactly = told_exactly; told_once = told_once }
