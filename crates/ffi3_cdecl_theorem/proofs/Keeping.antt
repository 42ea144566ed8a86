-- The base that is kept beside the state stands before the place, with no comma behind it.
use Rattle.std.proofs.Common.{◌≡◌, ◌⊎◌, inl, inr, ℕ, suc, ◌+◌, Bool, true, false, cond, ltb, List, [], ◌∷◌, ◌++◌, refl, ap, sym, subst, ◌∙◌, append_assoc, append-nil}
use Rattle.std.specs.Prelude.{⊤}
use Rattle.ffi3_cdecl_spec.specs.Tokens.{wide, Token, struct_word, union_word, enum_word, name, open_round}
use Rattle.ffi3_cdecl_spec.specs.Grammar.{Kind, whole, bare, nothing, MOST_OPEN, kind_of_name}
use Rattle.ffi3_cdecl_spec.specs.Machine.{Round, unstarred, Where, at_result, at_parameter, at_member, at_inner, depth, State, after_struct, after_struct_tag, wants_tag, declarator, round_opened, dead, declared_name, begun}
use Rattle.ffi3_cdecl_spec.specs.OnePass.{keeping}
use Rattle.ffi3_cdecl_spec.specs.Reasons.{Base, a_struct_of, a_union_of, an_enum_of, base_tokens}
use Rattle.ffi3_cdecl_spec.specs.Telling.{wants_a_type, Track, no_track, behind_struct, behind_union, behind_enum, behind_base, named_base, base_alone, tag_behind, name_behind_base, bracket_behind_base, tracked, an_int32, sized, Reached, reaching, nothing_reached}
use Rattle.ffi3_cdecl_theorem.specs.Exactly.{IsNoComma, HasNoComma}
use Rattle.ffi3_cdecl_theorem.proofs.Near.{an_int, Near, tagged, based, in_round, itself, NearTag, near_tag, type_stands}
use Rattle.ffi3_cdecl_theorem.proofs.Runs.{keeps, run, keeps_append}

-- near the state with int32_t in the base's place, or where the base no longer matters
abbrev pub NearBase : State → State → Type 0
NearBase s t = ((k : Kind) × Near k s t) ⊎ (sized s ≡ dead)

pub record TagStands (start : List Token) (s : State) (word : Token) : Type 0 where
  pub before : List Token
  pub stands : start ≡ before ++ word ∷ []
  pub near : NearTag s (keeps begun (before ++ an_int ∷ []))

pub record BaseStands (start : List Token) (s : State) (b : Base) : Type 0 where
  pub before : List Token
  pub behind : List Token
  pub stands : start ≡ before ++ (base_tokens b ++ behind)
  pub nothing_between : HasNoComma behind
  pub near : NearBase s (keeps begun (before ++ an_int ∷ behind))

abbrev pub Stands : List Token → State → Track → Type 0
Stands start s no_track = ⊤
Stands start s behind_struct = TagStands start s struct_word
Stands start s behind_union = TagStands start s union_word
Stands start s behind_enum = TagStands start s enum_word
Stands start s (behind_base b) = BaseStands start s b

-- ---- one token more behind a base

named : (k : Kind) (w : Where) (called : List ℕ) → NearBase (declared_name k (unstarred 0) w called) (declared_name an_int32 (unstarred 0) w called)
named k (at_parameter head ts) called = inl (k, itself)
named (whole t) at_result called = inr refl
named bare at_result called = inr refl
named nothing at_result called = inr refl
named (whole t) (at_member ts w) called = inr refl
named bare (at_member ts w) called = inr refl
named nothing (at_member ts w) called = inr refl
named (whole t) (at_inner u) called = inr refl
named bare (at_inner u) called = inr refl
named nothing (at_inner u) called = inr refl

rounded : (k : Kind) (n : ℕ) (w : Where) (room : Bool) → NearBase (cond room (round_opened k (unstarred n) w) dead) (cond room (round_opened an_int32 (unstarred n) w) dead)
rounded k n w true = inl (k, in_round)
rounded k n w false = inr refl

tag_named : {k : Kind} {w : Where} {t : State} → Near k (after_struct_tag w) t → (called : List ℕ) → NearBase (declared_name bare (unstarred 0) w called) (keeping wide t (name called))
tag_named (tagged {w = w} e) called = named bare w called

declarator_named : {k l : Kind} {o : Round} {w : Where} {t : State} → Near k (declarator l o w) t → (called : List ℕ) → NearBase (declared_name l o w called) (keeping wide t (name called))
declarator_named {k = k} (based {w = w}) called = named k w called

tag_rounded : {k : Kind} {w : Where} {t : State} → Near k (after_struct_tag w) t → NearBase (keeping wide (after_struct_tag w) open_round) (keeping wide t open_round)
tag_rounded (tagged {w = w} e) =
    rounded bare 1 w (ltb (depth w + 0) MOST_OPEN)

declarator_rounded : {k l : Kind} {o : Round} {w : Where} {t : State} → Near k (declarator l o w) t → NearBase (keeping wide (declarator l o w) open_round) (keeping wide t open_round)
declarator_rounded {k = k} (based {w = w}) =
    rounded k 1 w (ltb (depth w + 0) MOST_OPEN)

round_rounded : {k l : Kind} {o : Round} {w : Where} {t : State} → Near k (round_opened l o w) t → NearBase (keeping wide (round_opened l o w) open_round) (keeping wide t open_round)
round_rounded {k = k} (in_round {n = n} {w = w}) =
    rounded k (suc n) w (ltb (depth w + n) MOST_OPEN)

none_more : (xs : List Token) (x : Token) → HasNoComma xs → IsNoComma x → HasNoComma (xs ++ x ∷ [])
none_more [] x none q = (q, tt)
none_more (y ∷ xs) x none q = (none.0, none_more xs x none.1 q)

module _ (start : List Token) (x : Token) where
  int_behind : (s : State) → keeps begun start ≡ s → keeping wide s an_int ≡ keeps begun (start ++ an_int ∷ [])
  int_behind s e =
      ap (λ r. keeping wide r an_int) (sym e) ∙ sym (keeps_append begun start (an_int ∷ []))

  grown : (s t : State) (b : Base) → BaseStands start s b → (sized s ≡ dead → ⊥) → IsNoComma x → ((k : Kind) (r : State) → Near k s r → NearBase t (keeping wide r x)) → BaseStands (start ++ x ∷ []) t b
  grown s t b at matters q more = record {
    before = at.before;
    behind = at.behind ++ x ∷ [];
    stands = ap (λ ts. ts ++ x ∷ []) at.stands ∙ append_assoc at.before (base_tokens b ++ at.behind) (x ∷ []) ∙ ap (λ ts. at.before ++ ts) (append_assoc (base_tokens b) at.behind (x ∷ []));
    nothing_between = none_more at.behind x at.nothing_between q;
    near = subst (λ r. NearBase t r) (sym (ap (keeps begun) (sym (append_assoc at.before (an_int ∷ at.behind) (x ∷ []))) ∙ keeps_append begun (at.before ++ an_int ∷ at.behind) (x ∷ []))) (by_near at.near);
  }
    where
      by_near : NearBase s (keeps begun (at.before ++ an_int ∷ at.behind)) → NearBase t (keeping wide (keeps begun (at.before ++ an_int ∷ at.behind)) x)
      by_near (inl (k, n)) = more k (keeps begun (at.before ++ an_int ∷ at.behind)) n
      by_near (inr e) = absurd (matters e)

  alone : (s t : State) (y : Track) → Stands start s y → (sized s ≡ dead → ⊥) → IsNoComma x → ((k : Kind) (r : State) → Near k s r → NearBase t (keeping wide r x)) → Stands (start ++ x ∷ []) t (base_alone y)
  alone s t (behind_base b) at matters q more = grown s t b at matters q more
  alone s t y at matters q more = tt

  -- a base that begins here
  begun_tag : (s t : State) (y : Track) → keeps begun start ≡ s → (TagStands (start ++ x ∷ []) t x → Stands (start ++ x ∷ []) t y) → (wanted : Bool) → (wanted ≡ true → NearTag t (keeping wide s an_int)) → Stands (start ++ x ∷ []) t (cond wanted y no_track)
  begun_tag s t y e made true beside =
      made (record { before = start; stands = refl; near = subst (λ r. NearTag t r) (int_behind s e) (beside refl) })
  begun_tag s t y e made false beside = tt

module _ (start : List Token) (called : List ℕ) where
  begun_name : (s t : State) → keeps begun start ≡ s → (wanted : Bool) → (wanted ≡ true → Near (kind_of_name called) t (keeping wide s an_int)) → Stands (start ++ name called ∷ []) t (named_base wanted called)
  begun_name s t e true beside = record {
    before = start;
    behind = [];
    stands = refl;
    nothing_between = tt;
    near = inl (kind_of_name called, subst (λ r. Near (kind_of_name called) t r) (int_behind start (name called) s e) (beside refl));
  }
  begun_name s t e false beside = tt

  tag_stands : (s : State) (word : Token) (b : Base) → base_tokens b ≡ word ∷ name called ∷ [] → TagStands start s word → BaseStands (start ++ name called ∷ []) (keeping wide s (name called)) b
  tag_stands s word b e at = record {
    before = at.before;
    behind = [];
    stands = ap (λ ts. ts ++ name called ∷ []) at.stands ∙ append_assoc at.before (word ∷ []) (name called ∷ []) ∙ ap (λ ts. at.before ++ (ts ++ [])) (sym e);
    nothing_between = tt;
    near = inl (bare, near_tag at.near called);
  }

  tag_follows : (s : State) (y : Track) → Stands start s y → Stands (start ++ name called ∷ []) (keeping wide s (name called)) (tag_behind y called)
  tag_follows s behind_struct at = tag_stands s struct_word (a_struct_of called) refl at
  tag_follows s behind_union at = tag_stands s union_word (a_union_of called) refl at
  tag_follows s behind_enum at = tag_stands s enum_word (an_enum_of called) refl at
  tag_follows s y at = tt

  name_follows : (s : State) (y : Track) → keeps begun start ≡ s → Stands start s y → Stands (start ++ name called ∷ []) (keeping wide s (name called)) (name_behind_base s y called)
  name_follows (after_struct w) y e at = tag_follows (after_struct w) y at
  name_follows (wants_tag w) y e at = tag_follows (wants_tag w) y at
  name_follows (after_struct_tag w) y e at =
      alone start (name called) (after_struct_tag w) (declared_name bare (unstarred 0) w called) y at (λ f. cc) tt (λ k r n. tag_named n called)
  name_follows (declarator k o w) y e at =
      alone start (name called) (declarator k o w) (declared_name k o w called) y at (λ f. cc) tt (λ l r n. declarator_named n called)
  name_follows s y e at =
      begun_name s (keeping wide s (name called)) e (wants_a_type s) (λ f. (type_stands s f).by_name called)

round_follows : (start : List Token) (s : State) (y : Track) → Stands start s y → Stands (start ++ open_round ∷ []) (keeping wide s open_round) (bracket_behind_base s y)
round_follows start (after_struct_tag w) y at =
    alone start open_round (after_struct_tag w) (keeping wide (after_struct_tag w) open_round) y at (λ f. cc) tt (λ k r n. tag_rounded n)
round_follows start (declarator k o w) y at =
    alone start open_round (declarator k o w) (keeping wide (declarator k o w) open_round) y at (λ f. cc) tt (λ l r n. declarator_rounded n)
round_follows start (round_opened k o w) y at =
    alone start open_round (round_opened k o w) (keeping wide (round_opened k o w) open_round) y at (λ f. cc) tt (λ l r n. round_rounded n)
round_follows start s y at = tt

one_more : (start : List Token) (s : State) (y : Track) (x : Token) → keeps begun start ≡ s → Stands start s y → Stands (start ++ x ∷ []) (keeping wide s x) (tracked s y x)
one_more start s y struct_word e at =
    begun_tag start struct_word s (keeping wide s struct_word) behind_struct e (λ t. t) (wants_a_type s) (λ f. (type_stands s f).by_struct)
one_more start s y union_word e at =
    begun_tag start union_word s (keeping wide s union_word) behind_union e (λ t. t) (wants_a_type s) (λ f. (type_stands s f).by_union)
one_more start s y enum_word e at =
    begun_tag start enum_word s (keeping wide s enum_word) behind_enum e (λ t. t) (wants_a_type s) (λ f. (type_stands s f).by_enum)
one_more start s y (name called) e at = name_follows start called s y e at
one_more start s y open_round e at = round_follows start s y at
one_more start s y x e at = tt

-- ---- over all tokens

all_more : (start xs : List Token) (q : Reached) → keeps begun start ≡ q.state → Stands start q.state q.track → Stands (start ++ xs) (run q xs).state (run q xs).track
all_more start [] q e at =
    subst (λ ts. Stands ts q.state q.track) (sym (append-nil start)) at
all_more start (x ∷ xs) q e at =
    subst (λ ts. Stands ts (run (reaching q x) xs).state (run (reaching q x) xs).track) (append_assoc start (x ∷ []) xs) (all_more (start ++ x ∷ []) xs (reaching q x) (keeps_append begun start (x ∷ []) ∙ ap (λ s. keeping wide s x) e) (one_more start q.state q.track x e at))

pub stands_there : (start : List Token) → Stands start (run nothing_reached start).state (run nothing_reached start).track
stands_there start = all_more [] start nothing_reached refl tt
