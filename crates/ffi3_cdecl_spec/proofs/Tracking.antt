-- The base that is kept beside the state stands where it is said to.
use Rattle.std.proofs.Common.{◌≡◌, ℕ, ◌+◌, ◌⊎◌, inl, inr, Bool, true, false, List, [], ◌∷◌, ◌++◌, None, refl, ap, sym, subst, ◌∙◌, append_assoc, true≢false}
use Rattle.std.specs.Prelude.{⊤, cond, ltb}
use Rattle.ffi3_type_spec.specs.Tree.{s32}
use Rattle.ffi3_cdecl_spec.specs.Tokens.{wide, signed, Token, type_word, struct_word, union_word, enum_word, attribute_word, other_keyword, name, open_round}
use Rattle.ffi3_cdecl_spec.specs.Grammar.{Kind, whole, bare, MOST_OPEN}
use Rattle.ffi3_cdecl_spec.specs.Machine.{Round, unstarred, brackets, bracket_inside, Where, at_result, at_parameter, at_member, at_inner, depth, State, wants_type, after_struct, after_struct_tag, wants_tag, declarator, round_opened, dead, declared_name, open_bracket, step, after, begun, is_dead}
use Rattle.ffi3_cdecl_spec.specs.Reasons.{Base, base_tokens, IsByValue, IsReasonOf}
use Rattle.ffi3_cdecl_spec.specs.Telling.{lives, wants_a_type, Track, no_track, behind_struct, behind_union, behind_enum, behind_base, named_base, base_alone, tag_behind, name_behind_base, bracket_behind_base, tracked, an_int32, sized, reason_of_base, reason_by, reason_at}
use Rattle.ffi3_cdecl_spec.proofs.Ways.{after-append}
use Rattle.ffi3_cdecl_spec.proofs.Readings.{lives_viable}
use Rattle.std.proofs.lemmas.Bool.{not-true}

abbrev an_int : Token
an_int = type_word s32

-- these tokens stand at the end of a beginning; with int32_t in their place it leads to the state that has this base
pub record AtTag (start : List Token) (s : State) (word : Token) : Type 0 where
  pub before : List Token
  pub stands : start ≡ before ++ word ∷ []
  pub runs : (sized s ≡ dead) ⊎ (after wide begun (before ++ an_int ∷ []) ≡ sized s)

pub record AtBase (start : List Token) (s : State) (words : List Token) : Type 0 where
  pub before : List Token
  pub behind : List Token
  pub stands : start ≡ before ++ (words ++ behind)
  pub runs : (sized s ≡ dead) ⊎ (after wide begun (before ++ an_int ∷ behind) ≡ sized s)

abbrev pub Follows : List Token → State → Track → Type 0
Follows start s no_track = ⊤
Follows start s behind_struct = AtTag start s struct_word
Follows start s behind_union = AtTag start s union_word
Follows start s behind_enum = AtTag start s enum_word
Follows start s (behind_base b) = AtBase start s (base_tokens b)

not_there : {A : Type 0} → true ≡ false → A
not_there e = absurd (true≢false e)

-- ---- where a type may stand

sized_struct : (s : State) → wants_a_type s ≡ true → step wide s an_int ≡ sized (step wide s struct_word)
sized_struct (wants_type w) e = refl
sized_struct s e = cc

sized_union : (s : State) → wants_a_type s ≡ true → step wide s an_int ≡ sized (step wide s union_word)
sized_union (wants_type w) e = refl
sized_union s e = cc

sized_enum : (s : State) → wants_a_type s ≡ true → step wide s an_int ≡ sized (step wide s enum_word)
sized_enum (wants_type w) e = refl
sized_enum s e = cc

sized_name : (called : List ℕ) (s : State) → wants_a_type s ≡ true → step wide s an_int ≡ sized (step wide s (name called))
sized_name called (wants_type w) e = refl
sized_name called s e = cc

-- ---- behind a base

-- whatever stands there, a name and a bracket come to the same with int32_t in place of the base, or to where the base does not matter
name_runs : (w : Where) (o : Round) (k : Kind) (called : List ℕ) → (sized (declared_name k o w called) ≡ dead) ⊎ (declared_name an_int32 o w called ≡ sized (declared_name k o w called))
name_runs (at_parameter head ts) (unstarred n) k called = inr refl
name_runs at_result (unstarred n) (whole t) called = inl refl
name_runs (at_member ts w) (unstarred n) (whole t) called = inl refl
name_runs (at_inner u) (unstarred n) (whole t) called = inl refl
name_runs w o k called = inl refl

room_runs : (b : Bool) (k : Kind) (o : Round) (w : Where) → (sized (cond b (round_opened k o w) dead) ≡ dead) ⊎ (cond b (round_opened an_int32 o w) dead ≡ sized (cond b (round_opened k o w) dead))
room_runs true k o w = inr refl
room_runs false k o w = inl refl

bracket_runs : (k : Kind) (o : Round) (w : Where) → (sized (open_bracket k o w) ≡ dead) ⊎ (open_bracket an_int32 o w ≡ sized (open_bracket k o w))
bracket_runs k o w =
    room_runs (ltb (depth w + brackets o) MOST_OPEN) k (bracket_inside o) w

-- one token more behind a base
grown : (start : List Token) (s t : State) (words : List Token) (x : Token) → AtBase start s words → is_dead (sized s) ≡ false → (sized t ≡ dead) ⊎ (step wide (sized s) x ≡ sized t) → AtBase (start ++ x ∷ []) t words
grown start s t words x at alive more =
    record { before = at.before; behind = at.behind ++ x ∷ []; stands = stands; runs = runs at.runs more }
  where
    stands : start ++ x ∷ [] ≡ at.before ++ (words ++ (at.behind ++ x ∷ []))
    stands =
        ap (λ ts. ts ++ x ∷ []) at.stands ∙ append_assoc at.before (words ++ at.behind) (x ∷ []) ∙ ap (λ ts. at.before ++ ts) (append_assoc words at.behind (x ∷ []))

    runs : (sized s ≡ dead) ⊎ (after wide begun (at.before ++ an_int ∷ at.behind) ≡ sized s) → (sized t ≡ dead) ⊎ (step wide (sized s) x ≡ sized t) → (sized t ≡ dead) ⊎ (after wide begun (at.before ++ an_int ∷ (at.behind ++ x ∷ [])) ≡ sized t)
    runs (inl e) more = not_there (sym (ap is_dead e) ∙ alive)
    runs (inr e) (inl f) = inl f
    runs (inr e) (inr f) =
        inr (ap (λ ts. after wide begun ts) (sym (append_assoc at.before (an_int ∷ at.behind) (x ∷ []))) ∙ after-append wide begun (at.before ++ an_int ∷ at.behind) (x ∷ []) ∙ ap (λ r. step wide r x) e ∙ f)

-- a tag behind its word
tagged : (start : List Token) (s t : State) (word : Token) (tag : List ℕ) → AtTag start s word → sized t ≡ sized s → AtBase (start ++ name tag ∷ []) t (word ∷ name tag ∷ [])
tagged start s t word tag at same =
    record { before = at.before; behind = []; stands = stands; runs = runs at.runs }
  where
    stands : start ++ name tag ∷ [] ≡ at.before ++ (word ∷ name tag ∷ [])
    stands =
        ap (λ ts. ts ++ name tag ∷ []) at.stands ∙ append_assoc at.before (word ∷ []) (name tag ∷ [])

    runs : (sized s ≡ dead) ⊎ (after wide begun (at.before ++ an_int ∷ []) ≡ sized s) → (sized t ≡ dead) ⊎ (after wide begun (at.before ++ an_int ∷ []) ≡ sized t)
    runs (inl e) = inl (same ∙ e)
    runs (inr e) = inr (e ∙ sym same)

module _ (start : List Token) (s : State) (e : after wide begun start ≡ s) where
  begun_tag : (t : State) (word : Token) (y : Track) → (AtTag (start ++ word ∷ []) t word → Follows (start ++ word ∷ []) t y) → (b : Bool) → (b ≡ true → step wide s an_int ≡ sized t) → Follows (start ++ word ∷ []) t (cond b y no_track)
  begun_tag t word y made true same =
      made (record { before = start; stands = refl; runs = inr (after-append wide begun start (an_int ∷ []) ∙ ap (λ r. step wide r an_int) e ∙ same refl) })
  begun_tag t word y made false same = tt

  begun_name : (t : State) (called : List ℕ) (b : Bool) → (b ≡ true → step wide s an_int ≡ sized t) → Follows (start ++ name called ∷ []) t (named_base b called)
  begun_name t called true same =
      record { before = start; behind = []; stands = refl; runs = inr (after-append wide begun start (an_int ∷ []) ∙ ap (λ r. step wide r an_int) e ∙ same refl) }
  begun_name t called false same = tt

tag_follows : (start : List Token) (s t : State) (y : Track) (tag : List ℕ) → Follows start s y → sized t ≡ sized s → Follows (start ++ name tag ∷ []) t (tag_behind y tag)
tag_follows start s t behind_struct tag f same = tagged start s t struct_word tag f same
tag_follows start s t behind_union tag f same = tagged start s t union_word tag f same
tag_follows start s t behind_enum tag f same = tagged start s t enum_word tag f same
tag_follows start s t y tag f same = tt

alone_follows : (start : List Token) (s t : State) (y : Track) (x : Token) → Follows start s y → is_dead (sized s) ≡ false → (sized t ≡ dead) ⊎ (step wide (sized s) x ≡ sized t) → Follows (start ++ x ∷ []) t (base_alone y)
alone_follows start s t (behind_base b) x f alive more =
    grown start s t (base_tokens b) x f alive more
alone_follows start s t y x f alive more = tt

module _ (start : List Token) where
  name_follows : (s : State) (y : Track) (called : List ℕ) → after wide begun start ≡ s → Follows start s y → Follows (start ++ name called ∷ []) (step wide s (name called)) (name_behind_base s y called)
  name_follows (after_struct w) y called e f =
      tag_follows start (after_struct w) (after_struct_tag w) y called f refl
  name_follows (wants_tag w) y called e f =
      tag_follows start (wants_tag w) (declarator bare (unstarred 0) w) y called f refl
  name_follows (after_struct_tag w) y called e f =
      alone_follows start (after_struct_tag w) (declared_name bare (unstarred 0) w called) y (name called) f refl (name_runs w (unstarred 0) bare called)
  name_follows (declarator k o w) y called e f =
      alone_follows start (declarator k o w) (declared_name k o w called) y (name called) f refl (name_runs w o k called)
  name_follows s y called e f =
      begun_name start s e (step wide s (name called)) called (wants_a_type s) (sized_name called s)

  bracket_follows : (s : State) (y : Track) → Follows start s y → Follows (start ++ open_round ∷ []) (step wide s open_round) (bracket_behind_base s y)
  bracket_follows (after_struct_tag w) y f =
      alone_follows start (after_struct_tag w) (open_bracket bare (unstarred 0) w) y open_round f refl (bracket_runs bare (unstarred 0) w)
  bracket_follows (declarator k o w) y f =
      alone_follows start (declarator k o w) (open_bracket k o w) y open_round f refl (bracket_runs k o w)
  bracket_follows (round_opened k o w) y f =
      alone_follows start (round_opened k o w) (open_bracket k o w) y open_round f refl (bracket_runs k o w)
  bracket_follows s y f = tt

  -- one token more
  pub follows_on : (s : State) (y : Track) (x : Token) → after wide begun start ≡ s → Follows start s y → Follows (start ++ x ∷ []) (step wide s x) (tracked s y x)
  follows_on s y struct_word e f =
      begun_tag start s e (step wide s struct_word) struct_word behind_struct (λ at. at) (wants_a_type s) (sized_struct s)
  follows_on s y union_word e f =
      begun_tag start s e (step wide s union_word) union_word behind_union (λ at. at) (wants_a_type s) (sized_union s)
  follows_on s y enum_word e f =
      begun_tag start s e (step wide s enum_word) enum_word behind_enum (λ at. at) (wants_a_type s) (sized_enum s)
  follows_on s y (name called) e f = name_follows s y called e f
  follows_on s y open_round e f = bracket_follows s y f
  follows_on s y x e f = tt

  -- ---- the reason

  abbrev IsOther : Token → Type 0
  IsOther attribute_word = ⊥
  IsOther other_keyword = ⊥
  IsOther x = ⊤

  no_word : (x : Token) (xs : List Token) → IsOther x → IsReasonOf start (x ∷ xs) None
  no_word x xs q = ((λ e. subst IsOther e q), (λ e. subst IsOther e q))

  instead_of : (s : State) (b : Base) (x : Token) → AtBase start s (base_tokens b) → lives (sized s) x ≡ true → IsByValue start x b
  instead_of s b x at l =
      record { before = at.before; behind = at.behind; stands = at.stands; instead = lives_viable wide signed ((at.before ++ an_int ∷ at.behind) ++ x ∷ []) (ap is_dead (after-append wide begun (at.before ++ an_int ∷ at.behind) (x ∷ [])) ∙ runs at.runs) }
    where
      runs : (sized s ≡ dead) ⊎ (after wide begun (at.before ++ an_int ∷ at.behind) ≡ sized s) → is_dead (step wide (after wide begun (at.before ++ an_int ∷ at.behind)) x) ≡ false
      runs (inl e) =
          not_there (sym l ∙ ap (λ r. lives r x) e)
      runs (inr e) =
          ap (λ r. is_dead (step wide r x)) e ∙ not-true (is_dead (step wide (sized s) x)) l

  reason_of : (s : State) (b : Base) (x : Token) (xs : List Token) → IsOther x → AtBase start s (base_tokens b) → (l : Bool) → lives (sized s) x ≡ l → IsReasonOf start (x ∷ xs) (reason_of_base l b)
  reason_of s b x xs q at true e = instead_of s b x at e
  reason_of s b x xs q at false e = no_word x xs q

  reason_is_by : (s : State) (y : Track) (x : Token) (xs : List Token) → IsOther x → Follows start s y → IsReasonOf start (x ∷ xs) (reason_by s y x)
  reason_is_by s (behind_base b) x xs q f =
      reason_of s b x xs q f (lives (sized s) x) refl
  reason_is_by s y x xs q f = no_word x xs q

  pub reason_is : (s : State) (y : Track) (x : Token) (xs : List Token) → Follows start s y → IsReasonOf start (x ∷ xs) (reason_at s y x)
  reason_is s y attribute_word xs f = refl
  reason_is s y other_keyword xs f = refl
  reason_is s y x xs f = reason_is_by s y x xs tt f
