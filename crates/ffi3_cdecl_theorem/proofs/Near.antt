-- Two runs side by side, behind a base of unknown size and behind int32_t: what is kept beside the state is the base, until a token makes no difference any more.
use Rattle.std.proofs.Common.{◌≡◌, ℕ, suc, ◌+◌, Bool, true, false, cond, not, ltb, List, [], ◌∷◌, Some, refl, ap, sym, subst, ◌∙◌, true≢false}
use Rattle.ffi3_type_spec.specs.Tree.{Tree, s32}
use Rattle.ffi3_cdecl_spec.specs.Tokens.{wide, Token, type_word, struct_word, union_word, enum_word, name, open_round, open_curly, open_square, comma, star}
use Rattle.ffi3_cdecl_spec.specs.Grammar.{Kind, bare, MOST_OPEN, kind_of_name}
use Rattle.ffi3_cdecl_spec.specs.Machine.{unstarred, Head, Where, at_result, at_parameter, at_member, at_inner, depth, State, wants_type, wants_base, after_struct, after_struct_tag, wants_tag, opened, after_comma, after_member, declarator, round_opened, parameter_itself, list_opened, list_comma, dead, name_in_bracket, declared_name, step_unnamed, is_dead}
use Rattle.ffi3_cdecl_spec.specs.OnePass.{keeping}
use Rattle.ffi3_cdecl_spec.specs.Reasons.{Base, a_type_named, by_value}
use Rattle.ffi3_cdecl_spec.specs.Telling.{lives, wants_a_type, Track, behind_base, tag_behind, tracked, an_int32, sized, reason_of_base, reason_by, Reached}
use Rattle.ffi3_cdecl_spec.proofs.Told.{kept_count}
use Rattle.ffi3_cdecl_theorem.specs.Exactly.{IsNoComma, HasNoComma}
use Rattle.ffi3_cdecl_theorem.proofs.Starred.{Deep, own_base, one_deep, without_comma, both_live}
use Rattle.ffi3_cdecl_theorem.proofs.Runs.{keeps, run, run_state, keeps_dead}

abbrev pub an_int : Token
an_int = type_word s32

-- ---- behind a base of this kind, and behind int32_t in its place

pub data Near (k : Kind) : State → State → Type 0 where
  tagged : {w : Where} → k ≡ bare → Near k (after_struct_tag w) (declarator an_int32 (unstarred 0) w)
  based : {w : Where} → Near k (declarator k (unstarred 0) w) (declarator an_int32 (unstarred 0) w)
  in_round : {n : ℕ} {w : Where} → Near k (round_opened k (unstarred n) w) (round_opened an_int32 (unstarred n) w)
  itself : {head : Head} {ts : List Tree} → Near k (parameter_itself k 0 head ts) (parameter_itself an_int32 0 head ts)

pub near_sized : {k : Kind} {s t : State} → Near k s t → sized s ≡ t
near_sized (tagged e) = refl
near_sized based = refl
near_sized in_round = refl
near_sized itself = refl

-- the base makes no difference from here on, or only that there is no such way
pub data Alike (s t : State) : Type 0 where
  same : s ≡ t → Alike s t
  dead_with_base : s ≡ dead → Alike s t
  dead_with_int : t ≡ dead → Alike s t
  behind_a_star : Deep s t → Alike s t

stay_dead : (s : State) (xs : List Token) → s ≡ dead → keeps s xs ≡ dead
stay_dead s xs e = ap (λ r. keeps r xs) e ∙ keeps_dead xs

pub stay_alike : (s t : State) (xs : List Token) → HasNoComma xs → Alike s t → Alike (keeps s xs) (keeps t xs)
stay_alike s t xs none (same e) = same (ap (λ r. keeps r xs) e)
stay_alike s t xs none (dead_with_base e) = dead_with_base (stay_dead s xs e)
stay_alike s t xs none (dead_with_int e) = dead_with_int (stay_dead t xs e)
stay_alike s t [] none (behind_a_star d) = behind_a_star d
stay_alike s t (x ∷ xs) none (behind_a_star d) =
    stay_alike (keeping wide s x) (keeping wide t x) xs none.1 (behind_a_star (without_comma (one_deep d x) none.0))

-- ---- one token more behind a base that is no more than a name

-- where nothing is named
unnamed : (w : Where) (x : Token) → Alike (step_unnamed bare (unstarred 0) w x) (step_unnamed an_int32 (unstarred 0) w x)
unnamed at_result x = dead_with_base refl
unnamed (at_member ts w) x = dead_with_base refl
unnamed (at_parameter head ts) open_square = same refl
unnamed (at_parameter head ts) x = dead_with_base refl
unnamed (at_inner u) open_square = same refl
unnamed (at_inner u) x = same refl

int_opens_none : (w : Where) → step_unnamed an_int32 (unstarred 0) w open_curly ≡ dead
int_opens_none at_result = refl
int_opens_none (at_member ts w) = refl
int_opens_none (at_parameter head ts) = refl
int_opens_none (at_inner u) = refl

bracket_dead : (n : ℕ) (w : Where) (called : List ℕ) → name_in_bracket bare (unstarred n) w called ≡ dead
bracket_dead n at_result called = refl
bracket_dead n (at_member ts w) called = refl
bracket_dead n (at_parameter head ts) called = refl
bracket_dead n (at_inner u) called = refl

pub data Next (b : Base) (y : Track) (s t : State) : Type 0 where
  goes_on : Near bare s t → y ≡ behind_base b → Next b y s t
  ends : Alike s t → Next b y s t

next_name : (b : Base) (w : Where) (called : List ℕ) → Next b (behind_base b) (declared_name bare (unstarred 0) w called) (declared_name an_int32 (unstarred 0) w called)
next_name b at_result called = ends (dead_with_base refl)
next_name b (at_parameter head ts) called = goes_on itself refl
next_name b (at_member ts w) called = ends (dead_with_base refl)
next_name b (at_inner u) called = ends (same refl)

next_round : (b : Base) (n : ℕ) (w : Where) (room : Bool) → Next b (behind_base b) (cond room (round_opened bare (unstarred n) w) dead) (cond room (round_opened an_int32 (unstarred n) w) dead)
next_round b n w true = goes_on in_round refl
next_round b n w false = ends (dead_with_base refl)

pub next : (b : Base) {s t : State} → Near bare s t → (x : Token) → IsNoComma x → Next b (tracked s (behind_base b) x) (keeping wide s x) (keeping wide t x)
next b n comma q = absurd q
next b (tagged e) star q = ends (behind_a_star own_base)
next b based star q = ends (behind_a_star own_base)
next b in_round star q = ends (behind_a_star own_base)
next b (tagged {w = w} e) (name called) q = next_name b w called
next b (tagged {w = w} e) open_round q =
    next_round b 1 w (ltb (depth w + 0) MOST_OPEN)
next b (tagged {w = w} e) open_curly q = ends (dead_with_int (int_opens_none w))
next b (tagged {w = w} e) x q = ends (unnamed w x)
next b (based {w = w}) (name called) q = next_name b w called
next b (based {w = w}) open_round q =
    next_round b 1 w (ltb (depth w + 0) MOST_OPEN)
next b (based {w = w}) x q = ends (unnamed w x)
next b (in_round {n = n} {w = w}) open_round q =
    next_round b (suc n) w (ltb (depth w + n) MOST_OPEN)
next b (in_round {n = n} {w = w}) (name called) q =
    ends (dead_with_base (bracket_dead n w called))
next b in_round x q = ends (dead_with_base refl)
next b itself open_square q = ends (same refl)
next b itself open_round q = ends (same refl)
next b itself x q = ends (dead_with_base refl)

-- ---- many tokens more

pub data Behind (b : Base) (q : Reached) (t : State) : Type 0 where
  still : Near bare q.state t → q.track ≡ behind_base b → Behind b q t
  alike : Alike q.state t → Behind b q t

abbrev pub reached : State → Track → Reached
reached s y = record { state = s; track = y }

pub behind_all : (b : Base) (s t : State) → Near bare s t → (xs : List Token) → HasNoComma xs → Behind b (run (reached s (behind_base b)) xs) (keeps t xs)
behind_all b s t n [] none = still n refl
behind_all b s t n (x ∷ xs) none =
    by_next (next b n x none.0) (λ near. behind_all b (keeping wide s x) (keeping wide t x) near xs none.1)
  where
    by_next : Next b (tracked s (behind_base b) x) (keeping wide s x) (keeping wide t x) → (Near bare (keeping wide s x) (keeping wide t x) → Behind b (run (reached (keeping wide s x) (behind_base b)) xs) (keeps (keeping wide t x) xs)) → Behind b (run (reached (keeping wide s x) (tracked s (behind_base b) x)) xs) (keeps (keeping wide t x) xs)
    by_next (goes_on near e) more =
        subst (λ z. Behind b (run (reached (keeping wide s x) z) xs) (keeps (keeping wide t x) xs)) (sym e) (more near)
    by_next (ends a) more =
        alike (subst (λ r. Alike r (keeps (keeping wide t x) xs)) (sym (run_state (reached (keeping wide s x) (tracked s (behind_base b) x)) xs)) (stay_alike (keeping wide s x) (keeping wide t x) xs none.1 a))

-- a token that leads nowhere, and would lead somewhere behind int32_t: the base is the reason that is told
pub by_this_base : (b : Base) (q : Reached) (t : State) (x : Token) → Behind b q t → is_dead q.state ≡ false → is_dead (keeping wide q.state x) ≡ true → is_dead (keeping wide t x) ≡ false → reason_by q.state q.track x ≡ Some (by_value b)
by_this_base b q t x (still n e) alive gone there =
    let lives_there : lives t x ≡ true = ap not (sym (kept_count t x) ∙ there) in
    ap (λ y. reason_by q.state y x) e ∙ ap (λ r. reason_of_base (lives r x) b) (near_sized n) ∙ ap (λ l. reason_of_base l b) lives_there
by_this_base b q t x (alike (same e)) alive gone there =
    absurd (true≢false (sym gone ∙ ap (λ r. is_dead (keeping wide r x)) e ∙ there))
by_this_base b q t x (alike (behind_a_star d)) alive gone there =
    absurd (true≢false (sym gone ∙ both_live d x ∙ there))
by_this_base b q t x (alike (dead_with_base e)) alive gone there =
    absurd (true≢false (sym (ap is_dead e) ∙ alive))
by_this_base b q t x (alike (dead_with_int e)) alive gone there =
    absurd (true≢false (sym (ap (λ r. is_dead (keeping wide r x)) e) ∙ there))

-- ---- where a type may stand

-- a word that a tag follows
pub data NearTag : State → State → Type 0 where
  behind_struct_word : {w : Where} → NearTag (after_struct w) (declarator an_int32 (unstarred 0) w)
  behind_word : {w : Where} → NearTag (wants_tag w) (declarator an_int32 (unstarred 0) w)

-- a tag behind it
pub near_tag : {s t : State} → NearTag s t → (tag : List ℕ) → Near bare (keeping wide s (name tag)) t
near_tag behind_struct_word tag = tagged refl
near_tag behind_word tag = based

pub tag_kept : {s t : State} → NearTag s t → (y : Track) (tag : List ℕ) → tracked s y (name tag) ≡ tag_behind y tag
tag_kept behind_struct_word y tag = refl
tag_kept behind_word y tag = refl

-- words and names that begin a base, and int32_t in their place
pub record TypeStands (s : State) : Type 0 where
  pub by_struct : NearTag (keeping wide s struct_word) (keeping wide s an_int)
  pub by_union : NearTag (keeping wide s union_word) (keeping wide s an_int)
  pub by_enum : NearTag (keeping wide s enum_word) (keeping wide s an_int)
  pub by_name : (called : List ℕ) → Near (kind_of_name called) (keeping wide s (name called)) (keeping wide s an_int)
  pub name_kept : (y : Track) (called : List ℕ) → tracked s y (name called) ≡ behind_base (a_type_named called)

pub type_stands : (s : State) → wants_a_type s ≡ true → TypeStands s
type_stands (wants_type w) e =
    record { by_struct = behind_struct_word; by_union = behind_word; by_enum = behind_word; by_name = λ called. based; name_kept = λ y called. refl }
type_stands (wants_base w) e =
    record { by_struct = behind_struct_word; by_union = behind_word; by_enum = behind_word; by_name = λ called. based; name_kept = λ y called. refl }
type_stands (opened head) e =
    record { by_struct = behind_struct_word; by_union = behind_word; by_enum = behind_word; by_name = λ called. based; name_kept = λ y called. refl }
type_stands (after_comma head ts) e =
    record { by_struct = behind_struct_word; by_union = behind_word; by_enum = behind_word; by_name = λ called. based; name_kept = λ y called. refl }
type_stands (after_member ts w) e =
    record { by_struct = behind_struct_word; by_union = behind_word; by_enum = behind_word; by_name = λ called. based; name_kept = λ y called. refl }
type_stands (list_opened u) e =
    record { by_struct = behind_struct_word; by_union = behind_word; by_enum = behind_word; by_name = λ called. based; name_kept = λ y called. refl }
type_stands (list_comma u) e =
    record { by_struct = behind_struct_word; by_union = behind_word; by_enum = behind_word; by_name = λ called. based; name_kept = λ y called. refl }
type_stands s e = absurd (true≢false (sym e))
