-- Two runs side by side behind a star, of a base of unknown size and of int32_t: until a comma each token leads somewhere in both or in none.
use Rattle.std.proofs.Common.{◌≡◌, ℕ, zero, suc, ◌+◌, Bool, true, false, cond, ltb, List, [], Option, Some, None, refl, ap, subst}
use Rattle.ffi3_type_spec.specs.Tree.{Scalar, float, double, Tree}
use Rattle.ffi3_cdecl_spec.specs.Tokens.{wide, Token, type_word, sign_word, const_word, short_word, int_word, long_word, int128_word, char_word, complex_word, void_word, struct_word, union_word, enum_word, name, number, open_round, close_round, open_curly, close_curly, open_square, close_square, comma, semicolon, star}
use Rattle.ffi3_cdecl_spec.specs.Grammar.{Kind, whole, bare, nothing, a_value, member_type, MOST_OPEN, pointer_type, named_by}
use Rattle.ffi3_cdecl_spec.specs.Machine.{Round, unstarred, starred, and_more, brackets, bracket_inside, Where, at_result, at_parameter, at_member, at_inner, Settled, an_inner, a_pointer_member, Member, plain_member, starred_member, depth, depth_of, arrays, Said, words_of, say, State, wants_type, wants_base, after_words, after_struct, after_struct_tag, wants_tag, after_member, declarator, round_opened, inner_nothing, member_at, member_bound, member_bounded, settled, square_opened, square_filled, list_opened, list_void, dead, word_said, step_base, step_type, words_go_on, fewer, brackets_of, member_ends, inner_ends, settled_ends, bracket_or_end, list_with_room, open_bracket, member_by, member_name, inner_by, declared_name, nothing_or_bracket, step_unnamed, step_declarator, name_in_bracket, step_round_opened, step_member_at, opened_struct, step_struct_tag, step_named_by, step_words, is_dead}
use Rattle.ffi3_cdecl_spec.specs.OnePass.{keeping}
use Rattle.ffi3_cdecl_spec.specs.Telling.{an_int32}
use Rattle.ffi3_cdecl_theorem.specs.Exactly.{IsNoComma}

-- ---- what differs in the kind of a base further outside alone, behind whose declarator a star stands

mutual
  pub data DeepPlace : Where → Where → Type 0 where
    in_list : {u v : Settled} → DeepSettled u v → DeepPlace (at_inner u) (at_inner v)
    in_struct : {ts : List Tree} {w v : Where} → DeepPlace w v → DeepPlace (at_member ts w) (at_member ts v)

  pub data DeepSettled : Settled → Settled → Type 0 where
    this_pointer : {ns : List ℕ} {ts : List Tree} {w : Where} {n : ℕ} → DeepSettled (a_pointer_member bare ns ts w n) (a_pointer_member an_int32 ns ts w n)
    of_inner : {u v : Settled} {n : ℕ} → DeepSettled u v → DeepSettled (an_inner u n) (an_inner v n)
    of_pointer : {k : Kind} {ns : List ℕ} {ts : List Tree} {w v : Where} {n : ℕ} → DeepPlace w v → DeepSettled (a_pointer_member k ns ts w n) (a_pointer_member k ns ts v n)

pub data Deep : State → State → Type 0 where
  -- no difference any more
  equal : {s t : State} → s ≡ t → Deep s t
  -- the base's own declarator, behind its star
  own_base : {n m : ℕ} {w : Where} → Deep (declarator bare (starred n m) w) (declarator an_int32 (starred n m) w)
  own_round : {n m : ℕ} {w : Where} → Deep (round_opened bare (starred n m) w) (round_opened an_int32 (starred n m) w)
  own_at : {ns : List ℕ} {n m : ℕ} {ts : List Tree} {w : Where} → Deep (member_at (starred_member bare ns n m) ts w) (member_at (starred_member an_int32 ns n m) ts w)
  own_bound : {ns : List ℕ} {n m : ℕ} {ts : List Tree} {w : Where} → Deep (member_bound (starred_member bare ns n m) ts w) (member_bound (starred_member an_int32 ns n m) ts w)
  own_bounded : {ns : List ℕ} {n m : ℕ} {ts : List Tree} {w : Where} → Deep (member_bounded (starred_member bare ns n m) ts w) (member_bounded (starred_member an_int32 ns n m) ts w)
  -- a list inside of it
  deep_type : {w v : Where} → DeepPlace w v → Deep (wants_type w) (wants_type v)
  deep_base : {w v : Where} → DeepPlace w v → Deep (wants_base w) (wants_base v)
  deep_struct : {w v : Where} → DeepPlace w v → Deep (after_struct w) (after_struct v)
  deep_words : {s : Said} {w v : Where} → DeepPlace w v → Deep (after_words s w) (after_words s v)
  deep_struct_tag : {w v : Where} → DeepPlace w v → Deep (after_struct_tag w) (after_struct_tag v)
  deep_tag : {w v : Where} → DeepPlace w v → Deep (wants_tag w) (wants_tag v)
  deep_member : {ts : List Tree} {w v : Where} → DeepPlace w v → Deep (after_member ts w) (after_member ts v)
  deep_declarator : {k : Kind} {o : Round} {w v : Where} → DeepPlace w v → Deep (declarator k o w) (declarator k o v)
  deep_round : {k : Kind} {o : Round} {w v : Where} → DeepPlace w v → Deep (round_opened k o w) (round_opened k o v)
  deep_at : {b : Member} {ts : List Tree} {w v : Where} → DeepPlace w v → Deep (member_at b ts w) (member_at b ts v)
  deep_bound : {b : Member} {ts : List Tree} {w v : Where} → DeepPlace w v → Deep (member_bound b ts w) (member_bound b ts v)
  deep_bounded : {b : Member} {ts : List Tree} {w v : Where} → DeepPlace w v → Deep (member_bounded b ts w) (member_bounded b ts v)
  deep_nothing : {n : ℕ} {u v : Settled} → DeepSettled u v → Deep (inner_nothing n u) (inner_nothing n v)
  deep_settled : {u v : Settled} → DeepSettled u v → Deep (settled u) (settled v)
  deep_square : {u v : Settled} → DeepSettled u v → Deep (square_opened u) (square_opened v)
  deep_filled : {u v : Settled} → DeepSettled u v → Deep (square_filled u) (square_filled v)
  deep_list : {u v : Settled} → DeepSettled u v → Deep (list_opened u) (list_opened v)
  deep_list_void : {u v : Settled} → DeepSettled u v → Deep (list_void u) (list_void v)

pub deep_dead : {s t : State} → Deep s t → is_dead s ≡ is_dead t
deep_dead (equal e) = ap is_dead e
deep_dead d = refl

-- one token more: behind a comma the base may matter, and all that is said is that both live or none
pub data After (x : Token) (s t : State) : Type 0 where
  deep : Deep s t → After x s t
  at_comma : x ≡ comma → is_dead s ≡ is_dead t → After x s t

mutual
  depth_deep : {w v : Where} → DeepPlace w v → depth w ≡ depth v
  depth_deep (in_list d) = ap suc (depth_of_deep d)
  depth_deep (in_struct p) = ap suc (depth_deep p)

  depth_of_deep : {u v : Settled} → DeepSettled u v → depth_of u ≡ depth_of v
  depth_of_deep this_pointer = refl
  depth_of_deep (of_inner {n = n} d) = ap (λ m. suc m + n) (depth_of_deep d)
  depth_of_deep (of_pointer {n = n} p) = ap (λ m. suc m + n) (depth_deep p)

-- ---- where a declarator ends

fewer_deep : {u v : Settled} → DeepSettled u v → (m : ℕ) → DeepSettled (fewer u m) (fewer v m)
fewer_deep this_pointer m = this_pointer
fewer_deep (of_inner d) m = of_inner d
fewer_deep (of_pointer p) m = of_pointer p

brackets_deep : {u v : Settled} → DeepSettled u v → brackets_of u ≡ brackets_of v
brackets_deep this_pointer = refl
brackets_deep d = refl

ends_deep : {w v : Where} (k : Kind) (t : Tree) (ts : List Tree) → DeepPlace w v → (x : Token) → After x (member_ends k t ts w x) (member_ends k t ts v x)
ends_deep k t ts p semicolon = deep (deep_member p)
ends_deep k t ts p comma = at_comma refl refl
ends_deep k t ts p x = deep (equal refl)

own_ends : (t : Tree) (ts : List Tree) (w : Where) (x : Token) → After x (member_ends bare t ts w x) (member_ends an_int32 t ts w x)
own_ends t ts w comma = at_comma refl refl
own_ends t ts w x = deep (equal refl)

inner_ends_deep : {u v : Settled} → DeepSettled u v → (x : Token) → After x (inner_ends u x) (inner_ends v x)
inner_ends_deep d close_round = deep (deep_settled d)
inner_ends_deep d comma = at_comma refl refl
inner_ends_deep d x = deep (equal refl)

settled_ends_deep : {u v : Settled} → DeepSettled u v → (x : Token) → After x (settled_ends u x) (settled_ends v x)
settled_ends_deep (this_pointer {ns = ns} {ts = ts} {w = w}) x =
    own_ends (arrays ns pointer_type) ts w x
settled_ends_deep (of_inner d) x = inner_ends_deep d x
settled_ends_deep (of_pointer {k = k} {ns = ns} {ts = ts} p) x =
    ends_deep k (arrays ns pointer_type) ts p x

bracket_deep : {u v : Settled} (n : ℕ) → DeepSettled u v → (x : Token) → After x (bracket_or_end n u x) (bracket_or_end n v x)
bracket_deep zero d x = settled_ends_deep d x
bracket_deep (suc n) d close_round = deep (deep_settled (fewer_deep d n))
bracket_deep (suc n) d x = deep (equal refl)

list_room_deep : {u v : Settled} (room : Bool) → DeepSettled u v → Deep (cond room (list_opened u) dead) (cond room (list_opened v) dead)
list_room_deep true d = deep_list d
list_room_deep false d = equal refl

list_deep : {u v : Settled} → DeepSettled u v → Deep (list_with_room u) (list_with_room v)
list_deep {u = u} {v = v} d =
    subst (λ n. Deep (list_with_room u) (cond (ltb n MOST_OPEN) (list_opened v) dead)) (depth_of_deep d) (list_room_deep (ltb (depth_of u) MOST_OPEN) d)

closes_deep : {u v : Settled} → DeepSettled u v → (x : Token) → After x (bracket_or_end (brackets_of u) u x) (bracket_or_end (brackets_of v) v x)
closes_deep {u = u} {v = v} d x =
    subst (λ n. After x (bracket_or_end (brackets_of u) u x) (bracket_or_end n v x)) (brackets_deep d) (bracket_deep (brackets_of u) d x)

nothing_deep : {u v : Settled} (n : ℕ) → DeepSettled u v → (x : Token) → After x (nothing_or_bracket n u x) (nothing_or_bracket n v x)
nothing_deep zero d x = deep (equal refl)
nothing_deep (suc n) d close_round = deep (deep_nothing d)
nothing_deep (suc n) d x = deep (equal refl)

-- ---- declarators

round_room_deep : {w v : Where} (k : Kind) (o : Round) (room : Bool) → DeepPlace w v → Deep (cond room (round_opened k (bracket_inside o) w) dead) (cond room (round_opened k (bracket_inside o) v) dead)
round_room_deep k o true p = deep_round p
round_room_deep k o false p = equal refl

open_deep : {w v : Where} (k : Kind) (o : Round) → DeepPlace w v → Deep (open_bracket k o w) (open_bracket k o v)
open_deep {w = w} {v = v} k o p =
    subst (λ n. Deep (open_bracket k o w) (cond (ltb (n + brackets o) MOST_OPEN) (round_opened k (bracket_inside o) v) dead)) (depth_deep p) (round_room_deep k o (ltb (depth w + brackets o) MOST_OPEN) p)

member_by_deep : {w v : Where} (t : Option Tree) (n : ℕ) (ts : List Tree) → DeepPlace w v → Deep (member_by t n ts w) (member_by t n ts v)
member_by_deep (Some t) n ts p = deep_at p
member_by_deep None n ts p = equal refl

member_name_deep : {w v : Where} (k : Kind) (o : Round) (ts : List Tree) → DeepPlace w v → Deep (member_name k o ts w) (member_name k o ts v)
member_name_deep k (unstarred n) ts p =
    member_by_deep (member_type (a_value k)) n ts p
member_name_deep k (starred n m) ts p = deep_at p

inner_by_deep : {u v : Settled} (k : Kind) (o : Round) → DeepSettled u v → Deep (inner_by k o u) (inner_by k o v)
inner_by_deep k (starred n m) d = deep_settled (of_inner d)
inner_by_deep nothing (unstarred n) d = deep_nothing d
inner_by_deep k (unstarred n) d = deep_settled (of_inner d)

name_deep : {w v : Where} (k : Kind) (o : Round) (called : List ℕ) → DeepPlace w v → Deep (declared_name k o w called) (declared_name k o v called)
name_deep k o called (in_list d) = inner_by_deep k o d
name_deep k o called (in_struct {ts = ts} p) = member_name_deep k o ts p

unnamed_deep : {w v : Where} (k : Kind) (o : Round) → DeepPlace w v → (x : Token) → After x (step_unnamed k o w x) (step_unnamed k o v x)
unnamed_deep k o (in_struct p) x = deep (equal refl)
unnamed_deep k o (in_list d) open_square = deep (deep_square (of_inner d))
unnamed_deep k (starred n m) (in_list d) x =
    bracket_deep (and_more n m) (of_inner d) x
unnamed_deep nothing (unstarred n) (in_list d) x = nothing_deep n d x
unnamed_deep k (unstarred n) (in_list d) x = bracket_deep n (of_inner d) x

declarator_deep : {w v : Where} (k : Kind) (o : Round) → DeepPlace w v → (x : Token) → After x (step_declarator k o w x) (step_declarator k o v x)
declarator_deep k o p star = deep (deep_declarator p)
declarator_deep k o p (name called) = deep (name_deep k o called p)
declarator_deep k o p open_round = deep (open_deep k o p)
declarator_deep k o p x = unnamed_deep k o p x

in_bracket_deep : {w v : Where} (k : Kind) (o : Round) (called : List ℕ) → DeepPlace w v → Deep (name_in_bracket k o w called) (name_in_bracket k o v called)
in_bracket_deep k o called (in_list d) = equal refl
in_bracket_deep k o called (in_struct {ts = ts} p) = member_name_deep k o ts p

round_deep : {w v : Where} (k : Kind) (o : Round) → DeepPlace w v → (x : Token) → Deep (step_round_opened k o w x) (step_round_opened k o v x)
round_deep k o p star = deep_declarator p
round_deep k o p open_round = open_deep k o p
round_deep k o p (name called) = in_bracket_deep k o called p
round_deep k o p x = equal refl

-- ---- types

said_deep : {w v : Where} (s : Scalar) → DeepPlace w v → Deep (word_said s w) (word_said s v)
said_deep float p = deep_words p
said_deep double p = deep_words p
said_deep s p = deep_declarator p

base_deep : {w v : Where} → DeepPlace w v → (x : Token) → Deep (step_base wide w x) (step_base wide v x)
base_deep p (type_word s) = said_deep s p
base_deep p (sign_word g) = deep_words p
base_deep p short_word = deep_words p
base_deep p int_word = deep_words p
base_deep p long_word = deep_words p
base_deep p int128_word = deep_words p
base_deep p (char_word c) = deep_words p
base_deep p complex_word = deep_words p
base_deep p void_word = deep_declarator p
base_deep p struct_word = deep_struct p
base_deep p union_word = deep_tag p
base_deep p enum_word = deep_tag p
base_deep p (name called) = deep_declarator p
base_deep p x = equal refl

type_deep : {w v : Where} → DeepPlace w v → (x : Token) → Deep (step_type wide w x) (step_type wide v x)
type_deep p const_word = deep_base p
type_deep p x = base_deep p x

go_on_deep : {w v : Where} (s : Option Said) → DeepPlace w v → Deep (words_go_on w s) (words_go_on v s)
go_on_deep (Some s) p = deep_words p
go_on_deep None p = equal refl

named_by_deep : {w v : Where} (k : Option Kind) → DeepPlace w v → (x : Token) → After x (step_named_by k w x) (step_named_by k v x)
named_by_deep (Some k) p x = declarator_deep k (unstarred 0) p x
named_by_deep None p x = deep (equal refl)

words_deep : {w v : Where} (s : Said) → DeepPlace w v → (x : Token) → After x (step_words s w x) (step_words s v x)
words_deep s p (sign_word g) = deep (go_on_deep (say s (sign_word g)) p)
words_deep s p short_word = deep (go_on_deep (say s short_word) p)
words_deep s p int_word = deep (go_on_deep (say s int_word) p)
words_deep s p long_word = deep (go_on_deep (say s long_word) p)
words_deep s p int128_word = deep (go_on_deep (say s int128_word) p)
words_deep s p (char_word c) = deep (go_on_deep (say s (char_word c)) p)
words_deep s p complex_word = deep (go_on_deep (say s complex_word) p)
words_deep s p (type_word float) = deep (go_on_deep (say s (type_word float)) p)
words_deep s p (type_word double) = deep (go_on_deep (say s (type_word double)) p)
words_deep s p x = named_by_deep (named_by (words_of s)) p x

struct_room_deep : {w v : Where} (room : Bool) → DeepPlace w v → Deep (cond room (wants_type (at_member [] w)) dead) (cond room (wants_type (at_member [] v)) dead)
struct_room_deep true p = deep_type (in_struct p)
struct_room_deep false p = equal refl

opened_deep : {w v : Where} → DeepPlace w v → Deep (opened_struct w) (opened_struct v)
opened_deep {w = w} {v = v} p =
    subst (λ n. Deep (opened_struct w) (cond (ltb n MOST_OPEN) (wants_type (at_member [] v)) dead)) (depth_deep p) (struct_room_deep (ltb (depth w) MOST_OPEN) p)

struct_tag_deep : {w v : Where} → DeepPlace w v → (x : Token) → After x (step_struct_tag w x) (step_struct_tag v x)
struct_tag_deep p open_curly = deep (opened_deep p)
struct_tag_deep p x = declarator_deep bare (unstarred 0) p x

-- ---- members

member_deep : {w v : Where} (b : Member) (ts : List Tree) → DeepPlace w v → (x : Token) → After x (step_member_at b ts w x) (step_member_at b ts v x)
member_deep b ts p open_square = deep (deep_bound p)
member_deep (plain_member t ns zero) ts p x =
    ends_deep (whole t) (arrays ns t) ts p x
member_deep (plain_member t ns (suc n)) ts p close_round = deep (deep_at p)
member_deep (plain_member t ns (suc n)) ts p x = deep (equal refl)
member_deep (starred_member k ns (suc n) m) ts p close_round = deep (deep_at p)
member_deep (starred_member k ns (suc n) m) ts p x = deep (equal refl)
member_deep (starred_member k ns zero zero) ts p x =
    ends_deep k (arrays ns pointer_type) ts p x
member_deep (starred_member k ns zero (suc m)) ts p close_round =
    deep (deep_settled (of_pointer p))
member_deep (starred_member k ns zero (suc m)) ts p x = deep (equal refl)

own_member : (ns : List ℕ) (n m : ℕ) (ts : List Tree) (w : Where) (x : Token) → After x (step_member_at (starred_member bare ns n m) ts w x) (step_member_at (starred_member an_int32 ns n m) ts w x)
own_member ns n m ts w open_square = deep own_bound
own_member ns (suc n) m ts w close_round = deep own_at
own_member ns (suc n) m ts w x = deep (equal refl)
own_member ns zero zero ts w x = own_ends (arrays ns pointer_type) ts w x
own_member ns zero (suc m) ts w close_round = deep (deep_settled this_pointer)
own_member ns zero (suc m) ts w x = deep (equal refl)

-- ---- the base's own declarator

own_unnamed : (n m : ℕ) (w : Where) (x : Token) → step_unnamed bare (starred n m) w x ≡ step_unnamed an_int32 (starred n m) w x
own_unnamed n m at_result x = refl
own_unnamed n m (at_member ts w) x = refl
own_unnamed n m (at_parameter head ts) open_square = refl
own_unnamed n m (at_parameter head ts) x = refl
own_unnamed n m (at_inner u) open_square = refl
own_unnamed n m (at_inner u) x = refl

own_name : (n m : ℕ) (w : Where) (called : List ℕ) → Deep (declared_name bare (starred n m) w called) (declared_name an_int32 (starred n m) w called)
own_name n m at_result called = equal refl
own_name n m (at_parameter head ts) called = equal refl
own_name n m (at_member ts w) called = own_at
own_name n m (at_inner u) called = equal refl

own_in_bracket : (n m : ℕ) (w : Where) (called : List ℕ) → Deep (name_in_bracket bare (starred n m) w called) (name_in_bracket an_int32 (starred n m) w called)
own_in_bracket n m at_result called = equal refl
own_in_bracket n m (at_parameter head ts) called = equal refl
own_in_bracket n m (at_member ts w) called = own_at
own_in_bracket n m (at_inner u) called = equal refl

own_room : (n m : ℕ) (w : Where) (room : Bool) → Deep (cond room (round_opened bare (starred n m) w) dead) (cond room (round_opened an_int32 (starred n m) w) dead)
own_room n m w true = own_round
own_room n m w false = equal refl

own_declarator : (n m : ℕ) (w : Where) (x : Token) → Deep (step_declarator bare (starred n m) w x) (step_declarator an_int32 (starred n m) w x)
own_declarator n m w star = own_base
own_declarator n m w (name called) = own_name n m w called
own_declarator n m w open_round =
    own_room (suc n) m w (ltb (depth w + and_more n m) MOST_OPEN)
own_declarator n m w x = equal (own_unnamed n m w x)

own_brackets : (n m : ℕ) (w : Where) (x : Token) → Deep (step_round_opened bare (starred n m) w x) (step_round_opened an_int32 (starred n m) w x)
own_brackets n m w star = own_base
own_brackets n m w open_round =
    own_room (suc n) m w (ltb (depth w + and_more n m) MOST_OPEN)
own_brackets n m w (name called) = own_in_bracket n m w called
own_brackets n m w x = equal refl

-- ---- one token more in each state

pub one_deep : {s t : State} → Deep s t → (x : Token) → After x (keeping wide s x) (keeping wide t x)
one_deep (equal e) x = deep (equal (ap (λ r. keeping wide r x) e))
one_deep (own_base {n = n} {m = m} {w = w}) x = deep (own_declarator n m w x)
one_deep (own_round {n = n} {m = m} {w = w}) x = deep (own_brackets n m w x)
one_deep (own_at {ns = ns} {n = n} {m = m} {ts = ts} {w = w}) x =
    own_member ns n m ts w x
one_deep own_bound (number n) = deep own_bounded
one_deep own_bound x = deep (equal refl)
one_deep own_bounded close_square = deep own_at
one_deep own_bounded x = deep (equal refl)
one_deep (deep_type p) x = deep (type_deep p x)
one_deep (deep_base p) x = deep (base_deep p x)
one_deep (deep_struct p) (name tag) = deep (deep_struct_tag p)
one_deep (deep_struct p) open_curly = deep (opened_deep p)
one_deep (deep_struct p) x = deep (equal refl)
one_deep (deep_words {s = s} p) x = words_deep s p x
one_deep (deep_struct_tag p) x = struct_tag_deep p x
one_deep (deep_tag p) (name tag) = deep (deep_declarator p)
one_deep (deep_tag p) x = deep (equal refl)
one_deep (deep_member p) close_curly = deep (deep_declarator p)
one_deep (deep_member {ts = ts} p) x = deep (type_deep (in_struct {ts = ts} p) x)
one_deep (deep_declarator {k = k} {o = o} p) x = declarator_deep k o p x
one_deep (deep_round {k = k} {o = o} p) x = deep (round_deep k o p x)
one_deep (deep_at {b = b} {ts = ts} p) x = member_deep b ts p x
one_deep (deep_bound p) (number n) = deep (deep_bounded p)
one_deep (deep_bound p) x = deep (equal refl)
one_deep (deep_bounded p) close_square = deep (deep_at p)
one_deep (deep_bounded p) x = deep (equal refl)
one_deep (deep_nothing d) open_square = deep (deep_square (of_inner d))
one_deep (deep_nothing d) open_round = deep (list_deep (of_inner d))
one_deep (deep_nothing {n = n} d) x = nothing_deep n d x
one_deep (deep_settled d) open_square = deep (deep_square d)
one_deep (deep_settled d) open_round = deep (list_deep d)
one_deep (deep_settled d) x = closes_deep d x
one_deep (deep_square d) (number n) = deep (deep_filled d)
one_deep (deep_square d) star = deep (deep_filled d)
one_deep (deep_square d) (name called) = deep (deep_filled d)
one_deep (deep_square d) close_square = deep (deep_settled d)
one_deep (deep_square d) x = deep (equal refl)
one_deep (deep_filled d) close_square = deep (deep_settled d)
one_deep (deep_filled d) x = deep (equal refl)
one_deep (deep_list d) close_round = deep (deep_settled d)
one_deep (deep_list d) void_word = deep (deep_list_void d)
one_deep (deep_list d) x = deep (type_deep (in_list d) x)
one_deep (deep_list_void d) close_round = deep (deep_settled d)
one_deep (deep_list_void d) x =
    declarator_deep nothing (unstarred 0) (in_list d) x

-- what no comma brought on
pub without_comma : {x : Token} {s t : State} → After x s t → IsNoComma x → Deep s t
without_comma (deep d) q = d
without_comma (at_comma e f) q = absurd (subst IsNoComma e q)

-- whether one leads nowhere
live_after : {x : Token} {s t : State} → After x s t → is_dead s ≡ is_dead t
live_after (deep d) = deep_dead d
live_after (at_comma e f) = f

pub both_live : {s t : State} → Deep s t → (x : Token) → is_dead (keeping wide s x) ≡ is_dead (keeping wide t x)
both_live d x = live_after (one_deep d x)
