-- What the grammar has is accepted.
use Rattle.std.proofs.Common.{◌≡◌, ℕ, zero, suc, ◌+◌, ◌<◌, ◌⊎◌, inl, inr, Bool, true, false, List, [], ◌∷◌, ◌++◌, length, Option, Some, None, option_map, ap, sym, subst, refl, ◌∙◌, append-nil, lt-ltb, true≢false, arith}
use Rattle.ffi3_type_spec.specs.Tree.{Scalar, float, double, Tree, void, scalar, struct_of, array_of}
use Rattle.ffi3_cdecl_spec.specs.Tokens.{Dialect, plain, wide, Token, Sign, signed, unsigned, type_word, sign_word, const_word, short_word, int_word, long_word, int128_word, char_word, complex_word, void_word, name, number, open_round, close_round, open_curly, close_curly, open_square, close_square, star, comma, semicolon, dots}
use Rattle.ffi3_cdecl_spec.specs.Grammar.{Kind, whole, bare, nothing, MOST_OPEN, pointer_type, short_of, int_of, long_of, Declaration, declared, IsIntOrNot, no_int, with_int, IsLongTail, one_long, two_longs, IsSized, a_short, a_long, IsSigned, sign_alone, sign_of_char, sign_of_size, IsStars, one_star, more_stars, IsCounts, no_count, a_count, specifier_number, named_by, AreSpecifiers, no_more_words, a_word, Shape, a_value, an_array, handed, pointer_shape, array_shape, passed, member_type, returned, Naming, must_be_named, may_be_named, may_begin, opens_round, IsCalled, the_name, in_brackets, IsBase, by_word, by_size, by_sign, a_char, by_specifiers, a_void, a_tag, a_union, an_enum, a_name, a_struct, a_tagged_struct, IsQualified, unqualified, constant, IsType, itself, pointer_to, is_named_bound, IsSuffixes, no_suffix, known_array, open_array, named_array, a_list, IsDeclarator, a_pointer, a_named, unnamed, in_round, IsInner, inner_of, IsInners, last_inner, inner_dots, next_inner, IsInnerList, no_inners, inner_void, some_inners, IsMember, a_member, AreDeclared, one_declared, then_members, then_declared, IsMembers, last_member, next_member, of_a_base, IsParameter, without_name, with_name, a_declared_one, IsParameters, last_parameter, last_before_dots, before_types, next_parameter, IsParameterList, no_parameters, only_void, some_parameters, IsResult, a_result, no_result, Function, IsFunction, returns_pointer, a_function_here, a_function_inside, IsEnd, no_semicolon, one_semicolon, IsDeclarationIn, declares, declares_by}
use Rattle.ffi3_cdecl_spec.specs.Machine.{Round, unstarred, starred, brackets, bracket_inside, Head, Where, at_result, at_parameter, at_member, at_inner, Settled, a_parameter, an_inner, a_pointer_member, the_function, plain_member, starred_member, depth, depth_of, onto, arrays, Said, a_float, a_double, words_of, nothing_said, say, State, wants_type, wants_base, after_words, after_sign, after_short, after_long, after_long_long, after_struct, wants_star, sole_void, typed, opened, after_comma, member_named, after_member, declarator, round_opened, member_at, settled, list_opened, list_void, list_comma, closed, dead, based, based_in, step_base, words_go_on, opened_struct, step_declarator, step_unnamed, declared_name, parameter_by, inner_by, list_with_room, member_ends, function_named, closing, list_ended, itself_ends, step_closing, fixing, function_name, step_named_by, step_words, step, after, finish, begun, Accepts}
use Rattle.std.specs.Prelude.{⊤}
use Rattle.ffi3_cdecl_spec.proofs.Shapes.{arrays_shape, handed_arrays, value_member}
use Rattle.ffi3_cdecl_spec.proofs.Fixed.{more_fixed, more_again, one_more_fixed, none_before}
use Rattle.ffi3_cdecl_spec.proofs.Never.{none_some, never}
use Rattle.ffi3_cdecl_spec.proofs.Saying.{said_more, said_too_much}

module _ (r : Dialect) (d : Declaration) where
  -- ---- where a word that may follow is left out

  short_ends : (g : Sign) (w : Where) (ts : List Token) → Accepts r (typed (scalar (short_of g)) w) ts d → Accepts r (after_short g w) ts d
  short_ends g w (int_word ∷ xs) h = absurd (never r d xs h)
  short_ends g w xs h = h

  long_ends : (g : Sign) (w : Where) (ts : List Token) → Accepts r (typed (scalar (long_of g)) w) ts d → Accepts r (after_long g w) ts d
  long_ends g w (int_word ∷ xs) h = absurd (never r d xs h)
  long_ends g w (long_word ∷ xs) h = absurd (never r d xs h)
  long_ends g w xs h = h

  long_long_ends : (g : Sign) (w : Where) (ts : List Token) → Accepts r (typed (scalar (long_of g)) w) ts d → Accepts r (after_long_long g w) ts d
  long_long_ends g w (int_word ∷ xs) h = absurd (never r d xs h)
  long_long_ends g w xs h = h

  sign_ends : (g : Sign) (w : Where) (ts : List Token) → Accepts r (typed (scalar (int_of g)) w) ts d → Accepts r (after_sign g w) ts d
  sign_ends g w (char_word c ∷ xs) h = absurd (never r d xs h)
  sign_ends g w (short_word ∷ xs) h = absurd (never r d xs h)
  sign_ends g w (int_word ∷ xs) h = absurd (never r d xs h)
  sign_ends g w (long_word ∷ xs) h = absurd (never r d xs h)
  sign_ends g w (int128_word ∷ xs) h = absurd (never r d xs h)
  sign_ends g w xs h = h

  -- a base has no `const` in front
  base_as_type : (w : Where) (ts : List Token) → Accepts r (wants_base w) ts d → Accepts r (wants_type w) ts d
  base_as_type w (const_word ∷ xs) h = absurd (never r d xs h)
  base_as_type w xs h = h

  -- a type does not begin with the mark that ends
  type_as_member : (ts : List Tree) (w : Where) (xs : List Token) → Accepts r (wants_type (at_member ts w)) xs d → Accepts r (after_member ts w) xs d
  type_as_member ts w (close_curly ∷ xs) h = absurd (never r d xs h)
  type_as_member ts w xs h = h

  type_as_next : (head : Head) (ts : List Tree) (xs : List Token) → Accepts r (wants_type (at_parameter head ts)) xs d → Accepts r (after_comma head ts) xs d
  type_as_next head ts (dots ∷ xs) h = absurd (never r d xs h)
  type_as_next head ts xs h = h

  type_as_list : (u : Settled) (xs : List Token) → Accepts r (wants_type (at_inner u)) xs d → Accepts r (list_comma u) xs d
  type_as_list u (dots ∷ xs) h = absurd (never r d xs h)
  type_as_list u xs h = h

-- `void` first among the parameters
star_as_void : (d : Declaration) (head : Head) (xs : List Token) → Accepts plain (wants_star (at_parameter head [])) xs d → Accepts plain (sole_void head) xs d
star_as_void d head [] h = h
star_as_void d head (star ∷ xs) h = h
star_as_void d head (x ∷ xs) h = absurd (never plain d xs h)

declarator_as_void : (d : Declaration) (head : Head) (xs : List Token) → Accepts wide (declarator nothing (unstarred 0) (at_parameter head [])) xs d → Accepts wide (sole_void head) xs d
declarator_as_void d head (close_round ∷ xs) h = absurd (never wide d xs h)
declarator_as_void d head xs h = h

void_as_first : (r : Dialect) (d : Declaration) (head : Head) (xs : List Token) → Accepts r (based_in r nothing (at_parameter head [])) xs d → Accepts r (sole_void head) xs d
void_as_first plain d head xs h = star_as_void d head xs h
void_as_first wide d head xs h = declarator_as_void d head xs h

declarator_as_inner_void : (d : Declaration) (u : Settled) (xs : List Token) → Accepts wide (declarator nothing (unstarred 0) (at_inner u)) xs d → Accepts wide (list_void u) xs d
declarator_as_inner_void d u (close_round ∷ xs) h = absurd (never wide d xs h)
declarator_as_inner_void d u xs h = h

type_as_opened : (d : Declaration) (u : Settled) (xs : List Token) → Accepts wide (wants_type (at_inner u)) xs d → Accepts wide (list_opened u) xs d
type_as_opened d u (close_round ∷ xs) h = absurd (never wide d xs h)
type_as_opened d u (void_word ∷ xs) h = declarator_as_inner_void d u xs h
type_as_opened d u xs h = h

type_as_first : (r : Dialect) (d : Declaration) (head : Head) (xs : List Token) → Accepts r (wants_type (at_parameter head [])) xs d → Accepts r (opened head) xs d
type_as_first r d head (close_round ∷ xs) h = absurd (never r d xs h)
type_as_first r d head (void_word ∷ xs) h = void_as_first r d head xs h
type_as_first r d head xs h = h

-- ---- words of a type in the wide reading

-- no word of a type stands behind a base
specifier_dead : (k : Kind) (w : Where) (x : Token) → 0 < specifier_number x → step_declarator k (unstarred zero) w x ≡ dead
specifier_dead k w x h = grind arith

-- a word of a type, behind others and first
step_words_is : (s : Said) (w : Where) (x : Token) → 0 < specifier_number x → step_words s w x ≡ words_go_on w (say s x)
step_words_is s w (type_word float) h = refl
step_words_is s w (sign_word g) h = refl
step_words_is s w (char_word c) h = refl
step_words_is s w x h = grind arith

first_word_is : (w : Where) (x : Token) → 0 < specifier_number x → step_base wide w x ≡ words_go_on w (say nothing_said x)
first_word_is w (type_word float) h = refl
first_word_is w (sign_word g) h = refl
first_word_is w (char_word c) h = refl
first_word_is w x h = grind arith

none_kind : (k : Kind) → None ≡ Some k → ⊥
none_kind k e = cc

module _ (d : Declaration) where
  -- no "{" stands behind a base
  curly_dead : (w : Where) (xs : List Token) → Accepts wide (declarator bare (unstarred zero) w) (open_curly ∷ xs) d → ⊥
  curly_dead at_result xs h = never wide d xs h
  curly_dead _ xs h = never wide d xs h

  no_specifier : (k : Kind) (w : Where) (x : Token) (xs : List Token) → 0 < specifier_number x → Accepts wide (declarator k (unstarred zero) w) (x ∷ xs) d → ⊥
  no_specifier k w x xs h a =
      never wide d xs (subst (λ s. Accepts wide s xs d) (specifier_dead k w x h) a)

  behind_words : (s : Said) (k : Kind) (w : Where) (x : Token) (xs : List Token) → named_by (words_of s) ≡ Some k → Accepts wide (declarator k (unstarred zero) w) (x ∷ xs) d → Accepts wide (step_named_by (named_by (words_of s)) w x) xs d
  behind_words s k w x xs e a =
      subst (λ o. Accepts wide (step_named_by o w x) xs d) (sym e) a

  words_end : (s : Said) (k : Kind) (w : Where) (xs : List Token) → named_by (words_of s) ≡ Some k → Accepts wide (declarator k (unstarred zero) w) xs d → Accepts wide (after_words s w) xs d
  words_end s k w [] e a = absurd (none_some a)
  words_end s k w (sign_word signed ∷ xs) e a =
      absurd (no_specifier k w (sign_word signed) xs (omega arith) a)
  words_end s k w (sign_word unsigned ∷ xs) e a =
      absurd (no_specifier k w (sign_word unsigned) xs (omega arith) a)
  words_end s k w (short_word ∷ xs) e a =
      absurd (no_specifier k w short_word xs (omega arith) a)
  words_end s k w (int_word ∷ xs) e a =
      absurd (no_specifier k w int_word xs (omega arith) a)
  words_end s k w (long_word ∷ xs) e a =
      absurd (no_specifier k w long_word xs (omega arith) a)
  words_end s k w (int128_word ∷ xs) e a =
      absurd (no_specifier k w int128_word xs (omega arith) a)
  words_end s k w (char_word signed ∷ xs) e a =
      absurd (no_specifier k w (char_word signed) xs (omega arith) a)
  words_end s k w (char_word unsigned ∷ xs) e a =
      absurd (no_specifier k w (char_word unsigned) xs (omega arith) a)
  words_end s k w (complex_word ∷ xs) e a =
      absurd (no_specifier k w complex_word xs (omega arith) a)
  words_end s k w (type_word float ∷ xs) e a =
      absurd (no_specifier k w (type_word float) xs (omega arith) a)
  words_end s k w (type_word double ∷ xs) e a =
      absurd (no_specifier k w (type_word double) xs (omega arith) a)
  words_end s k w (x ∷ xs) e a = behind_words s k w x xs e a

  -- one word more, where what has been said with it runs
  word_runs : (ts ws : List Token) (x : Token) (s : Said) (k : Kind) (w : Where) → 0 < specifier_number x → ((t : Said) → named_by (words_of t ++ ws) ≡ Some k → Accepts wide (after_words t w) ts d) → (o : Option Said) → say s x ≡ o → named_by (words_of s ++ x ∷ ws) ≡ Some k → Accepts wide (words_go_on w o) ts d
  word_runs ts ws x s k w h runs (Some t) f e =
      runs t (sym (said_more s t x h f ws) ∙ e)
  word_runs ts ws x s k w h runs None f e =
      absurd (none_kind k (sym (said_too_much s x h f ws) ∙ e))

  words_run : {before behind ws : List Token} (s : Said) (k : Kind) (w : Where) → AreSpecifiers before behind ws → named_by (words_of s ++ ws) ≡ Some k → Accepts wide (declarator k (unstarred zero) w) behind d → Accepts wide (after_words s w) before d
  words_run {before = ts} s k w no_more_words e a =
      words_end s k w ts (ap named_by (sym (append-nil (words_of s))) ∙ e) a
  words_run s k w (a_word {before = ts} {ws = ws} {x = x} h more) e a =
      subst (λ t. Accepts wide t ts d) (sym (step_words_is s w x h)) (word_runs ts ws x s k w h (λ t f. words_run t k w more f a) (say s x) refl e)

  words_begin : {before behind ws : List Token} (k : Kind) (w : Where) → AreSpecifiers before behind ws → named_by ws ≡ Some k → Accepts wide (declarator k (unstarred zero) w) behind d → Accepts wide (wants_base w) before d
  words_begin k w no_more_words e a = absurd (none_kind k e)
  words_begin k w (a_word {before = ts} {ws = ws} {x = x} h more) e a =
      subst (λ t. Accepts wide t ts d) (sym (first_word_is w x h)) (word_runs ts ws x nothing_said k w h (λ t f. words_run t k w more f a) (say nothing_said x) refl e)

  -- a word that names a type alone
  type_word_runs : (r : Dialect) (s : Scalar) (w : Where) (ts : List Token) → Accepts r (based_in r (whole (scalar s)) w) ts d → Accepts r (wants_base w) (type_word s ∷ ts) d
  type_word_runs plain s w ts h = h
  type_word_runs wide float w ts h =
      words_end (a_float false) (whole (scalar float)) w ts refl h
  type_word_runs wide double w ts h =
      words_end (a_double false false) (whole (scalar double)) w ts refl h
  type_word_runs wide s w ts h = h

  -- a tag, in the plain reading and in the wide one
  tag_runs : (r : Dialect) (tag : List ℕ) (w : Where) (ts : List Token) → Accepts r (based_in r bare w) ts d → Accepts r (after_struct w) (name tag ∷ ts) d
  tag_runs plain tag w ts h = h
  tag_runs wide tag w (open_curly ∷ xs) h = absurd (curly_dead w xs h)
  tag_runs wide tag w ts h = h

module _ (r : Dialect) (d : Declaration) where
  -- ---- bases

  short_runs : {before behind : List Token} (g : Sign) (w : Where) → IsIntOrNot before behind → Accepts r (typed (scalar (short_of g)) w) behind d → Accepts r (after_short g w) before d
  short_runs {before = ts} g w no_int h = short_ends r d g w ts h
  short_runs g w with_int h = h

  long_long_runs : {before behind : List Token} (g : Sign) (w : Where) → IsIntOrNot before behind → Accepts r (typed (scalar (long_of g)) w) behind d → Accepts r (after_long_long g w) before d
  long_long_runs {before = ts} g w no_int h = long_long_ends r d g w ts h
  long_long_runs g w with_int h = h

  one_long_runs : {before behind : List Token} (g : Sign) (w : Where) → IsIntOrNot before behind → Accepts r (typed (scalar (long_of g)) w) behind d → Accepts r (after_long g w) before d
  one_long_runs {before = ts} g w no_int h = long_ends r d g w ts h
  one_long_runs g w with_int h = h

  long_runs : {before behind : List Token} (g : Sign) (w : Where) → IsLongTail before behind → Accepts r (typed (scalar (long_of g)) w) behind d → Accepts r (after_long g w) before d
  long_runs g w (one_long i) h = one_long_runs g w i h
  long_runs g w (two_longs i) h = long_long_runs g w i h

  signed_size_runs : {before behind : List Token} {s : Scalar} (g : Sign) (w : Where) → IsSized g before behind s → Accepts r (typed (scalar s) w) behind d → Accepts r (after_sign g w) before d
  signed_size_runs g w (a_short i) h = short_runs g w i h
  signed_size_runs g w (a_long i) h = long_runs g w i h
  signed_size_runs g w _ h = h

  sign_runs : {before behind : List Token} {s : Scalar} (g : Sign) (w : Where) → IsSigned g before behind s → Accepts r (typed (scalar s) w) behind d → Accepts r (after_sign g w) before d
  sign_runs {before = ts} g w sign_alone h = sign_ends r d g w ts h
  sign_runs g w sign_of_char h = h
  sign_runs g w (sign_of_size s) h = signed_size_runs g w s h

  pointed : {before behind : List Token} (w : Where) (t : Tree) → IsStars before behind → Accepts r (typed pointer_type w) behind d → Accepts r (typed t w) before d
  pointed w t one_star h = h
  pointed w t (more_stars s) h = pointed w pointer_type s h

  star_runs : {before behind : List Token} (w : Where) → IsStars before behind → Accepts r (typed pointer_type w) behind d → Accepts r (wants_star w) before d
  star_runs w one_star h = h
  star_runs w (more_stars s) h = pointed w pointer_type s h

  counts_run : {t : Tree} {before behind : List Token} {m : Tree} (ns : List ℕ) (ts : List Tree) (w : Where) → IsCounts t before behind m → Accepts r (after_member (arrays ns m ∷ ts) w) behind d → Accepts r (member_named t ns ts w) before d
  counts_run ns ts w no_count h = h
  counts_run ns ts w (a_count {n = n} c) h = counts_run (n ∷ ns) ts w c h

  opens : (w : Where) (ts : List Token) → depth w < MOST_OPEN → Accepts r (wants_type (at_member [] w)) ts d → Accepts r (opened_struct w) ts d
  opens w ts room h = rw (lt-ltb (depth w) MOST_OPEN room) h

size_runs : {before behind : List Token} {s : Scalar} (d : Declaration) (w : Where) → IsSized signed before behind s → Accepts plain (typed (scalar s) w) behind d → Accepts plain (wants_base w) before d
size_runs d w (a_short i) h = short_runs plain d signed w i h
size_runs d w (a_long i) h = long_runs plain d signed w i h
size_runs d w _ h = h

module _ (r : Dialect) (d : Declaration) where
  -- ---- the plain reading's types

  plain_starred : (k : Kind) (w : Where) {before behind : List Token} → IsStars before behind → Accepts r (typed pointer_type w) behind d → Accepts r (based k w) before d
  plain_starred (whole t) w s h = pointed r d w t s h
  plain_starred bare w s h = star_runs r d w s h
  plain_starred nothing at_result s h = pointed r d at_result void s h
  plain_starred nothing (at_parameter head ts) s h =
      star_runs r d (at_parameter head ts) s h
  plain_starred nothing (at_member ts w) s h =
      star_runs r d (at_member ts w) s h
  plain_starred nothing (at_inner u) s h = star_runs r d (at_inner u) s h

-- ---- declarators of the wide reading

-- What has been read behind a name: arrays of what stands outside, the last first; arrays of pointers; or what is handed as a pointer.
pub data Progress : Type 0 where
  still : List ℕ → Progress
  pointing : List ℕ → Progress
  lent : Progress

abbrev pub shape_with : Progress → Shape → Shape
shape_with (still ns) s = arrays_shape ns s
shape_with (pointing ns) s = arrays_shape ns pointer_shape
shape_with lent s = handed

abbrev pub with_bound : Progress → ℕ → Progress
with_bound (still ns) n = still (n ∷ ns)
with_bound g n = g

abbrev pub with_other : Progress → Progress
with_other (still ns) = lent
with_other g = g

abbrev pub with_star : Progress → Progress
with_star (still ns) = pointing ns
with_star g = g

shape_bound : (g : Progress) (e : Shape) (n : ℕ) → shape_with (with_bound g n) e ≡ shape_with g (array_shape e n)
shape_bound (still ns) e n = refl
shape_bound (pointing ns) e n = refl
shape_bound lent e n = refl

shape_other : (g : Progress) (e : Shape) → shape_with (with_other g) e ≡ shape_with g handed
shape_other (still ns) e = sym (handed_arrays ns)
shape_other (pointing ns) e = refl
shape_other lent e = refl

shape_star : (g : Progress) (e : Shape) → shape_with (with_star g) e ≡ shape_with g pointer_shape
shape_star (still ns) e = refl
shape_star (pointing ns) e = refl
shape_star lent e = refl

-- the state there
abbrev pub member_from : Option Tree → List ℕ → ℕ → List Tree → Where → State
member_from (Some t) ns n ts w = member_at (plain_member t ns n) ts w
member_from None ns n ts w = dead

abbrev pub member_state : Kind → Round → List ℕ → List Tree → Where → State
member_state k (unstarred n) ns ts w =
    member_from (member_type (a_value k)) ns n ts w
member_state k (starred n m) ns ts w = member_at (starred_member k ns n m) ts w

abbrev pub state_at : Where → Kind → Round → Progress → State
state_at at_result k o g = dead
state_at (at_parameter head ts) k o (still []) = parameter_by k o head ts
state_at (at_parameter head ts) k o g =
    settled (a_parameter head ts (brackets o))
state_at (at_inner u) k o (still []) = inner_by k o u
state_at (at_inner u) k o g = settled (an_inner u (brackets o))
state_at (at_member ts w) k o (still ns) = member_state k o ns ts w
state_at (at_member ts w) k o (pointing ns) =
    settled (a_pointer_member k ns ts w (brackets o))
state_at (at_member ts w) k o lent = dead

-- whether a name must be there
abbrev pub Suits : Naming → Where → Type 0
Suits may_be_named (at_parameter head ts) = ⊤
Suits may_be_named (at_inner u) = ⊤
Suits must_be_named (at_member ts w) = ⊤
Suits m w = ⊥

-- ---- one suffix, one bracket: the states there

-- what is settled behind a suffix that is no known array
abbrev lent_there : Where → Kind → Progress → Round → Option Settled
lent_there (at_parameter head ts) k g o =
    Some (a_parameter head ts (brackets o))
lent_there (at_inner u) k g o = Some (an_inner u (brackets o))
lent_there (at_member ts w) k (pointing ns) o =
    Some (a_pointer_member k ns ts w (brackets o))
lent_there w k g o = None

abbrev there_or_dead : (Settled → State) → Option Settled → State
there_or_dead state (Some u) = state u
there_or_dead state None = dead

abbrev IsSoDeep : ℕ → Option Settled → Type 0
IsSoDeep n (Some u) = depth_of u ≡ n
IsSoDeep n None = ⊤

lent_is : (w : Where) (g : Progress) (k : Kind) (o : Round) → state_at w k o (with_other g) ≡ there_or_dead (λ u. settled u) (lent_there w k g o)
lent_is (at_parameter head ts) lent k o = refl
lent_is (at_inner u) lent k o = refl
lent_is (at_member ts w) lent k o = refl
lent_is w g k o = refl

lent_depth : (w : Where) (g : Progress) (k : Kind) (o : Round) → IsSoDeep (depth w + brackets o) (lent_there w k g o)
lent_depth at_result g k o = tt
lent_depth (at_parameter head ts) g k o = omega arith
lent_depth (at_inner u) g k o = refl
lent_depth (at_member ts w) (pointing ns) k o = refl
lent_depth (at_member ts w) g k o = tt

bound_steps : (w : Where) (g : Progress) (o : Round) (k : Kind) (n : ℕ) → after wide (state_at w k o g) (open_square ∷ number n ∷ close_square ∷ []) ≡ state_at w k o (with_bound g n)
bound_steps (at_parameter head ts) (still []) (unstarred i) k n = refl
bound_steps (at_inner u) (still []) (unstarred i) (whole t) n = refl
bound_steps (at_member ts w) (still ns) (unstarred i) (whole t) n = refl
bound_steps w g o k n = refl

open_steps : (w : Where) (g : Progress) (o : Round) (k : Kind) → after wide (state_at w k o g) (open_square ∷ close_square ∷ []) ≡ state_at w k o (with_other g)
open_steps (at_parameter head ts) (still []) (unstarred i) k = refl
open_steps (at_inner u) (still []) (unstarred i) (whole t) = refl
open_steps (at_member ts w) (still ns) (unstarred i) (whole t) = refl
open_steps w g o k = refl

named_steps : (x : Token) (w : Where) (g : Progress) (o : Round) (k : Kind) → is_named_bound x ≡ true → after wide (state_at w k o g) (open_square ∷ x ∷ close_square ∷ []) ≡ state_at w k o (with_other g)
named_steps star (at_parameter head ts) (still []) (unstarred i) k is = refl
named_steps star (at_inner u) (still []) (unstarred i) (whole t) is = refl
named_steps star (at_member ts w) (still ns) (unstarred i) (whole t) is = refl
named_steps star w g o k is = refl
named_steps (name called) (at_parameter head ts) (still []) (unstarred i) k is = refl
named_steps (name called) (at_inner u) (still []) (unstarred i) (whole t) is = refl
named_steps (name called) (at_member ts w) (still ns) (unstarred i) (whole t) is = refl
named_steps (name called) w g o k is = refl
named_steps x w g o k is = absurd (true≢false (sym is))

no_list : (ts : List Tree) (w : Where) (k : Kind) (o : Round) (ns : List ℕ) → step wide (state_at (at_member ts w) k o (still ns)) open_round ≡ dead
no_list ts w k o ns = grind arith

list_begins : (w : Where) (g : Progress) (o : Round) (k : Kind) → step wide (state_at w k o g) open_round ≡ there_or_dead list_with_room (lent_there w k g o)
list_begins (at_parameter head ts) (still []) (unstarred i) k = refl
list_begins (at_inner u) (still []) (unstarred i) (whole t) = refl
list_begins (at_member ts w) (still ns) o k = no_list ts w k o ns
list_begins w g o k = refl

close_steps : (o : Round) (w : Where) (g : Progress) (k : Kind) → step wide (state_at w k (bracket_inside o) g) close_round ≡ state_at w k o g
close_steps (unstarred i) (at_parameter head ts) (still []) k = refl
close_steps (unstarred i) (at_inner u) (still []) (whole t) = refl
close_steps (unstarred i) (at_member ts w) (still ns) (whole t) = refl
close_steps (starred i j) (at_parameter head ts) (still []) k = refl
close_steps (starred i j) (at_inner u) (still []) k = refl
close_steps (starred i j) (at_member ts w) (still ns) k = refl
close_steps o w g k = refl

star_close_steps : (w : Where) (g : Progress) (o : Round) (k : Kind) → step wide (state_at w k (starred 0 (suc (brackets o))) g) close_round ≡ state_at w k o (with_star g)
star_close_steps (at_parameter head ts) (still []) o k = refl
star_close_steps (at_inner u) (still []) o k = refl
star_close_steps (at_member ts w) (still ns) o k = refl
star_close_steps w g o k = refl

one_less : (o : Round) → brackets (bracket_inside o) ≡ suc (brackets o)
one_less (unstarred n) = refl
one_less (starred n m) = refl

-- ---- where a name is left out

-- no star and no name stands there
star_dead : (w : Where) (k : Kind) (o : Round) → Suits may_be_named w → step wide (state_at w k o (still [])) star ≡ dead
star_dead w k o m = grind arith

name_dead : (w : Where) (k : Kind) (o : Round) (called : List ℕ) → Suits may_be_named w → step wide (state_at w k o (still [])) (name called) ≡ dead
name_dead w k o called m = grind arith

place_unfinished : (w : Where) (k : Kind) (o : Round) → Suits may_be_named w → finish (state_at w k o (still [])) ≡ None
place_unfinished w k o m = grind arith

-- tokens but "("
abbrev IsOther : Token → Type 0
IsOther open_round = ⊥
IsOther x = ⊤

-- other tokens lead alike from where a name is left out and from behind it
place_alike : (x : Token) (w : Where) (o : Round) (k : Kind) → IsOther x → Suits may_be_named w → step wide (state_at w k o (still [])) x ≡ step_unnamed k o w x
place_alike open_round w o k e m = absurd e
place_alike open_square (at_parameter head ts) (unstarred n) k e m = refl
place_alike open_square (at_inner u) (unstarred n) (whole t) e m = refl
place_alike x at_result o k e m = absurd m
place_alike x (at_member ts w) o k e m = absurd m
place_alike x (at_parameter head ts) (unstarred n) k e m = refl
place_alike x (at_inner u) (unstarred n) (whole t) e m = refl
place_alike x w o k e m = refl

name_steps : (w : Where) (n : Naming) (o : Round) (k : Kind) (called : List ℕ) → Suits n w → declared_name k o w called ≡ state_at w k o (still [])
name_steps at_result must_be_named o k called m = absurd m
name_steps at_result may_be_named o k called m = absurd m
name_steps (at_member ts w) n (unstarred i) (whole t) called m = refl
name_steps w n o k called m = refl

-- ---- the end of a member

abbrev member_end : Bool → Token
member_end true = semicolon
member_end false = comma

-- the type of a member, of a base of this kind
abbrev member_there : Progress → Kind → Option Tree
member_there (still ns) (whole t) = Some (arrays ns t)
member_there (pointing ns) k = Some (arrays ns pointer_type)
member_there g k = None

member_is : (g : Progress) (k : Kind) → member_type (shape_with g (a_value k)) ≡ member_there g k
member_is (still ns) (whole t) = value_member ns t
member_is (still []) k = refl
member_is (still (n ∷ ns)) k = ap member_type (handed_arrays ns)
member_is (pointing ns) k = value_member ns pointer_type
member_is lent k = refl

abbrev ends_as : Kind → List Tree → Where → Token → Option Tree → State
ends_as k ts w x (Some t) = member_ends k t ts w x
ends_as k ts w x None = dead

member_steps : (b : Bool) (g : Progress) (k : Kind) (ts : List Tree) (w : Where) → step wide (state_at (at_member ts w) k (unstarred zero) g) (member_end b) ≡ ends_as k ts w (member_end b) (member_there g k)
member_steps true (still ns) (whole t) ts w = refl
member_steps false (still ns) (whole t) ts w = refl
member_steps b g k ts w = refl

star_member_steps : (b : Bool) (g : Progress) (k : Kind) (ts : List Tree) (w : Where) → step wide (state_at (at_member ts w) k (starred zero zero) g) (member_end b) ≡ ends_as k ts w (member_end b) (member_there g (whole pointer_type))
star_member_steps true (still ns) k ts w = refl
star_member_steps false (still ns) k ts w = refl
star_member_steps b g k ts w = refl

module _ (d : Declaration) where
  -- a state by what it is
  led : {s t : State} (xs : List Token) → s ≡ t → Accepts wide t xs d → Accepts wide s xs d
  led xs e h = subst (λ s. Accepts wide s xs d) (sym e) h

  settled_named : (u : Settled) (x : Token) (xs : List Token) → is_named_bound x ≡ true → Accepts wide (settled u) xs d → Accepts wide (settled u) (open_square ∷ x ∷ close_square ∷ xs) d
  settled_named u star xs is h = h
  settled_named u (name called) xs is h = h
  settled_named u x xs is h = absurd (true≢false (sym is))

  -- a list that has room
  list_opens : (u : Settled) (xs : List Token) → depth_of u < MOST_OPEN → Accepts wide (list_opened u) xs d → Accepts wide (list_with_room u) xs d
  list_opens u xs room h = rw (lt-ltb (depth_of u) MOST_OPEN room) h

  -- what runs to the end of a list, from whatever is settled so deep
  abbrev Runs : ℕ → List Token → List Token → Type 0
  Runs n xs mid =
      (u : Settled) → depth_of u ≡ n → Accepts wide (settled u) mid d → Accepts wide (list_opened u) xs d

  list_runs_in : (n : ℕ) (xs mid : List Token) (o : Option Settled) → IsSoDeep n o → n < MOST_OPEN → Runs n xs mid → Accepts wide (there_or_dead (λ u. settled u) o) mid d → Accepts wide (there_or_dead list_with_room o) xs d
  list_runs_in n xs mid None deep room runs h = absurd (never wide d mid h)
  list_runs_in n xs mid (Some u) deep room runs h =
      list_opens u xs (subst (λ i. i < MOST_OPEN) (sym deep) room) (runs u deep h)

  list_steps : (w : Where) (k : Kind) (o : Round) (g : Progress) (n : ℕ) (xs mid : List Token) → n ≡ depth w + brackets o → n < MOST_OPEN → Runs n xs mid → Accepts wide (state_at w k o (with_other g)) mid d → Accepts wide (state_at w k o g) (open_round ∷ xs) d
  list_steps w k o g n xs mid e room runs h =
      led xs (list_begins w g o k) (list_runs_in n xs mid (lent_there w k g o) (subst (λ i. IsSoDeep i (lent_there w k g o)) (sym e) (lent_depth w g k o)) room runs (led mid (sym (lent_is w g k o)) h))

  unnamed_steps : (w : Where) (k : Kind) (o : Round) (xs : List Token) → Suits may_be_named w → opens_round xs ≡ false → Accepts wide (state_at w k o (still [])) xs d → Accepts wide (declarator k o w) xs d
  unnamed_steps w k o [] m e h =
      absurd (none_some (sym (place_unfinished w k o m) ∙ h))
  unnamed_steps w k o (star ∷ xs) m e h =
      absurd (never wide d xs (led xs (sym (star_dead w k o m)) h))
  unnamed_steps w k o (name called ∷ xs) m e h =
      absurd (never wide d xs (led xs (sym (name_dead w k o called m)) h))
  unnamed_steps w k o (open_round ∷ xs) m e h = absurd (true≢false e)
  unnamed_steps w k o (x ∷ xs) m e h =
      led xs (sym (place_alike x w o k tt m)) h

  -- ---- what stands in brackets begins as a declarator

  round_begins : (n : Naming) (w : Where) (k : Kind) (o : Round) (xs : List Token) → Suits n w → may_begin n xs ≡ true → Accepts wide (declarator k o w) xs d → Accepts wide (round_opened k o w) xs d
  round_begins n w k o [] m e h = h
  round_begins n w k o (star ∷ xs) m e h = h
  round_begins n w k o (open_round ∷ xs) m e h = h
  round_begins must_be_named (at_member ts w) k o (name called ∷ xs) m e h = h
  round_begins must_be_named (at_member ts w) k o (x ∷ xs) m e h =
      absurd (never wide d xs h)
  round_begins may_be_named w k o (x ∷ xs) m e h = absurd (true≢false (sym e))
  round_begins must_be_named w k o xs m e h = absurd m

  opens_bracket : (n : Naming) (w : Where) (k : Kind) (o : Round) (i : ℕ) (xs : List Token) → i ≡ depth w + brackets o → i < MOST_OPEN → Suits n w → may_begin n xs ≡ true → Accepts wide (declarator k (bracket_inside o) w) xs d → Accepts wide (declarator k o w) (open_round ∷ xs) d
  opens_bracket n w k o i xs e room m begins h =
      rw (lt-ltb (depth w + brackets o) MOST_OPEN (subst (λ j. j < MOST_OPEN) e room)) (round_begins n w k (bracket_inside o) xs m begins h)

  -- ---- the end of a member and of a parameter that is not kept

  member_done : (b : Bool) (k : Kind) (g : Progress) (t : Tree) {s : Shape} (ts : List Tree) (w : Where) (xs : List Token) → shape_with g (a_value k) ≡ s → member_type s ≡ Some t → Accepts wide (member_ends k t ts w (member_end b)) xs d → Accepts wide (state_at (at_member ts w) k (unstarred zero) g) (member_end b ∷ xs) d
  member_done b k g t ts w xs same is h =
      led xs (member_steps b g k ts w ∙ ap (λ o. ends_as k ts w (member_end b) o) (sym (member_is g k) ∙ ap member_type same ∙ is)) h

  star_member_done : (b : Bool) (k : Kind) (g : Progress) (t : Tree) {s : Shape} (ts : List Tree) (w : Where) (xs : List Token) → shape_with g pointer_shape ≡ s → member_type s ≡ Some t → Accepts wide (member_ends k t ts w (member_end b)) xs d → Accepts wide (state_at (at_member ts w) k (starred zero zero) g) (member_end b ∷ xs) d
  star_member_done b k g t ts w xs same is h =
      led xs (star_member_steps b g k ts w ∙ ap (λ o. ends_as k ts w (member_end b) o) (sym (member_is g (whole pointer_type)) ∙ ap member_type same ∙ is)) h

  inner_done : (g : Progress) (k : Kind) (u : Settled) (s : Shape) (xs : List Token) → (s ≡ a_value nothing → ⊥) → shape_with g (a_value k) ≡ s → Accepts wide (settled (an_inner u zero)) xs d → Accepts wide (state_at (at_inner u) k (unstarred zero) g) xs d
  inner_done (still []) nothing u s xs isnt e h = absurd (isnt (sym e))
  inner_done g k u s xs isnt e h = h

  star_inner_done : (g : Progress) (k : Kind) (u : Settled) (xs : List Token) → Accepts wide (settled (an_inner u zero)) xs d → Accepts wide (state_at (at_inner u) k (starred zero zero) g) xs d
  star_inner_done (still []) k u xs p = p
  star_inner_done g k u xs p = p

-- ---- types, declarators, and what stands in them

wide_isnt_plain : wide ≡ plain → ⊥
wide_isnt_plain e = cc

plain_isnt_wide : plain ≡ wide → ⊥
plain_isnt_wide e = cc

module _ (d : Declaration) where
  -- ---- the plain reading

  mutual
    plain_base : {n : ℕ} {before behind : List Token} {k : Kind} (w : Where) → depth w ≡ n → IsBase plain n before behind k → Accepts plain (based k w) behind d → Accepts plain (wants_base w) before d
    plain_base w e by_word h = h
    plain_base w e (by_size p s) h = size_runs d w s h
    plain_base w e (by_sign {g = g} p s) h = sign_runs plain d g w s h
    plain_base w e (a_char p) h = h
    plain_base w e (by_specifiers p ws is) h = absurd (plain_isnt_wide p)
    plain_base w e a_void h = h
    plain_base w e a_tag h = h
    plain_base w e (a_union p) h = absurd (plain_isnt_wide p)
    plain_base w e (an_enum p) h = absurd (plain_isnt_wide p)
    plain_base w e (a_name p is) h = absurd (plain_isnt_wide p)
    plain_base w e (a_struct {before = xs} room ms) h =
        opens plain d w xs (subst (λ n. n < MOST_OPEN) (sym e) room) (plain_members [] w (ap suc e) ms h)
    plain_base w e (a_tagged_struct p room ms) h = absurd (plain_isnt_wide p)

    plain_qualified : {n : ℕ} {before behind : List Token} {k : Kind} (w : Where) → depth w ≡ n → IsQualified plain n before behind k → Accepts plain (based k w) behind d → Accepts plain (wants_type w) before d
    plain_qualified w e (unqualified {before = xs} b) h =
        base_as_type plain d w xs (plain_base w e b h)
    plain_qualified w e (constant b) h = plain_base w e b h

    plain_type : {n : ℕ} {before behind : List Token} {t : Tree} (w : Where) → depth w ≡ n → IsType plain n before behind t → Accepts plain (typed t w) behind d → Accepts plain (wants_type w) before d
    plain_type w e (itself q) h = plain_qualified w e q h
    plain_type w e (pointer_to {k = k} q s) h =
        plain_qualified w e q (plain_starred plain d k w s h)

    plain_member_runs : {n : ℕ} {before behind : List Token} {t : Tree} (ts : List Tree) (w : Where) → suc (depth w) ≡ n → IsMember plain n before behind t → Accepts plain (after_member (t ∷ ts) w) behind d → Accepts plain (wants_type (at_member ts w)) before d
    plain_member_runs ts w e (a_member p t c) h =
        plain_type (at_member ts w) e t (counts_run plain d [] ts w c h)

    plain_members : {n : ℕ} {before behind : List Token} {ms : List Tree} (ts : List Tree) (w : Where) → suc (depth w) ≡ n → IsMembers plain n before behind ms → Accepts plain (typed (struct_of (onto ts ms)) w) behind d → Accepts plain (wants_type (at_member ts w)) before d
    plain_members ts w e (last_member m) h = plain_member_runs ts w e m h
    plain_members ts w e (next_member {middle = xs} {m = t} m ms) h =
        plain_member_runs ts w e m (type_as_member plain d (t ∷ ts) w xs (plain_members (t ∷ ts) w e ms h))
    plain_members ts w e (of_a_base p q ms) h = absurd (plain_isnt_wide p)

  -- ---- the wide reading

  mutual
    wide_base : {n : ℕ} {before behind : List Token} {k : Kind} (w : Where) → depth w ≡ n → IsBase wide n before behind k → Accepts wide (declarator k (unstarred zero) w) behind d → Accepts wide (wants_base w) before d
    wide_base w e (by_word {after = xs} {s = s}) h = type_word_runs d wide s w xs h
    wide_base w e (by_size p s) h = absurd (wide_isnt_plain p)
    wide_base w e (by_sign p s) h = absurd (wide_isnt_plain p)
    wide_base w e (a_char p) h = absurd (wide_isnt_plain p)
    wide_base w e (by_specifiers {k = k} p ws is) h =
        words_begin d k w ws is h
    wide_base w e a_void h = h
    wide_base w e (a_tag {after = xs} {tag = tag}) h = tag_runs d wide tag w xs h
    wide_base w e (a_union p) h = h
    wide_base w e (an_enum p) h = h
    wide_base {behind = xs} w e (a_name {called = called} p is) h =
        subst (λ k. Accepts wide (declarator k (unstarred zero) w) xs d) (sym is) h
    wide_base w e (a_struct {before = xs} room ms) h =
        opens wide d w xs (subst (λ n. n < MOST_OPEN) (sym e) room) (wide_members [] w (ap suc e) ms h)
    wide_base w e (a_tagged_struct {before = xs} p room ms) h =
        opens wide d w xs (subst (λ n. n < MOST_OPEN) (sym e) room) (wide_members [] w (ap suc e) ms h)

    wide_qualified : {n : ℕ} {before behind : List Token} {k : Kind} (w : Where) → depth w ≡ n → IsQualified wide n before behind k → Accepts wide (declarator k (unstarred zero) w) behind d → Accepts wide (wants_type w) before d
    wide_qualified w e (unqualified {before = xs} b) h =
        base_as_type wide d w xs (wide_base w e b h)
    wide_qualified w e (constant b) h = wide_base w e b h

    wide_members : {n : ℕ} {before behind : List Token} {ms : List Tree} (ts : List Tree) (w : Where) → suc (depth w) ≡ n → IsMembers wide n before behind ms → Accepts wide (declarator (whole (struct_of (onto ts ms))) (unstarred zero) w) behind d → Accepts wide (wants_type (at_member ts w)) before d
    wide_members ts w e (last_member (a_member p t c)) h = absurd (wide_isnt_plain p)
    wide_members ts w e (next_member (a_member p t c) ms) h =
        absurd (wide_isnt_plain p)
    wide_members ts w e (of_a_base p q ms) h =
        wide_qualified (at_member ts w) e q (wide_declared ts w e ms h)

    wide_declared : {n : ℕ} {before behind : List Token} {ms : List Tree} {k : Kind} (ts : List Tree) (w : Where) → suc (depth w) ≡ n → AreDeclared wide n k before behind ms → Accepts wide (declarator (whole (struct_of (onto ts ms))) (unstarred zero) w) behind d → Accepts wide (declarator k (unstarred zero) (at_member ts w)) before d
    wide_declared {k = k} ts w e (one_declared {after = xs} {t = t} q is) h =
        wide_declarator (at_member ts w) must_be_named k (unstarred zero) tt (omega (arith, e)) q (λ g same. member_done d true k g t ts w (close_curly ∷ xs) same is h) (λ g same. star_member_done d true k g t ts w (close_curly ∷ xs) same is h)
    wide_declared {k = k} ts w e (then_members {middle = xs} {t = t} q is ms) h =
        let more : Accepts wide (after_member (t ∷ ts) w) xs d = type_as_member wide d (t ∷ ts) w xs (wide_members (t ∷ ts) w e ms h) in
        wide_declarator (at_member ts w) must_be_named k (unstarred zero) tt (omega (arith, e)) q (λ g same. member_done d true k g t ts w xs same is more) (λ g same. star_member_done d true k g t ts w xs same is more)
    wide_declared {k = k} ts w e (then_declared {middle = xs} {t = t} q is ms) h =
        let more : Accepts wide (declarator k (unstarred zero) (at_member (t ∷ ts) w)) xs d = wide_declared (t ∷ ts) w e ms h in
        wide_declarator (at_member ts w) must_be_named k (unstarred zero) tt (omega (arith, e)) q (λ g same. member_done d false k g t ts w xs same is more) (λ g same. star_member_done d false k g t ts w xs same is more)

    wide_declarator : {n : ℕ} {before behind : List Token} {s t : Shape} (w : Where) (m : Naming) (k : Kind) (o : Round) → Suits m w → n ≡ depth w + brackets o → IsDeclarator wide m n before behind s t → ((g : Progress) → shape_with g s ≡ t → Accepts wide (state_at w k o g) behind d) → ((g : Progress) → shape_with g pointer_shape ≡ t → Accepts wide (state_at w k (starred zero (brackets o)) g) behind d) → Accepts wide (declarator k o w) before d
    wide_declarator w m k o fit e (a_pointer q) here starry =
        wide_declarator w m k (starred zero (brackets o)) fit e q starry starry
    wide_declarator w m k o fit e (a_named {before = xs} {called = called} q) here starry =
        led d xs (name_steps w m o k called fit) (wide_suffixes w k o (still []) e q here)
    wide_declarator w may_be_named k o fit e (unnamed {before = xs} no_list q) here starry =
        unnamed_steps d w k o xs fit no_list (wide_suffixes w k o (still []) e q here)
    wide_declarator {n = n} w m k o fit e (in_round {before = xs} {middle = ys} {e = f} begins room q r) here starry =
        opens_bracket d m w k o n xs e room fit begins (wide_declarator w m k (bracket_inside o) fit (omega (arith, e, one_less o)) q (λ g is. led d ys (close_steps o w g k) (wide_suffixes w k o g e r (λ j same. here j (same ∙ is)))) (λ g is. subst (λ i. Accepts wide (state_at w k (starred zero i) g) (close_round ∷ ys) d) (sym (one_less o)) (led d ys (star_close_steps w g o k) (wide_suffixes w k o (with_star g) e r (λ j same. here j (same ∙ shape_star g f ∙ is))))))

    wide_suffixes : {n : ℕ} {before behind : List Token} {s t : Shape} (w : Where) (k : Kind) (o : Round) (g : Progress) → n ≡ depth w + brackets o → IsSuffixes wide n before behind s t → ((j : Progress) → shape_with j s ≡ shape_with g t → Accepts wide (state_at w k o j) behind d) → Accepts wide (state_at w k o g) before d
    wide_suffixes w k o g e no_suffix here = here g refl
    wide_suffixes w k o g e (known_array {before = xs} {n = i} {e = f} q is) here =
        led d xs (bound_steps w g o k i) (wide_suffixes w k o (with_bound g i) e q (λ j same. here j (same ∙ shape_bound g f i ∙ ap (shape_with g) is)))
    wide_suffixes w k o g e (open_array {before = xs} {e = f} q) here =
        led d xs (open_steps w g o k) (wide_suffixes w k o (with_other g) e q (λ j same. here j (same ∙ shape_other g f)))
    wide_suffixes w k o g e (named_array {before = xs} {x = x} {e = f} is q) here =
        led d xs (named_steps x w g o k is) (wide_suffixes w k o (with_other g) e q (λ j same. here j (same ∙ shape_other g f)))
    wide_suffixes {n = n} w k o g e (a_list {before = xs} {middle = ys} {e = f} room l q) here =
        list_steps d w k o g n xs ys e room (λ u deep h. wide_list u (ap suc (sym deep)) l h) (wide_suffixes w k o (with_other g) e q (λ j same. here j (same ∙ shape_other g f)))

    wide_list : {n : ℕ} {before behind : List Token} (u : Settled) → n ≡ suc (depth_of u) → IsInnerList wide n before behind → Accepts wide (settled u) behind d → Accepts wide (list_opened u) before d
    wide_list u e no_inners h = h
    wide_list u e inner_void h = h
    wide_list u e (some_inners {before = xs} p) h =
        type_as_opened d u xs (wide_inners u e p h)

    wide_inners : {n : ℕ} {before behind : List Token} (u : Settled) → n ≡ suc (depth_of u) → IsInners wide n before behind → Accepts wide (settled u) behind d → Accepts wide (wants_type (at_inner u)) before d
    wide_inners u e (last_inner p) h = wide_inner u e p h
    wide_inners u e (inner_dots p) h = wide_inner u e p h
    wide_inners u e (next_inner {middle = xs} p ps) h =
        let more : Accepts wide (list_comma u) xs d = type_as_list wide d u xs (wide_inners u e ps h) in
        wide_inner u e p more

    wide_inner : {n : ℕ} {before behind : List Token} (u : Settled) → n ≡ suc (depth_of u) → IsInner wide n before behind → Accepts wide (settled (an_inner u zero)) behind d → Accepts wide (wants_type (at_inner u)) before d
    wide_inner {behind = xs} u e (inner_of {k = k} {s = s} q p isnt) h =
        wide_qualified (at_inner u) (sym e) q (wide_declarator (at_inner u) may_be_named k (unstarred zero) tt (omega (arith, e)) p (λ g is. inner_done d g k u s xs isnt is h) (λ g is. star_inner_done d g k u xs h))

-- ---- parameters

-- a list that has begun: no dots yet
abbrev new_head : List ℕ → Tree → Round → Head
new_head called t o =
    record { called = called; result_type = t; fixed = None; round = o }

abbrev parameter_end : Bool → Token
parameter_end true = close_round
parameter_end false = comma

passed_array : (ns : List ℕ) (t : Tree) → passed (arrays_shape ns (an_array t)) ≡ Some pointer_type
passed_array [] t = refl
passed_array (n ∷ ns) t = passed_array ns (array_of t n)

-- the type of a parameter, of a base of this kind
abbrev passed_there : Progress → Kind → Option Tree
passed_there (still []) k = passed (a_value k)
passed_there g k = Some pointer_type

passed_is : (g : Progress) (k : Kind) → passed (shape_with g (a_value k)) ≡ passed_there g k
passed_is (still (n ∷ ns)) (whole t) = passed_array ns (array_of t n)
passed_is (still (n ∷ ns)) k = ap passed (handed_arrays ns)
passed_is (pointing (n ∷ ns)) k = passed_array ns (array_of pointer_type n)
passed_is g k = refl

parameter_steps : (b : Bool) (g : Progress) (k : Kind) (head : Head) (ts : List Tree) → step wide (state_at (at_parameter head ts) k (unstarred zero) g) (parameter_end b) ≡ itself_ends (passed_there g k) head ts (parameter_end b)
parameter_steps true (still []) k head ts = refl
parameter_steps false (still []) k head ts = refl
parameter_steps b g k head ts = refl

star_parameter_steps : (b : Bool) (g : Progress) (k : Kind) (head : Head) (ts : List Tree) → step wide (state_at (at_parameter head ts) k (starred zero zero) g) (parameter_end b) ≡ itself_ends (passed_there g (whole pointer_type)) head ts (parameter_end b)
star_parameter_steps true (still []) k head ts = refl
star_parameter_steps false (still []) k head ts = refl
star_parameter_steps b g k head ts = refl

no_tree : (t : Tree) → None ≡ Some t → ⊥
no_tree t e = cc

one_tree : (t u : Tree) → Some t ≡ Some u → t ≡ u
one_tree t u e = cc

module _ (d : Declaration) where
  parameter_done : (b : Bool) (k : Kind) (g : Progress) (t : Tree) (s : State) (head : Head) (ts : List Tree) (xs : List Token) → step wide s (parameter_end b) ≡ itself_ends (passed_there g k) head ts (parameter_end b) → passed (shape_with g (a_value k)) ≡ Some t → Accepts wide (step_closing wide head (t ∷ ts) (parameter_end b)) xs d → Accepts wide s (parameter_end b ∷ xs) d
  parameter_done b k g t s head ts xs steps is h =
      led d xs (steps ∙ ap (λ o. itself_ends o head ts (parameter_end b)) (sym (passed_is g k) ∙ is)) h

  -- a parameter, by what follows it
  parameter_runs : (r : Dialect) (b : Bool) (head : Head) (ts : List Tree) (t : Tree) {before : List Token} (xs : List Token) → IsParameter r before (parameter_end b ∷ xs) t → Accepts r (step_closing r head (t ∷ ts) (parameter_end b)) xs d → Accepts r (wants_type (at_parameter head ts)) before d
  parameter_runs plain true head ts t xs (without_name p q) h =
      plain_type d (at_parameter head ts) refl q h
  parameter_runs plain false head ts t xs (without_name p q) h =
      plain_type d (at_parameter head ts) refl q h
  parameter_runs plain b head ts t xs (with_name p q) h =
      plain_type d (at_parameter head ts) refl q h
  parameter_runs plain b head ts t xs (a_declared_one p q f e) h =
      absurd (plain_isnt_wide p)
  parameter_runs wide b head ts t xs (without_name p q) h =
      absurd (wide_isnt_plain p)
  parameter_runs wide b head ts t xs (with_name p q) h =
      absurd (wide_isnt_plain p)
  parameter_runs wide b head ts t xs (a_declared_one {k = k} p q f e) h =
      wide_qualified d (at_parameter head ts) refl q (wide_declarator d (at_parameter head ts) may_be_named k (unstarred zero) tt (omega arith) f (λ g s. parameter_done b k g t (state_at (at_parameter head ts) k (unstarred zero) g) head ts xs (parameter_steps b g k head ts) (ap passed s ∙ e) h) (λ g s. parameter_done b (whole pointer_type) g t (state_at (at_parameter head ts) k (starred zero zero) g) head ts xs (star_parameter_steps b g k head ts) (ap passed s ∙ e) h))

  by_fixed : {f g : Option ℕ} (r : Dialect) (head : Head) (ts : List Tree) (xs : List Token) → f ≡ g → Accepts r (list_ended r head ts g) xs d → Accepts r (list_ended r head ts f) xs d
  by_fixed r head ts xs e h =
      subst (λ f. Accepts r (list_ended r head ts f) xs d) (sym e) h

  none_mapped : (f : Option ℕ) → None ≡ option_map suc f → None ≡ f
  none_mapped None e = refl
  none_mapped (Some i) e = absurd (cc)

  -- behind the dots
  types_run : {before behind : List Token} {us : List Tree} {f : Option ℕ} (head : Head) (n : ℕ) (ts : List Tree) → IsParameters wide before behind us f → None ≡ f → Accepts wide (list_ended wide (fixing head n) (onto ts us) (Some n)) behind d → Accepts wide (wants_type (at_parameter (fixing head n) ts)) before d
  types_run head n ts (last_parameter {after = xs} {t = t} p) e h =
      parameter_runs wide true (fixing head n) ts t xs p h
  types_run head n ts (last_before_dots p) e h = absurd (cc)
  types_run head n ts (before_types p q ps) e h = absurd (cc)
  types_run head n ts (next_parameter {middle = xs} {t = t} {fixed = g} p ps) e h =
      parameter_runs wide false (fixing head n) ts t xs p (types_run head n (t ∷ ts) ps (none_mapped g e) h)

  dots_run : (r : Dialect) (called : List ℕ) (result : Tree) (o : Round) (ts : List Tree) (xs : List Token) → Accepts r (list_ended r (new_head called result o) (onto ts []) (Some (length ts))) xs d → Accepts r (after_comma (new_head called result o) ts) (dots ∷ close_round ∷ xs) d
  dots_run plain called result o ts xs h = h
  dots_run wide called result o ts xs h = h

  parameters_run : (r : Dialect) {before behind : List Token} {us : List Tree} {f : Option ℕ} (called : List ℕ) (result : Tree) (o : Round) (ts : List Tree) → IsParameters r before behind us f → Accepts r (list_ended r (new_head called result o) (onto ts us) (more_fixed (length ts) f)) behind d → Accepts r (wants_type (at_parameter (new_head called result o) ts)) before d
  parameters_run r called result o ts (last_parameter {after = xs} {t = t} p) h =
      parameter_runs r true (new_head called result o) ts t xs p h
  parameters_run r called result o ts (last_before_dots {after = xs} {t = t} p) h =
      parameter_runs r false (new_head called result o) ts t (dots ∷ close_round ∷ xs) p (dots_run r called result o (t ∷ ts) xs (by_fixed r (new_head called result o) (onto (t ∷ ts) []) xs (one_more_fixed (length ts)) h))
  parameters_run plain called result o ts (before_types p q ps) h =
      absurd (plain_isnt_wide p)
  parameters_run wide {behind = ys} called result o ts (before_types {middle = xs} {t = t} {ts = us} p q ps) h =
      parameter_runs wide false (new_head called result o) ts t (dots ∷ comma ∷ xs) q (types_run (new_head called result o) (length (t ∷ ts)) (t ∷ ts) ps refl (by_fixed wide (new_head called result o) (onto (t ∷ ts) us) ys (one_more_fixed (length ts)) h))
  parameters_run r {behind = ys} called result o ts (next_parameter {middle = xs} {t = t} {ts = us} {fixed = g} p ps) h =
      parameter_runs r false (new_head called result o) ts t xs p (type_as_next r d (new_head called result o) (t ∷ ts) xs (parameters_run r called result o (t ∷ ts) ps (by_fixed r (new_head called result o) (onto (t ∷ ts) us) ys (sym (more_again (length ts) g)) h)))

  list_runs : (r : Dialect) {before behind : List Token} {us : List Tree} {f : Option ℕ} (called : List ℕ) (result : Tree) (o : Round) → IsParameterList r before behind us f → Accepts r (list_ended r (new_head called result o) us f) behind d → Accepts r (opened (new_head called result o)) before d
  list_runs r called result o no_parameters h = h
  list_runs r called result o only_void h = h
  list_runs r {behind = ys} {us = us} {f = f} called result o (some_parameters {before = xs} p) h =
      type_as_first r d (new_head called result o) xs (parameters_run r called result o [] p (by_fixed r (new_head called result o) us ys (sym (none_before f)) h))

-- ---- the function

-- what stands outside of a name, where nothing but brackets and stars is round it
abbrev value_in : Kind → Round → Shape
value_in k (unstarred n) = a_value k
value_in k (starred n m) = pointer_shape

-- that stands there, or something that no function returns
abbrev StandsOutside : Shape → Kind → Round → Type 0
StandsOutside s k o = (returned s ≡ None) ⊎ (s ≡ value_in k o)

returned_array : (s : Shape) (n : ℕ) → returned (array_shape s n) ≡ None
returned_array (a_value (whole t)) n = refl
returned_array _ n = refl

-- no suffix, or one behind which no function returns what stands inside
suffix_returned : {r : Dialect} {n : ℕ} {before behind : List Token} {s t : Shape} → IsSuffixes r n before behind s t → ((before ≡ behind) × (t ≡ s)) ⊎ (returned t ≡ None)
suffix_returned no_suffix = inl (refl, refl)
suffix_returned (known_array {n = i} {e = f} q is) =
    inr (ap returned (sym is) ∙ returned_array f i)
suffix_returned (open_array q) = inr refl
suffix_returned (named_array is q) = inr refl
suffix_returned (a_list room l q) = inr refl

value_inside : (k : Kind) (o : Round) → value_in k o ≡ value_in k (bracket_inside o)
value_inside k (unstarred n) = refl
value_inside k (starred n m) = refl

module _ (d : Declaration) where
  round_function : (k : Kind) (o : Round) (xs : List Token) → Accepts wide (declarator k o at_result) xs d → Accepts wide (round_opened k o at_result) xs d
  round_function k o [] h = h
  round_function k o (star ∷ xs) h = h
  round_function k o (open_round ∷ xs) h = h
  round_function k o (name called ∷ xs) h = h
  round_function k o (x ∷ xs) h = absurd (never wide d xs h)

  function_bracket : (k : Kind) (o : Round) (i : ℕ) (xs : List Token) → i ≡ brackets o → i < MOST_OPEN → Accepts wide (declarator k (bracket_inside o) at_result) xs d → Accepts wide (declarator k o at_result) (open_round ∷ xs) d
  function_bracket k o i xs e room h =
      let below : 0 + brackets o < MOST_OPEN = omega (arith, e, room) in
      rw (lt-ltb (0 + brackets o) MOST_OPEN below) (round_function k (bracket_inside o) xs h)

  named_closes : (called : List ℕ) (t : Tree) (o : Round) (xs : List Token) → Accepts wide (function_named called t o) xs d → Accepts wide (function_named called t (bracket_inside o)) (close_round ∷ xs) d
  named_closes called t (unstarred n) xs h = h
  named_closes called t (starred n m) xs h = h

  called_run : {n : ℕ} {before after : List Token} {called : List ℕ} (k : Kind) (o : Round) (t : Tree) → n ≡ brackets o → ((p : Round) → value_in k p ≡ value_in k o → function_name called k p ≡ function_named called t p) → IsCalled n before after called → Accepts wide (function_named called t o) after d → Accepts wide (declarator k o at_result) before d
  called_run {after = xs} k o t e by (the_name {called = called}) h =
      subst (λ s. Accepts wide s xs d) (sym (by o refl)) h
  called_run {n = n} {after = ys} k o t e by (in_brackets {before = xs} {called = called} room c) h =
      function_bracket k o n xs e room (called_run k (bracket_inside o) t (ap suc e ∙ sym (one_less o)) (λ p is. by p (is ∙ sym (value_inside k o))) c (named_closes called t o ys h))

  name_by : (called : List ℕ) (k : Kind) (o : Round) (s : Shape) (t : Tree) → s ≡ value_in k o → returned s ≡ Some t → (p : Round) → value_in k p ≡ value_in k o → function_name called k p ≡ function_named called t p
  name_by called k o s t is e (unstarred n) same =
      let f : returned (a_value k) ≡ Some t = ap returned (same ∙ sym is) ∙ e in
      rw f refl
  name_by called k o s t is e (starred n m) same =
      let f : pointer_type ≡ t = one_tree pointer_type t (ap returned (same ∙ sym is) ∙ e) in
      ap (λ u. function_named called u (starred n m)) f

  settled_suffixes : {n : ℕ} {before behind : List Token} {s t : Shape} (u : Settled) → depth_of u ≡ n → IsSuffixes wide n before behind s t → Accepts wide (settled u) behind d → Accepts wide (settled u) before d
  settled_suffixes u e no_suffix h = h
  settled_suffixes u e (known_array q is) h = settled_suffixes u e q h
  settled_suffixes u e (open_array q) h = settled_suffixes u e q h
  settled_suffixes u e (named_array {before = xs} {x = x} is q) h =
      settled_named d u x xs is (settled_suffixes u e q h)
  settled_suffixes u e (a_list {before = xs} room l q) h =
      list_opens d u xs (subst (λ i. i < MOST_OPEN) (sym e) room) (wide_list d u (ap suc (sym e)) l (settled_suffixes u e q h))

  closing_closes : (f : Declaration) (o : Round) (xs : List Token) → Accepts wide (closing o f) xs d → Accepts wide (closing (bracket_inside o) f) (close_round ∷ xs) d
  closing_closes f (unstarred n) xs h = h
  closing_closes f (starred n m) xs h = h

  none_returned : (s : Shape) (t : Tree) → returned s ≡ None → returned s ≡ Some t → ⊥
  none_returned s t e f = no_tree t (sym e ∙ f)

  abbrev declares_it : Function → Declaration
  declares_it f = declared f.called f.result_type f.parameters f.fixed

  stands_inside : {n : ℕ} {before behind : List Token} {s t : Shape} (k : Kind) (o : Round) → IsSuffixes wide n before behind s t → StandsOutside s k o → StandsOutside t k (bracket_inside o)
  stands_inside k o q (inl none) =
      elim (suffix_returned q) [
        | inl same ↦ inl (ap returned same.1 ∙ none)
        | inr nothing_back ↦ inl nothing_back
      ]
  stands_inside k o q (inr is) =
      elim (suffix_returned q) [
        | inl same ↦ inr (same.1 ∙ is ∙ value_inside k o)
        | inr nothing_back ↦ inl nothing_back
      ]

  function_runs : {f : Function} {n : ℕ} {before behind : List Token} {s : Shape} (k : Kind) (o : Round) → n ≡ brackets o → IsFunction wide f n before behind s → StandsOutside s k o → ((t : Tree) → returned s ≡ Some t → Accepts wide (closing o (declares_it f)) behind d) → Accepts wide (closing (starred zero (brackets o)) (declares_it f)) behind d → Accepts wide (settled (the_function (declares_it f) (brackets o))) behind d → Accepts wide (declarator k o at_result) before d
  function_runs k o e (returns_pointer q) stands ends starry settles =
      function_runs k (starred zero (brackets o)) e q (inr refl) (λ t is. starry) starry settles
  function_runs {f = f} {s = s} k o e (a_function_here {middle = xs} c is l) (inl none) ends starry settles =
      absurd (none_returned s f.result_type none is)
  function_runs {f = f} {s = s} k o e (a_function_here {middle = xs} c is l) (inr same) ends starry settles =
      called_run k o f.result_type e (name_by f.called k o s f.result_type same is) c (list_runs d wide f.called f.result_type o l (ends f.result_type is))
  function_runs {f = f} {n = n} {behind = zs} {s = s} k o e (a_function_inside {before = xs} {middle = ys} {e = g} room q r) stands ends starry settles =
      function_bracket k o n xs e room (function_runs k (bracket_inside o) (ap suc e ∙ sym (one_less o)) q (stands_inside k o r stands) inner_ends inner_starry inner_settles)
    where
      inner_ends : (t : Tree) → returned g ≡ Some t → Accepts wide (closing (bracket_inside o) (declares_it f)) (close_round ∷ ys) d
      inner_ends t is =
          elim (suffix_returned r) [
            | inl same ↦ closing_closes (declares_it f) o ys (subst (λ ts. Accepts wide (closing o (declares_it f)) ts d) (sym same.0) (ends t (ap returned (sym same.1) ∙ is)))
            | inr none ↦ absurd (none_returned g t none is)
          ]

      inside_settles : Accepts wide (settled (the_function (declares_it f) (brackets o))) ys d
      inside_settles =
          settled_suffixes (the_function (declares_it f) (brackets o)) (sym e) r settles

      inner_starry : Accepts wide (closing (starred zero (brackets (bracket_inside o))) (declares_it f)) (close_round ∷ ys) d
      inner_starry =
          subst (λ i. Accepts wide (closing (starred zero i) (declares_it f)) (close_round ∷ ys) d) (sym (one_less o)) inside_settles

      inner_settles : Accepts wide (settled (the_function (declares_it f) (brackets (bracket_inside o)))) (close_round ∷ ys) d
      inner_settles =
          subst (λ i. Accepts wide (settled (the_function (declares_it f) i)) (close_round ∷ ys) d) (sym (one_less o)) inside_settles

  -- ---- the whole

  closed_ends : {ts : List Token} → IsEnd ts → Accepts plain (closed d) ts d
  closed_ends no_semicolon = refl
  closed_ends one_semicolon = refl

  closing_ends : {ts : List Token} → IsEnd ts → Accepts wide (closing (unstarred zero) d) ts d
  closing_ends no_semicolon = refl
  closing_ends one_semicolon = refl

  starry_ends : {ts : List Token} → IsEnd ts → Accepts wide (closing (starred zero zero) d) ts d
  starry_ends no_semicolon = refl
  starry_ends one_semicolon = refl

  settled_ends_it : {ts : List Token} → IsEnd ts → Accepts wide (settled (the_function d zero)) ts d
  settled_ends_it no_semicolon = refl
  settled_ends_it one_semicolon = refl

  result_runs : {before behind : List Token} {t : Tree} → IsResult plain before behind t → Accepts plain (typed t at_result) behind d → Accepts plain begun before d
  result_runs (a_result t) h = plain_type d at_result refl t h
  result_runs (no_result q) h = plain_qualified d at_result refl q h

pub accepted : {ts : List Token} {d : Declaration} (r : Dialect) → IsDeclarationIn r ts d → Accepts r begun ts d
accepted plain (declares {called = called} {result = result} {ts = us} {fixed = f} p q l e) =
    let d : Declaration = declared called result us f in
    result_runs d q (list_runs d plain called result (unstarred zero) l (closed_ends d e))
accepted plain (declares_by p q f e) = absurd (plain_isnt_wide p)
accepted wide (declares p q l e) = absurd (wide_isnt_plain p)
accepted wide (declares_by {k = k} {f = f} p q g e) =
    let d : Declaration = declared f.called f.result_type f.parameters f.fixed in
    wide_qualified d at_result refl q (function_runs d k (unstarred zero) refl g (inr refl) (λ t is. closing_ends d e) (starry_ends d e) (settled_ends_it d e))
