-- What is accepted in the wide reading is in the grammar.
use Rattle.std.proofs.Common.{◌≡◌, ℕ, zero, suc, ◌+◌, ◌<◌, ◌⊎◌, inl, inr, Bool, true, false, cond, List, [], ◌∷◌, ◌++◌, length, Option, Some, None, ltb, ap, sym, subst, refl, ◌∙◌, append-nil, arith}
use Rattle.std.proofs.lemmas.Bool.{ltb-true}
use Rattle.ffi3_type_spec.specs.Tree.{Scalar, float, double, Tree, scalar}
use Rattle.ffi3_cdecl_spec.specs.Tokens.{wide, Token, type_word, sign_word, const_word, short_word, int_word, long_word, int128_word, char_word, complex_word, void_word, struct_word, union_word, enum_word, name, number, open_round, close_round, open_curly, close_curly, open_square, close_square, comma, semicolon, star, dots}
use Rattle.ffi3_cdecl_spec.specs.Grammar.{Kind, whole, bare, nothing, MOST_OPEN, pointer_type, specifier_number, named_by, no_more_words, a_word, kind_of_name, Shape, a_value, handed, pointer_shape, passed, member_type, returned, Naming, must_be_named, may_be_named, may_begin, opens_round, the_name, in_brackets, IsCalled, by_word, by_specifiers, a_void, a_tag, a_union, an_enum, a_name, a_struct, a_tagged_struct, IsQualified, unqualified, constant, no_suffix, known_array, open_array, a_list, IsDeclarator, IsInner, inner_of, last_inner, inner_dots, next_inner, no_inners, inner_void, some_inners, one_declared, then_members, then_declared, of_a_base, a_declared_one, IsFunction, Function, returns_pointer, a_function_here, a_function_inside, IsEnd, no_semicolon, one_semicolon, Declaration, IsDeclarationIn, declares_by, named_array, is_named_bound}
use Rattle.ffi3_cdecl_spec.specs.Machine.{Round, unstarred, starred, and_more, brackets, star_inside, bracket_inside, Head, fixing, Where, at_result, at_parameter, at_member, at_inner, Settled, a_parameter, an_inner, a_pointer_member, the_function, Member, plain_member, starred_member, bound_of, depth, depth_of, brackets_of, arrays, Said, an_integer, a_character, of_128_bits, a_float, a_double, a_complex, of_no_size, said_short, said_long, words_of, say, State, wants_type, wants_base, after_words, after_struct_tag, wants_tag, after_struct, sole_void, opened, after_comma, after_member, declarator, round_opened, function_named, closing, parameter_itself, inner_nothing, member_at, member_bound, member_bounded, settled, square_opened, square_filled, list_opened, list_void, list_comma, list_dots, wide_dots, closed, ended, dead, word_said, step_base, words_go_on, step_type, comma_of, step_closing, member_ends, inner_ends, function_ends, settled_ends, bracket_or_end, list_with_room, open_bracket, called_by, function_name, member_name, parameter_by, inner_by, declared_name, itself_ends, itself_or_bracket, nothing_or_bracket, step_unnamed, step_declarator, step_member_at, opened_struct, step_named_by, step_words, step, finish, begun, Accepts}
use Rattle.ffi3_cdecl_spec.proofs.Shapes.{arrays_shape, value_member, IsntVoid, Lent, whole_isnt_void, bare_isnt_void}
use Rattle.ffi3_cdecl_spec.proofs.Lists.{ParametersFollow, dots_end, types_follow, NextFollows, the_dots, the_next, CloseFollows, closes, goes_on, types_go_on, ListFollows, list_closes, list_of_void, list_of_parameters, ListIs, list_is, list_by, with_parameter}
use Rattle.ffi3_cdecl_spec.proofs.WideRest.{IsOver, over, Closings, no_bracket, a_bracket, Outside, no_outside, outside_bracket, inside_star, at_star, BehindName, behind_name, SettledFollows, settles, SomeInners, inners_and, InnersFollow, inner_ends_by_dots, more_inners, InnerEnds, inner_closes, inner_goes_on, InnerListFollows, inner_list_follows, RoundThen, a_round, SomeMembers, some_members, SomeDeclared, some_declared, no_more, more, MemberEnds, member_ends_here, member_goes_on, NumberThen, a_number, SquareThen, square, BoundThen, a_bound, no_bound, Closes, none_closes, outer_closes, inner_bracket_closes, star_closes, ReturnedBy, new_head, declares_it, naming, ClosingFollows, closing_follows, E, its_list, its_bracket, its_inner_bracket, FunctionInside, function_inside_of, FunctionFollows, function_inside, name_inside, ParameterEnds, parameter_ends, MemberFollows, member_follows, InnerFollows, inner_follows, SettledEnds, SettledRest, DeclaratorRest, KindFollows, StructOf, BaseFollows, TypeFollows, CurlyFollows, curly_follows, TagFollows, members_of_tag, no_members, AloneFollows, the_tag, StructFollows, a_tag_follows, members_follow, VoidFollows, void_closes, void_declared, InnerVoidFollows, inner_void_closes, inner_void_declared, MemberRest, Rest, named_bound}
use Rattle.ffi3_cdecl_spec.proofs.Rounds.{bracket_behind, nothing_behind, square_behind, list_behind, star_behind, kept_behind, name_declarator, star_declarator, bracket_declarator, Grounded, grounded, ground, unnamed_declarator, any_outside}
use Rattle.ffi3_cdecl_spec.proofs.PlainSound.{some_same}
use Rattle.ffi3_cdecl_spec.proofs.Never.{none_some}
use Rattle.ffi3_cdecl_spec.proofs.Saying.{said_more, sign_number, char_number}

-- a token behind words of a type: one more, or what a base is followed by
abbrev IsWordOrNone : Said → Where → Token → Type 0
IsWordOrNone s w x =
    ((0 < specifier_number x) × (step_words s w x ≡ words_go_on w (say s x))) ⊎ (step_words s w x ≡ step_named_by (named_by (words_of s)) w x)

word_or_none : (s : Said) (w : Where) (x : Token) → IsWordOrNone s w x
word_or_none s w (sign_word g) = inl (sign_number g, refl)
word_or_none s w (char_word c) = inl (char_number c, refl)
word_or_none s w (type_word float) = inl (omega arith, refl)
word_or_none s w (type_word double) = inl (omega arith, refl)
word_or_none s w short_word = inl (omega arith, refl)
word_or_none s w int_word = inl (omega arith, refl)
word_or_none s w long_word = inl (omega arith, refl)
word_or_none s w int128_word = inl (omega arith, refl)
word_or_none s w complex_word = inl (omega arith, refl)
word_or_none s w x = inr refl

begins_by_star : (a : Naming) (xs : List Token) → may_begin a (star ∷ xs) ≡ true
begins_by_star must_be_named xs = refl
begins_by_star may_be_named xs = refl

begins_by_round : (a : Naming) (xs : List Token) → may_begin a (open_round ∷ xs) ≡ true
begins_by_round must_be_named xs = refl
begins_by_round may_be_named xs = refl

-- ---- the function's result by what is round it

record ReturnedOutside (k : Kind) (m : ℕ) (o : Round) (t : Tree) (xs behind : List Token) : Type 0 where
  shape : Shape
  outside : Outside k m o shape xs behind
  returns : returned shape ≡ Some t

returned_outside : {m : ℕ} {xs behind : List Token} {t : Tree} (k : Kind) (o : Round) → Closes m o xs behind → ReturnedBy k o t → ReturnedOutside k m o t xs behind
returned_outside k (unstarred zero) none_closes is =
    record { shape = a_value k; outside = no_outside; returns = is }
returned_outside k (unstarred (suc n)) (outer_closes c) is =
    let out = returned_outside k (unstarred n) c is in
    record { shape = out.shape; outside = outside_bracket no_suffix out.outside; returns = out.returns }
returned_outside k (starred (suc n) j) (inner_bracket_closes c) is =
    let out = returned_outside k (starred n j) c is in
    record { shape = out.shape; outside = inside_star no_suffix out.outside; returns = out.returns }
returned_outside k (starred zero j) (star_closes c) is =
    record { shape = pointer_shape; outside = at_star c; returns = ap Some (sym is) }

-- what stands outside of a star
pub data StarIs (m j : ℕ) (mid behind : List Token) : Shape → Type 0 where
  star_is : Closings m j mid behind → StarIs m j mid behind pointer_shape

star_parts : {k : Kind} {m j : ℕ} {e : Shape} {mid behind : List Token} → Outside k m (starred zero j) e mid behind → StarIs m j mid behind e
star_parts (at_star c) = star_is c

-- ---- one bracket less

close_settles : {m n i : ℕ} {X : List Token → Type 0} {xs : List Token} → suc m ≡ i → SettledFollows m n X xs → SettledFollows i (suc n) X (close_round ∷ xs)
close_settles {m = m} {n = n} {X = X} {xs = xs} e (settles q c x) =
    subst (λ j. SettledFollows j (suc n) X (close_round ∷ xs)) e (settles {e = handed} no_suffix (a_bracket q c) x)

-- ---- members of a struct

with_declared : {n : ℕ} {F : List Tree → List Token → Type 0} {k : Kind} {xs mid : List Token} {s : Shape} {t : Tree} (ts : List Tree) → IsDeclarator wide must_be_named (suc n) xs mid (a_value k) s → member_type s ≡ Some t → MemberEnds n F ts k t mid → SomeDeclared n F k ts xs
with_declared ts p is (member_ends_here (no_more f)) =
    some_declared (one_declared p is) f
with_declared ts p is (member_ends_here (more (some_members ms f))) =
    some_declared (then_members p is ms) f
with_declared ts p is (member_goes_on (some_declared ms f)) =
    some_declared (then_declared p is ms) f

-- ---- parameters of a list that is not kept

with_inner : {m : ℕ} {G : List Token → Type 0} {xs mid : List Token} → IsInner wide (suc m) xs mid → InnerEnds m G mid → SomeInners m G xs
with_inner p (inner_closes g) = inners_and (last_inner p) g
with_inner p (inner_goes_on (inner_ends_by_dots g)) =
    inners_and (inner_dots p) g
with_inner p (inner_goes_on (more_inners (inners_and ps g))) =
    inners_and (next_inner p ps) g

module _ (d : Declaration) where
  -- ---- types from what is wanted of them

  unfixes : (head : Head) (n : ℕ) (ts : List Tree) (f : Option ℕ) (xs : List Token) → E d (fixing head n) ts f xs → E d head ts f xs
  unfixes head n ts f xs (closing_follows c e is) = closing_follows c e is

  parameter_ground : {xs mid : List Token} {k : Kind} (head : Head) (ts : List Tree) → IsQualified wide 0 xs mid k → Grounded may_be_named 0 (ParameterEnds d head ts) k mid → ParametersFollow wide (E d) head ts head.fixed xs
  parameter_ground head ts q (grounded p (parameter_ends is f)) =
      with_parameter wide (E d) unfixes head ts (a_declared_one refl q p is) f

  parameters_by : {xs : List Token} (head : Head) (ts : List Tree) → TypeFollows d (at_parameter head ts) xs → ParametersFollow wide (E d) head ts head.fixed xs
  parameters_by head ts f =
      parameter_ground head ts f.2 (ground may_be_named 0 (ParameterEnds d head ts) f.3)

  declared_ground : {xs : List Token} {k : Kind} (ts : List Tree) (w : Where) → Grounded must_be_named (suc (depth w)) (MemberFollows d (depth w) (StructOf d w) ts k) k xs → SomeDeclared (depth w) (StructOf d w) k ts xs
  declared_ground ts w (grounded p (member_follows is f)) =
      with_declared ts p is f

  declared_by_base : {xs : List Token} (k : Kind) (ts : List Tree) (w : Where) → KindFollows d k (at_member ts w) xs → SomeDeclared (depth w) (StructOf d w) k ts xs
  declared_by_base k ts w f =
      declared_ground ts w (ground must_be_named (suc (depth w)) (MemberFollows d (depth w) (StructOf d w) ts k) f)

  members_of_base : {xs mid : List Token} {k : Kind} (ts : List Tree) (w : Where) → IsQualified wide (suc (depth w)) xs mid k → SomeDeclared (depth w) (StructOf d w) k ts mid → SomeMembers (depth w) (StructOf d w) ts xs
  members_of_base ts w q (some_declared ms f) =
      some_members (of_a_base refl q ms) f

  members_by : {xs : List Token} (ts : List Tree) (w : Where) → TypeFollows d (at_member ts w) xs → SomeMembers (depth w) (StructOf d w) ts xs
  members_by ts w f =
      members_of_base ts w f.2 (declared_by_base f.1 ts w f.3)

  inner_ground : {xs mid : List Token} {k : Kind} (u : Settled) → IsQualified wide (suc (depth_of u)) xs mid k → Grounded may_be_named (suc (depth_of u)) (InnerFollows d (depth_of u) (SettledRest d u)) k mid → SomeInners (depth_of u) (SettledRest d u) xs
  inner_ground u q (grounded p (inner_follows isnt f)) =
      with_inner (inner_of q p isnt) f

  inners_by : {xs : List Token} (u : Settled) → TypeFollows d (at_inner u) xs → SomeInners (depth_of u) (SettledRest d u) xs
  inners_by u f =
      inner_ground u f.2 (ground may_be_named (suc (depth_of u)) (InnerFollows d (depth_of u) (SettledRest d u)) f.3)

  -- ---- parameters

  comma_by : (head : Head) (ts : List Tree) (xs : List Token) (f : Option ℕ) → head.fixed ≡ f → Rest d (comma_of f head ts) xs → CloseFollows wide (E d) head ts f (comma ∷ xs)
  comma_by head ts xs None e h =
      goes_on (subst (λ f. NextFollows wide (E d) head ts f xs) e h)
  comma_by head ts xs (Some n) e h =
      types_go_on (subst (λ f. ParametersFollow wide (E d) head ts f xs) e (parameters_by head ts h))

  back_closing : (head : Head) (ts : List Tree) (x : Token) (xs : List Token) → Rest d (step_closing wide head ts x) xs → CloseFollows wide (E d) head ts head.fixed (x ∷ xs)
  back_closing head ts close_round xs h = closes h
  back_closing head ts comma xs h = comma_by head ts xs head.fixed refl h
  back_closing head ts x xs h = absurd h

  -- ---- the end of a declarator

  back_member_ends : (k : Kind) (t : Tree) (ts : List Tree) (w : Where) (x : Token) (xs : List Token) → Rest d (member_ends k t ts w x) xs → MemberEnds (depth w) (StructOf d w) ts k t (x ∷ xs)
  back_member_ends k t ts w semicolon xs h = member_ends_here h
  back_member_ends k t ts w comma xs h =
      member_goes_on (declared_by_base k (t ∷ ts) w h)
  back_member_ends k t ts w x xs h = absurd h

  back_inner_ends : (u : Settled) (x : Token) (xs : List Token) → Rest d (inner_ends u x) xs → InnerEnds (depth_of u) (SettledRest d u) (x ∷ xs)
  back_inner_ends u close_round xs h = inner_closes h
  back_inner_ends u comma xs h = inner_goes_on h
  back_inner_ends u x xs h = absurd h

  semicolon_end : {xs : List Token} → IsOver xs → IsEnd (semicolon ∷ xs)
  semicolon_end over = one_semicolon

  back_function_ends : (e : Declaration) (x : Token) (xs : List Token) → Rest d (function_ends e x) xs → IsEnd (x ∷ xs) × (e ≡ d)
  back_function_ends e semicolon xs h = (semicolon_end h.0, h.1)
  back_function_ends e x xs h = absurd h

  back_settled_ends : (u : Settled) (x : Token) (xs : List Token) → Rest d (settled_ends u x) xs → SettledEnds d u (x ∷ xs)
  back_settled_ends (a_parameter head ts n) x xs h =
      back_closing head (pointer_type ∷ ts) x xs h
  back_settled_ends (an_inner u n) x xs h = back_inner_ends u x xs h
  back_settled_ends (a_pointer_member k ns ts w n) x xs h =
      back_member_ends k (arrays ns pointer_type) ts w x xs h
  back_settled_ends (the_function e n) x xs h = back_function_ends e x xs h

  back_bracket : (u : Settled) (x : Token) (xs : List Token) → Rest d (bracket_or_end (brackets_of u) u x) xs → SettledRest d u (x ∷ xs)
  back_bracket (a_parameter head ts zero) x xs h =
      settles {e = handed} no_suffix no_bracket (back_closing head (pointer_type ∷ ts) x xs h)
  back_bracket (an_inner u zero) x xs h =
      settles {e = handed} no_suffix no_bracket (back_inner_ends u x xs h)
  back_bracket (a_pointer_member k ns ts w zero) x xs h =
      settles {e = handed} no_suffix no_bracket (back_member_ends k (arrays ns pointer_type) ts w x xs h)
  back_bracket (the_function e zero) x xs h =
      settles {e = handed} no_suffix no_bracket (back_function_ends e x xs h)
  back_bracket (a_parameter head ts (suc n)) close_round xs h =
      close_settles refl h
  back_bracket (an_inner u (suc n)) close_round xs h =
      close_settles (omega arith) h
  back_bracket (a_pointer_member k ns ts w (suc n)) close_round xs h =
      close_settles (omega arith) h
  back_bracket (the_function e (suc n)) close_round xs h =
      close_settles refl h
  back_bracket (a_parameter head ts (suc n)) x xs h = absurd h
  back_bracket (an_inner u (suc n)) x xs h = absurd h
  back_bracket (a_pointer_member k ns ts w (suc n)) x xs h = absurd h
  back_bracket (the_function e (suc n)) x xs h = absurd h

  -- ---- lists that are not kept

  -- a "(" that has room
  pub record RoomFor (u : Settled) (xs : List Token) : Type 0 where
    pub room : depth_of u < MOST_OPEN
    pub list : InnerListFollows (depth_of u) (SettledRest d u) xs

  room_if : (u : Settled) (xs : List Token) (b : Bool) → ltb (depth_of u) MOST_OPEN ≡ b → Rest d (cond b (list_opened u) dead) xs → RoomFor u xs
  room_if u xs true e h =
      record { room = ltb-true (depth_of u) MOST_OPEN e; list = h }
  room_if u xs false e h = absurd h

  room_for : (u : Settled) (xs : List Token) → Rest d (list_with_room u) xs → RoomFor u xs
  room_for u xs h = room_if u xs (ltb (depth_of u) MOST_OPEN) refl h

  settled_square : {xs : List Token} (u : Settled) → BoundThen (SettledRest d u) xs → SettledRest d u (open_square ∷ xs)
  settled_square u (a_bound (settles q c x)) = settles (known_array q refl) c x
  settled_square u (no_bound (settles q c x)) = settles (open_array q) c x
  settled_square u (named_bound is (settles q c x)) =
      settles (named_array is q) c x

  settled_list : {xs : List Token} (u : Settled) → depth_of u < MOST_OPEN → InnerListFollows (depth_of u) (SettledRest d u) xs → SettledRest d u (open_round ∷ xs)
  settled_list u room (inner_list_follows l (settles q c x)) =
      settles (a_list room l q) c x

  number_bound : {G : List Token → Type 0} {xs : List Token} {n : ℕ} → SquareThen G xs → BoundThen G (number n ∷ xs)
  number_bound (square g) = a_bound g

  some_bound : {G : List Token → Type 0} {xs : List Token} (x : Token) → is_named_bound x ≡ true → SquareThen G xs → BoundThen G (x ∷ xs)
  some_bound x is (square g) = named_bound is g

  -- ---- parameters and those of lists that are not kept, behind their name

  lend_parameter : (head : Head) (ts : List Tree) (s : Shape) (xs : List Token) → Lent s → CloseFollows wide (E d) head (pointer_type ∷ ts) head.fixed xs → ParameterEnds d head ts s xs
  lend_parameter head ts s xs l f = parameter_ends l.is_passed f

  lend_inner : (u : Settled) (s : Shape) (xs : List Token) → Lent s → InnerEnds (depth_of u) (SettledRest d u) xs → InnerFollows d (depth_of u) (SettledRest d u) s xs
  lend_inner u s xs l f = inner_follows l.isnt_void f

  keep_inner : (u : Settled) (s : Shape) (xs : List Token) → IsntVoid s → InnerEnds (depth_of u) (SettledRest d u) xs → InnerFollows d (depth_of u) (SettledRest d u) s xs
  keep_inner u s xs isnt f = inner_follows isnt f

  so_deep : (n : ℕ) → n ≡ 0 + n
  so_deep n = omega arith

  parameter_square : {xs : List Token} (k : Kind) (o : Round) (head : Head) (ts : List Tree) → BoundThen (SettledRest d (a_parameter head ts (brackets o))) xs → BehindName 0 (ParameterEnds d head ts) k o (open_square ∷ xs)
  parameter_square k o head ts h =
      square_behind 0 (ParameterEnds d head ts) (CloseFollows wide (E d) head (pointer_type ∷ ts) head.fixed) (lend_parameter head ts) k o (so_deep (brackets o)) h

  parameter_list : {xs : List Token} (k : Kind) (n : ℕ) (head : Head) (ts : List Tree) → RoomFor (a_parameter head ts n) xs → BehindName 0 (ParameterEnds d head ts) k (unstarred n) (open_round ∷ xs)
  parameter_list k n head ts r =
      list_behind 0 (ParameterEnds d head ts) (CloseFollows wide (E d) head (pointer_type ∷ ts) head.fixed) (lend_parameter head ts) k (unstarred n) (so_deep n) r.room r.list

  parameter_star : {xs : List Token} (k : Kind) (i j : ℕ) (head : Head) (ts : List Tree) → SettledRest d (a_parameter head ts (and_more i j)) xs → BehindName 0 (ParameterEnds d head ts) k (starred i j) xs
  parameter_star k i j head ts h =
      star_behind 0 (ParameterEnds d head ts) (CloseFollows wide (E d) head (pointer_type ∷ ts) head.fixed) (lend_parameter head ts) k i j (so_deep (and_more i j)) h

  back_itself_ends : (k : Kind) (head : Head) (ts : List Tree) (x : Token) (xs : List Token) (o : Option Tree) → passed (a_value k) ≡ o → Rest d (itself_ends o head ts x) xs → ParameterEnds d head ts (a_value k) (x ∷ xs)
  back_itself_ends k head ts x xs (Some t) e h =
      parameter_ends e (back_closing head (t ∷ ts) x xs h)
  back_itself_ends k head ts x xs None e h = absurd h

  back_itself_or : (k : Kind) (n : ℕ) (head : Head) (ts : List Tree) (x : Token) (xs : List Token) → Rest d (itself_or_bracket k n head ts x) xs → BehindName 0 (ParameterEnds d head ts) k (unstarred n) (x ∷ xs)
  back_itself_or k zero head ts x xs h =
      nothing_behind 0 (ParameterEnds d head ts) k (back_itself_ends k head ts x xs (passed (a_value k)) refl h)
  back_itself_or k (suc n) head ts close_round xs h =
      bracket_behind 0 (ParameterEnds d head ts) k (unstarred n) h
  back_itself_or k (suc n) head ts x xs h = absurd h

  abbrev InnerName : Settled → Kind → Round → List Token → Type 0
  InnerName u k o xs =
      BehindName (suc (depth_of u)) (InnerFollows d (depth_of u) (SettledRest d u)) k o xs

  inner_square : {xs : List Token} (k : Kind) (o : Round) (u : Settled) → BoundThen (SettledRest d (an_inner u (brackets o))) xs → InnerName u k o (open_square ∷ xs)
  inner_square k o u h =
      square_behind (suc (depth_of u)) (InnerFollows d (depth_of u) (SettledRest d u)) (InnerEnds (depth_of u) (SettledRest d u)) (lend_inner u) k o refl h

  inner_list : {xs : List Token} (k : Kind) (n : ℕ) (u : Settled) → RoomFor (an_inner u n) xs → InnerName u k (unstarred n) (open_round ∷ xs)
  inner_list k n u r =
      list_behind (suc (depth_of u)) (InnerFollows d (depth_of u) (SettledRest d u)) (InnerEnds (depth_of u) (SettledRest d u)) (lend_inner u) k (unstarred n) refl r.room r.list

  inner_star : {xs : List Token} (k : Kind) (i j : ℕ) (u : Settled) → SettledRest d (an_inner u (and_more i j)) xs → InnerName u k (starred i j) xs
  inner_star k i j u h =
      star_behind (suc (depth_of u)) (InnerFollows d (depth_of u) (SettledRest d u)) (InnerEnds (depth_of u) (SettledRest d u)) (lend_inner u) k i j refl h

  inner_kept : {xs : List Token} (k : Kind) (n : ℕ) (u : Settled) → IsntVoid (a_value k) → SettledRest d (an_inner u n) xs → InnerName u k (unstarred n) xs
  inner_kept k n u isnt h =
      kept_behind (suc (depth_of u)) (InnerFollows d (depth_of u) (SettledRest d u)) (InnerEnds (depth_of u) (SettledRest d u)) (keep_inner u) k n refl isnt h

  back_nothing_or : (n : ℕ) (u : Settled) (x : Token) (xs : List Token) → Rest d (nothing_or_bracket n u x) xs → InnerName u nothing (unstarred n) (x ∷ xs)
  back_nothing_or zero u x xs h = absurd h
  back_nothing_or (suc n) u close_round xs h =
      bracket_behind (suc (depth_of u)) (InnerFollows d (depth_of u) (SettledRest d u)) nothing (unstarred n) h
  back_nothing_or (suc n) u x xs h = absurd h

  -- ---- members behind their name

  abbrev MemberName : List ℕ → List Tree → Where → Kind → Round → List Token → Type 0
  MemberName ns ts w k o xs =
      BehindName (suc (depth w)) (λ s. MemberFollows d (depth w) (StructOf d w) ts k (arrays_shape ns s)) k o xs

  one_bound : {xs : List Token} {k : Kind} {o : Round} (n : ℕ) (ns : List ℕ) (ts : List Tree) (w : Where) → MemberName (n ∷ ns) ts w k o xs → MemberName ns ts w k o (open_square ∷ number n ∷ close_square ∷ xs)
  one_bound n ns ts w (behind_name e q o f) =
      behind_name e (known_array q refl) o f

  member_square : {xs : List Token} (b : Member) (ts : List Tree) (w : Where) → NumberThen (λ n. SquareThen (MemberRest d (bound_of b n) ts w)) xs → MemberRest d b ts w (open_square ∷ xs)
  member_square (plain_member t ns n) ts w (a_number {n = i} (square g)) =
      one_bound i ns ts w g
  member_square (starred_member k ns n j) ts w (a_number {n = i} (square g)) =
      one_bound i ns ts w g

  member_done : {xs : List Token} (t : Tree) (ns : List ℕ) (ts : List Tree) (w : Where) → MemberEnds (depth w) (StructOf d w) ts (whole t) (arrays ns t) xs → MemberName ns ts w (whole t) (unstarred zero) xs
  member_done t ns ts w f =
      nothing_behind (suc (depth w)) (λ s. MemberFollows d (depth w) (StructOf d w) ts (whole t) (arrays_shape ns s)) (whole t) (member_follows (value_member ns t) f)

  pointer_done : {xs behind : List Token} {j m : ℕ} (k : Kind) (ns : List ℕ) (ts : List Tree) (w : Where) → m ≡ suc (depth w) + j → Closings m j xs behind → MemberEnds (depth w) (StructOf d w) ts k (arrays ns pointer_type) behind → MemberName ns ts w k (starred zero j) xs
  pointer_done k ns ts w e c f =
      behind_name e no_suffix (at_star c) (member_follows (value_member ns pointer_type) f)

  pointer_settles : {xs : List Token} {j : ℕ} (k : Kind) (ns : List ℕ) (ts : List Tree) (w : Where) → SettledRest d (a_pointer_member k ns ts w j) xs → MemberName ns ts w k (starred zero (suc j)) (close_round ∷ xs)
  pointer_settles {j = j} k ns ts w (settles q c f) =
      let deeper : suc (suc (depth w) + j) ≡ suc (depth w) + suc j = omega arith in
      behind_name deeper no_suffix (at_star (a_bracket q c)) (member_follows (value_member ns pointer_type) f)

  back_member_at : (b : Member) (ts : List Tree) (w : Where) (x : Token) (xs : List Token) → Rest d (step_member_at b ts w x) xs → MemberRest d b ts w (x ∷ xs)
  back_member_at (plain_member t ns n) ts w open_square xs h =
      member_square (plain_member t ns n) ts w h
  back_member_at (starred_member k ns n j) ts w open_square xs h =
      member_square (starred_member k ns n j) ts w h
  back_member_at (plain_member t ns zero) ts w x xs h =
      member_done t ns ts w (back_member_ends (whole t) (arrays ns t) ts w x xs h)
  back_member_at (plain_member t ns (suc n)) ts w close_round xs h =
      bracket_behind (suc (depth w)) (λ s. MemberFollows d (depth w) (StructOf d w) ts (whole t) (arrays_shape ns s)) (whole t) (unstarred n) h
  back_member_at (plain_member t ns (suc n)) ts w x xs h = absurd h
  back_member_at (starred_member k ns (suc n) j) ts w close_round xs h =
      bracket_behind (suc (depth w)) (λ s. MemberFollows d (depth w) (StructOf d w) ts k (arrays_shape ns s)) k (starred n j) h
  back_member_at (starred_member k ns (suc n) j) ts w x xs h = absurd h
  back_member_at (starred_member k ns zero zero) ts w x xs h =
      pointer_done k ns ts w refl no_bracket (back_member_ends k (arrays ns pointer_type) ts w x xs h)
  back_member_at (starred_member k ns zero (suc j)) ts w close_round xs h =
      pointer_settles k ns ts w h
  back_member_at (starred_member k ns zero (suc j)) ts w x xs h = absurd h

  -- ---- the function

  back_called : (called : List ℕ) (k : Kind) (o : Round) (t : Option Tree) (xs : List Token) → ((u : Tree) → t ≡ Some u → ReturnedBy k o u) → Rest d (called_by called t o) xs → FunctionFollows d k o (name called ∷ xs)
  back_called called k o (Some t) xs is h = name_inside the_name (is t refl) h
  back_called called k o None xs is h = absurd h

  back_function_name : (called : List ℕ) (k : Kind) (o : Round) (xs : List Token) → Rest d (function_name called k o) xs → FunctionFollows d k o (name called ∷ xs)
  back_function_name called k (unstarred n) xs h =
      back_called called k (unstarred n) (returned (a_value k)) xs (λ u e. e) h
  back_function_name called k (starred n j) xs h = name_inside the_name refl h

  -- its parameters stand there
  here_function : {called : List ℕ} {t : Tree} {xs ys : List Token} {k : Kind} (o : Round) → IsCalled (brackets o) xs (open_round ∷ ys) called → ReturnedBy k o t → ListIs wide (E d) (new_head called t o) ys → FunctionInside d k o xs
  here_function {called = called} {t = t} {k = k} o c ret (list_is {ts = us} {f = g} l (closing_follows cl end is)) =
      let out = returned_outside k o cl ret in
      function_inside_of {f = record { called = called; result_type = t; parameters = us; fixed = g }} (a_function_here c out.returns l) out.outside end is

  star_by : {f : Function} {xs mid behind : List Token} {e : Shape} (k : Kind) (o : Round) → IsFunction wide f (brackets o) xs mid e → IsEnd behind → declares_it f ≡ d → StarIs (brackets o) (brackets o) mid behind e → FunctionInside d k o (star ∷ xs)
  star_by k o p end is (star_is c) =
      function_inside_of (returns_pointer p) (any_outside k o c).outside end is

  star_inside_of : {xs : List Token} (k : Kind) (o : Round) → FunctionInside d k (star_inside o) xs → FunctionInside d k o (star ∷ xs)
  star_inside_of k o (function_inside_of p s end is) =
      star_by k o p end is (star_parts s)

  back_function_star : {xs : List Token} (k : Kind) (o : Round) → FunctionFollows d k (star_inside o) xs → FunctionFollows d k o (star ∷ xs)
  back_function_star k o (function_inside i) =
      function_inside (star_inside_of k o i)
  back_function_star k o (name_inside c ret (its_list l)) =
      function_inside (star_inside_of k o (here_function (star_inside o) c ret l))

  bracket_function : {xs : List Token} (k : Kind) (o : Round) → brackets o < MOST_OPEN → FunctionInside d k (bracket_inside o) xs → FunctionInside d k o (open_round ∷ xs)
  bracket_function k (unstarred n) room (function_inside_of p (outside_bracket q o) end is) =
      function_inside_of (a_function_inside room p q) o end is
  bracket_function k (starred n j) room (function_inside_of p (inside_star q o) end is) =
      function_inside_of (a_function_inside room p q) o end is

  back_function_bracket : {xs : List Token} (k : Kind) (o : Round) → brackets o < MOST_OPEN → FunctionFollows d k (bracket_inside o) xs → FunctionFollows d k o (open_round ∷ xs)
  back_function_bracket k o room (function_inside i) =
      function_inside (bracket_function k o room i)
  back_function_bracket k (unstarred n) room (name_inside c ret (its_list l)) =
      function_inside (bracket_function k (unstarred n) room (here_function (unstarred (suc n)) c ret l))
  back_function_bracket k (unstarred n) room (name_inside c ret (its_bracket f)) =
      name_inside (in_brackets room c) ret f
  back_function_bracket k (starred n j) room (name_inside c ret (its_list l)) =
      function_inside (bracket_function k (starred n j) room (here_function (starred (suc n) j) c ret l))
  back_function_bracket k (starred n j) room (name_inside c ret (its_inner_bracket f)) =
      name_inside (in_brackets room c) ret f

  the_whole : {xs : List Token} {k : Kind} → FunctionFollows d k (unstarred zero) xs → FunctionInside d k (unstarred zero) xs
  the_whole (function_inside i) = i
  the_whole (name_inside c ret (its_list l)) =
      here_function (unstarred zero) c ret l

  outer_closing : {e : Declaration} {n : ℕ} {xs : List Token} → ClosingFollows d (unstarred n) e xs → ClosingFollows d (unstarred (suc n)) e (close_round ∷ xs)
  outer_closing (closing_follows c end is) =
      closing_follows (outer_closes c) end is

  inner_closing : {e : Declaration} {n j : ℕ} {xs : List Token} → ClosingFollows d (starred n j) e xs → ClosingFollows d (starred (suc n) j) e (close_round ∷ xs)
  inner_closing (closing_follows c end is) =
      closing_follows (inner_bracket_closes c) end is

  star_closing : {e : Declaration} {j : ℕ} {xs : List Token} → SettledRest d (the_function e j) xs → ClosingFollows d (starred zero (suc j)) e (close_round ∷ xs)
  star_closing (settles q c x) =
      closing_follows (star_closes (a_bracket q c)) x.0 x.1

  -- ---- declarators

  -- a "(" that has room
  pub record BracketRoom (k : Kind) (o : Round) (w : Where) (xs : List Token) : Type 0 where
    pub room : depth w + brackets o < MOST_OPEN
    pub begins : may_begin (naming w) xs ≡ true
    pub inside : DeclaratorRest d k (bracket_inside o) w xs

  bracket_if : (k : Kind) (o : Round) (w : Where) (xs : List Token) (b : Bool) → ltb (depth w + brackets o) MOST_OPEN ≡ b → Rest d (cond b (round_opened k (bracket_inside o) w) dead) xs → BracketRoom k o w xs
  bracket_if k o w xs true e h =
      record { room = ltb-true (depth w + brackets o) MOST_OPEN e; begins = h.0; inside = h.1 }
  bracket_if k o w xs false e h = absurd h

  not_deeper : (n : ℕ) → 0 + n < MOST_OPEN → n < MOST_OPEN
  not_deeper n room = omega (arith, room)

  bracket_there : {xs : List Token} (k : Kind) (o : Round) (w : Where) → BracketRoom k o w xs → DeclaratorRest d k o w (open_round ∷ xs)
  bracket_there k o at_result r =
      back_function_bracket k o (not_deeper (brackets o) r.room) r.inside
  bracket_there k o (at_parameter head ts) r =
      bracket_declarator may_be_named 0 (ParameterEnds d head ts) k o r.room r.begins r.inside
  bracket_there k o (at_member ts w) r =
      bracket_declarator must_be_named (suc (depth w)) (MemberFollows d (depth w) (StructOf d w) ts k) k o r.room r.begins r.inside
  bracket_there k o (at_inner u) r =
      bracket_declarator may_be_named (suc (depth_of u)) (InnerFollows d (depth_of u) (SettledRest d u)) k o r.room r.begins r.inside

  back_open_bracket : (k : Kind) (o : Round) (w : Where) (xs : List Token) → Rest d (open_bracket k o w) xs → DeclaratorRest d k o w (open_round ∷ xs)
  back_open_bracket k o w xs h =
      bracket_there k o w (bracket_if k o w xs (ltb (depth w + brackets o) MOST_OPEN) refl h)

  back_star : (k : Kind) (o : Round) (w : Where) (xs : List Token) → DeclaratorRest d k (star_inside o) w xs → DeclaratorRest d k o w (star ∷ xs)
  back_star k o at_result xs h = back_function_star k o h
  back_star k o (at_parameter head ts) xs h =
      star_declarator may_be_named 0 (ParameterEnds d head ts) k o h
  back_star k o (at_member ts w) xs h =
      star_declarator must_be_named (suc (depth w)) (MemberFollows d (depth w) (StructOf d w) ts k) k o h
  back_star k o (at_inner u) xs h =
      star_declarator may_be_named (suc (depth_of u)) (InnerFollows d (depth_of u) (SettledRest d u)) k o h

  parameter_name : (k : Kind) (o : Round) (head : Head) (ts : List Tree) (xs : List Token) → Rest d (parameter_by k o head ts) xs → BehindName 0 (ParameterEnds d head ts) k o xs
  parameter_name k (unstarred n) head ts xs h = h
  parameter_name k (starred i j) head ts xs h = parameter_star k i j head ts h

  inner_name : (k : Kind) (o : Round) (u : Settled) (xs : List Token) → Rest d (inner_by k o u) xs → InnerName u k o xs
  inner_name k (starred i j) u xs h = inner_star k i j u h
  inner_name nothing (unstarred n) u xs h = h
  inner_name (whole t) (unstarred n) u xs h =
      inner_kept (whole t) n u (whole_isnt_void t) h
  inner_name bare (unstarred n) u xs h = inner_kept bare n u bare_isnt_void h

  name_of_member : (k : Kind) (o : Round) (ts : List Tree) (w : Where) (xs : List Token) → Rest d (member_name k o ts w) xs → MemberName [] ts w k o xs
  name_of_member (whole t) (unstarred n) ts w xs h = h
  name_of_member k (starred i j) ts w xs h = h
  name_of_member _ (unstarred n) ts w xs h = absurd h

  back_name : (k : Kind) (o : Round) (w : Where) (called : List ℕ) (xs : List Token) → Rest d (declared_name k o w called) xs → DeclaratorRest d k o w (name called ∷ xs)
  back_name k o at_result called xs h = back_function_name called k o xs h
  back_name k o (at_parameter head ts) called xs h =
      name_declarator may_be_named 0 (ParameterEnds d head ts) (parameter_name k o head ts xs h)
  back_name k o (at_member ts w) called xs h =
      name_declarator must_be_named (suc (depth w)) (MemberFollows d (depth w) (StructOf d w) ts k) (name_of_member k o ts w xs h)
  back_name k o (at_inner u) called xs h =
      name_declarator may_be_named (suc (depth_of u)) (InnerFollows d (depth_of u) (SettledRest d u)) (inner_name k o u xs h)

  parameter_unnamed : (k : Kind) (o : Round) (head : Head) (ts : List Tree) (x : Token) (xs : List Token) → Rest d (step_unnamed k o (at_parameter head ts) x) xs → BehindName 0 (ParameterEnds d head ts) k o (x ∷ xs)
  parameter_unnamed k o head ts open_square xs h =
      parameter_square k o head ts h
  parameter_unnamed k (unstarred n) head ts x xs h =
      back_itself_or k n head ts x xs h
  parameter_unnamed k (starred i j) head ts x xs h =
      parameter_star k i j head ts (back_bracket (a_parameter head ts (and_more i j)) x xs h)

  inner_unnamed : (k : Kind) (o : Round) (u : Settled) (x : Token) (xs : List Token) → Rest d (step_unnamed k o (at_inner u) x) xs → InnerName u k o (x ∷ xs)
  inner_unnamed k o u open_square xs h = inner_square k o u h
  inner_unnamed k (starred i j) u x xs h =
      inner_star k i j u (back_bracket (an_inner u (and_more i j)) x xs h)
  inner_unnamed nothing (unstarred n) u x xs h = back_nothing_or n u x xs h
  inner_unnamed (whole t) (unstarred n) u x xs h =
      inner_kept (whole t) n u (whole_isnt_void t) (back_bracket (an_inner u n) x xs h)
  inner_unnamed bare (unstarred n) u x xs h =
      inner_kept bare n u bare_isnt_void (back_bracket (an_inner u n) x xs h)

  -- a token that is no star, no name and no "("
  back_unnamed : (k : Kind) (o : Round) (w : Where) (x : Token) (xs : List Token) → opens_round (x ∷ xs) ≡ false → Rest d (step_unnamed k o w x) xs → DeclaratorRest d k o w (x ∷ xs)
  back_unnamed k o (at_parameter head ts) x xs no_list h =
      unnamed_declarator (ParameterEnds d head ts) no_list (parameter_unnamed k o head ts x xs h)
  back_unnamed k o (at_inner u) x xs no_list h =
      unnamed_declarator (InnerFollows d (depth_of u) (SettledRest d u)) no_list (inner_unnamed k o u x xs h)
  back_unnamed k o _ x xs no_list h = absurd h

  back_declarator : (k : Kind) (o : Round) (w : Where) (x : Token) (xs : List Token) → Rest d (step_declarator k o w x) xs → DeclaratorRest d k o w (x ∷ xs)
  back_declarator k o w star xs h = back_star k o w xs h
  back_declarator k o w (name called) xs h = back_name k o w called xs h
  back_declarator k o w open_round xs h = back_open_bracket k o w xs h
  back_declarator k o w x xs h = back_unnamed k o w x xs refl h

  -- ---- types

  curly_by : {xs : List Token} (w : Where) → depth w < MOST_OPEN → SomeMembers (depth w) (StructOf d w) [] xs → CurlyFollows d w (open_curly ∷ xs)
  curly_by w room (some_members ms f) = curly_follows room ms f

  back_curly : (w : Where) (xs : List Token) (b : Bool) → ltb (depth w) MOST_OPEN ≡ b → Rest d (cond b (wants_type (at_member [] w)) dead) xs → CurlyFollows d w (open_curly ∷ xs)
  back_curly w xs true e h =
      curly_by w (ltb-true (depth w) MOST_OPEN e) (members_by [] w h)
  back_curly w xs false e h = absurd h

  back_opened_struct : (w : Where) (xs : List Token) → Rest d (opened_struct w) xs → CurlyFollows d w (open_curly ∷ xs)
  back_opened_struct w xs h = back_curly w xs (ltb (depth w) MOST_OPEN) refl h

  struct_of_tag : {xs : List Token} {tag : List ℕ} (w : Where) → TagFollows d w xs → BaseFollows d w (struct_word ∷ name tag ∷ xs)
  struct_of_tag w (members_of_tag (curly_follows room ms f)) =
      (_, whole _, a_tagged_struct refl room ms, f)
  struct_of_tag w (no_members f) = (_, bare, a_tag, f)

  back_struct_word : {xs : List Token} (w : Where) → StructFollows d w xs → BaseFollows d w (struct_word ∷ xs)
  back_struct_word w (a_tag_follows f) = struct_of_tag w f
  back_struct_word w (members_follow (curly_follows room ms f)) =
      (_, whole _, a_struct room ms, f)

  -- the first word of a type
  back_first : (w : Where) (s : Said) (x : Token) (xs : List Token) → 0 < specifier_number x → words_of s ≡ x ∷ [] → Rest d (after_words s w) xs → BaseFollows d w (x ∷ xs)
  back_first w s x xs first is h =
      (h.0, h.2, by_specifiers refl (a_word first h.3) (ap (λ ws. named_by (ws ++ h.1)) (sym is) ∙ h.4), h.5)

  back_word_said : (w : Where) (s : Scalar) (xs : List Token) → Rest d (word_said s w) xs → BaseFollows d w (type_word s ∷ xs)
  back_word_said w float xs h =
      back_first w (a_float false) (type_word float) xs (omega arith) refl h
  back_word_said w double xs h =
      back_first w (a_double false false) (type_word double) xs (omega arith) refl h
  back_word_said w s xs h = (xs, whole (scalar s), by_word, h)

  back_union_word : {xs : List Token} (w : Where) → AloneFollows d w xs → BaseFollows d w (union_word ∷ xs)
  back_union_word w (the_tag f) = (_, bare, a_union refl, f)

  back_enum_word : {xs : List Token} (w : Where) → AloneFollows d w xs → BaseFollows d w (enum_word ∷ xs)
  back_enum_word w (the_tag f) = (_, bare, an_enum refl, f)

  back_base : (w : Where) (x : Token) (xs : List Token) → Rest d (step_base wide w x) xs → BaseFollows d w (x ∷ xs)
  back_base w (type_word s) xs h = back_word_said w s xs h
  back_base w (sign_word g) xs h =
      back_first w (an_integer (Some g) of_no_size false) (sign_word g) xs (sign_number g) refl h
  back_base w short_word xs h =
      back_first w (an_integer None said_short false) short_word xs (omega arith) refl h
  back_base w int_word xs h =
      back_first w (an_integer None of_no_size true) int_word xs (omega arith) refl h
  back_base w long_word xs h =
      back_first w (an_integer None said_long false) long_word xs (omega arith) refl h
  back_base w int128_word xs h =
      back_first w (of_128_bits None) int128_word xs (omega arith) refl h
  back_base w (char_word c) xs h =
      back_first w (a_character c None) (char_word c) xs (char_number c) refl h
  back_base w complex_word xs h =
      back_first w (a_complex false) complex_word xs (omega arith) refl h
  back_base w void_word xs h = (xs, nothing, a_void, h)
  back_base w struct_word xs h = back_struct_word w h
  back_base w union_word xs h = back_union_word w h
  back_base w enum_word xs h = back_enum_word w h
  back_base w (name called) xs h =
      (xs, kind_of_name called, a_name refl refl, h)
  back_base w x xs h = absurd h

  back_type : (w : Where) (x : Token) (xs : List Token) → Rest d (step_type wide w x) xs → TypeFollows d w (x ∷ xs)
  back_type w const_word xs h = (h.0, h.1, constant h.2, h.3)
  back_type w x xs h =
      let b : BaseFollows d w (x ∷ xs) = back_base w x xs h in
      (b.0, b.1, unqualified b.2, b.3)

  back_word : (s : Said) (w : Where) (x : Token) (xs : List Token) (o : Option Said) → say s x ≡ o → 0 < specifier_number x → Rest d (words_go_on w o) xs → Rest d (after_words s w) (x ∷ xs)
  back_word s w x xs (Some t) e some h =
      (h.0, x ∷ h.1, h.2, a_word some h.3, said_more s t x some e h.1 ∙ h.4, h.5)
  back_word s w x xs None e some h = absurd h

  back_last_word : (s : Said) (w : Where) (x : Token) (xs : List Token) (o : Option Kind) → named_by (words_of s) ≡ o → Rest d (step_named_by o w x) xs → Rest d (after_words s w) (x ∷ xs)
  back_last_word s w x xs (Some k) e h =
      (x ∷ xs, [], k, no_more_words, ap named_by (append-nil (words_of s)) ∙ e, back_declarator k (unstarred 0) w x xs h)
  back_last_word s w x xs None e h = absurd h

  back_words : (s : Said) (w : Where) (x : Token) (xs : List Token) → IsWordOrNone s w x → Rest d (step_words s w x) xs → Rest d (after_words s w) (x ∷ xs)
  back_words s w x xs (inl (first, is)) h =
      back_word s w x xs (say s x) refl first (subst (λ t. Rest d t xs) is h)
  back_words s w x xs (inr is) h =
      back_last_word s w x xs (named_by (words_of s)) refl (subst (λ t. Rest d t xs) is h)

  -- ---- lists

  void_list : {xs : List Token} (head : Head) → VoidFollows d head xs → ListFollows wide (E d) head (void_word ∷ xs)
  void_list head (void_closes h) = list_of_void h
  void_list head (void_declared f) =
      list_of_parameters (parameters_by head [] (_, nothing, unqualified a_void, f))

  inner_parameters : {m : ℕ} {G : List Token → Type 0} {xs : List Token} → SomeInners m G xs → InnerListFollows m G xs
  inner_parameters (inners_and ps g) = inner_list_follows (some_inners ps) g

  inner_void_list : {xs : List Token} (u : Settled) → InnerVoidFollows d u xs → InnerListFollows (depth_of u) (SettledRest d u) (void_word ∷ xs)
  inner_void_list u (inner_void_closes g) = inner_list_follows inner_void g
  inner_void_list u (inner_void_declared f) =
      inner_parameters (inners_by u (_, nothing, unqualified a_void, f))

  dots_of_inners : {m : ℕ} {G : List Token → Type 0} {xs : List Token} → RoundThen G xs → InnersFollow m G (dots ∷ xs)
  dots_of_inners (a_round g) = inner_ends_by_dots g

  -- ---- one token back

  back : (s : State) (x : Token) (xs : List Token) → Rest d (step wide s x) xs → Rest d s (x ∷ xs)
  back (wants_type w) x xs h = back_type w x xs h
  back (wants_base w) x xs h = back_base w x xs h
  back (after_struct w) (name tag) xs h = a_tag_follows h
  back (after_struct w) open_curly xs h =
      members_follow (back_opened_struct w xs h)
  back (after_words s w) x xs h =
      back_words s w x xs (word_or_none s w x) h
  back (after_struct_tag w) open_curly xs h =
      members_of_tag (back_opened_struct w xs h)
  back (after_struct_tag w) x xs h =
      no_members (back_declarator bare (unstarred 0) w x xs h)
  back (wants_tag w) (name tag) xs h = the_tag h
  back (sole_void head) close_round xs h = void_closes h
  back (sole_void head) x xs h =
      void_declared (back_declarator nothing (unstarred 0) (at_parameter head []) x xs h)
  back (opened head) close_round xs h = list_closes h
  back (opened head) void_word xs h = void_list head h
  back (opened head) x xs h =
      list_of_parameters (parameters_by head [] (back_type (at_parameter head []) x xs h))
  back (after_comma head ts) dots xs h = the_dots h
  back (after_comma head ts) x xs h =
      the_next (parameters_by head ts (back_type (at_parameter head ts) x xs h))
  back (wide_dots head ts) close_round xs h = dots_end h
  back (wide_dots head ts) comma xs h =
      types_follow refl (parameters_by (fixing head (length ts)) ts h)
  back (after_member ts w) close_curly xs h = no_more h
  back (after_member ts w) x xs h =
      more (members_by ts w (back_type (at_member ts w) x xs h))
  back (declarator k o w) x xs h = back_declarator k o w x xs h
  back (round_opened k o w) star xs h =
      (begins_by_star (naming w) xs, back_star k o w xs h)
  back (round_opened k o w) open_round xs h =
      (begins_by_round (naming w) xs, back_open_bracket k o w xs h)
  back (round_opened k o at_result) (name called) xs h =
      (refl, back_function_name called k o xs h)
  back (round_opened k o (at_member ts w)) (name called) xs h =
      (refl, back_name k o (at_member ts w) called xs h)
  back (function_named called t o) open_round xs h =
      its_list (list_by wide (E d) (new_head called t o) refl h)
  back (function_named called t (unstarred (suc n))) close_round xs h =
      its_bracket h
  back (function_named called t (starred (suc n) j)) close_round xs h =
      its_inner_bracket h
  back (closing (unstarred zero) e) semicolon xs h =
      closing_follows none_closes (semicolon_end h.0) h.1
  back (closing (unstarred (suc n)) e) close_round xs h = outer_closing h
  back (closing (starred (suc n) j) e) close_round xs h = inner_closing h
  back (closing (starred zero zero) e) semicolon xs h =
      closing_follows (star_closes no_bracket) (semicolon_end h.0) h.1
  back (closing (starred zero (suc j)) e) close_round xs h = star_closing h
  back (parameter_itself k n head ts) open_square xs h =
      parameter_square k (unstarred n) head ts h
  back (parameter_itself k n head ts) open_round xs h =
      parameter_list k n head ts (room_for (a_parameter head ts n) xs h)
  back (parameter_itself k n head ts) x xs h = back_itself_or k n head ts x xs h
  back (inner_nothing n u) open_square xs h =
      inner_square nothing (unstarred n) u h
  back (inner_nothing n u) open_round xs h =
      inner_list nothing n u (room_for (an_inner u n) xs h)
  back (inner_nothing n u) x xs h = back_nothing_or n u x xs h
  back (member_at b ts w) x xs h = back_member_at b ts w x xs h
  back (member_bound b ts w) (number n) xs h = a_number h
  back (member_bounded b ts w) close_square xs h = square h
  back (settled u) open_square xs h = settled_square u h
  back (settled u) open_round xs h =
      let r : RoomFor u xs = room_for u xs h in
      settled_list u r.room r.list
  back (settled u) x xs h = back_bracket u x xs h
  back (square_opened u) (number n) xs h = number_bound h
  back (square_opened u) star xs h = some_bound star refl h
  back (square_opened u) (name called) xs h = some_bound (name called) refl h
  back (square_opened u) close_square xs h = no_bound h
  back (square_filled u) close_square xs h = square h
  back (list_opened u) close_round xs h = inner_list_follows no_inners h
  back (list_opened u) void_word xs h = inner_void_list u h
  back (list_opened u) x xs h =
      inner_parameters (inners_by u (back_type (at_inner u) x xs h))
  back (list_void u) close_round xs h = inner_void_closes h
  back (list_void u) x xs h =
      inner_void_declared (back_declarator nothing (unstarred 0) (at_inner u) x xs h)
  back (list_comma u) dots xs h = dots_of_inners h
  back (list_comma u) x xs h =
      more_inners (inners_by u (back_type (at_inner u) x xs h))
  back (list_dots u) close_round xs h = a_round h
  back s x xs h = search

  at_end : (s : State) → finish s ≡ Some d → Rest d s []
  at_end (closing (unstarred zero) e) p =
      closing_follows none_closes no_semicolon (some_same p)
  at_end (closing (starred zero zero) e) p =
      closing_follows (star_closes no_bracket) no_semicolon (some_same p)
  at_end (settled (the_function e zero)) p =
      settles {e = handed} no_suffix no_bracket (no_semicolon, some_same p)
  at_end (ended e) p = (over, some_same p)
  at_end (closed e) p = tt
  at_end s p = absurd (none_some p)

  -- what is accepted from a state is what the state wants
  rest_of : (xs : List Token) (s : State) → Accepts wide s xs d → Rest d s xs
  rest_of [] s p = at_end s p
  rest_of (x ∷ xs) s p = back s x xs (rest_of xs (step wide s x) p)

  -- ---- the whole

  declares_whole : {xs mid : List Token} {k : Kind} → IsQualified wide 0 xs mid k → FunctionInside d k (unstarred zero) mid → IsDeclarationIn wide xs d
  declares_whole {xs = xs} q (function_inside_of p no_outside end is) =
      subst (λ e. IsDeclarationIn wide xs e) is (declares_by refl q p end)

  pub wide_declaration_of : (xs : List Token) → Accepts wide begun xs d → IsDeclarationIn wide xs d
  wide_declaration_of xs p =
      let f : TypeFollows d at_result xs = rest_of xs begun p in
      declares_whole f.2 (the_whole f.3)
