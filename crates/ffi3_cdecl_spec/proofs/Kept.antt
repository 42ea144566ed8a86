-- Two runs of the machine, where the second keeps few counts: their states differ in types and counts alone.
use Rattle.std.proofs.Common.{◌≡◌, ℕ, zero, suc, ◌+◌, Bool, true, false, cond, List, [], ◌∷◌, length, Option, Some, None, ltb, refl, ap, subst}
use Rattle.std.specs.Prelude.{⊤}
use Rattle.ffi3_type_spec.specs.Tree.{Scalar, float, double, s32, s128, Tree, void, scalar, struct_of}
use Rattle.ffi3_cdecl_spec.specs.Tokens.{Dialect, plain, wide, Token, Sign, type_word, sign_word, const_word, short_word, int_word, long_word, int128_word, char_word, complex_word, void_word, struct_word, union_word, enum_word, name, number, open_round, close_round, open_curly, close_curly, open_square, close_square, comma, semicolon, star, dots}
use Rattle.ffi3_cdecl_spec.specs.Grammar.{Kind, whole, bare, nothing, kind_of_name, named_by, MOST_OPEN, pointer_type, char_of, short_of, int_of, long_of, int128_of, Declaration}
use Rattle.ffi3_cdecl_spec.specs.Machine.{Round, unstarred, starred, and_more, brackets, bracket_inside, Head, declared_by, Where, at_result, at_parameter, at_member, at_inner, Settled, a_parameter, an_inner, a_pointer_member, the_function, Member, plain_member, starred_member, depth, depth_of, onto, arrays, Said, words_of, say, State, wants_type, wants_base, after_words, after_struct_tag, wants_tag, after_sign, after_short, after_long, after_long_long, after_struct, wants_star, sole_void, typed, named, opened, parameter_named, after_comma, after_dots, member_named, wants_count, counted, after_member, declarator, round_opened, function_named, closing, parameter_itself, inner_nothing, member_at, member_bound, member_bounded, settled, square_opened, square_filled, list_opened, list_void, list_comma, list_dots, wide_dots, closed, ended, dead, based, either, based_in, word_said, step_base, words_go_on, step_type, list_ended, comma_of, step_closing, fewer, brackets_of, member_ends, inner_ends, function_ends, settled_ends, bracket_or_end, list_with_room, open_bracket, function_name, member_name, parameter_by, inner_by, declared_name, itself_or_bracket, nothing_or_bracket, step_unnamed, step_declarator, name_in_bracket, step_member_at, name_behind, close_behind, comma_behind, step_typed, opened_struct, step_named_by, plain_void, fixing, step, finish, is_dead}
use Rattle.ffi3_cdecl_spec.specs.OnePass.{with_count, keeping}
use Rattle.ffi3_cdecl_spec.proofs.Alike.{AllSame, no_types, one_type}

pub all_length : (Same : Tree → Tree → Type 0) {ts us : List Tree} → AllSame Same ts us → length ts ≡ length us
all_length Same no_types = refl
all_length Same (one_type s rest) = ap suc (all_length Same rest)

all_onto : (Same : Tree → Tree → Type 0) {ts us : List Tree} (xs ys : List Tree) → AllSame Same ts us → AllSame Same xs ys → AllSame Same (onto ts xs) (onto us ys)
all_onto Same xs ys no_types all = all
all_onto Same xs ys (one_type {t = t} {u = u} s rest) all =
    all_onto Same (t ∷ xs) (u ∷ ys) rest (one_type s all)

-- a token whose number is one of these, if it is a number
abbrev pub TakenToken : (ℕ → Type 0) → Token → Type 0
TakenToken Taken (number n) = Taken n
TakenToken Taken x = ⊤

-- What a number may be that is taken; types and counts that are taken for the same.
module _ (Taken : ℕ → Type 0) (Same : Tree → Tree → Type 0) (SameCounts : List ℕ → List ℕ → Type 0) where
  pub record SameHead (h k : Head) : Type 0 where
    pub same_name : h.called ≡ k.called
    pub same_result : Same h.result_type k.result_type
    pub same_dots : h.fixed ≡ k.fixed
    pub same_round : h.round ≡ k.round

  pub data SameKind : Kind → Kind → Type 0 where
    both_whole : {t u : Tree} → Same t u → SameKind (whole t) (whole u)
    both_bare : SameKind bare bare
    both_nothing : SameKind nothing nothing

  pub record SameDeclaration (d e : Declaration) : Type 0 where
    pub same_called : d.called ≡ e.called
    pub same_type : Same d.signature.result_type e.signature.result_type
    pub same_arguments : AllSame Same d.signature.arguments e.signature.arguments
    pub same_fixed : d.signature.fixed ≡ e.signature.fixed

  mutual
    pub data SamePlace : Where → Where → Type 0 where
      results : SamePlace at_result at_result
      parameters : {h k : Head} {ts us : List Tree} → SameHead h k → AllSame Same ts us → SamePlace (at_parameter h ts) (at_parameter k us)
      members : {ts us : List Tree} {w v : Where} → AllSame Same ts us → SamePlace w v → SamePlace (at_member ts w) (at_member us v)
      inners : {u v : Settled} → SameSettled u v → SamePlace (at_inner u) (at_inner v)

    pub data SameSettled : Settled → Settled → Type 0 where
      both_parameters : {h k : Head} {ts us : List Tree} {n : ℕ} → SameHead h k → AllSame Same ts us → SameSettled (a_parameter h ts n) (a_parameter k us n)
      both_inners : {u v : Settled} {n : ℕ} → SameSettled u v → SameSettled (an_inner u n) (an_inner v n)
      both_pointers : {k l : Kind} {ns ms : List ℕ} {ts us : List Tree} {w v : Where} {n : ℕ} → SameKind k l → SameCounts ns ms → AllSame Same ts us → SamePlace w v → SameSettled (a_pointer_member k ns ts w n) (a_pointer_member l ms us v n)
      both_functions : {d e : Declaration} {n : ℕ} → SameDeclaration d e → SameSettled (the_function d n) (the_function e n)

  pub data SameMember : Member → Member → Type 0 where
    both_plain : {t u : Tree} {ns ms : List ℕ} {n : ℕ} → Same t u → SameCounts ns ms → SameMember (plain_member t ns n) (plain_member u ms n)
    both_starred : {k l : Kind} {ns ms : List ℕ} {n m : ℕ} → SameKind k l → SameCounts ns ms → SameMember (starred_member k ns n m) (starred_member l ms n m)

  pub data SameState : State → State → Type 0 where
    both_want_type : {w v : Where} → SamePlace w v → SameState (wants_type w) (wants_type v)
    both_want_base : {w v : Where} → SamePlace w v → SameState (wants_base w) (wants_base v)
    both_signs : {g : Sign} {w v : Where} → SamePlace w v → SameState (after_sign g w) (after_sign g v)
    both_short : {g : Sign} {w v : Where} → SamePlace w v → SameState (after_short g w) (after_short g v)
    both_long : {g : Sign} {w v : Where} → SamePlace w v → SameState (after_long g w) (after_long g v)
    both_long_long : {g : Sign} {w v : Where} → SamePlace w v → SameState (after_long_long g w) (after_long_long g v)
    both_struct : {w v : Where} → SamePlace w v → SameState (after_struct w) (after_struct v)
    both_words : {s : Said} {w v : Where} → SamePlace w v → SameState (after_words s w) (after_words s v)
    both_struct_tag : {w v : Where} → SamePlace w v → SameState (after_struct_tag w) (after_struct_tag v)
    both_want_tag : {w v : Where} → SamePlace w v → SameState (wants_tag w) (wants_tag v)
    both_want_star : {w v : Where} → SamePlace w v → SameState (wants_star w) (wants_star v)
    both_sole_void : {h k : Head} → SameHead h k → SameState (sole_void h) (sole_void k)
    both_typed : {t u : Tree} {w v : Where} → Same t u → SamePlace w v → SameState (typed t w) (typed u v)
    both_named : {h k : Head} → SameHead h k → SameState (named h) (named k)
    both_opened : {h k : Head} → SameHead h k → SameState (opened h) (opened k)
    both_parameter_named : {h k : Head} {ts us : List Tree} → SameHead h k → AllSame Same ts us → SameState (parameter_named h ts) (parameter_named k us)
    both_comma : {h k : Head} {ts us : List Tree} → SameHead h k → AllSame Same ts us → SameState (after_comma h ts) (after_comma k us)
    both_dots : {d e : Declaration} → SameDeclaration d e → SameState (after_dots d) (after_dots e)
    both_member_named : {t u : Tree} {ns ms : List ℕ} {ts us : List Tree} {w v : Where} → Same t u → SameCounts ns ms → AllSame Same ts us → SamePlace w v → SameState (member_named t ns ts w) (member_named u ms us v)
    both_want_count : {t u : Tree} {ns ms : List ℕ} {ts us : List Tree} {w v : Where} → Same t u → SameCounts ns ms → AllSame Same ts us → SamePlace w v → SameState (wants_count t ns ts w) (wants_count u ms us v)
    both_counted : {t u : Tree} {ns ms : List ℕ} {ts us : List Tree} {w v : Where} → Same t u → SameCounts ns ms → AllSame Same ts us → SamePlace w v → SameState (counted t ns ts w) (counted u ms us v)
    both_after_member : {ts us : List Tree} {w v : Where} → AllSame Same ts us → SamePlace w v → SameState (after_member ts w) (after_member us v)
    both_declarator : {k l : Kind} {o : Round} {w v : Where} → SameKind k l → SamePlace w v → SameState (declarator k o w) (declarator l o v)
    both_round : {k l : Kind} {o : Round} {w v : Where} → SameKind k l → SamePlace w v → SameState (round_opened k o w) (round_opened l o v)
    both_function : {called : List ℕ} {t u : Tree} {o : Round} → Same t u → SameState (function_named called t o) (function_named called u o)
    both_closing : {o : Round} {d e : Declaration} → SameDeclaration d e → SameState (closing o d) (closing o e)
    both_itself : {k l : Kind} {n : ℕ} {h j : Head} {ts us : List Tree} → SameKind k l → SameHead h j → AllSame Same ts us → SameState (parameter_itself k n h ts) (parameter_itself l n j us)
    both_inner_nothing : {n : ℕ} {u v : Settled} → SameSettled u v → SameState (inner_nothing n u) (inner_nothing n v)
    both_member_at : {b c : Member} {ts us : List Tree} {w v : Where} → SameMember b c → AllSame Same ts us → SamePlace w v → SameState (member_at b ts w) (member_at c us v)
    both_member_bound : {b c : Member} {ts us : List Tree} {w v : Where} → SameMember b c → AllSame Same ts us → SamePlace w v → SameState (member_bound b ts w) (member_bound c us v)
    both_member_bounded : {b c : Member} {ts us : List Tree} {w v : Where} → SameMember b c → AllSame Same ts us → SamePlace w v → SameState (member_bounded b ts w) (member_bounded c us v)
    both_settled : {u v : Settled} → SameSettled u v → SameState (settled u) (settled v)
    both_square : {u v : Settled} → SameSettled u v → SameState (square_opened u) (square_opened v)
    both_filled : {u v : Settled} → SameSettled u v → SameState (square_filled u) (square_filled v)
    both_list : {u v : Settled} → SameSettled u v → SameState (list_opened u) (list_opened v)
    both_list_void : {u v : Settled} → SameSettled u v → SameState (list_void u) (list_void v)
    both_list_comma : {u v : Settled} → SameSettled u v → SameState (list_comma u) (list_comma v)
    both_list_dots : {u v : Settled} → SameSettled u v → SameState (list_dots u) (list_dots v)
    both_wide_dots : {h k : Head} {ts us : List Tree} → SameHead h k → AllSame Same ts us → SameState (wide_dots h ts) (wide_dots k us)
    both_closed : {d e : Declaration} → SameDeclaration d e → SameState (closed d) (closed e)
    both_ended : {d e : Declaration} → SameDeclaration d e → SameState (ended d) (ended e)
    both_dead : SameState dead dead

  abbrev pub SameEnd : Option Declaration → Option Declaration → Type 0
  SameEnd None None = ⊤
  SameEnd (Some d) (Some e) = SameDeclaration d e
  SameEnd o p = ⊥

  pub end_same : {s r : State} → SameState s r → SameEnd (finish s) (finish r)
  end_same (both_closed d) = d
  end_same (both_closing {o = unstarred zero} d) = d
  end_same (both_closing {o = starred zero zero} d) = d
  end_same (both_settled (both_functions {n = zero} d)) = d
  end_same (both_ended d) = d
  end_same x = tt

  pub dead_same : {s r : State} → SameState s r → is_dead s ≡ is_dead r
  dead_same both_dead = refl
  dead_same x = refl

  mutual
    depth_same : {w v : Where} → SamePlace w v → depth w ≡ depth v
    depth_same results = refl
    depth_same (parameters h ts) = refl
    depth_same (members ts p) = ap suc (depth_same p)
    depth_same (inners s) = ap suc (depth_of_same s)

    depth_of_same : {u v : Settled} → SameSettled u v → depth_of u ≡ depth_of v
    depth_of_same (both_parameters h ts) = refl
    depth_of_same (both_inners {n = n} s) =
        ap (λ m. suc m + n) (depth_of_same s)
    depth_of_same (both_pointers {n = n} k c ts w) =
        ap (λ m. suc m + n) (depth_same w)
    depth_of_same (both_functions d) = refl

  -- ---- one token

  module _ (itself : (t : Tree) → Same t t) (structs : (ts us : List Tree) → AllSame Same ts us → Same (struct_of ts) (struct_of us)) (none : SameCounts [] []) (one_more : (n : ℕ) (ns ms : List ℕ) → Taken n → SameCounts ns ms → SameCounts (n ∷ ns) (with_count n ms)) (made : (ns ms : List ℕ) (t u : Tree) → SameCounts ns ms → Same t u → Same (arrays ns t) (arrays ms u)) where
    declared_same : {h k : Head} {ts us : List Tree} {f g : Option ℕ} → SameHead h k → AllSame Same ts us → f ≡ g → SameDeclaration (declared_by h ts f) (declared_by k us g)
    declared_same h all e =
        record { same_called = h.same_name; same_type = h.same_result; same_arguments = all; same_fixed = e }

    in_order : {ts us : List Tree} → AllSame Same ts us → AllSame Same (onto ts []) (onto us [])
    in_order all = all_onto Same [] [] all no_types

    void_same : {w v : Where} → SamePlace w v → SameState (based nothing w) (based nothing v)
    void_same results = both_typed (itself void) results
    void_same p = both_want_star p

    kind_itself : (k : Kind) → SameKind k k
    kind_itself (whole t) = both_whole (itself t)
    kind_itself bare = both_bare
    kind_itself nothing = both_nothing

    either_same : {s r t u : State} (q : Dialect) → SameState s r → SameState t u → SameState (either q s t) (either q r u)
    either_same plain x y = x
    either_same wide x y = y

    based_kind_same : {w v : Where} {k l : Kind} → SameKind k l → SamePlace w v → SameState (based k w) (based l v)
    based_kind_same (both_whole t) p = both_typed t p
    based_kind_same both_bare p = both_want_star p
    based_kind_same both_nothing p = void_same p

    based_in_same : {w v : Where} {k l : Kind} (q : Dialect) → SameKind k l → SamePlace w v → SameState (based_in q k w) (based_in q l v)
    based_in_same q k p =
        either_same q (based_kind_same k p) (both_declarator k p)

    said_same : {w v : Where} (s : Scalar) → SamePlace w v → SameState (word_said s w) (word_said s v)
    said_same float p = both_words p
    said_same double p = both_words p
    said_same s p = both_declarator (both_whole (itself (scalar s))) p

    base_same : {w v : Where} (q : Dialect) → SamePlace w v → (x : Token) → SameState (step_base q w x) (step_base q v x)
    base_same q p (type_word s) =
        either_same q (both_typed (itself (scalar s)) p) (said_same s p)
    base_same q p (sign_word g) = either_same q (both_signs p) (both_words p)
    base_same q p short_word = either_same q (both_short p) (both_words p)
    base_same q p int_word =
        either_same q (both_typed (itself (scalar s32)) p) (both_words p)
    base_same q p long_word = either_same q (both_long p) (both_words p)
    base_same q p int128_word =
        either_same q (both_typed (itself (scalar s128)) p) (both_words p)
    base_same q p (char_word c) = either_same q (both_want_star p) (both_words p)
    base_same q p complex_word = either_same q both_dead (both_words p)
    base_same q p void_word = based_in_same q both_nothing p
    base_same q p struct_word = both_struct p
    base_same q p union_word = either_same q both_dead (both_want_tag p)
    base_same q p enum_word = either_same q both_dead (both_want_tag p)
    base_same q p (name called) =
        either_same q both_dead (both_declarator (kind_itself (kind_of_name called)) p)
    base_same q p x = both_dead

    type_same : {w v : Where} (q : Dialect) → SamePlace w v → (x : Token) → SameState (step_type q w x) (step_type q v x)
    type_same q p const_word = both_want_base p
    type_same q p x = base_same q p x

    -- ---- the end of a parameter

    round_same : {o p : Round} {d e : Declaration} → o ≡ p → SameDeclaration d e → SameState (closing o d) (closing p e)
    round_same {o = o} {d = d} {e = e} same both =
        subst (λ p. SameState (closing o d) (closing p e)) same (both_closing both)

    list_same : {h k : Head} {ts us : List Tree} {f g : Option ℕ} (q : Dialect) → SameHead h k → AllSame Same ts us → f ≡ g → SameState (list_ended q h ts f) (list_ended q k us g)
    list_same q h all e =
        either_same q (both_closed (declared_same h all e)) (round_same h.same_round (declared_same h all e))

    comma_by_same : {h k : Head} {ts us : List Tree} (f : Option ℕ) → SameHead h k → AllSame Same ts us → SameState (comma_of f h ts) (comma_of f k us)
    comma_by_same None h all = both_comma h all
    comma_by_same (Some n) h all = both_want_type (parameters h all)

    comma_of_same : {h k : Head} {ts us : List Tree} → SameHead h k → AllSame Same ts us → SameState (comma_of h.fixed h ts) (comma_of k.fixed k us)
    comma_of_same {h = h} {k = k} {ts = ts} {us = us} s all =
        subst (λ f. SameState (comma_of h.fixed h ts) (comma_of f k us)) s.same_dots (comma_by_same h.fixed s all)

    closing_same : {h k : Head} {ts us : List Tree} (q : Dialect) → SameHead h k → AllSame Same ts us → (x : Token) → SameState (step_closing q h ts x) (step_closing q k us x)
    closing_same q h all close_round = list_same q h (in_order all) h.same_dots
    closing_same q h all comma = comma_of_same h all
    closing_same q h all x = both_dead

    -- ---- what is settled

    fewer_same : {u v : Settled} → SameSettled u v → (m : ℕ) → SameSettled (fewer u m) (fewer v m)
    fewer_same (both_parameters h ts) m = both_parameters h ts
    fewer_same (both_inners s) m = both_inners s
    fewer_same (both_pointers k c ts w) m = both_pointers k c ts w
    fewer_same (both_functions d) m = both_functions d

    brackets_same : {u v : Settled} → SameSettled u v → brackets_of u ≡ brackets_of v
    brackets_same (both_parameters h ts) = refl
    brackets_same s = refl

    ends_same : {k l : Kind} {t u : Tree} {ts us : List Tree} {w v : Where} → SameKind k l → Same t u → AllSame Same ts us → SamePlace w v → (x : Token) → SameState (member_ends k t ts w x) (member_ends l u us v x)
    ends_same k s all p semicolon = both_after_member (one_type s all) p
    ends_same k s all p comma = both_declarator k (members (one_type s all) p)
    ends_same k s all p x = both_dead

    inner_ends_same : {u v : Settled} → SameSettled u v → (x : Token) → SameState (inner_ends u x) (inner_ends v x)
    inner_ends_same s close_round = both_settled s
    inner_ends_same s comma = both_list_comma s
    inner_ends_same s x = both_dead

    function_ends_same : {d e : Declaration} → SameDeclaration d e → (x : Token) → SameState (function_ends d x) (function_ends e x)
    function_ends_same d semicolon = both_ended d
    function_ends_same d x = both_dead

    settled_ends_same : {u v : Settled} → SameSettled u v → (x : Token) → SameState (settled_ends u x) (settled_ends v x)
    settled_ends_same (both_parameters h all) x =
        closing_same wide h (one_type (itself pointer_type) all) x
    settled_ends_same (both_inners s) x = inner_ends_same s x
    settled_ends_same (both_pointers {ns = ns} {ms = ms} k c all p) x =
        ends_same k (made ns ms pointer_type pointer_type c (itself pointer_type)) all p x
    settled_ends_same (both_functions d) x = function_ends_same d x

    bracket_same : {u v : Settled} (n : ℕ) → SameSettled u v → (x : Token) → SameState (bracket_or_end n u x) (bracket_or_end n v x)
    bracket_same zero s x = settled_ends_same s x
    bracket_same (suc n) s close_round = both_settled (fewer_same s n)
    bracket_same (suc n) s x = both_dead

    list_room_same : {u v : Settled} (b : Bool) → SameSettled u v → SameState (cond b (list_opened u) dead) (cond b (list_opened v) dead)
    list_room_same true s = both_list s
    list_room_same false s = both_dead

    list_with_room_same : {u v : Settled} → SameSettled u v → SameState (list_with_room u) (list_with_room v)
    list_with_room_same {u = u} {v = v} s =
        subst (λ n. SameState (list_with_room u) (cond (ltb n MOST_OPEN) (list_opened v) dead)) (depth_of_same s) (list_room_same (ltb (depth_of u) MOST_OPEN) s)

    settled_others : {u v : Settled} → SameSettled u v → (x : Token) → SameState (bracket_or_end (brackets_of u) u x) (bracket_or_end (brackets_of v) v x)
    settled_others {u = u} {v = v} s x =
        subst (λ n. SameState (bracket_or_end (brackets_of u) u x) (bracket_or_end n v x)) (brackets_same s) (bracket_same (brackets_of u) s x)

    -- ---- declarators

    bracket_room_same : {k l : Kind} {w v : Where} (o : Round) (b : Bool) → SameKind k l → SamePlace w v → SameState (cond b (round_opened k (bracket_inside o) w) dead) (cond b (round_opened l (bracket_inside o) v) dead)
    bracket_room_same o true k p = both_round k p
    bracket_room_same o false k p = both_dead

    open_bracket_same : {k l : Kind} {w v : Where} (o : Round) → SameKind k l → SamePlace w v → SameState (open_bracket k o w) (open_bracket l o v)
    open_bracket_same {k = k} {l = l} {w = w} {v = v} o s p =
        subst (λ n. SameState (open_bracket k o w) (cond (ltb (n + brackets o) MOST_OPEN) (round_opened l (bracket_inside o) v) dead)) (depth_same p) (bracket_room_same o (ltb (depth w + brackets o) MOST_OPEN) s p)

    function_name_same : {k l : Kind} (called : List ℕ) (o : Round) → SameKind k l → SameState (function_name called k o) (function_name called l o)
    function_name_same called (unstarred n) (both_whole s) = both_function s
    function_name_same called (unstarred n) both_bare = both_dead
    function_name_same called (unstarred n) both_nothing =
        both_function (itself void)
    function_name_same called (starred n m) k =
        both_function (itself pointer_type)

    member_name_same : {k l : Kind} {ts us : List Tree} {w v : Where} (o : Round) → SameKind k l → AllSame Same ts us → SamePlace w v → SameState (member_name k o ts w) (member_name l o us v)
    member_name_same (unstarred n) (both_whole s) all p =
        both_member_at (both_plain s none) all p
    member_name_same (unstarred n) both_bare all p = both_dead
    member_name_same (unstarred n) both_nothing all p = both_dead
    member_name_same (starred n m) k all p =
        both_member_at (both_starred k none) all p

    parameter_by_same : {k l : Kind} {h j : Head} {ts us : List Tree} (o : Round) → SameKind k l → SameHead h j → AllSame Same ts us → SameState (parameter_by k o h ts) (parameter_by l o j us)
    parameter_by_same (unstarred n) k h all = both_itself k h all
    parameter_by_same (starred n m) k h all =
        both_settled (both_parameters h all)

    inner_by_same : {k l : Kind} {u v : Settled} (o : Round) → SameKind k l → SameSettled u v → SameState (inner_by k o u) (inner_by l o v)
    inner_by_same (unstarred n) (both_whole t) s = both_settled (both_inners s)
    inner_by_same (unstarred n) both_bare s = both_settled (both_inners s)
    inner_by_same (unstarred n) both_nothing s = both_inner_nothing s
    inner_by_same (starred n m) k s = both_settled (both_inners s)

    declared_name_same : {k l : Kind} {w v : Where} (o : Round) (called : List ℕ) → SameKind k l → SamePlace w v → SameState (declared_name k o w called) (declared_name l o v called)
    declared_name_same o called k results = function_name_same called o k
    declared_name_same o called k (parameters h all) =
        parameter_by_same o k h all
    declared_name_same o called k (members all p) =
        member_name_same o k all p
    declared_name_same o called k (inners s) = inner_by_same o k s

    itself_or_same : {k l : Kind} {h j : Head} {ts us : List Tree} (n : ℕ) → SameKind k l → SameHead h j → AllSame Same ts us → (x : Token) → SameState (itself_or_bracket k n h ts x) (itself_or_bracket l n j us x)
    itself_or_same zero (both_whole s) h all x =
        closing_same wide h (one_type s all) x
    itself_or_same zero both_bare h all x = both_dead
    itself_or_same zero both_nothing h all x = both_dead
    itself_or_same (suc n) k h all close_round = both_itself k h all
    itself_or_same (suc n) k h all x = both_dead

    nothing_or_same : {u v : Settled} (n : ℕ) → SameSettled u v → (x : Token) → SameState (nothing_or_bracket n u x) (nothing_or_bracket n v x)
    nothing_or_same zero s x = both_dead
    nothing_or_same (suc n) s close_round = both_inner_nothing s
    nothing_or_same (suc n) s x = both_dead

    unnamed_same : {k l : Kind} {w v : Where} (o : Round) → SameKind k l → SamePlace w v → (x : Token) → SameState (step_unnamed k o w x) (step_unnamed l o v x)
    unnamed_same o k (parameters h all) open_square =
        both_square (both_parameters h all)
    unnamed_same (unstarred n) k (parameters h all) x =
        itself_or_same n k h all x
    unnamed_same (starred n m) k (parameters h all) x =
        bracket_same (and_more n m) (both_parameters h all) x
    unnamed_same o k (inners s) open_square = both_square (both_inners s)
    unnamed_same (unstarred n) (both_whole t) (inners s) x =
        bracket_same n (both_inners s) x
    unnamed_same (unstarred n) both_bare (inners s) x = bracket_same n (both_inners s) x
    unnamed_same (unstarred n) both_nothing (inners s) x = nothing_or_same n s x
    unnamed_same (starred n m) k (inners s) x =
        bracket_same (and_more n m) (both_inners s) x
    unnamed_same o k p x = both_dead

    declarator_same : {k l : Kind} {w v : Where} (o : Round) → SameKind k l → SamePlace w v → (x : Token) → SameState (step_declarator k o w x) (step_declarator l o v x)
    declarator_same o k p star = both_declarator k p
    declarator_same o k p (name called) = declared_name_same o called k p
    declarator_same o k p open_round = open_bracket_same o k p
    declarator_same o k p x = unnamed_same o k p x

    in_bracket_same : {k l : Kind} {w v : Where} (o : Round) (called : List ℕ) → SameKind k l → SamePlace w v → SameState (name_in_bracket k o w called) (name_in_bracket l o v called)
    in_bracket_same o called k results = function_name_same called o k
    in_bracket_same o called k (members all p) = member_name_same o k all p
    in_bracket_same o called k p = both_dead

    -- ---- members

    member_at_same : {b c : Member} {ts us : List Tree} {w v : Where} → SameMember b c → AllSame Same ts us → SamePlace w v → (x : Token) → SameState (step_member_at b ts w x) (step_member_at c us v x)
    member_at_same b all p open_square = both_member_bound b all p
    member_at_same (both_plain {t = t} {u = u} {ns = ns} {ms = ms} {n = zero} s c) all p x =
        ends_same (both_whole s) (made ns ms t u c s) all p x
    member_at_same (both_plain {n = suc n} s c) all p close_round =
        both_member_at (both_plain s c) all p
    member_at_same (both_plain {n = suc n} s c) all p x = both_dead
    member_at_same (both_starred {n = suc n} k c) all p close_round =
        both_member_at (both_starred k c) all p
    member_at_same (both_starred {n = suc n} k c) all p x = both_dead
    member_at_same (both_starred {ns = ns} {ms = ms} {n = zero} {m = zero} k c) all p x =
        ends_same k (made ns ms pointer_type pointer_type c (itself pointer_type)) all p x
    member_at_same (both_starred {n = zero} {m = suc m} k c) all p close_round =
        both_settled (both_pointers k c all p)
    member_at_same (both_starred {n = zero} {m = suc m} k c) all p x = both_dead

    -- ---- lists that are not kept

    -- ---- types of the plain reading

    name_same : {w v : Where} {t u : Tree} → SamePlace w v → Same t u → (called : List ℕ) → SameState (name_behind w t called) (name_behind v u called)
    name_same results s called =
        both_named (record { same_name = refl; same_result = s; same_dots = refl; same_round = refl })
    name_same (parameters h all) s called = both_parameter_named h (one_type s all)
    name_same (members all p) s called = both_member_named s none all p
    name_same (inners i) s called = both_settled (both_inners i)

    close_same : {w v : Where} {t u : Tree} (q : Dialect) → SamePlace w v → Same t u → SameState (close_behind q w t) (close_behind q v u)
    close_same q (parameters h all) s =
        list_same q h (in_order (one_type s all)) h.same_dots
    close_same q p s = both_dead

    comma_same : {w v : Where} {t u : Tree} → SamePlace w v → Same t u → SameState (comma_behind w t) (comma_behind v u)
    comma_same (parameters h all) s = comma_of_same h (one_type s all)
    comma_same p s = both_dead

    typed_same : {t u : Tree} {w v : Where} (q : Dialect) → Same t u → SamePlace w v → (x : Token) → SameState (step_typed q t w x) (step_typed q u v x)
    typed_same q s p star = both_typed (itself pointer_type) p
    typed_same q s p (name called) = name_same p s called
    typed_same q s p close_round = close_same q p s
    typed_same q s p comma = comma_same p s
    typed_same q s p x = both_dead

    room_same : {w v : Where} → SamePlace w v → (b : Bool) → SameState (cond b (wants_type (at_member [] w)) dead) (cond b (wants_type (at_member [] v)) dead)
    room_same p true = both_want_type (members no_types p)
    room_same p false = both_dead

    opened_same_struct : {w v : Where} → SamePlace w v → SameState (opened_struct w) (opened_struct v)
    opened_same_struct {w = w} {v = v} p =
        subst (λ n. SameState (cond (ltb (depth w) MOST_OPEN) (wants_type (at_member [] w)) dead) (cond (ltb n MOST_OPEN) (wants_type (at_member [] v)) dead)) (depth_same p) (room_same p (ltb (depth w) MOST_OPEN))

    named_by_same : {w v : Where} (o : Option Kind) → SamePlace w v → (x : Token) → SameState (step_named_by o w x) (step_named_by o v x)
    named_by_same (Some k) p x =
        declarator_same (unstarred 0) (kind_itself k) p x
    named_by_same None p x = both_dead

    go_on_same : {w v : Where} (o : Option Said) → SamePlace w v → SameState (words_go_on w o) (words_go_on v o)
    go_on_same (Some s) p = both_words p
    go_on_same None p = both_dead

    plain_void_same : {h k : Head} → SameHead h k → (x : Token) → SameState (plain_void h x) (plain_void k x)
    plain_void_same h star =
        both_typed (itself pointer_type) (parameters h no_types)
    plain_void_same h x = both_dead

    as_many : {ts us : List Tree} → AllSame Same ts us → Some (length ts) ≡ Some (length us)
    as_many all = ap Some (all_length Same all)

    fixing_same : {h k : Head} {n m : ℕ} → SameHead h k → n ≡ m → SameHead (fixing h n) (fixing k m)
    fixing_same h e =
        record { same_name = h.same_name; same_result = h.same_result; same_dots = ap Some e; same_round = h.same_round }

    pub step_same : {s r : State} (q : Dialect) → SameState s r → (x : Token) → TakenToken Taken x → SameState (step q s x) (keeping q r x)
    step_same q (both_want_type p) x taken = type_same q p x
    step_same q (both_want_base p) x taken = base_same q p x
    step_same q (both_signs {g = g} p) (char_word c) taken =
        both_typed (itself (scalar (char_of g))) p
    step_same q (both_signs p) short_word taken = both_short p
    step_same q (both_signs {g = g} p) int_word taken =
        both_typed (itself (scalar (int_of g))) p
    step_same q (both_signs p) long_word taken = both_long p
    step_same q (both_signs {g = g} p) int128_word taken =
        both_typed (itself (scalar (int128_of g))) p
    step_same q (both_signs {g = g} p) x taken =
        typed_same q (itself (scalar (int_of g))) p x
    step_same q (both_short {g = g} p) int_word taken =
        both_typed (itself (scalar (short_of g))) p
    step_same q (both_short {g = g} p) x taken =
        typed_same q (itself (scalar (short_of g))) p x
    step_same q (both_long p) long_word taken = both_long_long p
    step_same q (both_long {g = g} p) int_word taken =
        both_typed (itself (scalar (long_of g))) p
    step_same q (both_long {g = g} p) x taken =
        typed_same q (itself (scalar (long_of g))) p x
    step_same q (both_long_long {g = g} p) int_word taken =
        both_typed (itself (scalar (long_of g))) p
    step_same q (both_long_long {g = g} p) x taken =
        typed_same q (itself (scalar (long_of g))) p x
    step_same q (both_struct p) (name tag) taken =
        either_same q (both_want_star p) (both_struct_tag p)
    step_same q (both_struct p) open_curly taken = opened_same_struct p
    step_same q (both_words {s = s} p) (sign_word g) taken =
        go_on_same (say s (sign_word g)) p
    step_same q (both_words {s = s} p) short_word taken =
        go_on_same (say s short_word) p
    step_same q (both_words {s = s} p) int_word taken =
        go_on_same (say s int_word) p
    step_same q (both_words {s = s} p) long_word taken =
        go_on_same (say s long_word) p
    step_same q (both_words {s = s} p) int128_word taken =
        go_on_same (say s int128_word) p
    step_same q (both_words {s = s} p) (char_word c) taken =
        go_on_same (say s (char_word c)) p
    step_same q (both_words {s = s} p) complex_word taken =
        go_on_same (say s complex_word) p
    step_same q (both_words {s = s} p) (type_word float) taken =
        go_on_same (say s (type_word float)) p
    step_same q (both_words {s = s} p) (type_word double) taken =
        go_on_same (say s (type_word double)) p
    step_same q (both_words {s = s} p) x taken =
        named_by_same (named_by (words_of s)) p x
    step_same q (both_struct_tag p) open_curly taken = opened_same_struct p
    step_same q (both_struct_tag p) x taken =
        declarator_same (unstarred 0) both_bare p x
    step_same q (both_want_tag p) (name tag) taken = both_declarator both_bare p
    step_same q (both_want_star p) star taken = both_typed (itself pointer_type) p
    step_same q (both_sole_void h) close_round taken = list_same q h no_types refl
    step_same q (both_sole_void h) x taken =
        either_same q (plain_void_same h x) (declarator_same (unstarred 0) both_nothing (parameters h no_types) x)
    step_same q (both_typed s p) x taken = typed_same q s p x
    step_same q (both_named h) open_round taken = both_opened h
    step_same q (both_opened h) close_round taken = list_same q h no_types refl
    step_same q (both_opened h) void_word taken = both_sole_void h
    step_same q (both_opened h) x taken = type_same q (parameters h no_types) x
    step_same q (both_parameter_named h all) x taken = closing_same q h all x
    step_same q (both_comma h all) dots taken =
        either_same q (both_dots (declared_same h (in_order all) (as_many all))) (both_wide_dots h all)
    step_same q (both_comma h all) x taken = type_same q (parameters h all) x
    step_same q (both_dots d) close_round taken = both_closed d
    step_same q (both_member_named s c all p) open_square taken =
        both_want_count s c all p
    step_same q (both_member_named {t = t} {u = u} {ns = ns} {ms = ms} s c all p) semicolon taken =
        both_after_member (one_type (made ns ms t u c s) all) p
    step_same q (both_want_count {ns = ns} {ms = ms} s c all p) (number n) taken =
        both_counted s (one_more n ns ms taken c) all p
    step_same q (both_counted s c all p) close_square taken =
        both_member_named s c all p
    step_same q (both_after_member {ts = ts} {us = us} all p) close_curly taken =
        based_in_same q (both_whole (structs (onto ts []) (onto us []) (in_order all))) p
    step_same q (both_after_member all p) x taken = type_same q (members all p) x
    step_same q (both_declarator {o = o} k p) x taken = declarator_same o k p x
    step_same q (both_round k p) star taken = both_declarator k p
    step_same q (both_round {o = o} k p) open_round taken = open_bracket_same o k p
    step_same q (both_round {o = o} k p) (name called) taken =
        in_bracket_same o called k p
    step_same q (both_function s) open_round taken =
        both_opened (record { same_name = refl; same_result = s; same_dots = refl; same_round = refl })
    step_same q (both_function {o = unstarred (suc n)} s) close_round taken =
        both_function s
    step_same q (both_function {o = starred (suc n) m} s) close_round taken =
        both_function s
    step_same q (both_closing {o = unstarred zero} d) semicolon taken = both_ended d
    step_same q (both_closing {o = unstarred (suc n)} d) close_round taken =
        both_closing d
    step_same q (both_closing {o = starred (suc n) m} d) close_round taken =
        both_closing d
    step_same q (both_closing {o = starred zero zero} d) semicolon taken =
        both_ended d
    step_same q (both_closing {o = starred zero (suc m)} d) close_round taken =
        both_settled (both_functions d)
    step_same q (both_itself k h all) open_square taken =
        both_square (both_parameters h all)
    step_same q (both_itself k h all) open_round taken =
        list_with_room_same (both_parameters h all)
    step_same q (both_itself {n = n} k h all) x taken = itself_or_same n k h all x
    step_same q (both_inner_nothing s) open_square taken =
        both_square (both_inners s)
    step_same q (both_inner_nothing s) open_round taken =
        list_with_room_same (both_inners s)
    step_same q (both_inner_nothing {n = n} s) x taken = nothing_or_same n s x
    step_same q (both_member_at b all p) x taken = member_at_same b all p x
    step_same q (both_member_bound (both_plain {ns = ns} {ms = ms} s c) all p) (number n) taken =
        both_member_bounded (both_plain s (one_more n ns ms taken c)) all p
    step_same q (both_member_bound (both_starred {ns = ns} {ms = ms} k c) all p) (number n) taken =
        both_member_bounded (both_starred k (one_more n ns ms taken c)) all p
    step_same q (both_member_bounded b all p) close_square taken =
        both_member_at b all p
    step_same q (both_settled s) open_square taken = both_square s
    step_same q (both_settled s) open_round taken = list_with_room_same s
    step_same q (both_settled s) x taken = settled_others s x
    step_same q (both_square s) (number n) taken = both_filled s
    step_same q (both_square s) star taken = both_filled s
    step_same q (both_square s) (name called) taken = both_filled s
    step_same q (both_square s) close_square taken = both_settled s
    step_same q (both_filled s) close_square taken = both_settled s
    step_same q (both_list s) close_round taken = both_settled s
    step_same q (both_list s) void_word taken = both_list_void s
    step_same q (both_list s) x taken = type_same q (inners s) x
    step_same q (both_list_void s) close_round taken = both_settled s
    step_same q (both_list_void s) x taken =
        declarator_same (unstarred 0) both_nothing (inners s) x
    step_same q (both_list_comma s) dots taken = both_list_dots s
    step_same q (both_list_comma s) x taken = type_same q (inners s) x
    step_same q (both_list_dots s) close_round taken = both_settled s
    step_same q (both_wide_dots h all) close_round taken =
        list_same wide h (in_order all) (as_many all)
    step_same q (both_wide_dots h all) comma taken =
        both_want_type (parameters (fixing_same h (all_length Same all)) all)
    step_same q (both_closed d) semicolon taken = both_ended d
    step_same q s x taken = both_dead
