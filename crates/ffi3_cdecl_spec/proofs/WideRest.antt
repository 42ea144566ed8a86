-- What the grammar still wants in each state of the machine, for the declaration d, in the wide reading.
use Rattle.std.proofs.Common.{◌≡◌, ℕ, zero, suc, ◌+◌, ◌<◌, true, List, [], ◌∷◌, ◌++◌, Option, Some, None}
use Rattle.std.specs.Prelude.{⊤}
use Rattle.ffi3_type_spec.specs.Tree.{Tree, struct_of}
use Rattle.ffi3_cdecl_spec.specs.Tokens.{wide, Token, name, number, open_round, close_round, open_curly, close_curly, close_square, comma, semicolon, dots}
use Rattle.ffi3_cdecl_spec.specs.Grammar.{Kind, whole, bare, nothing, MOST_OPEN, pointer_type, named_by, AreSpecifiers, Shape, a_value, pointer_shape, passed, member_type, returned, Naming, must_be_named, may_be_named, may_begin, IsCalled, IsBase, IsQualified, IsSuffixes, IsDeclarator, IsInners, IsInnerList, AreDeclared, IsMembers, Function, IsFunction, IsEnd, Declaration, declared, is_named_bound}
use Rattle.ffi3_cdecl_spec.specs.Machine.{Round, unstarred, starred, brackets, Head, declared_by, Where, at_result, at_parameter, at_member, at_inner, Settled, a_parameter, an_inner, a_pointer_member, the_function, Member, plain_member, starred_member, bound_of, depth, depth_of, brackets_of, onto, arrays, words_of, State, wants_type, wants_base, after_words, after_struct_tag, wants_tag, after_struct, sole_void, opened, after_comma, after_member, declarator, round_opened, function_named, closing, parameter_itself, inner_nothing, member_at, member_bound, member_bounded, settled, square_opened, square_filled, list_opened, list_void, list_comma, list_dots, wide_dots, ended, dead}
use Rattle.ffi3_cdecl_spec.proofs.Shapes.{arrays_shape}
use Rattle.ffi3_cdecl_spec.proofs.Lists.{DotsFollow, NextFollows, CloseFollows, ListFollows, ListIs}

-- no token is left
pub data IsOver : List Token → Type 0 where
  over : IsOver []

-- ---- round a declarator

-- The brackets that are open close, with suffixes behind each, where it does not matter what these make of what stands outside: so many brackets, so deep.
pub data Closings : ℕ → ℕ → List Token → List Token → Type 0 where
  no_bracket : {m : ℕ} {xs : List Token} → Closings m zero xs xs
  a_bracket : {m n : ℕ} {mid xs behind : List Token} {s e : Shape} → IsSuffixes wide m mid xs s e → Closings m n xs behind → Closings (suc m) (suc n) (close_round ∷ mid) behind

-- What stands outside of a shape, where these brackets are open, so deep, round a declarator of a base of this kind.
pub data Outside (k : Kind) : ℕ → Round → Shape → List Token → List Token → Type 0 where
  no_outside : {m : ℕ} {xs : List Token} → Outside k m (unstarred zero) (a_value k) xs xs
  outside_bracket : {m n : ℕ} {mid xs behind : List Token} {s e : Shape} → IsSuffixes wide m mid xs s e → Outside k m (unstarred n) s xs behind → Outside k (suc m) (unstarred (suc n)) e (close_round ∷ mid) behind
  inside_star : {m n j : ℕ} {mid xs behind : List Token} {s e : Shape} → IsSuffixes wide m mid xs s e → Outside k m (starred n j) s xs behind → Outside k (suc m) (starred (suc n) j) e (close_round ∷ mid) behind
  at_star : {m j : ℕ} {xs behind : List Token} → Closings m j xs behind → Outside k m (starred zero j) pointer_shape xs behind

-- a declarator, in a place so deep, and E behind it, of its shape
pub data DeclaratorFollows (a : Naming) (n : ℕ) (E : Shape → List Token → Type 0) (k : Kind) (o : Round) (xs : List Token) : Type 0 where
  declarator_follows : {m : ℕ} {mid behind : List Token} {e t : Shape} → m ≡ n + brackets o → IsDeclarator wide a m xs mid e t → Outside k m o e mid behind → E t behind → DeclaratorFollows a n E k o xs

-- what stands behind the name, or where it is left out
pub data BehindName (n : ℕ) (E : Shape → List Token → Type 0) (k : Kind) (o : Round) (xs : List Token) : Type 0 where
  behind_name : {m : ℕ} {mid behind : List Token} {e t : Shape} → m ≡ n + brackets o → IsSuffixes wide m xs mid e t → Outside k m o e mid behind → E t behind → BehindName n E k o xs

-- what stands there, where it does not matter what it makes of the shape: so deep, inside so many brackets
pub data SettledFollows (m n : ℕ) (X : List Token → Type 0) (xs : List Token) : Type 0 where
  settles : {mid behind : List Token} {e t : Shape} → IsSuffixes wide m xs mid e t → Closings m n mid behind → X behind → SettledFollows m n X xs

-- ---- lists that are not kept, in a place so deep, and what follows their ")"

pub data SomeInners (m : ℕ) (G : List Token → Type 0) (xs : List Token) : Type 0 where
  inners_and : {behind : List Token} → IsInners wide (suc m) xs behind → G behind → SomeInners m G xs

-- behind a comma
pub data InnersFollow (m : ℕ) (G : List Token → Type 0) : List Token → Type 0 where
  inner_ends_by_dots : {xs : List Token} → G xs → InnersFollow m G (dots ∷ close_round ∷ xs)
  more_inners : {xs : List Token} → SomeInners m G xs → InnersFollow m G xs

-- behind one of their parameters
pub data InnerEnds (m : ℕ) (G : List Token → Type 0) : List Token → Type 0 where
  inner_closes : {xs : List Token} → G xs → InnerEnds m G (close_round ∷ xs)
  inner_goes_on : {xs : List Token} → InnersFollow m G xs → InnerEnds m G (comma ∷ xs)

pub data InnerListFollows (m : ℕ) (G : List Token → Type 0) (xs : List Token) : Type 0 where
  inner_list_follows : {behind : List Token} → IsInnerList wide (suc m) xs behind → G behind → InnerListFollows m G xs

pub data RoundThen (G : List Token → Type 0) : List Token → Type 0 where
  a_round : {xs : List Token} → G xs → RoundThen G (close_round ∷ xs)

-- ---- members of a struct in a place so deep, behind these members, and what follows its "}"

pub data SomeMembers (n : ℕ) (F : List Tree → List Token → Type 0) (ts : List Tree) (xs : List Token) : Type 0 where
  some_members : {behind : List Token} {ms : List Tree} → IsMembers wide (suc n) xs behind ms → F (onto ts ms) behind → SomeMembers n F ts xs

pub data SomeDeclared (n : ℕ) (F : List Tree → List Token → Type 0) (k : Kind) (ts : List Tree) (xs : List Token) : Type 0 where
  some_declared : {behind : List Token} {ms : List Tree} → AreDeclared wide (suc n) k xs behind ms → F (onto ts ms) behind → SomeDeclared n F k ts xs

pub data MembersFollow (n : ℕ) (F : List Tree → List Token → Type 0) (ts : List Tree) : List Token → Type 0 where
  no_more : {xs : List Token} → F (onto ts []) xs → MembersFollow n F ts (close_curly ∷ xs)
  more : {xs : List Token} → SomeMembers n F ts xs → MembersFollow n F ts xs

-- behind the declarator of a member of this type, by a base of this kind
pub data MemberEnds (n : ℕ) (F : List Tree → List Token → Type 0) (ts : List Tree) (k : Kind) (t : Tree) : List Token → Type 0 where
  member_ends_here : {xs : List Token} → MembersFollow n F (t ∷ ts) xs → MemberEnds n F ts k t (semicolon ∷ xs)
  member_goes_on : {xs : List Token} → SomeDeclared n F k (t ∷ ts) xs → MemberEnds n F ts k t (comma ∷ xs)

-- ---- brackets and numbers of an array

pub data NumberThen (G : ℕ → List Token → Type 0) : List Token → Type 0 where
  a_number : {xs : List Token} {n : ℕ} → G n xs → NumberThen G (number n ∷ xs)

pub data SquareThen (G : List Token → Type 0) : List Token → Type 0 where
  square : {xs : List Token} → G xs → SquareThen G (close_square ∷ xs)

pub data BoundThen (G : List Token → Type 0) : List Token → Type 0 where
  a_bound : {xs : List Token} {n : ℕ} → G xs → BoundThen G (number n ∷ close_square ∷ xs)
  no_bound : {xs : List Token} → G xs → BoundThen G (close_square ∷ xs)
  named_bound : {xs : List Token} {x : Token} → is_named_bound x ≡ true → G xs → BoundThen G (x ∷ close_square ∷ xs)

-- ---- the brackets round the function close behind its parameters

pub data Closes : ℕ → Round → List Token → List Token → Type 0 where
  none_closes : {m : ℕ} {xs : List Token} → Closes m (unstarred zero) xs xs
  outer_closes : {m n : ℕ} {xs behind : List Token} → Closes m (unstarred n) xs behind → Closes (suc m) (unstarred (suc n)) (close_round ∷ xs) behind
  inner_bracket_closes : {m n j : ℕ} {xs behind : List Token} → Closes m (starred n j) xs behind → Closes (suc m) (starred (suc n) j) (close_round ∷ xs) behind
  star_closes : {m j : ℕ} {xs behind : List Token} → Closings m j xs behind → Closes m (starred zero j) xs behind

-- the result of a function inside these brackets, by its base
abbrev pub ReturnedBy : Kind → Round → Tree → Type 0
ReturnedBy k (unstarred n) t = returned (a_value k) ≡ Some t
ReturnedBy k (starred n j) t = t ≡ pointer_type

abbrev pub new_head : List ℕ → Tree → Round → Head
new_head called t o =
    record { called = called; result_type = t; fixed = None; round = o }

abbrev pub declares_it : Function → Declaration
declares_it f = declared f.called f.result_type f.parameters f.fixed

abbrev pub naming : Where → Naming
naming at_result = must_be_named
naming (at_parameter head ts) = may_be_named
naming (at_member ts w) = must_be_named
naming (at_inner u) = may_be_named

module _ (d : Declaration) where
  pub data ClosingFollows (o : Round) (e : Declaration) (xs : List Token) : Type 0 where
    closing_follows : {behind : List Token} → Closes (brackets o) o xs behind → IsEnd behind → e ≡ d → ClosingFollows o e xs

  -- behind the ")" of the parameters
  abbrev pub E : Head → List Tree → Option ℕ → List Token → Type 0
  E head ts fixed xs = ClosingFollows head.round (declared_by head ts fixed) xs

  -- behind the function's name
  pub data NamedFollows (called : List ℕ) (t : Tree) : Round → List Token → Type 0 where
    its_list : {o : Round} {xs : List Token} → ListIs wide E (new_head called t o) xs → NamedFollows called t o (open_round ∷ xs)
    its_bracket : {n : ℕ} {xs : List Token} → NamedFollows called t (unstarred n) xs → NamedFollows called t (unstarred (suc n)) (close_round ∷ xs)
    its_inner_bracket : {n j : ℕ} {xs : List Token} → NamedFollows called t (starred n j) xs → NamedFollows called t (starred (suc n) j) (close_round ∷ xs)

  -- the function's declarator, there
  pub data FunctionInside (k : Kind) (o : Round) (xs : List Token) : Type 0 where
    function_inside_of : {f : Function} {mid behind : List Token} {e : Shape} → IsFunction wide f (brackets o) xs mid e → Outside k (brackets o) o e mid behind → IsEnd behind → declares_it f ≡ d → FunctionInside k o xs

  -- or its name, in some of the brackets
  pub data FunctionFollows (k : Kind) (o : Round) (xs : List Token) : Type 0 where
    function_inside : FunctionInside k o xs → FunctionFollows k o xs
    name_inside : {mid : List Token} {called : List ℕ} {t : Tree} → IsCalled (brackets o) xs mid called → ReturnedBy k o t → NamedFollows called t o mid → FunctionFollows k o xs

  -- a declarator by a base of a kind, there, and E behind it
  abbrev pub DeclaredAt : Where → (Kind → Shape → List Token → Type 0) → Kind → Round → List Token → Type 0
  DeclaredAt at_result X k o xs = FunctionFollows k o xs
  DeclaredAt (at_parameter head ts) X k o xs =
      DeclaratorFollows may_be_named 0 (X k) k o xs
  DeclaredAt (at_member ts w) X k o xs =
      DeclaratorFollows must_be_named (suc (depth w)) (X k) k o xs
  DeclaredAt (at_inner u) X k o xs =
      DeclaratorFollows may_be_named (suc (depth_of u)) (X k) k o xs

  pub data ParameterEnds (head : Head) (ts : List Tree) (s : Shape) (xs : List Token) : Type 0 where
    parameter_ends : {t : Tree} → passed s ≡ Some t → CloseFollows wide E head (t ∷ ts) head.fixed xs → ParameterEnds head ts s xs

  pub data MemberFollows (n : ℕ) (F : List Tree → List Token → Type 0) (ts : List Tree) (k : Kind) (s : Shape) (xs : List Token) : Type 0 where
    member_follows : {t : Tree} → member_type s ≡ Some t → MemberEnds n F ts k t xs → MemberFollows n F ts k s xs

  pub data InnerFollows (m : ℕ) (G : List Token → Type 0) (s : Shape) (xs : List Token) : Type 0 where
    inner_follows : (s ≡ a_value nothing → ⊥) → InnerEnds m G xs → InnerFollows m G s xs

  -- what follows a declarator of this shape by a base of this kind, there; and what follows where it does not matter
  abbrev mutual
    pub Ends : Where → Kind → Shape → List Token → Type 0
    Ends at_result k s xs = ⊥
    Ends (at_parameter head ts) k s xs = ParameterEnds head ts s xs
    Ends (at_member ts w) k s xs =
        MemberFollows (depth w) (λ ms. DeclaredAt w (Ends w) (whole (struct_of ms)) (unstarred 0)) ts k s xs
    Ends (at_inner u) k s xs =
        InnerFollows (depth_of u) (SettledFollows (depth_of u) (brackets_of u) (SettledEnds u)) s xs

    pub SettledEnds : Settled → List Token → Type 0
    SettledEnds (a_parameter head ts n) xs =
        CloseFollows wide E head (pointer_type ∷ ts) head.fixed xs
    SettledEnds (an_inner u n) xs =
        InnerEnds (depth_of u) (SettledFollows (depth_of u) (brackets_of u) (SettledEnds u)) xs
    SettledEnds (a_pointer_member k ns ts w n) xs =
        MemberEnds (depth w) (λ ms. DeclaredAt w (Ends w) (whole (struct_of ms)) (unstarred 0)) ts k (arrays ns pointer_type) xs
    SettledEnds (the_function e n) xs = IsEnd xs × (e ≡ d)

  abbrev pub SettledRest : Settled → List Token → Type 0
  SettledRest u xs =
      SettledFollows (depth_of u) (brackets_of u) (SettledEnds u) xs

  abbrev pub DeclaratorRest : Kind → Round → Where → List Token → Type 0
  DeclaratorRest k o w xs = DeclaredAt w (Ends w) k o xs

  -- behind a base of a kind
  abbrev pub KindFollows : Kind → Where → List Token → Type 0
  KindFollows k w xs = DeclaratorRest k (unstarred 0) w xs

  -- behind a struct of these members
  abbrev pub StructOf : Where → List Tree → List Token → Type 0
  StructOf w ms xs = DeclaredAt w (Ends w) (whole (struct_of ms)) (unstarred 0) xs

  abbrev pub BaseFollows : Where → List Token → Type 0
  BaseFollows w xs =
      (behind : List Token) × (k : Kind) × IsBase wide (depth w) xs behind k × KindFollows k w behind

  abbrev pub TypeFollows : Where → List Token → Type 0
  TypeFollows w xs =
      (behind : List Token) × (k : Kind) × IsQualified wide (depth w) xs behind k × KindFollows k w behind

  -- behind "{"
  pub data CurlyFollows (w : Where) : List Token → Type 0 where
    curly_follows : {xs behind : List Token} {ms : List Tree} → depth w < MOST_OPEN → IsMembers wide (suc (depth w)) xs behind ms → StructOf w ms behind → CurlyFollows w (open_curly ∷ xs)

  -- behind a tag that members may follow
  pub data TagFollows (w : Where) (xs : List Token) : Type 0 where
    members_of_tag : CurlyFollows w xs → TagFollows w xs
    no_members : KindFollows bare w xs → TagFollows w xs

  -- behind a word that a tag alone follows
  pub data AloneFollows (w : Where) : List Token → Type 0 where
    the_tag : {xs : List Token} {tag : List ℕ} → KindFollows bare w xs → AloneFollows w (name tag ∷ xs)

  pub data StructFollows (w : Where) : List Token → Type 0 where
    a_tag_follows : {xs : List Token} {tag : List ℕ} → TagFollows w xs → StructFollows w (name tag ∷ xs)
    members_follow : {xs : List Token} → CurlyFollows w xs → StructFollows w xs

  -- behind `void` as the first parameter, and as that of a list that is not kept
  pub data VoidFollows (head : Head) : List Token → Type 0 where
    void_closes : {xs : List Token} → E head [] None xs → VoidFollows head (close_round ∷ xs)
    void_declared : {xs : List Token} → KindFollows nothing (at_parameter head []) xs → VoidFollows head xs

  pub data InnerVoidFollows (u : Settled) : List Token → Type 0 where
    inner_void_closes : {xs : List Token} → SettledRest u xs → InnerVoidFollows u (close_round ∷ xs)
    inner_void_declared : {xs : List Token} → KindFollows nothing (at_inner u) xs → InnerVoidFollows u xs

  -- behind the name of a member
  abbrev pub MemberRest : Member → List Tree → Where → List Token → Type 0
  MemberRest (plain_member t ns n) ts w xs =
      BehindName (suc (depth w)) (λ s. MemberFollows (depth w) (StructOf w) ts (whole t) (arrays_shape ns s)) (whole t) (unstarred n) xs
  MemberRest (starred_member k ns n j) ts w xs =
      BehindName (suc (depth w)) (λ s. MemberFollows (depth w) (StructOf w) ts k (arrays_shape ns s)) k (starred n j) xs

  -- What is still wanted in a state; of those of the plain reading alone nothing is said.
  abbrev pub Rest : State → List Token → Type 0
  Rest (wants_type w) xs = TypeFollows w xs
  Rest (wants_base w) xs = BaseFollows w xs
  Rest (after_struct w) xs = StructFollows w xs
  Rest (after_words s w) xs =
      (behind : List Token) × (ws : List Token) × (k : Kind) × AreSpecifiers xs behind ws × (named_by (words_of s ++ ws) ≡ Some k) × KindFollows k w behind
  Rest (after_struct_tag w) xs = TagFollows w xs
  Rest (wants_tag w) xs = AloneFollows w xs
  Rest (sole_void head) xs = VoidFollows head xs
  Rest (opened head) xs = ListFollows wide E head xs
  Rest (after_comma head ts) xs = NextFollows wide E head ts head.fixed xs
  Rest (wide_dots head ts) xs = DotsFollow wide E head ts xs
  Rest (after_member ts w) xs = MembersFollow (depth w) (StructOf w) ts xs
  Rest (declarator k o w) xs = DeclaratorRest k o w xs
  Rest (round_opened k o w) xs =
      (may_begin (naming w) xs ≡ true) × DeclaratorRest k o w xs
  Rest (function_named called t o) xs = NamedFollows called t o xs
  Rest (closing o e) xs = ClosingFollows o e xs
  Rest (parameter_itself k n head ts) xs =
      BehindName 0 (ParameterEnds head ts) k (unstarred n) xs
  Rest (inner_nothing n u) xs =
      BehindName (suc (depth_of u)) (InnerFollows (depth_of u) (SettledRest u)) nothing (unstarred n) xs
  Rest (member_at b ts w) xs = MemberRest b ts w xs
  Rest (member_bound b ts w) xs =
      NumberThen (λ n. SquareThen (MemberRest (bound_of b n) ts w)) xs
  Rest (member_bounded b ts w) xs = SquareThen (MemberRest b ts w) xs
  Rest (settled u) xs = SettledRest u xs
  Rest (square_opened u) xs = BoundThen (SettledRest u) xs
  Rest (square_filled u) xs = SquareThen (SettledRest u) xs
  Rest (list_opened u) xs = InnerListFollows (depth_of u) (SettledRest u) xs
  Rest (list_void u) xs = InnerVoidFollows u xs
  Rest (list_comma u) xs = InnersFollow (depth_of u) (SettledRest u) xs
  Rest (list_dots u) xs = RoundThen (SettledRest u) xs
  Rest (ended e) xs = IsOver xs × (e ≡ d)
  Rest dead xs = ⊥
  Rest s xs = ⊤
