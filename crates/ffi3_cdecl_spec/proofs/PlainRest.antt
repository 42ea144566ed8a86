-- What the grammar still wants in each state of the machine, for the declaration d, in the plain reading.
use Rattle.std.proofs.Common.{◌≡◌, ℕ, suc, ◌<◌, ◌⊎◌, List, [], ◌∷◌, Option, None}
use Rattle.std.specs.Prelude.{⊤}
use Rattle.ffi3_type_spec.specs.Tree.{Scalar, Tree, void, scalar, struct_of}
use Rattle.ffi3_cdecl_spec.specs.Tokens.{plain, Token, name, number, open_round, close_round, open_curly, close_curly, close_square}
use Rattle.ffi3_cdecl_spec.specs.Grammar.{Kind, whole, bare, nothing, MOST_OPEN, pointer_type, short_of, long_of, Declaration, IsIntOrNot, IsLongTail, IsSigned, IsStars, IsCounts, IsBase, IsQualified, IsMembers, IsEnd}
use Rattle.ffi3_cdecl_spec.specs.Machine.{unstarred, Head, declared_by, Where, at_result, at_parameter, at_member, at_inner, depth, onto, arrays, State, wants_type, wants_base, after_sign, after_short, after_long, after_long_long, after_struct, wants_star, sole_void, typed, named, opened, parameter_named, after_comma, after_dots, member_named, wants_count, counted, after_member, closed, ended, dead}
use Rattle.ffi3_cdecl_spec.proofs.Lists.{NextFollows, CloseFollows, ListFollows}

-- no token is left
pub data IsOver : List Token → Type 0 where
  over : IsOver []

-- stars, and what follows a pointer
abbrev pub Starred : (Tree → List Token → Type 0) → List Token → Type 0
Starred F ts =
    (behind : List Token) × IsStars ts behind × F pointer_type behind

-- what follows a type that stars may still make a pointer of
abbrev pub MaybeStarred : (Tree → List Token → Type 0) → Tree → List Token → Type 0
MaybeStarred F t ts = F t ts ⊎ Starred F ts

-- members are there behind so many, in a struct inside n others
pub data SomeMembers (F : Tree → List Token → Type 0) (n : ℕ) (ts : List Tree) (xs : List Token) : Type 0 where
  some_members : {behind : List Token} {ms : List Tree} → IsMembers plain (suc n) xs behind ms → MaybeStarred F (struct_of (onto ts ms)) behind → SomeMembers F n ts xs

-- what follows there
pub data MembersFollow (F : Tree → List Token → Type 0) (n : ℕ) (ts : List Tree) : List Token → Type 0 where
  no_more : {xs : List Token} → MaybeStarred F (struct_of (onto ts [])) xs → MembersFollow F n ts (close_curly ∷ xs)
  more : {xs : List Token} → SomeMembers F n ts xs → MembersFollow F n ts xs

-- what follows the name of a member with so many counts
abbrev pub CountsFollow : (Tree → List Token → Type 0) → ℕ → List Tree → List ℕ → Tree → List Token → Type 0
CountsFollow F n ts ns t xs =
    (behind : List Token) × (m : Tree) × IsCounts t xs behind m × MembersFollow F n (arrays ns m ∷ ts) behind

pub data MemberFollows (F : Tree → List Token → Type 0) (n : ℕ) (ts : List Tree) (t : Tree) : List Token → Type 0 where
  by_member_name : {xs : List Token} {called : List ℕ} → CountsFollow F n ts [] t xs → MemberFollows F n ts t (name called ∷ xs)

pub data SquareFollows (F : Tree → List Token → Type 0) (n : ℕ) (ts : List Tree) (ns : List ℕ) (t : Tree) : List Token → Type 0 where
  square : {xs : List Token} → CountsFollow F n ts ns t xs → SquareFollows F n ts ns t (close_square ∷ xs)

pub data CountFollows (F : Tree → List Token → Type 0) (n : ℕ) (ts : List Tree) (ns : List ℕ) (t : Tree) : List Token → Type 0 where
  a_number : {xs : List Token} {k : ℕ} → SquareFollows F n ts (k ∷ ns) t xs → CountFollows F n ts ns t (number k ∷ xs)

module _ (d : Declaration) where
  -- behind the ")" of the parameters
  abbrev pub E : Head → List Tree → Option ℕ → List Token → Type 0
  E head ts fixed xs = IsEnd xs × (declared_by head ts fixed ≡ d)

  pub data RoundFollows (head : Head) : List Token → Type 0 where
    round : {xs : List Token} → ListFollows plain E head xs → RoundFollows head (open_round ∷ xs)

  pub data NameFollows (t : Tree) : List Token → Type 0 where
    by_function : {xs : List Token} {called : List ℕ} → RoundFollows (record { called = called; result_type = t; fixed = None; round = unstarred 0 }) xs → NameFollows t (name called ∷ xs)

  pub data ParameterFollows (head : Head) (ts : List Tree) : List Token → Type 0 where
    unnamed : {xs : List Token} → CloseFollows plain E head ts head.fixed xs → ParameterFollows head ts xs
    by_parameter : {xs : List Token} {called : List ℕ} → CloseFollows plain E head ts head.fixed xs → ParameterFollows head ts (name called ∷ xs)

  -- the plain reading has no list that is not kept
  abbrev pub Follows : Where → Tree → List Token → Type 0
  Follows at_result t xs = NameFollows t xs
  Follows (at_parameter head ts) t xs = ParameterFollows head (t ∷ ts) xs
  Follows (at_member ts w) t xs = MemberFollows (Follows w) (depth w) ts t xs
  Follows (at_inner u) t xs = ⊤

  -- behind a base of a kind
  abbrev pub KindFollows : Kind → Where → List Token → Type 0
  KindFollows (whole t) w xs = MaybeStarred (Follows w) t xs
  KindFollows bare w xs = Starred (Follows w) xs
  KindFollows nothing at_result xs = MaybeStarred (Follows at_result) void xs
  KindFollows nothing (at_parameter head ts) xs =
      Starred (Follows (at_parameter head ts)) xs
  KindFollows nothing (at_member ts w) xs =
      Starred (Follows (at_member ts w)) xs
  KindFollows nothing (at_inner u) xs = Starred (Follows (at_inner u)) xs

  abbrev pub BaseFollows : Where → List Token → Type 0
  BaseFollows w xs =
      (behind : List Token) × (k : Kind) × IsBase plain (depth w) xs behind k × KindFollows k w behind

  abbrev pub TypeFollows : Where → List Token → Type 0
  TypeFollows w xs =
      (behind : List Token) × (k : Kind) × IsQualified plain (depth w) xs behind k × KindFollows k w behind

  pub data StructFollows (w : Where) : List Token → Type 0 where
    a_tag_follows : {xs : List Token} {tag : List ℕ} → Starred (Follows w) xs → StructFollows w (name tag ∷ xs)
    members_follow : {xs behind : List Token} {ms : List Tree} → depth w < MOST_OPEN → IsMembers plain (suc (depth w)) xs behind ms → MaybeStarred (Follows w) (struct_of ms) behind → StructFollows w (open_curly ∷ xs)

  pub data VoidFollows (head : Head) : List Token → Type 0 where
    void_closes : {xs : List Token} → E head [] None xs → VoidFollows head (close_round ∷ xs)
    void_pointer : {xs : List Token} → Starred (Follows (at_parameter head [])) xs → VoidFollows head xs

  pub data EndFollows (e : Declaration) : List Token → Type 0 where
    end_follows : {xs : List Token} → IsEnd xs → e ≡ d → EndFollows e (close_round ∷ xs)

  -- what is still wanted in a state; of those of the wide reading alone nothing is said
  abbrev pub Rest : State → List Token → Type 0
  Rest (wants_type w) xs = TypeFollows w xs
  Rest (wants_base w) xs = BaseFollows w xs
  Rest (after_sign g w) xs =
      (behind : List Token) × (s : Scalar) × IsSigned g xs behind s × MaybeStarred (Follows w) (scalar s) behind
  Rest (after_short g w) xs =
      (behind : List Token) × IsIntOrNot xs behind × MaybeStarred (Follows w) (scalar (short_of g)) behind
  Rest (after_long g w) xs =
      (behind : List Token) × IsLongTail xs behind × MaybeStarred (Follows w) (scalar (long_of g)) behind
  Rest (after_long_long g w) xs =
      (behind : List Token) × IsIntOrNot xs behind × MaybeStarred (Follows w) (scalar (long_of g)) behind
  Rest (after_struct w) xs = StructFollows w xs
  Rest (wants_star w) xs = Starred (Follows w) xs
  Rest (sole_void head) xs = VoidFollows head xs
  Rest (typed t w) xs = MaybeStarred (Follows w) t xs
  Rest (named head) xs = RoundFollows head xs
  Rest (opened head) xs = ListFollows plain E head xs
  Rest (parameter_named head ts) xs = CloseFollows plain E head ts head.fixed xs
  Rest (after_comma head ts) xs = NextFollows plain E head ts head.fixed xs
  Rest (after_dots e) xs = EndFollows e xs
  Rest (member_named t ns ts w) xs = CountsFollow (Follows w) (depth w) ts ns t xs
  Rest (wants_count t ns ts w) xs = CountFollows (Follows w) (depth w) ts ns t xs
  Rest (counted t ns ts w) xs = SquareFollows (Follows w) (depth w) ts ns t xs
  Rest (after_member ts w) xs = MembersFollow (Follows w) (depth w) ts xs
  Rest (closed e) xs = IsEnd xs × (e ≡ d)
  Rest (ended e) xs = IsOver xs × (e ≡ d)
  Rest dead xs = ⊥
  Rest s xs = ⊤
