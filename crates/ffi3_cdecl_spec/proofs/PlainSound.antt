-- What is accepted in the plain reading is in the grammar.
use Rattle.std.proofs.Common.{◌≡◌, ℕ, suc, ◌<◌, inl, inr, Bool, true, false, cond, List, [], ◌∷◌, length, Option, Some, None, ltb, subst, refl}
use Rattle.std.proofs.lemmas.Bool.{ltb-true}
use Rattle.ffi3_type_spec.specs.Tree.{Tree, scalar, array_of}
use Rattle.ffi3_cdecl_spec.specs.Tokens.{plain, Token, signed, type_word, sign_word, const_word, short_word, int_word, long_word, int128_word, char_word, void_word, struct_word, name, number, close_round, open_curly, close_curly, open_round, open_square, close_square, comma, semicolon, star, dots}
use Rattle.ffi3_cdecl_spec.specs.Grammar.{Kind, whole, bare, nothing, MOST_OPEN, pointer_type, char_of, short_of, int_of, long_of, int128_of, Declaration, no_int, with_int, one_long, two_longs, a_short, an_int, a_long, an_int128, sign_alone, sign_of_char, sign_of_size, one_star, more_stars, no_count, a_count, by_word, by_size, by_sign, a_char, a_void, a_tag, a_struct, IsQualified, unqualified, constant, IsType, itself, pointer_to, IsMember, a_member, last_member, next_member, IsParameter, without_name, with_name, IsResult, a_result, no_result, IsEnd, no_semicolon, one_semicolon, IsDeclarationIn, declares}
use Rattle.ffi3_cdecl_spec.specs.Machine.{unstarred, Head, declared_by, Where, at_result, at_parameter, at_member, at_inner, depth, onto, State, wants_type, wants_base, after_sign, after_short, after_long, after_long_long, after_struct, wants_star, sole_void, typed, named, opened, parameter_named, after_comma, after_dots, member_named, wants_count, counted, after_member, closed, closing, settled, ended, dead, based, step_base, step_type, comma_of, step_closing, name_behind, close_behind, comma_behind, step_typed, step, finish, begun, Accepts}
use Rattle.ffi3_cdecl_spec.proofs.Lists.{ParametersFollow, DotsFollow, dots_end, NextFollows, the_dots, the_next, CloseFollows, closes, goes_on, types_go_on, ListFollows, list_closes, list_of_void, list_of_parameters, ListIs, list_is, list_by, with_parameter}
use Rattle.ffi3_cdecl_spec.proofs.PlainRest.{IsOver, over, Starred, MaybeStarred, SomeMembers, some_members, MembersFollow, no_more, more, CountsFollow, by_member_name, square, CountFollows, a_number, E, round, NameFollows, by_function, unnamed, by_parameter, Follows, KindFollows, BaseFollows, TypeFollows, StructFollows, a_tag_follows, members_follow, VoidFollows, void_closes, void_pointer, EndFollows, end_follows, Rest}
use Rattle.ffi3_cdecl_spec.proofs.Never.{none_some}

pub some_same : {d e : Declaration} → Some d ≡ Some e → d ≡ e
some_same p = cc

module _ (d : Declaration) where
  abbrev F : Where → Tree → List Token → Type 0
  F w = Follows d w

  -- ---- types from what is wanted of them

  -- a value's type, anywhere but at the result
  pub data ValueFollows (w : Where) (xs : List Token) : Type 0 where
    value_follows : {behind : List Token} {t : Tree} → IsType plain (depth w) xs behind t → F w t behind → ValueFollows w xs

  by_kind : {xs behind : List Token} (w : Where) (t : Tree) → IsQualified plain (depth w) xs behind (whole t) → MaybeStarred (F w) t behind → ValueFollows w xs
  by_kind w t q (inl f) = value_follows (itself q) f
  by_kind w t q (inr s) = value_follows (pointer_to q s.1) s.2

  by_star : {xs behind : List Token} {k : Kind} (w : Where) → IsQualified plain (depth w) xs behind k → Starred (F w) behind → ValueFollows w xs
  by_star w q s = value_follows (pointer_to q s.1) s.2

  parameter_by : {xs behind : List Token} (k : Kind) (head : Head) (ts : List Tree) → IsQualified plain 0 xs behind k → KindFollows d k (at_parameter head ts) behind → ValueFollows (at_parameter head ts) xs
  parameter_by (whole t) head ts q f = by_kind (at_parameter head ts) t q f
  parameter_by _ head ts q f = by_star (at_parameter head ts) q f

  member_by : {xs behind : List Token} (k : Kind) (ts : List Tree) (w : Where) → IsQualified plain (suc (depth w)) xs behind k → KindFollows d k (at_member ts w) behind → ValueFollows (at_member ts w) xs
  member_by (whole t) ts w q f = by_kind (at_member ts w) t q f
  member_by _ ts w q f = by_star (at_member ts w) q f

  -- ---- parameters

  with_one : {xs behind : List Token} {t : Tree} (head : Head) (ts : List Tree) → IsParameter plain xs behind t → CloseFollows plain (E d) head (t ∷ ts) head.fixed behind → ParametersFollow plain (E d) head ts head.fixed xs
  with_one head ts p f =
      with_parameter plain (E d) (λ head n ts f xs h. h) head ts p f

  with_value : {xs : List Token} (head : Head) (ts : List Tree) → ValueFollows (at_parameter head ts) xs → ParametersFollow plain (E d) head ts head.fixed xs
  with_value head ts (value_follows p (unnamed f)) =
      with_one head ts (without_name refl p) f
  with_value head ts (value_follows p (by_parameter f)) =
      with_one head ts (with_name refl p) f

  parameters_by : {xs : List Token} (head : Head) (ts : List Tree) → TypeFollows d (at_parameter head ts) xs → ParametersFollow plain (E d) head ts head.fixed xs
  parameters_by head ts f =
      with_value head ts (parameter_by f.1 head ts f.2 f.3)

  -- ---- members

  with_member : {xs behind : List Token} {m : Tree} (w : Where) (ts : List Tree) → IsMember plain (suc (depth w)) xs behind m → MembersFollow (F w) (depth w) (m ∷ ts) behind → SomeMembers (F w) (depth w) ts xs
  with_member w ts m (no_more f) = some_members (last_member m) f
  with_member w ts m (more (some_members ms f)) =
      some_members (next_member m ms) f

  with_member_value : {xs : List Token} (w : Where) (ts : List Tree) → ValueFollows (at_member ts w) xs → SomeMembers (F w) (depth w) ts xs
  with_member_value w ts (value_follows t (by_member_name f)) =
      with_member w ts (a_member refl t f.2) f.3

  members_by : {xs : List Token} (w : Where) (ts : List Tree) → TypeFollows d (at_member ts w) xs → SomeMembers (F w) (depth w) ts xs
  members_by w ts f =
      with_member_value w ts (member_by f.1 ts w f.2 f.3)

  -- ---- the whole

  function_of : {xs behind : List Token} {t : Tree} {called : List ℕ} → IsResult plain xs (name called ∷ open_round ∷ behind) t → ListIs plain (E d) (record { called = called; result_type = t; fixed = None; round = unstarred 0 }) behind → IsDeclarationIn plain xs d
  function_of {xs = xs} q (list_is p h) =
      subst (λ e. IsDeclarationIn plain xs e) h.1 (declares refl q p h.0)

  function_by : {xs behind : List Token} {t : Tree} → IsResult plain xs behind t → NameFollows d t behind → IsDeclarationIn plain xs d
  function_by {t = t} q (by_function {called = called} (round f)) =
      function_of q (list_by plain (E d) (record { called = called; result_type = t; fixed = None; round = unstarred 0 }) refl f)

  declared_as : {xs behind : List Token} (k : Kind) → IsQualified plain 0 xs behind k → KindFollows d k at_result behind → IsDeclarationIn plain xs d
  declared_as (whole t) q (inl f) = function_by (a_result (itself q)) f
  declared_as (whole t) q (inr s) =
      function_by (a_result (pointer_to q s.1)) s.2
  declared_as bare q s = function_by (a_result (pointer_to q s.1)) s.2
  declared_as nothing q (inl f) = function_by (no_result q) f
  declared_as nothing q (inr s) =
      function_by (a_result (pointer_to q s.1)) s.2

  -- ---- one token back

  back_star : {xs : List Token} (w : Where) → MaybeStarred (F w) pointer_type xs → Starred (F w) (star ∷ xs)
  back_star w (inl f) = (_, one_star, f)
  back_star w (inr s) = (s.0, more_stars s.1, s.2)

  back_name : (w : Where) (t : Tree) (called : List ℕ) (xs : List Token) → Rest d (name_behind w t called) xs → F w t (name called ∷ xs)
  back_name at_result t called xs h = by_function h
  back_name (at_parameter head ts) t called xs h = by_parameter h
  back_name (at_member ts w) t called xs h = by_member_name h
  back_name (at_inner u) t called xs h = tt

  back_close : (w : Where) (t : Tree) (xs : List Token) → Rest d (close_behind plain w t) xs → F w t (close_round ∷ xs)
  back_close (at_parameter head ts) t xs h = unnamed (closes h)
  back_close (at_inner u) t xs h = tt
  back_close _ t xs h = absurd h

  -- a comma behind a parameter, before the dots or behind them
  comma_by : (head : Head) (ts : List Tree) (xs : List Token) (f : Option ℕ) → head.fixed ≡ f → Rest d (comma_of f head ts) xs → CloseFollows plain (E d) head ts f (comma ∷ xs)
  comma_by head ts xs None e h =
      goes_on (subst (λ f. NextFollows plain (E d) head ts f xs) e h)
  comma_by head ts xs (Some n) e h =
      types_go_on (subst (λ f. ParametersFollow plain (E d) head ts f xs) e (parameters_by head ts h))

  back_comma_of : (head : Head) (ts : List Tree) (xs : List Token) → Rest d (comma_of head.fixed head ts) xs → CloseFollows plain (E d) head ts head.fixed (comma ∷ xs)
  back_comma_of head ts xs h = comma_by head ts xs head.fixed refl h

  back_comma : (w : Where) (t : Tree) (xs : List Token) → Rest d (comma_behind w t) xs → F w t (comma ∷ xs)
  back_comma (at_parameter head ts) t xs h =
      unnamed (back_comma_of head (t ∷ ts) xs h)
  back_comma (at_inner u) t xs h = tt
  back_comma _ t xs h = absurd h

  back_typed : (t : Tree) (w : Where) (x : Token) (xs : List Token) → Rest d (step_typed plain t w x) xs → MaybeStarred (F w) t (x ∷ xs)
  back_typed t w star xs h = inr (back_star w h)
  back_typed t w (name called) xs h = inl (back_name w t called xs h)
  back_typed t w close_round xs h = inl (back_close w t xs h)
  back_typed t w comma xs h = inl (back_comma w t xs h)
  back_typed t w x xs h = absurd h

  back_void : (w : Where) (xs : List Token) → Rest d (based nothing w) xs → KindFollows d nothing w xs
  back_void at_result xs h = h
  back_void _ xs h = h

  back_struct_word : {xs : List Token} (w : Where) → StructFollows d w xs → BaseFollows d w (struct_word ∷ xs)
  back_struct_word w (a_tag_follows s) = (_, bare, a_tag, s)
  back_struct_word w (members_follow room ms f) = (_, whole _, a_struct room ms, f)

  back_base : (w : Where) (x : Token) (xs : List Token) → Rest d (step_base plain w x) xs → BaseFollows d w (x ∷ xs)
  back_base w (type_word s) xs h = (xs, whole (scalar s), by_word, h)
  back_base w (sign_word g) xs h =
      (h.0, whole (scalar h.1), by_sign refl h.2, h.3)
  back_base w short_word xs h =
      (h.0, whole (scalar (short_of signed)), by_size refl (a_short h.1), h.2)
  back_base w int_word xs h =
      (xs, whole (scalar (int_of signed)), by_size refl an_int, h)
  back_base w long_word xs h =
      (h.0, whole (scalar (long_of signed)), by_size refl (a_long h.1), h.2)
  back_base w int128_word xs h =
      (xs, whole (scalar (int128_of signed)), by_size refl an_int128, h)
  back_base w (char_word c) xs h = (xs, bare, a_char refl, h)
  back_base w void_word xs h = (xs, nothing, a_void, back_void w xs h)
  back_base w struct_word xs h = back_struct_word w h
  back_base w x xs h = absurd h

  back_type : (w : Where) (x : Token) (xs : List Token) → Rest d (step_type plain w x) xs → TypeFollows d w (x ∷ xs)
  back_type w const_word xs h = (h.0, h.1, constant h.2, h.3)
  back_type w x xs h =
      let b : BaseFollows d w (x ∷ xs) = back_base w x xs h in
      (b.0, b.1, unqualified b.2, b.3)

  some_struct : {xs : List Token} (w : Where) → depth w < MOST_OPEN → SomeMembers (F w) (depth w) [] xs → StructFollows d w (open_curly ∷ xs)
  some_struct w room (some_members ms f) = members_follow room ms f

  back_curly : (w : Where) (xs : List Token) (b : Bool) → ltb (depth w) MOST_OPEN ≡ b → Rest d (cond b (wants_type (at_member [] w)) dead) xs → StructFollows d w (open_curly ∷ xs)
  back_curly w xs true e h =
      some_struct w (ltb-true (depth w) MOST_OPEN e) (members_by w [] h)
  back_curly w xs false e h = absurd h

  void_list : {xs : List Token} (head : Head) → VoidFollows d head xs → ListFollows plain (E d) head (void_word ∷ xs)
  void_list head (void_closes h) = list_of_void h
  void_list head (void_pointer s) =
      list_of_parameters (parameters_by head [] (_, nothing, unqualified a_void, s))

  back_closing : (head : Head) (ts : List Tree) (x : Token) (xs : List Token) → Rest d (step_closing plain head ts x) xs → CloseFollows plain (E d) head ts head.fixed (x ∷ xs)
  back_closing head ts close_round xs h = closes h
  back_closing head ts comma xs h = back_comma_of head ts xs h
  back_closing head ts x xs h = absurd h

  the_end : {xs : List Token} (head : Head) (ts : List Tree) → EndFollows d (declared_by head (onto ts []) (Some (length ts))) xs → DotsFollow plain (E d) head ts xs
  the_end head ts (end_follows e same) = dots_end (e, same)

  counted_more : {xs : List Token} (t : Tree) (ns : List ℕ) (ts : List Tree) (w : Where) → CountFollows (F w) (depth w) ts ns t xs → CountsFollow (F w) (depth w) ts ns t (open_square ∷ xs)
  counted_more t ns ts w (a_number {k = k} (square f)) =
      (f.0, array_of f.1 k, a_count f.2, f.3)

  semicolon_end : {xs : List Token} → IsOver xs → IsEnd (semicolon ∷ xs)
  semicolon_end over = one_semicolon

  back : (s : State) (x : Token) (xs : List Token) → Rest d (step plain s x) xs → Rest d s (x ∷ xs)
  back (wants_type w) x xs h = back_type w x xs h
  back (wants_base w) x xs h = back_base w x xs h
  back (after_sign g w) (char_word c) xs h = (xs, char_of g, sign_of_char, h)
  back (after_sign g w) short_word xs h =
      (h.0, short_of g, sign_of_size (a_short h.1), h.2)
  back (after_sign g w) int_word xs h = (xs, int_of g, sign_of_size an_int, h)
  back (after_sign g w) long_word xs h =
      (h.0, long_of g, sign_of_size (a_long h.1), h.2)
  back (after_sign g w) int128_word xs h =
      (xs, int128_of g, sign_of_size an_int128, h)
  back (after_sign g w) x xs h =
      (x ∷ xs, int_of g, sign_alone, back_typed (scalar (int_of g)) w x xs h)
  back (after_short g w) int_word xs h = (xs, with_int, h)
  back (after_short g w) x xs h =
      (x ∷ xs, no_int, back_typed (scalar (short_of g)) w x xs h)
  back (after_long g w) long_word xs h = (h.0, two_longs h.1, h.2)
  back (after_long g w) int_word xs h = (xs, one_long with_int, h)
  back (after_long g w) x xs h =
      (x ∷ xs, one_long no_int, back_typed (scalar (long_of g)) w x xs h)
  back (after_long_long g w) int_word xs h = (xs, with_int, h)
  back (after_long_long g w) x xs h =
      (x ∷ xs, no_int, back_typed (scalar (long_of g)) w x xs h)
  back (after_struct w) (name tag) xs h = a_tag_follows h
  back (after_struct w) open_curly xs h =
      back_curly w xs (ltb (depth w) MOST_OPEN) refl h
  back (wants_star w) star xs h = back_star w h
  back (sole_void head) star xs h =
      void_pointer (back_star (at_parameter head []) h)
  back (sole_void head) close_round xs h = void_closes h
  back (typed t w) x xs h = back_typed t w x xs h
  back (named head) open_round xs h = round h
  back (opened head) close_round xs h = list_closes h
  back (opened head) void_word xs h = void_list head h
  back (opened head) x xs h =
      list_of_parameters (parameters_by head [] (back_type (at_parameter head []) x xs h))
  back (parameter_named head ts) x xs h = back_closing head ts x xs h
  back (after_comma head ts) dots xs h = the_dots (the_end head ts h)
  back (after_comma head ts) x xs h =
      the_next (parameters_by head ts (back_type (at_parameter head ts) x xs h))
  back (after_dots e) close_round xs h = end_follows h.0 h.1
  back (member_named t ns ts w) open_square xs h = counted_more t ns ts w h
  back (member_named t ns ts w) semicolon xs h = (xs, t, no_count, h)
  back (wants_count t ns ts w) (number n) xs h = a_number h
  back (counted t ns ts w) close_square xs h = square h
  back (after_member ts w) close_curly xs h = no_more h
  back (after_member ts w) x xs h =
      more (members_by w ts (back_type (at_member ts w) x xs h))
  back (closed e) semicolon xs h = (semicolon_end h.0, h.1)
  back s x xs h = search

  at_end : (s : State) → finish s ≡ Some d → Rest d s []
  at_end (closed e) p = (no_semicolon, some_same p)
  at_end (ended e) p = (over, some_same p)
  at_end (closing o e) p = tt
  at_end (settled u) p = tt
  at_end s p = absurd (none_some p)

  -- what is accepted from a state is what the state wants
  rest_of : (xs : List Token) (s : State) → Accepts plain s xs d → Rest d s xs
  rest_of [] s p = at_end s p
  rest_of (x ∷ xs) s p = back s x xs (rest_of xs (step plain s x) p)

  pub plain_declaration_of : (xs : List Token) → Accepts plain begun xs d → IsDeclarationIn plain xs d
  plain_declaration_of xs p =
      let f : TypeFollows d at_result xs = rest_of xs begun p in
      declared_as f.1 f.2 f.3
