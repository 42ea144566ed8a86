-- The canonical tokens of a declaration declare it.
use Rattle.std.proofs.Common.{◌≡◌, ℕ, suc, ◌+◌, ◌<◌, Bool, true, false, List, [], ◌∷◌, length, Option, Some, None, option_map, ap, sym, subst, refl}
use Rattle.std.specs.Prelude.{is_some}
use Rattle.ffi3_type_spec.specs.Tree.{Scalar, u128, s128, pointer, x87, binary128, Tree, Trees, void, scalar, structure, array, left_out, no_trees, tree, list_of, trees_of-list_of}
use Rattle.ffi3_type_spec.specs.Layout.{is_long_double}
use Rattle.ffi3_cdecl_spec.specs.Tokens.{plain, Token, name, number, struct_word, open_round, open_curly, close_curly, open_square, close_square, semicolon}
use Rattle.ffi3_cdecl_spec.specs.Grammar.{MOST_OPEN, by_word, by_size, by_sign, sign_of_size, an_int128, a_void, a_struct, unqualified, IsType, itself, pointer_to, one_star, IsCounts, no_count, a_count, IsMember, a_member, IsMembers, last_member, next_member, IsParameter, without_name, IsParameters, last_parameter, last_before_dots, next_parameter, IsParameterList, only_void, some_parameters, IsResult, a_result, no_result, one_semicolon, IsDeclaration, declares}
use Rattle.ffi3_cdecl_spec.specs.Canonical.{scalar_tokens, count_tokens, first_count_tokens, type_tokens, first_type_tokens, member_tokens, end_tokens, more_parameter_tokens, parameter_tokens, declaration_tokens, FixesAll}
use Rattle.ffi3_cdecl_spec.proofs.Spellable.{IsLast, IsSpellableMember, IsSpellableElement, AreSpellableMembers, AreMoreSpellable, IsSpellableValue, IsSpellableResult, AreSpellableValues, MayBeVariadic, spellable_result, spellable_arguments, spellable_dots}
use Rattle.ffi3_type_spec.specs.Signature.{Signature, SignatureHasNoFault}

-- what an array is of, through all its counts
abbrev mutual
  inner : Tree → Tree
  inner void = void
  inner (scalar s) = scalar s
  inner (left_out k) = left_out k
  inner (structure ts) = structure ts
  inner (array ts n) = first_inner ts

  first_inner : Trees → Tree
  first_inner no_trees = void
  first_inner (tree t ts) = inner t

scalar_written : (d : ℕ) (s : Scalar) → is_long_double s ≡ false → (rest : List Token) → IsType plain d (scalar_tokens s rest) rest (scalar s)
scalar_written d u128 short rest =
    itself (unqualified (by_sign refl (sign_of_size an_int128)))
scalar_written d s128 short rest = itself (unqualified (by_size refl an_int128))
scalar_written d pointer short rest = pointer_to (unqualified a_void) one_star
scalar_written d x87 short rest = absurd (cc)
scalar_written d binary128 short rest = absurd (cc)
scalar_written d s short rest = itself (unqualified by_word)

struct_written : {d : ℕ} {before rest : List Token} (ts : Trees) → d < MOST_OPEN → IsMembers plain (suc d) before rest (list_of ts) → IsType plain d (struct_word ∷ open_curly ∷ before) rest (structure ts)
struct_written {d = d} {before = before} {rest = rest} ts room m =
    subst (λ us. IsType plain d (struct_word ∷ open_curly ∷ before) rest (structure us)) (trees_of-list_of ts) (itself (unqualified (a_struct room m)))

is_last : (ts : Trees) (n : ℕ) (t : Tree) → IsLast ts → array (tree t no_trees) n ≡ array (tree t ts) n
is_last no_trees n t h = refl
is_last (tree u us) n t h = absurd h

mutual
  counts_written : (d : ℕ) (t : Tree) → IsSpellableMember d t → (rest : List Token) → IsCounts (inner t) (count_tokens t (semicolon ∷ rest)) rest t
  counts_written d void h rest = absurd h
  counts_written d (left_out k) h rest = absurd h
  counts_written d (array ts n) h rest = element_counts_written d ts n h.1 rest
  counts_written d _ h rest = no_count

  element_counts_written : (d : ℕ) (ts : Trees) (n : ℕ) → IsSpellableElement d ts → (rest : List Token) → IsCounts (first_inner ts) (open_square ∷ number n ∷ close_square ∷ first_count_tokens ts (semicolon ∷ rest)) rest (array ts n)
  element_counts_written d no_trees n h rest = absurd h
  element_counts_written d (tree t ts) n h rest =
      subst (λ u. IsCounts (inner t) (open_square ∷ number n ∷ close_square ∷ count_tokens t (semicolon ∷ rest)) rest u) (is_last ts n t h.1) (a_count (counts_written d t h.0 rest))

mutual
  member_type_written : (d : ℕ) (t : Tree) → IsSpellableMember d t → (rest : List Token) → IsType plain d (type_tokens t rest) rest (inner t)
  member_type_written d (scalar s) h rest = scalar_written d s h rest
  member_type_written d (structure ts) h rest =
      struct_written ts h.0 (members_written (suc d) ts h.1 rest)
  member_type_written d (array ts n) h rest = element_type_written d ts h.1 rest
  member_type_written d _ h rest = absurd h

  element_type_written : (d : ℕ) (ts : Trees) → IsSpellableElement d ts → (rest : List Token) → IsType plain d (first_type_tokens ts rest) rest (first_inner ts)
  element_type_written d no_trees h rest = absurd h
  element_type_written d (tree t ts) h rest = member_type_written d t h.0 rest

  members_written : (d : ℕ) (ts : Trees) → AreSpellableMembers d ts → (rest : List Token) → IsMembers plain d (member_tokens 0 ts (close_curly ∷ rest)) rest (list_of ts)
  members_written d no_trees h rest = absurd h
  members_written d (tree t ts) h rest =
      more_members_written d 1 ts h.1 rest (a_member refl (member_type_written d t h.0 _) (counts_written d t h.0 _))

  more_members_written : {before : List Token} {m : Tree} (d i : ℕ) (ts : Trees) → AreMoreSpellable d i ts → (rest : List Token) → IsMember plain d before (member_tokens i ts (close_curly ∷ rest)) m → IsMembers plain d before rest (m ∷ list_of ts)
  more_members_written d i no_trees h rest m = last_member m
  more_members_written d i (tree t ts) h rest m =
      next_member m (more_members_written d (i + 1) ts h.2 rest (a_member refl (member_type_written d t h.1 _) (counts_written d t h.1 _)))

pub value_written : (t : Tree) → IsSpellableValue t → (rest : List Token) → IsType plain 0 (type_tokens t rest) rest t
value_written (scalar s) h rest = scalar_written 0 s h rest
value_written (structure ts) h rest =
    struct_written ts h.0 (members_written 1 ts h.1 rest)
value_written _ h rest = absurd h

pub result_written : (t : Tree) → IsSpellableResult t → (rest : List Token) → IsResult plain (type_tokens t rest) rest t
result_written void h rest = no_result (unqualified a_void)
result_written (scalar s) h rest = a_result (scalar_written 0 s h rest)
result_written (structure ts) h rest =
    a_result (struct_written ts h.0 (members_written 1 ts h.1 rest))
result_written _ h rest = absurd h

-- how many stand before the dots, if these are there
abbrev dots_behind : Bool → ℕ → Option ℕ
dots_behind true n = Some n
dots_behind false n = None

one_more : (variadic : Bool) (n : ℕ) → option_map suc (dots_behind variadic n) ≡ dots_behind variadic (suc n)
one_more true n = refl
one_more false n = refl

last_written : {before : List Token} {t : Tree} (variadic : Bool) (rest : List Token) → IsParameter plain before (end_tokens variadic rest) t → IsParameters plain before rest (t ∷ []) (dots_behind variadic 1)
last_written true rest p = last_before_dots p
last_written false rest p = last_parameter p

parameters_written : (ts : List Tree) {before : List Token} {t : Tree} (variadic : Bool) (rest : List Token) → AreSpellableValues ts → IsParameter plain before (more_parameter_tokens ts variadic rest) t → IsParameters plain before rest (t ∷ ts) (dots_behind variadic (suc (length ts)))
parameters_written [] variadic rest h p = last_written variadic rest p
parameters_written (u ∷ ts) {before = xs} {t = t} variadic rest h p =
    subst (λ f. IsParameters plain xs rest (t ∷ u ∷ ts) f) (one_more variadic (suc (length ts))) (next_parameter p (parameters_written ts variadic rest h.1 (without_name refl (value_written u h.0 (more_parameter_tokens ts variadic rest)))))

pub list_written : (ts : List Tree) (variadic : Bool) (rest : List Token) → AreSpellableValues ts → MayBeVariadic ts variadic → IsParameterList plain (parameter_tokens ts variadic rest) rest ts (dots_behind variadic (length ts))
list_written [] true rest h v = absurd v
list_written [] false rest h v = only_void
list_written (t ∷ ts) variadic rest h v =
    some_parameters (parameters_written ts variadic rest h.1 (without_name refl (value_written t h.0 (more_parameter_tokens ts variadic rest))))

-- of a function that is declared, all parameters are fixed
fixed_is : (o : Option ℕ) (count : ℕ) → ((n : ℕ) → o ≡ Some n → n ≡ count) → dots_behind (is_some o) count ≡ o
fixed_is None count all = refl
fixed_is (Some n) count all = ap Some (sym (all n refl))

pub declaration_written : (called : List ℕ) (s : Signature) → SignatureHasNoFault s → FixesAll s → IsDeclaration (declaration_tokens called s) (record { called = called; signature = s })
declaration_written called s right all =
    subst (λ o. IsDeclaration (declaration_tokens called s) (record { called = called; signature = record { result_type = s.result_type; arguments = s.arguments; fixed = o } })) (fixed_is s.fixed (length s.arguments) all) (declares refl (result_written s.result_type (spellable_result s right) (name called ∷ open_round ∷ parameter_tokens s.arguments (is_some s.fixed) (semicolon ∷ []))) (list_written s.arguments (is_some s.fixed) (semicolon ∷ []) (spellable_arguments s right) (spellable_dots s right all)) one_semicolon)
