-- The canonical text of a prototype reads as it in the wide reading.
use Rattle.std.proofs.Common.{◌≡◌, ◌∙◌, ◌⊎◌, ◌<◌, ◌≤◌, ◌+◌, ℕ, zero, suc, true, false, List, [], ◌∷◌, ◌++◌, length, drop, Option, Some, None, inl, inr, refl, sym, ap, subst, arith}
use Rattle.std.specs.Prelude.{take, is_some}
use Rattle.std.proofs.lemmas.Bool.{cases_lt}
use Rattle.std.proofs.lemmas.List.{take-append-drop, length-take-le, take_all}
use Rattle.ffi3_type_spec.specs.Tree.{Scalar, u128, pointer, x87, binary128, Tree, Trees, void, scalar, left_out, LeftOutKind, long_double, complex, vector, structure, array, no_trees, tree}
use Rattle.ffi3_type_spec.specs.Signature.{Signature, SignatureHasNoFault, bad_fixed, fixed_outside}
use Rattle.ffi3_cdecl_spec.specs.Tokens.{wide, Sign, Token, name, open_round, close_round, close_curly, comma, semicolon, dots, cut_from, tokens}
use Rattle.ffi3_cdecl_spec.specs.Grammar.{opens_round, IsParameter, without_name, IsParameters, last_parameter, last_before_dots, before_types, next_parameter, IsParameterList, some_parameters, one_semicolon, Declaration, IsDeclarationIn}
use Rattle.ffi3_cdecl_spec.specs.Canonical.{left_out_tokens, scalar_tokens, count_tokens, first_count_tokens, member_name, type_tokens, first_type_tokens, member_tokens, more_parameter_tokens, parameter_tokens, declaration_text, IsIdentifier, FixesAll, text_of}
use Rattle.ffi3_cdecl_spec.specs.Reading.{tokens_of, IsReadingIn, reads, is_read, StaysName, NamesStay}
use Rattle.ffi3_cdecl_spec.specs.Prototype.{behind_commas, between_commas, fixed_tokens, prototype_tokens, prototype_text}
use Rattle.ffi3_cdecl_spec.proofs.Spellable.{AreSpellableValues, IsSpellableValue, MayBeVariadic, spellable_result, spellable_arguments}
use Rattle.ffi3_cdecl_spec.proofs.Spoken.{AllSpoken, Cuts, cuts_text, none_great}
use Rattle.ffi3_cdecl_spec.proofs.SpokenTexts.{open_round_spoken, close_round_spoken, comma_spoken, semicolon_spoken, dots_spoken, identifier_of, value_spoken, result_spoken, list_spoken}
use Rattle.ffi3_cdecl_spec.proofs.Written.{value_written, result_written, list_written}
use Rattle.ffi3_cdecl_spec.proofs.Widened.{without_const, places_without_const, same_tokens, few, wider_cut, IsFine, cut_wider, parameter_wider, list_wider, function_wider}

-- ---- the tokens are those of the text

behind_spoken : (ts : List Tree) (rest : List Token) → AreSpellableValues ts → AllSpoken rest → AllSpoken (behind_commas ts rest)
behind_spoken [] rest h r = r
behind_spoken (t ∷ ts) rest h r =
    (comma_spoken, value_spoken t h.0 (behind_commas ts rest) (behind_spoken ts rest h.1 r))

between_spoken : (ts : List Tree) (rest : List Token) → AreSpellableValues ts → AllSpoken rest → AllSpoken (between_commas ts rest)
between_spoken [] rest h r = r
between_spoken (t ∷ ts) rest h r =
    value_spoken t h.0 (behind_commas ts rest) (behind_spoken ts rest h.1 r)

front_spellable : (n : ℕ) (ts : List Tree) → AreSpellableValues ts → AreSpellableValues (take n ts)
front_spellable (suc n) (t ∷ ts) h = (h.0, front_spellable n ts h.1)
front_spellable _ _ h = tt

back_spellable : (n : ℕ) (ts : List Tree) → AreSpellableValues ts → AreSpellableValues (drop n ts)
back_spellable zero ts h = h
back_spellable (suc n) [] h = tt
back_spellable (suc n) (t ∷ ts) h = back_spellable n ts h.1

fixed_spoken : (ts : List Tree) (o : Option ℕ) (rest : List Token) → AreSpellableValues ts → AllSpoken rest → AllSpoken (fixed_tokens ts o rest)
fixed_spoken ts None rest h r = list_spoken ts false rest h r
fixed_spoken ts (Some n) rest h r =
    between_spoken (take n ts) (comma ∷ dots ∷ behind_commas (drop n ts) (close_round ∷ rest)) (front_spellable n ts h) (comma_spoken, (dots_spoken, behind_spoken (drop n ts) (close_round ∷ rest) (back_spellable n ts h) (close_round_spoken, r)))

prototype_spoken : (called : List ℕ) (s : Signature) → IsIdentifier called → SignatureHasNoFault s → AllSpoken (prototype_tokens called s)
prototype_spoken called s word right =
    result_spoken s.result_type (spellable_result s right) (name called ∷ open_round ∷ fixed_tokens s.arguments s.fixed (semicolon ∷ [])) (identifier_of called called refl word, (open_round_spoken, fixed_spoken s.arguments s.fixed (semicolon ∷ []) (spellable_arguments s right) (semicolon_spoken, tt)))

-- ---- no name among them is a word of the wide reading

member_stays : (i : ℕ) → StaysName (member_name i)
member_stays i c = refl

scalar_stays : (s : Scalar) (rest : List Token) → NamesStay rest → NamesStay (scalar_tokens s rest)
scalar_stays u128 rest h = (tt, (tt, h))
scalar_stays pointer rest h = (tt, (tt, h))
scalar_stays x87 rest h = h
scalar_stays binary128 rest h = h
scalar_stays _ rest h = (tt, h)

mutual
  counts_stay : (t : Tree) (rest : List Token) → NamesStay rest → NamesStay (count_tokens t rest)
  counts_stay (array ts n) rest h =
      (tt, (tt, (tt, first_counts_stay ts rest h)))
  counts_stay _ rest h = h

  first_counts_stay : (ts : Trees) (rest : List Token) → NamesStay rest → NamesStay (first_count_tokens ts rest)
  first_counts_stay no_trees rest h = h
  first_counts_stay (tree t ts) rest h = counts_stay t rest h

left_out_stays : (k : LeftOutKind) (rest : List Token) → NamesStay rest → NamesStay (left_out_tokens k rest)
left_out_stays long_double rest h = (tt, (tt, h))
left_out_stays complex rest h = (tt, (tt, (tt, h)))
left_out_stays vector rest h = h

mutual
  type_stays : (t : Tree) (rest : List Token) → NamesStay rest → NamesStay (type_tokens t rest)
  type_stays void rest h = (tt, h)
  type_stays (scalar s) rest h = scalar_stays s rest h
  type_stays (left_out k) rest h = left_out_stays k rest h
  type_stays (structure ts) rest h =
      (tt, (tt, members_stay 0 ts (close_curly ∷ rest) (tt, h)))
  type_stays (array ts n) rest h = first_type_stays ts rest h

  first_type_stays : (ts : Trees) (rest : List Token) → NamesStay rest → NamesStay (first_type_tokens ts rest)
  first_type_stays no_trees rest h = h
  first_type_stays (tree t ts) rest h = type_stays t rest h

  members_stay : (i : ℕ) (ts : Trees) (rest : List Token) → NamesStay rest → NamesStay (member_tokens i ts rest)
  members_stay i no_trees rest h = h
  members_stay i (tree t ts) rest h =
      type_stays t (member_name i ∷ count_tokens t (semicolon ∷ member_tokens (i + 1) ts rest)) (member_stays i, counts_stay t (semicolon ∷ member_tokens (i + 1) ts rest) (tt, members_stay (i + 1) ts rest h))

behind_stay : (ts : List Tree) (rest : List Token) → NamesStay rest → NamesStay (behind_commas ts rest)
behind_stay [] rest h = h
behind_stay (t ∷ ts) rest h =
    (tt, type_stays t (behind_commas ts rest) (behind_stay ts rest h))

between_stay : (ts : List Tree) (rest : List Token) → NamesStay rest → NamesStay (between_commas ts rest)
between_stay [] rest h = h
between_stay (t ∷ ts) rest h =
    type_stays t (behind_commas ts rest) (behind_stay ts rest h)

more_stay : (ts : List Tree) (rest : List Token) → NamesStay rest → NamesStay (more_parameter_tokens ts false rest)
more_stay [] rest h = (tt, h)
more_stay (t ∷ ts) rest h =
    (tt, type_stays t (more_parameter_tokens ts false rest) (more_stay ts rest h))

list_stay : (ts : List Tree) (rest : List Token) → NamesStay rest → NamesStay (parameter_tokens ts false rest)
list_stay [] rest h = (tt, (tt, h))
list_stay (t ∷ ts) rest h =
    type_stays t (more_parameter_tokens ts false rest) (more_stay ts rest h)

fixed_stay : (ts : List Tree) (o : Option ℕ) (rest : List Token) → NamesStay rest → NamesStay (fixed_tokens ts o rest)
fixed_stay ts None rest h = list_stay ts rest h
fixed_stay ts (Some n) rest h =
    between_stay (take n ts) (comma ∷ dots ∷ behind_commas (drop n ts) (close_round ∷ rest)) (tt, (tt, behind_stay (drop n ts) (close_round ∷ rest) (tt, h)))

prototype_stays : (called : List ℕ) (s : Signature) → StaysName (name called) → NamesStay (prototype_tokens called s)
prototype_stays called s stays =
    type_stays s.result_type (name called ∷ open_round ∷ fixed_tokens s.arguments s.fixed (semicolon ∷ [])) (stays, (tt, fixed_stay s.arguments s.fixed (semicolon ∷ []) (tt, tt)))

-- ---- they declare it

at_most_all : (s : Signature) → SignatureHasNoFault s → (n : ℕ) → s.fixed ≡ Some n → n ≤ length s.arguments
at_most_all s right n e =
    by_cases (cases_lt (length s.arguments) n)
  where
    by_cases : (length s.arguments < n) ⊎ (n ≤ length s.arguments) → n ≤ length s.arguments
    by_cases (inl over) =
        absurd (right (bad_fixed n (length s.arguments)) (fixed_outside e (inr over)))
    by_cases (inr within) = within

pub some_are_fixed : (s : Signature) → SignatureHasNoFault s → (n : ℕ) → s.fixed ≡ Some n → (0 < n) × (n ≤ length s.arguments)
some_are_fixed s right zero e =
    absurd (right (bad_fixed 0 (length s.arguments)) (fixed_outside e (inl refl)))
some_are_fixed s right (suc n) e =
    (omega arith, at_most_all s right (suc n) e)

module _ (c : Sign) where
  abbrev wider : List Token → List Token
  wider xs = without_const c xs

  value_wider : (t : Tree) (rest : List Token) → IsSpellableValue t → opens_round (wider rest) ≡ false → IsParameter wide (wider (type_tokens t rest)) (wider rest) t
  value_wider t rest h e =
      parameter_wider c e (without_name refl (value_written t h rest))

  types_wider : (us : List Tree) (t : Tree) (rest : List Token) → IsSpellableValue t → AreSpellableValues us → IsParameters wide (wider (type_tokens t (behind_commas us (close_round ∷ rest)))) (wider rest) (t ∷ us) None
  types_wider [] t rest h hs =
      last_parameter (value_wider t (close_round ∷ rest) h refl)
  types_wider (u ∷ us) t rest h hs =
      next_parameter (value_wider t (behind_commas (u ∷ us) (close_round ∷ rest)) h refl) (types_wider us u rest hs.0 hs.1)

  fixed_wider : (ts : List Tree) (t : Tree) (us : List Tree) (rest : List Token) → IsSpellableValue t → AreSpellableValues ts → AreSpellableValues us → IsParameters wide (wider (type_tokens t (behind_commas ts (comma ∷ dots ∷ behind_commas us (close_round ∷ rest))))) (wider rest) (t ∷ (ts ++ us)) (Some (suc (length ts)))
  fixed_wider [] t [] rest h hs ks =
      last_before_dots (value_wider t (comma ∷ dots ∷ close_round ∷ rest) h refl)
  fixed_wider [] t (u ∷ us) rest h hs ks =
      before_types refl (value_wider t (comma ∷ dots ∷ behind_commas (u ∷ us) (close_round ∷ rest)) h refl) (types_wider us u rest ks.0 ks.1)
  fixed_wider (v ∷ ts) t us rest h hs ks =
      next_parameter (value_wider t (behind_commas (v ∷ ts) (comma ∷ dots ∷ behind_commas us (close_round ∷ rest))) h refl) (fixed_wider ts v us rest hs.0 hs.1 ks)

  dotted_wider : (ts us : List Tree) (rest : List Token) → 0 < length ts → AreSpellableValues ts → AreSpellableValues us → IsParameters wide (wider (between_commas ts (comma ∷ dots ∷ behind_commas us (close_round ∷ rest)))) (wider rest) (ts ++ us) (Some (length ts))
  dotted_wider [] us rest some hs ks = absurd (omega arith)
  dotted_wider (t ∷ ts) us rest some hs ks =
      fixed_wider ts t us rest hs.0 hs.1 ks

  never_variadic : (ts : List Tree) → MayBeVariadic ts false
  never_variadic [] = tt
  never_variadic (t ∷ ts) = tt

  parameters_wider : (ts : List Tree) (o : Option ℕ) (rest : List Token) → ((n : ℕ) → o ≡ Some n → (0 < n) × (n ≤ length ts)) → AreSpellableValues ts → IsParameterList wide (wider (fixed_tokens ts o rest)) (wider rest) ts o
  parameters_wider ts None rest within hs =
      list_wider c (list_written ts false rest hs (never_variadic ts))
  parameters_wider ts (Some n) rest within hs =
      let w = within n refl in
      let as_many : length (take n ts) ≡ n = length-take-le n ts w.1 in
      let p = dotted_wider (take n ts) (drop n ts) rest (omega (arith, w.0, as_many)) (front_spellable n ts hs) (back_spellable n ts hs) in
      let same : IsParameters wide (wider (fixed_tokens ts (Some n) rest)) (wider rest) ts (Some n) = subst (λ us. IsParameters wide (wider (fixed_tokens ts (Some n) rest)) (wider rest) us (Some n)) (take-append-drop n ts) (subst (λ k. IsParameters wide (wider (fixed_tokens ts (Some n) rest)) (wider rest) (take n ts ++ drop n ts) (Some k)) as_many p) in
      some_parameters same

  prototype_wider : (called : List ℕ) (s : Signature) → SignatureHasNoFault s → IsDeclarationIn wide (wider (prototype_tokens called s)) (record { called = called; signature = s })
  prototype_wider called s right =
      function_wider c {called = called} {t = s.result_type} {us = s.arguments} {f = s.fixed} (result_written s.result_type (spellable_result s right) (name called ∷ open_round ∷ fixed_tokens s.arguments s.fixed (semicolon ∷ []))) (parameters_wider s.arguments s.fixed (semicolon ∷ []) (some_are_fixed s right) (spellable_arguments s right)) one_semicolon

  -- THE CANONICAL TEXT OF A PROTOTYPE READS AS IT
  pub prototype_reads : (called : List ℕ) (s : Signature) → IsIdentifier called → StaysName (name called) → SignatureHasNoFault s → IsReadingIn wide c (prototype_text called s) (reads (record { called = called; signature = s }))
  prototype_reads called s word stays right =
      let d : Declaration = record { called = called; signature = s } in
      let xs : List Token = prototype_tokens called s in
      let text : List ℕ = prototype_text called s in
      let spoken : AllSpoken xs = prototype_spoken called s word right in
      let k : Cuts 0 text xs = cuts_text xs spoken true 0 in
      let all_stay : NamesStay (tokens_of k.0) = subst NamesStay (sym k.2) (prototype_stays called s stays) in
      let wide_cut : cut_from wide c 0 0 text ≡ tokens (places_without_const c k.0) = cut_wider c 0 0 text (subst (IsFine c) (sym k.1) all_stay) ∙ ap (wider_cut c) k.1 in
      let same : tokens_of (places_without_const c k.0) ≡ wider xs = same_tokens c k.0 ∙ ap (without_const c) k.2 in
      is_read {ps = places_without_const c k.0} wide_cut (subst (λ ts. IsDeclarationIn wide ts d) (sym same) (prototype_wider called s right)) (few c k.0 (none_great k.0 (subst AllSpoken (sym k.2) spoken))) right

-- ---- where no type stands behind the dots, it is that of a declaration

behind_all : (ts : List Tree) (rest : List Token) → behind_commas ts (comma ∷ dots ∷ close_round ∷ rest) ≡ more_parameter_tokens ts true rest
behind_all [] rest = refl
behind_all (t ∷ ts) rest =
    ap (λ xs. comma ∷ type_tokens t xs) (behind_all ts rest)

between_all : (ts : List Tree) (rest : List Token) → 0 < length ts → between_commas ts (comma ∷ dots ∷ close_round ∷ rest) ≡ parameter_tokens ts true rest
between_all [] rest some = absurd (omega arith)
between_all (t ∷ ts) rest some = ap (type_tokens t) (behind_all ts rest)

none_dropped : (ts : List Tree) → drop (length ts) ts ≡ []
none_dropped [] = refl
none_dropped (t ∷ ts) = none_dropped ts

all_fixed_tokens : (ts : List Tree) (o : Option ℕ) (rest : List Token) → ((n : ℕ) → o ≡ Some n → (0 < n) × (n ≡ length ts)) → fixed_tokens ts o rest ≡ parameter_tokens ts (is_some o) rest
all_fixed_tokens ts None rest all = refl
all_fixed_tokens ts (Some n) rest all =
    let a = all n refl in
    ap (λ k. between_commas (take k ts) (comma ∷ dots ∷ behind_commas (drop k ts) (close_round ∷ rest))) a.1 ∙ ap (λ us. between_commas us (comma ∷ dots ∷ behind_commas (drop (length ts) ts) (close_round ∷ rest))) (take_all (length ts) ts (omega arith)) ∙ ap (λ us. between_commas ts (comma ∷ dots ∷ behind_commas us (close_round ∷ rest))) (none_dropped ts) ∙ between_all ts rest (omega (arith, a.0, a.1))

pub written_alike : (called : List ℕ) (s : Signature) → SignatureHasNoFault s → FixesAll s → prototype_text called s ≡ declaration_text called s
written_alike called s right all =
    ap (λ xs. text_of true (type_tokens s.result_type (name called ∷ open_round ∷ xs))) (all_fixed_tokens s.arguments s.fixed (semicolon ∷ []) (λ n e. ((some_are_fixed s right n e).0, all n e)))
