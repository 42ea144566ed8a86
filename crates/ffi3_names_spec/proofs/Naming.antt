-- One pass finds the names of a prototype's parameters.
use Rattle.std.proofs.Common.{◌≡◌, ◌∙◌, ℕ, zero, suc, ◌+◌, ◌<◌, Bool, true, false, cond, List, [], ◌∷◌, ◌++◌, length, Option, Some, None, refl, sym, subst, ap, arith}
use Rattle.std.specs.Prelude.{◌==◌}
use Rattle.std.proofs.lemmas.Bool.{eqb-true, false_from_ne_true}
use Rattle.ffi3_type_spec.specs.Tree.{Tree}
use Rattle.ffi3_cdecl_spec.specs.Tokens.{wide, Sign, Token, void_word, close_round, close_square, comma, Found, blank, skipped, found, found_in, Placed, Cut, tokens, bad_at, cut_from, before, bytes_more}
use Rattle.ffi3_cdecl_spec.specs.Reading.{tokens_of, reads, IsReadingIn, is_read}
use Rattle.ffi3_cdecl_spec.specs.Grammar.{Kind, nothing, Shape, a_value, Naming, may_be_named, specifier_number, named_by, passed, AreSpecifiers, no_more_words, a_word, IsBase, by_word, by_size, by_sign, a_char, by_specifiers, a_void, a_tag, a_union, an_enum, a_name, a_struct, a_tagged_struct, IsQualified, unqualified, constant, IsSuffixes, no_suffix, known_array, open_array, named_array, a_list, IsDeclarator, a_pointer, a_named, unnamed, in_round, IsParameter, without_name, with_name, a_declared_one, IsParameters, last_parameter, last_before_dots, before_types, next_parameter, IsParameterList, no_parameters, only_void, some_parameters, IsCalled, the_name, in_brackets, Function, IsFunction, returns_pointer, a_function_here, a_function_inside, Declaration, IsDeclarationIn, declares, declares_by}
use Rattle.ffi3_names_spec.specs.Names.{declared_name, parameter_name, parameter_names, list_names, function_names, declaration_names, AreNames, are_names}
use Rattle.ffi3_names_spec.specs.Scan.{Spot, base, words, tagged, members, declarator, behind, function, called, opened, sole_void, over, opens, closes, neither, bracket, behind_by, members_by, is_word, next_base, next_into, told_into, told, next, names_from, names_found, names_over, names_in}
use Rattle.ffi3_names_spec.specs.Laws.{NameLaws}
use Rattle.ffi3_names_spec.proofs.Signs.{by_either_sign}
use Rattle.ffi3_names_spec.proofs.Passing.{isnt_plain, bound_is_neither, members_are_left, suffixes_are_passed, list_is_left}

-- ---- behind a parameter's name

behind_opens : (n : ℕ) (x : Token) (xs : List Token) → bracket x ≡ opens → names_from (behind (suc n)) (x ∷ xs) ≡ names_from (behind (suc (suc n))) xs
behind_opens n x xs e = ap (λ b. names_from (behind_by b (suc n) x) xs) e

behind_closes : (n : ℕ) (x : Token) (xs : List Token) → bracket x ≡ closes → names_from (behind (suc n)) (x ∷ xs) ≡ names_from (behind n) xs
behind_closes n x xs e = ap (λ b. names_from (behind_by b (suc n) x) xs) e

behind_passes : (n : ℕ) (x : Token) (xs : List Token) → bracket x ≡ neither → names_from (behind (suc n)) (x ∷ xs) ≡ names_from (behind (suc n)) xs
behind_passes n x xs e = ap (λ b. names_from (behind_by b (suc n) x) xs) e

-- suffixes, inside so many brackets or in none
suffixes_behind : {d : ℕ} {before after : List Token} {s t : Shape} → IsSuffixes wide d before after s t → (n : ℕ) → names_from (behind n) before ≡ names_from (behind n) after
suffixes_behind more (suc n) =
    suffixes_are_passed behind behind_opens behind_closes behind_passes more n
suffixes_behind no_suffix zero = refl
suffixes_behind (known_array more is) zero = suffixes_behind more zero
suffixes_behind (open_array more) zero = suffixes_behind more zero
suffixes_behind (named_array {before = xs} {x = x} is more) zero =
    behind_passes zero x (close_square ∷ xs) (bound_is_neither x is) ∙ suffixes_behind more zero
suffixes_behind (a_list room list more) zero =
    list_is_left behind behind_opens behind_closes behind_passes list zero ∙ suffixes_behind more zero

-- ---- a declarator

-- a comma or a closing mark
data Ends : List Token → Type 0 where
  at_comma : {xs : List Token} → Ends (comma ∷ xs)
  at_close : {xs : List Token} → Ends (close_round ∷ xs)

named : {m : Naming} {d : ℕ} {before after : List Token} {s t : Shape} (p : IsDeclarator wide m d before after s t) → Ends after → (n : ℕ) → names_from (declarator n) before ≡ declared_name p ∷ names_from (behind n) after
named (a_pointer inner) e n = named inner e n
named (a_named {called = c} more) e n = ap (λ ns. c ∷ ns) (suffixes_behind more n)
named (unnamed is no_suffix) at_comma n = refl
named (unnamed is no_suffix) at_close n = refl
named (unnamed is (known_array more by)) e n =
    ap (λ ns. [] ∷ ns) (suffixes_behind (known_array more by) n)
named (unnamed is (open_array more)) e n =
    ap (λ ns. [] ∷ ns) (suffixes_behind (open_array more) n)
named (unnamed is (named_array by more)) e n =
    ap (λ ns. [] ∷ ns) (suffixes_behind (named_array by more) n)
named (unnamed is (a_list room list more)) e n = absurd (cc)
named (in_round begins room inner more) e n =
    named inner at_close (suc n) ∙ ap (λ ns. declared_name inner ∷ ns) (suffixes_behind more n)

-- ---- a base, and what stands behind it

-- where what stands behind a base begins
abbrev into : Bool → Spot
into true = declarator 0
into false = function

-- it is read alike behind each base
record Joins (l : Bool) (middle : List Token) : Type 0 where
  behind_words : names_from (words l) middle ≡ names_from (into l) middle
  behind_tag : names_from (tagged l) middle ≡ names_from (into l) middle

joins_declarator : {m : Naming} {d : ℕ} {before after : List Token} {s t : Shape} → IsDeclarator wide m d before after s t → Ends after → Joins true before
joins_declarator (unnamed is (a_list room list more)) e = absurd (cc)
joins_declarator (unnamed is no_suffix) at_comma = record { behind_words = refl; behind_tag = refl }
joins_declarator p e = record { behind_words = refl; behind_tag = refl }

joins_function : {f : Function} {d : ℕ} {before after : List Token} {s : Shape} → IsFunction wide f d before after s → Joins false before
joins_function (returns_pointer p) = record { behind_words = refl; behind_tag = refl }
joins_function (a_function_here the_name is list) = record { behind_words = refl; behind_tag = refl }
joins_function (a_function_here (in_brackets room more) is list) = record { behind_words = refl; behind_tag = refl }
joins_function (a_function_inside room p more) = record { behind_words = refl; behind_tag = refl }

some_isnt_none : (m : ℕ) → 0 < m → (m == 0) ≡ false
some_isnt_none m some =
    false_from_ne_true (m == 0) (λ t. omega (arith, some, eqb-true m 0 t))

is_a_word : (x : Token) → 0 < specifier_number x → is_word x ≡ true
is_a_word x some =
    ap (λ b. cond b false true) (some_isnt_none (specifier_number x) some)

-- no words name nothing
none_is : {k : Kind} → None ≡ Some k → ⊥
none_is e = cc

none_named : {k : Kind} → named_by [] ≡ Some k → ⊥
none_named e = none_is e

module _ (l : Bool) where
  -- a word behind a word
  word_more : (x : Token) (xs : List Token) → 0 < specifier_number x → names_from (words l) (x ∷ xs) ≡ names_from (words l) xs
  word_more x xs some =
      ap (λ b. cond b [] (told_into l x) ++ names_from (cond b (words l) (next_into l x)) xs) (is_a_word x some)

  words_more : {before after ws : List Token} → AreSpecifiers before after ws → names_from (words l) before ≡ names_from (words l) after
  words_more no_more_words = refl
  words_more (a_word {x = x} some more) = word_more x _ some ∙ words_more more

  first_word : (x : Token) → 0 < specifier_number x → next_base l x ≡ words l
  first_word x some = grind arith

  -- the members of a base's own struct
  abbrev own_members : ℕ → Spot
  own_members zero = words l
  own_members (suc n) = members l n

  members_open : (n : ℕ) (x : Token) (xs : List Token) → bracket x ≡ opens → names_from (own_members (suc n)) (x ∷ xs) ≡ names_from (own_members (suc (suc n))) xs
  members_open n x xs e = ap (λ b. names_from (members_by l b n) xs) e

  members_close : (n : ℕ) (x : Token) (xs : List Token) → bracket x ≡ closes → names_from (own_members (suc n)) (x ∷ xs) ≡ names_from (own_members n) xs
  members_close zero x xs e = ap (λ b. names_from (members_by l b zero) xs) e
  members_close (suc n) x xs e = ap (λ b. names_from (members_by l b (suc n)) xs) e

  members_pass : (n : ℕ) (x : Token) (xs : List Token) → bracket x ≡ neither → names_from (own_members (suc n)) (x ∷ xs) ≡ names_from (own_members (suc n)) xs
  members_pass n x xs e = ap (λ b. names_from (members_by l b n) xs) e

  base_then : {d : ℕ} {before middle : List Token} {k : Kind} → IsBase wide d before middle k → Joins l middle → names_from (base l) before ≡ names_from (into l) middle
  base_then by_word j = j.behind_words
  base_then (by_size e is) j = absurd (isnt_plain e)
  base_then (by_sign e is) j = absurd (isnt_plain e)
  base_then (a_char e) j = absurd (isnt_plain e)
  base_then (by_specifiers r no_more_words is) j = absurd (none_named is)
  base_then (by_specifiers r (a_word {before = more} {x = x} some ws) is) j =
      ap (λ s. names_from s more) (first_word x some) ∙ words_more ws ∙ j.behind_words
  base_then a_void j = j.behind_words
  base_then a_tag j = j.behind_tag
  base_then (a_union r) j = j.behind_tag
  base_then (an_enum r) j = j.behind_tag
  base_then (a_name r is) j = j.behind_words
  base_then (a_struct room ms) j =
      members_are_left own_members members_open members_close members_pass ms zero ∙ j.behind_words
  base_then (a_tagged_struct r room ms) j =
      members_are_left own_members members_open members_close members_pass ms zero ∙ j.behind_words

  qualified_then : {d : ℕ} {before middle : List Token} {k : Kind} → IsQualified wide d before middle k → Joins l middle → names_from (base l) before ≡ names_from (into l) middle
  qualified_then (unqualified b) j = base_then b j
  qualified_then (constant b) j = base_then b j

-- ---- parameters

parameter_is : {before after : List Token} {t : Tree} (p : IsParameter wide before after t) → Ends after → names_from (base true) before ≡ parameter_name p ∷ names_from (behind 0) after
parameter_is (without_name e type) ends = absurd (isnt_plain e)
parameter_is (with_name e type) ends = absurd (isnt_plain e)
parameter_is (a_declared_one r b p is) ends =
    qualified_then true b (joins_declarator p ends) ∙ named p ends 0

over_is : (xs : List Token) → names_from over xs ≡ []
over_is [] = refl
over_is (x ∷ xs) = over_is xs

parameters_are : {before after : List Token} {ts : List Tree} {fixed : Option ℕ} (ps : IsParameters wide before after ts fixed) → names_from (base true) before ≡ parameter_names ps
parameters_are (last_parameter {after = after} p) =
    parameter_is p at_close ∙ ap (λ ns. parameter_name p ∷ ns) (over_is after)
parameters_are (last_before_dots {after = after} p) =
    parameter_is p at_comma ∙ ap (λ ns. parameter_name p ∷ ns) (over_is after)
parameters_are (before_types r p ps) =
    parameter_is p at_comma ∙ ap (λ ns. parameter_name p ∷ ns) (parameters_are ps)
parameters_are (next_parameter p ps) =
    parameter_is p at_comma ∙ ap (λ ns. parameter_name p ∷ ns) (parameters_are ps)

-- the first of a list begins as any
word_opens : (x : Token) (xs : List Token) → 0 < specifier_number x → names_from opened (x ∷ xs) ≡ names_from (base true) (x ∷ xs)
word_opens void_word xs some = absurd (omega (arith, some))
word_opens close_round xs some = absurd (omega (arith, some))
word_opens x xs some = refl

no_type : {t : Tree} → passed (a_value nothing) ≡ Some t → ⊥
no_type e = cc

-- a `void` that is no parameter is not behind a star or the like
void_goes_on : {d : ℕ} {before after : List Token} {s : Shape} {t : Tree} → IsDeclarator wide may_be_named d before after (a_value nothing) s → Ends after → passed s ≡ Some t → names_from sole_void before ≡ names_from (words true) before
void_goes_on (unnamed o no_suffix) at_close is = absurd (no_type is)
void_goes_on (unnamed o (a_list room list more)) e is = absurd (cc)
void_goes_on p e is = refl

parameter_opens : {before after : List Token} {t : Tree} → IsParameter wide before after t → Ends after → names_from opened before ≡ names_from (base true) before
parameter_opens (without_name e type) ends = absurd (isnt_plain e)
parameter_opens (with_name e type) ends = absurd (isnt_plain e)
parameter_opens (a_declared_one r (unqualified (by_size e w)) p is) ends = absurd (isnt_plain e)
parameter_opens (a_declared_one r (unqualified (by_sign e w)) p is) ends = absurd (isnt_plain e)
parameter_opens (a_declared_one r (unqualified (a_char e)) p is) ends = absurd (isnt_plain e)
parameter_opens (a_declared_one r (unqualified (by_specifiers q no_more_words w)) p is) ends = absurd (none_named w)
parameter_opens (a_declared_one r (unqualified (by_specifiers q (a_word {before = more} {x = x} some ws) w)) p is) ends =
    word_opens x more some
parameter_opens (a_declared_one r (unqualified a_void) p is) ends = void_goes_on p ends is
parameter_opens p ends = refl

parameters_open : {before after : List Token} {ts : List Tree} {fixed : Option ℕ} → IsParameters wide before after ts fixed → names_from opened before ≡ names_from (base true) before
parameters_open (last_parameter p) = parameter_opens p at_close
parameters_open (last_before_dots p) = parameter_opens p at_comma
parameters_open (before_types r p ps) = parameter_opens p at_comma
parameters_open (next_parameter p ps) = parameter_opens p at_comma

list_is : {before after : List Token} {ts : List Tree} {fixed : Option ℕ} (p : IsParameterList wide before after ts fixed) → names_from opened before ≡ list_names p
list_is (no_parameters {after = after}) = over_is after
list_is (only_void {after = after}) = over_is after
list_is (some_parameters ps) = parameters_open ps ∙ parameters_are ps

-- ---- the function

called_then : {d : ℕ} {before after : List Token} {c : List ℕ} → IsCalled d before after c → names_from function before ≡ names_from called after
called_then the_name = refl
called_then (in_brackets room more) = called_then more

function_is : {f : Function} {d : ℕ} {before after : List Token} {s : Shape} (p : IsFunction wide f d before after s) → names_from function before ≡ function_names p
function_is (returns_pointer p) = function_is p
function_is (a_function_here c is list) = called_then c ∙ list_is list
function_is (a_function_inside room p more) = function_is p

declaration_is : {xs : List Token} {d : Declaration} (p : IsDeclarationIn wide xs d) → names_from (base false) xs ≡ declaration_names p
declaration_is (declares e result list end) = absurd (isnt_plain e)
declaration_is (declares_by r b p end) =
    qualified_then false b (joins_function p) ∙ function_is p

-- ---- over the bytes

abbrev of_cut : Spot → Cut → List (List ℕ)
of_cut s (tokens ps) = names_from s (tokens_of ps)
of_cut s (bad_at at) = []

by_found : (f : Found) (at : ℕ) (cut : Cut) (ps : List Placed) (s : Spot) (go : ℕ → Spot → List (List ℕ)) → ((qs : List Placed) (t : Spot) → cut ≡ tokens qs → go (bytes_more f) t ≡ names_from t (tokens_of qs)) → before f at cut ≡ tokens ps → names_found f s go ≡ names_from s (tokens_of ps)
by_found blank at cut ps s go more e = more ps s e
by_found (skipped n) at cut ps s go more e = more ps s e
by_found (found t n) at (tokens qs) ps s go more e =
    ap (λ ns. told s t ++ ns) (more qs (next s t) refl) ∙ ap (of_cut s) e
by_found _ at _ ps s go more e = absurd (cc)

over_bytes : (c : Sign) (bs : List ℕ) (at inside : ℕ) (s : Spot) (ps : List Placed) → cut_from wide c at inside bs ≡ tokens ps → names_over c inside s bs ≡ names_from s (tokens_of ps)
over_bytes c [] at inside s ps e = ap (of_cut s) e
over_bytes c (b ∷ bs) at zero s ps e =
    by_found (found_in wide c b bs) at (cut_from wide c (at + 1) (bytes_more (found_in wide c b bs)) bs) ps s (λ inside t. names_over c inside t bs) (λ qs t is. over_bytes c bs (at + 1) (bytes_more (found_in wide c b bs)) t qs is) e
over_bytes c (b ∷ bs) at (suc inside) s ps e = over_bytes c bs (at + 1) inside s ps e

one_list : (c : Sign) (text : List ℕ) (d : Declaration) (ns : List (List ℕ)) → AreNames c text d ns → ns ≡ names_in c text
one_list c text d _ (are_names {ps = ps} cut declaration) =
    sym (over_bytes c text 0 0 (base false) ps cut ∙ declaration_is declaration)

found_in_one_pass : (c : Sign) (text : List ℕ) (d : Declaration) → IsReadingIn wide c text (reads d) → AreNames c text d (names_in c text)
found_in_one_pass c text d (is_read cut declaration great right) =
    let these : AreNames c text d (declaration_names declaration) = are_names cut declaration in
    subst (AreNames c text d) (one_list c text d (declaration_names declaration) these) these

-- ---- a name of each

parameters_count : {before after : List Token} {ts : List Tree} {fixed : Option ℕ} (ps : IsParameters wide before after ts fixed) → length (parameter_names ps) ≡ length ts
parameters_count (before_types r p ps) = ap suc (parameters_count ps)
parameters_count (next_parameter p ps) = ap suc (parameters_count ps)
parameters_count _ = refl

list_counts : {before after : List Token} {ts : List Tree} {fixed : Option ℕ} (p : IsParameterList wide before after ts fixed) → length (list_names p) ≡ length ts
list_counts (some_parameters ps) = parameters_count ps
list_counts _ = refl

function_counts : {f : Function} {d : ℕ} {before after : List Token} {s : Shape} (p : IsFunction wide f d before after s) → length (function_names p) ≡ length f.parameters
function_counts (returns_pointer p) = function_counts p
function_counts (a_function_here c is list) = list_counts list
function_counts (a_function_inside room p more) = function_counts p

one_of_each : (c : Sign) (text : List ℕ) (d : Declaration) (ns : List (List ℕ)) → AreNames c text d ns → length ns ≡ length d.signature.arguments
one_of_each c text _ _ (are_names cut (declares e result list end)) = absurd (isnt_plain e)
one_of_each c text _ _ (are_names cut (declares_by r b p end)) = function_counts p

pub name_laws : NameLaws
name_laws =
    record { found_in_one_pass = found_in_one_pass; one_list = one_list; one_of_each = one_of_each; by_either_sign = by_either_sign }
