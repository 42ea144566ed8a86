-- The same names, found in one pass over the bytes of a text that declares a function; it need not be believed, since that it finds exactly those is proved (`name_laws`).
use Rattle.std.specs.Prelude.{ℕ, zero, suc, Bool, true, false, cond, ◌==◌, List, [], ◌∷◌, ◌++◌}
use Rattle.ffi3_cdecl_spec.specs.Tokens.{wide, Sign, Token, const_word, void_word, struct_word, union_word, enum_word}
use Rattle.ffi3_cdecl_spec.specs.Tokens.{name, open_round, close_round, open_curly, close_curly, open_square, close_square}
use Rattle.ffi3_cdecl_spec.specs.Tokens.{comma, star, dots, Found, blank, skipped, nothing_known, found, found_in}
use Rattle.ffi3_cdecl_spec.specs.Grammar.{specifier_number}

-- Where a pass is. A Bool says whether it is in the function's list.
pub data Spot : Type 0 where
  -- where a base begins, behind a word of one, behind `struct` and its like, behind a tag
  base : Bool → Spot
  words : Bool → Spot
  tag : Bool → Spot
  tagged : Bool → Spot
  -- among a struct's members, so many brackets deeper
  members : Bool → ℕ → Spot
  -- before the name of a parameter and behind it, inside so many brackets
  declarator : ℕ → Spot
  behind : ℕ → Spot
  -- before the function's name and behind it, where its list opens, behind a `void` there, and behind the list
  function : Spot
  called : Spot
  opened : Spot
  sole_void : Spot
  over : Spot

pub data Bracket : Type 0 where
  opens : Bracket
  closes : Bracket
  neither : Bracket

abbrev pub bracket : Token → Bracket
bracket open_round = opens
bracket open_curly = opens
bracket open_square = opens
bracket close_round = closes
bracket close_curly = closes
bracket close_square = closes
bracket x = neither

abbrev pub is_comma : Token → Bool
is_comma comma = true
is_comma x = false

-- behind a parameter's name, or where it would stand: to the comma or the closing mark of the list
abbrev pub behind_by : Bracket → ℕ → Token → Spot
behind_by opens n x = behind (suc n)
behind_by closes zero x = over
behind_by closes (suc n) x = behind n
behind_by neither zero x = cond (is_comma x) (base true) (behind 0)
behind_by neither (suc n) x = behind (suc n)

abbrev pub members_by : Bool → Bracket → ℕ → Spot
members_by l opens n = members l (suc n)
members_by l closes zero = words l
members_by l closes (suc n) = members l n
members_by l neither n = members l n

abbrev pub next_declarator : ℕ → Token → Spot
next_declarator n star = declarator n
next_declarator n open_round = declarator (suc n)
next_declarator n (name c) = behind n
next_declarator n x = behind_by (bracket x) n x

abbrev pub next_function : Token → Spot
next_function star = function
next_function open_round = function
next_function (name c) = called
next_function x = over

-- behind a base
abbrev pub next_into : Bool → Token → Spot
next_into true x = next_declarator 0 x
next_into false x = next_function x

abbrev pub is_word : Token → Bool
is_word x = cond (specifier_number x == 0) false true

abbrev pub next_words : Bool → Token → Spot
next_words l x = cond (is_word x) (words l) (next_into l x)

abbrev pub next_base : Bool → Token → Spot
next_base l const_word = base l
next_base l struct_word = tag l
next_base l union_word = tag l
next_base l enum_word = tag l
next_base l dots = behind 0
next_base l x = words l

abbrev pub next_tag : Bool → Token → Spot
next_tag l (name c) = tagged l
next_tag l open_curly = members l 0
next_tag l x = tag l

abbrev pub next_tagged : Bool → Token → Spot
next_tagged l open_curly = members l 0
next_tagged l x = next_into l x

abbrev pub next_called : Token → Spot
next_called open_round = opened
next_called x = called

abbrev pub next_sole_void : Token → Spot
next_sole_void close_round = over
next_sole_void x = next_words true x

abbrev pub next_opened : Token → Spot
next_opened close_round = over
next_opened void_word = sole_void
next_opened x = next_base true x

-- one token further
abbrev pub next : Spot → Token → Spot
next (base l) x = next_base l x
next (words l) x = next_words l x
next (tag l) x = next_tag l x
next (tagged l) x = next_tagged l x
next (members l n) x = members_by l (bracket x) n
next (declarator n) x = next_declarator n x
next (behind n) x = behind_by (bracket x) n x
next function x = next_function x
next called x = next_called x
next opened x = next_opened x
next sole_void x = next_sole_void x
next over x = over

-- the name that a token is of a parameter, or that it has none
abbrev pub told_by_declarator : Token → List (List ℕ)
told_by_declarator star = []
told_by_declarator open_round = []
told_by_declarator (name c) = c ∷ []
told_by_declarator x = [] ∷ []

abbrev pub told_into : Bool → Token → List (List ℕ)
told_into true x = told_by_declarator x
told_into false x = []

abbrev pub told_by_words : Bool → Token → List (List ℕ)
told_by_words l x = cond (is_word x) [] (told_into l x)

abbrev pub told_tagged : Bool → Token → List (List ℕ)
told_tagged l open_curly = []
told_tagged l x = told_into l x

abbrev pub told_sole_void : Token → List (List ℕ)
told_sole_void close_round = []
told_sole_void x = told_by_words true x

abbrev pub told : Spot → Token → List (List ℕ)
told (words l) x = told_by_words l x
told (tagged l) x = told_tagged l x
told (declarator n) x = told_by_declarator x
told sole_void x = told_sole_void x
told s x = []

abbrev pub names_from : Spot → List Token → List (List ℕ)
names_from s [] = []
names_from s (x ∷ xs) = told s x ++ names_from (next s x) xs

-- ---- over the bytes

abbrev pub names_found : Found → Spot → (ℕ → Spot → List (List ℕ)) → List (List ℕ)
names_found blank s go = go 0 s
names_found (skipped more) s go = go more s
names_found nothing_known s go = []
names_found (found t more) s go = told s t ++ go more (next s t)

-- so many bytes at the front are of a token already
abbrev pub names_over : Sign → ℕ → Spot → List ℕ → List (List ℕ)
names_over c inside s [] = []
names_over c zero s (b ∷ bs) =
    names_found (found_in wide c b bs) s (λ inside t. names_over c inside t bs)
names_over c (suc inside) s (b ∷ bs) = names_over c inside s bs

abbrev pub names_in : Sign → List ℕ → List (List ℕ)
names_in c text = names_over c 0 (base false) text
