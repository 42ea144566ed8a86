-- What could have stood where a text is no declaration: kinds of token, of which few are told.
use Rattle.std.specs.Prelude.{◌≡◌, ℕ, ◌<◌, Bool, true, false, ltb, List, [], ◌∷◌, ◌++◌, take}
use Rattle.ffi3_cdecl_spec.specs.Tokens.{Dialect, Token, type_word, sign_word, const_word, short_word, int_word}
use Rattle.ffi3_cdecl_spec.specs.Tokens.{long_word, int128_word, char_word, void_word, struct_word, union_word}
use Rattle.ffi3_cdecl_spec.specs.Tokens.{enum_word, complex_word, name, number, open_round, close_round, open_curly}
use Rattle.ffi3_cdecl_spec.specs.Tokens.{close_curly, open_square, close_square, comma, semicolon, star, dots}
use Rattle.ffi3_cdecl_spec.specs.Grammar.{specifier_number, Declaration, IsDeclarationIn}
use Rattle.ffi3_cdecl_spec.specs.Reading.{IsViableIn}

pub data Expected : Type 0 where
  a_type : Expected
  a_name : Expected
  a_number : Expected
  closing_round : Expected
  a_comma : Expected
  a_semicolon : Expected
  the_end : Expected
  a_star : Expected
  closing_square : Expected
  closing_curly : Expected
  opening_curly : Expected
  opening_round : Expected
  opening_square : Expected
  the_dots : Expected
  -- one more of the words that name a type, as behind `unsigned`
  a_word : Expected

-- the order in which they are told: first what goes on, then what ends, and last what is seldom meant
abbrev pub every_kind : List Expected
every_kind =
    a_type ∷ a_name ∷ a_number ∷ closing_round ∷ a_comma ∷ a_semicolon ∷ the_end ∷ a_star ∷ closing_square
    ∷ closing_curly ∷ opening_curly ∷ opening_round ∷ opening_square ∷ the_dots ∷ a_word ∷ []

-- a mark, and of the other kinds one token
abbrev pub sample : Expected → Token
sample a_type = void_word
sample a_name = name []
sample a_number = number 0
sample closing_round = close_round
sample a_comma = comma
sample a_semicolon = semicolon
sample the_end = semicolon
sample a_star = star
sample closing_square = close_square
sample closing_curly = close_curly
sample opening_curly = open_curly
sample opening_round = open_round
sample opening_square = open_square
sample the_dots = dots
sample a_word = int_word

-- the tokens of each kind
abbrev pub is_of : Expected → Token → Bool
is_of a_type (type_word s) = true
is_of a_type (sign_word g) = true
is_of a_type const_word = true
is_of a_type short_word = true
is_of a_type int_word = true
is_of a_type long_word = true
is_of a_type int128_word = true
is_of a_type (char_word c) = true
is_of a_type void_word = true
is_of a_type struct_word = true
is_of a_type union_word = true
is_of a_type enum_word = true
is_of a_type complex_word = true
is_of a_type (name called) = true
is_of a_name (name called) = true
is_of a_number (number n) = true
is_of closing_round close_round = true
is_of a_comma comma = true
is_of a_semicolon semicolon = true
is_of a_star star = true
is_of closing_square close_square = true
is_of closing_curly close_curly = true
is_of opening_curly open_curly = true
is_of opening_round open_round = true
is_of opening_square open_square = true
is_of the_dots dots = true
is_of a_word x = ltb 0 (specifier_number x)
is_of k x = false

-- Behind this beginning a token of this kind could stand, or the end. Where a type could stand, `void` could, and a name or a word of a type is one.
abbrev pub CouldStand : Dialect → List Token → Expected → Type 0
CouldStand r start a_name =
    ((called : List ℕ) × IsViableIn r (start ++ name called ∷ [])) × ¬ IsViableIn r (start ++ void_word ∷ [])
CouldStand r start a_number = (n : ℕ) × IsViableIn r (start ++ number n ∷ [])
CouldStand r start the_end = (d : Declaration) × IsDeclarationIn r start d
CouldStand r start a_word =
    ((x : Token) × (0 < specifier_number x) × IsViableIn r (start ++ x ∷ [])) × ¬ IsViableIn r (start ++ void_word ∷ [])
CouldStand r start k = IsViableIn r (start ++ sample k ∷ [])

-- those of these kinds that could, in their order
pub data AreThose (r : Dialect) (start : List Token) : List Expected → List Expected → Type 0 where
  no_kinds : AreThose r start [] []
  one_could : {k : Expected} {ks told : List Expected} → CouldStand r start k → AreThose r start ks told
      → AreThose r start (k ∷ ks) (k ∷ told)
  one_could_not : {k : Expected} {ks told : List Expected} → ¬ CouldStand r start k → AreThose r start ks told
      → AreThose r start (k ∷ ks) told

-- so many are told at most
abbrev pub MOST_TOLD : ℕ
MOST_TOLD = 4

-- the first of them
pub record AreExpected (r : Dialect) (start : List Token) (told : List Expected) : Type 0 where
  pub every : List Expected
  pub those : AreThose r start every_kind every
  pub first : take MOST_TOLD every ≡ told
