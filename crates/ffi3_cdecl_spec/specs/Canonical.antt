-- The canonical text of a declaration, by its tokens.
use Rattle.std.specs.Prelude.{◌≡◌, ℕ, ◌+◌, Bool, true, false, List, [], ◌∷◌, ◌++◌, ◌&&◌, ◌||◌, length, Some, is_some}
use Rattle.std.specs.Prelude.{codes, decimal}
use Rattle.ffi3_type_spec.specs.Tree.{Scalar, u8, s8, u16, s16, u32, s32, u64, s64, u128, s128, float, double, pointer, x87, binary128}
use Rattle.ffi3_type_spec.specs.Tree.{Tree, Trees, void, scalar, left_out, structure, array, no_trees, tree}
use Rattle.ffi3_type_spec.specs.Tree.{LeftOutKind, long_double, complex, vector}
use Rattle.ffi3_cdecl_spec.specs.Tokens.{Token, unsigned, type_word, sign_word, int128_word, void_word, struct_word}
use Rattle.ffi3_cdecl_spec.specs.Tokens.{name, number, open_round, close_round, open_curly, close_curly, open_square}
use Rattle.ffi3_cdecl_spec.specs.Tokens.{close_square, comma, semicolon, star, dots, signed, const_word, short_word}
use Rattle.ffi3_cdecl_spec.specs.Tokens.{int_word, long_word, char_word, union_word, enum_word}
use Rattle.ffi3_cdecl_spec.specs.Tokens.{complex_word, attribute_word, other_keyword, is_letter, goes_on_word, word_of}
use Rattle.ffi3_type_spec.specs.Signature.{Signature}

-- a scalar, in front of other tokens; a long double of 16 bytes has none: it is spelled where no format is given to it
abbrev pub scalar_tokens : Scalar → List Token → List Token
scalar_tokens u128 rest = sign_word unsigned ∷ int128_word ∷ rest
scalar_tokens s128 rest = int128_word ∷ rest
scalar_tokens pointer rest = void_word ∷ star ∷ rest
scalar_tokens x87 rest = rest
scalar_tokens binary128 rest = rest
scalar_tokens s rest = type_word s ∷ rest

-- the counts of an array, the outermost first
abbrev mutual
  pub count_tokens : Tree → List Token → List Token
  count_tokens void rest = rest
  count_tokens (scalar s) rest = rest
  count_tokens (left_out k) rest = rest
  count_tokens (structure ts) rest = rest
  count_tokens (array ts n) rest =
      open_square ∷ number n ∷ close_square ∷ first_count_tokens ts rest

  pub first_count_tokens : Trees → List Token → List Token
  first_count_tokens no_trees rest = rest
  first_count_tokens (tree t ts) rest = count_tokens t rest

-- member number i
abbrev pub member_name : ℕ → Token
member_name i = name (codes "m" ++ decimal i)

-- a long double, real or complex, whose format is left to the target; a vector has none
abbrev pub left_out_tokens : LeftOutKind → List Token → List Token
left_out_tokens long_double rest = long_word ∷ type_word double ∷ rest
left_out_tokens complex rest = long_word ∷ type_word double ∷ complex_word ∷ rest
left_out_tokens vector rest = rest

-- a type, and of an array what it is of, in front of other tokens
abbrev mutual
  pub type_tokens : Tree → List Token → List Token
  type_tokens void rest = void_word ∷ rest
  type_tokens (scalar s) rest = scalar_tokens s rest
  type_tokens (left_out k) rest = left_out_tokens k rest
  type_tokens (structure ts) rest =
      struct_word ∷ open_curly ∷ member_tokens 0 ts (close_curly ∷ rest)
  type_tokens (array ts n) rest = first_type_tokens ts rest

  pub first_type_tokens : Trees → List Token → List Token
  first_type_tokens no_trees rest = rest
  first_type_tokens (tree t ts) rest = type_tokens t rest

  pub member_tokens : ℕ → Trees → List Token → List Token
  member_tokens i no_trees rest = rest
  member_tokens i (tree t ts) rest =
      type_tokens t (member_name i ∷ count_tokens t (semicolon ∷ member_tokens (i + 1) ts rest))

abbrev pub end_tokens : Bool → List Token → List Token
end_tokens true rest = comma ∷ dots ∷ close_round ∷ rest
end_tokens false rest = close_round ∷ rest

abbrev pub more_parameter_tokens : List Tree → Bool → List Token → List Token
more_parameter_tokens [] variadic rest = end_tokens variadic rest
more_parameter_tokens (t ∷ ts) variadic rest =
    comma ∷ type_tokens t (more_parameter_tokens ts variadic rest)

abbrev pub parameter_tokens : List Tree → Bool → List Token → List Token
parameter_tokens [] variadic rest = void_word ∷ close_round ∷ rest
parameter_tokens (t ∷ ts) variadic rest =
    type_tokens t (more_parameter_tokens ts variadic rest)

-- the tokens of a declaration of a function
abbrev pub declaration_tokens : List ℕ → Signature → List Token
declaration_tokens called s =
    type_tokens s.result_type
    (name called ∷ open_round ∷ parameter_tokens s.arguments (is_some s.fixed) (semicolon ∷ []))

-- dots stand behind the last of the parameters: of a function that is declared, all that are named are fixed
abbrev pub FixesAll : Signature → Type 0
FixesAll s = (n : ℕ) → s.fixed ≡ Some n → n ≡ length s.arguments

-- ---- their text

abbrev pub scalar_word : Scalar → List ℕ
scalar_word u8 = codes "uint8_t"
scalar_word s8 = codes "int8_t"
scalar_word u16 = codes "uint16_t"
scalar_word s16 = codes "int16_t"
scalar_word u32 = codes "uint32_t"
scalar_word s32 = codes "int32_t"
scalar_word u64 = codes "uint64_t"
scalar_word s64 = codes "int64_t"
scalar_word u128 = []
scalar_word s128 = []
scalar_word float = codes "float"
scalar_word double = codes "double"
scalar_word pointer = []
scalar_word x87 = []
scalar_word binary128 = []

abbrev pub spelled : Token → List ℕ
spelled (type_word s) = scalar_word s
spelled (sign_word signed) = codes "signed"
spelled (sign_word unsigned) = codes "unsigned"
spelled const_word = codes "const"
spelled short_word = codes "short"
spelled int_word = codes "int"
spelled long_word = codes "long"
spelled int128_word = codes "__int128"
spelled (char_word c) = codes "char"
spelled void_word = codes "void"
spelled struct_word = codes "struct"
spelled union_word = codes "union"
spelled enum_word = codes "enum"
spelled complex_word = codes "_Complex"
spelled attribute_word = codes "__attribute__"
spelled other_keyword = codes "while"
spelled (name bytes) = bytes
spelled (number n) = decimal n
spelled open_round = codes "("
spelled close_round = codes ")"
spelled open_curly = codes "{"
spelled close_curly = codes "}"
spelled open_square = codes "["
spelled close_square = codes "]"
spelled comma = codes ","
spelled semicolon = codes ";"
spelled star = codes "*"
spelled dots = codes "..."

-- no blank stands in front of it
abbrev pub hugs : Token → Bool
hugs open_round = true
hugs close_round = true
hugs open_square = true
hugs close_square = true
hugs comma = true
hugs semicolon = true
hugs x = false

-- nor behind it
abbrev pub holds : Token → Bool
holds open_round = true
holds open_square = true
holds x = false

abbrev pub spaced : Bool → List ℕ → List ℕ
spaced true text = text
spaced false text = 32 ∷ text

-- the text of tokens, at the beginning or behind an opening mark, or not
abbrev pub text_of : Bool → List Token → List ℕ
text_of tight [] = []
text_of tight (x ∷ xs) =
    spaced (tight || hugs x) (spelled x ++ text_of (holds x) xs)

abbrev pub declaration_text : List ℕ → Signature → List ℕ
declaration_text called s = text_of true (declaration_tokens called s)

-- bytes that all pass a test
abbrev pub passes : (ℕ → Bool) → List ℕ → Bool
passes test [] = true
passes test (b ∷ bs) = test b && passes test bs

abbrev pub IsIdentifierOf : List ℕ → List ℕ → Type 0
IsIdentifierOf word [] = ⊥
IsIdentifierOf word (b ∷ bs) =
    (is_letter b ≡ true) × (passes goes_on_word bs ≡ true) × (word_of word ≡ name word)

-- an identifier, which is no word of the grammar
abbrev pub IsIdentifier : List ℕ → Type 0
IsIdentifier word = IsIdentifierOf word word
