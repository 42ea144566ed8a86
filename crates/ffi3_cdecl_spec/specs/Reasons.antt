-- Why a text is no declaration, where a word tells it, and all that is told there.
use Rattle.std.specs.Prelude.{◌≡◌, ℕ, suc, List, [], ◌∷◌, ◌++◌, length, drop, Option, Some, None}
use Rattle.ffi3_type_spec.specs.Tree.{s32}
use Rattle.ffi3_cdecl_spec.specs.Tokens.{wide, Sign, Token, type_word, struct_word, union_word, enum_word, name}
use Rattle.ffi3_cdecl_spec.specs.Tokens.{attribute_word, other_keyword, Placed, tokens, cut_in, bytes_more, found_in}
use Rattle.ffi3_cdecl_spec.specs.Reading.{IsViableIn, IsUnexpected, tokens_of, begins_at}
use Rattle.ffi3_cdecl_spec.specs.Expected.{Expected, AreExpected}

-- A type whose members or whose size the text does not tell: a struct, a union or an enum by its tag, or a name.
pub data Base : Type 0 where
  a_struct_of : List ℕ → Base
  a_union_of : List ℕ → Base
  an_enum_of : List ℕ → Base
  a_type_named : List ℕ → Base

abbrev pub base_tokens : Base → List Token
base_tokens (a_struct_of tag) = struct_word ∷ name tag ∷ []
base_tokens (a_union_of tag) = union_word ∷ name tag ∷ []
base_tokens (an_enum_of tag) = enum_word ∷ name tag ∷ []
base_tokens (a_type_named called) = name called ∷ []

pub data Reason : Type 0 where
  -- attributes that may move a value, and a keyword that is not read here
  an_attribute : Reason
  a_keyword : Reason
  -- a type of which there are pointers alone stands by value
  by_value : Base → Reason

-- This base stands before the token, and were it a type of known size, as int32_t, the token could stand there.
pub record IsByValue (start : List Token) (x : Token) (b : Base) : Type 0 where
  pub before : List Token
  pub behind : List Token
  pub stands : start ≡ before ++ (base_tokens b ++ behind)
  pub instead : IsViableIn wide ((before ++ type_word s32 ∷ behind) ++ x ∷ [])

-- the reason why a token is unexpected behind a beginning
abbrev pub IsReason : List Token → Token → Reason → Type 0
IsReason start x an_attribute = x ≡ attribute_word
IsReason start x a_keyword = x ≡ other_keyword
IsReason start x (by_value b) = IsByValue start x b

abbrev pub IsReasonOf : List Token → List Token → Option Reason → Type 0
IsReasonOf start [] o = o ≡ None
IsReasonOf start (x ∷ xs) None = (x ≡ attribute_word → ⊥) × (x ≡ other_keyword → ⊥)
IsReasonOf start (x ∷ xs) (Some why) = IsReason start x why

-- how many bytes the token at the front takes, in the wide reading
abbrev pub token_length : Sign → List ℕ → ℕ
token_length c [] = 0
token_length c (b ∷ bs) = suc (bytes_more (found_in wide c b bs))

-- What is told of an unexpected place: how many bytes the token takes that stands there, why, and what could have stood there.
pub record Told : Type 0 where
  pub taken : ℕ
  pub reason : Option Reason
  pub expected : List Expected

-- this is told of a text that has an unexpected token at this offset, or its end
pub record IsTold (c : Sign) (text : List ℕ) (at : ℕ) (t : Told) : Type 0 where
  pub start : List Placed
  pub rest : List Placed
  pub cut_so : cut_in wide c text ≡ tokens (start ++ rest)
  pub there : begins_at (length text) rest ≡ at
  pub is_unexpected : IsUnexpected wide (tokens_of start) (tokens_of rest)
  pub right_length : t.taken ≡ token_length c (drop at text)
  pub right_reason : IsReasonOf (tokens_of start) (tokens_of rest) t.reason
  pub right_kinds : AreExpected wide (tokens_of start) t.expected
