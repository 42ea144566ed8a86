-- All that is told of an unexpected place, and nothing else. Where no reason is told, there is none.
use Rattle.std.specs.Prelude.{◌≡◌, ⊤, ℕ, List, [], ◌∷◌, Option, Some, None}
use Rattle.ffi3_cdecl_spec.specs.Tokens.{Sign, Token, attribute_word, other_keyword, comma}
use Rattle.ffi3_cdecl_spec.specs.Reading.{tokens_of}
use Rattle.ffi3_cdecl_spec.specs.Reasons.{Base, Reason, an_attribute, a_keyword, by_value, IsByValue, Told, IsTold}

-- behind a comma another declarator of the same base may stand
abbrev pub IsNoComma : Token → Type 0
IsNoComma comma = ⊥
IsNoComma x = ⊤

abbrev pub HasNoComma : List Token → Type 0
HasNoComma [] = ⊤
HasNoComma (x ∷ xs) = IsNoComma x × HasNoComma xs

-- This base stands by value before the token: were it int32_t, the token could stand there, and no comma stands between.
pub record StandsByValue (start : List Token) (x : Token) (b : Base) : Type 0 where
  pub would_fit : IsByValue start x b
  pub nothing_between : HasNoComma would_fit.behind

-- this is a reason why the token is unexpected behind a beginning
abbrev pub IsTheReason : List Token → Token → Reason → Type 0
IsTheReason start x an_attribute = x ≡ attribute_word
IsTheReason start x a_keyword = x ≡ other_keyword
IsTheReason start x (by_value b) = StandsByValue start x b

-- the reason, if there is any: none at the end of a text
abbrev pub IsTheReasonOf : List Token → List Token → Option Reason → Type 0
IsTheReasonOf start [] o = o ≡ None
IsTheReasonOf start (x ∷ xs) None = (why : Reason) → ¬ IsTheReason start x why
IsTheReasonOf start (x ∷ xs) (Some why) = IsTheReason start x why

-- this is told of a text that has an unexpected token at this offset, or its end, and nothing else is
pub record IsToldExactly (c : Sign) (text : List ℕ) (at : ℕ) (t : Told) : Type 0 where
  pub is_told : IsTold c text at t
  pub the_reason : IsTheReasonOf (tokens_of is_told.start) (tokens_of is_told.rest) t.reason
