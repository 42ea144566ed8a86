-- What a text is read as: a declaration of a function whose signature has no fault, or the first fault: of token, of grammar, of number, of signature, in this order over the whole text.
use Rattle.std.specs.Prelude.{◌≡◌, ⊤, ℕ, Bool, false, cond, List, [], ◌∷◌, ◌++◌, length, Option, Some, None, nat_le}
use Rattle.ffi3_cdecl_spec.specs.Tokens.{Dialect, plain, Sign, signed, Token, name, number, found, wide_word_at, Placed, tokens}
use Rattle.ffi3_cdecl_spec.specs.Tokens.{bad_at, cut_in, cut, TOO_GREAT}
use Rattle.ffi3_cdecl_spec.specs.Grammar.{Declaration, IsDeclarationIn}
use Rattle.ffi3_type_spec.specs.Signature.{SignatureFault, SignatureHasNoFault, IsFirstSignatureFault}

-- a declaration begins so
abbrev pub IsViableIn : Dialect → List Token → Type 0
IsViableIn r start =
    (more : List Token) × (d : Declaration) × IsDeclarationIn r (start ++ more) d

-- What stands behind a beginning is unexpected: a token that no declaration has there, or the end of the text where it is no declaration yet.
abbrev pub IsNotExpected : Dialect → List Token → List Token → Type 0
IsNotExpected r start [] = (d : Declaration) → ¬ IsDeclarationIn r start d
IsNotExpected r start (x ∷ xs) = ¬ IsViableIn r (start ++ x ∷ [])

pub record IsUnexpected (r : Dialect) (start rest : List Token) : Type 0 where
  pub viable : IsViableIn r start
  pub not_expected : IsNotExpected r start rest

abbrev pub tokens_of : List Placed → List Token
tokens_of [] = []
tokens_of (p ∷ ps) = p.token ∷ tokens_of ps

-- where the rest of a text's tokens begins, in bytes
abbrev pub begins_at : ℕ → List Placed → ℕ
begins_at end [] = end
begins_at end (p ∷ ps) = p.at

abbrev pub is_too_great : Token → Bool
is_too_great (number n) = nat_le TOO_GREAT n
is_too_great x = false

abbrev pub first_too_great : List Placed → Option ℕ
first_too_great [] = None
first_too_great (p ∷ ps) =
    cond (is_too_great p.token) (Some p.at) (first_too_great ps)

pub data Outcome : Type 0 where
  reads : Declaration → Outcome
  bad_token : ℕ → Outcome
  unexpected : ℕ → Outcome
  bad_number : ℕ → Outcome
  bad_signature : SignatureFault → Outcome

pub data IsReadingIn (r : Dialect) (c : Sign) (text : List ℕ) : Outcome → Type 0 where
  has_bad_token : {at : ℕ} → cut_in r c text ≡ bad_at at → IsReadingIn r c text (bad_token at)
  has_unexpected : (start rest : List Placed)
      → cut_in r c text ≡ tokens (start ++ rest) → IsUnexpected r (tokens_of start) (tokens_of rest)
      → IsReadingIn r c text (unexpected (begins_at (length text) rest))
  has_bad_number : {ps : List Placed} {at : ℕ} {d : Declaration}
      → cut_in r c text ≡ tokens ps → IsDeclarationIn r (tokens_of ps) d → first_too_great ps ≡ Some at
      → IsReadingIn r c text (bad_number at)
  is_read : {ps : List Placed} {d : Declaration}
      → cut_in r c text ≡ tokens ps → IsDeclarationIn r (tokens_of ps) d → first_too_great ps ≡ None
      → SignatureHasNoFault d.signature
      → IsReadingIn r c text (reads d)
  has_bad_signature : {ps : List Placed} {d : Declaration} {f : SignatureFault}
      → cut_in r c text ≡ tokens ps → IsDeclarationIn r (tokens_of ps) d → first_too_great ps ≡ None
      → IsFirstSignatureFault d.signature f
      → IsReadingIn r c text (bad_signature f)

abbrev pub IsReading : List ℕ → Outcome → Type 0
IsReading text o = IsReadingIn plain signed text o

-- ---- texts that use no word of the wide reading as a name

-- the wide reading has no word that is spelled so, as `restrict` or `while`
abbrev pub StaysName : Token → Type 0
StaysName (name word) =
    (c : Sign) → wide_word_at c word 0 [] ≡ found (name word) 0
StaysName x = ⊤

abbrev pub NamesStay : List Token → Type 0
NamesStay [] = ⊤
NamesStay (x ∷ xs) = StaysName x × NamesStay xs

abbrev pub UsesNoKeyword : List ℕ → Type 0
UsesNoKeyword text =
    (ps : List Placed) → cut text ≡ tokens ps → NamesStay (tokens_of ps)
