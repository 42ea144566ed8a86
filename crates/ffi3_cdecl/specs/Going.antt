-- A text of tokens that goes on.
use Rattle.std.specs.Prelude.{◌≡◌, ℕ, Bool, true, false, List, [], ◌∷◌, ◌++◌}
use Rattle.ffi3_cdecl_spec.specs.Tokens.{Token}
use Rattle.ffi3_cdecl_spec.specs.Canonical.{text_of}
use Rattle.ffi3_cdecl.specs.declared.text.Writer.{Writer}

-- what the text comes to with these tokens
abbrev pub going : Writer → List Token → List ℕ
going w xs = w.text ++ text_of w.tight xs

-- tokens were written: whatever follows, the new text comes to what the old one comes to with them in front
abbrev pub Wrote : Writer → Writer → (List Token → List Token) → Type 0
Wrote old new tokens =
    (rest : List Token) → going new rest ≡ going old (tokens rest)

-- the blank in front of a token
abbrev pub blank_before : Bool → List ℕ
blank_before true = []
blank_before false = 32 ∷ []
