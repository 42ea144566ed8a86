-- What a prototype is for all targets at once, whether `char` is signed or not, and its canonical text, with the types behind its dots. (C11 6.7.6.3 for prototypes; 6.2.5 paragraph 15 leaves the sign of `char` to the implementation)
use Rattle.std.specs.Prelude.{◌≡◌, ℕ, suc, true, false, cond, List, [], ◌∷◌, take, drop, Option, Some, None}
use Rattle.ffi3_type_spec.specs.Tree.{Tree}
use Rattle.ffi3_type_spec.specs.Same.{same_tree}
use Rattle.ffi3_type_spec.specs.Signature.{Signature, Position, at_result, at_argument}
use Rattle.ffi3_cdecl_spec.specs.Tokens.{wide, Sign, signed, unsigned, Token, name, open_round, close_round, comma}
use Rattle.ffi3_cdecl_spec.specs.Tokens.{semicolon, dots}
use Rattle.ffi3_cdecl_spec.specs.Grammar.{Declaration}
use Rattle.ffi3_cdecl_spec.specs.Canonical.{type_tokens, parameter_tokens, text_of, FixesAll}
use Rattle.ffi3_cdecl_spec.specs.Reading.{Outcome, reads, IsReadingIn, IsReading}

-- ---- what is read

-- What a text is read as for all targets: as this, a function or the first fault; or the type at this position is one where `char` is signed and another where it is not.
pub data Prototype : Type 0 where
  read_as : Outcome → Prototype
  sign_unsaid : Position → Prototype

-- how many types at the front of two lists are the same
abbrev pub same_front : List Tree → List Tree → ℕ
same_front [] us = 0
same_front (t ∷ ts) [] = 0
same_front (t ∷ ts) (u ∷ us) = cond (same_tree t u) (suc (same_front ts us)) 0

-- the first type that two signatures do not share
abbrev pub first_other : Signature → Signature → Position
first_other s r =
    cond (same_tree s.result_type r.result_type) (at_argument (same_front s.arguments r.arguments)) at_result

-- the outcome is no function
abbrev pub IsFault : Outcome → Type 0
IsFault o = (d : Declaration) → ¬ (o ≡ reads d)

-- by two readings, of which the first fault is told where one has any
pub data IsPrototypeBy (IsRead : Sign → Outcome → Type 0) : Prototype → Type 0 where
  reads_alike : {d : Declaration} → ((c : Sign) → IsRead c (reads d)) → IsPrototypeBy IsRead (read_as (reads d))
  reads_by_sign : {d e : Declaration} → IsRead signed (reads d) → IsRead unsigned (reads e) → ¬ (d ≡ e)
      → IsPrototypeBy IsRead (sign_unsaid (first_other d.signature e.signature))
  has_fault : {o : Outcome} → IsRead signed o → IsFault o → IsPrototypeBy IsRead (read_as o)
  has_fault_unsigned : {d : Declaration} {o : Outcome} → IsRead signed (reads d) → IsRead unsigned o → IsFault o
      → IsPrototypeBy IsRead (read_as o)

-- by both wide readings
abbrev pub IsPrototype : List ℕ → Prototype → Type 0
IsPrototype text p = IsPrototypeBy (λ c o. IsReadingIn wide c text o) p

-- ---- its canonical text

-- types, a comma in front of each
abbrev pub behind_commas : List Tree → List Token → List Token
behind_commas [] rest = rest
behind_commas (t ∷ ts) rest = comma ∷ type_tokens t (behind_commas ts rest)

-- types, with commas between them
abbrev pub between_commas : List Tree → List Token → List Token
between_commas [] rest = rest
between_commas (t ∷ ts) rest = type_tokens t (behind_commas ts rest)

-- The dots stand behind the parameters that are fixed, and the types that a call passes there behind the dots.
abbrev pub fixed_tokens : List Tree → Option ℕ → List Token → List Token
fixed_tokens ts None rest = parameter_tokens ts false rest
fixed_tokens ts (Some n) rest =
    between_commas (take n ts) (comma ∷ dots ∷ behind_commas (drop n ts) (close_round ∷ rest))

abbrev pub prototype_tokens : List ℕ → Signature → List Token
prototype_tokens called s =
    type_tokens s.result_type
    (name called ∷ open_round ∷ fixed_tokens s.arguments s.fixed (semicolon ∷ []))

abbrev pub prototype_text : List ℕ → Signature → List ℕ
prototype_text called s = text_of true (prototype_tokens called s)

-- ---- laws

pub record PrototypeLaws : Type 0 where
  -- each text is one prototype
  pub some_prototype : (text : List ℕ) → (p : Prototype) × IsPrototype text p
  pub one_prototype : (text : List ℕ) (p q : Prototype) → IsPrototype text p → IsPrototype text q → p ≡ q
  -- what is read has a canonical text, which is read as the same
  pub written_again : (text : List ℕ) (d : Declaration) → IsPrototype text (read_as (reads d))
      → IsPrototype (prototype_text d.called d.signature) (read_as (reads d))
  -- also in the plain reading, where no type stands behind the dots
  pub written_plainly : (text : List ℕ) (d : Declaration) → IsPrototype text (read_as (reads d)) → FixesAll d.signature
      → IsReading (prototype_text d.called d.signature) (reads d)
