-- What `declaration_laws` says: one reading of each text, computed in one pass, and the canonical text read back.
use Rattle.std.specs.Prelude.{◌≡◌, ℕ, ◌↔◌, false, List}
use Rattle.ffi3_cdecl_spec.specs.Tokens.{Dialect, plain, wide, Sign, Token}
use Rattle.ffi3_cdecl_spec.specs.Grammar.{Declaration, IsDeclarationIn}
use Rattle.ffi3_type_spec.specs.Signature.{Signature, SignatureHasNoFault}
use Rattle.ffi3_cdecl_spec.specs.Canonical.{declaration_text, IsIdentifier, FixesAll}
use Rattle.ffi3_cdecl_spec.specs.Reading.{IsViableIn, Outcome, IsReadingIn, IsReading, reads}
use Rattle.ffi3_cdecl_spec.specs.Reading.{UsesNoKeyword}
use Rattle.ffi3_cdecl_spec.specs.OnePass.{pass_from, new_pass}
use Rattle.ffi3_cdecl_spec.specs.Machine.{State, is_dead, after, begun, Accepts, read_in}

-- of one reading
pub record LawsOf (r : Dialect) : Type 0 where
  -- the machine accepts declarations, and nothing else
  pub accepted : (ts : List Token) (d : Declaration) → IsDeclarationIn r ts d ↔ Accepts r begun ts d
  -- tokens declare one function at most
  pub one_declaration : (ts : List Token) (d e : Declaration) → IsDeclarationIn r ts d → IsDeclarationIn r ts e → d ≡ e
  -- each state but the dead one has a completion
  pub completion : (s : State) → is_dead s ≡ false → (more : List Token) × (d : Declaration) × Accepts r s more d
  -- what begins a declaration is what does not kill the machine
  pub viable : (start : List Token) → IsViableIn r start ↔ (is_dead (after r begun start) ≡ false)
  -- what is computed is a reading, and there is no other, whether `char` is signed or not
  pub reading : (c : Sign) (text : List ℕ) → IsReadingIn r c text (read_in r c text)
  pub one_reading : (c : Sign) (text : List ℕ) (o : Outcome) → IsReadingIn r c text o → o ≡ read_in r c text
  -- one pass over the bytes computes it too
  pub one_pass : (c : Sign) (text : List ℕ) → pass_from r c 0 0 new_pass text ≡ read_in r c text

pub record DeclarationLaws : Type 0 where
  pub plain_laws : LawsOf plain
  pub wide_laws : LawsOf wide
  -- the canonical text reads as what it is of
  pub written : (called : List ℕ) (s : Signature) → IsIdentifier called → SignatureHasNoFault s → FixesAll s
      → IsReading (declaration_text called s) (reads (record { called = called; signature = s }))
  -- what the plain reading reads, the wide one reads alike, but where a keyword is used as a name
  pub widened : (c : Sign) (text : List ℕ) (d : Declaration) → UsesNoKeyword text → IsReading text (reads d)
      → IsReadingIn wide c text (reads d)
