-- What holds where no long double is told: formats change nothing.
use Rattle.std.specs.Prelude.{◌≡◌, ℕ, false, List}
use Rattle.ffi3_type_spec.specs.Signature.{Signature, SignatureFault, SignatureHasNoFault, SignatureIsPlaced}
use Rattle.ffi3_type_spec.specs.Signature.{HasNoLongDouble, IsFirstSignatureFault, IsFirstFaultFor, for_places}
use Rattle.ffi3_format_spec.specs.declared.Format.{Format}
use Rattle.ffi3_format_spec.specs.Format.{signature_wants_format}
use Rattle.ffi3_cdecl_spec.specs.Grammar.{Declaration, IsDeclarationIn}
use Rattle.ffi3_cdecl_spec.specs.Reading.{Outcome, reads, tokens_of, IsReadingIn}
use Rattle.ffi3_cdecl_spec.specs.ReadingFor.{IsReadingFor, IsReadingEverywhere}
use Rattle.ffi3_cdecl_spec.specs.Tokens.{wide, Sign, Placed, tokens, cut_in}

-- no long double stands in the signature, and no complex one: none whose format is not known, and none of 16 bytes
pub record IsWithoutLongDouble (s : Signature) : Type 0 where
  pub none_unknown : signature_wants_format s ≡ false
  pub none_known : HasNoLongDouble s

-- the text declares no function with one
abbrev pub TextTellsNoLongDouble : Sign → List ℕ → Type 0
TextTellsNoLongDouble c text =
    (ps : List Placed) (d : Declaration)
    → cut_in wide c text ≡ tokens ps → IsDeclarationIn wide (tokens_of ps) d → IsWithoutLongDouble d.signature

-- OF A SIGNATURE: it can be placed where it can be called, and has the same first fault for both
pub record IsPlacedAsCalled (s : Signature) : Type 0 where
  pub placed_is_called : SignatureIsPlaced s → SignatureHasNoFault s
  pub called_is_placed : SignatureHasNoFault s → SignatureIsPlaced s
  pub fault_for_places : (f : SignatureFault) → IsFirstFaultFor for_places s f → IsFirstSignatureFault s f
  pub fault_for_calls : (f : SignatureFault) → IsFirstSignatureFault s f → IsFirstFaultFor for_places s f

-- two readings of a text have the same outcomes
pub record AreReadAlike (IsOne IsOther : Outcome → Type 0) : Type 0 where
  pub there : (o : Outcome) → IsOne o → IsOther o
  pub back : (o : Outcome) → IsOther o → IsOne o

pub record NoLongDoubleLaws : Type 0 where
  pub signatures : (s : Signature) → HasNoLongDouble s → IsPlacedAsCalled s
  -- what is declared without formats is declared with each, whether other texts of its tokens tell one or not
  pub declared : (f : Format) (c : Sign) (text : List ℕ) (d : Declaration)
      → IsReadingIn wide c text (reads d) → IsReadingFor f c text (reads d)
  pub with_a_format : (f : Format) (c : Sign) (text : List ℕ) → TextTellsNoLongDouble c text
      → AreReadAlike (IsReadingIn wide c text) (IsReadingFor f c text)
  pub with_all : (c : Sign) (text : List ℕ) → TextTellsNoLongDouble c text
      → AreReadAlike (IsReadingIn wide c text) (IsReadingEverywhere c text)
