-- Which signature a value is, and why it is none, in the order of faults itself. A text of a version that has declarations is what it is read as, the C declaration of a function, and that is one thing alone. Every other value is what its shapes are read as, and then its signature has no fault, or a first one, which is one alone.
use Rattle.std.specs.Prelude.{◌≡◌, ℕ, List, Some, None}
use Rattle.serde_json.specs.Data.{Data}
use Rattle.ffi3_type_spec.specs.Signature.{Signature, SignatureFault, SignatureHasNoFault, IsFirstSignatureFault}
use Rattle.ffi3_cdecl_spec.specs.Grammar.{Declaration}
use Rattle.ffi3_cdecl_spec.specs.Reading.{Outcome, reads, bad_token, unexpected, bad_number, bad_signature, IsReading}
use Rattle.ffi3_script_spec.specs.Language.{JsonPath, Reason, bad_declaration, read, fault, read_shapes}
use Rattle.ffi3_script_spec.specs.Language.{place_of_fault, reason_of_fault, declaration_in}

-- the place and reason of the first fault of a signature that stands at a path
pub record TellsFirstFault (s : Signature) (path place : JsonPath) (reason : Reason) : Type 0 where
  pub first : SignatureFault
  pub is_first : IsFirstSignatureFault s first
  pub alone : (other : SignatureFault) → IsFirstSignatureFault s other → other ≡ first
  pub stands : place ≡ place_of_fault path s first
  pub tells : reason ≡ reason_of_fault first

-- the reason why what a text is read as is no signature
abbrev pub IsReasonOf : Outcome → Reason → Type 0
IsReasonOf (reads d) reason = ⊥
IsReasonOf (bad_token at) reason = reason ≡ bad_declaration at
IsReasonOf (unexpected at) reason = reason ≡ bad_declaration at
IsReasonOf (bad_number at) reason = reason ≡ bad_declaration at
IsReasonOf (bad_signature f) reason = reason ≡ reason_of_fault f

-- the place and reason of the fault of a text that stands at a path, by the one thing that it is read as
pub record TellsReading (text : List ℕ) (path place : JsonPath) (reason : Reason) : Type 0 where
  pub answer : Outcome
  pub is_reading : IsReading text answer
  pub alone : (other : Outcome) → IsReading text other → other ≡ answer
  pub stands : place ≡ path
  pub tells : IsReasonOf answer reason

-- THE VALUE AT A PATH IS THIS SIGNATURE in a version of the language
pub data IsSignature (version : ℕ) (d : Data) (path : JsonPath) (s : Signature) : Type 0 where
  from_object : declaration_in version d ≡ None → read_shapes version d path ≡ read s → SignatureHasNoFault s
      → IsSignature version d path s
  from_declaration : {text : List ℕ} {declared : Declaration}
      → declaration_in version d ≡ Some text → IsReading text (reads declared) → declared.signature ≡ s
      → IsSignature version d path s

-- THE VALUE AT A PATH IS NO SIGNATURE of a version of the language, for this reason at this place
pub data IsNoSignature (version : ℕ) (d : Data) (path place : JsonPath) (reason : Reason) : Type 0 where
  by_shapes : declaration_in version d ≡ None → read_shapes version d path ≡ fault place reason
      → IsNoSignature version d path place reason
  by_first_fault : {s : Signature}
      → declaration_in version d ≡ None → read_shapes version d path ≡ read s → TellsFirstFault s path place reason
      → IsNoSignature version d path place reason
  by_declaration : {text : List ℕ} → declaration_in version d ≡ Some text → TellsReading text path place reason
      → IsNoSignature version d path place reason
