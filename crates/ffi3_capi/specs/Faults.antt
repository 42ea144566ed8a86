-- Why a text, or nodes, declare no function that can be called, as C sees it.
use Rattle.std.specs.Prelude.{◌≡◌, ℕ, List, [], ◌∷◌, Option, Some, None, IsUtf8}
use Rattle.ffi3_type_spec.specs.Tree.{Tree, void, scalar, left_out, structure, array, long_double, complex, vector}
use Rattle.ffi3_type_spec.specs.Fault.{Fault, bad_typedef, left_out_type, too_large, too_deep}
use Rattle.ffi3_type_spec.specs.Signature.{Signature, Position, at_result, at_argument, SignatureFault, too_many}
use Rattle.ffi3_type_spec.specs.Signature.{bad_type, bad_fixed, bad_argument_type}
use Rattle.ffi3_cdecl_spec.specs.Reading.{Outcome, reads, bad_token, unexpected, bad_number, bad_signature, IsReadingIn}
use Rattle.ffi3_cdecl_spec.specs.Tokens.{wide, Sign}
use Rattle.ffi3_format_spec.specs.declared.Format.{Format}
use Rattle.ffi3_cdecl_spec.specs.ReadingFor.{IsReadingFor}
use Rattle.ffi3_capi.specs.declared.codes.TheConstants.{RESULT_PART}
use Rattle.ffi3_capi.specs.declared.fault.TextFault.{TextFault}
use Rattle.ffi3_capi.specs.declared.fault.FaultKind.{FaultKind}
use Rattle.ffi3_capi.specs.declared.fault.FaultKind.TheVariants.{NoFault, NotUtf8, BadToken, Unexpected, BadNumber}
use Rattle.ffi3_capi.specs.declared.fault.FaultKind.TheVariants.{BadTypedef, LeftOutLongDouble, LeftOutComplex}
use Rattle.ffi3_capi.specs.declared.fault.FaultKind.TheVariants.{LeftOutVector, TooLarge, TooDeep, TooMany, BadFixed}
use Rattle.ffi3_capi.specs.declared.fault.FaultKind.TheVariants.{BadVariadic, NodesEnded, UnknownKind, BadCount}
use Rattle.ffi3_capi.specs.declared.fault.FaultKind.TheVariants.{NodesTooDeep, TooManyNodes, NotOneType}
use Rattle.ffi3_capi.specs.declared.fault.FaultKind.TheVariants.{LaidOutOtherwise}

-- by number, from 0
abbrev pub kinds : List FaultKind
kinds =
    NoFault ∷ NotUtf8 ∷ BadToken ∷ Unexpected ∷ BadNumber ∷ BadTypedef ∷ LeftOutLongDouble ∷ LeftOutComplex
    ∷ LeftOutVector ∷ TooLarge ∷ TooDeep ∷ TooMany ∷ BadFixed ∷ BadVariadic ∷ NodesEnded ∷ UnknownKind ∷ BadCount
    ∷ NodesTooDeep ∷ TooManyNodes ∷ NotOneType ∷ LaidOutOtherwise ∷ []

abbrev pub kind_number : FaultKind → ℕ
kind_number NoFault = 0
kind_number NotUtf8 = 1
kind_number BadToken = 2
kind_number Unexpected = 3
kind_number BadNumber = 4
kind_number BadTypedef = 5
kind_number LeftOutLongDouble = 6
kind_number LeftOutComplex = 7
kind_number LeftOutVector = 8
kind_number TooLarge = 9
kind_number TooDeep = 10
kind_number TooMany = 11
kind_number BadFixed = 12
kind_number BadVariadic = 13
kind_number NodesEnded = 14
kind_number UnknownKind = 15
kind_number BadCount = 16
kind_number NodesTooDeep = 17
kind_number TooManyNodes = 18
kind_number NotOneType = 19
kind_number LaidOutOtherwise = 20

-- nothing more is told of it
abbrev pub fault_with : FaultKind → TextFault
fault_with k = record { kind = kind_number k; argument = 0; offset = 0; number = 0 }

abbrev pub fault_at : FaultKind → ℕ → TextFault
fault_at k at = record { kind = kind_number k; argument = 0; offset = at; number = 0 }

-- an argument by its number
abbrev pub value_of : Position → ℕ
value_of at_result = RESULT_PART
value_of (at_argument i) = i

-- The kinds that are left out are three. A fault tells of no other type.
abbrev pub left_out_kind : Tree → FaultKind
left_out_kind (left_out long_double) = LeftOutLongDouble
left_out_kind (left_out complex) = LeftOutComplex
left_out_kind (left_out vector) = LeftOutVector
left_out_kind void = LeftOutVector
left_out_kind (scalar s) = LeftOutVector
left_out_kind (structure ts) = LeftOutVector
left_out_kind (array ts n) = LeftOutVector

-- of the type of a value
abbrev pub fault_of_value : ℕ → FaultKind → ℕ → TextFault
fault_of_value value k n =
    record { kind = kind_number k; argument = value; offset = 0; number = n }

abbrev pub type_fault : ℕ → Fault → TextFault
type_fault value bad_typedef = fault_of_value value BadTypedef 0
type_fault value (left_out_type t) = fault_of_value value (left_out_kind t) 0
type_fault value (too_large size) = fault_of_value value TooLarge size
type_fault value too_deep = fault_of_value value TooDeep 0

abbrev pub signature_fault : SignatureFault → TextFault
signature_fault (too_many n) = fault_of_value 0 TooMany n
signature_fault (bad_type at path fault) = type_fault (value_of at) fault
signature_fault (bad_fixed fixed n) = fault_of_value fixed BadFixed n
signature_fault (bad_argument_type i) = fault_of_value i BadVariadic 0

-- what a reading tells, where it is no declaration
abbrev pub outcome_fault : Outcome → Option TextFault
outcome_fault (reads d) = None
outcome_fault (bad_token at) = Some (fault_at BadToken at)
outcome_fault (unexpected at) = Some (fault_at Unexpected at)
outcome_fault (bad_number at) = Some (fault_at BadNumber at)
outcome_fault (bad_signature f) = Some (signature_fault f)

-- WHY BYTES DECLARE NO FUNCTION, where a `char` is signed or not: they are no UTF-8, or the wide reading reads them as a fault
pub data IsFaultOf (c : Sign) (text : List ℕ) : TextFault → Type 0 where
  not_text : (¬ IsUtf8 text) → IsFaultOf c text (fault_with NotUtf8)
  misread : (o : Outcome) (f : TextFault) → IsUtf8 text → IsReadingIn wide c text o → outcome_fault o ≡ Some f
      → IsFaultOf c text f

-- WHAT BYTES DECLARE that are UTF-8, in the wide reading, where a `char` is signed or not: a function of some name and of this signature
abbrev pub Declares : Sign → List ℕ → Signature → Type 0
Declares c text s =
    IsUtf8 text × (called : List ℕ) × IsReadingIn wide c text (reads (record { called = called; signature = s }))

-- ---- for calls on a target, whose long doubles have a format

-- WHY BYTES DECLARE NO FUNCTION that can be called there
pub data IsFaultIn (f : Format) (c : Sign) (text : List ℕ) : TextFault → Type 0 where
  no_text : (¬ IsUtf8 text) → IsFaultIn f c text (fault_with NotUtf8)
  misread_in : (o : Outcome) (g : TextFault) → IsUtf8 text → IsReadingFor f c text o → outcome_fault o ≡ Some g
      → IsFaultIn f c text g

-- WHAT BYTES DECLARE there: a function of some name and of this signature, in which long doubles have that format
abbrev pub DeclaresIn : Format → Sign → List ℕ → Signature → Type 0
DeclaresIn f c text s =
    IsUtf8 text × (called : List ℕ) × IsReadingFor f c text (reads (record { called = called; signature = s }))
