-- A signature, and its first fault. (libffi manual, "The Basics" and "Variadic functions")
use Rattle.std.specs.Prelude.{◌≡◌, ℕ, ◌<◌, ◌≤◌, ◌⊎◌, Bool, true, false, List, [], length, Option, Some, None, refl}
use Rattle.std.specs.Prelude.{slice_index_or}
use Rattle.std.specs.Coded.{Coded, code_by, coded×, coded_list, coded_option, coded_ℕ}
use Rattle.ffi3_type_spec.specs.declared.limits.TheConstants.{MOST_ARGUMENTS}
use Rattle.ffi3_type_spec.specs.Tree.{Tree, void, scalar, tree_at, tree_code, tree_list_code, Scalar, u8, s8, u16, s16}
use Rattle.ffi3_type_spec.specs.Tree.{float, left_out, structure, u32, s32, u64, s64, u128, s128, double, pointer}
use Rattle.ffi3_type_spec.specs.Tree.{array, x87, binary128, long_double}
use Rattle.ffi3_type_spec.specs.declared.Role.{Role}
use Rattle.ffi3_type_spec.specs.declared.Role.TheVariants.{AsResult, AsArgument, PlacedResult, PlacedArgument}
use Rattle.ffi3_type_spec.specs.Layout.{has_long_double}
use Rattle.ffi3_type_spec.specs.Fault.{Fault, left_out_type, HasNoFault, IsFirstFault}

pub record Signature : Type 0 where
  pub result_type : Tree
  pub arguments : List Tree
  -- of a variadic function, how many arguments are fixed, or named; libffi's nfixedargs
  pub fixed : Option ℕ

abbrev pub signature_code : Coded Signature
signature_code =
    code_by
    (Tree × (List Tree × Option ℕ))
    (coded× tree_code (coded× tree_list_code (coded_option coded_ℕ)))
    (λ s. (s.result_type, (s.arguments, s.fixed)))
    (λ p. record { result_type = p.0; arguments = p.1.0; fixed = p.1.1 })
    (λ _. refl)

abbrev pub signature_list_code : Coded (List Signature)
signature_list_code = coded_list signature_code

-- signature i of a list
abbrev pub signature_at : List Signature → ℕ → Signature
signature_at ss i =
    slice_index_or ss i (record { result_type = void; arguments = []; fixed = None })

-- which type of a signature
pub data Position : Type 0 where
  at_result : Position
  at_argument : ℕ → Position

pub data SignatureFault : Type 0 where
  too_many : ℕ → SignatureFault
  bad_type : Position → List ℕ → Fault → SignatureFault
  bad_fixed : ℕ → ℕ → SignatureFault
  bad_argument_type : ℕ → SignatureFault

-- C promotes these where they are variadic arguments
abbrev pub is_promoted_scalar : Scalar → Bool
is_promoted_scalar u8 = true
is_promoted_scalar s8 = true
is_promoted_scalar u16 = true
is_promoted_scalar s16 = true
is_promoted_scalar u32 = false
is_promoted_scalar s32 = false
is_promoted_scalar u64 = false
is_promoted_scalar s64 = false
is_promoted_scalar u128 = false
is_promoted_scalar s128 = false
is_promoted_scalar float = true
is_promoted_scalar double = false
is_promoted_scalar pointer = false
is_promoted_scalar x87 = false
is_promoted_scalar binary128 = false

abbrev pub is_promoted : Tree → Bool
is_promoted void = false
is_promoted (scalar s) = is_promoted_scalar s
is_promoted (left_out k) = false
is_promoted (structure ts) = false
is_promoted (array ts n) = false

-- what a signature is looked at for: calls on the machine, of which a long double of 16 bytes is no part, or places alone
pub data Purpose : Type 0 where
  for_calls : Purpose
  for_places : Purpose

abbrev pub is_for_calls : Purpose → Bool
is_for_calls for_calls = true
is_for_calls for_places = false

abbrev pub result_role : Purpose → Role
result_role for_calls = AsResult
result_role for_places = PlacedResult

abbrev pub argument_role : Purpose → Role
argument_role for_calls = AsArgument
argument_role for_places = PlacedArgument

-- the first fault of the type of a result or an argument: its own, or that it has a long double where there is none
pub data IsFoundFault (purpose : Purpose) (role : Role) (t : Tree) : List ℕ → Fault → Type 0 where
  of_type : {path : List ℕ} {fault : Fault} → IsFirstFault 0 role t path fault → IsFoundFault purpose role t path fault
  of_long_double : is_for_calls purpose ≡ true → HasNoFault 0 role t → has_long_double t ≡ true
      → IsFoundFault purpose role t [] (left_out_type (left_out long_double))

pub data IsFaultFor (purpose : Purpose) (s : Signature) : SignatureFault → Type 0 where
  over_most : MOST_ARGUMENTS < length s.arguments → IsFaultFor purpose s (too_many (length s.arguments))
  in_result : {path : List ℕ} {fault : Fault} → IsFoundFault purpose (result_role purpose) s.result_type path fault
      → IsFaultFor purpose s (bad_type at_result path fault)
  in_argument : {i : ℕ} {path : List ℕ} {fault : Fault}
      → i < length s.arguments → IsFoundFault purpose (argument_role purpose) (tree_at s.arguments i) path fault
      → IsFaultFor purpose s (bad_type (at_argument i) path fault)
  fixed_outside : {n : ℕ} → s.fixed ≡ Some n → (n ≡ 0) ⊎ (length s.arguments < n)
      → IsFaultFor purpose s (bad_fixed n (length s.arguments))
  promoted : {n i : ℕ} → s.fixed ≡ Some n → n ≤ i → i < length s.arguments → is_promoted (tree_at s.arguments i) ≡ true
      → IsFaultFor purpose s (bad_argument_type i)

abbrev pub IsSignatureFault : Signature → SignatureFault → Type 0
IsSignatureFault s f = IsFaultFor for_calls s f

-- the order of the faults: by kind, and then by the number of the argument
abbrev pub kind_rank : SignatureFault → ℕ
kind_rank (too_many n) = 0
kind_rank (bad_type at_result path fault) = 1
kind_rank (bad_type (at_argument i) path fault) = 2
kind_rank (bad_fixed n count) = 3
kind_rank (bad_argument_type i) = 4

abbrev pub argument_number : SignatureFault → ℕ
argument_number (too_many n) = 0
argument_number (bad_type at_result path fault) = 0
argument_number (bad_type (at_argument i) path fault) = i
argument_number (bad_fixed n count) = 0
argument_number (bad_argument_type i) = i

abbrev pub SignatureFaultBefore : SignatureFault → SignatureFault → Type 0
SignatureFaultBefore f g =
    (kind_rank f < kind_rank g) ⊎ ((kind_rank f ≡ kind_rank g) × (argument_number f < argument_number g))

abbrev pub HasNoFaultFor : Purpose → Signature → Type 0
HasNoFaultFor purpose s = (f : SignatureFault) → ¬ IsFaultFor purpose s f

pub record IsFirstFaultFor (purpose : Purpose) (s : Signature) (f : SignatureFault) : Type 0 where
  pub is_there : IsFaultFor purpose s f
  pub none_before : (g : SignatureFault) → IsFaultFor purpose s g → ¬ SignatureFaultBefore g f

abbrev pub SignatureHasNoFault : Signature → Type 0
SignatureHasNoFault s = HasNoFaultFor for_calls s

abbrev pub IsFirstSignatureFault : Signature → SignatureFault → Type 0
IsFirstSignatureFault s f = IsFirstFaultFor for_calls s f

-- A SIGNATURE THAT IS PLACED: it has no fault but that long doubles are in it
abbrev pub SignatureIsPlaced : Signature → Type 0
SignatureIsPlaced s = HasNoFaultFor for_places s

-- no long double of 16 bytes stands in it, as in all that is passed on the machine
pub record HasNoLongDouble (s : Signature) : Type 0 where
  pub result_type : has_long_double s.result_type ≡ false
  pub arguments : (i : ℕ) → i < length s.arguments → has_long_double (tree_at s.arguments i) ≡ false
