-- What C is told of the arguments that registers and stack have where a function begins. What declares it declares a signature, or has a fault.
use Rattle.std.specs.Prelude.{◌≡◌, ℕ, ◌-◌, ◌<◌, ◌≤◌, List, [], ◌∷◌, ◌++◌, length, replicate, Some, slice_get}
use Rattle.ffi3_type_spec.specs.declared.Target.{Target}
use Rattle.ffi3_type_spec.specs.Tree.{Tree}
use Rattle.ffi3_type_spec.specs.Layout.{size_of}
use Rattle.ffi3_type_spec.specs.Signature.{Signature}
use Rattle.ffi3_type_spec.specs.Value.{ValueTree, IsWritten}
use Rattle.ffi3_place_spec.specs.Image.{Image}
use Rattle.ffi3_place_spec.specs.Standard.{Standard, round8}
use Rattle.ffi3_explain_spec.specs.Arguments.{are_values, points_outside, held_by_standard, least_stack}
use Rattle.ffi3_capi.specs.declared.codes.TheConstants.{SHORT_STACK, NOT_IN_STACK}
use Rattle.ffi3_capi.specs.declared.entry.EntryArguments.{EntryArguments}
use Rattle.ffi3_capi.specs.declared.entry.Found.{Found}
use Rattle.ffi3_capi.specs.declared.entry.Unread.{Unread}
use Rattle.ffi3_capi.specs.declared.entry.Unread.TheVariants.{Call, ShortStack, NotInStack}
use Rattle.ffi3_capi.specs.declared.fault.TextFault.{TextFault}
use Rattle.ffi3_capi.specs.declared.fault.FaultKind.TheVariants.{NoFault}
use Rattle.ffi3_capi.specs.declared.status.Refusal.TheVariants.{NoSuchTarget, NoSuchValue, Fault, NoMemory}
use Rattle.ffi3_capi.specs.Faults.{fault_with}
use Rattle.ffi3_capi.specs.Filled.{has_room, filled, room_status}
use Rattle.ffi3_explain_spec.specs.Standards.{standard_of}
use Rattle.ffi3_capi.specs.Placed.{targets, IsPlaceRefusal}
use Rattle.ffi3_capi.specs.Refused.{status_of, fault_in}

-- zeros behind so many bytes, up to a multiple of 8
abbrev pub filler : ℕ → List ℕ
filler n = replicate (round8 n - n) 0

-- the bytes of a value, whose padding is 0, and zeros up to a multiple of 8, stand behind the old
pub record HasOneMore (t : Tree) (v : ValueTree) (old new : List ℕ) : Type 0 where
  pub bytes : List ℕ
  pub sized : length bytes ≡ size_of t
  pub written : IsWritten t v (replicate (size_of t) 0) bytes
  pub is : new ≡ old ++ (bytes ++ filler (size_of t))

-- THE BYTES OF VALUES, one value after another, each begun at a multiple of 8
pub data AreBytesOf : List Tree → List ValueTree → List ℕ → Type 0 where
  none : AreBytesOf [] [] []
  first_and : (t : Tree) (v : ValueTree) (ts : List Tree) (vs : List ValueTree) (first rest : List ℕ)
      → HasOneMore t v [] first → AreBytesOf ts vs rest
      → AreBytesOf (t ∷ ts) (v ∷ vs) (first ++ rest)

-- of so many arguments, whose values have so many bytes, and whose places reach so far in the stack
abbrev pub arguments_of : ℕ → ℕ → ℕ → TextFault → EntryArguments
arguments_of count size stack fault = record {
  arguments = count;
  size = size;
  stack = stack;
  address = 0;
  argument = 0;
  reserved = 0;
  fault = fault;
}

-- the image has these values by the standard alone, and these are their bytes
pub record AreFoundBy (std : Standard) (s : Signature) (m : Image) (f : Found) : Type 0 where
  pub long : least_stack std s ≤ length m.stack
  pub values : List ValueTree
  pub held : held_by_standard std s m ≡ are_values values
  pub bytes : AreBytesOf s.arguments values f.bytes
  pub told : f.told ≡ arguments_of (length s.arguments) (length f.bytes) (least_stack std s) (fault_with NoFault)

-- or the stack has too few bytes, or an address points past them. Memory alone is free.
pub record IsTooShort (std : Standard) (s : Signature) (m : Image) (count stack : ℕ) : Type 0 where
  pub counted : count ≡ length s.arguments
  pub reach : stack ≡ least_stack std s
  pub short : length m.stack < stack

pub record PointsPast (std : Standard) (s : Signature) (m : Image) (count stack argument address : ℕ) : Type 0 where
  pub counted : count ≡ length s.arguments
  pub reach : stack ≡ least_stack std s
  pub long : stack ≤ length m.stack
  pub outside : held_by_standard std s m ≡ points_outside (record { argument = argument; address = address })

abbrev pub AreNotReadBy : Standard → Signature → Image → Unread → Type 0
AreNotReadBy std s m (Call NoMemory) = Unit {0}
AreNotReadBy std s m (Call NoSuchTarget) = ⊥
AreNotReadBy std s m (Call (NoSuchValue count)) = ⊥
AreNotReadBy std s m (Call (Fault f)) = ⊥
AreNotReadBy std s m (ShortStack count stack) = IsTooShort std s m count stack
AreNotReadBy std s m (NotInStack count stack argument address) = PointsPast std s m count stack argument address

-- the function that is declared, and the standard with this number
pub record IsCall (declares : Signature → Type 0) (target : ℕ) (to : Target) (s : Signature) : Type 0 where
  pub to_is : slice_get targets target ≡ Some to
  pub declared : declares s

-- THE ARGUMENTS, by the standard with this number, of the function that is declared
pub record AreFound (declares : Signature → Type 0) (target : ℕ) (m : Image) (f : Found) : Type 0 where
  pub to : Target
  pub signature : Signature
  pub call : IsCall declares target to signature
  pub found : AreFoundBy (standard_of to) signature m f

-- OR WHY THERE ARE NONE
pub record AreNotThere (declares : Signature → Type 0) (target : ℕ) (m : Image) (u : Unread) : Type 0 where
  pub to : Target
  pub signature : Signature
  pub call : IsCall declares target to signature
  pub unread : AreNotReadBy (standard_of to) signature m u

abbrev pub AreNotRead : (Signature → Type 0) → (TextFault → Type 0) → ℕ → Image → Unread → Type 0
AreNotRead declares is_fault target m (Call r) = IsPlaceRefusal is_fault target r
AreNotRead declares is_fault target m (ShortStack count stack) =
    AreNotThere declares target m (ShortStack count stack)
AreNotRead declares is_fault target m (NotInStack count stack argument address) =
    AreNotThere declares target m (NotInStack count stack argument address)

abbrev pub unread_status : Unread → ℕ
unread_status (Call r) = status_of r
unread_status (ShortStack count stack) = SHORT_STACK
unread_status (NotInStack count stack argument address) = NOT_IN_STACK

-- what is told where there are no values
abbrev pub no_arguments : Unread → EntryArguments
no_arguments (Call r) = arguments_of 0 0 0 (fault_in r)
no_arguments (ShortStack count stack) = arguments_of count 0 stack (fault_with NoFault)
no_arguments (NotInStack count stack argument address) = record {
  arguments = count;
  size = 0;
  stack = stack;
  address = address;
  argument = argument;
  reserved = 0;
  fault = fault_with NoFault;
}

-- WHAT ffi3_arguments ANSWERS, and what it writes into the caller's struct and array
pub data Reads (declares : Signature → Type 0) (is_fault : TextFault → Type 0) (target : ℕ) (m : Image) (old : List ℕ)
    : ℕ → EntryArguments → List ℕ → Type 0 where
  read : (f : Found) → AreFound declares target m f
      → Reads declares is_fault target m old (room_status (has_room f.bytes old)) f.told (filled f.bytes old)
  unread : (u : Unread) → AreNotRead declares is_fault target m u
      → Reads declares is_fault target m old (unread_status u) (no_arguments u) old
