-- What C is told of each of the arguments that registers and stack have where a function begins. What declares it declares a signature, or has a fault.
use Rattle.std.specs.Prelude.{◌≡◌, ℕ, suc, ◌≤◌, ◌&&◌, List, [], ◌∷◌, ◌++◌, length, replicate, Option, Some, None}
use Rattle.ffi3_type_spec.specs.declared.Target.{Target}
use Rattle.ffi3_type_spec.specs.Tree.{Tree}
use Rattle.ffi3_type_spec.specs.Layout.{size_of}
use Rattle.ffi3_type_spec.specs.Signature.{Signature}
use Rattle.ffi3_place_spec.specs.declared.Place.{Place}
use Rattle.ffi3_place_spec.specs.Image.{Image}
use Rattle.ffi3_place_spec.specs.Standard.{Standard, plan_of, round8}
use Rattle.ffi3_explain_spec.specs.declared.Outside.{Outside}
use Rattle.ffi3_explain_spec.specs.Arguments.{least_stack, outside_of, value_by_standard}
use Rattle.ffi3_explain_spec.specs.Standards.{standard_of}
use Rattle.ffi3_capi.specs.declared.codes.TheConstants.{DONE, NOT_IN_STACK}
use Rattle.ffi3_capi.specs.declared.each.EachArgument.{EachArgument}
use Rattle.ffi3_capi.specs.declared.each.Seen.{Seen}
use Rattle.ffi3_capi.specs.declared.entry.EntryArguments.{EntryArguments}
use Rattle.ffi3_capi.specs.declared.entry.Unread.{Unread}
use Rattle.ffi3_capi.specs.declared.entry.Unread.TheVariants.{Call, ShortStack, NotInStack}
use Rattle.ffi3_capi.specs.declared.fault.TextFault.{TextFault}
use Rattle.ffi3_capi.specs.declared.fault.FaultKind.TheVariants.{NoFault}
use Rattle.ffi3_capi.specs.declared.status.Refusal.TheVariants.{NoSuchTarget, NoSuchValue, Fault, NoMemory}
use Rattle.ffi3_capi.specs.Entry.{HasOneMore, IsCall, IsTooShort, arguments_of, no_arguments, unread_status}
use Rattle.ffi3_capi.specs.Faults.{fault_with}
use Rattle.ffi3_capi.specs.Filled.{has_room, filled, room_status}
use Rattle.ffi3_capi.specs.Placed.{IsPlaceRefusal}

-- what is told of an argument of so many bytes, which begin there; by whether its address points outside
abbrev pub each_argument : ℕ → ℕ → Option Outside → EachArgument
each_argument size offset None =
    record { status = DONE; reserved = 0; offset = offset; size = size; address = 0 }
each_argument size offset (Some o) =
    record { status = NOT_IN_STACK; reserved = 0; offset = offset; size = size; address = o.address }

-- behind the old stand the bytes of the value that the argument has by the standard alone; or zeros, where its address points outside
abbrev pub HasArgument : Image → ℕ → Tree → Place → Option Outside → List ℕ → List ℕ → Type 0
HasArgument m base t p None old new =
    HasOneMore t (value_by_standard m base t p) old new
HasArgument m base t p (Some o) old new = new ≡ old ++ replicate (round8 (size_of t)) 0

-- argument i
pub record IsSeen (m : Image) (base i : ℕ) (t : Tree) (p : Place) (old new : List ℕ) (one : EachArgument) : Type 0 where
  pub told : one ≡ each_argument (size_of t) (length old) (outside_of m base i t p)
  pub bytes : HasArgument m base t p (outside_of m base i t p) old new

-- EACH ARGUMENT from number i on, one behind another
abbrev pub AreSeen : Image → ℕ → ℕ → List Tree → List Place → (old new : List ℕ) → List EachArgument → Type 0
AreSeen m base i [] [] old new [] = new ≡ old
AreSeen m base i (t ∷ ts) (p ∷ ps) old new (one ∷ each) =
    (next : List ℕ) × (IsSeen m base i t p old next one × AreSeen m base (suc i) ts ps next new each)
AreSeen m base i _ _ old new _ = ⊥

-- by the standard alone, whoever called
pub record AreSeenBy (std : Standard) (s : Signature) (m : Image) (f : Seen) : Type 0 where
  pub long : least_stack std s ≤ length m.stack
  pub seen : AreSeen m std.link 0 s.arguments (plan_of std s).places [] f.bytes f.each
  pub told : f.told ≡ arguments_of (length s.arguments) (length f.bytes) (least_stack std s) (fault_with NoFault)

-- or the stack has too few bytes. Memory alone is free.
abbrev pub AreUnseenBy : Standard → Signature → Image → Unread → Type 0
AreUnseenBy std s m (Call NoMemory) = Unit {0}
AreUnseenBy std s m (Call NoSuchTarget) = ⊥
AreUnseenBy std s m (Call (NoSuchValue count)) = ⊥
AreUnseenBy std s m (Call (Fault f)) = ⊥
AreUnseenBy std s m (ShortStack count stack) = IsTooShort std s m count stack
AreUnseenBy std s m (NotInStack count stack argument address) = ⊥

-- EACH ARGUMENT, by the standard with this number, of the function that is declared
pub record AreSeenOf (declares : Signature → Type 0) (target : ℕ) (m : Image) (f : Seen) : Type 0 where
  pub to : Target
  pub signature : Signature
  pub call : IsCall declares target to signature
  pub seen : AreSeenBy (standard_of to) signature m f

-- OR WHY THERE IS NONE
pub record AreUnseenOf (declares : Signature → Type 0) (target : ℕ) (m : Image) (count stack : ℕ) : Type 0 where
  pub to : Target
  pub signature : Signature
  pub call : IsCall declares target to signature
  pub unseen : IsTooShort (standard_of to) signature m count stack

abbrev pub AreUnseen : (Signature → Type 0) → (TextFault → Type 0) → ℕ → Image → Unread → Type 0
AreUnseen declares is_fault target m (Call r) = IsPlaceRefusal is_fault target r
AreUnseen declares is_fault target m (ShortStack count stack) =
    AreUnseenOf declares target m count stack
AreUnseen declares is_fault target m (NotInStack count stack argument address) = ⊥

-- WHAT ffi3_arguments_each ANSWERS, and what it writes into the caller's struct and arrays: each of these that has room is filled
pub data ReadsEach (declares : Signature → Type 0) (is_fault : TextFault → Type 0) (target : ℕ) (m : Image) (old : List EachArgument) (values : List ℕ)
    : ℕ → EntryArguments → List EachArgument → List ℕ → Type 0 where
  seen : (f : Seen) → AreSeenOf declares target m f
      → ReadsEach declares is_fault target m old values (room_status (has_room f.each old && has_room f.bytes values)) f.told (filled f.each old) (filled f.bytes values)
  unseen : (u : Unread) → AreUnseen declares is_fault target m u
      → ReadsEach declares is_fault target m old values (unread_status u) (no_arguments u) old values
