-- What C is answered where values go by an interface between memory and the registers and stack of a call, and what is written. Where values are refused, nothing is.
use Rattle.std.specs.Prelude.{◌≡◌, ℕ, List, Option, Some, None}
use Rattle.ffi3_place_spec.specs.Image.{Image}
use Rattle.ffi3_transfer.specs.declared.Unstored.{Unstored}
use Rattle.ffi3_transfer.specs.declared.Unstored.TheVariants as not_stored
use Rattle.ffi3_transfer.specs.declared.Uncollected.{Uncollected}
use Rattle.ffi3_transfer.specs.declared.Uncollected.TheVariants as not_collected
use Rattle.ffi3_transfer.specs.declared.Ungiven.{Ungiven}
use Rattle.ffi3_transfer.specs.declared.Ungiven.TheVariants as not_given
use Rattle.ffi3_transfer.specs.Calls.{IsCallStored, IsNotStored, IsLoaded, IsNotLoaded, IsGiven, IsNotGiven}
use Rattle.ffi3_transfer.specs.Collected.{IsCollected, IsNotCollected}
use Rattle.ffi3_prepared.specs.Prepared.{signature_in, standard_in}
use Rattle.ffi3_handle.specs.declared.kept.Kept.{Kept}
use Rattle.ffi3_capi.specs.declared.codes.TheConstants.{DONE, SHORT_STACK, NOT_IN_STACK, WRONG_SIZE, HIGH_STACK}
use Rattle.ffi3_capi.specs.declared.codes.TheConstants.{NOT_PREPARED, HIDDEN_PART}
use Rattle.ffi3_interface.specs.declared.transfers.Reason.{Reason}
use Rattle.ffi3_interface.specs.Keeping.{interface_in}

abbrev pub unstored_status : Unstored → ℕ
unstored_status (not_stored.WrongSize wanted) = WRONG_SIZE
unstored_status (not_stored.ShortStack wanted) = SHORT_STACK
unstored_status not_stored.HighStack = HIGH_STACK

abbrev pub uncollected_status : Uncollected → ℕ
uncollected_status (not_collected.WrongSize wanted) = WRONG_SIZE
uncollected_status (not_collected.ShortStack wanted) = SHORT_STACK
uncollected_status (not_collected.NotInStack argument address) = NOT_IN_STACK

abbrev pub ungiven_status : Ungiven → ℕ
ungiven_status (not_given.WrongSize wanted) = WRONG_SIZE
ungiven_status (not_given.ShortStack wanted) = SHORT_STACK
ungiven_status not_given.HighStack = HIGH_STACK
ungiven_status (not_given.NotInStack address) = NOT_IN_STACK

-- what is told beside the number: how many bytes are wanted, or an address and whose it is
abbrev pub no_reason : Reason
no_reason = record { wanted = 0; address = 0; argument = 0; reserved = 0 }

abbrev pub wants : ℕ → Reason
wants n = record { wanted = n; address = 0; argument = 0; reserved = 0 }

abbrev pub points : ℕ → ℕ → Reason
points i to = record { wanted = 0; address = to; argument = i; reserved = 0 }

abbrev pub uncollected_reason : Uncollected → Reason
uncollected_reason (not_collected.WrongSize wanted) = wants wanted
uncollected_reason (not_collected.ShortStack wanted) = wants wanted
uncollected_reason (not_collected.NotInStack argument address) = points argument address

abbrev pub ungiven_reason : Ungiven → Reason
ungiven_reason (not_given.WrongSize wanted) = wants wanted
ungiven_reason (not_given.ShortStack wanted) = wants wanted
ungiven_reason not_given.HighStack = no_reason
ungiven_reason (not_given.NotInStack address) = points HIDDEN_PART address

-- WHAT ffi3_store ANSWERS, and the image that registers and stack are then
pub data Stores (it : Option Kept) (values : List ℕ) (old : Image) : ℕ → Image → Type 0 where
  stored : (k : Kept) (new : Image) → it ≡ Some k
      → IsCallStored (standard_in (interface_in k)) (signature_in (interface_in k)) values old new
      → Stores it values old DONE new
  unstored : (k : Kept) (f : Unstored) → it ≡ Some k
      → IsNotStored (standard_in (interface_in k)) (signature_in (interface_in k)) values old f
      → Stores it values old (unstored_status f) old
  stores_nothing : it ≡ None → Stores it values old NOT_PREPARED old

-- WHAT ffi3_load ANSWERS, and the bytes of the result then
pub data Loads (it : Option Kept) (m : Image) (old : List ℕ) : ℕ → List ℕ → Type 0 where
  loaded : (k : Kept) (new : List ℕ) → it ≡ Some k
      → IsLoaded (standard_in (interface_in k)) (signature_in (interface_in k)) m new → Loads it m old DONE new
  unloaded : (k : Kept) (f : Unstored) → it ≡ Some k
      → IsNotLoaded (standard_in (interface_in k)) (signature_in (interface_in k)) m old f
      → Loads it m old (unstored_status f) old
  loads_nothing : it ≡ None → Loads it m old NOT_PREPARED old

-- WHAT ffi3_collect ANSWERS, what it tells beside it, and the bytes of the values then
pub data Collects (it : Option Kept) (m : Image) (old : List ℕ) : ℕ → Reason → List ℕ → Type 0 where
  collected : (k : Kept) (new : List ℕ) → it ≡ Some k
      → IsCollected (standard_in (interface_in k)) (signature_in (interface_in k)) m new
      → Collects it m old DONE no_reason new
  uncollected : (k : Kept) (f : Uncollected) → it ≡ Some k
      → IsNotCollected (standard_in (interface_in k)) (signature_in (interface_in k)) m old f
      → Collects it m old (uncollected_status f) (uncollected_reason f) old
  collects_nothing : it ≡ None → Collects it m old NOT_PREPARED no_reason old

-- WHAT ffi3_give ANSWERS, what it tells beside it, and the image that registers and stack are then
pub data Gives (it : Option Kept) (value : List ℕ) (old : Image) : ℕ → Reason → Image → Type 0 where
  given : (k : Kept) (new : Image) → it ≡ Some k
      → IsGiven (standard_in (interface_in k)) (signature_in (interface_in k)) value old new
      → Gives it value old DONE no_reason new
  ungiven : (k : Kept) (f : Ungiven) → it ≡ Some k
      → IsNotGiven (standard_in (interface_in k)) (signature_in (interface_in k)) value old f
      → Gives it value old (ungiven_status f) (ungiven_reason f) old
  gives_nothing : it ≡ None → Gives it value old NOT_PREPARED no_reason old
