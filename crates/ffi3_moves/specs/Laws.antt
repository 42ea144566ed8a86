-- What it means that moves are played.
use Rattle.std.specs.Prelude.{◌≡◌, ℕ, ◌+◌, ◌-◌, ◌/◌, ◌<◌, ◌≤◌, ⊤, List, [], get_or, length, Option, Some, None}
use Rattle.std.specs.Int.{w64, to_le_bytes}
use Rattle.ffi3_type_spec.specs.Tree.{Tree}
use Rattle.ffi3_type_spec.specs.Layout.{size_of}
use Rattle.ffi3_type_spec.specs.Signature.{Signature, HasNoLongDouble}
use Rattle.ffi3_type_spec.specs.Value.{part, value_in}
use Rattle.ffi3_place_spec.specs.declared.Loc.{Loc}
use Rattle.ffi3_place_spec.specs.declared.Loc.TheVariants.{F}
use Rattle.ffi3_place_spec.specs.declared.Res.{Res}
use Rattle.ffi3_place_spec.specs.declared.Res.TheVariants.{Nothing, Direct as DirectRes, Hidden}
use Rattle.ffi3_place_spec.specs.Image.{Image, word_at}
use Rattle.ffi3_place_spec.specs.MachineRegisters.{to_list}
use Rattle.ffi3_place_spec.specs.Locs.{piece_locs}
use Rattle.ffi3_place_spec.specs.Standard.{Standard, plan_of}
use Rattle.ffi3_place_spec.specs.Sound.{IsNoneOf}
use Rattle.ffi3_place_spec.specs.Holds.{FillArguments, HoldsResult, OwnsArguments, RegisterHolds}
use Rattle.ffi3_transfer.specs.Calls.{IsCallStored, ResultKeeps, stored_locs}
use Rattle.ffi3_marshal.specs.Standing.{PlacesKeep}
use Rattle.ffi3_marshal.specs.Stored.{Stays}
use Rattle.ffi3_transfer.specs.Packed.{values_packed}
use Rattle.ffi3_moves.specs.Play.{addresses_at, frame_at, written_over}
use Rattle.ffi3_moves.specs.Moves.{exchange_at}
use Rattle.ffi3_moves.specs.Exchange.{AreBytes, image_at}

-- The exchange stays as long as it is, and so do the words of the stubs in it. Where these are, words of the floating file have their numbers too: upper halves of AArch64's v0 to v7. Those that are among the places of a call are written.
pub record KeepsStubs (s : Signature) (locs : List Loc) (old new : List ℕ) : Type 0 where
  pub size : length new ≡ length old
  pub are : AreBytes new
  pub stubs : HasNoLongDouble s → (k : ℕ) → addresses_at ≤ k → k < frame_at → get_or new k 0 ≡ get_or old k 0
  -- whatever the signature
  pub others :
      (k : ℕ) → addresses_at ≤ k → k < frame_at → IsNoneOf locs (F ((k - 256) / 8)) → get_or new k 0 ≡ get_or old k 0

-- THE CALLER'S ARGUMENTS ARE PLAYED: the image of the exchange, which is that of the callee's entry, holds the values, and all else stays
pub record ArePassed (std : Standard) (s : Signature) (values : List ℕ) (sp : ℕ) (link old new : List ℕ) : Type 0 where
  pub stored : IsCallStored std s values (image_at sp link old) (image_at sp link new)
  pub keeps : KeepsStubs s (stored_locs std s) old new

-- an address is written to the place of that of a hidden result
abbrev pub with_address : ℕ → Res → List ℕ → List ℕ
with_address address Nothing x = x
with_address address (DirectRes pieces) x = x
with_address address (Hidden at buffer) x = written_over (exchange_at at) (to_le_bytes w64 address) x

abbrev pub HasAddress : ℕ → Image → ℕ → Res → Type 0
HasAddress base m address Nothing = ⊤
HasAddress base m address (DirectRes pieces) = ⊤
HasAddress base m address (Hidden at buffer) = word_at m base at ≡ address

-- THE SAME WITH A BUFFER OF THE CALLER'S OWN, at this address: the arguments are held as before, and its address is passed
pub record ArePassedWith (std : Standard) (s : Signature) (values : List ℕ) (sp : ℕ) (link : List ℕ) (address : ℕ) (old new : List ℕ) : Type 0 where
  pub arguments : OwnsArguments (image_at sp link new) std.link s.arguments (plan_of std s).places (values_packed s.arguments values)
  pub filled : FillArguments (image_at sp link new) std.link s.arguments (plan_of std s).places (values_packed s.arguments values)
  pub vectors : RegisterHolds (image_at sp link new) std.vector_count (plan_of std s).vectors
  pub hidden : HasAddress std.link (image_at sp link new) address (plan_of std s).res
  pub kept : PlacesKeep std.link (image_at sp link old) (image_at sp link new) s.arguments (plan_of std s).places
  pub stays : Stays std.link (stored_locs std s) (image_at sp link old) (image_at sp link new)
  pub keeps : KeepsStubs s (stored_locs std s) old new

-- ---- results; the frame's start is sp

-- the address of the buffer that the frame has for a hidden result
abbrev pub address_of : ℕ → Res → ℕ
address_of frame Nothing = 0
address_of frame (DirectRes pieces) = 0
address_of frame (Hidden at buffer) = frame + buffer

-- the callee wrote a hidden result to where its address points: to the buffer in the frame
abbrev pub IsInBuffer : Tree → Res → List ℕ → List ℕ → Type 0
IsInBuffer t Nothing bytes x = ⊤
IsInBuffer t (DirectRes pieces) bytes x = ⊤
IsInBuffer t (Hidden at buffer) bytes x = part x (frame_at + buffer) (size_of t) ≡ bytes

-- an address is written where a callee gives it back
abbrev pub with_returned : ℕ → Option ℕ → List ℕ → List ℕ
with_returned address None x = x
with_returned address (Some at) x = written_over at (to_le_bytes w64 address) x

-- the registers that a result, or the address of its buffer, is given in
abbrev pub returned_locs : Res → Option Loc → List Loc
returned_locs Nothing l = []
returned_locs (DirectRes pieces) l = piece_locs pieces
returned_locs (Hidden at buffer) l = to_list l

-- THE CALLEE'S RESULT IS PLAYED: the image of the exchange, which is that of the return, holds the value, and all else stays
pub record IsReturned (std : Standard) (s : Signature) (bytes : List ℕ) (sp : ℕ) (old new : List ℕ) : Type 0 where
  pub holds : HoldsResult std s (value_in s.result_type bytes) (image_at sp [] new)
  pub kept : ResultKeeps (image_at sp [] old) (image_at sp [] new) (plan_of std s).res
  pub stays : Stays 0 (returned_locs (plan_of std s).res std.returned_address) (image_at sp [] old) (image_at sp [] new)
  pub keeps : KeepsStubs s (returned_locs (plan_of std s).res std.returned_address) old new
