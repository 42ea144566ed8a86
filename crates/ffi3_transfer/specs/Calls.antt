-- What the transfers of a call leave, and why one is refused.
use Rattle.std.specs.Prelude.{◌≡◌, ◌≢◌, ℕ, ◌+◌, ◌-◌, ◌^◌, ◌<◌, ◌≤◌, ◌⊎◌, ⊤, true, false, List, [], ◌++◌, drop, get_or, length}
use Rattle.std.specs.List.{AllByRecursion}
use Rattle.ffi3_type_spec.specs.Tree.{Tree}
use Rattle.ffi3_type_spec.specs.Layout.{size_of}
use Rattle.ffi3_type_spec.specs.Signature.{Signature}
use Rattle.ffi3_type_spec.specs.Value.{ValueTree, part, value_in}
use Rattle.ffi3_place_spec.specs.declared.Loc.{Loc}
use Rattle.ffi3_place_spec.specs.declared.Res.{Res}
use Rattle.ffi3_place_spec.specs.declared.Res.TheVariants.{Nothing, Direct as DirectRes, Hidden}
use Rattle.ffi3_place_spec.specs.MachineRegisters.{to_list}
use Rattle.ffi3_place_spec.specs.Image.{Image, word_at}
use Rattle.ffi3_place_spec.specs.Standard.{Standard, frame_of, plan_of}
use Rattle.ffi3_place_spec.specs.Holds.{Holds, HoldsResult, Kept, OwnResult, OwnsHidden, OwnsResult, FillsResult, RegisterHolds}
use Rattle.ffi3_place_spec.specs.Sound.{IsNoneOf, hidden_locs, result_locs}
use Rattle.ffi3_marshal.specs.Stored.{KeepsAbove, SameAt, Stays}
use Rattle.ffi3_marshal.specs.Standing.{PlacesKeep, all_uses}
use Rattle.ffi3_explain_spec.specs.Explain.{first_bytes}
use Rattle.ffi3_explain_spec.specs.Arguments.{is_in_image, stack_end}
use Rattle.ffi3_transfer.specs.declared.Ungiven.{Ungiven}
use Rattle.ffi3_transfer.specs.declared.Ungiven.TheVariants.{WrongSize as WrongValue, ShortStack as ShortEntry, HighStack as HighEntry, NotInStack}
use Rattle.ffi3_transfer.specs.declared.Unstored.{Unstored}
use Rattle.ffi3_transfer.specs.declared.Unstored.TheVariants.{WrongSize, ShortStack, HighStack}
use Rattle.ffi3_transfer.specs.Packed.{packed_size, values_packed}
use Rattle.ffi3_transfer.specs.Places.{IsPlace}

-- the bytes from sp on that an entry takes: return address and frame
abbrev pub entry_bytes : Standard → Signature → ℕ
entry_bytes std s = std.link + frame_of std s

-- all that a call's values are stored to
abbrev pub stored_locs : Standard → Signature → List Loc
stored_locs std s =
    to_list std.vector_count ++ (hidden_locs (plan_of std s).res ++ all_uses s.arguments (plan_of std s).places)

-- THE CALLER HAS STORED ITS VALUES: the image, which is that of the callee's entry, holds them. All else stays: other registers, the return address, other bytes of the stack, and of the places what nothing fills.
pub record IsCallStored (std : Standard) (s : Signature) (bytes : List ℕ) (old new : Image) : Type 0 where
  pub holds : Holds std s (values_packed s.arguments bytes) new
  pub stays : Stays std.link (stored_locs std s) old new
  pub kept : PlacesKeep std.link old new s.arguments (plan_of std s).places
  -- nor was a refusal due: that the stack is long enough is in `holds`
  pub sized : length bytes ≡ packed_size s.arguments
  pub low : old.sp + length old.stack < 2 ^ 64

-- OR WHY NOT: the first of these that is so
abbrev pub IsNotStored : Standard → Signature → List ℕ → Image → Unstored → Type 0
IsNotStored std s bytes m (WrongSize wanted) = (wanted ≡ packed_size s.arguments) × (length bytes ≢ wanted)
IsNotStored std s bytes m (ShortStack wanted) =
    (length bytes ≡ packed_size s.arguments) × (wanted ≡ entry_bytes std s) × (length m.stack < wanted)
IsNotStored std s bytes m HighStack =
    (length bytes ≡ packed_size s.arguments) × (entry_bytes std s ≤ length m.stack) × (2 ^ 64 ≤ m.sp + length m.stack)

-- ---- the caller's, at the return: what was the frame's start at the call is sp

-- the bytes of the result: those of its pieces, where the first piece with a byte tells it, and 0 where none has it; or those of the buffer in the frame
abbrev pub result_bytes : Image → Tree → Res → List ℕ
result_bytes m t Nothing = []
result_bytes m t (DirectRes pieces) = first_bytes m 0 pieces 0 (size_of t)
result_bytes m t (Hidden at buffer) = part m.stack buffer (size_of t)

-- THE CALLER HAS ITS RESULT: the value that the image owns
pub record IsLoaded (std : Standard) (s : Signature) (m : Image) (bytes : List ℕ) : Type 0 where
  pub is : bytes ≡ result_bytes m s.result_type (plan_of std s).res
  pub value : (v : ValueTree) → OwnResult std s v m → value_in s.result_type bytes ≡ v
  -- nor was a refusal due: the frame is there, also where the result is in registers
  pub room : frame_of std s ≤ length m.stack

-- OR WHY NOT: the first of these that is so
abbrev pub IsNotLoaded : Standard → Signature → Image → List ℕ → Unstored → Type 0
IsNotLoaded std s m old (WrongSize wanted) = (wanted ≡ size_of s.result_type) × (length old ≢ wanted)
IsNotLoaded std s m old (ShortStack wanted) =
    (length old ≡ size_of s.result_type) × (wanted ≡ frame_of std s) × (length m.stack < wanted)
IsNotLoaded std s m old HighStack = ⊥

-- ---- the callee's, from the entry to the return

-- the return's image: registers after, and memory from where sp then is
abbrev pub at_return : Standard → Image → Image
at_return std m = record m { sp = m.sp + std.link; stack = drop std.link m.stack }

-- the registers that a result, or the address of its buffer, is given in
abbrev pub given_locs : Standard → Res → List Loc
given_locs std Nothing = []
given_locs std (DirectRes pieces) = result_locs (DirectRes pieces)
given_locs std (Hidden at buffer) = to_list std.returned_address

-- byte i of the stack is none of the result's buffer, which stands where the entry says
abbrev pub IsBeside : Standard → Tree → Res → Image → ℕ → Type 0
IsBeside std t Nothing m i = ⊤
IsBeside std t (DirectRes pieces) m i = ⊤
IsBeside std t (Hidden at buffer) m i =
    (m.sp + i < word_at m std.link at) ⊎ (word_at m std.link at + size_of t ≤ m.sp + i)

-- where nothing fills the rest of a register of the result, that keeps what stood there
abbrev pub ResultKeeps : Image → Image → Res → Type 0
ResultKeeps old new Nothing = ⊤
ResultKeeps old new (DirectRes pieces) = AllByRecursion (KeepsAbove 0 old new) pieces
ResultKeeps old new (Hidden at buffer) = ⊤

-- by the standard alone: in its registers, or wherever the address that was passed points to, be that the return address or the place of the address itself (AAPCS64, "Result return"; psABI AMD64 3.2.3, "Returning of Values"; RISC-V psABI, "Integer Calling Convention"; Microsoft x64, "Return values")
abbrev pub IsGivenBy : Standard → Tree → Res → List ℕ → Image → Image → Type 0
IsGivenBy std t Nothing bytes old new = ⊤
IsGivenBy std t (DirectRes pieces) bytes old new =
    OwnsResult (at_return std new) t (DirectRes pieces) (value_in t bytes)
    × FillsResult std (at_return std new) t (DirectRes pieces) (value_in t bytes)
IsGivenBy std t (Hidden at buffer) bytes old new =
    (is_in_image old (word_at old std.link at) (size_of t) ≡ true)
    × (part new.stack (word_at old std.link at - old.sp) (size_of t) ≡ bytes)
    × RegisterHolds (at_return std new) std.returned_address (word_at old std.link at)

-- the bytes of the stack that tell where the buffer is, and the return address
abbrev pub giving_bytes : Standard → Signature → ℕ
giving_bytes std s = std.link + stack_end (hidden_locs (plan_of std s).res)

-- THE CALLEE HAS GIVEN ITS RESULT. `old` is the entry's image, `new` the same memory after, with sp as before.
pub record IsGiven (std : Standard) (s : Signature) (bytes : List ℕ) (old new : Image) : Type 0 where
  pub given : IsGivenBy std s.result_type (plan_of std s).res bytes old new
  -- so where the address is that of the caller's frame, the return's image holds the result
  pub holds : entry_bytes std s ≤ length old.stack → OwnsHidden old std.link (plan_of std s).res
      → HoldsResult std s (value_in s.result_type bytes) (at_return std new)
  pub sp : new.sp ≡ old.sp
  pub size : length new.stack ≡ length old.stack
  pub registers : (l : Loc) → IsPlace 0 l → IsNoneOf (given_locs std (plan_of std s).res) l → SameAt 0 l old new
  pub kept : ResultKeeps old new (plan_of std s).res
  -- what a callee preserves is as it was
  pub preserved : Kept std old (at_return std new)
  pub beside : (i : ℕ) → IsBeside std s.result_type (plan_of std s).res old i
      → get_or new.stack i 0 ≡ get_or old.stack i 0
  -- nor was a refusal due, also where the result is in registers, or there is none
  pub sized : length bytes ≡ size_of s.result_type
  pub room : giving_bytes std s ≤ length old.stack
  pub low : old.sp + length old.stack < 2 ^ 64

abbrev pub PointsPast : Standard → Tree → Res → Image → ℕ → Type 0
PointsPast std t Nothing m address = ⊥
PointsPast std t (DirectRes pieces) m address = ⊥
PointsPast std t (Hidden at buffer) m address =
    (address ≡ word_at m std.link at) × (is_in_image m address (size_of t) ≡ false)

-- OR WHY NOT: the first of these that is so
abbrev pub IsNotGiven : Standard → Signature → List ℕ → Image → Ungiven → Type 0
IsNotGiven std s bytes m (WrongValue wanted) = (wanted ≡ size_of s.result_type) × (length bytes ≢ wanted)
IsNotGiven std s bytes m (ShortEntry wanted) =
    (length bytes ≡ size_of s.result_type) × (wanted ≡ giving_bytes std s) × (length m.stack < wanted)
IsNotGiven std s bytes m HighEntry =
    (length bytes ≡ size_of s.result_type) × (giving_bytes std s ≤ length m.stack) × (2 ^ 64 ≤ m.sp + length m.stack)
IsNotGiven std s bytes m (NotInStack address) =
    (length bytes ≡ size_of s.result_type) × (giving_bytes std s ≤ length m.stack)
    × (m.sp + length m.stack < 2 ^ 64) × PointsPast std s.result_type (plan_of std s).res m address
