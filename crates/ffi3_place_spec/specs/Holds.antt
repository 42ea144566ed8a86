-- What it means that an image holds the arguments of a call, or its result, and that registers are preserved. (System V psABI AMD64 3.2.3; Arm AAPCS64, "Parameter Passing" and "Result Return"; RISC-V ELF psABI, "Integer Calling Convention" and "Hardware Floating-point Calling Convention"; Microsoft, "x64 calling convention"; Apple, "Writing ARM64 code for Apple platforms")
use Rattle.std.specs.Prelude.{◌≡◌, ℕ, ◌+◌, ◌-◌, ◌/◌, ◌^◌, ◌<◌, ◌≤◌, ⊤, true, List, [], ◌∷◌, ◌++◌, take, drop, length}
use Rattle.std.specs.Prelude.{get_or, Option, Some, None}
use Rattle.std.specs.List.{AllByRecursion}
use Rattle.ffi3_type_spec.specs.Tree.{Tree, scalar}
use Rattle.ffi3_type_spec.specs.Layout.{Leaf, leaves_of, size_of, scalar_size}
use Rattle.ffi3_type_spec.specs.Signature.{Signature}
use Rattle.ffi3_type_spec.specs.Value.{ValueTree, void_value, leaf_value, struct_value, ValueTrees, no_values, value}
use Rattle.ffi3_type_spec.specs.Value.{value_in, fits}
use Rattle.ffi3_type_spec.specs.Integer.{widened, widened_from_32}
use Rattle.ffi3_place_spec.specs.declared.Loc.{Loc}
use Rattle.ffi3_place_spec.specs.declared.Ext.{Ext}
use Rattle.ffi3_place_spec.specs.declared.Ext.TheVariants.{Free, Widen, Riscv, Boxed}
use Rattle.ffi3_place_spec.specs.declared.Piece.{Piece}
use Rattle.ffi3_place_spec.specs.declared.Place.{Place}
use Rattle.ffi3_place_spec.specs.declared.Place.TheVariants.{Direct, ByRef}
use Rattle.ffi3_place_spec.specs.declared.Res.{Res}
use Rattle.ffi3_place_spec.specs.declared.Res.TheVariants.{Nothing, Direct as DirectRes, Hidden}
use Rattle.ffi3_place_spec.specs.Image.{Image, byte_at, word_at, register}
use Rattle.ffi3_place_spec.specs.Standard.{Standard, frame_of, plan_of}

-- the bytes of a value's leaves, from the left
abbrev mutual
  pub leaf_bytes : ValueTree → List (List ℕ)
  leaf_bytes void_value = []
  leaf_bytes (leaf_value bytes) = bytes ∷ []
  leaf_bytes (struct_value vs) = all_leaf_bytes vs

  pub all_leaf_bytes : ValueTrees → List (List ℕ)
  all_leaf_bytes no_values = []
  all_leaf_bytes (value v vs) = leaf_bytes v ++ all_leaf_bytes vs

-- the piece has the byte at offset o of the value
abbrev pub Carries : ℕ → Piece → Type 0
Carries o p = (p.off ≤ o) × (o < p.off + p.len)

-- each byte of the leaf that a piece has stands at its place
abbrev pub StandsInPieces : Image → ℕ → List Piece → Leaf → List ℕ → Type 0
StandsInPieces m base pieces l bytes =
    (k : ℕ) → k < scalar_size l.kind
    → AllByRecursion (λ p. Carries (l.at + k) p → byte_at m base p.loc (l.at + k - p.off) ≡ get_or bytes k 0) pieces

-- each leaf of a value stands in the pieces
abbrev pub LeavesStand : Image → ℕ → List Piece → List Leaf → List (List ℕ) → Type 0
LeavesStand m base pieces [] [] = ⊤
LeavesStand m base pieces [] (_ ∷ _) = ⊥
LeavesStand m base pieces (_ ∷ _) [] = ⊥
LeavesStand m base pieces (l ∷ ls) (b ∷ bs) = StandsInPieces m base pieces l b × LeavesStand m base pieces ls bs

-- the bytes from an offset of the frame on have this value
abbrev pub StandsInMemory : Image → ℕ → ℕ → Tree → ValueTree → Type 0
StandsInMemory m base at t v =
    value_in t (take (size_of t) (drop (base + at) m.stack)) ≡ v

-- ---- arguments

-- one argument: its leaves' bytes stand in its pieces, or its place holds the address of a copy that has the value
abbrev pub OwnsArgument : Image → ℕ → Tree → Place → ValueTree → Type 0
OwnsArgument m base t (Direct pieces) v =
    (fits t v ≡ true) × LeavesStand m base pieces (leaves_of t) (leaf_bytes v)
OwnsArgument m base t (ByRef at copy) v =
    (fits t v ≡ true) × (word_at m base at ≡ m.sp + base + copy) × StandsInMemory m base copy t v

-- one value for each argument, at the argument's place: the first value at the first place, and so on
abbrev pub OwnsArguments : Image → ℕ → List Tree → List Place → List ValueTree → Type 0
OwnsArguments m base [] [] [] = ⊤
OwnsArguments m base (t ∷ ts) (p ∷ ps) (v ∷ vs) = OwnsArgument m base t p v × OwnsArguments m base ts ps vs
OwnsArguments m base _ _ _ = ⊥

-- the address of a hidden result's buffer stands at its place
abbrev pub OwnsHidden : Image → ℕ → Res → Type 0
OwnsHidden m base (Hidden at buffer) = word_at m base at ≡ m.sp + base + buffer
OwnsHidden m base _ = ⊤

-- The values are one for each argument, fit their types and stand at their places; a hidden result's address stands at its own. The image reaches over the return address and the whole frame.
pub record Own (std : Standard) (s : Signature) (values : List ValueTree) (m : Image) : Type 0 where
  pub reaches : std.link + frame_of std s ≤ length m.stack
  pub arguments : OwnsArguments m std.link s.arguments (plan_of std s).places values
  pub hidden : OwnsHidden m std.link (plan_of std s).res

-- ---- what fills the rest of a place

-- How the word of a piece's place is filled: a lone integer is extended, and a float in a wider register has ones above it. All else is free.
abbrev pub FillsAs : Ext → ℕ → Tree → ValueTree → Type 0
FillsAs Free word t v = ⊤
FillsAs Boxed word t v = word / 2 ^ 32 ≡ 2 ^ 32 - 1
FillsAs Widen word (scalar s) (leaf_value bytes) = word ≡ widened s bytes
FillsAs Widen word _ _ = ⊤
FillsAs Riscv word (scalar s) (leaf_value bytes) = word ≡ widened_from_32 s bytes
FillsAs Riscv word _ _ = ⊤

-- the place of each piece is filled so
abbrev pub FillPieces : Image → ℕ → Tree → List Piece → ValueTree → Type 0
FillPieces m base t pieces v =
    AllByRecursion (λ p. FillsAs p.ext (word_at m base p.loc) t v) pieces

-- an argument's places are filled so; the place of an address is full
abbrev pub FillsArgument : Image → ℕ → Tree → Place → ValueTree → Type 0
FillsArgument m base t (Direct pieces) v = FillPieces m base t pieces v
FillsArgument m base t (ByRef at copy) v = ⊤

-- the places of all arguments are filled so
abbrev pub FillArguments : Image → ℕ → List Tree → List Place → List ValueTree → Type 0
FillArguments m base [] [] [] = ⊤
FillArguments m base (t ∷ ts) (p ∷ ps) (v ∷ vs) = FillsArgument m base t p v × FillArguments m base ts ps vs
FillArguments m base _ _ _ = ⊥

-- a register holds a number, where the standard names one for it
abbrev pub RegisterHolds : Image → Option Loc → ℕ → Type 0
RegisterHolds m (Some at) n = register m at ≡ n
RegisterHolds m None n = ⊤

-- THE IMAGE AT AN ENTRY HOLDS THE VALUES: they stand at their places, extended as the standard says, and the number of vector registers stands in its register (psABI AMD64 3.2.3: al, at calls of functions with variable arguments).
pub record Holds (std : Standard) (s : Signature) (values : List ValueTree) (m : Image) : Type 0 where
  pub own : Own std s values m
  pub filled : FillArguments m std.link s.arguments (plan_of std s).places values
  pub vectors : RegisterHolds m std.vector_count (plan_of std s).vectors

-- ---- results; what was the frame's start at the call is sp at the return

-- a result's leaves stand in its pieces, or in the buffer
abbrev pub OwnsResult : Image → Tree → Res → ValueTree → Type 0
OwnsResult m t Nothing v = ⊤
OwnsResult m t (DirectRes pieces) v = LeavesStand m 0 pieces (leaves_of t) (leaf_bytes v)
OwnsResult m t (Hidden at buffer) v = StandsInMemory m 0 buffer t v

-- the value fits the type of the result and stands at its place; the image reaches over the whole frame
pub record OwnResult (std : Standard) (s : Signature) (v : ValueTree) (m : Image) : Type 0 where
  pub reaches : frame_of std s ≤ length m.stack
  pub fitting : fits s.result_type v ≡ true
  pub stands : OwnsResult m s.result_type (plan_of std s).res v

-- a result's places are filled so; the address of a hidden result stands where the standard returns it
abbrev pub FillsResult : Standard → Image → Tree → Res → ValueTree → Type 0
FillsResult std m t Nothing v = ⊤
FillsResult std m t (DirectRes pieces) v = FillPieces m 0 t pieces v
FillsResult std m t (Hidden at buffer) v = RegisterHolds m std.returned_address (m.sp + buffer)

-- THE IMAGE AT A RETURN HOLDS THE RESULT: it stands at its place, extended as the standard says; a hidden result's address stands in its register (psABI AMD64 3.2.3, "Returning of Values", step 2; Microsoft, "Return values": rax in both).
pub record HoldsResult (std : Standard) (s : Signature) (v : ValueTree) (m : Image) : Type 0 where
  pub own : OwnResult std s v m
  pub filled : FillsResult std m s.result_type (plan_of std s).res v

-- ---- registers

-- both images have the same in these registers
abbrev pub SameIn : List Loc → Image → Image → Type 0
SameIn registers m n = AllByRecursion (λ at. register m at ≡ register n at) registers

-- THE RETURN KEEPS THE ENTRY'S REGISTERS: the callee-saved and the reserved ones are equal, and the stack pointer is where it was before the return address was stored. (psABI AMD64 3.2.1, "Registers"; AAPCS64 6.1.1 and 6.1.2; RISC-V ELF psABI, "Integer Register Convention" and "Floating-point Register Convention"; Microsoft, "Caller/callee saved registers": what is preserved across calls)
pub record Kept (std : Standard) (entry return : Image) : Type 0 where
  pub preserved : SameIn std.callee_saved entry return
  pub reserved : SameIn std.reserved entry return
  pub sp : return.sp ≡ entry.sp + std.link
