-- Places of an image that a store changes, and those that it leaves. (Where the places are, each standard says: `plan_of`. What none of them asks to be written stays, by this library's promise.)
use Rattle.std.specs.Prelude.{◌≡◌, ℕ, ◌+◌, ◌^◌, ◌<◌, ◌≤◌, ⊤, List, [], ◌∷◌, ◌++◌, take, drop, get_or, length, slice_set}
use Rattle.std.specs.Int.{w64, to_le_bytes}
use Rattle.ffi3_type_spec.specs.Tree.{Tree}
use Rattle.ffi3_type_spec.specs.Value.{value_in}
use Rattle.ffi3_type_spec.specs.declared.Target.{Target}
use Rattle.ffi3_type_spec.specs.TargetIsa.{isa_of}
use Rattle.ffi3_place_spec.specs.declared.Loc.{Loc}
use Rattle.ffi3_place_spec.specs.declared.Loc.TheVariants.{G, F, S}
use Rattle.ffi3_place_spec.specs.declared.Ext.TheVariants.{Free}
use Rattle.ffi3_place_spec.specs.declared.Piece.{Piece}
use Rattle.ffi3_place_spec.specs.Image.{Image, byte_at, word_at}
use Rattle.ffi3_place_spec.specs.MachineRegisters.{TakesWrites}
use Rattle.ffi3_place_spec.specs.Holds.{FillsAs}
use Rattle.ffi3_place_spec.specs.Sound.{place_size, IsWhole, IsNoneOf}

-- ---- what a write makes of an image

-- the register holds the number
abbrev pub with_general : ℕ → ℕ → Image → Image
with_general r value m = record m { general = slice_set m.general r value }

abbrev pub with_floating : ℕ → ℕ → Image → Image
with_floating r value m = record m { floating = slice_set m.floating r value }

-- the bytes stand on the stack from an offset on
abbrev pub stored : ℕ → List ℕ → Image → Image
stored at bytes m =
    record m { stack = take at m.stack ++ (bytes ++ drop (length bytes) (drop at m.stack)) }

-- the word's low bytes are these, and above them it is the old
pub record HasLow (bytes : List ℕ) (old new : ℕ) : Type 0 where
  pub low : (k : ℕ) → k < length bytes → get_or (to_le_bytes w64 new) k 0 ≡ get_or bytes k 0
  pub high : (k : ℕ) → length bytes ≤ k → k < 8 → get_or (to_le_bytes w64 new) k 0 ≡ get_or (to_le_bytes w64 old) k 0
  pub below : new < 2 ^ 64

-- ---- places

-- one of 32 general registers, or of so many words of floating ones, or one to eight bytes of so many of the stack
abbrev pub IsPlaceIn : ℕ → ℕ → Loc → Type 0
IsPlaceIn floatings stack (G r) = r < 32
IsPlaceIn floatings stack (F r) = r < floatings
IsPlaceIn floatings stack (S n w) = (n + w ≤ stack) × (0 < w) × (w ≤ 8)

-- of an image that has one word for each of 32 floating registers
abbrev pub IsPlace : ℕ → Loc → Type 0
IsPlace = IsPlaceIn 32

-- a write to the place is not dropped, if the general registers that take one are these
abbrev pub TakesAt : (ℕ → Type 0) → Loc → Type 0
TakesAt takes (G r) = takes r
TakesAt takes (F r) = ⊤
TakesAt takes (S n w) = ⊤

-- a write to the place is not dropped by the target's machine
abbrev pub IsWritable : Target → Loc → Type 0
IsWritable target l = TakesWrites (isa_of target) l

-- the place holds the same in both: a register its word, a place on the stack its bytes
abbrev pub SameAt : ℕ → Loc → Image → Image → Type 0
SameAt base (G r) old new = get_or new.general r 0 ≡ get_or old.general r 0
SameAt base (F r) old new = get_or new.floating r 0 ≡ get_or old.floating r 0
SameAt base (S n w) old new =
    (k : ℕ) → k < w → get_or new.stack (base + n + k) 0 ≡ get_or old.stack (base + n + k) 0

-- EVERY PLACE APART FROM THE LIST STAYS, and so do the stack pointer and the bytes below the stack places
pub record Stays (base : ℕ) (locs : List Loc) (old new : Image) : Type 0 where
  pub sp : new.sp ≡ old.sp
  pub size : length new.stack ≡ length old.stack
  pub below : (i : ℕ) → i < base → get_or new.stack i 0 ≡ get_or old.stack i 0
  pub others : (l : Loc) → IsNoneOf locs l → SameAt base l old new

-- the first bytes of the place are these
abbrev pub HasBytes : ℕ → Image → Loc → List ℕ → Type 0
HasBytes base m l bytes = (k : ℕ) → k < length bytes → byte_at m base l k ≡ get_or bytes k 0

-- the bytes of the place from number n on stay
abbrev pub KeepsFrom : ℕ → Loc → ℕ → Image → Image → Type 0
KeepsFrom base l n old new = (k : ℕ) → n ≤ k → k < place_size l → byte_at new base l k ≡ byte_at old base l k

-- THE PLACE HOLDS THE BYTES. Its other bytes stay, and so do all other places.
pub record IsPut (base : ℕ) (l : Loc) (bytes : List ℕ) (old new : Image) : Type 0 where
  pub here : HasBytes base new l bytes
  pub kept : KeepsFrom base l (length bytes) old new
  pub stays : Stays base (l ∷ []) old new
  -- eight bytes are the word of a place that has eight
  pub whole : IsWhole l → (w : ℕ) → w < 2 ^ 64 → bytes ≡ to_le_bytes w64 w → word_at new base l ≡ w

-- where nothing fills the rest of a piece's place, that keeps what stood there
abbrev pub KeepsAbove : ℕ → Image → Image → Piece → Type 0
KeepsAbove base old new p = p.ext ≡ Free → KeepsFrom base p.loc p.len old new

-- the place holds the number
pub record IsWordPut (base : ℕ) (l : Loc) (w : ℕ) (old new : Image) : Type 0 where
  pub here : HasBytes base new l (to_le_bytes w64 w)
  pub word : word_at new base l ≡ w
  pub stays : Stays base (l ∷ []) old new

-- the piece's place has the bytes of the value in memory that it carries
abbrev pub HasPiece : ℕ → Image → List ℕ → Piece → Type 0
HasPiece base m bytes p = (k : ℕ) → k < p.len → byte_at m base p.loc k ≡ get_or bytes (p.off + k) 0

-- the piece's bytes are put into its place. The place's other bytes stay, and so do all other places.
pub record IsSet (base : ℕ) (p : Piece) (bytes : List ℕ) (old new : Image) : Type 0 where
  pub held : HasPiece base new bytes p
  pub kept : KeepsFrom base p.loc p.len old new
  pub stays : Stays base (p.loc ∷ []) old new

-- the piece stands at its place, and what fills the rest of the place is right
pub record PieceStands (base : ℕ) (m : Image) (t : Tree) (bytes : List ℕ) (p : Piece) : Type 0 where
  pub held : HasPiece base m bytes p
  pub filled : FillsAs p.ext (word_at m base p.loc) t (value_in t bytes)

-- THE PIECE OF A VALUE IS STORED. Where nothing fills the rest of its place, that stays, and so do all other places.
pub record IsStored (base : ℕ) (t : Tree) (bytes : List ℕ) (p : Piece) (old new : Image) : Type 0 where
  pub stands : PieceStands base new t bytes p
  pub kept : KeepsAbove base old new p
  pub stays : Stays base (p.loc ∷ []) old new
