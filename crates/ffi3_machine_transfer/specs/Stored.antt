-- The bytes at places of a machine, the places that a store leaves, and the stretch of the stack that it writes.
use Rattle.std.specs.Prelude.{◌≡◌, ℕ, ◌+◌, ◌-◌, ◌*◌, ◌/◌, ◌^◌, ◌<◌, ◌≤◌, ◌⊎◌, ⊤, List, [], ◌∷◌, map, get_or, length}
use Rattle.std.specs.Int.{w64, to_le_bytes, from_le_bytes}
use Rattle.std.specs.List.{range_with_len}
use Rattle.ffi3_place_spec.specs.declared.Loc.{Loc}
use Rattle.ffi3_place_spec.specs.declared.Loc.TheVariants.{G, F, S}
use Rattle.ffi3_place_spec.specs.declared.Ext.TheVariants.{Free}
use Rattle.ffi3_place_spec.specs.declared.Piece.{Piece}
use Rattle.ffi3_type_spec.specs.Tree.{Tree}
use Rattle.ffi3_type_spec.specs.Layout.{Leaf, leaves_of, scalar_size, size_of}
use Rattle.ffi3_type_spec.specs.Value.{ValueTree, IsPadding}
use Rattle.ffi3_place_spec.specs.Holds.{Carries, FillsAs, leaf_bytes}
use Rattle.ffi3_place_spec.specs.Sound.{place_size, IsWhole, IsNoneOf}
use Rattle.ffi3_type_spec.specs.declared.limits.TheConstants.{STACK}
pub use Rattle.ffi3_marshal.specs.Stored.{IsPlace, IsWritable}
use Rattle.ffi3_machine_spec.specs.State.{State}

-- the byte of the stack at an address
abbrev pub stack_byte : State → ℕ → ℕ
stack_byte m addr = get_or m.stack (addr - STACK) 0

-- byte k of a place; stack places count from the address `base`
abbrev pub byte_of : ℕ → State → Loc → ℕ → ℕ
byte_of base m (G r) k = get_or (to_le_bytes w64 (get_or m.general r 0)) k 0
byte_of base m (F r) k = get_or (to_le_bytes w64 (get_or m.floating r 0)) k 0
byte_of base m (S n w) k = stack_byte m (base + n + k)

-- the number that the bytes of a place make
abbrev pub word_in : ℕ → State → Loc → ℕ
word_in base m (G r) = get_or m.general r 0
word_in base m (F r) = get_or m.floating r 0
word_in base m (S n w) = from_le_bytes w64 (map (byte_of base m (S n w)) (range_with_len 0 w))

-- the place holds the same in both: a register its word, a place on the stack its bytes
abbrev pub SameAt : ℕ → Loc → State → State → Type 0
SameAt base (G r) old new = get_or new.general r 0 ≡ get_or old.general r 0
SameAt base (F r) old new = get_or new.floating r 0 ≡ get_or old.floating r 0
SameAt base (S n w) old new = (k : ℕ) → k < w → stack_byte new (base + n + k) ≡ stack_byte old (base + n + k)

-- EVERY PLACE APART FROM THE LIST STAYS, and so does the stack pointer
pub record Stays (base : ℕ) (locs : List Loc) (old new : State) : Type 0 where
  pub sp : new.sp ≡ old.sp
  pub size : length new.stack ≡ length old.stack
  pub others : (l : Loc) → IsNoneOf locs l → SameAt base l old new

-- THE STACK CHANGES ONLY FROM `low` TO `high`. The mark is at least the lower of the old mark and `low`.
pub record WroteWithin (low high : ℕ) (old new : State) : Type 0 where
  pub size : length new.stack ≡ length old.stack
  pub outside : (i : ℕ) → (STACK + i < low) ⊎ (high ≤ STACK + i) → get_or new.stack i 0 ≡ get_or old.stack i 0
  pub mark : (old.mark ≤ new.mark) ⊎ (low ≤ new.mark)
  pub target : new.target ≡ old.target
  pub pc : new.pc ≡ old.pc
  pub code : new.code ≡ old.code
  pub events : new.events ≡ old.events
  pub spare_events : new.spare_events ≡ old.spare_events
  pub spare_bytes : new.spare_bytes ≡ old.spare_bytes
  -- of what a call passes, this is what stands behind it: `Passing.antt`
  pub exchange : new.exchange ≡ old.exchange
  pub steps : new.steps ≡ old.steps

-- the machine `new` with the pc, the journal, the exchange region and the count of steps of `old`, to say what else has changed
abbrev pub with_journal_of : State → State → State
with_journal_of old new = record new {
  pc = old.pc;
  events = old.events;
  spare_events = old.spare_events;
  spare_bytes = old.spare_bytes;
  exchange = old.exchange;
  steps = old.steps;
}

-- THE STACK CHANGES ONLY FROM `low` TO `high`, and registers do not
pub record WroteOnly (low high : ℕ) (old new : State) : Type 0 where
  pub within : WroteWithin low high old new
  pub sp : new.sp ≡ old.sp
  pub general : new.general ≡ old.general
  pub floating : new.floating ≡ old.floating

-- the first bytes of the place are these
abbrev pub HasBytes : ℕ → State → Loc → List ℕ → Type 0
HasBytes base m l bytes = (k : ℕ) → k < length bytes → byte_of base m l k ≡ get_or bytes k 0

-- the bytes of the place from number n on stay
abbrev pub KeepsFrom : ℕ → Loc → ℕ → State → State → Type 0
KeepsFrom base l n old new = (k : ℕ) → n ≤ k → k < place_size l → byte_of base new l k ≡ byte_of base old l k

-- THE PLACE HOLDS THE BYTES. Its other bytes stay, and so do all other places.
pub record IsPut (base : ℕ) (l : Loc) (bytes : List ℕ) (old new : State) : Type 0 where
  pub here : HasBytes base new l bytes
  pub kept : KeepsFrom base l (length bytes) old new
  pub stays : Stays base (l ∷ []) old new
  pub within : (room : ℕ) → IsPlace room l → WroteWithin base (base + room) old new
  -- eight bytes are the word of a place that has eight
  pub whole : IsWhole l → (w : ℕ) → w < 2 ^ 64 → bytes ≡ to_le_bytes w64 w → word_in base new l ≡ w

-- the place holds the number
pub record IsWordPut (base : ℕ) (l : Loc) (w : ℕ) (old new : State) : Type 0 where
  pub here : HasBytes base new l (to_le_bytes w64 w)
  pub word : word_in base new l ≡ w
  pub stays : Stays base (l ∷ []) old new
  pub within : (room : ℕ) → IsPlace room l → WroteWithin base (base + room) old new

-- ---- pieces

-- the piece's place has the bytes of the value in memory that it carries
abbrev pub HasPiece : ℕ → State → List ℕ → Piece → Type 0
HasPiece base m bytes p = (k : ℕ) → k < p.len → byte_of base m p.loc k ≡ get_or bytes (p.off + k) 0

-- THE PIECE'S BYTES ARE PUT INTO ITS PLACE. The place's other bytes stay, and so do all other places.
pub record IsSet (base : ℕ) (p : Piece) (bytes : List ℕ) (old new : State) : Type 0 where
  pub held : HasPiece base new bytes p
  pub kept : KeepsFrom base p.loc p.len old new
  pub stays : Stays base (p.loc ∷ []) old new
  pub within : (room : ℕ) → IsPlace room p.loc → WroteWithin base (base + room) old new

-- the same, and what fills the rest of the place is right. Where nothing fills it, it stays.
pub record IsSetAndFilled (base : ℕ) (t : Tree) (v : ValueTree) (bytes : List ℕ) (p : Piece) (old new : State)
    : Type 0 where
  pub held : HasPiece base new bytes p
  pub filled : FillsAs p.ext (word_in base new p.loc) t v
  pub kept : p.ext ≡ Free → KeepsFrom base p.loc p.len old new
  pub stays : Stays base (p.loc ∷ []) old new
  pub within : (room : ℕ) → IsPlace room p.loc → WroteWithin base (base + room) old new

-- the number is byte `o` of the leaf that has one there, if there is such a leaf
abbrev pub IsByteOf : List Leaf → List (List ℕ) → ℕ → ℕ → Type 0
IsByteOf (l ∷ ls) (b ∷ bs) o x =
    ((k : ℕ) → k < scalar_size l.kind → l.at + k ≡ o → x ≡ get_or b k 0) × IsByteOf ls bs o x
IsByteOf _ _ o x = ⊤

-- each byte of a leaf that the piece carries stands at its place
abbrev pub HasLeaves : ℕ → State → Tree → ValueTree → Piece → Type 0
HasLeaves base m t v p =
    (k : ℕ) → k < p.len → IsByteOf (leaves_of t) (leaf_bytes v) (p.off + k) (byte_of base m p.loc k)

-- the piece stands at its place, and what fills the rest of the place is right
abbrev pub PieceStands : ℕ → State → Tree → ValueTree → Piece → Type 0
PieceStands base m t v p = HasLeaves base m t v p × FillsAs p.ext (word_in base m p.loc) t v

-- ---- bytes of a place that no leaf has

-- byte k of the piece's place is padding, or stands above the piece
abbrev pub IsUnused : Tree → Piece → ℕ → Type 0
IsUnused t p k = k < p.len → IsPadding t (p.off + k)

-- WHAT NO LEAF HAS KEEPS WHAT STOOD THERE, where nothing fills the rest of the place (the standards leave such bits unspecified: System V psABI AMD64, "Parameter Passing"; AAPCS64, "Parameter passing"; RISC-V psABI, "Integer Calling Convention")
abbrev pub KeepsUnused : ℕ → Tree → State → State → Piece → Type 0
KeepsUnused base t old new p =
    p.ext ≡ Free → (k : ℕ) → k < place_size p.loc → IsUnused t p k → byte_of base new p.loc k ≡ byte_of base old p.loc k

-- the same of the words of a value in memory at an address
abbrev pub KeepsPadding : ℕ → Tree → State → State → Type 0
KeepsPadding addr t old new =
    (i : ℕ) → i < 8 * ((size_of t + 7) / 8) → IsPadding t i → stack_byte new (addr + i) ≡ stack_byte old (addr + i)

-- THE PIECE OF A VALUE IS STORED, and all other places stay
pub record IsStored (base : ℕ) (t : Tree) (v : ValueTree) (p : Piece) (old new : State) : Type 0 where
  pub stands : PieceStands base new t v p
  pub unused : KeepsUnused base t old new p
  pub stays : Stays base (p.loc ∷ []) old new
  pub within : (room : ℕ) → IsPlace room p.loc → WroteWithin base (base + room) old new

-- ---- what is read from places

-- these are the bytes of a place, and zeros behind them
pub record AreBytesOf (base : ℕ) (m : State) (l : Loc) (bytes : List ℕ) : Type 0 where
  pub here : (k : ℕ) → k < place_size l → get_or bytes k 0 ≡ byte_of base m l k
  pub behind : (k : ℕ) → place_size l ≤ k → get_or bytes k 0 ≡ 0

-- the bytes that a piece carries are those of its place, and the others stay
pub record IsPieceLoaded (base : ℕ) (m : State) (p : Piece) (old new : List ℕ) : Type 0 where
  pub sized : length new ≡ length old
  pub here : (o : ℕ) → Carries o p → get_or new o 0 ≡ byte_of base m p.loc (o - p.off)
  pub others : (o : ℕ) → (Carries o p) ⊎ (get_or new o 0 ≡ get_or old o 0)
