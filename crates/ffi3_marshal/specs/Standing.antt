-- The places of arguments: which registers and bytes of the stack they use, that the arguments' bytes stand there, as steps towards `Holds`, which says it in the standards' words, and what a store keeps of them: `PlacesKeep`.
use Rattle.std.specs.Prelude.{◌≡◌, ℕ, ◌+◌, ◌*◌, ◌/◌, ◌<◌, ◌≤◌, ⊤, List, [], ◌∷◌, ◌++◌, get_or, length}
use Rattle.std.specs.List.{AllByRecursion}
use Rattle.ffi3_type_spec.specs.declared.Target.{Target}
use Rattle.ffi3_type_spec.specs.Tree.{Tree}
use Rattle.ffi3_type_spec.specs.Layout.{size_of}
use Rattle.ffi3_type_spec.specs.Value.{part}
use Rattle.ffi3_place_spec.specs.declared.Loc.{Loc}
use Rattle.ffi3_place_spec.specs.declared.Piece.{Piece}
use Rattle.ffi3_place_spec.specs.declared.Place.{Place}
use Rattle.ffi3_place_spec.specs.declared.Place.TheVariants.{Direct, ByRef}
use Rattle.ffi3_place_spec.specs.Image.{Image, word_at}
use Rattle.ffi3_place_spec.specs.Sound.{PlaceHasAll, piece_locs, place_locs, stack_words_for}
use Rattle.ffi3_marshal.specs.Stored.{IsPlaceIn, IsWritable, KeepsAbove, PieceStands, Stays}

-- the registers and the bytes of the stack that an argument uses
abbrev pub place_uses : Tree → Place → List Loc
place_uses t (Direct pieces) = piece_locs pieces
place_uses t (ByRef at copy) = at ∷ stack_words_for copy t

abbrev pub all_uses : List Tree → List Place → List Loc
all_uses (t ∷ ts) (p ∷ ps) = place_uses t p ++ all_uses ts ps
all_uses _ _ = []

-- they lie in so many bytes of the stack
abbrev pub PlaceLiesIn : ℕ → ℕ → Tree → Place → Type 0
PlaceLiesIn floatings room t (Direct pieces) = AllByRecursion (IsPlaceIn floatings room) (piece_locs pieces)
PlaceLiesIn floatings room t (ByRef at copy) = IsPlaceIn floatings room at × (copy + size_of t ≤ room)

abbrev pub PlaceLies : ℕ → Tree → Place → Type 0
PlaceLies = PlaceLiesIn 32

-- the pieces stand at their places
abbrev pub PiecesStand : ℕ → Image → Tree → List ℕ → List Piece → Type 0
PiecesStand base m t bytes pieces = AllByRecursion (PieceStands base m t bytes) pieces

-- a place has the address of a copy of the bytes
pub record CopyStands (base : ℕ) (m : Image) (t : Tree) (bytes : List ℕ) (l : Loc) (copy : ℕ) : Type 0 where
  pub address : word_at m base l ≡ m.sp + base + copy
  pub room : base + copy + size_of t ≤ length m.stack
  pub has : part m.stack (base + copy) (size_of t) ≡ bytes

abbrev pub PlaceStands : ℕ → Image → Tree → List ℕ → Place → Type 0
PlaceStands base m t bytes (Direct pieces) = PiecesStand base m t bytes pieces
PlaceStands base m t bytes (ByRef at copy) = CopyStands base m t bytes at copy

-- the bytes behind a copy, in its last doubleword, keep what stood there
abbrev pub KeepsBehind : ℕ → Tree → Image → Image → Type 0
KeepsBehind from t old new =
    (k : ℕ) → size_of t ≤ k → k < 8 * ((size_of t + 7) / 8) → get_or new.stack (from + k) 0 ≡ get_or old.stack (from + k) 0

-- what no byte of the argument takes of its places, and nothing fills, keeps what stood there
abbrev pub PlaceKeeps : ℕ → Image → Image → Tree → Place → Type 0
PlaceKeeps base old new t (Direct pieces) = AllByRecursion (KeepsAbove base old new) pieces
PlaceKeeps base old new t (ByRef at copy) = KeepsBehind (base + copy) t old new

-- and so of all arguments
abbrev pub PlacesKeep : ℕ → Image → Image → List Tree → List Place → Type 0
PlacesKeep base old new (t ∷ ts) (p ∷ ps) = PlaceKeeps base old new t p × PlacesKeep base old new ts ps
PlacesKeep base old new _ _ = ⊤

-- what the two stores of an argument by reference leave
pub record IsCopied (base : ℕ) (t : Tree) (bytes : List ℕ) (l : Loc) (copy : ℕ) (old new : Image) : Type 0 where
  pub stands : CopyStands base new t bytes l copy
  pub kept : KeepsBehind (base + copy) t old new
  pub stays : Stays base (l ∷ stack_words_for copy t) old new

-- what a store at a place needs: it has all of the argument, lies in the frame, and is written to
pub record IsReadyIn (floatings : ℕ) (target : Target) (room : ℕ) (t : Tree) (p : Place) : Type 0 where
  pub has_all : PlaceHasAll t p
  pub lies : PlaceLiesIn floatings room t p
  pub writable : AllByRecursion (IsWritable target) (place_locs p)

abbrev pub AreReadyIn : ℕ → Target → ℕ → List Tree → List Place → Type 0
AreReadyIn floatings target room [] [] = ⊤
AreReadyIn floatings target room (t ∷ ts) (p ∷ ps) = IsReadyIn floatings target room t p × AreReadyIn floatings target room ts ps
AreReadyIn floatings target room _ _ = ⊥

abbrev pub IsReady : Target → ℕ → Tree → Place → Type 0
IsReady = IsReadyIn 32

abbrev pub AreReady : Target → ℕ → List Tree → List Place → Type 0
AreReady = AreReadyIn 32
