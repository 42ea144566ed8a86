-- Places that an image has, and what is read from them. (Where they are, each standard says: `plan_of`.)
use Rattle.std.specs.Prelude.{◌≡◌, ℕ, ◌+◌, ◌-◌, ◌^◌, ◌<◌, ◌≤◌, ◌⊎◌, ⊤, List, get_or, length}
use Rattle.ffi3_place_spec.specs.declared.Loc.{Loc}
use Rattle.ffi3_place_spec.specs.declared.Loc.TheVariants.{G, F, S}
use Rattle.ffi3_place_spec.specs.declared.Piece.{Piece}
use Rattle.ffi3_place_spec.specs.declared.Res.{Res}
use Rattle.ffi3_place_spec.specs.declared.Res.TheVariants.{Nothing, Direct as DirectRes, Hidden}
use Rattle.ffi3_place_spec.specs.Image.{Image, byte_at}
use Rattle.ffi3_place_spec.specs.Holds.{Carries}
use Rattle.ffi3_place_spec.specs.Sound.{place_size, IsWhole}
use Rattle.ffi3_marshal.specs.Stored.{IsPlaceIn}

-- one of 32 general registers, or of so many words of floating ones, or up to eight bytes of the stack that is there
abbrev pub IsThereIn : ℕ → Image → ℕ → Loc → Type 0
IsThereIn floatings m base (G r) = r < 32
IsThereIn floatings m base (F r) = r < floatings
IsThereIn floatings m base (S n w) = (base + n + w ≤ length m.stack) × (w ≤ 8)

-- of an image that has one word for each of 32 floating registers
abbrev pub IsThere : Image → ℕ → Loc → Type 0
IsThere = IsThereIn 32

-- these are the bytes of a place, and zeros behind them
pub record AreBytesOf (base : ℕ) (m : Image) (l : Loc) (bytes : List ℕ) : Type 0 where
  pub here : (k : ℕ) → k < place_size l → get_or bytes k 0 ≡ byte_at m base l k
  pub behind : (k : ℕ) → place_size l ≤ k → get_or bytes k 0 ≡ 0

-- the bytes that a piece carries are those of its place, and the others stay
pub record IsPieceRead (base : ℕ) (m : Image) (p : Piece) (old new : List ℕ) : Type 0 where
  pub sized : length new ≡ length old
  pub here : (o : ℕ) → Carries o p → get_or new o 0 ≡ byte_at m base p.loc (o - p.off)
  pub others : (o : ℕ) → (Carries o p) ⊎ (get_or new o 0 ≡ get_or old o 0)

-- the place of a hidden result's address is there and has eight bytes, and the buffer's address is one
abbrev pub HiddenLiesIn : ℕ → ℕ → Image → Res → Type 0
HiddenLiesIn floatings base m (Hidden at buffer) =
    IsPlaceIn floatings (length m.stack - base) at × IsWhole at × (m.sp + base + buffer < 2 ^ 64)
HiddenLiesIn floatings base m Nothing = ⊤
HiddenLiesIn floatings base m (DirectRes pieces) = ⊤

-- of such an image
abbrev pub HiddenLies : ℕ → Image → Res → Type 0
HiddenLies = HiddenLiesIn 32
