-- Places that an image has, pieces that are read from them, and the bytes of a value over two fillings of its padding.
use Rattle.std.specs.Prelude.{◌≡◌, ℕ, ◌+◌, ◌-◌, ◌<◌, ◌≤◌, ◌^◌, ◌⊎◌, ⊤, true, false, cond, ◌&&◌, ◌==◌, nat_lt, List, []}
use Rattle.std.specs.Prelude.{◌∷◌, length, get_or, Option, Some, None}
use Rattle.std.specs.List.{AllByRecursion}
use Rattle.ffi3_type_spec.specs.Tree.{Tree}
use Rattle.ffi3_type_spec.specs.Layout.{leaves_of, size_of}
use Rattle.ffi3_place_spec.specs.declared.Loc.{Loc}
use Rattle.ffi3_place_spec.specs.declared.Loc.TheVariants.{G, F, S}
use Rattle.ffi3_place_spec.specs.declared.Piece.{Piece}
use Rattle.ffi3_place_spec.specs.declared.Place.{Place}
use Rattle.ffi3_place_spec.specs.declared.Place.TheVariants.{Direct, ByRef}
use Rattle.ffi3_place_spec.specs.declared.Res.{Res}
use Rattle.ffi3_place_spec.specs.declared.Res.TheVariants.{Hidden}
use Rattle.ffi3_place_spec.specs.Image.{Image, byte_at}
use Rattle.ffi3_place_spec.specs.Holds.{Carries}
use Rattle.ffi3_place_spec.specs.Sound.{PlaceHasAll}
use Rattle.ffi3_explain_spec.specs.declared.Check.{Check}
use Rattle.ffi3_explain_spec.specs.Explain.{first_byte, in_leaf}

-- one of 32 registers, or up to eight bytes of the stack that is there
abbrev pub HasPlace : Image → ℕ → Loc → Type 0
HasPlace m base (G r) = r < 32
HasPlace m base (F r) = r < 32
HasPlace m base (S n w) = (base + n + w ≤ length m.stack) × (w ≤ 8)

-- at most eight bytes in a place that is there
abbrev pub CanBeRead : Image → ℕ → Piece → Type 0
CanBeRead m base p = HasPlace m base p.loc × (p.len ≤ 8)

-- the piece's bytes are read from its place, and all others are the old
pub record IsPieceRead (m : Image) (base : ℕ) (p : Piece) (old new : List ℕ) : Type 0 where
  pub sized : length new ≡ length old
  pub here : (o : ℕ) → Carries o p → get_or new o 0 ≡ byte_at m base p.loc (o - p.off)
  pub others : (o : ℕ) → (Carries o p) ⊎ (get_or new o 0 ≡ get_or old o 0)

-- byte k of a piece's place: a byte of the value where both fillings have the same there, and else the one that is found
abbrev pub marked_byte : Piece → (found low high : List ℕ) → ℕ → ℕ
marked_byte p found low high k =
    cond (nat_lt k p.len && (get_or low (p.off + k) 0 == get_or high (p.off + k) 0))
    (get_or low (p.off + k) 0)
    (get_or found k 0)

-- The value's bytes over zeros and over ones: both have a leaf's byte, and they differ in each byte of padding.
pub record AreMarks (m : Image) (base : ℕ) (t : Tree) (pieces : List Piece) (low high : List ℕ) : Type 0 where
  pub low_sized : length low ≡ size_of t
  pub high_sized : length high ≡ size_of t
  pub leaf : (o : ℕ) → o < size_of t → in_leaf (leaves_of t) o ≡ true
      → (get_or low o 0 ≡ first_byte m base pieces o) × (get_or high o 0 ≡ first_byte m base pieces o)
  pub padding : (o : ℕ) → o < size_of t → in_leaf (leaves_of t) o ≡ false
      → (get_or low o 0 ≡ 0) × (get_or high o 0 ≡ 255)

-- an argument's place is there, and its copy too
abbrev pub PlaceIsThere : Image → ℕ → Tree → Place → Type 0
PlaceIsThere m base t (Direct pieces) = AllByRecursion (CanBeRead m base) pieces
PlaceIsThere m base t (ByRef at copy) =
    HasPlace m base at × (base + copy + size_of t ≤ length m.stack) × (m.sp + base + copy < 2 ^ 64)

-- each argument's place is there, and has all of the argument
abbrev pub PlacesAreReady : Image → ℕ → List Tree → List Place → Type 0
PlacesAreReady m base [] [] = ⊤
PlacesAreReady m base (t ∷ ts) (p ∷ ps) =
    PlaceIsThere m base t p × PlaceHasAll t p × PlacesAreReady m base ts ps
PlacesAreReady m base _ _ = ⊥

-- an argument's place is there, wherever its copy is
abbrev pub ArgumentIsThere : Image → ℕ → Place → Type 0
ArgumentIsThere m base (Direct pieces) = AllByRecursion (CanBeRead m base) pieces
ArgumentIsThere m base (ByRef at copy) = HasPlace m base at

-- the same of each argument
abbrev pub ArgumentsAreReady : Image → ℕ → List Tree → List Place → Type 0
ArgumentsAreReady m base [] [] = ⊤
ArgumentsAreReady m base (t ∷ ts) (p ∷ ps) =
    ArgumentIsThere m base p × PlaceHasAll t p × ArgumentsAreReady m base ts ps
ArgumentsAreReady m base _ _ = ⊥

-- the place of a hidden result's address is there
abbrev pub HiddenIsThere : Image → ℕ → Res → Type 0
HiddenIsThere m base (Hidden at buffer) =
    HasPlace m base at × (m.sp + base + buffer < 2 ^ 64)
HiddenIsThere m base _ = ⊤

-- one check or none
abbrev pub listed_check : Option Check → List Check
listed_check (Some c) = c ∷ []
listed_check None = []
