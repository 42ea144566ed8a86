-- Places that registers and memory have, and what must be there for arguments and a hidden result to be read.
use Rattle.std.specs.Prelude.{ℕ, ◌+◌, ◌<◌, ◌≤◌, ◌^◌, ⊤, List, [], ◌∷◌}
use Rattle.std.specs.List.{AllByRecursion}
use Rattle.ffi3_type_spec.specs.Tree.{Tree}
use Rattle.ffi3_place_spec.specs.declared.Loc.{Loc}
use Rattle.ffi3_place_spec.specs.declared.Piece.{Piece}
use Rattle.ffi3_place_spec.specs.declared.Place.{Place}
use Rattle.ffi3_place_spec.specs.declared.Place.TheVariants.{Direct, ByRef}
use Rattle.ffi3_place_spec.specs.declared.Res.{Res}
use Rattle.ffi3_place_spec.specs.declared.Res.TheVariants.{Hidden}
use Rattle.ffi3_place_spec.specs.Image.{Image}
use Rattle.ffi3_place_spec.specs.Sound.{PlaceHasAll}
use Rattle.ffi3_marshal.specs.Stored.{IsPlaceIn}
use Rattle.ffi3_marshal.specs.Read.{IsThereIn}
use Rattle.ffi3_transfer.specs.Stored.{floating_words}

-- a register or a further word, or one to eight bytes of so many of the stack
abbrev pub IsPlace : ℕ → Loc → Type 0
IsPlace = IsPlaceIn floating_words

-- the same of a place that is read, in an image
abbrev pub HasPlace : Image → ℕ → Loc → Type 0
HasPlace = IsThereIn floating_words

-- at most eight bytes in a place that is there
abbrev pub CanBeRead : Image → ℕ → Piece → Type 0
CanBeRead m base p = HasPlace m base p.loc × (p.len ≤ 8)

-- an argument's place is there, wherever its copy is
abbrev pub ArgumentIsThere : Image → ℕ → Place → Type 0
ArgumentIsThere m base (Direct pieces) = AllByRecursion (CanBeRead m base) pieces
ArgumentIsThere m base (ByRef at copy) = HasPlace m base at

-- the same of each argument
abbrev pub ArgumentsAreReady : Image → ℕ → List Tree → List Place → Type 0
ArgumentsAreReady m base [] [] = ⊤
ArgumentsAreReady m base (t ∷ ts) (p ∷ ps) =
    ArgumentIsThere m base p × PlaceHasAll t p × ArgumentsAreReady m base ts ps
ArgumentsAreReady m base _ _ = ⊥

-- the place of a hidden result's address is there
abbrev pub HiddenIsThere : Image → ℕ → Res → Type 0
HiddenIsThere m base (Hidden at buffer) =
    HasPlace m base at × (m.sp + base + buffer < 2 ^ 64)
HiddenIsThere m base _ = ⊤
