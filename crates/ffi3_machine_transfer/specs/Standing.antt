-- Arguments that stand at their places in a machine, and the places that they use, the copy of an argument by reference included.
use Rattle.std.specs.Prelude.{◌≡◌, ℕ, ◌+◌, ◌-◌, ◌≤◌, ⊤, List, [], ◌∷◌, length}
use Rattle.std.specs.List.{AllByRecursion}
use Rattle.ffi3_type_spec.specs.Tree.{Tree}
use Rattle.ffi3_type_spec.specs.Layout.{size_of}
use Rattle.ffi3_type_spec.specs.Value.{ValueTree, value_in}
use Rattle.ffi3_place_spec.specs.declared.Loc.{Loc}
use Rattle.ffi3_place_spec.specs.declared.Piece.{Piece}
use Rattle.ffi3_place_spec.specs.declared.Place.{Place}
use Rattle.ffi3_place_spec.specs.declared.Place.TheVariants.{Direct, ByRef}
use Rattle.ffi3_place_spec.specs.declared.Res.{Res}
use Rattle.ffi3_place_spec.specs.declared.Res.TheVariants.{Nothing, Direct as DirectRes, Hidden}
use Rattle.ffi3_place_spec.specs.Sound.{stack_words_for}
use Rattle.ffi3_type_spec.specs.declared.limits.TheConstants.{STACK}
pub use Rattle.ffi3_marshal.specs.Standing.{AreReady, IsReady, PlaceLies, all_uses, place_uses}
use Rattle.ffi3_machine_spec.specs.State.{State, stack_at}
use Rattle.ffi3_machine_transfer.specs.Stored.{IsPlace, word_in, KeepsPadding, KeepsUnused, PieceStands, Stays}
use Rattle.ffi3_machine_transfer.specs.Stored.{WroteWithin}

-- pieces have the leaves of the value, and what fills the rest of their places is right
abbrev pub PiecesStand : ℕ → State → Tree → ValueTree → List Piece → Type 0
PiecesStand base m t v pieces = AllByRecursion (PieceStands base m t v) pieces

-- a place has the address of a copy that has the value
pub record CopyStands (base : ℕ) (m : State) (t : Tree) (v : ValueTree) (l : Loc) (copy : ℕ) : Type 0 where
  pub address : word_in base m l ≡ base + copy
  pub room : base + copy - STACK + size_of t ≤ length m.stack
  pub reads : value_in t (stack_at (base + copy) (size_of t) m) ≡ v

abbrev pub PlaceStands : ℕ → State → Tree → ValueTree → Place → Type 0
PlaceStands base m t v (Direct pieces) = PiecesStand base m t v pieces
PlaceStands base m t v (ByRef at copy) = CopyStands base m t v at copy

-- what no leaf of the argument has keeps what stood there, in the places of its pieces or in its copy
abbrev pub PlaceKeepsUnused : ℕ → Tree → State → State → Place → Type 0
PlaceKeepsUnused base t old new (Direct pieces) = AllByRecursion (KeepsUnused base t old new) pieces
PlaceKeepsUnused base t old new (ByRef at copy) = KeepsPadding (base + copy) t old new

-- what the two stores of an argument by reference leave
pub record IsCopied (base : ℕ) (t : Tree) (v : ValueTree) (l : Loc) (copy : ℕ) (old new : State) : Type 0 where
  pub stands : CopyStands base new t v l copy
  pub unused : KeepsPadding (base + copy) t old new
  pub stays : Stays base (l ∷ stack_words_for copy t) old new
  pub within : (room : ℕ) → IsPlace room l → copy + size_of t ≤ room → WroteWithin base (base + room) old new

-- each argument stands at its place
abbrev pub AllStand : ℕ → State → List Tree → List Place → List ValueTree → Type 0
AllStand base m [] [] [] = ⊤
AllStand base m (t ∷ ts) (p ∷ ps) (v ∷ vs) = PlaceStands base m t v p × AllStand base m ts ps vs
AllStand base m _ _ _ = ⊥

-- WHAT NO LEAF OF AN ARGUMENT HAS KEEPS WHAT STOOD THERE
abbrev pub AllKeepUnused : ℕ → State → State → List Tree → List Place → Type 0
AllKeepUnused base old new [] [] = ⊤
AllKeepUnused base old new (t ∷ ts) (p ∷ ps) = PlaceKeepsUnused base t old new p × AllKeepUnused base old new ts ps
AllKeepUnused base old new _ _ = ⊥

-- ---- the hidden result

abbrev pub HiddenStands : ℕ → State → Res → Type 0
HiddenStands base m (Hidden at buffer) = word_in base m at ≡ base + buffer
HiddenStands base m Nothing = ⊤
HiddenStands base m (DirectRes pieces) = ⊤
