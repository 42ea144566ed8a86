-- Arguments that are read from their places, and what stays of the machine.
use Rattle.std.specs.Prelude.{◌≡◌, ℕ, ◌+◌, ◌-◌, ◌≤◌, ⊤, List, get_or}
use Rattle.std.specs.List.{AllByRecursion, Any}
use Rattle.ffi3_type_spec.specs.Tree.{Tree}
use Rattle.ffi3_type_spec.specs.Value.{ValueTree, value_in}
use Rattle.ffi3_place_spec.specs.declared.Piece.{Piece}
use Rattle.ffi3_place_spec.specs.declared.Place.{Place}
use Rattle.ffi3_place_spec.specs.declared.Place.TheVariants.{Direct, ByRef}
use Rattle.ffi3_place_spec.specs.Image.{Image}
use Rattle.ffi3_place_spec.specs.Holds.{Carries, OwnsArgument}
use Rattle.ffi3_type_spec.specs.declared.limits.TheConstants.{STACK_TOP}
use Rattle.ffi3_machine_spec.specs.State.{State, image_of, with_sp}
use Rattle.ffi3_machine_transfer.specs.Stored.{byte_of, word_in}
use Rattle.ffi3_machine_transfer.specs.Standing.{PlaceLies}

-- the machine's registers, and so many bytes of its stack from an address on
abbrev pub image_from : ℕ → ℕ → State → Image
image_from base len m = image_of len (with_sp base m)

-- the pieces that carry a byte have this one
abbrev pub HaveByte : ℕ → State → ℕ → ℕ → List Piece → Type 0
HaveByte base m o x pieces =
    AllByRecursion (λ p. Carries o p → byte_of base m p.loc (o - p.off) ≡ x) pieces

-- each byte that is carried, and by all in the same way, is read
abbrev pub AreLoaded : ℕ → State → List Piece → List ℕ → Type 0
AreLoaded base m pieces out =
    (o x : ℕ) → HaveByte base m o x pieces → Any (Carries o) pieces → get_or out o 0 ≡ x

-- the address of a copy stands at the place of an argument by reference
abbrev pub IsFound : ℕ → State → Place → Type 0
IsFound base m (Direct pieces) = ⊤
IsFound base m (ByRef at copy) = word_in base m at ≡ base + copy

abbrev pub AreFound : ℕ → State → List Place → Type 0
AreFound base m places = AllByRecursion (IsFound base m) places

-- THE BYTES HAVE EVERY VALUE THAT THE IMAGE OWNS AT THE PLACE
abbrev pub IsRead : ℕ → State → Tree → Place → List ℕ → Type 0
IsRead base m t p bytes =
    (room : ℕ)
    → PlaceLies room t p → base + room ≤ STACK_TOP → (v : ValueTree) → OwnsArgument (image_from base room m) 0 t p v
    → value_in t bytes ≡ v
