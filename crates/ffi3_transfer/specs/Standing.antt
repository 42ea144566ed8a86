-- The arguments of a buffer, whose bytes stand at their places in an image, as a step towards `Holds`, which says it in the standards' words.
use Rattle.std.specs.Prelude.{ℕ, ⊤, List, [], ◌∷◌}
use Rattle.ffi3_type_spec.specs.Tree.{Tree}
use Rattle.ffi3_place_spec.specs.declared.Place.{Place}
use Rattle.ffi3_place_spec.specs.Image.{Image}
use Rattle.ffi3_marshal.specs.Standing.{PlaceStands}
use Rattle.ffi3_transfer.specs.Packed.{first_in, behind}

-- each argument of the buffer stands at its place
abbrev pub AllStand : ℕ → Image → List Tree → List Place → List ℕ → Type 0
AllStand base m [] [] bytes = ⊤
AllStand base m (t ∷ ts) (p ∷ ps) bytes =
    PlaceStands base m t (first_in t bytes) p × AllStand base m ts ps (behind t bytes)
AllStand base m _ _ bytes = ⊥
