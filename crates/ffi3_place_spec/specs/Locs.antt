-- The registers and stack offsets in which a place has what it carries: those of its pieces, or that of an address.
use Rattle.std.specs.Prelude.{◌≡◌, ℕ, List, [], ◌∷◌, map}
use Rattle.ffi3_place_spec.specs.declared.Loc.{Loc}
use Rattle.ffi3_place_spec.specs.declared.Loc.TheVariants.{G, F, S}
use Rattle.ffi3_place_spec.specs.declared.Piece.{Piece}
use Rattle.ffi3_place_spec.specs.declared.Place.{Place}
use Rattle.ffi3_place_spec.specs.declared.Place.TheVariants.{Direct, ByRef}

-- the bytes of a place
abbrev pub place_size : Loc → ℕ
place_size (G r) = 8
place_size (F r) = 8
place_size (S n w) = w

-- it has the eight bytes of a word
abbrev pub IsWhole : Loc → Type 0
IsWhole l = place_size l ≡ 8

-- the places of pieces
abbrev pub piece_locs : List Piece → List Loc
piece_locs pieces = map (λ p. p.loc) pieces

-- an argument's places: those of its pieces, or the one of the address of its copy
abbrev pub place_locs : Place → List Loc
place_locs (Direct pieces) = piece_locs pieces
place_locs (ByRef at copy) = at ∷ []
