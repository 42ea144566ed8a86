-- Words for the worked rows of the standards.
use Rattle.std.specs.Prelude.{ℕ, List, [], ◌∷◌, Some, None}
use Rattle.ffi3_type_spec.specs.Tree.{Tree, scalar, struct_of, u8, u64, s64, u128}
use Rattle.ffi3_type_spec.specs.Signature.{Signature}
use Rattle.ffi3_place_spec.specs.declared.Loc.{Loc}
use Rattle.ffi3_place_spec.specs.declared.Ext.TheVariants.{Free, Widen}
use Rattle.ffi3_place_spec.specs.declared.Piece.{Piece}
use Rattle.ffi3_place_spec.specs.declared.Place.{Place}
use Rattle.ffi3_place_spec.specs.declared.Place.TheVariants.{Direct}

abbrev pub sig_of : Tree → List Tree → Signature
sig_of r a = record { result_type = r; arguments = a; fixed = None }

abbrev pub at : Loc → ℕ → ℕ → Piece
at l o n = record { loc = l; off = o; len = n; ext = Free }

abbrev pub widened : Loc → ℕ → Piece
widened l n = record { loc = l; off = 0; len = n; ext = Widen }

-- a whole doubleword in one place
abbrev pub alone : Loc → Place
alone l = Direct (at l 0 8 ∷ [])

abbrev pub integer : Tree
integer = scalar s64

abbrev pub pair : Tree
pair = struct_of (scalar s64 ∷ scalar s64 ∷ [])

abbrev pub triple : Tree
triple = struct_of (scalar u64 ∷ scalar u64 ∷ scalar u64 ∷ [])

abbrev pub wide : Tree
wide = scalar u128

-- struct{uint8,uint128}: 32 bytes, aligned to 16
abbrev pub byte_and_wide : Tree
byte_and_wide = struct_of (scalar u8 ∷ wide ∷ [])

abbrev pub variadic_from : Tree → List Tree → ℕ → Signature
variadic_from r a n = record { result_type = r; arguments = a; fixed = Some n }

-- a 128-bit integer in two places
abbrev pub halves : Loc → Loc → Place
halves low high = Direct (at low 0 8 ∷ at high 8 8 ∷ [])
