-- A value in doublewords, and a leaf in a place of its own; what fills the rest of a lone integer's place.
use Rattle.std.specs.Prelude.{ℕ, zero, suc, ◌+◌, ◌*◌, ◌/◌, List, [], ◌∷◌}
use Rattle.ffi3_type_spec.specs.Tree.{Tree, scalar, Scalar, u8, s8, u16, s16, u32, s32, u64, s64, u128, s128, float}
use Rattle.ffi3_type_spec.specs.Tree.{double, pointer, x87, binary128}
use Rattle.ffi3_type_spec.specs.Layout.{Leaf, size_of, scalar_size}
use Rattle.ffi3_place_spec.specs.declared.Loc.{Loc}
use Rattle.ffi3_place_spec.specs.declared.Loc.TheVariants.{S}
use Rattle.ffi3_place_spec.specs.declared.Ext.{Ext}
use Rattle.ffi3_place_spec.specs.declared.Ext.TheVariants.{Free, Widen}
use Rattle.ffi3_place_spec.specs.declared.Piece.{Piece}
use Rattle.ffi3_place_spec.specs.Standard.{doubleword}

-- how many doublewords a value takes
abbrev pub doublewords : Tree → ℕ
doublewords t = (size_of t + 7) / 8

-- The rest of a lone integer's place is filled as given, where the integer is narrower than eight bytes. All else leaves it free.
abbrev pub filling_of_scalar : Ext → Scalar → Ext
filling_of_scalar e u8 = e
filling_of_scalar e s8 = e
filling_of_scalar e u16 = e
filling_of_scalar e s16 = e
filling_of_scalar e u32 = e
filling_of_scalar e s32 = e
filling_of_scalar e u64 = Free
filling_of_scalar e s64 = Free
filling_of_scalar e u128 = Free
filling_of_scalar e s128 = Free
filling_of_scalar e float = Free
filling_of_scalar e double = Free
filling_of_scalar e pointer = Free
filling_of_scalar e x87 = Free
filling_of_scalar e binary128 = Free

abbrev pub filling : Ext → Tree → Ext
filling e (scalar s) = filling_of_scalar e s
filling e _ = Free

-- Such an integer is extended by its sign. (This library's rule: the standards that use it leave the bits above it open.)
abbrev pub widening : Tree → Ext
widening t = filling Widen t

-- the doublewords from number j on of a value of so many bytes, each at its place
abbrev pub doublewords_at : (ℕ → Loc) → ℕ → Ext → ℕ → ℕ → List Piece
doublewords_at place size e j zero = []
doublewords_at place size e j (suc count) =
    doubleword (place j) j size e ∷ doublewords_at place size e (j + 1) count

-- a value's doublewords on the stack, from an offset on
abbrev pub stack_pieces : ℕ → Tree → List Piece
stack_pieces start t =
    doublewords_at (λ j. S (start + 8 * j) 8) (size_of t) (widening t) 0 (doublewords t)

-- a leaf in its place
abbrev pub leaf_piece : Loc → Ext → Leaf → Piece
leaf_piece at e l = record { loc = at; off = l.at; len = scalar_size l.kind; ext = e }
