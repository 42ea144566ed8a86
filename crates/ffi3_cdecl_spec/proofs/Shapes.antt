-- Shapes behind brackets and lists.
use Rattle.std.proofs.Common.{◌≡◌, ℕ, List, [], ◌∷◌, Some, refl}
use Rattle.ffi3_type_spec.specs.Tree.{Tree, array_of}
use Rattle.ffi3_cdecl_spec.specs.Grammar.{whole, bare, nothing, pointer_type, Shape, a_value, an_array, handed, pointer_shape, array_shape, passed, member_type}
use Rattle.ffi3_cdecl_spec.specs.Machine.{arrays}

-- arrays of these counts, the last first
abbrev pub arrays_shape : List ℕ → Shape → Shape
arrays_shape [] s = s
arrays_shape (n ∷ ns) s = arrays_shape ns (array_shape s n)

pub handed_arrays : (ns : List ℕ) → arrays_shape ns handed ≡ handed
handed_arrays [] = refl
handed_arrays (n ∷ ns) = handed_arrays ns

pub array_member : (ns : List ℕ) (t : Tree) → member_type (arrays_shape ns (an_array t)) ≡ Some (arrays ns t)
array_member [] t = refl
array_member (n ∷ ns) t = array_member ns (array_of t n)

pub value_member : (ns : List ℕ) (t : Tree) → member_type (arrays_shape ns (a_value (whole t))) ≡ Some (arrays ns t)
value_member [] t = refl
value_member (n ∷ ns) t = array_member ns (array_of t n)

-- ---- what is a pointer as a parameter, and not `void`

abbrev pub IsntVoid : Shape → Type 0
IsntVoid s = s ≡ a_value nothing → ⊥

pub record Lent (s : Shape) : Type 0 where
  pub is_passed : passed s ≡ Some pointer_type
  pub isnt_void : IsntVoid s

array_isnt_void : (t : Tree) → IsntVoid (an_array t)
array_isnt_void t e = cc

pub lent_handed : Lent handed
lent_handed = record { is_passed = refl; isnt_void = λ e. cc }

pub lent_pointer : Lent pointer_shape
lent_pointer = record { is_passed = refl; isnt_void = λ e. cc }

pub lent_array : (s : Shape) (n : ℕ) → Lent (array_shape s n)
lent_array (a_value (whole t)) n =
    record { is_passed = refl; isnt_void = array_isnt_void (array_of t n) }
lent_array (an_array t) n =
    record { is_passed = refl; isnt_void = array_isnt_void (array_of t n) }
lent_array _ n = lent_handed

pub whole_isnt_void : (t : Tree) → IsntVoid (a_value (whole t))
whole_isnt_void t e = cc

pub bare_isnt_void : IsntVoid (a_value bare)
bare_isnt_void e = cc
