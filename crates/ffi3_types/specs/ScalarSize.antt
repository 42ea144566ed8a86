-- The bytes that a scalar takes, which are its alignment too.
use Rattle.std.specs.Prelude.{ℕ}
use Rattle.ffi3_type_spec.specs.Tree.{Tree, void, scalar, left_out, structure, array}
use Rattle.ffi3_type_spec.specs.Layout.{scalar_size, scalar_room}

-- 0 of any other type
abbrev pub scalar_size_of : Tree → ℕ
scalar_size_of void = 0
scalar_size_of (scalar s) = scalar_room s
scalar_size_of (left_out k) = 0
scalar_size_of (structure ts) = 0
scalar_size_of (array ts n) = 0

-- the bytes of a scalar's value; 0 of any other type
abbrev pub value_size_of : Tree → ℕ
value_size_of void = 0
value_size_of (scalar s) = scalar_size s
value_size_of (left_out k) = 0
value_size_of (structure ts) = 0
value_size_of (array ts n) = 0
