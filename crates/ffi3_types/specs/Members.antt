-- The elements of a struct or an array, from a list of types.
use Rattle.std.specs.Prelude.{ℕ, ◌<◌, ◌^◌, ⊤, List, length, replicate, Option, Some, None}
use Rattle.ffi3_type_spec.specs.Tree.{Tree, tree_at}

-- all of the list, or so many of its first
abbrev pub members_of : List Tree → Option ℕ → List Tree
members_of ts None = ts
members_of ts (Some n) = replicate n (tree_at ts 0)

-- where there is a count, there is a first
abbrev pub HasMembers : List Tree → Option ℕ → Type 0
HasMembers ts None = ⊤
HasMembers ts (Some n) = (0 < length ts) × (n < 2 ^ 32)
