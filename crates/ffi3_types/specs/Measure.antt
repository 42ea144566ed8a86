-- The number of nodes, by which recursions over types end: a struct or an array has more than each of its elements.
use Rattle.std.specs.Prelude.{◌≤◌, max, List, [], ◌∷◌, map}
use Rattle.std.proofs.Common.{arith}
use denote.Param.Weighed.{most}
use Rattle.ffi3_type_spec.specs.Tree.{nodes, all_nodes, trees_of}
use Rattle.ffi3_types.specs.TreeOf.{tree_of}
use Rattle.ffi3_types.specs.declared.Fields.TheDeep.{deep-FfiType}
use Rattle.ffi3_types.specs.declared.FfiType.{FfiType}
use Rattle.ffi3_types.specs.declared.FfiType.TheVariants.{Struct, Array}

depth_le-nodes : (t : FfiType) → deep-FfiType t ≤ nodes (tree_of t)
depth_le-nodes (Struct fields) = omega arith
depth_le-nodes (Array fields count) = omega arith
depth_le-nodes _ = omega arith

pub most_le-nodes : (ts : List FfiType) → max (most deep-FfiType ts) 0 ≤ all_nodes (trees_of (map tree_of ts))
most_le-nodes [] = omega arith
most_le-nodes (t ∷ ts) = omega (arith, depth_le-nodes t, most_le-nodes ts)
