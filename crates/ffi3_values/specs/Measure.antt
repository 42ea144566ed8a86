-- The number of nodes, by which recursions over values end: that of a struct or an array has more than each of its elements.
use Rattle.std.specs.Prelude.{◌≤◌, max, List, [], ◌∷◌, map}
use Rattle.std.proofs.Common.{arith}
use denote.Param.Weighed.{most}
use Rattle.ffi3_type_spec.specs.Value.{value_nodes, all_value_nodes, values_of}
use Rattle.ffi3_values.specs.ValueOf.{value_of}
use Rattle.ffi3_values.specs.declared.Values.TheDeep.{deep-Value}
use Rattle.ffi3_values.specs.declared.Value.{Value}
use Rattle.ffi3_values.specs.declared.Value.TheVariants.{Void, Leaf, List as Elements}

depth_le-nodes : (v : Value) → deep-Value v ≤ value_nodes (value_of v)
depth_le-nodes Void = omega arith
depth_le-nodes (Leaf bytes) = omega arith
depth_le-nodes (Elements values) = omega arith

pub most_le-nodes : (vs : List Value) → max (most deep-Value vs) 0 ≤ all_value_nodes (values_of (map value_of vs))
most_le-nodes [] = omega arith
most_le-nodes (v ∷ vs) = omega (arith, depth_le-nodes v, most_le-nodes vs)
