-- The value that each Rust value stands for.
use Rattle.ffi3_type_spec.specs.Value.{ValueTree, void_value, leaf_value, struct_value, values_of}
use Rattle.ffi3_values.specs.declared.Value.{Value}
use Rattle.ffi3_values.specs.declared.Value.TheVariants.{Void, Leaf, List as Elements}

abbrev pub value_of : Value → ValueTree
value_of Void = void_value
value_of (Leaf bytes) = leaf_value bytes
value_of (Elements values) = struct_value (values_of values)
