-- The fault, and its path, that a Rust error tells.
use Rattle.std.specs.Prelude.{ℕ, List}
use Rattle.ffi3_type_spec.specs.Fault.{Fault, bad_typedef, left_out_type, too_large, too_deep}
use Rattle.ffi3_types.specs.TreeOf.{tree_of}
use Rattle.ffi3_types.specs.declared.fault.TypeFault.{TypeFault}
use Rattle.ffi3_types.specs.declared.fault.TypeFault.TheVariants.{BadTypedef, LeftOut, TooLarge, TooDeep}

abbrev pub path_of : TypeFault → List ℕ
path_of (BadTypedef path) = path
path_of (LeftOut path kind) = path
path_of (TooLarge path size) = path
path_of (TooDeep path) = path

abbrev pub fault_of : TypeFault → Fault
fault_of (BadTypedef path) = bad_typedef
fault_of (LeftOut path kind) = left_out_type (tree_of kind)
fault_of (TooLarge path size) = too_large size
fault_of (TooDeep path) = too_deep
