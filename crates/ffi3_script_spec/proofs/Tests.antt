-- What the tests of the script language tell of scalars, beside what tests tell of types.
use Rattle.std.proofs.Common.{◌≡◌, true}
use Rattle.ffi3_type_spec.specs.Tree.{Scalar}
use Rattle.ffi3_type_spec.proofs.Tests.{scalars_of_number}
pub use Rattle.ffi3_type_spec.proofs.Tests.{and_left, and_right, both, if_true, if_false, types_are_same, type_is_itself, types_are_themselves}
use Rattle.ffi3_script_spec.specs.Typed.{same_scalar}

pub scalars_are_same : (r s : Scalar) → same_scalar r s ≡ true → r ≡ s
scalars_are_same r s h = scalars_of_number r s h
