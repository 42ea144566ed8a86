use Rattle.ffi3_type_spec.proofs.LayoutLaws.{well_laid_out}
use Rattle.ffi3_type_spec.proofs.Arrays.{array_is_struct_of_equals, array_is_its_elements}
use Rattle.ffi3_types.specs.TreeOf.{tree_of}
use Rattle.ffi3_types.proofs.laws.layout_laws.Goals as goal

pub returns-clause-well : goal.returns-clause-well
returns-clause-well c = well_laid_out (tree_of c.args._ty.now)

pub returns-clause-array_is_struct : goal.returns-clause-array_is_struct
returns-clause-array_is_struct c = array_is_struct_of_equals

pub returns-clause-array_is_its_elements : goal.returns-clause-array_is_its_elements
returns-clause-array_is_its_elements c = array_is_its_elements
