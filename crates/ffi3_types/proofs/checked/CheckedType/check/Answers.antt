use Rattle.ffi3_type_spec.proofs.Faults.{right_anywhere}
use Rattle.ffi3_types.specs.FirstElement.{role_of}
use Rattle.ffi3_types.proofs.checked.CheckedType.check.Goals as goal

pub invariant_of-result : goal.invariant_of-result
invariant_of-result c = right_anywhere 0 (role_of c.args.as_result) _ c.in_default.ensures.ok
