use Rattle.std.proofs.Common.{sym, subst}
use Rattle.ffi3_type_spec.specs.Fault.{IsLaidOut}
use Rattle.ffi3_type_spec.proofs.Faults.{scalar_faults}
use Rattle.ffi3_types.proofs.checked.CheckedType.leaf.Goals as goal

pub returns-clause-right : goal.returns-clause-right
returns-clause-right c = subst IsLaidOut (sym c.leaf.ensures.kind) (scalar_faults _)
