use Rattle.ffi3_cdecl_spec.proofs.Told.{fault_laws}
use Rattle.ffi3_cdecl_spec.proofs.fault_laws.Goals as goal

pub returns : goal.returns
returns c = fault_laws
