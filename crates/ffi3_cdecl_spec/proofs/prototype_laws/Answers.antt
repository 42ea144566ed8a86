use Rattle.ffi3_cdecl_spec.proofs.Prototypes.{prototype_laws}
use Rattle.ffi3_cdecl_spec.proofs.prototype_laws.Goals as goal

pub returns : goal.returns
returns c = prototype_laws
