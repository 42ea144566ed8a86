use Rattle.ffi3_cdecl_spec.proofs.Readings.{declaration_laws}
use Rattle.ffi3_cdecl_spec.proofs.declaration_laws.Goals as goal

pub returns : goal.returns
returns c = declaration_laws
