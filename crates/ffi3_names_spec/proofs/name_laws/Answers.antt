use Rattle.ffi3_names_spec.proofs.Naming.{name_laws}
use Rattle.ffi3_names_spec.proofs.name_laws.Goals as goal

pub returns : goal.returns
returns c = name_laws
