use Rattle.ffi3_format_spec.proofs.Resolving.{format_laws}
use Rattle.ffi3_format_spec.proofs.format_laws.Goals as goal

pub returns : goal.returns
returns c = format_laws
