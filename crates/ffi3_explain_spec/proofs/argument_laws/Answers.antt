use Rattle.ffi3_explain_spec.proofs.Arguments.{are_read}
use Rattle.ffi3_explain_spec.proofs.argument_laws.Goals as goal

pub returns : goal.returns
returns c = are_read
