use Rattle.ffi3_explain_spec.proofs.Laws.{is_explained}
use Rattle.ffi3_explain_spec.proofs.explain_laws.Goals as goal

pub returns : goal.returns
returns c = is_explained
