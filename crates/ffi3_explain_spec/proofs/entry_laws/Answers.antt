use Rattle.ffi3_explain_spec.proofs.Entries.{journal_is_explained}
use Rattle.ffi3_explain_spec.proofs.entry_laws.Goals as goal

pub returns : goal.returns
returns c = journal_is_explained
