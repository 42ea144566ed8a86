use Rattle.std.proofs.Common.{sym, ◌∙◌}
use Rattle.ffi3_capi.specs.DeclaredBy.{IsDeclaredOn}
use Rattle.ffi3_interface.proofs.Answering.{is_interface}
use Rattle.ffi3_interface.proofs.keeping.find_interface.Goals as goal

pub returns-in-Ok-keep-clause-ok : goal.returns-in-Ok-keep-clause-ok
returns-in-Ok-keep-clause-ok c =
    is_interface (IsDeclaredOn c.args.target c.args.declaration) c.args.target c.in-Some.to c.in-Ok.sig c.in-Ok-keep.kept.value (sym c.target_numbered.ensures ∙ c.in-Some.is) c.in-Ok.ensures.ok c.in-Ok-keep.ensures
