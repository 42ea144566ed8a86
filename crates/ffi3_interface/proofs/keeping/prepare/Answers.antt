use Rattle.ffi3_capi.specs.DeclaredBy.{IsDeclaredOn, IsFaultOn}
use Rattle.ffi3_interface.proofs.Answering.{prepared_as, refused_as}
use Rattle.ffi3_interface.proofs.keeping.prepare.Goals as goal

pub returns-in-Ok : goal.returns-in-Ok
returns-in-Ok c =
    prepared_as (IsDeclaredOn c.args.target c.args.declaration) (IsFaultOn c.args.target c.args.declaration) c.args.target c.args.it.now.kept c.in-Ok.kept.value c.fault_with.result c.put.new.self.kept c.in-Ok.ensures.ok c.fault_with.ensures c.put.ensures

pub returns-in-Err : goal.returns-in-Err
returns-in-Err c =
    refused_as (IsDeclaredOn c.args.target c.args.declaration) (IsFaultOn c.args.target c.args.declaration) c.args.target c.args.it.now.kept c.in-Err.refusal c.fault.result c.status.result c.in-Err.ensures.err c.fault.ensures c.status.ensures
