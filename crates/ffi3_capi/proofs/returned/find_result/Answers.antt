use Rattle.std.proofs.Common.{sym, ◌∙◌}
use Rattle.ffi3_transfer.specs.Stored.{image_in}
use Rattle.ffi3_capi.specs.DeclaredBy.{IsDeclaredOn, IsFaultOn}
use Rattle.ffi3_capi.proofs.Results.{is_not_found}
use Rattle.ffi3_capi.proofs.returned.find_result.Goals as goal

pub returns-in-Ok-on_target-clause-found : goal.returns-in-Ok-on_target-clause-found
returns-in-Ok-on_target-clause-found c = record {
  to = c.in-Some.to;
  signature = c.in-Ok.sig;
  call = record { to_is = sym c.target_numbered.ensures ∙ c.in-Some.is; declared = c.in-Ok.ensures.ok };
  found = c.in-Ok-on_target.ensures.0;
}

pub returns-in-Err-clause-unfound : goal.returns-in-Err-clause-unfound
returns-in-Err-clause-unfound c =
    is_not_found (IsDeclaredOn c.args.target c.args.declaration) (IsFaultOn c.args.target c.args.declaration) c.args.target (image_in c.args.registers.now c.args.stack.now) c.in-Some.to c.in-Ok.sig c.in-Err.unfound (sym c.target_numbered.ensures ∙ c.in-Some.is) c.in-Ok.ensures.ok c.in-Err.ensures.1
