use Rattle.std.proofs.Common.{sym, ◌∙◌}
use Rattle.ffi3_transfer.specs.Stored.{image_in}
use Rattle.ffi3_capi.specs.DeclaredBy.{IsDeclaredOn, IsFaultOn}
use Rattle.ffi3_capi.proofs.OneByOne.{are_unseen}
use Rattle.ffi3_capi.proofs.each.see.Goals as goal

pub returns-in-Ok-on_target-clause-seen : goal.returns-in-Ok-on_target-clause-seen
returns-in-Ok-on_target-clause-seen c = record {
  to = c.in-Some.to;
  signature = c.in-Ok.sig;
  call = record { to_is = sym c.target_numbered.ensures ∙ c.in-Some.is; declared = c.in-Ok.ensures.ok };
  seen = c.in-Ok-on_target.ensures.0;
}

pub returns-in-Err-clause-unseen : goal.returns-in-Err-clause-unseen
returns-in-Err-clause-unseen c =
    are_unseen (IsDeclaredOn c.args.target c.args.declaration) (IsFaultOn c.args.target c.args.declaration) c.args.target (image_in c.args.registers.now c.args.stack.now) c.in-Some.to c.in-Ok.sig c.in-Err.unseen (sym c.target_numbered.ensures ∙ c.in-Some.is) c.in-Ok.ensures.ok c.in-Err.ensures.1
