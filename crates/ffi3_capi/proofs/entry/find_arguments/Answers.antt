use Rattle.std.proofs.Common.{sym, ◌∙◌}
use Rattle.ffi3_transfer.specs.Stored.{image_in}
use Rattle.ffi3_capi.specs.DeclaredBy.{IsDeclaredOn, IsFaultOn}
use Rattle.ffi3_capi.proofs.Answering.{are_not_read}
use Rattle.ffi3_capi.proofs.entry.find_arguments.Goals as goal

pub returns-in-Ok-on_target-clause-found : goal.returns-in-Ok-on_target-clause-found
returns-in-Ok-on_target-clause-found c = record {
  to = c.in-Some.to;
  signature = c.in-Ok.sig;
  call = record { to_is = sym c.target_numbered.ensures ∙ c.in-Some.is; declared = c.in-Ok.ensures.ok };
  found = c.in-Ok-on_target.ensures.0;
}

pub returns-in-Err-clause-unread : goal.returns-in-Err-clause-unread
returns-in-Err-clause-unread c =
    are_not_read (IsDeclaredOn c.args.target c.args.declaration) (IsFaultOn c.args.target c.args.declaration) c.args.target (image_in c.args.registers.now c.args.stack.now) c.in-Some.to c.in-Ok.sig c.in-Err.unread (sym c.target_numbered.ensures ∙ c.in-Some.is) c.in-Ok.ensures.ok c.in-Err.ensures.1
