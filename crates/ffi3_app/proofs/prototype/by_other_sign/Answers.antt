use Rattle.std.proofs.lemmas.Result.{IfOk-weaker, IfErr-weaker}
use Rattle.ffi3_app.proofs.Working.{refused_unsigned, reads_both, reads_apart}
use Rattle.ffi3_app.proofs.prototype.by_other_sign.Goals as goal

pub returns-in-Ok-clause-read : goal.returns-in-Ok-clause-read
returns-in-Ok-clause-read c =
    IfOk-weaker c.if_alike.result _ _ (λ x h. reads_both c.args.text.now c.args.declaration c.in-Ok.other x c.requires c.in-Ok.ensures.ok h) c.if_alike.ensures.alike

pub returns-in-Ok-clause-refused : goal.returns-in-Ok-clause-refused
returns-in-Ok-clause-refused c =
    IfErr-weaker c.if_alike.result _ _ (λ f h. reads_apart c.args.text.now c.args.declaration c.in-Ok.other f c.requires c.in-Ok.ensures.ok h) c.if_alike.ensures.refused

pub returns-in-Err-clause-refused : goal.returns-in-Err-clause-refused
returns-in-Err-clause-refused c =
    refused_unsigned c.args.text.now c.args.declaration c.in-Err.fault c.place_refusal.result c.requires c.in-Err.ensures.err c.place_refusal.ensures
