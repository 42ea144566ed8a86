use Rattle.ffi3_app.proofs.Working.{refused_signed}
use Rattle.ffi3_app.proofs.prototype.by_both_signs.Goals as goal

pub returns-in-Err-clause-refused : goal.returns-in-Err-clause-refused
returns-in-Err-clause-refused c =
    refused_signed c.args.text.now c.in-Err.fault c.place_refusal.result c.in-Err.ensures.err c.place_refusal.ensures
