use Rattle.ffi3_types.specs.SignatureFaultOf.{position_of}
use Rattle.ffi3_app_spec.specs.Declarations.{sign_words}
use Rattle.ffi3_app.proofs.prototype.sign_line.Goals as goal

pub returns : goal.returns
returns c =
    c.reason_line.ensures (sign_words (position_of c.args.at)) c.sign_words.ensures
