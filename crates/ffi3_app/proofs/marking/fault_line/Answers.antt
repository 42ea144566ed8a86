use Rattle.ffi3_types.specs.SignatureFaultOf.{signature_fault_of}
use Rattle.ffi3_app_spec.specs.Declarations.{fault_words}
use Rattle.ffi3_app.proofs.marking.fault_line.Goals as goal

pub returns : goal.returns
returns c =
    c.reason_line.ensures (fault_words (signature_fault_of c.args.fault.now)) c.fault_words.ensures
