use Rattle.ffi3_cdecl.specs.TokenOf.{sign_of}
use Rattle.ffi3_capi.proofs.Declared.{is_no_text_in}
use Rattle.ffi3_capi.proofs.reading.declared_by_text_in.Goals as goal

pub returns-in-Err-clause-err : goal.returns-in-Err-clause-err
returns-in-Err-clause-err c =
    λ f is. is_no_text_in c.args.format (sign_of c.args.sign) c.args.bytes.now f c.fault_with.result c.in-Err.ensures.cases.0 c.fault_with.ensures is
