use Rattle.std.proofs.Common.{sym, ◌∙◌}
use Rattle.ffi3_cdecl.specs.TokenOf.{sign_of}
use Rattle.ffi3_capi.proofs.Declared.{is_misread_in}
use Rattle.ffi3_capi.proofs.reading.read_in.Goals as goal

pub returns-in-Err-clause-err : goal.returns-in-Err-clause-err
returns-in-Err-clause-err c =
    λ f is utf8. is_misread_in c.args.format (sign_of c.args.sign) c.args.text.now c.in-Err.fault f c.in-Err.ensures.err utf8 (sym c.told.ensures ∙ is)
