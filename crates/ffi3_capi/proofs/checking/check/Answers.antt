use Rattle.std.proofs.Common.{subst}
use Rattle.ffi3_cdecl_spec.specs.Tokens.{Sign}
use Rattle.ffi3_cdecl_spec.specs.Reading.{reads}
use Rattle.ffi3_cdecl_spec.specs.ReadingFor.{IsReadingFor}
use Rattle.ffi3_cdecl.specs.Tells.{Tells}
use Rattle.ffi3_format_spec.specs.declared.Format.{Format}
use Rattle.ffi3_capi.specs.Chars.{char_sign}
use Rattle.ffi3_capi.proofs.Checks.{declares_told}
use Rattle.ffi3_capi.proofs.checking.check.Goals as goal

pub returns-in-Ok : goal.returns-in-Ok
returns-in-Ok c =
    let here = subst (λ (g : Sign). IsReadingFor c.long_double_on.result g c.args.text.now (reads c.in-Ok.declaration)) c.char_sign.ensures c.in-Ok.ensures.ok in
    λ utf8 some. declares_told c.args.target c.args.text.now c.in-Ok.declaration.signature c.fault_with.result c.nothing_beside.result c.fault_with.ensures c.nothing_beside.ensures some (utf8, c.in-Ok.declaration.called, subst (λ (f : Format). IsReadingFor f (char_sign c.args.target) c.args.text.now (reads c.in-Ok.declaration)) c.long_double_on.ensures here)

pub returns-in-Err : goal.returns-in-Err
returns-in-Err c =
    let here = subst (λ (g : Sign). Tells (IsReadingFor c.long_double_on.result g c.args.text.now) c.in-Err.fault) c.char_sign.ensures c.in-Err.ensures.err in
    λ utf8 some. c.tell_fault.ensures utf8 some (subst (λ (f : Format). Tells (IsReadingFor f (char_sign c.args.target) c.args.text.now) c.in-Err.fault) c.long_double_on.ensures here)
