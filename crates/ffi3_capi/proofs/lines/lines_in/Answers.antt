use Rattle.std.proofs.Common.{subst}
use Rattle.std.proofs.lemmas.Result.{IfOk-weaker}
use Rattle.ffi3_cdecl_spec.specs.Tokens.{Sign}
use Rattle.ffi3_cdecl_spec.specs.Reading.{reads}
use Rattle.ffi3_cdecl_spec.specs.ReadingFor.{IsReadingFor}
use Rattle.ffi3_cdecl.specs.Tells.{Tells}
use Rattle.ffi3_format_spec.specs.declared.Format.{Format}
use Rattle.ffi3_capi.specs.Chars.{char_sign}
use Rattle.ffi3_capi.proofs.InLines.{no_lines}
use Rattle.ffi3_capi.proofs.lines.lines_in.Goals as goal

pub returns-in-Ok : goal.returns-in-Ok
returns-in-Ok c =
    let here = subst (λ (g : Sign). IsReadingFor c.long_double_on.result g c.args.text.now (reads c.in-Ok.declaration)) c.char_sign.ensures c.in-Ok.ensures.ok in
    λ utf8 some. no_lines c.args.target c.args.text.now c.new.result c.in-Ok.declaration.signature c.new.ensures some (utf8, c.in-Ok.declaration.called, subst (λ (f : Format). IsReadingFor f (char_sign c.args.target) c.args.text.now (reads c.in-Ok.declaration)) c.long_double_on.ensures here)

pub returns-in-Err : goal.returns-in-Err
returns-in-Err c =
    let here = subst (λ (g : Sign). Tells (IsReadingFor c.long_double_on.result g c.args.text.now) c.in-Err.fault) c.char_sign.ensures c.in-Err.ensures.err in
    let there = subst (λ (f : Format). Tells (IsReadingFor f (char_sign c.args.target) c.args.text.now) c.in-Err.fault) c.long_double_on.ensures here in
    IfOk-weaker c.lines_of.result _ _ (λ ls e utf8 some. e utf8 some there) c.lines_of.ensures
