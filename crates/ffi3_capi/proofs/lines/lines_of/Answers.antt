use Rattle.std.proofs.Common.{◌++◌, List, ℕ, ap, subst, ◌∙◌}
use Rattle.std.proofs.lemmas.Result.{IfOk-weaker}
use Rattle.ffi3_types.specs.SignatureFaultOf.{signature_fault_of}
use Rattle.ffi3_diagnostics_spec.specs.ToldText.{lines_at}
use Rattle.ffi3_cdecl_spec.specs.ReadingFor.{IsReadingFor}
use Rattle.ffi3_cdecl.specs.Tells.{Tells}
use Rattle.ffi3_capi.specs.Chars.{char_sign}
use Rattle.ffi3_capi.specs.FaultLines.{place_line}
use Rattle.ffi3_capi.specs.Formats.{long_double_on}
use Rattle.ffi3_capi.proofs.Declared.{bad_token_in, bad_number_in, unexpected_in}
use Rattle.ffi3_capi.proofs.InLines.{lines_bad_token, lines_bad_number, lines_of_signature}
use Rattle.ffi3_capi.proofs.lines.lines_of.Goals as goal

pub returns-in-BadToken : goal.returns-in-BadToken
returns-in-BadToken c =
    IfOk-weaker c.lines_with.result _ _ (λ ls e utf8 some is. lines_bad_token c.args.target c.args.text.now ls c.in-BadToken.at (e ∙ ap (λ (words : List ℕ). place_line c.in-BadToken.at words ++ lines_at c.args.text.now c.in-BadToken.at) c.as_bytes.ensures.value) utf8 some (bad_token_in (long_double_on c.args.target) (char_sign c.args.target) c.args.text.now c.in-BadToken.at (subst (Tells (IsReadingFor (long_double_on c.args.target) (char_sign c.args.target) c.args.text.now)) c.in-BadToken.is is))) c.lines_with.ensures

pub returns-in-BadNumber : goal.returns-in-BadNumber
returns-in-BadNumber c =
    IfOk-weaker c.lines_with-in-BadNumber.result _ _ (λ ls e utf8 some is. lines_bad_number c.args.target c.args.text.now ls c.in-BadNumber.at (e ∙ ap (λ (words : List ℕ). place_line c.in-BadNumber.at words ++ lines_at c.args.text.now c.in-BadNumber.at) c.as_bytes-in-BadNumber.ensures.value) utf8 some (bad_number_in (long_double_on c.args.target) (char_sign c.args.target) c.args.text.now c.in-BadNumber.at (subst (Tells (IsReadingFor (long_double_on c.args.target) (char_sign c.args.target) c.args.text.now)) c.in-BadNumber.is is))) c.lines_with-in-BadNumber.ensures

pub returns-in-Sig : goal.returns-in-Sig
returns-in-Sig c =
    IfOk-weaker c.signature_line.result _ _ (λ ls e utf8 some is. lines_of_signature c.args.target c.args.text.now ls (signature_fault_of c.in-Sig.sig) e utf8 some (subst (Tells (IsReadingFor (long_double_on c.args.target) (char_sign c.args.target) c.args.text.now)) c.in-Sig.is is)) c.signature_line.ensures

pub returns-in-Unexpected : goal.returns-in-Unexpected
returns-in-Unexpected c =
    IfOk-weaker c.unexpected_lines.result _ _ (λ ls e utf8 some is. e utf8 some (unexpected_in (long_double_on c.args.target) (char_sign c.args.target) c.args.text.now c.in-Unexpected.at (subst (Tells (IsReadingFor (long_double_on c.args.target) (char_sign c.args.target) c.args.text.now)) c.in-Unexpected.is is))) c.unexpected_lines.ensures
