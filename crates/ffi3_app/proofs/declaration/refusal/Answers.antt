use Rattle.std.specs.Prelude.{codes}
use Rattle.ffi3_json.specs.ReasonOf.{reason_of}
use Rattle.ffi3_script_spec.specs.ReasonText.{text_of_reason}
use Rattle.ffi3_app_spec.specs.Declarations.{offset_line, reason_line}
use Rattle.ffi3_app.specs.Work.{IsFaultToldAs}
use Rattle.ffi3_app.proofs.Working.{of_same, reason_told}
use Rattle.ffi3_app.proofs.declaration.refusal.Goals as goal

pub returns-in-BadToken : goal.returns-in-BadToken
returns-in-BadToken c =
    of_same (λ f. IsFaultToldAs f c.refused.result) c.in-BadToken.is (c.refused.ensures (offset_line c.in-BadToken.at (codes "bad token")) c.offset_line.ensures)

pub returns-in-Unexpected : goal.returns-in-Unexpected
returns-in-Unexpected c =
    of_same (λ f. IsFaultToldAs f c.refused-in-Unexpected.result) c.in-Unexpected.is (c.refused-in-Unexpected.ensures (offset_line c.in-Unexpected.at (codes "unexpected")) c.offset_line-in-Unexpected.ensures)

pub returns-in-BadNumber : goal.returns-in-BadNumber
returns-in-BadNumber c =
    of_same (λ f. IsFaultToldAs f c.refused-in-BadNumber.result) c.in-BadNumber.is (c.refused-in-BadNumber.ensures (offset_line c.in-BadNumber.at (codes "bad number")) c.offset_line-in-BadNumber.ensures)

pub returns-in-Sig : goal.returns-in-Sig
returns-in-Sig c =
    let words = text_of_reason (reason_of c.reason_of_signature-reason.result) in
    reason_told c.args.fault.now c.in-Sig.fault c.reason_of_signature-reason.result c.refused-in-Sig.result c.in-Sig.is c.reason_of_signature-reason.ensures (c.refused-in-Sig.ensures (reason_line words) (c.reason_line.ensures words c.reason_text.ensures))
