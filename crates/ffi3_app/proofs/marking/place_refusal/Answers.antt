use Rattle.std.proofs.Common.{◌≡◌, subst}
use Rattle.std.specs.Prelude.{IfOk, codes}
use Rattle.ffi3_types.specs.SignatureFaultOf.{signature_fault_of}
use Rattle.ffi3_app_spec.specs.Declarations.{marked_line, unexpected_line, fault_line}
use Rattle.ffi3_app.specs.Work.{IsPlaceToldAs}
use Rattle.ffi3_app.proofs.Working.{of_same}
use Rattle.ffi3_app.proofs.marking.place_refusal.Goals as goal

pub returns-in-BadToken : goal.returns-in-BadToken
returns-in-BadToken c =
    of_same (λ f. IsPlaceToldAs c.args.text.now f c.refused.result) c.in-BadToken.is (c.refused.ensures (marked_line c.args.text.now c.in-BadToken.at (codes "bad token")) (subst (λ w. IfOk c.marked_line.result (λ l. l ≡ marked_line c.args.text.now c.in-BadToken.at w)) c.as_bytes.ensures.value c.marked_line.ensures))

pub returns-in-Unexpected : goal.returns-in-Unexpected
returns-in-Unexpected c =
    of_same (λ f. IsPlaceToldAs c.args.text.now f c.refused-in-Unexpected.result) c.in-Unexpected.is (c.refused-in-Unexpected.ensures (unexpected_line c.args.text.now c.in-Unexpected.at) c.unexpected_line.ensures)

pub returns-in-BadNumber : goal.returns-in-BadNumber
returns-in-BadNumber c =
    of_same (λ f. IsPlaceToldAs c.args.text.now f c.refused-in-BadNumber.result) c.in-BadNumber.is (c.refused-in-BadNumber.ensures (marked_line c.args.text.now c.in-BadNumber.at (codes "bad number")) (subst (λ w. IfOk c.marked_line-in-BadNumber.result (λ l. l ≡ marked_line c.args.text.now c.in-BadNumber.at w)) c.as_bytes-in-BadNumber.ensures.value c.marked_line-in-BadNumber.ensures))

pub returns-in-Sig : goal.returns-in-Sig
returns-in-Sig c =
    of_same (λ f. IsPlaceToldAs c.args.text.now f c.refused-in-Sig.result) c.in-Sig.is (c.refused-in-Sig.ensures (fault_line (signature_fault_of c.in-Sig.fault)) c.fault_line.ensures)
