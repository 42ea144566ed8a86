use Rattle.std.specs.Prelude.{codes}
use Rattle.ffi3_semantics_spec.specs.Lines.{a_line}
use Rattle.ffi3_script_spec.specs.ReasonText.{text_of_reason}
use Rattle.ffi3_json.specs.ReasonOf.{reason_of}
use Rattle.ffi3_app_spec.specs.Outcome.{located_line}
use Rattle.ffi3_app.specs.Work.{IsToldAs}
use Rattle.ffi3_app.proofs.Working.{of_same}
use Rattle.ffi3_app.proofs.script.refusal.Goals as goal

pub returns-in-TooLong : goal.returns-in-TooLong
returns-in-TooLong c =
    of_same (λ f. IsToldAs f c.refused.result) c.in-TooLong.is (c.refused.ensures (a_line (codes "ffi3: script too long")) c.words.ensures)

pub returns-in-BadJson : goal.returns-in-BadJson
returns-in-BadJson c =
    of_same (λ f. IsToldAs f c.refused-in-BadJson.result) c.in-BadJson.is (c.refused-in-BadJson.ensures (a_line (codes "ffi3: not JSON")) c.words-in-BadJson.ensures)

pub returns-in-BadScript : goal.returns-in-BadScript
returns-in-BadScript c =
    let words = text_of_reason (reason_of c.in-BadScript.why) in
    of_same (λ f. IsToldAs f c.refused-in-BadScript.result) c.in-BadScript.is (c.refused-in-BadScript.ensures (located_line c.in-BadScript.path words) (c.fault_line.ensures words c.reason_text.ensures))
