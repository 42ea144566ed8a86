use Rattle.std.proofs.lemmas.Result.{IfOk-weaker}
use Rattle.ffi3_explain_spec.specs.Standards.{standard_of}
use Rattle.ffi3_image.specs.AnswerOf.{answer_about, answer_of}
use Rattle.ffi3_image.specs.SnapshotOf.{snapshot_of}
use Rattle.ffi3_image.proofs.Answering.{answered_for, snapshot_answered, fault_answered}
use Rattle.ffi3_image.proofs.answers.answer_question.Goals as goal

pub returns-in-Ok : goal.returns-in-Ok
returns-in-Ok c =
    let s = snapshot_of c.in-Ok.snapshot in
    IfOk-weaker c.answer_about.result _ _ (λ a same. snapshot_answered c.args.question c.args.bytes.now s (answer_of a) c.in-Ok.ensures.ok same) (answered_for (λ t. answer_about c.args.question (standard_of s.target) t s.image) c.of-sig.result s.signature c.answer_about.result c.of-sig.ensures c.answer_about.ensures)

pub returns-in-Err : goal.returns-in-Err
returns-in-Err c =
    IfOk-weaker c.refusal.result _ _ (λ a told. fault_answered c.args.question c.args.bytes.now c.in-Err.fault (answer_of a) c.in-Err.ensures.err told) c.refusal.ensures
