use Rattle.std.proofs.Common.{refl}
use Rattle.std.proofs.lemmas.Result.{IfOk-weaker}
use Rattle.ffi3_explain.specs.ImageOf.{image_of}
use Rattle.ffi3_image_spec.specs.declared.Question.TheVariants.{Explained}
use Rattle.ffi3_image_spec.specs.Answer.{answer_by}
use Rattle.ffi3_image.specs.AnswerOf.{answer_of}
use Rattle.ffi3_image.proofs.Answering.{room_answered, no_room_answered}
use Rattle.ffi3_image.proofs.answers.answer_explained.Goals as goal

pub returns-in-Ok : goal.returns-in-Ok
returns-in-Ok g c =
    let std = g.A.Abi.standard in
    let s = c.args.cif.now in
    let m = image_of c.args.image.now in
    IfOk-weaker c.explanation.result _ _ (λ a same. room_answered Explained std s m (answer_of a) (answer_by Explained std s m) c.in-Ok.ensures.ok same refl) c.explanation.ensures

pub returns-in-Err : goal.returns-in-Err
returns-in-Err g c =
    let std = g.A.Abi.standard in
    let s = c.args.cif.now in
    let m = image_of c.args.image.now in
    IfOk-weaker c.refusal.result _ _ (λ a told. no_room_answered Explained std s m c.in-Err.fault (answer_of a) c.in-Err.ensures.err told) c.refusal.ensures
