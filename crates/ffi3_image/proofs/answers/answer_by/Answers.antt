use Rattle.ffi3_explain.specs.ImageOf.{image_of}
use Rattle.ffi3_image.specs.AnswerOf.{answer_about}
use Rattle.ffi3_image.proofs.Answering.{answered_for}
use Rattle.ffi3_image.proofs.answers.answer_by.Goals as goal

pub returns : goal.returns
returns g c =
    answered_for (λ s. answer_about c.args.question g.A.Abi.standard s (image_of c.args.image.now)) c.in_ok-cif.cif c.args.sig.now c.answer_of_call.result c.in_ok-cif.ensures c.answer_of_call.ensures
