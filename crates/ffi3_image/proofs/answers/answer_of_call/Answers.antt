use Rattle.ffi3_explain.specs.ImageOf.{image_of}
use Rattle.ffi3_image_spec.specs.declared.Question.TheVariants.{Explained, ByStandard}
use Rattle.ffi3_image.specs.AnswerOf.{answer_about}
use Rattle.ffi3_image.proofs.Answering.{answered_as}
use Rattle.ffi3_image.proofs.answers.answer_of_call.Goals as goal

pub returns-in-Explained : goal.returns-in-Explained
returns-in-Explained g c =
    answered_as (λ q. answer_about q g.A.Abi.standard c.args.cif.now (image_of c.args.image.now)) c.args.question Explained c.answer_explained.result c.in-Explained.is c.answer_explained.ensures

pub returns-in-ByStandard : goal.returns-in-ByStandard
returns-in-ByStandard g c =
    answered_as (λ q. answer_about q g.A.Abi.standard c.args.cif.now (image_of c.args.image.now)) c.args.question ByStandard c.answer_by_standard.result c.in-ByStandard.is c.answer_by_standard.ensures
