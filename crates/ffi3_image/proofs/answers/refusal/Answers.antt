use Rattle.std.proofs.Common.{ap}
use Rattle.ffi3_image_spec.specs.Answer.{refusal}
use Rattle.ffi3_image.specs.declared.fault.ImageFault.TheVariants.{TooLong, BadJson, BadImage}
use Rattle.ffi3_image.proofs.Answering.{told_so}
use Rattle.ffi3_image.proofs.answers.refusal.Goals as goal

pub returns-in_ok-too_long_line-in-TooLong : goal.returns-in_ok-too_long_line-in-TooLong
returns-in_ok-too_long_line-in-TooLong c =
    told_so c.args.fault.now TooLong (refusal c.in_ok-too_long_line-in-TooLong.field-0) c.in-TooLong.is (ap refusal c.in_ok-too_long_line-in-TooLong.ensures)

pub returns-in_ok-not_json_line-in-BadJson : goal.returns-in_ok-not_json_line-in-BadJson
returns-in_ok-not_json_line-in-BadJson c =
    told_so c.args.fault.now BadJson (refusal c.in_ok-not_json_line-in-BadJson.field-0) c.in-BadJson.is (ap refusal c.in_ok-not_json_line-in-BadJson.ensures)

pub returns-in_ok-fault_line-in-BadImage : goal.returns-in_ok-fault_line-in-BadImage
returns-in_ok-fault_line-in-BadImage c =
    told_so c.args.fault.now (BadImage c.in-BadImage.path c.in-BadImage.why) (refusal c.in_ok-fault_line-in-BadImage.field-0) c.in-BadImage.is (ap refusal c.in_ok-fault_line-in-BadImage.ensures)
