use Rattle.std.proofs.Common.{◌∙◌, ap}
use Rattle.ffi3_explain.specs.ImageOf.{image_of}
use Rattle.ffi3_image_spec.specs.Lines.{arguments_text}
use Rattle.ffi3_image.proofs.Answering.{values_so, outside_so}
use Rattle.ffi3_image.proofs.answers.held_arguments.Goals as goal

pub returns-in_ok-arguments_text-in-Ok : goal.returns-in_ok-arguments_text-in-Ok
returns-in_ok-arguments_text-in-Ok g c =
    values_so g.A.Abi.standard c.args.cif.now (image_of c.args.image.now) c.in-Ok.values c.in_ok-arguments_text-in-Ok.field-0 c.in-Ok.ensures.values (c.in_ok-arguments_text-in-Ok.ensures ∙ ap (λ x. arguments_text x c.in-Ok.values) c.sig.ensures.value)

pub returns-in_ok-outside_line-in-Err-PointsOutside : goal.returns-in_ok-outside_line-in-Err-PointsOutside
returns-in_ok-outside_line-in-Err-PointsOutside g c =
    outside_so g.A.Abi.standard c.args.cif.now (image_of c.args.image.now) c.in-Err-PointsOutside.field-0 c.in-Err-PointsOutside.outside c.in_ok-outside_line-in-Err-PointsOutside.field-0 c.in-Err-PointsOutside.field-0-is c.in-Err-PointsOutside.ensures.outside c.in_ok-outside_line-in-Err-PointsOutside.ensures
