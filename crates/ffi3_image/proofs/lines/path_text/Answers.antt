use Rattle.std.proofs.Common.{rules}
use Rattle.ffi3_json.specs.StepOf.{step_of}
use Rattle.ffi3_image.proofs.Texts.{step_on}
use Rattle.ffi3_image.proofs.lines.path_text.Goals as goal

pub loop-i-preserved : goal.loop-i-preserved
loop-i-preserved c =
    step_on c.args.path.now c.loop-i.i (step_of c.get.result.now) c.loop-i.text _ _ (search rules) c.get.ensures c.loop-i.invariant c.in_ok-write_step.ensures
