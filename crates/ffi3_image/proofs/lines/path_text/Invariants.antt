use Rattle.std.proofs.Common.{◌≡◌, ◌++◌, drop}
use Rattle.ffi3_script_spec.specs.ReasonText.{text_of_steps}
use Rattle.ffi3_image.proofs.lines.path_text.Given as goal

abbrev pub invariant-loop-i : goal.invariant-loop-i
invariant-loop-i l = l.text ++ text_of_steps (drop l.i l.path) ≡ text_of_steps l.path
