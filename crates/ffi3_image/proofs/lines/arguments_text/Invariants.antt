use Rattle.std.proofs.Common.{◌≡◌, ◌++◌, drop}
use Rattle.ffi3_image_spec.specs.Lines.{argument_lines}
use Rattle.ffi3_image.proofs.lines.arguments_text.Given as goal

abbrev pub invariant-loop-i : goal.invariant-loop-i
invariant-loop-i l =
    l.text ++ argument_lines l.i (drop l.i l.sig.arguments) (drop l.i l.values) ≡ argument_lines 0 l.sig.arguments l.values
