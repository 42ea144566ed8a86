use Rattle.std.proofs.Common.{◌≡◌}
use Rattle.ffi3_riscv_spec.specs.Riscv.{riscv}
use Rattle.example_places.specs.Lines.{argument_lines}
use Rattle.example_places.proofs.places.Given as goal

abbrev pub invariant-loop-i : goal.invariant-loop-i
invariant-loop-i l =
    l.text ≡ argument_lines riscv l.placed l.i
