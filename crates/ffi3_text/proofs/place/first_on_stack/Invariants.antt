use Rattle.std.proofs.Common.{◌≡◌, drop}
use Rattle.ffi3_text_spec.specs.PlaceLines.{first_on_stack}
use Rattle.ffi3_text.proofs.place.first_on_stack.Given as goal

abbrev pub invariant-loop-k : goal.invariant-loop-k
invariant-loop-k l = first_on_stack (drop l.k l.pieces) ≡ first_on_stack l.pieces
