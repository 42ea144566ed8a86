use Rattle.std.proofs.Common.{◌≡◌, ◌*◌, ◌≤◌, take}
use Rattle.ffi3_text_spec.specs.PlaceLines.{bytes_on_stack}
use Rattle.ffi3_text.proofs.place.bytes_on_stack.Given as goal

abbrev pub invariant-loop-k : goal.invariant-loop-k
invariant-loop-k l = record {
  sum : l.total ≡ bytes_on_stack (take l.k l.pieces);
  bound : l.total ≤ 255 * l.k;
}
