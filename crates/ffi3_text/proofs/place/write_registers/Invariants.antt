use Rattle.std.proofs.Common.{◌≡◌, ◌*◌, ◌≤◌, ◌++◌}
use Rattle.ffi3_text_spec.specs.PlaceLines.{register_texts}
use Rattle.ffi3_text.proofs.Parts.{texts_from}
use Rattle.ffi3_text.proofs.place.write_registers.Given as goal

abbrev pub invariant-loop-k : goal.invariant-loop-k
invariant-loop-k l = record {
  told : l.text ++ texts_from l.isa l.part l.pieces l.k ≡ l.initial.text ++ register_texts l.isa l.pieces;
  bound : l.part.len ≤ 255 * l.k;
}
