use Rattle.std.proofs.Common.{◌≡◌, length}
use Rattle.ffi3_json.specs.Parts.{items_from}
use Rattle.ffi3_script_spec.specs.Bodies.{read_signatures}
use Rattle.ffi3_script.proofs.Loops.{before}
use Rattle.ffi3_script.proofs.root.read_signatures.Given as goal

abbrev pub invariant-loop-i : goal.invariant-loop-i
invariant-loop-i l = record {
  count : length l.sigs ≡ l.i;
  so_far : read_signatures l.version l.items l.at 0 ≡ before l.sigs (read_signatures l.version (items_from l.i l.items) l.at l.i);
}
