use Rattle.std.proofs.Common.{◌≡◌, ◌<◌, [], All, length}
use Rattle.ffi3_json.specs.Parts.{items_from}
use Rattle.ffi3_script_spec.specs.Bodies.{read_headings, names_of}
use Rattle.ffi3_script.specs.PartsOf.{headings_of}
use Rattle.ffi3_script.proofs.Loops.{before}
use Rattle.ffi3_script.proofs.functions.read_headings.Given as goal

abbrev pub invariant-loop-i : goal.invariant-loop-i
invariant-loop-i l = record {
  count : length l.list.items ≡ l.i;
  within : All (λ h. h.sig < length l.sigs) l.list.items;
  named : l.names ≡ names_of (headings_of l.list.items);
  so_far : read_headings (length l.sigs) [] l.items l.at 0 ≡ before (headings_of l.list.items) (read_headings (length l.sigs) l.names (items_from l.i l.items) l.at l.i);
}
