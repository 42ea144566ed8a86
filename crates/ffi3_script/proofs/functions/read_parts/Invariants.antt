use Rattle.std.proofs.Common.{◌≡◌, map, drop}
use Rattle.ffi3_json.specs.Parts.{items_from}
use Rattle.ffi3_script_spec.specs.Bodies.{read_bodies}
use Rattle.ffi3_script.specs.PartsOf.{headings_of, part_of}
use Rattle.ffi3_script.proofs.Loops.{before}
use Rattle.ffi3_script.proofs.functions.read_parts.Given as goal

abbrev pub invariant-loop-i : goal.invariant-loop-i
invariant-loop-i l = read_bodies l.globals.version l.globals.sigs.now l.globals.functions.now (headings_of l.headings.items) l.items l.at 0 ≡ before (map part_of l.parts.items) (read_bodies l.globals.version l.globals.sigs.now l.globals.functions.now (headings_of (drop l.i l.headings.items)) (items_from l.i l.items) l.at l.i)
