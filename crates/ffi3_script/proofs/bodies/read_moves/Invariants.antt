use Rattle.std.proofs.Common.{◌≡◌, [], length}
use Rattle.ffi3_json.specs.Parts.{items_from}
use Rattle.ffi3_script_spec.specs.Bodies.{read_moves}
use Rattle.ffi3_script_body.specs.ExprOf.{script_moves_of}
use Rattle.ffi3_script.specs.ScopeOf.{given_of, surroundings_in}
use Rattle.ffi3_script.proofs.Loops.{before}
use Rattle.ffi3_script.proofs.bodies.read_moves.Given as goal

abbrev pub invariant-loop-i : goal.invariant-loop-i
invariant-loop-i l = record {
  even : length l.names ≡ length l.types;
  count : length l.types ≡ l.i;
  so_far : read_moves (surroundings_in l.globals l.own) [] l.items l.at 0 ≡ before (script_moves_of l.moves.items) (read_moves (surroundings_in l.globals l.own) (given_of l.names l.types) (items_from l.i l.items) l.at l.i);
}
