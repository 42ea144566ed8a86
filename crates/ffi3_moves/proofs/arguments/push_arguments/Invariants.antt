use Rattle.std.proofs.Common.{◌≡◌, ◌++◌, ◌*◌, ◌≤◌, drop}
use Rattle.ffi3_place_spec.specs.Standard.{plan_of}
use Rattle.ffi3_moves.specs.Moves.{arguments_moves}
use Rattle.ffi3_moves.proofs.arguments.push_arguments.Given as goal

abbrev pub invariant-loop-i : goal.invariant-loop-i
invariant-loop-i g l = record {
  done : l.moves ++ arguments_moves l.way l.i l.at (drop l.i l.cif.arguments) (drop l.i (plan_of g.A.Abi.standard l.cif).places) ≡ l.initial.moves ++ arguments_moves l.way 0 0 l.cif.arguments (plan_of g.A.Abi.standard l.cif).places;
  low : l.at ≤ 4104 * l.i;
}
