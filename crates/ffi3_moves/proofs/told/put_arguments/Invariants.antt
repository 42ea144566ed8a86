use Rattle.std.proofs.Common.{◌≡◌, ◌+◌, ◌*◌, ◌≤◌, drop, length, map}
use Rattle.std.proofs.lemmas.List.Edits.{sets}
use Rattle.ffi3_place_spec.specs.Standard.{plan_of}
use Rattle.ffi3_moves.specs.Moves.{arguments_moves}
use Rattle.ffi3_moves.specs.Told.{told_move}
use Rattle.ffi3_moves.proofs.told.put_arguments.Given as goal

abbrev pub invariant-loop-i : goal.invariant-loop-i
invariant-loop-i g l = record {
  done : sets l.told l.at (map told_move (arguments_moves l.way l.i l.offset (drop l.i l.cif.arguments) (drop l.i (plan_of g.A.Abi.standard l.cif).places))) ≡ sets l.initial.told 0 (map told_move (arguments_moves l.way 0 0 l.cif.arguments (plan_of g.A.Abi.standard l.cif).places));
  count : l.at + length (arguments_moves l.way l.i l.offset (drop l.i l.cif.arguments) (drop l.i (plan_of g.A.Abi.standard l.cif).places)) ≡ length (arguments_moves l.way 0 0 l.cif.arguments (plan_of g.A.Abi.standard l.cif).places);
  low : l.offset ≤ 4104 * l.i;
}
