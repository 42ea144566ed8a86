use Rattle.std.proofs.Common.{◌≡◌, ◌+◌, ◌<◌, ◌^◌, drop, length}
use Rattle.ffi3_place_spec.specs.Standard.{plan_of}
use Rattle.ffi3_moves.specs.Moves.{arguments_moves}
use Rattle.ffi3_moves.proofs.told.count_of_arguments.Given as goal

abbrev pub invariant-loop-i : goal.invariant-loop-i
invariant-loop-i g l = record {
  all : l.count + length (arguments_moves l.way l.i 0 (drop l.i l.cif.arguments) (drop l.i (plan_of g.A.Abi.standard l.cif).places)) ≡ length (arguments_moves l.way 0 0 l.cif.arguments (plan_of g.A.Abi.standard l.cif).places);
  small : l.count < 2 ^ 64;
}
