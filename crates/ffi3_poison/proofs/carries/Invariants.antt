use Rattle.std.proofs.Common.{◌≡◌, drop}
use Rattle.ffi3_place_spec.specs.Standard.{plan_of}
use Rattle.ffi3_poison.specs.Poison.{places_have}
use Rattle.ffi3_poison.proofs.carries.Given as goal

abbrev pub invariant-loop-i : goal.invariant-loop-i
invariant-loop-i g l =
    places_have l.at l.k l.cif.arguments (plan_of g.A.Abi.standard l.cif).places ≡ places_have l.at l.k (drop l.i l.cif.arguments) (drop l.i (plan_of g.A.Abi.standard l.cif).places)
