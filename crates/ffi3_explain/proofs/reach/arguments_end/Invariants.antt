use Rattle.std.proofs.Common.{◌<◌}
use Rattle.std.specs.Prelude.{◌^◌}
use Rattle.ffi3_place_spec.specs.Standard.{plan_of}
use Rattle.ffi3_explain.proofs.Ends.{IsPlaceEnd}
use Rattle.ffi3_explain.proofs.reach.arguments_end.Given as goal

abbrev pub invariant-loop-i : goal.invariant-loop-i
invariant-loop-i g l = IsPlaceEnd (plan_of g.A.Abi.standard l.placed).places l.i l.end × (l.end < 2 ^ 33)
