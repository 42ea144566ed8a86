use Rattle.ffi3_place_spec.specs.Standard.{plan_of}
use Rattle.ffi3_explain.specs.ImageOf.{image_of}
use Rattle.ffi3_explain.proofs.Turns.{IsLeftToExplain}
use Rattle.ffi3_explain.proofs.checks.explain_arguments.Given as goal

abbrev pub invariant-loop-i : goal.invariant-loop-i
invariant-loop-i g l =
    IsLeftToExplain (image_of l.image) l.base l.cif.arguments (plan_of g.A.Abi.standard l.cif).places l.i l.values
