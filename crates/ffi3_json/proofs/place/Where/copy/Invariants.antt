use Rattle.std.proofs.Common.{◌≡◌, take, map}
use Rattle.ffi3_json.specs.StepOf.{step_of}
use Rattle.ffi3_json.proofs.place.Where.copy.Given as goal

abbrev pub invariant-loop-step : goal.invariant-loop-step
invariant-loop-step l = l.place ≡ map step_of (take l.step-index l.step-items)
