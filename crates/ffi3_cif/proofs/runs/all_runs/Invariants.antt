use Rattle.std.proofs.Common.{take}
use Rattle.ffi3_cif.specs.Runs.{PlacesHaveRuns}
use Rattle.ffi3_cif.proofs.runs.all_runs.Given as goal

abbrev pub invariant-loop-i : goal.invariant-loop-i
invariant-loop-i l = PlacesHaveRuns (take l.i l.places) l.all
