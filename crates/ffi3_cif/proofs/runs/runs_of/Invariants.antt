use Rattle.std.proofs.Common.{◌≡◌, ◌++◌, drop}
use Rattle.ffi3_cif.specs.Runs.{stack_runs, glued}
use Rattle.ffi3_cif.proofs.Gather.{first_run}
use Rattle.ffi3_cif.proofs.runs.runs_of.Given as goal

abbrev pub invariant-loop-i : goal.invariant-loop-i
invariant-loop-i l = l.runs ++ glued l.run (stack_runs (drop l.i l.pieces)) ≡ glued first_run (stack_runs l.pieces)
