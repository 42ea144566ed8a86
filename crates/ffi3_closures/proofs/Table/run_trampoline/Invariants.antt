use Rattle.std.proofs.Common.{◌-◌}
use Rattle.ffi3_machine.specs.MachineStep.{TakesSteps}
use Rattle.ffi3_closures.specs.Reaching.{reached}
use Rattle.ffi3_closures.proofs.Table.run_trampoline.Given as goal

abbrev pub invariant-loop-k : goal.invariant-loop-k
invariant-loop-k l = record {
  done : TakesSteps l._k l.initial.machine l.machine;
  rest : TakesSteps (3 - l._k) l.machine (reached l.initial.machine);
}
