use Rattle.ffi3_machine_spec.specs.Slots.{HoldsMap}
use Rattle.ffi3_call_tests.proofs.table.fills.Given as goal

abbrev pub invariant-loop-k : goal.invariant-loop-k
invariant-loop-k g l = HoldsMap l.machine.target l.table l.machine.code
