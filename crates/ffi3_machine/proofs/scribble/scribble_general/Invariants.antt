use Rattle.std.proofs.Common.{◌≡◌, ℕ, ◌<◌, ◌≤◌, get_or, length}
use Rattle.ffi3_machine_spec.specs.State.{scribbled_register}
use Rattle.ffi3_machine.proofs.scribble.scribble_general.Given as goal

abbrev pub invariant-loop-k : goal.invariant-loop-k
invariant-loop-k l = record {
  size : length l.registers ≡ 32;
  done : (k : ℕ) → k < l.k → get_or l.registers k 0 ≡ scribbled_register l.isa l.n k (get_or l.initial.registers k 0);
  rest : (k : ℕ) → l.k ≤ k → get_or l.registers k 0 ≡ get_or l.initial.registers k 0;
}
