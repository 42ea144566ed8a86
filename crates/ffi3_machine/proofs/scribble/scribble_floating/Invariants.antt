use Rattle.std.proofs.Common.{◌≡◌, ℕ, ◌<◌, get_or, length}
use Rattle.ffi3_machine_spec.specs.State.{scribble_floating}
use Rattle.ffi3_machine.proofs.scribble.scribble_floating.Given as goal

abbrev pub invariant-loop-k : goal.invariant-loop-k
invariant-loop-k l = record {
  size : length l.registers ≡ 32;
  done : (k : ℕ) → k < l.k → get_or l.registers k 0 ≡ scribble_floating l.n k;
}
