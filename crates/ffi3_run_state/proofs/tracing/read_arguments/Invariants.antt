use Rattle.std.proofs.Common.{◌≡◌, length, take}
use Rattle.ffi3_semantics_spec.specs.SeenActivation.{arguments_of}
use Rattle.ffi3_run_state.proofs.tracing.read_arguments.Given as goal

abbrev pub invariant-loop-i : goal.invariant-loop-i
invariant-loop-i l = record {
  so_far : l.args ≡ take l.i (arguments_of l.seen);
  counted : length l.args ≡ l.i;
}
