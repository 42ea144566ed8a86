use Rattle.std.proofs.Common.{◌≡◌, ◌+◌, drop, length}
use Rattle.ffi3_semantics_spec.specs.Closures.{first_free}
use Rattle.ffi3_closures.proofs.Table.first_free.Given as goal

abbrev pub invariant-loop-k : goal.invariant-loop-k
invariant-loop-k l = record {
  size : length l.self ≡ 256;
  none_before : first_free l.self ≡ l.k + first_free (drop l.k l.self);
}
