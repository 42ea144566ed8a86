use Rattle.std.proofs.Common.{◌≡◌, take, ◌≤◌, length}
use Rattle.ffi3_capi.proofs.natural.first_difference.Given as goal

abbrev pub invariant-loop-i : goal.invariant-loop-i
invariant-loop-i l = record {
  alike : take l.i l.told ≡ take l.i l.natural;
  within : l.i ≤ length l.natural;
}
