use Rattle.std.proofs.Common.{◌≡◌, ◌++◌, take, drop}
use Rattle.ffi3_capi.proofs.fill.fill.Given as goal

abbrev pub invariant-loop-i : goal.invariant-loop-i
invariant-loop-i g l = l.array ≡ take l.i l.items ++ drop l.i l.initial.array
