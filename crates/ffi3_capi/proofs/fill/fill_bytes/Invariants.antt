use Rattle.std.proofs.Common.{◌≡◌, ◌++◌, take, drop}
use Rattle.ffi3_capi.proofs.fill.fill_bytes.Given as goal

abbrev pub invariant-loop-i : goal.invariant-loop-i
invariant-loop-i l = l.array ≡ take l.i l.bytes ++ drop l.i l.initial.array
