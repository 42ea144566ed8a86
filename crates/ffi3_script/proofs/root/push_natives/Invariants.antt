use Rattle.std.proofs.Common.{◌≡◌, ◌++◌, take}
use Rattle.ffi3_script.proofs.root.push_natives.Given as goal

abbrev pub invariant-loop-i : goal.invariant-loop-i
invariant-loop-i l = l.names ≡ l.initial.names ++ take l.i l.natives
