use Rattle.std.proofs.Common.{◌≡◌, ◌+◌, ◌*◌, ◌≤◌, drop}
use Rattle.ffi3_transfer.specs.Packed.{packed_size}
use Rattle.ffi3_transfer.proofs.storing.packed_size.Given as goal

abbrev pub invariant-loop-i : goal.invariant-loop-i
invariant-loop-i g l = (l.size ≡ packed_size (drop l.i l.placed.arguments)) × (l.size + 4104 * l.i ≤ 4104 * 64)
