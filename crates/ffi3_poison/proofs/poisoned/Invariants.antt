use Rattle.std.specs.Prelude.{if◌then◌else◌}
use Rattle.std.specs.Int.{w64, to_le_bytes}
use Rattle.std.proofs.Common.{◌≡◌, ℕ, ◌<◌, ◌≤◌, get_or, length}
use Rattle.ffi3_poison.specs.Poison.{carries}
use Rattle.ffi3_poison.proofs.poisoned.Given as goal

abbrev pub invariant-loop-k : goal.invariant-loop-k
invariant-loop-k g l = record {
  sized : length l.bytes ≡ 8;
  done : (j : ℕ) → j < l.k → get_or l.bytes j 0 ≡ (if carries g.A.Abi.standard l.cif l.at j then get_or (to_le_bytes w64 l.word) j 0 else l.byte);
  left : (j : ℕ) → l.k ≤ j → get_or l.bytes j 0 ≡ get_or (to_le_bytes w64 l.word) j 0;
}
