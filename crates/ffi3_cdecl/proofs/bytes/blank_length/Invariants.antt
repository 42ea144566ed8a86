use Rattle.std.proofs.Common.{length, drop, ◌-◌, ◌≡◌, ◌≤◌, ◌+◌}
use Rattle.ffi3_cdecl_spec.specs.Tokens.{is_blank, front}
use Rattle.ffi3_cdecl.proofs.bytes.blank_length.Given as goal

abbrev pub invariant-loop-n : goal.invariant-loop-n
invariant-loop-n l =
    (l.n ≤ length l.bytes) × (l.n + length (front is_blank (drop l.n l.bytes)) ≡ length (front is_blank l.bytes))

abbrev pub decreases-loop-n : goal.decreases-loop-n
decreases-loop-n l = length l.bytes - l.n
