use Rattle.std.proofs.Common.{length, ◌-◌, ◌≡◌, ◌≤◌, false}
use Rattle.ffi3_cdecl_spec.specs.Tokens.{line_length}
use Rattle.ffi3_cdecl.proofs.Comments.{line_from}
use Rattle.ffi3_cdecl.proofs.bytes.line_length.Given as goal

abbrev pub invariant-loop-n : goal.invariant-loop-n
invariant-loop-n l =
    (l.n ≤ length l.bytes) × (line_from l.spliced l.n l.bytes ≡ line_length false l.bytes)

abbrev pub decreases-loop-n : goal.decreases-loop-n
decreases-loop-n l = length l.bytes - l.n
