use Rattle.std.proofs.Common.{length, ◌-◌, ◌≡◌, ◌≤◌}
use Rattle.ffi3_cdecl_spec.specs.Tokens.{comment_length, in_comment}
use Rattle.ffi3_cdecl.specs.QuotedOf.{place_of}
use Rattle.ffi3_cdecl.proofs.Comments.{comment_from}
use Rattle.ffi3_cdecl.proofs.bytes.comment_length.Given as goal

abbrev pub invariant-loop-n : goal.invariant-loop-n
invariant-loop-n l =
    (l.n ≤ length l.bytes) × (comment_from (place_of l.place) l.n l.bytes ≡ comment_length in_comment l.bytes)

abbrev pub decreases-loop-n : goal.decreases-loop-n
decreases-loop-n l = length l.bytes - l.n
