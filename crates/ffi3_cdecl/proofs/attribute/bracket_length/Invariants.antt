use Rattle.std.proofs.Common.{length, ◌-◌, ◌≡◌, ◌≤◌}
use Rattle.ffi3_cdecl_spec.specs.Tokens.{bracket_length, unquoted}
use Rattle.ffi3_cdecl.specs.QuotedOf.{quoted_of}
use Rattle.ffi3_cdecl.proofs.Attributes.{length_from}
use Rattle.ffi3_cdecl.proofs.attribute.bracket_length.Given as goal

abbrev pub invariant-loop-n : goal.invariant-loop-n
invariant-loop-n l =
    (l.n ≤ length l.bytes) × (l.depth ≤ l.n) × (length_from (quoted_of l.quoted) l.depth l.n l.bytes ≡ bracket_length unquoted 0 l.bytes)

abbrev pub decreases-loop-n : goal.decreases-loop-n
decreases-loop-n l = length l.bytes - l.n
