use Rattle.std.proofs.Common.{length, ◌-◌, ◌≡◌, ◌≤◌}
use Rattle.ffi3_cdecl_spec.specs.Tokens.{are_silent}
use Rattle.ffi3_cdecl.specs.QuotedOf.{quoted_of}
use Rattle.ffi3_cdecl.proofs.Attributes.{silent_from}
use Rattle.ffi3_cdecl.proofs.attribute.are_silent.Given as goal

abbrev pub invariant-loop-n : goal.invariant-loop-n
invariant-loop-n l =
    (l.n ≤ length l.bracket) × (l.depth ≤ l.n) × (silent_from (quoted_of l.quoted) l.depth l.n l.bracket ≡ are_silent l.bracket)

abbrev pub decreases-loop-n : goal.decreases-loop-n
decreases-loop-n l = length l.bracket - l.n
