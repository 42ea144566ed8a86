use Rattle.std.proofs.Common.{◌≡◌, ◌+◌, ◌-◌, drop, length}
use Rattle.ffi3_cdecl_spec.specs.Prototype.{same_front}
use Rattle.ffi3_app.proofs.prototype.first_other.Given as goal

abbrev pub decreases-loop-i : goal.decreases-loop-i
decreases-loop-i l = length l.a.arguments - l.i

abbrev pub invariant-loop-i : goal.invariant-loop-i
invariant-loop-i l =
    same_front l.a.arguments l.b.arguments ≡ l.i + same_front (drop l.i l.a.arguments) (drop l.i l.b.arguments)
