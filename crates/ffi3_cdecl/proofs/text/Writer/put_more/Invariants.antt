use Rattle.std.proofs.Common.{◌≡◌, List}
use Rattle.std.specs.Prelude.{slice_range}
use Rattle.ffi3_cdecl_spec.specs.Tokens.{Token}
use Rattle.ffi3_cdecl_spec.specs.Prototype.{behind_commas}
use Rattle.ffi3_cdecl.specs.Going.{going}
use Rattle.ffi3_cdecl.proofs.text.Writer.put_more.Given as goal

abbrev pub invariant-loop-i : goal.invariant-loop-i
invariant-loop-i l =
    (rest : List Token) → going l.self (behind_commas (slice_range l.args l.i l.end) rest) ≡ going l.initial.self (behind_commas (slice_range l.args l.start l.end) rest)
