use Rattle.std.proofs.Common.{◌≡◌, List, drop}
use Rattle.ffi3_cdecl_spec.specs.Tokens.{Token}
use Rattle.ffi3_cdecl_spec.specs.Canonical.{more_parameter_tokens}
use Rattle.ffi3_cdecl.specs.Going.{going}
use Rattle.ffi3_cdecl.proofs.text.Writer.put_parameters.Given as goal

abbrev pub invariant-loop-i : goal.invariant-loop-i
invariant-loop-i l =
    (rest : List Token) → going l.self (more_parameter_tokens (drop l.i l.args) l.variadic rest) ≡ going l.initial.self (more_parameter_tokens (drop 1 l.args) l.variadic rest)
