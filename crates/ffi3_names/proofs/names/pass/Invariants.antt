use Rattle.std.proofs.Common.{◌≡◌, ◌++◌, drop}
use Rattle.ffi3_names_spec.specs.Scan.{names_in, names_over}
use Rattle.ffi3_cdecl.specs.TokenOf.{sign_of}
use Rattle.ffi3_names.specs.NamesOf.{names_of, spot_of}
use Rattle.ffi3_names.proofs.names.pass.Given as goal

abbrev pub invariant-loop-at : goal.invariant-loop-at
invariant-loop-at l =
    names_of l.names.items ++ names_over (sign_of l.c) l.inside (spot_of l.spot) (drop l.at l.text) ≡ names_in (sign_of l.c) l.fn.text
