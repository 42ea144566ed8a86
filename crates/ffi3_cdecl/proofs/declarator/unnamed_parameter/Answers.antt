use Rattle.std.proofs.Common.{ap}
use Rattle.ffi3_cdecl.specs.RoundOf.{round_of}
use Rattle.ffi3_cdecl.specs.SaidOf.{kind_of}
use Rattle.ffi3_cdecl.specs.StateOf.{head_of, state_of}
use Rattle.ffi3_cdecl.proofs.Unnamed.{parameter_starred}
use Rattle.ffi3_cdecl.proofs.declarator.unnamed_parameter.Goals as goal

pub returns-in_ok-bracket_or_end-in-Starred : goal.returns-in_ok-bracket_or_end-in-Starred
returns-in_ok-bracket_or_end-in-Starred c =
    parameter_starred (kind_of c.args.k) (round_of c.args.o) c.in-Starred.n c.in-Starred.m c.in_ok-all-in-Starred.all (head_of c.args.head) c.args.types c.args.token (state_of c.in_ok-bracket_or_end-in-Starred.field-0) c.in_ok-all-in-Starred.ensures (ap round_of c.in-Starred.is) c.in_default.not-OpenSquare c.in_ok-bracket_or_end-in-Starred.ensures
