use Rattle.std.proofs.Common.{ap, box_value}
use Rattle.ffi3_types.specs.TreeOf.{tree_of}
use Rattle.ffi3_cdecl.specs.RoundOf.{round_of}
use Rattle.ffi3_cdecl.specs.SaidOf.{kind_of}
use Rattle.ffi3_cdecl.specs.StateOf.{settled_of, state_of}
use Rattle.ffi3_cdecl.proofs.Unnamed.{inner_bare, inner_whole, inner_starred}
use Rattle.ffi3_cdecl.proofs.declarator.unnamed_inner.Goals as goal

pub returns-in_ok-bracket_or_end-in-Bare : goal.returns-in_ok-bracket_or_end-in-Bare
returns-in_ok-bracket_or_end-in-Bare c =
    inner_bare (kind_of c.args.k) (round_of c.args.o) c.in-Unstarred.n (settled_of (box_value c.args.u)) c.args.token (state_of c.in_ok-bracket_or_end-in-Bare.field-0) (ap kind_of c.in-Bare.is) (ap round_of c.in-Unstarred.is) c.in_default.not-OpenSquare c.in_ok-bracket_or_end-in-Bare.ensures

pub returns-in_ok-bracket_or_end-in-Whole : goal.returns-in_ok-bracket_or_end-in-Whole
returns-in_ok-bracket_or_end-in-Whole c =
    inner_whole (kind_of c.args.k) (round_of c.args.o) (tree_of c.in-Whole.t) c.in-Unstarred.n (settled_of (box_value c.args.u)) c.args.token (state_of c.in_ok-bracket_or_end-in-Whole.field-0) (ap kind_of c.in-Whole.is) (ap round_of c.in-Unstarred.is) c.in_default.not-OpenSquare c.in_ok-bracket_or_end-in-Whole.ensures

pub returns-in_ok-bracket_or_end-in-Starred : goal.returns-in_ok-bracket_or_end-in-Starred
returns-in_ok-bracket_or_end-in-Starred c =
    inner_starred (kind_of c.args.k) (round_of c.args.o) c.in-Starred.n c.in-Starred.m c.in_ok-all-in-Starred.all (settled_of (box_value c.args.u)) c.args.token (state_of c.in_ok-bracket_or_end-in-Starred.field-0) c.in_ok-all-in-Starred.ensures (ap round_of c.in-Starred.is) c.in_default.not-OpenSquare c.in_ok-bracket_or_end-in-Starred.ensures
