use Rattle.std.proofs.Common.{sym, arith}
use Rattle.ffi3_format.proofs.Wants.{turn, found, at_end}
use Rattle.ffi3_format.proofs.wanting.+wanting.Goals as goal

pub want_format-loop-i-preserved : goal.want_format-loop-i-preserved
want_format-loop-i-preserved t c =
    turn c.args.types.now c.loop-i.i _ (omega arith) c.get.ensures.element (sym c.if-wants_format.ensures) c.loop-i.invariant

pub want_format-returns-then-wants_format : goal.want_format-returns-then-wants_format
want_format-returns-then-wants_format t c =
    sym (found c.args.types.now c.loop-i.i _ (omega arith) c.get.ensures.element (sym c.if-wants_format.ensures) c.loop-i.invariant)

pub want_format-returns : goal.want_format-returns
want_format-returns t c = sym (at_end c.args.types.now c.loop-i.i (omega arith) c.loop-i.invariant)
