use Rattle.std.proofs.Common.{sym, arith}
use Rattle.ffi3_types.proofs.LongDoubles.{turn, found, at_end}
use Rattle.ffi3_types.proofs.+long_doubles.Goals as goal

pub Fields::have_long_double-loop-i-preserved : goal.Fields::have_long_double-loop-i-preserved
Fields::have_long_double-loop-i-preserved t c =
    turn c.args.self.now c.loop-i.i _ (omega arith) c.get.ensures.element (sym c.if-has_long_double.ensures) c.loop-i.invariant

pub Fields::have_long_double-returns-then-has_long_double : goal.Fields::have_long_double-returns-then-has_long_double
Fields::have_long_double-returns-then-has_long_double t c =
    sym (found c.args.self.now c.loop-i.i _ (omega arith) c.get.ensures.element (sym c.if-has_long_double.ensures) c.loop-i.invariant)

pub Fields::have_long_double-returns : goal.Fields::have_long_double-returns
Fields::have_long_double-returns t c = sym (at_end c.args.self.now c.loop-i.i (omega arith) c.loop-i.invariant)
