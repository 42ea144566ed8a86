use Rattle.ffi3_machine.specs.Scribbled.{length-scribbled_general, length-scribbled_floating, IsZeroHeld-scribbled}
use Rattle.ffi3_machine.proofs.Machine.scribble.Goals as goal

pub invariant_of-self : goal.invariant_of-self
invariant_of-self c =
    let before = c.self.invariant.2 in (
      c.self.invariant.0,
      c.self.invariant.1,
      record {
        general = rw c.scribble_general.ensures (length-scribbled_general _ _ _);
        floating = rw c.scribble_floating.ensures (length-scribbled_floating _);
        stack = before.stack;
        code = before.code;
        exchange = before.exchange;
        mark_low = before.mark_low;
        mark_high = before.mark_high;
        zero = rw (c.scribble_general.ensures, c.isa.ensures) (IsZeroHeld-scribbled _ _ _ before.zero);
      },
      c.self.invariant.3,
      c.self.invariant.4,
    )
