use Rattle.std.proofs.Common.{arith}
use Rattle.std.proofs.lemmas.List.FromFn.{fill_by_all}
use Rattle.ffi3_machine_spec.specs.State.{scribble_floating, scribbled_floating}
use Rattle.ffi3_machine.proofs.scribble.scribble_floating.Goals as goal

pub returns : goal.returns
unfolding scribbled_floating
returns c =
    fill_by_all (scribble_floating c.args.n) c.loop-k.registers 32 0 c.loop-k.invariant.size (λ k h. c.loop-k.invariant.done k (omega arith))
