use Rattle.std.proofs.Common.{arith, get_or}
use Rattle.std.proofs.lemmas.List.FromFn.{fill_by_all}
use Rattle.ffi3_machine_spec.specs.State.{scribbled_register, scribbled_general}
use Rattle.ffi3_machine.proofs.scribble.scribble_general.Goals as goal

pub returns : goal.returns
unfolding scribbled_general
returns c =
    fill_by_all (λ k. scribbled_register c.args.isa c.args.n k (get_or c.args.registers.now k 0)) c.loop-k.registers 32 0 c.loop-k.invariant.size (λ k h. c.loop-k.invariant.done k (omega arith))
