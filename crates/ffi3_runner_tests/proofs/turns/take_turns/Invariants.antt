use Rattle.ffi3_script_spec.specs.Handed.{handed}
use Rattle.ffi3_runner_tests.proofs.Moving.{CanTurn}
use Rattle.ffi3_runner_tests.proofs.turns.take_turns.Given as goal

abbrev pub invariant-loop-second : goal.invariant-loop-second
invariant-loop-second g l =
    CanTurn g.A.Abi.standard l.runner.prepared.script.now (handed (λ b. (goal.Native-dyn g (b.vtable, b.value)).Native.title b.value) (λ b. (goal.Native-dyn g (b.vtable, b.value)).Body.meaning b.value) (λ b. (goal.Native-dyn g (b.vtable, b.value)).Body.signatures b.value) l.runner.prepared.natives.now.items) l.runner.prepared.cifs l.machine l.runner.configuration

abbrev pub decreases-loop-second : goal.decreases-loop-second
decreases-loop-second g l = l.runner.configuration.moves
