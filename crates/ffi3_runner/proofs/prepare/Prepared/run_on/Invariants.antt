use Rattle.ffi3_script_spec.specs.Handed.{handed}
use Rattle.ffi3_runner.specs.Agreeing.{PositionsAgree}
use Rattle.ffi3_runner.specs.Ran.{ComesTo}
use Rattle.ffi3_runner.specs.Ready.{CanGoOnWith}
use Rattle.ffi3_runner.specs.Running.{program}
use Rattle.ffi3_runner.proofs.prepare.Prepared.run_on.Given as goal

abbrev pub invariant-loop-stop : goal.invariant-loop-stop
invariant-loop-stop g l = record {
  standing : PositionsAgree l.self.script.now (handed (λ b. (goal.Native-dyn g (b.vtable, b.value)).Native.title b.value) (λ b. (goal.Native-dyn g (b.vtable, b.value)).Body.meaning b.value) (λ b. (goal.Native-dyn g (b.vtable, b.value)).Body.signatures b.value) l.self.natives.now.items) l.self.cifs l.machine l.configuration;
  between : CanGoOnWith g.A.Abi.standard (program g.A.Abi.standard l.self.script.now (handed (λ b. (goal.Native-dyn g (b.vtable, b.value)).Native.title b.value) (λ b. (goal.Native-dyn g (b.vtable, b.value)).Body.meaning b.value) (λ b. (goal.Native-dyn g (b.vtable, b.value)).Body.signatures b.value) l.self.natives.now.items)) l.trace l.configuration l.machine;
  since : ComesTo g.A.Abi.standard l.trace (program g.A.Abi.standard l.self.script.now (handed (λ b. (goal.Native-dyn g (b.vtable, b.value)).Native.title b.value) (λ b. (goal.Native-dyn g (b.vtable, b.value)).Body.meaning b.value) (λ b. (goal.Native-dyn g (b.vtable, b.value)).Body.signatures b.value) l.self.natives.now.items)) l.fn.configuration l.fn.machine (g.O.Sink.state l.fn.output) l.configuration l.machine (g.O.Sink.state l.output);
}

abbrev pub decreases-loop-stop : goal.decreases-loop-stop
decreases-loop-stop g l = l.configuration.moves
