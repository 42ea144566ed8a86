use Rattle.std.proofs.Common.{◌≡◌, ℕ, ◌-◌, ◌+◌, arith, subst, sym, refl}
use Rattle.ffi3_machine_spec.specs.State.{State}
use Rattle.ffi3_machine.specs.MachineStep.{Steps, TakesSteps}
use Rattle.ffi3_closures.specs.Reaching.{reached}
use Rattle.ffi3_closures.proofs.Live.{three_steps}
use Rattle.ffi3_closures.proofs.Steps.{and_one, first_of_rest}
use Rattle.ffi3_closures.proofs.Table.run_trampoline.Goals as goal

pub loop-k-init : goal.loop-k-init
loop-k-init c =
    let map : c.self.inside.slots.items ≡ c.args.self.now = c.self.view_is in
    record {
      done = refl;
      rest = three_steps c.args.self.now c.args.machine.now (rw map at c.self.invariant) c.facts.ensures c.requires.holds c.requires.live;
    }

pub loop-k-preserved : goal.loop-k-preserved
loop-k-preserved c =
    let way = first_of_rest (3 - c.loop-k._k) (3 - (c.loop-k._k + 1)) c.loop-k.machine (reached c.args.machine.now) (omega arith) c.loop-k.invariant.rest in
    let here : c.step-step.new.self ≡ way.0 = (c.step-step.ensures.only way.0 way.1).1 in
    record {
      done = and_one c.loop-k._k c.args.machine.now c.loop-k.machine c.step-step.new.self c.loop-k.invariant.done (subst (λ (s : State). Steps c.loop-k.machine s) (sym here) way.1);
      rest = subst (λ (s : State). TakesSteps (3 - (c.loop-k._k + 1)) s (reached c.args.machine.now)) (sym here) way.2;
    }

pub returns : goal.returns
returns c =
    let all : c.loop-k._k ≡ 3 = omega arith in
    let none : 3 - c.loop-k._k ≡ 0 = omega arith in
    record {
      reached = sym (subst (λ (n : ℕ). TakesSteps n c.loop-k.machine (reached c.args.machine.now)) none c.loop-k.invariant.rest);
      steps = subst (λ (n : ℕ). TakesSteps n c.args.machine.now c.loop-k.machine) all c.loop-k.invariant.done;
    }
