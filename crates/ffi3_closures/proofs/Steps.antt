-- Steps, one after another.
use Rattle.std.proofs.Common.{◌≡◌, ℕ, zero, suc, ◌+◌, subst, refl, arith}
use Rattle.ffi3_machine_spec.specs.State.{State}
use Rattle.ffi3_machine.specs.MachineStep.{Steps, TakesSteps}

-- one more at the end
one_more : (n : ℕ) (a b c : State) → TakesSteps n a b → Steps b c → TakesSteps (suc n) a c
one_more zero a b c none step =
    (c, subst (λ (x : State). Steps x c) none step, refl)
one_more (suc n) a b c more step =
    (more.0, more.1, one_more n more.0 b c more.2 step)

pub and_one : (n : ℕ) (a b c : State) → TakesSteps n a b → Steps b c → TakesSteps (n + 1) a c
and_one n a b c before step =
    let e : suc n ≡ n + 1 = omega arith in
    subst (λ m. TakesSteps m a c) e (one_more n a b c before step)

-- the first of those that are left
pub first_of_rest : (n m : ℕ) (a c : State) → n ≡ m + 1 → TakesSteps n a c → (b : State) × Steps a b × TakesSteps m b c
first_of_rest n m a c e rest =
    let next : n ≡ suc m = omega arith in
    subst (λ k. TakesSteps k a c) next rest
