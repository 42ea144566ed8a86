use Rattle.std.proofs.Common.{◌≡◌, ◌+◌, ◌≤◌, Bool, true, false, ap, sym, subst, ◌∙◌, arith}
use Rattle.ffi3_type_spec.specs.declared.limits.TheConstants.{STACK_TOP}
use Rattle.ffi3_machine_spec.specs.State.{after_arrive}
use Rattle.ffi3_machine_transfer.specs.Passing.{by_exchange}
use Rattle.ffi3_callee.specs.GoneBack.{IsAtReturn, returned_if}
use Rattle.ffi3_invoke.proofs.callee_return.record_return.Goals as goal

pub arrive-requires-clause-at_return : goal.arrive-requires-clause-at_return
arrive-requires-clause-at_return c =
    let e : by_exchange c.args.machine.now.target ≡ true = cc in
    subst (λ (b : Bool). IsAtReturn b c.args.machine.now) e c.requires.at_return

pub arrive-requires-clause-stack : goal.arrive-requires-clause-stack
arrive-requires-clause-stack c =
    let e : by_exchange c.args.machine.now.target ≡ true = cc in
    λ some. (c.requires.low, subst (λ (b : Bool). (returned_if b c.args.machine.now).sp + c.args.frame ≤ STACK_TOP) e c.requires.high)

pub leave-requires-clause-address : goal.leave-requires-clause-address
leave-requires-clause-address c =
    let e : by_exchange c.args.machine.now.target ≡ false = cc in
    subst (λ (b : Bool). IsAtReturn b c.args.machine.now) e c.requires.at_return

pub leave-requires-clause-stack : goal.leave-requires-clause-stack
leave-requires-clause-stack c =
    let e : by_exchange c.args.machine.now.target ≡ false = cc in
    let high = subst (λ (b : Bool). (returned_if b c.args.machine.now).sp + c.args.frame ≤ STACK_TOP) e c.requires.high in
    λ some. (c.requires.low, omega (arith, high))

pub returns-then-exchanged : goal.returns-then-exchanged
returns-then-exchanged c =
    let e : by_exchange c.args.machine.now.target ≡ true = cc in
    c.arrive.ensures ∙ ap (λ (b : Bool). after_arrive c.args.frame (returned_if b c.args.machine.now)) (sym e)

pub returns-else-exchanged : goal.returns-else-exchanged
returns-else-exchanged c =
    let e : by_exchange c.args.machine.now.target ≡ false = cc in
    c.leave.ensures ∙ ap (λ (b : Bool). after_arrive c.args.frame (returned_if b c.args.machine.now)) (sym e)
