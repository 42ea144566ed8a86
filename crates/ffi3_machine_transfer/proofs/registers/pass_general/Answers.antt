use Rattle.std.proofs.Common.{◌≡◌, Bool, refl, ap, sym, subst, ◌∙◌, true, false, rules}
use Rattle.ffi3_machine_transfer.specs.Passing.{by_exchange, passing, passing_if}
use Rattle.ffi3_machine_spec.specs.State.{with_general}
use Rattle.ffi3_machine_transfer.proofs.Passing.{general_passed}
use Rattle.ffi3_machine_transfer.proofs.registers.pass_general.Goals as goal

pub returns-then-exchanged : goal.returns-then-exchanged
returns-then-exchanged c =
    let e : by_exchange c.args.machine.now.target ≡ true = cc in
    ap passing c.set_x.ensures ∙ general_passed (by_exchange c.args.machine.now.target) c.args.k c.args.value c.args.machine.now e c.facts.ensures.exchange c.requires.below (search rules) c.requires.writable

pub returns-else-exchanged : goal.returns-else-exchanged
returns-else-exchanged c =
    let e : by_exchange c.args.machine.now.target ≡ false = cc in
    ap passing c.set_g.ensures ∙ subst (λ (b : Bool). passing_if b (with_general c.args.k c.args.value c.args.machine.now) ≡ with_general c.args.k c.args.value (passing_if b c.args.machine.now)) (sym e) refl
