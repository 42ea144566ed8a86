use Rattle.std.proofs.Common.{◌≡◌, ◌+◌, ◌≤◌, sym, ◌∙◌, subst, arith}
use Rattle.ffi3_type_spec.specs.declared.limits.TheConstants.{STACK}
use Rattle.ffi3_poison.specs.Poison.{IsPoisoned}
use Rattle.ffi3_poison.proofs.Poisoning.{poisoned, return_still, still_owned}
use Rattle.ffi3_poison.proofs.poison.Goals as goal

pub returns-clause-poisoned : goal.returns-clause-poisoned
returns-clause-poisoned g c =
    let std = g.A.Abi.standard in
    let s = c.args.cif.now in
    let base_is : c.at-base.result ≡ c.args.machine.now.sp + g.A.Abi.standard.link = omega (arith, c.at-base.ensures, c.sp.ensures.value, c.LINK.ensures, g.met.A.Abi.link_is) in
    let low : STACK ≤ c.at-base.result = omega (arith, base_is, c.requires.low) in
    subst (λ n. IsPoisoned std s n c.args.byte c.args.machine.now c.poison_frame.new.machine) base_is (poisoned std s c.at-base.result c.args.byte c.args.machine.now c.poison_registers.new.machine c.poison_frame.new.machine g.met.A.Abi.agrees low c.poison_registers.ensures c.poison_frame.ensures)

pub returns-clause-own : goal.returns-clause-own
returns-clause-own g c =
    let std = g.A.Abi.standard in
    let s = c.args.cif.now in
    still_owned std s c.args.byte c.args.machine.now c.poison_frame.new.machine c.requires.low c.requires.frame c.sp.ensures.machine.stack (returns-clause-poisoned g c) (g.met.A.Abi.sound s) c.sig-sig.ensures.faultless

pub returns-clause-return_address : goal.returns-clause-return_address
returns-clause-return_address g c = λ h.
    return_still g.A.Abi.standard c.args.cif.now c.args.byte c.args.machine.now c.poison_frame.new.machine g.met.A.Abi.agrees (c.requires.target ∙ sym g.met.A.Abi.target_is) c.requires.frame c.sp.ensures.machine.stack (returns-clause-poisoned g c) h
