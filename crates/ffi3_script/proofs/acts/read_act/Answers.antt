use Rattle.std.proofs.Common.{length, subst, sym}
use Rattle.ffi3_script.specs.Numbers.{CallsWithin}
use Rattle.ffi3_script.specs.declared.acts.NamedAct.{NamedAct}
use Rattle.ffi3_script.proofs.acts.read_act.Goals as goal

pub returns-in_ok-act-in-Return-clause-within : goal.returns-in_ok-act-in-Return-clause-within
returns-in_ok-act-in-Return-clause-within c =
    let count = length c.args.globals.now.sigs.now in
    subst (λ (d : NamedAct). CallsWithin count d.act) (sym c.unnamed-in-Return.ensures) (c.in_ok-act-in-Return.ensures.within count)
