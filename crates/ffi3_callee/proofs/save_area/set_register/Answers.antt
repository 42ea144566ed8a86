use Rattle.std.proofs.Common.{◌≡◌, ◌+◌, subst, arith}
use Rattle.ffi3_type_spec.specs.declared.limits.TheConstants.{STACK_TOP}
use Rattle.ffi3_machine_transfer.specs.Stored.{WroteWithin}
use Rattle.ffi3_callee.proofs.save_area.set_register.Goals as goal

pub returns-clause-within : goal.returns-clause-within
returns-clause-within c =
    let none : STACK_TOP + 0 ≡ STACK_TOP = omega arith in
    subst (λ n. WroteWithin STACK_TOP n c.args.machine.now c.set_register.new.machine) none ((c.set_register.ensures.put STACK_TOP).within 0 c.requires.register.0)

pub returns-clause-stays : goal.returns-clause-stays
returns-clause-stays c = (c.set_register.ensures.put STACK_TOP).stays
