use Rattle.std.proofs.Common.{subst}
use Rattle.ffi3_callee.specs.Given.{IsSettable}
use Rattle.ffi3_callee.proofs.returned_value.tell_address.Goals as goal

pub returns-in-Some-clause-within : goal.returns-in-Some-clause-within
returns-in-Some-clause-within c =
    let register = subst (IsSettable c.args.machine.now.target) c.in-Some.is c.requires.register in
    (rw c.at.ensures at c.put_word.ensures).within 0 register.0
