use Rattle.std.proofs.Common.{subst}
use Rattle.std.specs.List.{AllByRecursion}
use Rattle.ffi3_place_spec.specs.MachineRegisters.{to_list}
use Rattle.ffi3_transfer.specs.Places.{IsPlace}
use Rattle.ffi3_transfer.proofs.Ready.{register_is_whole}
use Rattle.ffi3_transfer.specs.Stored.{image_in}
use Rattle.ffi3_transfer.proofs.Given.{stack_same}
use Rattle.ffi3_transfer.proofs.giving.tell_address.Goals as goal

pub put_word-requires-clause-whole : goal.put_word-requires-clause-whole
put_word-requires-clause-whole c =
    let registers = subst (λ o. AllByRecursion (IsPlace 0) (to_list o)) c.in-Some.is c.requires in
    register_is_whole c.in-Some.at registers.0

pub returns-in-Some-clause-stack : goal.returns-in-Some-clause-stack
returns-in-Some-clause-stack c =
    stack_same c.args.base _ (image_in c.args.registers.now c.args.stack.now) (image_in c.put_word.new.registers c.put_word.new.stack) (subst (λ o. AllByRecursion (IsPlace 0) (to_list o)) c.in-Some.is c.requires) c.put_word.ensures.stays
