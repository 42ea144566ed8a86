use Rattle.std.proofs.Common.{subst}
use Rattle.std.specs.List.{AllByRecursion}
use Rattle.ffi3_place_spec.specs.MachineRegisters.{to_list}
use Rattle.ffi3_machine_transfer.specs.Stored.{IsPlace}
use Rattle.ffi3_marshal.proofs.Composing.{register_is_whole}
use Rattle.ffi3_caller.proofs.Calling.{register_lies}
use Rattle.ffi3_caller.proofs.arguments.put_count.Goals as goal

pub put_word-requires-clause-whole : goal.put_word-requires-clause-whole
put_word-requires-clause-whole c =
    let registers = subst (λ k. AllByRecursion (IsPlace 0) (to_list k)) c.in-Some.is c.requires.registers in
    register_is_whole c.in-Some.at registers.0

pub returns-in-Some-clause-within : goal.returns-in-Some-clause-within
returns-in-Some-clause-within c =
    let registers = subst (λ k. AllByRecursion (IsPlace 0) (to_list k)) c.in-Some.is c.requires.registers in
    λ room. c.put_word.ensures.within room (register_lies room c.in-Some.at registers.0)
