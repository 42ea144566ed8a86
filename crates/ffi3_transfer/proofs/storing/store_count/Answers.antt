use Rattle.std.proofs.Common.{subst}
use Rattle.std.specs.List.{AllByRecursion}
use Rattle.ffi3_place_spec.specs.MachineRegisters.{to_list}
use Rattle.ffi3_transfer.specs.Places.{IsPlace}
use Rattle.ffi3_transfer.proofs.Ready.{register_is_whole}
use Rattle.ffi3_transfer.proofs.storing.store_count.Goals as goal

pub put_word-requires-clause-whole : goal.put_word-requires-clause-whole
put_word-requires-clause-whole c =
    let registers = subst (λ k. AllByRecursion (IsPlace 0) (to_list k)) c.in-Some.is c.requires in
    register_is_whole c.in-Some.at registers.0
