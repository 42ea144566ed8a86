use Rattle.std.proofs.Common.{rules}
use Rattle.ffi3_capi.specs.declared.status.Refusal.TheVariants.{NoMemory}
use Rattle.ffi3_capi.proofs.Differing.{checks_natural, checks_another, checks_none}
use Rattle.ffi3_capi.proofs.natural.tell_otherwise.Goals as goal

pub returns-in-Ok-None : goal.returns-in-Ok-None
returns-in-Ok-None c =
    λ o ns is. checks_natural o ns c.args.ty.now c.args.size c.args.align c.args.offsets.now c.fault_with.result is (c.in-Ok-None.ensures.natural (search rules)) c.fault_with.ensures

pub returns-in-Ok-Some : goal.returns-in-Ok-Some
returns-in-Ok-Some c =
    λ o ns is. checks_another o ns c.args.ty.now c.args.size c.args.align c.args.offsets.now c.in-Ok-Some.i c.fault_of_value.result is (c.in-Ok-Some.ensures.another c.in-Ok-Some.i (search rules)) c.fault_of_value.ensures

pub returns-in-Err : goal.returns-in-Err
returns-in-Err c =
    λ o ns is. checks_none o ns c.args.size c.args.align c.args.offsets.now NoMemory c.fault.result c.status.result tt c.fault.ensures c.status.ensures
