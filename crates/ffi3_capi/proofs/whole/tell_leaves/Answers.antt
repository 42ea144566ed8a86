use Rattle.ffi3_capi.specs.declared.status.Refusal.TheVariants.{NoMemory}
use Rattle.ffi3_capi.specs.Laid.{laid_leaves}
use Rattle.ffi3_capi.proofs.Answering.{tells, tells_none}
use Rattle.ffi3_capi.proofs.whole.tell_leaves.Goals as goal

pub returns-in-Ok : goal.returns-in-Ok
returns-in-Ok c =
    λ o ns is. tells o ns laid_leaves c.args.ty.now c.args.leaves.now c.fill.new.array c.in-Ok.laid c.whole_type.result c.fill.result c.room_status.result is c.in-Ok.ensures c.whole_type.ensures c.fill.ensures.fits c.room_status.ensures c.fill.ensures.written

pub returns-in-Err : goal.returns-in-Err
returns-in-Err c =
    λ o ns is. tells_none o ns laid_leaves c.args.leaves.now NoMemory c.no_whole_type.result c.fault.result c.status.result tt c.fault.ensures c.no_whole_type.ensures c.status.ensures
