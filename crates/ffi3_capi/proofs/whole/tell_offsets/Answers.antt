use Rattle.std.proofs.Common.{ap, ◌∙◌}
use Rattle.ffi3_capi.specs.declared.status.Refusal.TheVariants.{NoMemory}
use Rattle.ffi3_capi.specs.WholeType.{offsets_of}
use Rattle.ffi3_capi.proofs.Answering.{tells, tells_none}
use Rattle.ffi3_capi.proofs.whole.tell_offsets.Goals as goal

pub returns-in-Ok : goal.returns-in-Ok
returns-in-Ok c =
    λ o ns is. tells o ns offsets_of c.args.ty.now c.args.array.now c.fill.new.array c.in-Ok.starts c.whole_type.result c.fill.result c.room_status.result is (c.in-Ok.ensures ∙ ap offsets_of c.as_type.ensures.value) c.whole_type.ensures c.fill.ensures.fits c.room_status.ensures c.fill.ensures.written

pub returns-in-Err : goal.returns-in-Err
returns-in-Err c =
    λ o ns is. tells_none o ns offsets_of c.args.array.now NoMemory c.no_whole_type.result c.fault.result c.status.result tt c.fault.ensures c.no_whole_type.ensures c.status.ensures
