use Rattle.ffi3_capi.specs.Chars.{layout_sign}
use Rattle.ffi3_capi.specs.DeclaredBy.{IsDeclaredBy, IsFaultBy}
use Rattle.ffi3_capi.proofs.Answering.{lays_out, refuses_layout}
use Rattle.ffi3_capi.proofs.layouts.layout.Goals as goal

pub returns-in-Ok : goal.returns-in-Ok
returns-in-Ok c =
    lays_out (IsDeclaredBy layout_sign c.args.declaration) (IsFaultBy layout_sign c.args.declaration) c.args.value c.args.leaves.now c.fill.new.array c.in-Ok.found c.fill.result c.room_status.result c.in-Ok.ensures.ok c.fill.ensures.fits c.room_status.ensures c.fill.ensures.written

pub returns-in-Err : goal.returns-in-Err
returns-in-Err c =
    refuses_layout (IsDeclaredBy layout_sign c.args.declaration) (IsFaultBy layout_sign c.args.declaration) c.args.value c.args.leaves.now c.in-Err.refusal c.no_type.result c.count.result c.fault.result c.status.result c.in-Err.ensures.err c.count.ensures c.fault.ensures c.no_type.ensures c.status.ensures
