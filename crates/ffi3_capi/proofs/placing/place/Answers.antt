use Rattle.std.proofs.Common.{refl, ap, ◌∙◌}
use Rattle.ffi3_capi.specs.DeclaredBy.{IsDeclaredOn, IsFaultOn}
use Rattle.ffi3_capi.specs.Filled.{room_status}
use Rattle.ffi3_capi.specs.Placed.{Places, no_call, placed, refused}
use Rattle.ffi3_capi.proofs.Answering.{answered}
use Rattle.ffi3_capi.proofs.placing.place.Goals as goal

pub returns-in-Ok : goal.returns-in-Ok
returns-in-Ok c =
    answered (Places (IsDeclaredOn c.args.target c.args.declaration) (IsFaultOn c.args.target c.args.declaration) c.args.target c.args.pieces.now) (c.room_status.ensures ∙ ap room_status c.fill.ensures.fits) refl c.fill.ensures.written (placed c.in-Ok.found c.in-Ok.ensures.ok)

pub returns-in-Err : goal.returns-in-Err
returns-in-Err c =
    answered (Places (IsDeclaredOn c.args.target c.args.declaration) (IsFaultOn c.args.target c.args.declaration) c.args.target c.args.pieces.now) c.status.ensures (c.no_call.ensures ∙ ap no_call c.fault.ensures) refl (refused c.in-Err.refusal c.in-Err.ensures.err)
