use Rattle.std.proofs.Common.{List, ℕ, refl, ap, ◌∙◌}
use Rattle.ffi3_transfer.specs.Stored.{image_in}
use Rattle.ffi3_capi.specs.DeclaredBy.{IsDeclaredOn, IsFaultOn}
use Rattle.ffi3_capi.specs.Filled.{has_room, filled, room_status}
use Rattle.ffi3_capi.specs.Returned.{ReadsResult, read, unread}
use Rattle.ffi3_capi.proofs.Answering.{answered}
use Rattle.ffi3_capi.proofs.returned.tell_result.Goals as goal

pub returns-in-Ok : goal.returns-in-Ok
returns-in-Ok c =
    let fits = c.fill_bytes.ensures.fits ∙ ap (λ (b : List ℕ). has_room b c.args.value.now) c.as_slice.ensures in
    let wrote = c.fill_bytes.ensures.written ∙ ap (λ (b : List ℕ). filled b c.args.value.now) c.as_slice.ensures in
    answered (ReadsResult (IsDeclaredOn c.args.target c.args.declaration) (IsFaultOn c.args.target c.args.declaration) c.args.target (image_in c.args.registers.now c.args.stack.now) c.args.value.now) (c.room_status.ensures ∙ ap room_status fits) refl wrote (read c.in-Ok.found c.in-Ok.ensures.found)

pub returns-in-Err : goal.returns-in-Err
returns-in-Err c =
    answered (ReadsResult (IsDeclaredOn c.args.target c.args.declaration) (IsFaultOn c.args.target c.args.declaration) c.args.target (image_in c.args.registers.now c.args.stack.now) c.args.value.now) c.status.ensures c.told.ensures refl (unread c.in-Err.unfound c.in-Err.ensures.unfound)
