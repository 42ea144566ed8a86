use Rattle.std.specs.Prelude.{◌&&◌}
use Rattle.std.proofs.Common.{Bool, List, ℕ, refl, ap, ◌∙◌}
use Rattle.ffi3_transfer.specs.Stored.{image_in}
use Rattle.ffi3_capi.specs.DeclaredBy.{IsDeclaredOn, IsFaultOn}
use Rattle.ffi3_capi.specs.Filled.{filled, has_room, room_status}
use Rattle.ffi3_capi.specs.declared.each.EachArgument.{EachArgument}
use Rattle.ffi3_capi.specs.declared.entry.EntryArguments.{EntryArguments}
use Rattle.ffi3_capi.specs.Each.{ReadsEach, seen, unseen}
use Rattle.ffi3_capi.proofs.Answering.{answered}
use Rattle.ffi3_capi.proofs.each.tell_each.Goals as goal

pub returns-in-Ok : goal.returns-in-Ok
returns-in-Ok c =
    let each = c.fill-has_each in
    let values = c.fill_bytes-has_values in
    let room = values.ensures.fits ∙ ap (λ (b : List ℕ). has_room b c.args.values.now) c.as_slice.ensures in
    let wrote = values.ensures.written ∙ ap (λ (b : List ℕ). filled b c.args.values.now) c.as_slice.ensures in
    let status = c.room_status_of_both.ensures ∙ ap (λ (b : Bool). room_status (b && values.result)) each.ensures.fits ∙ ap (λ (b : Bool). room_status (has_room c.in-Ok.seen.each c.args.each.now && b)) room in
    answered (λ (n : ℕ) (now : List EachArgument) (new : List ℕ). ReadsEach (IsDeclaredOn c.args.target c.args.declaration) (IsFaultOn c.args.target c.args.declaration) c.args.target (image_in c.args.registers.now c.args.stack.now) c.args.each.now c.args.values.now n c.in-Ok.seen.told now new) status each.ensures.written wrote (seen c.in-Ok.seen c.in-Ok.ensures.seen)

pub returns-in-Err : goal.returns-in-Err
returns-in-Err c =
    answered (λ (n : ℕ) (told : EntryArguments) (now : List EachArgument). ReadsEach (IsDeclaredOn c.args.target c.args.declaration) (IsFaultOn c.args.target c.args.declaration) c.args.target (image_in c.args.registers.now c.args.stack.now) c.args.each.now c.args.values.now n told now c.args.values.now) c.status.ensures c.told.ensures refl (unseen c.in-Err.unseen c.in-Err.ensures.unseen)
