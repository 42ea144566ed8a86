use Rattle.std.proofs.Common.{◌≡◌, ◌+◌, ◌<◌, ◌≤◌, ◌^◌, length, sym, ◌∙◌, subst, arith}
use Rattle.std.specs.List.{AllByRecursion}
use Rattle.ffi3_place_spec.specs.Sound.{IsWhole, hidden_locs}
use Rattle.ffi3_place_spec.specs.Standard.{frame_of}
use Rattle.ffi3_transfer.specs.Places.{HiddenIsThere}
use Rattle.ffi3_transfer.proofs.Ready.{result_ready}
use Rattle.ffi3_transfer.specs.Stored.{image_in}
use Rattle.ffi3_transfer.proofs.Whole.{call_stored}
use Rattle.ffi3_transfer.proofs.storing.store.Goals as goal

pub store_hidden-requires-clause-there : goal.store_hidden-requires-clause-there
store_hidden-requires-clause-there g c =
    let std = g.A.Abi.standard in
    let s = c.args.placed.now in
    let m = image_in c.store_arguments.new.registers c.store_arguments.new.stack in
    let base_is : c.LINK-base.result ≡ std.link = c.LINK-base.ensures ∙ sym g.met.A.Abi.link_is in
    let room : c.LINK-base.result + frame_of std s ≤ length c.store_arguments.new.stack = omega (arith, c.frame.ensures, c.if-stack-wanted.false, c.store_arguments.ensures.stays.size) in
    let high : c.store_arguments.new.registers.sp + c.LINK-base.result + frame_of std s < 2 ^ 64 = omega (arith, c.if-registers-stack.false, c.store_arguments.ensures.stays.size, c.store_arguments.ensures.stays.sp, room) in
    subst (HiddenIsThere m c.LINK-base.result) (sym c.result_place.ensures) (result_ready std s (g.met.A.Abi.sound s) m c.LINK-base.result room high)

pub store_hidden-requires-clause-whole : goal.store_hidden-requires-clause-whole
store_hidden-requires-clause-whole g c =
    let sound = g.met.A.Abi.sound c.args.placed.now in
    subst (λ r. AllByRecursion IsWhole (hidden_locs r)) (sym c.result_place.ensures) sound.address

pub returns-clause-ok : goal.returns-clause-ok
returns-clause-ok g c =
    let std = g.A.Abi.standard in
    let s = c.args.placed.now in
    let base_is : c.LINK-base.result ≡ std.link = c.LINK-base.ensures ∙ sym g.met.A.Abi.link_is in
    call_stored std s (g.met.A.Abi.sound s) c.sig-sig.ensures.can_be g.met.A.Abi.agrees c.args.values.now (image_in c.args.registers.now c.args.stack.now) (image_in c.store_arguments.new.registers c.store_arguments.new.stack) (image_in c.store_hidden.new.registers c.store_hidden.new.stack) (image_in c.store_count.new.registers c.store_count.new.stack)
    c.LINK-base.result c.result_place.result.now c.vector_count.result c.vectors.result base_is c.result_place.ensures c.vector_count.ensures c.vectors.ensures
    (omega (arith, c.if-values-wanted.false, c.packed_size-wanted.ensures)) (omega (arith, base_is, c.frame.ensures, c.if-stack-wanted.false)) (omega (arith, c.if-registers-stack.false))
    c.store_arguments.ensures.stand c.store_arguments.ensures.kept c.store_arguments.ensures.stays c.store_hidden.ensures.stands c.store_hidden.ensures.stays c.store_count.ensures.told c.store_count.ensures.stays
