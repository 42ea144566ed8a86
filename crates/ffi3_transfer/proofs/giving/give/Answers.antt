use Rattle.std.specs.Prelude.{nat_le, true}
use Rattle.std.proofs.Common.{◌≡◌, ◌+◌, ◌-◌, ◌^◌, ◌<◌, ◌≤◌, length, ap, sym, ◌∙◌, subst, arith}
use Rattle.ffi3_type_spec.specs.Layout.{size_of}
use Rattle.ffi3_type_spec.specs.TargetIsa.{isa_of}
use Rattle.ffi3_place_spec.specs.declared.Place.TheVariants.{Direct}
use Rattle.ffi3_place_spec.specs.Image.{word_at}
use Rattle.ffi3_place_spec.specs.Sound.{hidden_locs}
use Rattle.ffi3_place_spec.specs.MachineRegisters.{to_list}
use Rattle.ffi3_place_spec.specs.Standard.{plan_of}
use Rattle.ffi3_place_spec.proofs.Tests.{and_left}
use Rattle.ffi3_marshal.specs.Standing.{PiecesStand}
use Rattle.ffi3_marshal.proofs.Arguments.{lies_more_in}
use Rattle.ffi3_transfer.proofs.Ready.{registers_lie}
use Rattle.ffi3_explain_spec.specs.Arguments.{is_in_image, stack_end}
use Rattle.ffi3_explain_spec.proofs.Pieces.{is_le}
use Rattle.ffi3_explain.proofs.Standing.{found_inside}
use Rattle.ffi3_transfer.specs.Stored.{floating_words, image_in}
use Rattle.ffi3_transfer.proofs.PlaceBytes.{hidden_there}
use Rattle.ffi3_transfer.proofs.Given.{nothing_given, result_registers, direct_given, hidden_given}
use Rattle.ffi3_transfer.proofs.giving.give.Goals as goal

pub store_pieces-requires-clause-lie : goal.store_pieces-requires-clause-lie
store_pieces-requires-clause-lie g c =
    let std = g.A.Abi.standard in
    let s = c.args.placed.now in
    let type_is = c.ret-ty.ensures ∙ ap (λ r. r.result_type) c.placed_sig-sig.ensures in
    let sized : length c.args.value.now ≡ size_of s.result_type = omega (arith, c.if-value-wanted.false, c.size-wanted.ensures.value, ap size_of type_is) in
    lies_more_in floating_words 0 (length c.args.stack.now - c.LINK-base.result) s.result_type (Direct c.in-Direct.pieces) (omega arith) (result_registers std s (g.met.A.Abi.sound s) c.sig-sig.ensures.can_be g.met.A.Abi.agrees c.args.value.now sized (image_in c.args.registers.now c.args.stack.now) (image_in c.args.registers.now c.args.stack.now) c.in-Direct.pieces (sym c.result_place-2.ensures ∙ c.in-Direct.is))

pub returns-in-Nothing-clause-ok : goal.returns-in-Nothing-clause-ok
returns-in-Nothing-clause-ok g c =
    let std = g.A.Abi.standard in
    let s = c.args.placed.now in
    let type_is = c.ret-ty.ensures ∙ ap (λ r. r.result_type) c.placed_sig-sig.ensures in
    let sized : length c.args.value.now ≡ size_of s.result_type = omega (arith, c.if-value-wanted.false, c.size-wanted.ensures.value, ap size_of type_is) in
    let base_is : c.LINK-base.result ≡ std.link = c.LINK-base.ensures ∙ sym g.met.A.Abi.link_is in
    let room : std.link + stack_end (hidden_locs (plan_of std s).res) ≤ length c.args.stack.now = omega (arith, base_is, c.hidden_end.ensures.value, ap (λ r. stack_end (hidden_locs r)) c.result_place.ensures, c.if-stack-least.false) in
    let low : c.args.registers.now.sp + length c.args.stack.now < 2 ^ 64 = omega (arith, c.if-registers-stack.false) in
    nothing_given std s (g.met.A.Abi.sound s) c.sig-sig.ensures.can_be g.met.A.Abi.agrees c.args.value.now sized (image_in c.args.registers.now c.args.stack.now) (image_in c.args.registers.now c.args.stack.now) room low (sym c.result_place-2.ensures ∙ c.in-Nothing.is)

pub returns-in-Direct-clause-ok : goal.returns-in-Direct-clause-ok
returns-in-Direct-clause-ok g c =
    let std = g.A.Abi.standard in
    let s = c.args.placed.now in
    let new = image_in c.store_pieces.new.registers c.store_pieces.new.stack in
    let type_is = c.ret-ty.ensures ∙ ap (λ r. r.result_type) c.placed_sig-sig.ensures in
    let sized : length c.args.value.now ≡ size_of s.result_type = omega (arith, c.if-value-wanted.false, c.size-wanted.ensures.value, ap size_of type_is) in
    let base_is : c.LINK-base.result ≡ std.link = c.LINK-base.ensures ∙ sym g.met.A.Abi.link_is in
    let room : std.link + stack_end (hidden_locs (plan_of std s).res) ≤ length c.args.stack.now = omega (arith, base_is, c.hidden_end.ensures.value, ap (λ r. stack_end (hidden_locs r)) c.result_place.ensures, c.if-stack-least.false) in
    let low : c.args.registers.now.sp + length c.args.stack.now < 2 ^ 64 = omega (arith, c.if-registers-stack.false) in
    direct_given std s (g.met.A.Abi.sound s) c.sig-sig.ensures.can_be g.met.A.Abi.agrees c.args.value.now sized (image_in c.args.registers.now c.args.stack.now) new c.in-Direct.pieces (sym c.result_place-2.ensures ∙ c.in-Direct.is) room low c.LINK-base.result
    (subst (λ t. PiecesStand c.LINK-base.result new t c.args.value.now c.in-Direct.pieces) type_is c.store_pieces.ensures.stand) c.store_pieces.ensures.kept c.store_pieces.ensures.stays

pub place_word-address-requires : goal.place_word-address-requires
place_word-address-requires g c =
    let room : c.LINK-base.result + stack_end (hidden_locs (plan_of g.A.Abi.standard c.args.placed.now).res) ≤ length c.args.stack.now = omega (arith, c.if-stack-least.false, c.hidden_end.ensures.value, ap (λ r. stack_end (hidden_locs r)) c.result_place.ensures) in
    hidden_there g.A.Abi.standard c.args.placed.now (g.met.A.Abi.sound c.args.placed.now) (image_in c.args.registers.now c.args.stack.now) c.LINK-base.result c.in-Hidden.at c.in-Hidden.buffer (sym c.result_place-2.ensures ∙ c.in-Hidden.is) room

pub returns-in-Some-clause-ok : goal.returns-in-Some-clause-ok
returns-in-Some-clause-ok g c =
    let std = g.A.Abi.standard in
    let s = c.args.placed.now in
    let old = image_in c.args.registers.now c.args.stack.now in
    let new = image_in c.tell_address.new.registers c.tell_address.new.stack in
    let address = c.place_word-address.result in
    let type_is = c.ret-ty.ensures ∙ ap (λ r. r.result_type) c.placed_sig-sig.ensures in
    let wanted_is : c.size-wanted.result ≡ size_of s.result_type = c.size-wanted.ensures.value ∙ ap size_of type_is in
    let sized : length c.args.value.now ≡ size_of s.result_type = omega (arith, c.if-value-wanted.false, wanted_is) in
    let base_is : c.LINK-base.result ≡ std.link = c.LINK-base.ensures ∙ sym g.met.A.Abi.link_is in
    let found = found_inside old c.place_word-address.result c.size-wanted.result c.in-Some.from (sym c.offset_in.ensures ∙ c.in-Some.is) in
    let above = is_le c.args.registers.now.sp c.place_word-address.result (and_left (nat_le c.args.registers.now.sp c.place_word-address.result) _ found.0) in
    let address_is : c.place_word-address.result ≡ word_at (image_in c.args.registers.now c.args.stack.now) std.link c.in-Hidden.at = c.place_word-address.ensures ∙ ap (λ b. word_at (image_in c.args.registers.now c.args.stack.now) b c.in-Hidden.at) base_is in
    let room : std.link + stack_end (hidden_locs (plan_of std s).res) ≤ length c.args.stack.now = omega (arith, base_is, c.hidden_end.ensures.value, ap (λ r. stack_end (hidden_locs r)) c.result_place.ensures, c.if-stack-least.false) in
    let low : c.args.registers.now.sp + length c.args.stack.now < 2 ^ 64 = omega (arith, c.if-registers-stack.false) in
    hidden_given std s (g.met.A.Abi.sound s) c.sig-sig.ensures.can_be g.met.A.Abi.agrees c.args.value.now sized old new c.in-Hidden.at c.in-Hidden.buffer (sym c.result_place-2.ensures ∙ c.in-Hidden.is)
    room low c.LINK-base.result c.in-Some.from address c.write_at.new.stack c.returned_address.result (registers_lie (isa_of std.target) (to_list std.returned_address) g.met.A.Abi.agrees.returned_exists) c.returned_address.ensures address_is
    (subst (λ n. is_in_image (image_in c.args.registers.now c.args.stack.now) c.place_word-address.result n ≡ true) wanted_is found.0) found.1 above
    c.write_at.ensures.there c.write_at.ensures.size c.write_at.ensures.beside c.tell_address.ensures.told c.tell_address.ensures.stays c.tell_address.ensures.stack
