use Rattle.std.proofs.Common.{◌≡◌, ◌+◌, ◌-◌, ◌<◌, take, drop, length, ap, sym, ◌∙◌, subst, arith}
use Rattle.std.proofs.lemmas.Grind.{common_steps}
use Rattle.ffi3_type_spec.specs.Tree.{tree_at}
use Rattle.ffi3_type_spec.specs.Layout.{size_of, least_multiple}
use Rattle.ffi3_place_spec.specs.Standard.{plan_of, frame_of, round8}
use Rattle.ffi3_marshal.specs.Standing.{PlaceKeeps, PlaceStands, place_uses}
use Rattle.ffi3_marshal.specs.Stored.{Stays}
use Rattle.ffi3_marshal.proofs.Arguments.{any_argument, lies_more_in, any_ready_all}
use Rattle.ffi3_marshal.proofs.Lawful.{apart_first}
use Rattle.ffi3_transfer.specs.Packed.{first_in}
use Rattle.ffi3_transfer.specs.Stored.{floating_words, image_in}
use Rattle.ffi3_transfer.proofs.Packing.{room_before, room_here}
use Rattle.ffi3_transfer.proofs.Arguments.{AllStored, none_yet, argument_step, stored_at_end}
use Rattle.ffi3_transfer.proofs.storing.store_arguments.Goals as goal

pub loop-i-init : goal.loop-i-init
loop-i-init g c =
    let std = g.A.Abi.standard in
    let s = c.args.placed.now in
    none_yet std.link std.target (frame_of std s) s.arguments (plan_of std s).places c.args.values.now c.count-i.result (length c.args.values.now) (image_in c.args.registers.now c.args.stack.now) (any_ready_all std s (g.met.A.Abi.sound s) g.met.A.Abi.agrees c.sig-sig.ensures.can_be) (c.count-i.ensures.value ∙ ap (λ r. length r.arguments) c.placed_sig-sig.ensures) refl
  where
    refl : {X : Type 0} {x : X} → x ≡ x
    refl = cc

pub overflow_sub-at : goal.overflow_sub-at
overflow_sub-at g c =
    let below : c.loop-i.i - 1 < length c.args.placed.now.arguments = omega (arith, c.count-i.ensures.value, ap (λ r. length r.arguments) c.placed_sig-sig.ensures) in
    let room = room_here c.args.placed.now.arguments _ c.loop-i.i c.arg-ty.result c.loop-i.at (length c.args.values.now) (ap (λ r. r.arguments) c.placed_sig-sig.ensures) below (omega arith) c.arg-ty.ensures c.requires.sized c.loop-i.invariant.left in
    omega (arith, room, c.round_up.ensures.value, ap (least_multiple 8) c.size-size.ensures.value)

pub slice_bounds-store_place-end : goal.slice_bounds-store_place-end
slice_bounds-store_place-end g c =
    let below : c.loop-i.i - 1 < length c.args.placed.now.arguments = omega (arith, c.count-i.ensures.value, ap (λ r. length r.arguments) c.placed_sig-sig.ensures) in
    let room = room_here c.args.placed.now.arguments _ c.loop-i.i c.arg-ty.result c.loop-i.at (length c.args.values.now) (ap (λ r. r.arguments) c.placed_sig-sig.ensures) below (omega arith) c.arg-ty.ensures c.requires.sized c.loop-i.invariant.left in
    omega (arith, room, c.round_up.ensures.value, ap (least_multiple 8) c.size-size.ensures.value, c.round_up.ensures.least.not_below, c.loop-i.invariant.left)

pub store_place-requires : goal.store_place-requires
store_place-requires g c =
    let std = g.A.Abi.standard in
    let s = c.args.placed.now in
    let t = c.arg-ty.result in
    let below : c.loop-i.i - 1 < length c.args.placed.now.arguments = omega (arith, c.count-i.ensures.value, ap (λ r. length r.arguments) c.placed_sig-sig.ensures) in
    let type_is = c.arg-ty.ensures ∙ ap (λ r. tree_at r.arguments (c.loop-i.i - 1)) c.placed_sig-sig.ensures in
    let here = any_argument std s (g.met.A.Abi.sound s) g.met.A.Abi.agrees c.sig-sig.ensures.can_be (c.loop-i.i - 1) t c.place.result.now below type_is c.place.ensures in
    let base_is : c.LINK-base.result ≡ std.link = c.LINK-base.ensures ∙ sym g.met.A.Abi.link_is in
    record {
      base = omega (arith, c.requires.frame, c.loop-i.invariant.stays.size, base_is);
      lies = lies_more_in floating_words (frame_of std s) (length c.loop-i.stack - c.LINK-base.result) t c.place.result.now (omega (arith, c.requires.frame, c.loop-i.invariant.stays.size, base_is)) here.ready.lies;
      high = omega (arith, c.requires.high, c.loop-i.invariant.stays.size, c.loop-i.invariant.stays.sp);
      apart = apart_first (place_uses t c.place.result.now) _ here.apart;
      has_all = here.ready.has_all;
      sized = grind (arith, common_steps);
    }

pub loop-i-preserved : goal.loop-i-preserved
loop-i-preserved g c =
    let std = g.A.Abi.standard in
    let s = c.args.placed.now in
    let ts = c.args.placed.now.arguments in
    let t = c.arg-ty.result in
    let p = c.place.result.now in
    let first = image_in c.args.registers.now c.args.stack.now in
    let a = image_in c.loop-i.registers c.loop-i.stack in
    let b = image_in c.store_place.new.registers c.store_place.new.stack in
    let below : c.loop-i.i - 1 < length c.args.placed.now.arguments = omega (arith, c.count-i.ensures.value, ap (λ r. length r.arguments) c.placed_sig-sig.ensures) in
    let type_is = c.arg-ty.ensures ∙ ap (λ r. tree_at r.arguments (c.loop-i.i - 1)) c.placed_sig-sig.ensures in
    let here = any_argument std s (g.met.A.Abi.sound s) g.met.A.Abi.agrees c.sig-sig.ensures.can_be (c.loop-i.i - 1) t c.place.result.now below type_is c.place.ensures in
    let base_is : c.LINK-base.result ≡ std.link = c.LINK-base.ensures ∙ sym g.met.A.Abi.link_is in
    let back : c.loop-i.i ≡ c.loop-i.i - 1 + 1 = omega arith in
    let before = subst (λ i. AllStored std.link std.target (frame_of std s) ts (plan_of std s).places c.args.values.now i c.loop-i.at (image_in c.args.registers.now c.args.stack.now) (image_in c.loop-i.registers c.loop-i.stack)) back c.loop-i.invariant in
    let room = room_before ts (c.loop-i.i - 1) t c.loop-i.at (length c.args.values.now) here.types c.requires.sized before.left in
    let next : c.loop-i.at ≡ c.loop-i.at - c.round_up.result + round8 (size_of t) = omega (arith, room, c.round_up.ensures.value, ap (least_multiple 8) c.size-size.ensures.value) in
    let many : c.loop-i.at - c.round_up.result + c.size-size.result - (c.loop-i.at - c.round_up.result) ≡ size_of t = omega (arith, c.size-size.ensures.value) in
    let stands = subst (λ n. PlaceStands c.LINK-base.result b t (take n (drop (c.loop-i.at - c.round_up.result) c.args.values.now)) p) many c.store_place.ensures.stands in
    argument_step std.link std.target (frame_of std s) ts (plan_of std s).places c.args.values.now (c.loop-i.i - 1) t p here (c.loop-i.at - c.round_up.result) c.loop-i.at first a b next (subst (λ n. PlaceStands n b t (first_in t (drop (c.loop-i.at - c.round_up.result) c.args.values.now)) p) base_is stands) (subst (λ n. PlaceKeeps n a b t p) base_is c.store_place.ensures.kept) (subst (λ n. Stays n (place_uses t p) a b) base_is c.store_place.ensures.stays) before

pub returns : goal.returns
returns g c =
    let std = g.A.Abi.standard in
    let s = c.args.placed.now in
    let all = stored_at_end std.link std.target (frame_of std s) s.arguments (plan_of std s).places c.args.values.now c.loop-i.i c.loop-i.at (image_in c.args.registers.now c.args.stack.now) (image_in c.loop-i.registers c.loop-i.stack) (omega arith) c.requires.sized c.loop-i.invariant in
    record { stand = all.0; kept = all.2; stays = all.1 }
