use Rattle.std.proofs.Common.{◌≡◌, ◌+◌, ◌-◌, ◌<◌, ◌++◌, take, drop, length, ap, sym, ◌∙◌, subst, arith}
use Rattle.ffi3_type_spec.specs.Layout.{size_of, least_multiple}
use Rattle.ffi3_place_spec.specs.Standard.{plan_of, round8}
use Rattle.ffi3_explain_spec.specs.Arguments.{outside_of, value_by_standard}
use Rattle.ffi3_transfer.proofs.Ready.{reached}
use Rattle.std.specs.Prelude.{None}
use Rattle.std.proofs.lemmas.Grind.{common_steps}
use Rattle.ffi3_type_spec.specs.Value.{value_in}
use Rattle.ffi3_transfer.specs.Stored.{image_in}
use Rattle.ffi3_transfer.specs.Packed.{first_in}
use Rattle.ffi3_transfer.proofs.Packing.{in_room, room_before, room_here}
use Rattle.ffi3_transfer.proofs.Turns.{AreCollected, all_clear, all_collected, at_argument, ready_at, each_inside, one_more}
use Rattle.ffi3_transfer.proofs.collecting.collect_arguments.Goals as goal

pub overflow_sub-at : goal.overflow_sub-at
overflow_sub-at g c =
    let below : c.loop-i.i - 1 < length c.args.placed.now.arguments = omega (arith, c.count-i.ensures.value, ap (λ r. length r.arguments) c.placed_sig-sig.ensures) in
    let room = room_here c.args.placed.now.arguments _ c.loop-i.i c.arg-ty.result c.loop-i.at (length c.args.values.now) (ap (λ r. r.arguments) c.placed_sig-sig.ensures) below (omega arith) c.arg-ty.ensures c.requires.sized c.loop-i.invariant.left in
    omega (arith, room, c.round_up-room.ensures.value, ap (least_multiple 8) c.size-size.ensures.value)

pub slice_bounds-collect_argument-end : goal.slice_bounds-collect_argument-end
slice_bounds-collect_argument-end g c =
    let below : c.loop-i.i - 1 < length c.args.placed.now.arguments = omega (arith, c.count-i.ensures.value, ap (λ r. length r.arguments) c.placed_sig-sig.ensures) in
    let room = room_here c.args.placed.now.arguments _ c.loop-i.i c.arg-ty.result c.loop-i.at (length c.args.values.now) (ap (λ r. r.arguments) c.placed_sig-sig.ensures) below (omega arith) c.arg-ty.ensures c.requires.sized c.loop-i.invariant.left in
    omega (arith, room, c.round_up-room.ensures.value, ap (least_multiple 8) c.size-size.ensures.value, c.round_up-room.ensures.least.not_below, c.loop-i.invariant.left, c.loop-i.invariant.sized)

pub collect_argument-requires : goal.collect_argument-requires
collect_argument-requires g c =
    let std = g.A.Abi.standard in
    let s = c.args.placed.now in
    let ps = (plan_of g.A.Abi.standard s).places in
    let m = image_in c.args.registers.now c.args.stack.now in
    let below : c.loop-i.i - 1 < length c.args.placed.now.arguments = omega (arith, c.count-i.ensures.value, ap (λ r. length r.arguments) c.placed_sig-sig.ensures) in
    let here = at_argument s.arguments _ ps (c.loop-i.i - 1) c.arg-ty.result c.place.result.now (ap (λ r. r.arguments) c.placed_sig-sig.ensures) below c.arg-ty.ensures c.place.ensures in
    let base_is : c.LINK-base.result ≡ std.link = c.LINK-base.ensures ∙ sym g.met.A.Abi.link_is in
    let ready = ready_at m c.LINK-base.result (c.loop-i.i - 1) s.arguments ps c.arg-ty.result c.place.result.now here.types here.places (reached std s (g.met.A.Abi.sound s) m c.LINK-base.result base_is c.requires.long) in
    record {
      there = ready.0;
      has_all = ready.1;
      inside = subst (λ b. outside_of (image_in c.args.registers.now c.args.stack.now) b 0 c.arg-ty.result c.place.result.now ≡ None) (sym base_is) (each_inside m std.link (c.loop-i.i - 1) 0 s.arguments ps c.arg-ty.result c.place.result.now c.requires.inside here.types here.places);
      sized = grind (arith, common_steps);
    }

pub loop-i-preserved : goal.loop-i-preserved
loop-i-preserved g c =
    let std = g.A.Abi.standard in
    let s = c.args.placed.now in
    let ts = c.args.placed.now.arguments in
    let t = c.arg-ty.result in
    let p = c.place.result.now in
    let ps = (plan_of g.A.Abi.standard s).places in
    let m = image_in c.args.registers.now c.args.stack.now in
    let below : c.loop-i.i - 1 < length c.args.placed.now.arguments = omega (arith, c.count-i.ensures.value, ap (λ r. length r.arguments) c.placed_sig-sig.ensures) in
    let here = at_argument s.arguments _ ps (c.loop-i.i - 1) c.arg-ty.result c.place.result.now (ap (λ r. r.arguments) c.placed_sig-sig.ensures) below c.arg-ty.ensures c.place.ensures in
    let base_is : c.LINK-base.result ≡ std.link = c.LINK-base.ensures ∙ sym g.met.A.Abi.link_is in
    let back : c.loop-i.i ≡ c.loop-i.i - 1 + 1 = omega arith in
    let before = subst (λ i. AreCollected (image_in c.args.registers.now c.args.stack.now) std.link ts ps (length c.args.values.now) i c.loop-i.at c.loop-i.values) back c.loop-i.invariant in
    let room = room_before ts (c.loop-i.i - 1) t c.loop-i.at (length c.args.values.now) here.types c.requires.sized before.left in
    let next : c.loop-i.at ≡ c.loop-i.at - c.round_up-room.result + round8 (size_of t) = omega (arith, room, c.round_up-room.ensures.value, ap (least_multiple 8) c.size-size.ensures.value) in
    let value : value_in c.arg-ty.result (first_in c.arg-ty.result c.collect_argument.new.out) ≡ value_by_standard (image_in c.args.registers.now c.args.stack.now) std.link c.arg-ty.result c.place.result.now = c.collect_argument.ensures.value ∙ ap (λ b. value_by_standard (image_in c.args.registers.now c.args.stack.now) b c.arg-ty.result c.place.result.now) base_is in
    let many : length c.collect_argument.new.out ≡ round8 (size_of t) = c.collect_argument.ensures.sized in
    let at = c.loop-i.at - c.round_up-room.result in
    let size : c.loop-i.at - c.round_up-room.result + c.round_up-room.result - (c.loop-i.at - c.round_up-room.result) ≡ length c.collect_argument.new.out = omega (arith, many, c.round_up-room.ensures.value, ap (least_multiple 8) c.size-size.ensures.value) in
    subst (λ n. AreCollected (image_in c.args.registers.now c.args.stack.now) std.link ts ps (length c.args.values.now) (c.loop-i.i - 1) (c.loop-i.at - c.round_up-room.result) (take (c.loop-i.at - c.round_up-room.result) c.loop-i.values ++ (c.collect_argument.new.out ++ drop n (drop (c.loop-i.at - c.round_up-room.result) c.loop-i.values)))) (sym size)
    (one_more m std.link ts ps (length c.args.values.now) (c.loop-i.i - 1) t p at c.loop-i.at c.collect_argument.new.out c.loop-i.values here.types here.places next many (in_room t) (omega (arith, before.left)) value c.collect_argument.ensures.padding before)

pub returns : goal.returns
returns g c =
    let s = c.args.placed.now in
    let m = image_in c.args.registers.now c.args.stack.now in
    let ps = (plan_of g.A.Abi.standard s).places in
    record {
      values = all_collected m g.A.Abi.standard.link s.arguments ps (length c.args.values.now) c.loop-i.i c.loop-i.at c.loop-i.values (omega arith) c.requires.sized c.loop-i.invariant;
      padding = all_clear m g.A.Abi.standard.link s.arguments ps (length c.args.values.now) c.loop-i.i c.loop-i.at c.loop-i.values (omega arith) c.requires.sized c.loop-i.invariant;
      sized = c.loop-i.invariant.sized ∙ c.requires.sized;
    }
