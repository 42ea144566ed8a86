use Rattle.std.proofs.Common.{◌≡◌, ◌<◌, ◌+◌, length, ap, ◌∙◌, refl, arith}
use Rattle.ffi3_type_spec.specs.Layout.{least_multiple, size_of}
use Rattle.ffi3_type_spec.specs.Tree.{tree_at}
use Rattle.ffi3_place_spec.specs.Standard.{plan_of, round8}
use Rattle.ffi3_place_spec.proofs.Elements.{argument_read}
use Rattle.ffi3_moves.proofs.Turns.{place_read}
use Rattle.ffi3_moves.proofs.Telling.{argument_told, left}
use Rattle.ffi3_moves.proofs.told.put_arguments.Goals as goal

pub put_argument-at-requires-clause-room : goal.put_argument-at-requires-clause-room
put_argument-at-requires-clause-room g c =
    let ts = c.args.cif.now.arguments in
    let ps = (plan_of g.A.Abi.standard c.args.cif.now).places in
    let j = c.loop-i.i in
    let t = c.arg-ty.result in
    let p = c.place.result.now in
    let below : c.loop-i.i < length c.args.cif.now.arguments = omega (arith, c.loop-i-test.true, c.count-i-end.ensures.value, ap (λ r. length r.arguments) c.placed_sig-sig.ensures) in
    let type_is = c.arg-ty.ensures ∙ ap (λ r. tree_at r.arguments c.loop-i.i) c.placed_sig-sig.ensures in
    let types = argument_read ts j t below type_is in
    let places = place_read ps j p c.place.ensures in
    omega (arith, c.loop-i.invariant.count, c.loop-i.auto.told, c.requires, left c.args.way ts ps j t p types places c.loop-i.offset (c.loop-i.offset + round8 (size_of t)) refl)

pub loop-i-preserved : goal.loop-i-preserved
loop-i-preserved g c =
    let ts = c.args.cif.now.arguments in
    let ps = (plan_of g.A.Abi.standard c.args.cif.now).places in
    let j = c.loop-i.i in
    let t = c.arg-ty.result in
    let p = c.place.result.now in
    let below : c.loop-i.i < length c.args.cif.now.arguments = omega (arith, c.loop-i-test.true, c.count-i-end.ensures.value, ap (λ r. length r.arguments) c.placed_sig-sig.ensures) in
    let type_is = c.arg-ty.ensures ∙ ap (λ r. tree_at r.arguments c.loop-i.i) c.placed_sig-sig.ensures in
    let types = argument_read ts j t below type_is in
    let places = place_read ps j p c.place.ensures in
    let ends : c.loop-i.offset + c.round_up-offset.result ≡ c.loop-i.offset + round8 (size_of c.arg-ty.result) = omega (arith, c.round_up-offset.ensures.value, ap (least_multiple 8) c.size.ensures.value) in
    record {
      done = argument_told c.args.way ts ps j t p types places c.loop-i.offset (c.loop-i.offset + c.round_up-offset.result) ends c.loop-i.at c.put_argument-at.result c.loop-i.told c.put_argument-at.new.told _ c.put_argument-at.ensures.end c.put_argument-at.ensures.put c.loop-i.invariant.done;
      count = omega (arith, c.loop-i.invariant.count, c.put_argument-at.ensures.end, left c.args.way ts ps j t p types places c.loop-i.offset (c.loop-i.offset + c.round_up-offset.result) ends);
      low = omega (arith, c.loop-i.invariant.low, c.size.ensures.small, c.round_up-offset.ensures.close);
    }
