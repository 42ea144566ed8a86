use Rattle.std.proofs.Common.{◌≡◌, ◌<◌, ◌++◌, ◌+◌, length, drop, ap, ◌∙◌, arith}
use Rattle.ffi3_type_spec.specs.Layout.{least_multiple, size_of}
use Rattle.ffi3_type_spec.specs.Tree.{tree_at}
use Rattle.ffi3_place_spec.specs.Standard.{plan_of, round8}
use Rattle.ffi3_place_spec.proofs.Elements.{argument_read}
use Rattle.ffi3_moves.specs.Moves.{arguments_moves}
use Rattle.ffi3_moves.proofs.Turns.{place_read, turn}
use Rattle.ffi3_moves.proofs.arguments.push_arguments.Goals as goal

pub loop-i-preserved : goal.loop-i-preserved
loop-i-preserved g c =
    let ts = c.args.cif.now.arguments in
    let ps = (plan_of g.A.Abi.standard c.args.cif.now).places in
    let j = c.loop-i.i in
    let t = c.arg-ty.result in
    let p = c.place.result.now in
    let below : c.loop-i.i < length c.args.cif.now.arguments = omega (arith, c.loop-i-test.true, c.count-i-end.ensures.value, ap (λ r. length r.arguments) c.placed_sig-sig.ensures) in
    let type_is = c.arg-ty.ensures ∙ ap (λ r. tree_at r.arguments c.loop-i.i) c.placed_sig-sig.ensures in
    let types = argument_read ts j t below type_is in
    let places = place_read ps j p c.place.ensures in
    let ends : c.loop-i.at + c.round_up-at.result ≡ c.loop-i.at + round8 (size_of c.arg-ty.result) = omega (arith, c.round_up-at.ensures.value, ap (least_multiple 8) c.size.ensures.value) in
    record {
      done = ap (λ ms. ms ++ arguments_moves c.args.way (c.loop-i.i + 1) (c.loop-i.at + c.round_up-at.result) (drop (c.loop-i.i + 1) c.args.cif.now.arguments) (drop (c.loop-i.i + 1) (plan_of g.A.Abi.standard c.args.cif.now).places)) c.in_ok-push_argument.ensures ∙ turn c.args.way ts ps j c.loop-i.at (c.loop-i.at + c.round_up-at.result) t p types places ends c.loop-i.moves (c.args.moves.now ++ arguments_moves c.args.way 0 0 ts ps) c.loop-i.invariant.done;
      low = omega (arith, c.loop-i.invariant.low, c.size.ensures.small, c.round_up-at.ensures.close);
    }
