use Rattle.std.proofs.Common.{◌<◌, ◌≤◌, ◌^◌, length, ap, sym, subst, refl, arith}
use Rattle.ffi3_type_spec.specs.Tree.{tree_at}
use Rattle.ffi3_place_spec.specs.Standard.{plan_of}
use Rattle.ffi3_place_spec.proofs.Elements.{argument_read}
use Rattle.ffi3_moves.specs.Moves.{arguments_moves}
use Rattle.ffi3_moves.proofs.Turns.{place_read}
use Rattle.ffi3_moves.proofs.Telling.{all_counted, counted, uncounted}
use Rattle.ffi3_moves.proofs.told.count_of_arguments.Goals as goal

pub loop-i-preserved : goal.loop-i-preserved
loop-i-preserved g c =
    let ts = c.args.cif.now.arguments in
    let ps = (plan_of g.A.Abi.standard c.args.cif.now).places in
    let j = c.loop-i.i in
    let t = tree_at ts j in
    let p = c.place.result.now in
    let below : c.loop-i.i < length c.args.cif.now.arguments = omega (arith, c.loop-i-test.true, c.count-i-end.ensures.value, ap (λ r. length r.arguments) c.placed_sig-sig.ensures) in
    let types = argument_read ts j t below refl in
    let places = place_read ps j p c.place.ensures in
    record {
      all = counted c.args.way ts ps j t p types places c.loop-i.count c.count_of_argument-here.result (c.count_of_argument-here.ensures j 0 t) c.in-Some.more (length (arguments_moves c.args.way 0 0 ts ps)) c.in-Some.ensures.1 c.loop-i.invariant.all;
      small = subst (λ n. n < 2 ^ 64) (sym c.in-Some.ensures.1) c.in-Some.ensures.0;
    }

pub returns-in_default : goal.returns-in_default
returns-in_default g c =
    let ts = c.args.cif.now.arguments in
    let ps = (plan_of g.A.Abi.standard c.args.cif.now).places in
    let j = c.loop-i.i in
    let t = tree_at ts j in
    let p = c.place.result.now in
    let below : c.loop-i.i < length c.args.cif.now.arguments = omega (arith, c.loop-i-test.true, c.count-i-end.ensures.value, ap (λ r. length r.arguments) c.placed_sig-sig.ensures) in
    let types = argument_read ts j t below refl in
    let places = place_read ps j p c.place.ensures in
    uncounted c.args.way ts ps j t p types places c.loop-i.count c.count_of_argument-here.result (c.count_of_argument-here.ensures j 0 t) (2 ^ 64) (length (arguments_moves c.args.way 0 0 ts ps)) c.in_default.ensures c.loop-i.invariant.all

pub returns : goal.returns
returns g c =
    let ts = c.args.cif.now.arguments in
    let ps = (plan_of g.A.Abi.standard c.args.cif.now).places in
    let ended : length c.args.cif.now.arguments ≤ c.loop-i.i = omega (arith, c.loop-i-test.false, c.count-i-end.ensures.value, ap (λ r. length r.arguments) c.placed_sig-sig.ensures) in
    all_counted c.args.way ts ps c.loop-i.i c.loop-i.count (length (arguments_moves c.args.way 0 0 ts ps)) (2 ^ 64) ended c.loop-i.invariant.small c.loop-i.invariant.all
