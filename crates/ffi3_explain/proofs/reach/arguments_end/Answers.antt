use Rattle.std.proofs.Common.{arith, ◌≤◌, length, ap}
use Rattle.ffi3_place_spec.specs.Standard.{plan_of}
use Rattle.ffi3_explain.proofs.Ends.{no_place, place_further, places_end, same_count, small_greater}
use Rattle.ffi3_explain.proofs.reach.arguments_end.Goals as goal

pub loop-i-init : goal.loop-i-init
loop-i-init g c = (no_place (plan_of g.A.Abi.standard c.args.placed.now).places, omega arith)

pub loop-i-preserved : goal.loop-i-preserved
loop-i-preserved g c = (
  place_further (plan_of g.A.Abi.standard c.args.placed.now).places c.loop-i.i c.loop-i.end c.greater-end.result c.place_end.result c.place.result.now c.place.ensures c.place_end.ensures.value c.greater-end.ensures c.loop-i.invariant.0,
  small_greater c.loop-i.end c.place_end.result c.greater-end.result c.loop-i.invariant.1 c.place_end.ensures.small c.greater-end.ensures,
)

pub returns-clause-value : goal.returns-clause-value
returns-clause-value g c =
    let std = g.A.Abi.standard in
    let s = c.args.placed.now in
    let sound = g.met.A.Abi.sound s in
    let counted = same_count s.arguments (plan_of std s).places sound.has_all in
    let last : length (plan_of std s).places ≤ c.loop-i.i = omega (arith, counted, c.count-count.ensures.value, ap (λ r. length r.arguments) c.placed_sig-sig.ensures) in
    places_end (plan_of std s).places c.loop-i.i c.loop-i.end last c.loop-i.invariant.0
