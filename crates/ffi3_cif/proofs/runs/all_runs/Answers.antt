use Rattle.std.proofs.Common.{◌≡◌, ◌<◌, [], length, take, length-take, sym, subst, arith}
use Rattle.ffi3_type_spec.specs.declared.limits.TheConstants.{LARGEST_TYPE}
use Rattle.ffi3_place_spec.specs.Sound.{PlaceRises}
use Rattle.ffi3_cif.specs.Runs.{PlacesHaveRuns, PlaceEndsWithin}
use Rattle.ffi3_place_spec.proofs.Tests.{each_at}
use Rattle.ffi3_cif.proofs.Gather.{as_many, place_taken, all_places}
use Rattle.ffi3_cif.proofs.runs.all_runs.Goals as goal

pub loop-i-init : goal.loop-i-init
loop-i-init c = subst (λ rs. PlacesHaveRuns [] rs) (sym c.empty-all.ensures) tt

pub place_runs-requires-clause-within : goal.place_runs-requires-clause-within
place_runs-requires-clause-within c =
    each_at (PlaceEndsWithin LARGEST_TYPE) c.args.places.now c.loop-i.i c.get.result.now (omega (arith, c.loop-i-test.true, c.len-i-end.ensures)) (sym c.get.ensures) c.requires.within

pub place_runs-requires-clause-rising : goal.place_runs-requires-clause-rising
place_runs-requires-clause-rising c =
    each_at PlaceRises c.args.places.now c.loop-i.i c.get.result.now (omega (arith, c.loop-i-test.true, c.len-i-end.ensures)) (sym c.get.ensures) c.requires.rising

pub push-requires : goal.push-requires
push-requires c =
    omega (arith, as_many (take c.loop-i.i c.args.places.now) c.loop-i.all c.loop-i.invariant, length-take c.loop-i.i c.args.places.now)

pub loop-i-preserved : goal.loop-i-preserved
loop-i-preserved c =
    let inside : c.loop-i.i < length c.args.places.now = omega (arith, c.loop-i-test.true, c.len-i-end.ensures) in
    place_taken c.args.places.now c.loop-i.i c.get.result.now c.loop-i.all _ _ inside c.get.ensures c.loop-i.invariant c.in_ok-push.ensures c.in_ok-place_runs.ensures

pub returns : goal.returns
returns c =
    let end : c.loop-i.i ≡ length c.args.places.now = omega (arith, c.loop-i-test.false, c.loop-i.auto.i-end, c.len-i-end.ensures) in
    all_places c.args.places.now c.loop-i.i c.loop-i.all end c.loop-i.invariant
