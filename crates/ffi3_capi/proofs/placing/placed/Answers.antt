use Rattle.std.proofs.Common.{length, ap, sym, subst, arith}
use Rattle.std.specs.List.{AllByRecursion}
use Rattle.ffi3_type_spec.specs.declared.limits.TheConstants.{LARGEST_TYPE}
use Rattle.ffi3_type_spec.specs.declared.Role.TheVariants.{Anywhere}
use Rattle.ffi3_type_spec.specs.Tree.{tree_at}
use Rattle.ffi3_type_spec.proofs.Faults.{right_is_small}
use Rattle.ffi3_type_spec.proofs.Placed.{placed_argument_is_laid_out, placed_result_is_laid_out}
use Rattle.ffi3_place_spec.specs.declared.Plan.{Plan}
use Rattle.ffi3_place_spec.specs.Standard.{plan_of}
use Rattle.ffi3_place_spec.proofs.EachPlace.{places_length}
use Rattle.ffi3_cif.specs.Runs.{PlaceEndsWithin}
use Rattle.ffi3_capi.specs.Within.{ResultEndsWithin}
use Rattle.ffi3_capi.proofs.Within.{places_end, result_ends}
use Rattle.ffi3_capi.proofs.placing.placed.Goals as goal

pub put_arguments-requires-clause-within : goal.put_arguments-requires-clause-within
put_arguments-requires-clause-within g c =
    let s = c.as_sig.result.now in
    let sound = g.met.A.Abi.sound s in
    let small = places_end LARGEST_TYPE s.arguments (plan_of g.A.Abi.standard s).places (λ k below. right_is_small 0 Anywhere (tree_at s.arguments k) (placed_argument_is_laid_out s c.as_sig.ensures.right k below)) sound.has_all in
    subst (AllByRecursion (PlaceEndsWithin LARGEST_TYPE)) (sym (ap (λ (p : Plan). p.places) c.in_ok-plan.ensures)) small

pub put_arguments-requires-clause-few : goal.put_arguments-requires-clause-few
put_arguments-requires-clause-few g c =
    let s = c.as_sig.result.now in
    let sound = g.met.A.Abi.sound s in
    let same = places_length s.arguments (plan_of g.A.Abi.standard s).places sound.has_all in
    let planned = ap (λ (p : Plan). length p.places) c.in_ok-plan.ensures in
    omega (arith, same, planned, ap (λ r. length r.arguments) c.as_sig.ensures.value, c.count-count.ensures.value, c.count-count.ensures.few)

pub put_returned-requires : goal.put_returned-requires
put_returned-requires g c =
    let s = c.as_sig.result.now in
    let sound = g.met.A.Abi.sound s in
    let small = result_ends LARGEST_TYPE s.result_type (plan_of g.A.Abi.standard s).res (right_is_small 0 Anywhere s.result_type (placed_result_is_laid_out s c.as_sig.ensures.right)) sound.result_has_all in
    subst (ResultEndsWithin LARGEST_TYPE) (sym (ap (λ (p : Plan). p.res) c.in_ok-plan.ensures)) small
