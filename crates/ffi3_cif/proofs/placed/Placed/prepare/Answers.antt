use Rattle.std.proofs.Common.{◌≡◌, ◌++◌, ap, sym, ◌∙◌, subst}
use Rattle.std.specs.List.{AllByRecursion, flat_map}
use Rattle.ffi3_type_spec.specs.declared.limits.TheConstants.{LARGEST_TYPE}
use Rattle.ffi3_type_spec.specs.declared.Role.TheVariants.{Anywhere}
use Rattle.ffi3_type_spec.specs.Tree.{tree_at}
use Rattle.ffi3_type_spec.proofs.Faults.{right_is_small}
use Rattle.ffi3_type_spec.proofs.Placed.{placed_argument_is_laid_out}
use Rattle.ffi3_place_spec.specs.declared.Plan.{Plan}
use Rattle.ffi3_place_spec.specs.Standard.{plan_of}
use Rattle.ffi3_type_spec.specs.TargetIsa.{isa_of}
use Rattle.ffi3_place_spec.specs.Sound.{PlaceRises, StandsIn, place_locs, hidden_locs, argument_locs, copy_locs, buffer_locs, call_locs}
use Rattle.ffi3_cif.specs.Runs.{PlaceEndsWithin, HasNoRuns}
use Rattle.ffi3_cif.proofs.Gather.{places_end}
use Rattle.ffi3_cif.proofs.Empty.{all_front, all_back, none_in_empty}
use Rattle.ffi3_cif.proofs.placed.Placed.prepare.Goals as goal

pub runs_in_frame-requires-clause-within : goal.runs_in_frame-requires-clause-within
runs_in_frame-requires-clause-within g c =
    let s = c.args.sig in
    let can_be = c.requires in
    let sound = g.met.A.Abi.sound s in
    let small = places_end LARGEST_TYPE s.arguments (plan_of g.A.Abi.standard s).places (λ k below. right_is_small 0 Anywhere (tree_at s.arguments k) (placed_argument_is_laid_out s can_be k below)) sound.has_all in
    subst (AllByRecursion (PlaceEndsWithin LARGEST_TYPE)) (sym (ap (λ (p : Plan). p.places) c.in-Ok.ensures)) small

pub runs_in_frame-requires-clause-rising : goal.runs_in_frame-requires-clause-rising
runs_in_frame-requires-clause-rising g c =
    let s = c.args.sig in
    let sound = g.met.A.Abi.sound s in
    subst (AllByRecursion PlaceRises) (sym (ap (λ (p : Plan). p.places) c.in-Ok.ensures)) sound.rising

pub runs_in_frame-requires-clause-empty : goal.runs_in_frame-requires-clause-empty
runs_in_frame-requires-clause-empty g c = λ none.
    let s = c.args.sig in
    let std = g.A.Abi.standard in
    let plan = plan_of std s in
    let isa = isa_of std.target in
    let sound = g.met.A.Abi.sound s in
    let nothing : plan.frame ≡ 0 = sym (ap (λ (p : Plan). p.frame) c.in-Ok.ensures) ∙ none in
    let within = subst (λ n. AllByRecursion (StandsIn isa n) (call_locs s plan)) nothing sound.in_frame in
    let arguments = all_front (StandsIn isa 0) (argument_locs plan) (copy_locs s.arguments plan.places ++ buffer_locs s.result_type plan.res) within in
    let places = all_back (StandsIn isa 0) (hidden_locs plan.res) (flat_map place_locs plan.places) arguments in
    subst (AllByRecursion HasNoRuns) (sym (ap (λ (p : Plan). p.places) c.in-Ok.ensures)) (none_in_empty isa plan.places places)
