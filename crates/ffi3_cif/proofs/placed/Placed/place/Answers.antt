use Rattle.std.proofs.Common.{◌<◌, length, arith, ap, sym, ◌∙◌}
use Rattle.std.specs.Prelude.{slice_get}
use Rattle.ffi3_type_spec.specs.Signature.{Signature}
use Rattle.ffi3_place_spec.specs.declared.Plan.{Plan}
use Rattle.ffi3_place_spec.specs.Standard.{plan_of}
use Rattle.ffi3_place_spec.proofs.EachPlace.{places_length, read_is_there}
use Rattle.ffi3_cif.proofs.placed.Placed.place.Goals as goal

pub get-requires : goal.get-requires
get-requires g c =
    let s = c.self.inside.sig in
    let sound = g.met.A.Abi.sound s in
    let count = places_length s.arguments (plan_of g.A.Abi.standard s).places sound.has_all in
    let planned = ap (λ (p : Plan). length p.places) c.self.invariant.planned in
    let same = ap (λ (u : Signature). length u.arguments) c.self.view_is in
    omega (arith, c.requires, count, planned, same)

pub returns : goal.returns
returns g c =
    let s = c.self.inside.sig in
    let sound = g.met.A.Abi.sound s in
    let count = places_length s.arguments (plan_of g.A.Abi.standard s).places sound.has_all in
    let planned = ap (λ (p : Plan). length p.places) c.self.invariant.planned in
    let same = ap (λ (u : Signature). length u.arguments) c.self.view_is in
    let below : c.args.i < length c.self.inside.plan.places = omega (arith, c.requires, count, planned, same) in
    let places = ap (λ (p : Plan). p.places) c.self.invariant.planned ∙ ap (λ (u : Signature). (plan_of g.A.Abi.standard u).places) c.self.view_is in
    ap (λ ps. slice_get ps c.args.i) (sym places) ∙ read_is_there c.self.inside.plan.places c.args.i c.get.result.now below c.get.ensures
