use Rattle.std.proofs.Common.{◌<◌, List, length, arith, ap, ◌∙◌, subst}
use Rattle.std.specs.Prelude.{IsSomeAnd, slice_get}
use Rattle.ffi3_type_spec.specs.Signature.{Signature}
use Rattle.ffi3_place_spec.specs.declared.Place.{Place}
use Rattle.ffi3_place_spec.specs.declared.Plan.{Plan}
use Rattle.ffi3_place_spec.specs.Standard.{plan_of}
use Rattle.ffi3_place_spec.proofs.EachPlace.{places_length, read_is_there}
use Rattle.ffi3_cif.specs.Runs.{AreRunsOf, pieces_of}
use Rattle.ffi3_cif.proofs.Gather.{as_many, runs_there}
use Rattle.ffi3_cif.proofs.placed.Placed.runs.Goals as goal

pub get-requires : goal.get-requires
get-requires g c =
    let s = c.self.inside.sig in
    let sound = g.met.A.Abi.sound s in
    let count = places_length s.arguments (plan_of g.A.Abi.standard s).places sound.has_all in
    let planned = ap (λ (p : Plan). length p.places) c.self.invariant.planned in
    let same = ap (λ (u : Signature). length u.arguments) c.self.view_is in
    omega (arith, c.requires, count, planned, same, as_many _ _ c.self.invariant.gathered)

pub returns : goal.returns
returns g c =
    let s = c.self.inside.sig in
    let sound = g.met.A.Abi.sound s in
    let count = places_length s.arguments (plan_of g.A.Abi.standard s).places sound.has_all in
    let planned = ap (λ (p : Plan). length p.places) c.self.invariant.planned in
    let same = ap (λ (u : Signature). length u.arguments) c.self.view_is in
    let below : c.args.i < length c.self.inside.plan.places = omega (arith, c.requires, count, planned, same) in
    let many : c.args.i < length c.self.inside.runs = omega (arith, below, as_many _ _ c.self.invariant.gathered) in
    let places = ap (λ (p : Plan). p.places) c.self.invariant.planned ∙ ap (λ (u : Signature). (plan_of g.A.Abi.standard u).places) c.self.view_is in
    let there = runs_there c.self.inside.plan.places c.self.inside.runs c.args.i c.get.result.now c.self.invariant.gathered below (read_is_there c.self.inside.runs c.args.i c.get.result.now many c.get.ensures) in
    subst (λ (ps : List Place). IsSomeAnd (slice_get ps c.args.i) (λ p. AreRunsOf (pieces_of p) c.get.result.now)) places there
