use Rattle.std.proofs.Common.{◌<◌, ◌≤◌, set, length, ap, sym, ◌∙◌, refl, subst, arith}
use Rattle.std.proofs.lemmas.List.{length-set}
use Rattle.ffi3_type_spec.specs.Tree.{tree_at}
use Rattle.ffi3_place_spec.specs.declared.Place.TheVariants.{ByRef}
use Rattle.ffi3_place_spec.specs.Standard.{start, by_reference}
use Rattle.ffi3_place.proofs.Laid.{laid_place, laid_end, laid_places, laid_ends, laid_from_spots, ends_from_spots, put_again, ends_turn, places_turn, places_at_end, ends_at_end}
use Rattle.ffi3_place.proofs.ends.lay_copies.Goals.{in-ByRef, in_default}
use Rattle.ffi3_place.proofs.ends.lay_copies.Goals as goal

pub loop-i-preserved : goal.loop-i-preserved
loop-i-preserved c =
    let ts = c.args.sig.now.arguments in
    let places = c.loop-i.places in
    let end = c.loop-i.end in
    let i = c.loop-i.i in
    let p = c.get.result.now in
    let inside : i < length ts = subst (λ n. i < n) c.count-i-end.ensures.value c.loop-i-test.true in
    let there : i < length places = omega (arith, inside, c.loop-i.invariant.one_each) in
    elim c.match-get.branch [
      | in-ByRef w ↦
          let t = w.arg-ty.result in
          let is = w.in-ByRef.is in
          let laid = ap (ByRef w.in-ByRef.at) w.start.ensures.value in
          let put = w.places-is ∙ w.set.ensures ∙ ap (λ x. set places i x) (laid ∙ sym (ap (laid_place end t) is)) in
          let behind = w.end-is ∙ w.copy_end-end.ensures.value start (by_reference w.in-ByRef.at) laid ∙ sym (ap (laid_end end t) is) in
          record {
            one_each = ap (λ ps. length ps) put ∙ length-set places i (laid_place end t p) ∙ c.loop-i.invariant.one_each;
            near = omega (arith, w.end-is, w.copy_end-end.ensures.low start (by_reference w.in-ByRef.at) laid (omega (arith, w.start.ensures.near, w.start.ensures.value)), c.loop-i.invariant.near);
            ends = ends_turn end ts places i t p _ _ inside there w.arg-ty.ensures c.get.ensures put behind _ c.loop-i.invariant.ends;
            done = places_turn end ts places i t p _ _ inside there w.arg-ty.ensures c.get.ensures put behind _ c.loop-i.invariant.done;
          }
      | in_default w ↦
          let t = tree_at ts i in
          let is = w.in_default.is in
          let put = w.places-is ∙ put_again places i p c.get.ensures ∙ ap (λ x. set places i x) (is ∙ sym (ap (laid_place end t) is)) in
          let behind = w.end-is ∙ sym (ap (laid_end end t) is) in
          record {
            one_each = ap (λ ps. length ps) w.places-is ∙ c.loop-i.invariant.one_each;
            near = omega (arith, w.end-is, c.loop-i.invariant.near);
            ends = ends_turn end ts places i t p _ _ inside there refl c.get.ensures put behind _ c.loop-i.invariant.ends;
            done = places_turn end ts places i t p _ _ inside there refl c.get.ensures put behind _ c.loop-i.invariant.done;
          }
    ]

pub returns-clause-laid : goal.returns-clause-laid
returns-clause-laid c spots same =
    let few : length c.args.sig.now.arguments ≤ c.loop-i.i = omega (arith, c.count-i-end.ensures.value, c.loop-i-test.false) in
    let short : length c.loop-i.places ≤ c.loop-i.i = omega (arith, few, c.loop-i.invariant.one_each) in
    places_at_end c.loop-i.end c.args.sig.now.arguments c.loop-i.places c.loop-i.i _ few short c.loop-i.invariant.done ∙ ap (λ ps. laid_places c.args.from c.args.sig.now.arguments ps) same ∙ laid_from_spots c.args.from c.args.sig.now.arguments spots

pub returns-clause-end : goal.returns-clause-end
returns-clause-end c spots same =
    let few : length c.args.sig.now.arguments ≤ c.loop-i.i = omega (arith, c.count-i-end.ensures.value, c.loop-i-test.false) in
    ends_at_end c.loop-i.end c.args.sig.now.arguments c.loop-i.places c.loop-i.i _ few c.loop-i.invariant.ends ∙ ap (λ ps. laid_ends c.args.from c.args.sig.now.arguments ps) same ∙ ends_from_spots c.args.from c.args.sig.now.arguments spots
