use Rattle.std.specs.Prelude.{false}
use Rattle.std.proofs.Common.{◌≡◌, ◌<◌, length, ap, refl, sym, ◌∙◌, arith}
use Rattle.ffi3_type_spec.specs.Tree.{tree_at}
use Rattle.ffi3_place_spec.specs.Standard.{plan_of}
use Rattle.ffi3_place_spec.proofs.Elements.{argument_read}
use Rattle.ffi3_marshal.proofs.Arguments.{place_read}
use Rattle.ffi3_poison.specs.Poison.{hidden_has, places_have}
use Rattle.ffi3_poison.proofs.Searching.{argument_has, argument_has_not, no_argument, not_first}
use Rattle.ffi3_poison.proofs.carries.Goals as goal

pub loop-i-init : goal.loop-i-init
loop-i-init g c = refl

pub returns-then-place_has : goal.returns-then-place_has
returns-then-place_has g c =
    let s = c.args.cif.now in
    let p = plan_of g.A.Abi.standard c.args.cif.now in
    let hidden : hidden_has c.args.at c.args.k (plan_of g.A.Abi.standard c.args.cif.now).res ≡ false = sym (c.hidden_has.ensures ∙ ap (hidden_has c.args.at c.args.k) c.result_place.ensures) ∙ c.if-hidden_has.false in
    let below : c.loop-i.i < length s.arguments = omega (arith, c.loop-i-test.true, c.count-i-end.ensures.value, ap (λ r. length r.arguments) c.checked_sig-sig.ensures.value) in
    let type_is = c.arg-ty.ensures ∙ ap (λ r. tree_at r.arguments c.loop-i.i) c.checked_sig-sig.ensures.value in
    let t = c.arg-ty.result in
    let found = argument_has c.args.at c.args.k c.loop-i.i s.arguments p.places t c.place.result.now (argument_read s.arguments c.loop-i.i t below type_is) (place_read p.places c.loop-i.i c.place.result.now c.place.ensures) (sym c.place_has.ensures ∙ c.if-place_has.true) in
    sym (not_first (hidden_has c.args.at c.args.k p.res) (places_have c.args.at c.args.k s.arguments p.places) hidden ∙ c.loop-i.invariant ∙ found)

pub loop-i-preserved : goal.loop-i-preserved
loop-i-preserved g c =
    let s = c.args.cif.now in
    let p = plan_of g.A.Abi.standard c.args.cif.now in
    let below : c.loop-i.i < length s.arguments = omega (arith, c.loop-i-test.true, c.count-i-end.ensures.value, ap (λ r. length r.arguments) c.checked_sig-sig.ensures.value) in
    let type_is = c.arg-ty.ensures ∙ ap (λ r. tree_at r.arguments c.loop-i.i) c.checked_sig-sig.ensures.value in
    let t = c.arg-ty.result in
    c.loop-i.invariant ∙ argument_has_not c.args.at c.args.k c.loop-i.i s.arguments p.places t c.place.result.now (argument_read s.arguments c.loop-i.i t below type_is) (place_read p.places c.loop-i.i c.place.result.now c.place.ensures) (sym c.place_has.ensures ∙ c.if-place_has.false)

pub returns : goal.returns
returns g c =
    let s = c.args.cif.now in
    let p = plan_of g.A.Abi.standard c.args.cif.now in
    let hidden : hidden_has c.args.at c.args.k (plan_of g.A.Abi.standard c.args.cif.now).res ≡ false = sym (c.hidden_has.ensures ∙ ap (hidden_has c.args.at c.args.k) c.result_place.ensures) ∙ c.if-hidden_has.false in
    let none = no_argument c.args.at c.args.k c.loop-i.i s.arguments p.places (omega (arith, c.loop-i-test.false, c.count-i-end.ensures.value, ap (λ r. length r.arguments) c.checked_sig-sig.ensures.value)) in
    sym (not_first (hidden_has c.args.at c.args.k p.res) (places_have c.args.at c.args.k s.arguments p.places) hidden ∙ c.loop-i.invariant ∙ none)
