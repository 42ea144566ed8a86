use Rattle.std.specs.Prelude.{Some}
use Rattle.std.proofs.Common.{◌≡◌, ◌<◌, length, ap, sym, ◌∙◌, subst, refl, arith}
use Rattle.ffi3_place_spec.specs.Standard.{plan_of}
use Rattle.ffi3_transfer.proofs.Ready.{reached}
use Rattle.ffi3_explain_spec.specs.Arguments.{first_outside}
use Rattle.ffi3_transfer.specs.Stored.{image_in}
use Rattle.ffi3_transfer.proofs.Turns.{at_argument, ready_here, found_here, inside_here}
use Rattle.ffi3_transfer.proofs.collecting.first_outside.Goals as goal

pub loop-i-init : goal.loop-i-init
loop-i-init g c =
    let std = g.A.Abi.standard in
    let s = c.args.placed.now in
    record { same = refl; ready = reached std s (g.met.A.Abi.sound s) (image_in c.args.registers.now c.args.stack.now) c.LINK-base.result (c.LINK-base.ensures ∙ sym g.met.A.Abi.link_is) c.requires }

pub outside_of-requires : goal.outside_of-requires
outside_of-requires g c =
    let s = c.args.placed.now in
    let ps = (plan_of g.A.Abi.standard s).places in
    let below : c.loop-i.i < length s.arguments = omega (arith, c.loop-i-test.true, c.count-count.ensures.value, ap (λ r. length r.arguments) c.placed_sig-sig.ensures) in
    let here = at_argument s.arguments _ ps c.loop-i.i c.arg.result c.place.result.now (ap (λ r. r.arguments) c.placed_sig-sig.ensures) below c.arg.ensures c.place.ensures in
    (ready_here (image_in c.args.registers.now c.args.stack.now) c.LINK-base.result s.arguments ps c.loop-i.i c.arg.result c.place.result.now here.types here.places c.loop-i.invariant).0

pub returns-in-Some : goal.returns-in-Some
returns-in-Some g c =
    let std = g.A.Abi.standard in
    let s = c.args.placed.now in
    let m = image_in c.args.registers.now c.args.stack.now in
    let ps = (plan_of g.A.Abi.standard s).places in
    let below : c.loop-i.i < length s.arguments = omega (arith, c.loop-i-test.true, c.count-count.ensures.value, ap (λ r. length r.arguments) c.placed_sig-sig.ensures) in
    let here = at_argument s.arguments _ ps c.loop-i.i c.arg.result c.place.result.now (ap (λ r. r.arguments) c.placed_sig-sig.ensures) below c.arg.ensures c.place.ensures in
    let base_is : c.LINK-base.result ≡ std.link = c.LINK-base.ensures ∙ sym g.met.A.Abi.link_is in
    subst (λ b. Some c.in-Some.outside ≡ first_outside m b 0 s.arguments ps) base_is (found_here m c.LINK-base.result s.arguments ps c.loop-i.i c.arg.result c.place.result.now here.types here.places c.loop-i.invariant c.in-Some.outside (sym c.outside_of.ensures ∙ c.in-Some.is))

pub loop-i-preserved : goal.loop-i-preserved
loop-i-preserved g c =
    let s = c.args.placed.now in
    let ps = (plan_of g.A.Abi.standard s).places in
    let below : c.loop-i.i < length s.arguments = omega (arith, c.loop-i-test.true, c.count-count.ensures.value, ap (λ r. length r.arguments) c.placed_sig-sig.ensures) in
    let here = at_argument s.arguments _ ps c.loop-i.i c.arg.result c.place.result.now (ap (λ r. r.arguments) c.placed_sig-sig.ensures) below c.arg.ensures c.place.ensures in
    inside_here (image_in c.args.registers.now c.args.stack.now) c.LINK-base.result s.arguments ps c.loop-i.i c.arg.result c.place.result.now here.types here.places c.loop-i.invariant (sym c.outside_of.ensures ∙ c.in-None.is)
