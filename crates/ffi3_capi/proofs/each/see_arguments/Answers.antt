use Rattle.std.proofs.Common.{◌≡◌, ◌<◌, ◌≤◌, [], length, ap, sym, ◌∙◌, subst, arith}
use Rattle.ffi3_place_spec.specs.Standard.{plan_of}
use Rattle.ffi3_transfer.specs.Stored.{image_in}
use Rattle.ffi3_transfer.proofs.Ready.{reached}
use Rattle.ffi3_transfer.proofs.Turns.{at_argument}
use Rattle.ffi3_capi.specs.Each.{AreSeen}
use Rattle.ffi3_capi.proofs.OneByOne.{all_seen, none_seen, one_seen, ready_here}
use Rattle.ffi3_capi.proofs.each.see_arguments.Goals as goal

pub loop-i-init : goal.loop-i-init
loop-i-init g c =
    let std = g.A.Abi.standard in
    let s = c.args.placed.now in
    let m = image_in c.args.registers.now c.args.stack.now in
    none_seen m c.LINK-base.result s.arguments (plan_of std s).places c.new-bytes.result c.new-each.result c.new-bytes.ensures c.new-each.ensures (reached std s (g.met.A.Abi.sound s) m c.LINK-base.result (c.LINK-base.ensures ∙ sym g.met.A.Abi.link_is) c.requires)

pub see_argument-requires : goal.see_argument-requires
see_argument-requires g c =
    let s = c.args.placed.now in
    let ps = (plan_of g.A.Abi.standard s).places in
    let below : c.loop-i.i < length s.arguments = omega (arith, c.loop-i-test.true, c.count-count.ensures.value, ap (λ r. length r.arguments) c.placed_sig-sig.ensures) in
    let here = at_argument s.arguments _ ps c.loop-i.i c.arg.result c.place.result.now (ap (λ r. r.arguments) c.placed_sig-sig.ensures) below c.arg.ensures c.place.ensures in
    let ready = ready_here (image_in c.args.registers.now c.args.stack.now) c.LINK-base.result s.arguments ps c.loop-i.i c.arg.result c.place.result.now here.types here.places c.loop-i.bytes c.loop-i.each c.loop-i.invariant in
    record { there = ready.0; has_all = ready.1 }

pub loop-i-preserved : goal.loop-i-preserved
loop-i-preserved g c =
    let s = c.args.placed.now in
    let ps = (plan_of g.A.Abi.standard s).places in
    let below : c.loop-i.i < length s.arguments = omega (arith, c.loop-i-test.true, c.count-count.ensures.value, ap (λ r. length r.arguments) c.placed_sig-sig.ensures) in
    let here = at_argument s.arguments _ ps c.loop-i.i c.arg.result c.place.result.now (ap (λ r. r.arguments) c.placed_sig-sig.ensures) below c.arg.ensures c.place.ensures in
    one_seen (image_in c.args.registers.now c.args.stack.now) c.LINK-base.result s.arguments ps c.loop-i.i c.arg.result c.place.result.now here.types here.places c.loop-i.bytes c.loop-i.each c.loop-i.invariant c.see_argument.new.bytes c.in_ok-one.one c.push.new.self c.in_ok-one.ensures c.in_ok-push.ensures.ok

pub returns : goal.returns
returns g c =
    let std = g.A.Abi.standard in
    let s = c.args.placed.now in
    let m = image_in c.args.registers.now c.args.stack.now in
    let ps = (plan_of g.A.Abi.standard s).places in
    let base_is : c.LINK-base.result ≡ std.link = c.LINK-base.ensures ∙ sym g.met.A.Abi.link_is in
    let past : length s.arguments ≤ c.loop-i.i = omega (arith, c.loop-i-test.false, c.count-count.ensures.value, ap (λ r. length r.arguments) c.placed_sig-sig.ensures) in
    subst (λ b. AreSeen m b 0 s.arguments ps [] c.loop-i.bytes c.loop-i.each) base_is (all_seen m c.LINK-base.result s.arguments ps c.loop-i.i c.loop-i.bytes c.loop-i.each past c.loop-i.invariant)
