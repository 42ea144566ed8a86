use Rattle.std.proofs.Common.{rules, arith, ◌<◌, length, ap, ◌∙◌}
use Rattle.ffi3_type_spec.specs.Tree.{tree_at}
use Rattle.ffi3_type_spec.proofs.Placed.{faultless_is_plain}
use Rattle.ffi3_values.specs.ValueOf.{value_of}
use Rattle.ffi3_place_spec.specs.Standard.{plan_of}
use Rattle.ffi3_place_spec.proofs.OnMachine.{as_before}
use Rattle.ffi3_explain.specs.ImageOf.{image_of}
use Rattle.ffi3_explain.proofs.Ready.{reached}
use Rattle.ffi3_explain.proofs.Standing.{all_to_read, ready_to_read, tells_outside, read_further}
use Rattle.ffi3_explain.proofs.reading.read_arguments.Goals as goal

pub loop-i-init : goal.loop-i-init
loop-i-init g c =
    let std = g.A.Abi.standard in
    let s = c.args.cif.now in
    let sound = as_before std s (g.met.A.Abi.sound s) (faultless_is_plain s c.checked_sig-sig.ensures.faultless) in
    all_to_read (image_of c.args.image.now) c.args.base s.arguments (plan_of std s).places c.new-values.result c.new-values.ensures (reached std s sound (image_of c.args.image.now) c.args.base c.requires.link c.requires.stack)

pub read_argument-requires : goal.read_argument-requires
read_argument-requires g c =
    let s = c.args.cif.now in
    let below : c.loop-i.i < length s.arguments = omega (arith, c.count-count.ensures.value, ap (λ r. length r.arguments) c.checked_sig-sig.ensures.value) in
    let ready = ready_to_read (image_of c.args.image.now) c.args.base s.arguments (plan_of g.A.Abi.standard s).places c.loop-i.i c.loop-i.values c.arg-ty.result c.place.result.now below (c.arg-ty.ensures ∙ ap (λ r. tree_at r.arguments c.loop-i.i) c.checked_sig-sig.ensures.value) c.place.ensures c.loop-i.invariant in
    record { there = ready.0; has_all = ready.1 }

pub loop-i-preserved : goal.loop-i-preserved
loop-i-preserved g c =
    let s = c.args.cif.now in
    let below : c.loop-i.i < length s.arguments = omega (arith, c.count-count.ensures.value, ap (λ r. length r.arguments) c.checked_sig-sig.ensures.value) in
    read_further (image_of c.args.image.now) c.args.base s.arguments (plan_of g.A.Abi.standard s).places c.loop-i.i c.loop-i.values c.arg-ty.result c.place.result.now below (c.arg-ty.ensures ∙ ap (λ r. tree_at r.arguments c.loop-i.i) c.checked_sig-sig.ensures.value) c.place.ensures c.loop-i.invariant (value_of c.in-Ok.value) c.push.new.self (search rules) (search rules) (search rules)

pub returns-in-Err-clause-outside : goal.returns-in-Err-clause-outside
returns-in-Err-clause-outside g c =
    let s = c.args.cif.now in
    let below : c.loop-i.i < length s.arguments = omega (arith, c.count-count.ensures.value, ap (λ r. length r.arguments) c.checked_sig-sig.ensures.value) in
    tells_outside (image_of c.args.image.now) c.args.base s.arguments (plan_of g.A.Abi.standard s).places c.loop-i.i c.loop-i.values c.arg-ty.result c.place.result.now below (c.arg-ty.ensures ∙ ap (λ r. tree_at r.arguments c.loop-i.i) c.checked_sig-sig.ensures.value) c.place.ensures c.loop-i.invariant c.in-Err.fault c.in-Err.ensures.outside
