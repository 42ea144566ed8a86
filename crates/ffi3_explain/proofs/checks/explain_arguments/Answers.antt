use Rattle.std.proofs.Common.{rules, arith, ◌<◌, length, ap, ◌∙◌}
use Rattle.ffi3_type_spec.specs.Tree.{tree_at}
use Rattle.ffi3_type_spec.proofs.Placed.{faultless_is_plain}
use Rattle.ffi3_values.specs.ValueOf.{value_of}
use Rattle.ffi3_place_spec.specs.Standard.{plan_of}
use Rattle.ffi3_place_spec.proofs.OnMachine.{as_before}
use Rattle.ffi3_explain.specs.ImageOf.{image_of}
use Rattle.ffi3_explain.proofs.Ready.{arguments_ready}
use Rattle.ffi3_explain.proofs.Turns.{all_left, ready_here, tells_first, explain_further}
use Rattle.ffi3_explain.proofs.checks.explain_arguments.Goals as goal

pub loop-i-init : goal.loop-i-init
loop-i-init g c =
    let std = g.A.Abi.standard in
    let s = c.args.cif.now in
    let sound = as_before std s (g.met.A.Abi.sound s) (faultless_is_plain s c.checked_sig-sig.ensures.faultless) in
    all_left (image_of c.args.image.now) c.args.base s.arguments (plan_of std s).places c.new-values.result c.new-values.ensures (arguments_ready std s sound (image_of c.args.image.now) c.args.base c.requires.stack c.requires.high c.checked_sig-sig.ensures.faultless)

pub explain_argument-requires : goal.explain_argument-requires
explain_argument-requires g c =
    let s = c.args.cif.now in
    let below : c.loop-i.i < length s.arguments = omega (arith, c.count-count.ensures.value, ap (λ r. length r.arguments) c.checked_sig-sig.ensures.value) in
    let ready = ready_here (image_of c.args.image.now) c.args.base s.arguments (plan_of g.A.Abi.standard s).places c.loop-i.i c.loop-i.values c.arg-ty.result c.place.result.now below (c.arg-ty.ensures ∙ ap (λ r. tree_at r.arguments c.loop-i.i) c.checked_sig-sig.ensures.value) c.place.ensures c.loop-i.invariant in
    record { there = ready.0; has_all = ready.1 }

pub loop-i-preserved : goal.loop-i-preserved
loop-i-preserved g c =
    let s = c.args.cif.now in
    let below : c.loop-i.i < length s.arguments = omega (arith, c.count-count.ensures.value, ap (λ r. length r.arguments) c.checked_sig-sig.ensures.value) in
    explain_further (image_of c.args.image.now) c.args.base s.arguments (plan_of g.A.Abi.standard s).places c.loop-i.i c.loop-i.values c.arg-ty.result c.place.result.now below (c.arg-ty.ensures ∙ ap (λ r. tree_at r.arguments c.loop-i.i) c.checked_sig-sig.ensures.value) c.place.ensures c.loop-i.invariant (value_of c.in-Ok.value) c.push.new.self (search rules) (search rules) (search rules)

pub returns-in-Err-clause-broken : goal.returns-in-Err-clause-broken
returns-in-Err-clause-broken g c =
    let s = c.args.cif.now in
    let below : c.loop-i.i < length s.arguments = omega (arith, c.count-count.ensures.value, ap (λ r. length r.arguments) c.checked_sig-sig.ensures.value) in
    tells_first (image_of c.args.image.now) c.args.base s.arguments (plan_of g.A.Abi.standard s).places c.loop-i.i c.loop-i.values c.arg-ty.result c.place.result.now below (c.arg-ty.ensures ∙ ap (λ r. tree_at r.arguments c.loop-i.i) c.checked_sig-sig.ensures.value) c.place.ensures c.loop-i.invariant c.in-Err.fault c.in-Err.ensures.broken
