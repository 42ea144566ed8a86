use Rattle.std.proofs.Common.{◌≡◌, ◌+◌, ◌<◌, ◌≤◌, length, ap, refl, subst, sym, ◌∙◌, arith}
use Rattle.ffi3_type_spec.specs.Layout.{size_of}
use Rattle.ffi3_type_spec.specs.Signature.{SignatureHasNoFault}
use Rattle.ffi3_place_spec.specs.Standard.{block_bytes, round8}
use Rattle.ffi3_semantics_spec.specs.SeenActivation.{block_offset}
use Rattle.ffi3_body.proofs.Blocks.{block_small, offset-turn, whole_within}
use Rattle.ffi3_callee.proofs.offset_of.Goals as goal

pub overflow_add-offset : goal.overflow_add-offset
overflow_add-offset c =
    let s = c.args.sig.now in
    let below : c.loop-k.k < length s.arguments = omega (arith, c.loop-k-test.true, c.requires) in
    let whole = subst (λ u. block_offset s.arguments c.loop-k.k + round8 (size_of u) ≤ block_bytes s) (sym c.arg-ty.ensures) (whole_within s c.loop-k.k below) in
    let size_is = ap round8 c.size.ensures.value in
    let right : SignatureHasNoFault s = subst SignatureHasNoFault c.as_sig-sig.ensures.value c.as_sig-sig.ensures.right in
    omega (arith, whole, size_is, c.round_up-offset.ensures.value, c.loop-k.invariant.offset_is, block_small s right)

pub loop-k-preserved : goal.loop-k-preserved
loop-k-preserved c =
    let s = c.args.sig.now in
    let below : c.loop-k.k < length s.arguments = omega (arith, c.loop-k-test.true, c.requires) in
    let t = c.arg-ty.result in
    let rounded : c.loop-k.offset + c.round_up-offset.result ≡ c.loop-k.offset + round8 (size_of t) = ap (λ n. c.loop-k.offset + n) (c.round_up-offset.ensures.value ∙ ap round8 c.size.ensures.value) in
    record { offset_is = rounded ∙ offset-turn s.arguments c.loop-k.k t c.loop-k.offset (size_of t) below c.arg-ty.ensures c.loop-k.invariant.offset_is refl }

pub returns : goal.returns
returns c =
    let at_end : c.loop-k.k ≡ c.args.i = omega arith in
    c.loop-k.invariant.offset_is ∙ ap (block_offset c.args.sig.now.arguments) at_end
