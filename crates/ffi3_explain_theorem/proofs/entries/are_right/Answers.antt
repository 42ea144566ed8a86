use Rattle.std.proofs.Common.{arith, subst}
use Rattle.ffi3_type_spec.specs.Signature.{SignatureHasNoFault, signature_at}
use Rattle.ffi3_explain_theorem.proofs.Recorded.{all_signatures, one_further}
use Rattle.ffi3_explain_theorem.proofs.entries.are_right.Goals as goal

pub loop-k-init : goal.loop-k-init
loop-k-init g c = λ k h. absurd (omega (arith, h))

pub loop-k-preserved : goal.loop-k-preserved
loop-k-preserved g c =
    one_further (λ k. SignatureHasNoFault (signature_at c.args.cifs.now k)) c.loop-k.k c.loop-k.invariant (subst SignatureHasNoFault c.get.ensures c.sig-sig.ensures.faultless)

pub returns : goal.returns
returns g c =
    all_signatures c.args.cifs.now (λ k h. c.loop-k.invariant k (omega (arith, h)))
