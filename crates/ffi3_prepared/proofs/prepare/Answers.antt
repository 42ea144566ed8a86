use Rattle.std.proofs.Common.{◌≡◌, sym, subst, ◌∙◌}
use Rattle.ffi3_type_spec.specs.Signature.{Signature, SignatureIsPlaced}
use Rattle.ffi3_format_spec.specs.declared.Format.{Format}
use Rattle.ffi3_format_spec.specs.Format.{format_of}
use Rattle.ffi3_nodes.specs.Read.{IsCallableWithout, IsSignatureFor}
use Rattle.ffi3_prepared.proofs.prepare.Goals as goal

pub returns-in-Ok-prepare_signature-clause-ok : goal.returns-in-Ok-prepare_signature-clause-ok
returns-in-Ok-prepare_signature-clause-ok c =
    let same = c.in-Ok-prepare_signature.ensures.signature in
    let format = c.format_of.ensures in
    let told = subst (λ (f : Format). IsSignatureFor f c.args.nodes.now c.args.fixed c.in-Ok.sig) format c.in-Ok.ensures.ok in
    let only = subst (λ (f : Format). (other : Signature) → IsSignatureFor f c.args.nodes.now c.args.fixed other → other ≡ c.in-Ok.sig) format c.in-Ok.ensures.only in
    record {
      to_is = c.in-Ok-prepare_signature.ensures.target;
      signature = subst (λ (s : Signature). IsSignatureFor (format_of c.args.target) c.args.nodes.now c.args.fixed s) (sym same) told;
      can_be = subst SignatureIsPlaced (sym same) c.in-Ok.ensures.placed;
      only = λ other is. only other is ∙ sym same;
      callable = subst (λ (s : Signature). IsCallableWithout c.args.nodes.now c.args.fixed s) (sym same) c.in-Ok.ensures.callable;
    }
