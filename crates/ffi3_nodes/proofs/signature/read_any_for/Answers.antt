use Rattle.std.proofs.Common.{◌≡◌, ◌∙◌}
use Rattle.std.proofs.lemmas.Result.{IfOk-weaker, IfErr-weaker}
use Rattle.ffi3_type_spec.specs.Signature.{Signature, SignatureIsPlaced}
use Rattle.ffi3_nodes.specs.Read.{IsSignatureFor, IsFaultOf, IsRefusedFor, IsOfNone, IsUnplaceable, IsCallableWithout, IsRefusedWithout}
use Rattle.ffi3_nodes.proofs.ForFormat.{callable_without, one_signature_for, fault_refused, fault_of_none, fault_unplaceable, fault_without, unread_none, unread_refused, unread_uncallable, unread_unplaceable}
use Rattle.ffi3_nodes.proofs.signature.read_any_for.Goals as goal

-- nodes that are no signature

pub returns-in-Err-clause-none : goal.returns-in-Err-clause-none
returns-in-Err-clause-none c =
    unread_none c.args.nodes.now c.args.fixed c.in-Err.refused c.in-Err.ensures.err

pub returns-in-Err-clause-unplaceable : goal.returns-in-Err-clause-unplaceable
returns-in-Err-clause-unplaceable c =
    unread_unplaceable c.args.nodes.now c.args.fixed c.args.format c.in-Err.refused c.in-Err.ensures.err

pub returns-in-Err-clause-without : goal.returns-in-Err-clause-without
returns-in-Err-clause-without c = λ without. (
  unread_refused c.args.nodes.now c.args.fixed c.in-Err.refused c.in-Err.ensures.err,
  unread_uncallable c.args.nodes.now c.args.fixed c.in-Err.refused c.in-Err.ensures.err,
)

-- those of others

pub returns-in-Ok-resolve : goal.returns-in-Ok-resolve
returns-in-Ok-resolve c = record {
  ok = IfOk-weaker c.placed.result (λ s. (s ≡ c.in-Ok-resolve.sig) × SignatureIsPlaced s) (λ s. IsSignatureFor c.args.format c.args.nodes.now c.args.fixed s) (λ s h. record { told = c.in-Ok.sig; written = c.in-Ok.ensures.ok; by_format = h.0 ∙ c.in-Ok-resolve.ensures }) c.placed.ensures.ok;
  placed = IfOk-weaker c.placed.result (λ s. (s ≡ c.in-Ok-resolve.sig) × SignatureIsPlaced s) (λ s. SignatureIsPlaced s) (λ s h. h.1) c.placed.ensures.ok;
  only = IfOk-weaker c.placed.result (λ s. (s ≡ c.in-Ok-resolve.sig) × SignatureIsPlaced s) (λ s. (other : Signature) → IsSignatureFor c.args.format c.args.nodes.now c.args.fixed other → other ≡ s) (λ s h. one_signature_for c.args.format c.args.nodes.now c.args.fixed c.in-Ok.sig s c.in-Ok.ensures.ok (h.0 ∙ c.in-Ok-resolve.ensures)) c.placed.ensures.ok;
  callable = IfOk-weaker c.placed.result (λ s. (s ≡ c.in-Ok-resolve.sig) × SignatureIsPlaced s) (λ s. IsCallableWithout c.args.nodes.now c.args.fixed s) (λ s h. callable_without c.args.format c.args.nodes.now c.args.fixed c.in-Ok.sig s c.in-Ok.ensures.ok (h.0 ∙ c.in-Ok-resolve.ensures) h.1) c.placed.ensures.ok;
  err = IfErr-weaker c.placed.result (λ r. IsFaultOf c.in-Ok-resolve.sig r) (λ r. IsRefusedFor c.args.format c.args.nodes.now c.args.fixed r) (λ r h. fault_refused c.args.format c.args.nodes.now c.args.fixed c.in-Ok.sig c.in-Ok-resolve.sig c.in-Ok.ensures.ok c.in-Ok-resolve.ensures c.in-Ok.ensures.types r h) c.placed.ensures.err;
  none = IfErr-weaker c.placed.result (λ r. IsFaultOf c.in-Ok-resolve.sig r) (λ r. IsOfNone c.args.nodes.now r) (λ r h. fault_of_none c.args.format c.args.nodes.now c.args.fixed c.in-Ok.sig c.in-Ok-resolve.sig c.in-Ok.ensures.ok c.in-Ok-resolve.ensures r h) c.placed.ensures.err;
  unplaceable = IfErr-weaker c.placed.result (λ r. IsFaultOf c.in-Ok-resolve.sig r) (λ r. IsUnplaceable c.args.format c.args.nodes.now c.args.fixed r) (λ r h. fault_unplaceable c.args.format c.args.nodes.now c.args.fixed c.in-Ok.sig c.in-Ok-resolve.sig c.in-Ok.ensures.ok c.in-Ok-resolve.ensures r h) c.placed.ensures.err;
  without = IfErr-weaker c.placed.result (λ r. IsFaultOf c.in-Ok-resolve.sig r) (λ r. IsRefusedWithout c.args.nodes.now c.args.fixed r) (λ r h. fault_without c.args.format c.args.nodes.now c.args.fixed c.in-Ok.sig c.in-Ok-resolve.sig c.in-Ok.ensures.ok c.in-Ok-resolve.ensures c.in-Ok.ensures.types r h) c.placed.ensures.err;
}
