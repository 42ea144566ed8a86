use Rattle.std.proofs.Common.{rules, ◌≡◌}
use Rattle.std.proofs.lemmas.Result.{IfOk-weaker, IfErr-weaker}
use Rattle.ffi3_type_spec.specs.Signature.{Signature, SignatureHasNoFault, HasNoLongDouble}
use Rattle.ffi3_nodes.specs.Nodes.{IsSignatureOf}
use Rattle.ffi3_nodes.specs.Read.{IsOfNone, IsUnread, IsUnplaceable}
use Rattle.ffi3_nodes.proofs.Building.{one_signature}
use Rattle.ffi3_nodes.proofs.ForFormat.{nodes_of_types, told_is_plain, unread_none, unread_unplaceable}
use Rattle.ffi3_nodes.proofs.signature.read_unchecked.Goals as goal

pub returns-in-Ok-Some-clause-plain : goal.returns-in-Ok-Some-clause-plain
returns-in-Ok-Some-clause-plain c =
    let written : IsSignatureOf c.args.nodes.now c.args.fixed c.in-Ok-Some.sig = search rules in
    told_is_plain c.args.nodes.now c.args.fixed c.in-Ok-Some.sig written

pub returns-in-Ok-Some-clause-only : goal.returns-in-Ok-Some-clause-only
returns-in-Ok-Some-clause-only c =
    let written : IsSignatureOf c.args.nodes.now c.args.fixed c.in-Ok-Some.sig = search rules in
    λ other is. one_signature c.args.nodes.now c.args.fixed c.in-Ok-Some.sig other written is

pub returns-in-Ok-Some-clause-types : goal.returns-in-Ok-Some-clause-types
returns-in-Ok-Some-clause-types c =
    let written : IsSignatureOf c.args.nodes.now c.args.fixed c.in-Ok-Some.sig = search rules in
    let faultless : SignatureHasNoFault c.in-Ok-Some.sig = search rules in
    nodes_of_types c.args.nodes.now c.args.fixed c.in-Ok-Some.sig written faultless

pub returns-clause-plain : goal.returns-clause-plain
returns-clause-plain c =
    IfOk-weaker c.told.result (λ s. IsSignatureOf c.args.nodes.now c.args.fixed s) (λ s. HasNoLongDouble s) (λ s is. told_is_plain c.args.nodes.now c.args.fixed s is) c.told.ensures.ok

pub returns-clause-only : goal.returns-clause-only
returns-clause-only c =
    IfOk-weaker c.told.result (λ s. IsSignatureOf c.args.nodes.now c.args.fixed s) (λ s. (other : Signature) → IsSignatureOf c.args.nodes.now c.args.fixed other → other ≡ s) (λ s is other is'. one_signature c.args.nodes.now c.args.fixed s other is is') c.told.ensures.ok

pub returns-clause-none : goal.returns-clause-none
returns-clause-none c =
    IfErr-weaker c.told.result (λ r. IsUnread c.args.nodes.now r) (λ r. IsOfNone c.args.nodes.now r) (λ r h. unread_none c.args.nodes.now c.args.fixed r h) c.told.ensures.err

pub returns-clause-unplaceable : goal.returns-clause-unplaceable
returns-clause-unplaceable c =
    λ format. IfErr-weaker c.told.result (λ r. IsUnread c.args.nodes.now r) (λ r. IsUnplaceable format c.args.nodes.now c.args.fixed r) (λ r h. unread_unplaceable c.args.nodes.now c.args.fixed format r h) c.told.ensures.err
