use Rattle.std.proofs.Common.{rules, sym}
use Rattle.ffi3_type_spec.specs.Signature.{SignatureHasNoFault}
use Rattle.ffi3_nodes.specs.Nodes.{IsSignatureOf}
use Rattle.ffi3_type_spec.proofs.Placed.{faultless_is_placed}
use Rattle.ffi3_format_spec.proofs.Resolving.{callable_is_own}
use Rattle.ffi3_nodes.proofs.ForFormat.{callable_for, one_signature_for}
use Rattle.ffi3_nodes.proofs.signature.read_signature_for.Goals as goal

-- of scalars and structs of them

pub returns-in-Ok-Some-clause-ok : goal.returns-in-Ok-Some-clause-ok
returns-in-Ok-Some-clause-ok c =
    let written : IsSignatureOf c.args.nodes.now c.args.fixed c.in-Ok-Some.sig = search rules in
    let faultless : SignatureHasNoFault c.in-Ok-Some.sig = search rules in
    callable_for c.args.format c.args.nodes.now c.args.fixed c.in-Ok-Some.sig written faultless

pub returns-in-Ok-Some-clause-placed : goal.returns-in-Ok-Some-clause-placed
returns-in-Ok-Some-clause-placed c =
    let faultless : SignatureHasNoFault c.in-Ok-Some.sig = search rules in
    faultless_is_placed c.in-Ok-Some.sig faultless

pub returns-in-Ok-Some-clause-only : goal.returns-in-Ok-Some-clause-only
returns-in-Ok-Some-clause-only c =
    let written : IsSignatureOf c.args.nodes.now c.args.fixed c.in-Ok-Some.sig = search rules in
    let faultless : SignatureHasNoFault c.in-Ok-Some.sig = search rules in
    λ other is. one_signature_for c.args.format c.args.nodes.now c.args.fixed c.in-Ok-Some.sig c.in-Ok-Some.sig written (sym (callable_is_own c.args.format c.in-Ok-Some.sig faultless)) other is
