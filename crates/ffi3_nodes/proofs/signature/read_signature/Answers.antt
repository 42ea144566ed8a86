use Rattle.std.proofs.Common.{rules}
use Rattle.ffi3_nodes.specs.Nodes.{IsSignatureOf}
use Rattle.ffi3_nodes.proofs.Building.{one_signature}
use Rattle.ffi3_nodes.proofs.ForFormat.{unread_none, unread_refused, unread_uncallable}
use Rattle.ffi3_nodes.proofs.Shallow.{uncallable_signature}
use Rattle.ffi3_nodes.proofs.signature.read_signature.Goals as goal

pub returns-in-Ok-Some-clause-only : goal.returns-in-Ok-Some-clause-only
returns-in-Ok-Some-clause-only c =
    let written : IsSignatureOf c.args.nodes.now c.args.fixed c.in-Ok-Some.sig = search rules in
    λ other is. one_signature c.args.nodes.now c.args.fixed c.in-Ok-Some.sig other written is

pub returns-in-Err-told-clause-none : goal.returns-in-Err-told-clause-none
returns-in-Err-told-clause-none c =
    unread_none c.args.nodes.now c.args.fixed c.in-Err-told.refused c.in-Err-told.ensures.err

pub returns-in-Err-told-clause-uncallable : goal.returns-in-Err-told-clause-uncallable
returns-in-Err-told-clause-uncallable c =
    unread_uncallable c.args.nodes.now c.args.fixed c.in-Err-told.refused c.in-Err-told.ensures.err

pub returns-in-Err-told-clause-err : goal.returns-in-Err-told-clause-err
returns-in-Err-told-clause-err c =
    unread_refused c.args.nodes.now c.args.fixed c.in-Err-told.refused c.in-Err-told.ensures.err

pub returns-in-Ok-check_sig-clause-only : goal.returns-in-Ok-check_sig-clause-only
returns-in-Ok-check_sig-clause-only c =
    λ other is. one_signature c.args.nodes.now c.args.fixed c.in-Ok.sig other c.in-Ok.ensures.ok is

pub returns-in-Err-check_sig-clause-uncallable : goal.returns-in-Err-check_sig-clause-uncallable
returns-in-Err-check_sig-clause-uncallable c =
    uncallable_signature c.args.nodes.now c.args.fixed c.in-Ok.sig c.in-Err-check_sig.fault c.in-Ok.ensures.ok c.in-Err-check_sig.ensures.err
