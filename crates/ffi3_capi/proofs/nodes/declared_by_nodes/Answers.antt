use Rattle.std.proofs.Common.{sym, ◌∙◌}
use Rattle.ffi3_capi.proofs.ByNodes.{declared_nodes, is_nodes_fault}
use Rattle.ffi3_capi.proofs.nodes.declared_by_nodes.Goals as goal

pub returns-in-Ok-clause-ok : goal.returns-in-Ok-clause-ok
returns-in-Ok-clause-ok c =
    declared_nodes c.args.nodes.now c.args.fixed c.fixed_of.result c.in-Ok.sig c.fixed_of.ensures c.in-Ok.ensures.ok c.in-Ok.ensures.only c.in-Ok.ensures.faultless

pub returns-in-Err-clause-err : goal.returns-in-Err-clause-err
returns-in-Err-clause-err c =
    λ f is. is_nodes_fault c.args.nodes.now c.args.fixed c.fixed_of.result c.in-Err.refused f c.fixed_of.ensures c.in-Err.ensures.err c.in-Err.ensures.uncallable (sym c.nodes_told.ensures ∙ is)
