use Rattle.std.proofs.Common.{sym, ◌∙◌}
use Rattle.ffi3_capi.proofs.ByNodes.{declared_nodes_in, is_nodes_fault_in}
use Rattle.ffi3_capi.proofs.nodes.declared_by_nodes_in.Goals as goal

pub returns-in-Ok-clause-ok : goal.returns-in-Ok-clause-ok
returns-in-Ok-clause-ok c =
    declared_nodes_in c.args.format c.args.nodes.now c.args.fixed c.fixed_of.result c.in-Ok.sig c.fixed_of.ensures c.in-Ok.ensures.ok c.in-Ok.ensures.only c.in-Ok.ensures.placed

pub returns-in-Err-clause-err : goal.returns-in-Err-clause-err
returns-in-Err-clause-err c =
    λ f is. is_nodes_fault_in c.args.format c.args.nodes.now c.args.fixed c.fixed_of.result c.in-Err.refused f c.fixed_of.ensures c.in-Err.ensures.err c.in-Err.ensures.unplaceable (sym c.nodes_told.ensures ∙ is)
