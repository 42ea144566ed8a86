use Rattle.std.proofs.Common.{sym, ◌∙◌}
use Rattle.ffi3_capi.proofs.ByNodes.{is_type_fault}
use Rattle.ffi3_capi.proofs.nodes.type_of_nodes.Goals as goal

pub returns-in-Ok-clause-ok : goal.returns-in-Ok-clause-ok
returns-in-Ok-clause-ok c =
    record { written = c.in-Ok.ensures.ok; only = c.in-Ok.ensures.only; faultless = c.in-Ok.ensures.faultless }

pub returns-in-Err-clause-err : goal.returns-in-Err-clause-err
returns-in-Err-clause-err c =
    λ f is. is_type_fault c.args.nodes.now c.in-Err.refused f c.in-Err.ensures.err c.in-Err.ensures.none (sym c.type_told.ensures ∙ is)
