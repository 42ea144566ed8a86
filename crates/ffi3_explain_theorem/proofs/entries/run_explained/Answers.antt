use Rattle.std.proofs.Common.{ap, ◌∙◌}
use Rattle.ffi3_script.specs.ScriptOf.{script_of}
use Rattle.ffi3_small_step_spec.specs.MainTracing.{main_tracing}
use Rattle.ffi3_next_move.proofs.Handing.{same_program}
use Rattle.ffi3_explain_theorem.proofs.Ended.{explained_at_end}
use Rattle.ffi3_explain_theorem.proofs.entries.run_explained.Goals as goal

pub returns : goal.returns
returns g c =
    explained_at_end g.A.Abi.standard (main_tracing c.args.trace g.A.Abi.standard) _ _ (same_program g.A.Abi.standard _ _ _ _ _ _ _ (ap (λ v. v.items) c.in-Ok.ensures.natives) (ap script_of c.in-Ok.ensures.script)) c.cifs.result.now (c.cifs.ensures ∙ ap (λ x. x.cifs) c.run_main-end.ensures.prepared ∙ c.in-Ok.ensures.prepared.are) (g.O.Sink.state c.args.output.now) (g.O.Sink.state c.run_main-end.new.output) c.run_main-end.new.machine _ _ c.run_main-end.result c.run_main-end.ensures.done c.run_main-end.ensures.stopped c.run_main-end.ensures.cut_by_memory c.run_main-end.ensures.cut_by_write c.entries_are_explained.ensures
