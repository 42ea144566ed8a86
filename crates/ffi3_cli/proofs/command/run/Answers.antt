use Rattle.std.proofs.Common.{rules, ◌≡◌, map, codes}
use Rattle.std.proofs.lemmas.Result.{IfOk-weaker}
use Rattle.clap.specs.Words.{app_of, new_app, rule_of}
use Rattle.ffi3_cli_spec.specs.WordCommands.{targets}
use Rattle.ffi3_cli.proofs.Program.{is_traceable}
use Rattle.ffi3_cli.proofs.command.run.Goals as goal

pub returns-clause-shape : goal.returns-clause-shape
returns-clause-shape c =
    let new : app_of c.after_help.result ≡ new_app (codes "run") = search rules in
    let words : map (λ s. s.now) c.as_slice.result.now ≡ targets = search rules in
    IfOk-weaker c.arg-2.result _ _ (λ m h. is_traceable (codes "run") targets c.as_slice.result.now c.in_ok-arg.field-0 m (app_of c.after_help.result) (rule_of c.target.result) (rule_of c.trace.result) new c.target.ensures.rule words (c.in_ok-arg.ensures.shape c.target.ensures.local) c.trace.ensures.rule (h.shape c.trace.ensures.local)) c.arg-2.ensures
