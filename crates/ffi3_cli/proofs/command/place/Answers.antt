use Rattle.std.proofs.Common.{rules, ◌≡◌, map, codes}
use Rattle.std.proofs.lemmas.Result.{IfOk-weaker}
use Rattle.clap.specs.Words.{app_of, new_app, rule_of}
use Rattle.ffi3_cli_spec.specs.WordCommands.{targets}
use Rattle.ffi3_cli.proofs.Program.{has_target}
use Rattle.ffi3_cli.proofs.command.place.Goals as goal

pub returns-clause-shape : goal.returns-clause-shape
returns-clause-shape c =
    let new : app_of c.after_help.result ≡ new_app (codes "place") = search rules in
    let words : map (λ s. s.now) c.as_slice.result.now ≡ targets = search rules in
    IfOk-weaker c.arg.result _ _ (λ m h. has_target (codes "place") targets c.as_slice.result.now m (app_of c.after_help.result) (rule_of c.target.result) new c.target.ensures.rule words (h.shape c.target.ensures.local)) c.arg.ensures
