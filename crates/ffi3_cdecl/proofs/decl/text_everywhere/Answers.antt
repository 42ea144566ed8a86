use Rattle.std.proofs.Common.{◌≡◌, ◌∙◌, ap, length}
use Rattle.std.proofs.lemmas.Result.{IfOk-weaker}
use Rattle.ffi3_cdecl.specs.PassOf.{pass_of, outcome_of, judged_by, pass_over, unjudged_behind}
use Rattle.ffi3_cdecl_spec.specs.OnePass.{new_pass}
use Rattle.ffi3_cdecl_spec.specs.Tokens.{wide}
use Rattle.ffi3_cdecl_spec.specs.ReadingFor.{judged_everywhere, read_everywhere}
use Rattle.ffi3_cdecl.specs.TokenOf.{sign_of}
use Rattle.ffi3_cdecl.proofs.Passes.{computed_by}
use Rattle.ffi3_cdecl.proofs.Judging.{same_judged_everywhere}
use Rattle.ffi3_cdecl.proofs.decl.text_everywhere.Goals as goal

pub returns : goal.returns
returns c =
    let unjudged = outcome_of c.unjudged_at.result in
    let pass = pass_of c.in_ok-pass.pass in
    let same = c.as_bytes-bytes.ensures.value in
    let over = c.in_ok-pass.ensures ∙ ap (λ bs. pass_over wide (sign_of c.args.c) 0 0 new_pass bs) same in
    let behind = c.unjudged_at.ensures ∙ ap (λ bs. unjudged_behind c.in_ok-pass.stop (length bs) pass) same in
    IfOk-weaker c.outcome_everywhere.result (λ o. outcome_of o ≡ judged_by judged_everywhere unjudged) (λ o. outcome_of o ≡ read_everywhere (sign_of c.args.c) c.args.text.now) (λ o e. computed_by (sign_of c.args.c) judged_everywhere same_judged_everywhere c.args.text.now pass c.in_ok-pass.stop unjudged (outcome_of o) over behind e) c.outcome_everywhere.ensures
