use Rattle.std.proofs.Common.{◌∙◌, ap, length}
use Rattle.ffi3_cdecl_spec.specs.OnePass.{new_pass}
use Rattle.ffi3_cdecl.specs.PassOf.{pass_of, outcome_of, outcome_behind, pass_over}
use Rattle.ffi3_cdecl.specs.TokenOf.{dialect_of, sign_of}
use Rattle.ffi3_cdecl.proofs.Passes.{computed}
use Rattle.ffi3_cdecl.proofs.decl.outcome.Goals as goal

pub returns : goal.returns
returns c =
    let pass = pass_of c.in_ok-pass.pass in
    let same = c.as_bytes-bytes.ensures.value in
    let over = c.in_ok-pass.ensures ∙ ap (λ bs. pass_over (dialect_of c.args.r) (sign_of c.args.c) 0 0 new_pass bs) same in
    let behind = c.outcome_at.ensures ∙ ap (λ bs. outcome_behind c.in_ok-pass.stop (length bs) pass) same in
    computed (dialect_of c.args.r) (sign_of c.args.c) c.args.text.now pass c.in_ok-pass.stop (outcome_of c.outcome_at.result) over behind
