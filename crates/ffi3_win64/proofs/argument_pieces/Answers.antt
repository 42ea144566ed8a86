use Rattle.std.proofs.Common.{◌≡◌, subst, sym, ◌∙◌}
use Rattle.std.specs.Prelude.{IfOk}
use Rattle.ffi3_win64_spec.proofs.Positions.{pieces_of_floating}
use Rattle.ffi3_win64.proofs.argument_pieces.Goals as goal

pub returns-then-p-lt4 : goal.returns-then-p-lt4
returns-then-p-lt4 c =
    let floating = sym (rw c.as_type.ensures.value at c.is_floating.ensures) ∙ c.if-is_floating.true in
    subst (λ pieces. IfOk c.floating_pieces.result (λ ps. ps ≡ pieces)) (sym (pieces_of_floating c.args.variadic c.args.p c.args.ty.now floating c.if-p-lt4.true)) c.floating_pieces.ensures
