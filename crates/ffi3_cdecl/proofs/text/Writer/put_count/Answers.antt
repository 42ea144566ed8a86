use Rattle.std.proofs.Common.{◌∷◌, ◌∙◌}
use Rattle.std.proofs.lemmas.Result.{on_ok_weaker}
use Rattle.ffi3_cdecl_spec.specs.Tokens.{number, close_square}
use Rattle.ffi3_cdecl.proofs.text.Writer.put_count.Goals as goal

pub returns : goal.returns
returns c =
    on_ok_weaker c.put_two.result (λ q rest. q rest ∙ c.in_ok-put.ensures (number c.args.count ∷ close_square ∷ rest)) c.put_two.ensures
