use Rattle.std.proofs.Common.{◌∷◌, ◌∙◌}
use Rattle.std.proofs.lemmas.Result.{on_ok_weaker}
use Rattle.ffi3_cdecl.specs.TokenOf.{token_of}
use Rattle.ffi3_cdecl.proofs.text.Writer.put_two.Goals as goal

pub returns : goal.returns
returns c =
    on_ok_weaker c.put-2.result (λ q rest. q rest ∙ c.in_ok-put.ensures (token_of c.args.second ∷ rest)) c.put-2.ensures
