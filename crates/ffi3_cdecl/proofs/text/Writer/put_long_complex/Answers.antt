use Rattle.std.proofs.Common.{◌∷◌, ◌∙◌}
use Rattle.std.proofs.lemmas.Result.{on_ok_weaker}
use Rattle.ffi3_cdecl_spec.specs.Tokens.{complex_word}
use Rattle.ffi3_cdecl.proofs.text.Writer.put_long_complex.Goals as goal

pub returns : goal.returns
returns c =
    on_ok_weaker c.put.result (λ q rest. q rest ∙ c.in_ok-put_long_double.ensures (complex_word ∷ rest)) c.put.ensures
