use Rattle.std.proofs.Common.{◌∷◌, ◌∙◌}
use Rattle.std.proofs.lemmas.Result.{on_ok_weaker}
use Rattle.ffi3_cdecl_spec.specs.Tokens.{close_round}
use Rattle.ffi3_cdecl.proofs.Writing.{ends_with_dots}
use Rattle.ffi3_cdecl.proofs.text.Writer.put_end.Goals as goal

pub returns : goal.returns
returns c =
    on_ok_weaker c.put-2.result (λ q. ends_with_dots c.args.self.now c.put-2.new.self c.args.variadic c.if-not-variadic.false (λ rest. q rest ∙ c.in_ok-put_two.ensures (close_round ∷ rest))) c.put-2.ensures
