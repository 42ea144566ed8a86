use Rattle.std.proofs.Common.{◌≡◌, ◌++◌, subst, sym}
use Rattle.std.specs.Prelude.{OnOk}
use Rattle.std.proofs.lemmas.Fmt.{decimal_digit}
use Rattle.ffi3_text.proofs.place.write_length.Goals as goal

pub returns-then-len-lt10 : goal.returns-then-len-lt10
returns-then-len-lt10 c =
    subst (λ t. OnOk c.push.result (c.push.new.self ≡ c.args.text.now ++ t)) (sym (decimal_digit c.args.len c.if-len-lt10.true)) c.push.ensures.ok
