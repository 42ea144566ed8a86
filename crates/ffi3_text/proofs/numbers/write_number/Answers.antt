use Rattle.std.proofs.Common.{◌≡◌, ◌++◌, subst, sym}
use Rattle.std.specs.Prelude.{OnOk}
use Rattle.std.proofs.lemmas.Fmt.{decimal_digit}
use Rattle.ffi3_text.proofs.numbers.write_number.Goals as goal

pub returns-then-number-lt10 : goal.returns-then-number-lt10
returns-then-number-lt10 c =
    subst (λ t. OnOk c.push.result (c.push.new.self ≡ c.args.text.now ++ t)) (sym (decimal_digit c.args.number c.if-number-lt10.true)) c.push.ensures.ok
