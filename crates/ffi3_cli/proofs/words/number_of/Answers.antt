use Rattle.std.proofs.Common.{◌≡◌, ◌∙◌, decimal, true, false, sym, ap, arith}
use Rattle.std.specs.Str.{bytes_eq}
use Rattle.ffi3_cli.proofs.Numbers.{no_numeral, other_text, written_as}
use Rattle.ffi3_cli.proofs.words.number_of.Goals as goal

pub returns-in_default : goal.returns-in_default
returns-in_default c = no_numeral c.args.word.now c.in_default.ensures.value.0

pub returns-then-eq : goal.returns-then-eq
returns-then-eq c =
    let same : bytes_eq (decimal c.in-Ok.number) c.args.word.now ≡ true = ap (λ t. bytes_eq t c.args.word.now) (sym c.format.ensures.text) ∙ sym c.if-eq.ensures in
    written_as c.args.word.now c.in-Ok.number (omega (arith, c.in-Ok.ensures.value)) same

pub returns : goal.returns
returns c =
    let other : bytes_eq (decimal c.in-Ok.number) c.args.word.now ≡ false = ap (λ t. bytes_eq t c.args.word.now) (sym c.format.ensures.text) ∙ sym c.if-eq.ensures in
    other_text c.args.word.now c.in-Ok.number c.in-Ok.ensures.value.0.1 other
