use Rattle.std.proofs.Common.{◌∙◌, arith}
use Rattle.ffi3_values.proofs.Hexadecimal.{encoded}
use Rattle.ffi3_values.proofs.text.write_hexadecimal.Goals as goal

pub returns : goal.returns
returns c =
    let digits = c.as_bytes.ensures.value ∙ c.in_ok-digits.ensures ∙ encoded c.args.bytes.now (λ i. omega (arith, c.type_inv.bytes i)) in
    rw digits at c.extend.ensures.ok
