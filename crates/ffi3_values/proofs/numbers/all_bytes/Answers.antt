use Rattle.std.proofs.Common.{◌≡◌, ◌%◌, ◌^◌, ap, ◌∙◌, subst, arith}
use Rattle.std.specs.Prelude.{IfOk}
use Rattle.std.specs.Int.{w128, to_le_bytes}
use Rattle.ffi3_values.proofs.numbers.all_bytes.Goals as goal

pub returns : goal.returns
returns c =
    let whole : c.args.n ≡ c.args.n % 2 ^ 128 = omega (arith, c.ranges.n.fits) in
    subst (λ bytes. IfOk c.from_slice.result (λ b. b ≡ bytes)) (c.to_le_bytes.ensures ∙ ap (to_le_bytes w128) whole) c.from_slice.ensures
