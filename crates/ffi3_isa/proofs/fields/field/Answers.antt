use Rattle.std.proofs.Common.{◌/◌, ◌^◌, ◌-◌, ◌<◌, ℕ, bit_and, ap, ◌∙◌, arith}
use Rattle.std.proofs.lemmas.Nat.{one_shl, and_mask}
use Rattle.ffi3_isa.proofs.fields.field.Goals as goal

pub returns : goal.returns
returns c =
    let below : c.args.width < 32 = omega arith in
    ap (λ (m : ℕ). bit_and (c.args.word / 2 ^ c.args.low) (m - 1)) (one_shl c.args.width 32 below) ∙ and_mask _ _
