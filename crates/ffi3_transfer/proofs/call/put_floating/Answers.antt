use Rattle.std.proofs.Common.{ap, arith, ◌-◌}
use Rattle.ffi3_transfer.specs.Stored.{image_in}
use Rattle.ffi3_transfer.proofs.Words.{set_in_front, set_behind}
use Rattle.ffi3_transfer.proofs.call.put_floating.Goals as goal

pub returns-then-k-lt32-clause-set : goal.returns-then-k-lt32-clause-set
returns-then-k-lt32-clause-set c = λ stack.
    ap (λ ws. record (image_in c.args.registers.now stack) { floating = ws }) (set_in_front c.args.registers.now.floating c.args.registers.now.upper c.args.k c.args.value (omega arith))

pub returns-else-k-lt32-clause-set : goal.returns-else-k-lt32-clause-set
returns-else-k-lt32-clause-set c = λ stack.
    ap (λ ws. record (image_in c.args.registers.now stack) { floating = ws }) (set_behind c.args.registers.now.floating c.args.registers.now.upper c.args.k (c.args.k - 32) c.args.value (omega arith))
