use Rattle.std.proofs.Common.{arith}
use Rattle.ffi3_machine.proofs.are_words.Goals as goal

pub returns : goal.returns
returns c k = omega (arith, c.type_inv.registers k)
