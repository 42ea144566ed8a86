use Rattle.std.proofs.Common.{arith}
use Rattle.ffi3_machine_transfer.specs.Passing.{by_exchange}
use Rattle.ffi3_machine_transfer.proofs.Passing.{general_count}
use Rattle.ffi3_machine_transfer.proofs.lent.set_general.Goals as goal

pub returns-clause-there : goal.returns-clause-there
returns-clause-there c =
    omega (arith, c.requires.below, general_count (by_exchange c.args.machine.now.target) c.args.machine.now c.facts.ensures.general)
