use Rattle.ffi3_poison.proofs.Poisoning.{passing_done}
use Rattle.ffi3_poison.proofs.poison_register.Goals as goal

pub returns : goal.returns
returns g c =
    passing_done g.A.Abi.standard c.args.cif.now c.args.base c.args.byte c.args.at c.args.machine.now c.set_register.new.machine c.own_word.result c.poisoned-word.result c.requires.register c.requires.passing c.own_word.ensures c.poisoned-word.ensures.bytes (c.set_register.ensures.put c.args.base) c.poisoned-word.ensures.whole c.set_register.ensures.mark
