use Rattle.std.specs.Prelude.{refl}
use Rattle.ffi3_machine_transfer.proofs.lent.LentWriteImage.set_floating.Goals as goal

pub returns-clause-wrote : goal.returns-clause-wrote
returns-clause-wrote c = λ low high. (refl, c.set_floating.ensures.within low high)
