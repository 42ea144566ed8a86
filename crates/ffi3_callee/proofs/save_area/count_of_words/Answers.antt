use Rattle.std.proofs.Common.{arith}
use Rattle.ffi3_callee.proofs.save_area.count_of_words.Goals as goal

pub returns : goal.returns
returns g c =
    omega (arith, g.met.A.Abi.words_few, c.SAVE.ensures, g.met.A.Abi.save_is, g.met.A.Abi.agrees.area)
