use Rattle.std.proofs.Common.{arith}
use Rattle.ffi3_callee.proofs.save_area.word_at.Goals as goal

pub saved_word-requires : goal.saved_word-requires
saved_word-requires g c =
    omega (arith, c.requires, g.met.A.Abi.save_is, g.met.A.Abi.agrees.area)
