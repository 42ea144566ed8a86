use Rattle.ffi3_image.proofs.Words.{Done}
use Rattle.ffi3_image.proofs.parts.read_words.Given as goal

abbrev pub invariant-loop-i : goal.invariant-loop-i
invariant-loop-i l = Done l.items l.at l.i l.words.items
