use Rattle.ffi3_callee.proofs.SavedWords.{AreBackTo}
use Rattle.ffi3_callee.proofs.save_area.restore_words.Given as goal

abbrev pub invariant-loop-i : goal.invariant-loop-i
invariant-loop-i g l =
    AreBackTo l.from g.A.Abi.standard.save_area l.initial.machine l.i l.machine
