use Rattle.ffi3_callee.proofs.SavedWords.{AreSavedTo}
use Rattle.ffi3_callee.proofs.save_area.save_words.Given as goal

abbrev pub invariant-loop-i : goal.invariant-loop-i
invariant-loop-i g l =
    AreSavedTo l.from l.base l.hidden g.A.Abi.standard.save_area l.initial.machine l.i l.machine
