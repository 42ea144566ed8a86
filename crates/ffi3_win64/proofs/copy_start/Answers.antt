use Rattle.ffi3_win64.proofs.copy_start.Goals as goal

pub returns-clause-value : goal.returns-clause-value
returns-clause-value c = λ t. c.round_up.ensures.value
