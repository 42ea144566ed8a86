use Rattle.ffi3_next_move.proofs.standing.Standing.in_function.Goals as goal

pub returns-then-number-count : goal.returns-then-number-count
returns-then-number-count g c = c.in_script.ensures _
