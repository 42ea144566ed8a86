use Rattle.std.proofs.Common.{◌+◌, ◌*◌, ◌%◌, refl, ap}
use Rattle.ffi3_script_spec.specs.Made.{next_state, drawn}
use Rattle.ffi3_bench_script.proofs.draws.Draws.draw.Goals as goal

pub returns-clause-moved : goal.returns-clause-moved
unfolding next_state
returns-clause-moved c =
    ap (λ x. (x * 1103515245 + 12345) % 2147483648) c.from.ensures

pub returns-clause-is : goal.returns-clause-is
unfolding drawn
returns-clause-is c = refl
