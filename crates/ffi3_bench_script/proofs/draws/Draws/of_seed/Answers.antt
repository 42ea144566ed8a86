use Rattle.std.proofs.Common.{refl}
use Rattle.ffi3_script_spec.specs.Made.{first_state}
use Rattle.ffi3_bench_script.proofs.draws.Draws.of_seed.Goals as goal

pub returns : goal.returns
unfolding first_state
returns c = refl
