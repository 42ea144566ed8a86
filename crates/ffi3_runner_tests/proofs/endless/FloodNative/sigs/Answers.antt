use Rattle.ffi3_runner_tests.proofs.Right.{nothing_right}
use Rattle.ffi3_runner_tests.proofs.endless.FloodNative.sigs.Goals as goal

pub returns-clause-right : goal.returns-clause-right
returns-clause-right c = nothing_right
