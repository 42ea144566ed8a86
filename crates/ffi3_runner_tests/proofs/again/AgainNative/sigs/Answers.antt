use Rattle.ffi3_runner_tests.proofs.Right.{again_right}
use Rattle.ffi3_runner_tests.proofs.again.AgainNative.sigs.Goals as goal

pub returns-clause-right : goal.returns-clause-right
returns-clause-right c = again_right
