use Rattle.ffi3_runner_tests.proofs.Right.{drop_right}
use Rattle.ffi3_runner_tests.proofs.drop_self.DropSelfNative.sigs.Goals as goal

pub returns-clause-right : goal.returns-clause-right
returns-clause-right c = drop_right
