use Rattle.ffi3_values.specs.ValueOf.{value_of}
use Rattle.ffi3_runner_tests.proofs.Single.{other_count}
use Rattle.ffi3_runner_tests.proofs.showing.takes.Goals as goal

pub returns-else-alone : goal.returns-else-alone
returns-else-alone c =
    other_count c.args.sig.now.arguments (value_of c.args.value.now) c.count-alone.result c.count-alone.ensures c.if-alone.false
