use Rattle.std.proofs.Common.{ap, arith}
use Rattle.std.specs.Prelude.{length}
use Rattle.ffi3_call_tests.proofs.slots.write_arguments.Goals as goal

pub write_argument-requires-clause-within : goal.write_argument-requires-clause-within
write_argument-requires-clause-within g c =
    omega (arith, c.loop-i-test.true, c.count-count.ensures.value, ap (λ r. length r.arguments) c.checked_sig.ensures.value)
