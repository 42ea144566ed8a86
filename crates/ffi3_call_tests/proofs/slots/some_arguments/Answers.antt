use Rattle.std.proofs.Common.{ap, arith}
use Rattle.std.specs.Prelude.{length}
use Rattle.ffi3_call_tests.proofs.slots.some_arguments.Goals as goal

pub some_argument-requires : goal.some_argument-requires
some_argument-requires g c =
    omega (arith, c.loop-i-test.true, c.count-count.ensures.value, ap (λ r. length r.arguments) c.checked_sig.ensures.value)
