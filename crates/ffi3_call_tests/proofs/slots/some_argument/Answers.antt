use Rattle.std.proofs.Common.{ap, arith}
use Rattle.std.specs.Prelude.{length}
use Rattle.ffi3_call_tests.proofs.slots.some_argument.Goals as goal

pub arg-ty-requires : goal.arg-ty-requires
arg-ty-requires g c =
    omega (arith, c.requires, ap (λ r. length r.arguments) c.checked_sig-sig.ensures.value)
