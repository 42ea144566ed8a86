use Rattle.std.proofs.Common.{refl, arith}
use Rattle.ffi3_call_tests.proofs.stub_bytes.has_byte.Goals as goal

pub call-requires-clause-slot : goal.call-requires-clause-slot
call-requires-clause-slot c = (0, omega (arith), refl)
