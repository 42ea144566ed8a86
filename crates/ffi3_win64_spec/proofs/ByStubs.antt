-- No calls of this standard lead through stubs.
use Rattle.std.proofs.Common.{◌≡◌, true}
use Rattle.ffi3_type_spec.specs.Signature.{Signature}
use Rattle.ffi3_place_spec.specs.StubRegisters.{has_stubs}
use Rattle.ffi3_place_spec.specs.ByStubs.{AgreesWithStubs, ResultGoesByStubs}
use Rattle.ffi3_win64_spec.specs.Win64.{win64}

no_stubs : has_stubs win64.target ≡ true → ⊥
no_stubs h = cc

pub by_stubs : has_stubs win64.target ≡ true → AgreesWithStubs win64
by_stubs h = absurd (no_stubs h)

pub result_by_stubs : (s : Signature) → has_stubs win64.target ≡ true → ResultGoesByStubs win64 s
result_by_stubs s h = absurd (no_stubs h)
