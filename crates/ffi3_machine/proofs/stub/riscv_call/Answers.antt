use Rattle.std.proofs.Common.{refl}
use Rattle.ffi3_machine_spec.specs.Stubs.{stub_bytes}
use Rattle.ffi3_machine.proofs.stub.riscv_call.Goals as goal

pub returns : goal.returns
unfolding stub_bytes
returns c = refl
