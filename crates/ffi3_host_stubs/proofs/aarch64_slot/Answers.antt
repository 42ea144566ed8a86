use Rattle.std.proofs.Common.{refl, arith}
use Rattle.ffi3_host_stubs.specs.Slots.{slot_code}
use Rattle.ffi3_host_stubs.proofs.Aarch64Slot.{reaches}
use Rattle.ffi3_host_stubs.proofs.aarch64_slot.Goals as goal

pub returns : goal.returns
unfolding slot_code
returns c = record { bytes = refl; reaches = reaches 65536 refl (omega arith) }
