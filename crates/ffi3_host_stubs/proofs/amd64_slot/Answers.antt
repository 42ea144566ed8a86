use Rattle.std.proofs.Common.{refl, arith, inr}
use Rattle.ffi3_host_stubs.specs.Slots.{slot_code}
use Rattle.ffi3_host_stubs.proofs.Amd64Slot.{reaches}
use Rattle.ffi3_host_stubs.proofs.amd64_slot.Goals as goal

pub returns : goal.returns
unfolding slot_code
returns c = record { bytes = refl; reaches = reaches 16384 (inr (omega arith)) (omega arith) }
