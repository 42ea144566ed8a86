use Rattle.std.proofs.Common.{refl, arith, inl}
use Rattle.ffi3_host_stubs.specs.Slots.{slot_code}
use Rattle.ffi3_host_stubs.proofs.Amd64Slot.{reaches}
use Rattle.ffi3_host_stubs.proofs.amd64_own_slot.Goals as goal

pub returns : goal.returns
unfolding slot_code
returns c = record { bytes = refl; reaches = reaches 0 (inl refl) (omega arith) }
