-- The stubs and the slot of each instruction set, by any register, gap and distance.
use Rattle.std.proofs.Common.{◌≡◌, ℕ, ◌≤◌, refl}
use Rattle.ffi3_type_spec.specs.declared.Isa.{Isa}
use Rattle.ffi3_type_spec.specs.declared.Isa.TheVariants.{Amd64, Aarch64, Riscv}
use Rattle.ffi3_machine_spec.specs.Stubs.{Call, Entry, Exit, Return, rows}
use Rattle.ffi3_machine_spec.specs.Slots.{trampoline}
use Rattle.ffi3_host_stubs.specs.Stubs.{exit_rows, host_bytes}
use Rattle.ffi3_host_stubs.specs.Calls.{IsSource, Calls, Returns, Enters, Leaves, most_gap}
use Rattle.ffi3_host_stubs.specs.Slots.{CanReach, Reaches, slot_code}
use Rattle.ffi3_host_stubs.proofs.Amd64Stubs as amd64
use Rattle.ffi3_host_stubs.proofs.Aarch64Stubs as aarch64
use Rattle.ffi3_host_stubs.proofs.RiscvStubs as riscv
use Rattle.ffi3_host_stubs.proofs.Amd64Slot as amd64_slot
use Rattle.ffi3_host_stubs.proofs.Aarch64Slot as aarch64_slot
use Rattle.ffi3_host_stubs.proofs.RiscvSlot as riscv_slot

pub all_call : (isa : Isa) (from : ℕ) → IsSource isa from → Calls isa from (host_bytes isa from 0 Call)
all_call Amd64 from is = amd64.calls_by from is
all_call Aarch64 from is = aarch64.calls_by from is
all_call Riscv from is = riscv.calls_by from is

pub all_return : (isa : Isa) (from : ℕ) → IsSource isa from → Returns isa from (host_bytes isa from 0 Return)
all_return Amd64 from is = amd64.returns_back from is
all_return Aarch64 from is = aarch64.returns_back from is
all_return Riscv from is = riscv.returns_back from is

pub all_enter : (isa : Isa) (from : ℕ) → IsSource isa from → Enters isa from (host_bytes isa from 0 Entry)
all_enter Amd64 from is = amd64.enters from is
all_enter Aarch64 from is = aarch64.enters from is
all_enter Riscv from is = riscv.enters from is

pub all_leave : (isa : Isa) (from gap : ℕ) → IsSource isa from → gap ≤ most_gap → Leaves isa from gap (host_bytes isa from gap Exit)
all_leave Amd64 from gap is room = amd64.leaves from gap is room
all_leave Aarch64 from gap is room = aarch64.leaves from gap is room
all_leave Riscv from gap is room = riscv.leaves from gap is room

pub all_reach : (isa : Isa) (d : ℕ) → CanReach isa d → Reaches isa d (slot_code isa d)
all_reach Amd64 d can = amd64_slot.reaches d can.0 can.1
all_reach Aarch64 d can = aarch64_slot.reaches d can.0 can.1
all_reach Riscv d can = riscv_slot.reaches d can.0 can.1

pub exit_without_gap : (isa : Isa) → exit_rows isa 0 ≡ rows isa Exit
exit_without_gap Amd64 = refl
exit_without_gap Aarch64 = refl
exit_without_gap Riscv = refl

pub slot_without_distance : (isa : Isa) → slot_code isa 0 ≡ trampoline isa
unfolding slot_code trampoline
slot_without_distance Amd64 = refl
slot_without_distance Aarch64 = refl
slot_without_distance Riscv = refl
