-- What the stubs leave, by any instruction set.
use Rattle.std.proofs.Common.{◌+◌, ◌≤◌}
use Rattle.ffi3_type_spec.specs.declared.Isa.{Isa}
use Rattle.ffi3_type_spec.specs.declared.Isa.TheVariants.{Amd64, Aarch64, Riscv}
use Rattle.ffi3_type_spec.specs.declared.limits.TheConstants.{STACK, STACK_TOP}
use Rattle.ffi3_machine_spec.specs.State.{State, IsMachine, with_pc}
use Rattle.ffi3_place_spec.specs.StubRegisters.{area_bytes}
use Rattle.ffi3_machine_spec.specs.Stubs.{Call, Exit, stub_at}
use Rattle.ffi3_stubs.specs.Calls.{after_call, after_entry, after_exit, after_return, HasCalled, HasEntered, HasLeft, HasReturned}
use Rattle.ffi3_stubs.proofs.Amd64Calls as amd64
use Rattle.ffi3_stubs.proofs.Aarch64Calls as aarch64
use Rattle.ffi3_stubs.proofs.RiscvCalls as riscv

pub call_says : (isa : Isa) (s : State) → IsMachine s → HasCalled isa s (after_call isa (with_pc (stub_at isa Call) s))
call_says Amd64 s is = amd64.has_called s is
call_says Aarch64 s is = aarch64.has_called s is
call_says Riscv s is = riscv.has_called s is

pub entry_says : (isa : Isa) (s : State) → IsMachine s → STACK + area_bytes isa ≤ s.sp → s.sp ≤ STACK_TOP → HasEntered isa s (after_entry isa s)
entry_says Amd64 s is low high = amd64.has_entered s is low high
entry_says Aarch64 s is low high = aarch64.has_entered s is low high
entry_says Riscv s is low high = riscv.has_entered s is low high

pub exit_says : (isa : Isa) (s : State) → IsMachine s → HasLeft isa s (after_exit isa (with_pc (stub_at isa Exit) s))
exit_says Amd64 s is = amd64.has_left s is
exit_says Aarch64 s is = aarch64.has_left s is
exit_says Riscv s is = riscv.has_left s is

pub return_says : (isa : Isa) (s : State) → IsMachine s → HasReturned isa s (after_return isa s)
return_says Amd64 s is = amd64.has_returned s is
return_says Aarch64 s is = aarch64.has_returned s is
return_says Riscv s is = riscv.has_returned s is
