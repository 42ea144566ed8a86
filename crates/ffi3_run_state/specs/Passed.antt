-- A call whose arguments are passed, up to the entry of its closure.
use Rattle.std.specs.Prelude.{◌≡◌, ℕ, ◌+◌, ◌≤◌, List, length}
use Rattle.ffi3_type_spec.specs.declared.limits.TheConstants.{STACK, STACK_BYTES, STACK_TOP}
use Rattle.ffi3_type_spec.specs.Signature.{Signature}
use Rattle.ffi3_type_spec.specs.Value.{ValueTree}
use Rattle.ffi3_place_spec.specs.Standard.{Standard, frame_of, need_of}
use Rattle.ffi3_machine_spec.specs.State.{State, with_room}
use Rattle.ffi3_invoke.specs.Calls.{HasPassed}

-- THE CALL IS PASSED: the stack had room for its need, room was made in the journal for its entry and its return, and the machine is at the entry of the closure at this pointer, and shows the arguments. (System V psABI AMD64 3.2; Arm AAPCS64 6; RISC-V ELF psABI, "Integer Calling Convention")
pub record IsPassed (std : Standard) (s : Signature) (ptr : ℕ) (args : List ValueTree) (before m : State) : Type 0 where
  pub size : length before.stack ≡ STACK_BYTES
  pub target : before.target ≡ std.target
  pub room : STACK + need_of std s ≤ before.sp
  pub top : before.sp ≤ STACK_TOP
  pub passed : HasPassed std s args ptr (with_room (std.link + frame_of std s) before) m
