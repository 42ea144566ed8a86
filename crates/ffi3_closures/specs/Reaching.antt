-- What a trampoline does to the machine.
use Rattle.std.specs.Prelude.{ℕ, ◌+◌, ◌%◌, ◌^◌, List, Option, Some, None, slice_set}
use Rattle.ffi3_type_spec.specs.declared.Isa.{Isa}
use Rattle.ffi3_type_spec.specs.declared.limits.TheConstants.{ENTRY}
use Rattle.ffi3_type_spec.specs.TargetIsa.{isa_of}
use Rattle.ffi3_place_spec.specs.MachineRegisters.{closure_register, jump_register}
use Rattle.ffi3_machine_spec.specs.State.{State}

-- where the trampoline jumps through a register, this has ENTRY
abbrev pub jumped_through : Option ℕ → List ℕ → List ℕ
jumped_through None general = general
jumped_through (Some jump) general = slice_set general jump ENTRY

-- From pc at a slot: pc is ENTRY, the closure register has the slot's address, the register that the trampoline jumps through, if any, has ENTRY, three steps are counted, and all else stays
abbrev pub reached_by : Isa → State → State
reached_by isa s = record s {
  general = slice_set (jumped_through (jump_register isa) s.general) (closure_register isa) s.pc;
  pc = ENTRY;
  steps = (s.steps + 3) % 2 ^ 64;
}

abbrev pub reached : State → State
reached s = reached_by (isa_of s.target) s
