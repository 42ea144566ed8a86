-- What stubs do to the machine, segment by segment.
use Rattle.std.specs.Prelude.{ℕ, ◌+◌, ◌-◌, ◌%◌, ◌^◌, min, List, [], ◌∷◌, length, slice_index, slice_set}
use Rattle.std.specs.List.{replace_range}
use Rattle.ffi3_machine_spec.specs.Memory.{number_of, low_bytes}
use Rattle.ffi3_type_spec.specs.declared.Isa.{Isa}
use Rattle.ffi3_type_spec.specs.declared.Isa.TheVariants.{Amd64, Aarch64, Riscv}
use Rattle.ffi3_type_spec.specs.declared.limits.TheConstants.{STACK}
use Rattle.ffi3_place_spec.specs.declared.Loc.{Loc}
use Rattle.ffi3_place_spec.specs.declared.Loc.TheVariants.{G, F, S}
use Rattle.ffi3_place_spec.specs.MachineRegisters.{stack_pointer}
use Rattle.ffi3_place_spec.specs.StubRegisters.{call_loads, callee_saved_words, stub_area, entry_stores}
use Rattle.ffi3_place_spec.specs.StubRegisters.{area_bytes, result_loads}
use Rattle.ffi3_machine_spec.specs.declared.stub.TheConstants.{EXCHANGE, AREA_AT, CALLEE_AT, CALL_SP_AT}
use Rattle.ffi3_machine_spec.specs.declared.stub.TheConstants.{ENTRY_SP_AT, RETURN_SP_AT}
use Rattle.ffi3_machine_spec.specs.State.{State, x_of, stack_at}
use Rattle.ffi3_machine.specs.MachineStep.{even}
use Rattle.ffi3_machine_spec.specs.Stubs.{load, size_of, exchanged_at}

-- the count after one instruction more
abbrev pub counted : State → ℕ
counted s = (s.steps + 1) % 2 ^ 64

-- the exchange region's address in register k
abbrev pub addressed : ℕ → ℕ → State → State
addressed size k s = record s {
  general = slice_set s.general k EXCHANGE;
  pc = s.pc + size;
  steps = counted s;
}

-- a register gets a value, by an instruction of so many bytes
abbrev pub received : ℕ → Loc → ℕ → State → State
received size (G k) value s = record s { general = slice_set s.general k value; pc = s.pc + size; steps = counted s }
received size (F k) value s = record s { floating = slice_set s.floating k value; pc = s.pc + size; steps = counted s }
received size (S k w) value s = s

-- what a register holds
abbrev pub held_in : Loc → List ℕ → List ℕ → ℕ
held_in (G k) general floating = slice_index general k
held_in (F k) general floating = slice_index floating k
held_in (S k w) general floating = 0

abbrev pub held : Loc → State → ℕ
held l s = held_in l s.general s.floating

-- sp gets a value
abbrev pub with_sp_by : ℕ → ℕ → State → State
with_sp_by size value s = record s { sp = value; pc = s.pc + size; steps = counted s }

-- registers from the exchange region, whose address register `base` holds
abbrev pub from_exchange : Isa → ℕ → List Loc → State → State
from_exchange isa base [] s = s
from_exchange isa base (l ∷ ls) s =
    from_exchange isa base ls (received (size_of isa (load l base 0)) l (x_of (exchanged_at l) s) s)

-- registers from words of the stack that follow one another, the first at sp + at
abbrev pub from_area : Isa → ℕ → List Loc → State → State
from_area isa at [] s = s
from_area isa at (l ∷ ls) s =
    from_area isa (at + 8) ls
    (received (size_of isa (load l (stack_pointer isa) 0)) l (number_of 8 (stack_at (s.sp + at) 8 s)) s)

-- eight bytes of the exchange region get a value
abbrev pub exchanged : ℕ → ℕ → ℕ → State → State
exchanged size at value s = record s {
  exchange = replace_range s.exchange at (at + length (low_bytes 8 value)) (low_bytes 8 value);
  pc = s.pc + size;
  steps = counted s;
}

-- registers to the exchange region
abbrev pub to_exchange : Isa → ℕ → List Loc → State → State
to_exchange isa base [] s = s
to_exchange isa base (l ∷ ls) s =
    to_exchange isa base ls (exchanged (size_of isa (load l base 0)) (exchanged_at l) (held l s) s)

-- eight bytes of the stack get a value
abbrev pub saved : ℕ → ℕ → ℕ → State → State
saved size addr value s = record s {
  stack = replace_range s.stack (addr - STACK) (addr - STACK + length (low_bytes 8 value)) (low_bytes 8 value);
  mark = min s.mark addr;
  pc = s.pc + size;
  steps = counted s;
}

-- registers to words of the stack that follow one another, the first at sp + at
abbrev pub to_area : Isa → ℕ → List Loc → State → State
to_area isa at [] s = s
to_area isa at (l ∷ ls) s =
    to_area isa (at + 8) ls (saved (size_of isa (load l (stack_pointer isa) 0)) (s.sp + at) (held l s) s)

-- a call that leaves the return address in register k
abbrev pub linked : ℕ → ℕ → ℕ → State → State
linked size k to s = record s { general = slice_set s.general k (s.pc + size); pc = to; steps = counted s }

-- a jump
abbrev pub jumped : ℕ → State → State
jumped to s = record s { pc = to; steps = counted s }

-- the exchange region's address in register k, by two instructions
abbrev pub addressed_twice : ℕ → State → State
addressed_twice k s = record s {
  general = slice_set s.general k EXCHANGE;
  pc = s.pc + 4 + 4;
  steps = (counted s + 1) % 2 ^ 64;
}

-- ---- AMD64

-- the return address is pushed, and pc is the address that is called
abbrev pub pushed : ℕ → ℕ → State → State
pushed size to s = record s {
  sp = s.sp - 8;
  stack =
      replace_range s.stack (s.sp - 8 - STACK)
      (s.sp - 8 - STACK + length (low_bytes 8 (s.pc + size))) (low_bytes 8 (s.pc + size));
  mark = min s.mark (s.sp - 8);
  pc = to;
  steps = counted s;
}

-- the return address is popped
abbrev pub popped : State → State
popped s = record s {
  sp = s.sp + 8;
  pc = number_of 8 (stack_at s.sp 8 s);
  steps = counted s;
}

-- from the first address of Call
abbrev pub amd64_placed : State → State
amd64_placed s = with_sp_by 7 (x_of CALL_SP_AT s) (addressed 7 11 s)

abbrev pub amd64_loaded : State → State
amd64_loaded s = from_exchange Amd64 11 (call_loads Amd64) (amd64_placed s)

abbrev pub amd64_called : State → State
amd64_called s = pushed 7 (x_of CALLEE_AT (amd64_loaded s)) (amd64_loaded s)

-- from the first address of Entry
abbrev pub amd64_saved : State → State
amd64_saved s = to_area Amd64 0 (stub_area Amd64) (with_sp_by 8 (s.sp - area_bytes Amd64) s)

abbrev pub amd64_passed : State → State
amd64_passed s = to_exchange Amd64 11 (entry_stores Amd64) (addressed 7 11 (amd64_saved s))

abbrev pub amd64_entered : State → State
amd64_entered s = with_sp_by 7 (x_of ENTRY_SP_AT (amd64_passed s)) (amd64_passed s)

-- from the first address of Exit
abbrev pub amd64_restored : State → State
amd64_restored s = from_area Amd64 0 (callee_saved_words Amd64) (with_sp_by 7 (x_of AREA_AT s) (addressed 7 11 s))

abbrev pub amd64_given : State → State
amd64_given s = from_exchange Amd64 11 (result_loads Amd64) (amd64_restored s)

abbrev pub amd64_left : State → State
amd64_left s = popped (with_sp_by 8 ((amd64_given s).sp + area_bytes Amd64) (amd64_given s))

-- from the first address of Return
abbrev pub amd64_taken : State → State
amd64_taken s = to_exchange Amd64 11 (result_loads Amd64) (addressed 7 11 s)

abbrev pub amd64_returned : State → State
amd64_returned s = with_sp_by 7 (x_of RETURN_SP_AT (amd64_taken s)) (amd64_taken s)

-- ---- AArch64

-- sp from the exchange region, through register k
abbrev pub aarch64_sp : ℕ → ℕ → State → State
aarch64_sp k at s = with_sp_by 4 (x_of at s) (received 4 (G k) (x_of at s) s)

-- from the first address of Call
abbrev pub aarch64_placed : State → State
aarch64_placed s = aarch64_sp 16 CALL_SP_AT (addressed 4 17 s)

abbrev pub aarch64_loaded : State → State
aarch64_loaded s = from_exchange Aarch64 17 (call_loads Aarch64) (aarch64_placed s)

abbrev pub aarch64_called : State → State
aarch64_called s =
    linked 4 30 (x_of CALLEE_AT (aarch64_loaded s)) (received 4 (G 16) (x_of CALLEE_AT (aarch64_loaded s)) (aarch64_loaded s))

-- from the first address of Entry
abbrev pub aarch64_saved : State → State
aarch64_saved s = to_area Aarch64 0 (stub_area Aarch64) (with_sp_by 4 (s.sp - area_bytes Aarch64) s)

abbrev pub aarch64_passed : State → State
aarch64_passed s = to_exchange Aarch64 16 (entry_stores Aarch64) (addressed 4 16 (aarch64_saved s))

abbrev pub aarch64_entered : State → State
aarch64_entered s = aarch64_sp 16 ENTRY_SP_AT (aarch64_passed s)

-- from the first address of Exit
abbrev pub aarch64_restored : State → State
aarch64_restored s = from_area Aarch64 0 (callee_saved_words Aarch64) (aarch64_sp 17 AREA_AT (addressed 4 16 s))

abbrev pub aarch64_given : State → State
aarch64_given s = from_exchange Aarch64 16 (result_loads Aarch64) (aarch64_restored s)

abbrev pub aarch64_left : State → State
aarch64_left s =
    jumped (slice_index (aarch64_given s).general 30) (with_sp_by 4 ((aarch64_given s).sp + area_bytes Aarch64) (aarch64_given s))

-- from the first address of Return
abbrev pub aarch64_taken : State → State
aarch64_taken s = to_exchange Aarch64 16 (result_loads Aarch64) (addressed 4 16 s)

abbrev pub aarch64_returned : State → State
aarch64_returned s = aarch64_sp 17 RETURN_SP_AT (aarch64_taken s)

-- ---- RISC-V

-- from the first address of Call
abbrev pub riscv_placed : State → State
riscv_placed s = with_sp_by 4 (x_of CALL_SP_AT s) (addressed_twice 6 s)

abbrev pub riscv_loaded : State → State
riscv_loaded s = from_exchange Riscv 6 (call_loads Riscv) (riscv_placed s)

abbrev pub riscv_called : State → State
riscv_called s =
    linked 4 1 (even (x_of CALLEE_AT (riscv_loaded s))) (received 4 (G 7) (x_of CALLEE_AT (riscv_loaded s)) (riscv_loaded s))

-- from the first address of Entry
abbrev pub riscv_saved : State → State
riscv_saved s = to_area Riscv 0 (stub_area Riscv) (with_sp_by 4 (s.sp - area_bytes Riscv) s)

abbrev pub riscv_passed : State → State
riscv_passed s = to_exchange Riscv 7 (entry_stores Riscv) (addressed_twice 7 (riscv_saved s))

abbrev pub riscv_entered : State → State
riscv_entered s = with_sp_by 4 (x_of ENTRY_SP_AT (riscv_passed s)) (riscv_passed s)

-- from the first address of Exit
abbrev pub riscv_restored : State → State
riscv_restored s = from_area Riscv 0 (callee_saved_words Riscv) (with_sp_by 4 (x_of AREA_AT s) (addressed_twice 6 s))

abbrev pub riscv_given : State → State
riscv_given s = from_exchange Riscv 6 (result_loads Riscv) (riscv_restored s)

abbrev pub riscv_left : State → State
riscv_left s =
    jumped (even (slice_index (riscv_given s).general 1)) (with_sp_by 4 ((riscv_given s).sp + area_bytes Riscv) (riscv_given s))

-- from the first address of Return
abbrev pub riscv_taken : State → State
riscv_taken s = to_exchange Riscv 6 (result_loads Riscv) (addressed_twice 6 s)

abbrev pub riscv_returned : State → State
riscv_returned s = with_sp_by 4 (x_of RETURN_SP_AT (riscv_taken s)) (riscv_taken s)
