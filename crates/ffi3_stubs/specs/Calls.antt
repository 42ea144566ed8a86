-- What the four calls of stubs leave: which registers came from where, which went where, and what stays.
use Rattle.std.specs.Prelude.{◌≡◌, ℕ, ◌+◌, ◌-◌, ◌<◌, ◌≤◌, ◌⊎◌, min, Bool, false, ◌==◌, ◌||◌, ⊤, List, [], ◌∷◌, ◌++◌}
use Rattle.std.specs.Prelude.{length, take, drop, get_or, slice_index}
use Rattle.std.specs.List.{AllByRecursion, replace_range}
use Rattle.ffi3_machine_spec.specs.Memory.{number_of, low_bytes}
use Rattle.ffi3_type_spec.specs.declared.Isa.{Isa}
use Rattle.ffi3_type_spec.specs.declared.Isa.TheVariants.{Amd64, Aarch64, Riscv}
use Rattle.ffi3_type_spec.specs.declared.limits.TheConstants.{STACK, RETURN}
use Rattle.ffi3_place_spec.specs.declared.Loc.{Loc}
use Rattle.ffi3_place_spec.specs.declared.Loc.TheVariants.{G, F}
use Rattle.ffi3_place_spec.specs.MachineRegisters.{pushed_bytes}
use Rattle.ffi3_place_spec.specs.StubRegisters.{call_scratch, entry_scratch, exit_scratch, call_loads}
use Rattle.ffi3_place_spec.specs.StubRegisters.{entry_stores, callee_saved_words, stub_area, area_bytes, result_loads}
use Rattle.ffi3_machine_spec.specs.declared.stub.TheConstants.{AREA_AT, CALLEE_AT, CALL_SP_AT}
use Rattle.ffi3_machine_spec.specs.declared.stub.TheConstants.{ENTRY_SP_AT, REGISTERS_END, RETURN_SP_AT}
use Rattle.ffi3_machine_spec.specs.State.{State, x_of, stack_at, lowered}
use Rattle.ffi3_machine.specs.MachineStep.{even}
use Rattle.ffi3_machine_spec.specs.Stubs.{StubName, Call, Entry, Exit, Return, exchanged_at}
use Rattle.ffi3_stubs.specs.Effects.{held, held_in, amd64_called, amd64_entered, amd64_left, amd64_returned}
use Rattle.ffi3_stubs.specs.Effects.{aarch64_called, aarch64_entered, aarch64_left, aarch64_returned, riscv_called}
use Rattle.ffi3_stubs.specs.Effects.{riscv_entered, riscv_left, riscv_returned}

abbrev pub same_loc : Loc → Loc → Bool
same_loc (G a) (G b) = a == b
same_loc (F a) (F b) = a == b
same_loc l m = false

abbrev pub is_in : Loc → List Loc → Bool
is_in l [] = false
is_in l (m ∷ ms) = same_loc l m || is_in l ms

-- each register of the list has what stood at its place of the exchange region
abbrev pub CameFromExchange : List Loc → State → State → Type 0
CameFromExchange ls before after = AllByRecursion (λ l. held l after ≡ x_of (exchanged_at l) before) ls

-- the eight bytes of the exchange region from a place on
abbrev pub exchange_bytes : ℕ → State → List ℕ
exchange_bytes at s = take 8 (drop at s.exchange)

-- at its place of the exchange region stands what each register of the list held
abbrev pub WentToExchange : List Loc → State → State → Type 0
WentToExchange ls before after =
    AllByRecursion (λ l. exchange_bytes (exchanged_at l) after ≡ low_bytes 8 (held l before)) ls

-- each register of the list has its word of a stack, the first at `addr`
abbrev pub CameFromWords : ℕ → List Loc → List ℕ → State → Type 0
CameFromWords addr [] stack after = ⊤
CameFromWords addr (l ∷ ls) stack after =
    (held l after ≡ number_of 8 (take 8 (drop (addr - STACK) stack))) × CameFromWords (addr + 8) ls stack after

abbrev pub CameFromArea : ℕ → List Loc → State → State → Type 0
CameFromArea addr ls before after = CameFromWords addr ls before.stack after

-- each word of a stack, the first at `addr`, has what its register of the list held
abbrev pub WentToWords : ℕ → List Loc → List ℕ → List ℕ → List ℕ → Type 0
WentToWords addr [] general floating stack = ⊤
WentToWords addr (l ∷ ls) general floating stack =
    (take 8 (drop (addr - STACK) stack) ≡ low_bytes 8 (held_in l general floating))
    × WentToWords (addr + 8) ls general floating stack

abbrev pub WentToArea : ℕ → List Loc → State → State → Type 0
WentToArea addr ls before after = WentToWords addr ls before.general before.floating after.stack

-- registers that are none of the list stay
abbrev pub OthersStay : List Loc → State → State → Type 0
OthersStay ls before after = (l : Loc) → is_in l ls ≡ false → held l after ≡ held l before

-- ---- each instruction set's

-- how many instructions a stub does
abbrev pub steps_of : Isa → StubName → ℕ
steps_of Amd64 Call = 18
steps_of Amd64 Entry = 25
steps_of Amd64 Exit = 14
steps_of Amd64 Return = 6
steps_of Aarch64 Call = 22
steps_of Aarch64 Entry = 43
steps_of Aarch64 Exit = 31
steps_of Aarch64 Return = 9
steps_of Riscv Call = 21
steps_of Riscv Entry = 47
steps_of Riscv Exit = 34
steps_of Riscv Return = 7

-- the machine after a stub, from its first address
abbrev pub after_call : Isa → State → State
after_call Amd64 s = amd64_called s
after_call Aarch64 s = aarch64_called s
after_call Riscv s = riscv_called s

abbrev pub after_entry : Isa → State → State
after_entry Amd64 s = amd64_entered s
after_entry Aarch64 s = aarch64_entered s
after_entry Riscv s = riscv_entered s

abbrev pub after_exit : Isa → State → State
after_exit Amd64 s = amd64_left s
after_exit Aarch64 s = aarch64_left s
after_exit Riscv s = riscv_left s

abbrev pub after_return : Isa → State → State
after_return Amd64 s = amd64_returned s
after_return Aarch64 s = aarch64_returned s
after_return Riscv s = riscv_returned s

-- an address as an instruction set jumps to it
abbrev pub target_of : Isa → ℕ → ℕ
target_of Amd64 v = v
target_of Aarch64 v = v
target_of Riscv v = even v

-- the stack after a call with this sp: AMD64 pushes the return address
abbrev pub called_stack : Isa → ℕ → List ℕ → List ℕ
called_stack Amd64 sp stack = replace_range stack (sp - 8 - STACK) (sp - 8 - STACK + 8) (low_bytes 8 RETURN)
called_stack Aarch64 sp stack = stack
called_stack Riscv sp stack = stack

-- the others leave it in a register
abbrev pub IsLinked : Isa → State → Type 0
IsLinked Amd64 s = ⊤
IsLinked Aarch64 s = slice_index s.general 30 ≡ RETURN
IsLinked Riscv s = slice_index s.general 1 ≡ RETURN

-- where Exit goes
abbrev pub left_to : Isa → State → State → ℕ
left_to Amd64 before after = number_of 8 (stack_at (x_of AREA_AT before + area_bytes Amd64) 8 before)
left_to Aarch64 before after = slice_index after.general 30
left_to Riscv before after = even (slice_index after.general 1)

-- after run_call
pub record HasCalled (isa : Isa) (before after : State) : Type 0 where
  pub loaded : CameFromExchange (call_loads isa) before after
  pub others : OthersStay (call_scratch isa ++ call_loads isa) before after
  pub sp : after.sp ≡ x_of CALL_SP_AT before - pushed_bytes isa
  pub pc : after.pc ≡ target_of isa (x_of CALLEE_AT before)
  pub link : IsLinked isa after
  pub stack : after.stack ≡ called_stack isa (x_of CALL_SP_AT before) before.stack
  pub mark : after.mark ≡ lowered before.mark (x_of CALL_SP_AT before - pushed_bytes isa) (pushed_bytes isa)
  pub rest : after
      ≡ record before {
        general = after.general;
        floating = after.floating;
        sp = after.sp;
        pc = after.pc;
        stack = after.stack;
        mark = after.mark;
        steps = after.steps;
      }

-- after run_entry
pub record HasEntered (isa : Isa) (before after : State) : Type 0 where
  pub saved : WentToArea (before.sp - area_bytes isa) (stub_area isa) before after
  -- of the stack nothing else is written
  pub size : length after.stack ≡ length before.stack
  pub outside : (i : ℕ) → (STACK + i < before.sp - area_bytes isa) ⊎ (before.sp ≤ STACK + i)
      → get_or after.stack i 0 ≡ get_or before.stack i 0
  pub mark : after.mark ≡ min before.mark (before.sp - area_bytes isa)
  pub stored : WentToExchange (entry_stores isa) before after
  pub beyond : (at : ℕ) → REGISTERS_END ≤ at → exchange_bytes at after ≡ exchange_bytes at before
  pub others : OthersStay (entry_scratch isa) before after
  pub sp : after.sp ≡ x_of ENTRY_SP_AT before
  pub rest : after
      ≡ record before {
        general = after.general;
        sp = after.sp;
        pc = after.pc;
        stack = after.stack;
        mark = after.mark;
        exchange = after.exchange;
        steps = after.steps;
      }

-- after run_exit
pub record HasLeft (isa : Isa) (before after : State) : Type 0 where
  pub restored : CameFromArea (x_of AREA_AT before) (callee_saved_words isa) before after
  pub loaded : CameFromExchange (result_loads isa) before after
  pub others : OthersStay (exit_scratch isa ++ (callee_saved_words isa ++ result_loads isa)) before after
  pub sp : after.sp ≡ x_of AREA_AT before + area_bytes isa + pushed_bytes isa
  pub pc : after.pc ≡ left_to isa before after
  pub rest : after
      ≡ record before {
        general = after.general;
        floating = after.floating;
        sp = after.sp;
        pc = after.pc;
        steps = after.steps;
      }

-- after run_return
pub record HasReturned (isa : Isa) (before after : State) : Type 0 where
  pub stored : WentToExchange (result_loads isa) before after
  pub beyond : (at : ℕ) → REGISTERS_END ≤ at → exchange_bytes at after ≡ exchange_bytes at before
  pub others : OthersStay (exit_scratch isa) before after
  pub sp : after.sp ≡ x_of RETURN_SP_AT before
  pub rest : after
      ≡ record before {
        general = after.general;
        sp = after.sp;
        pc = after.pc;
        exchange = after.exchange;
        steps = after.steps;
      }
