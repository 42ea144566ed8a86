-- What the four stubs do, wherever they and the exchange region stand: which registers came from where, which went where, and what stays.
use Rattle.std.specs.Prelude.{◌≡◌, ℕ, ◌+◌, ◌-◌, ◌<◌, ◌≤◌, ◌⊎◌, ⊤, false, List, [], ◌∷◌, ◌++◌, length}
use Rattle.std.specs.List.{AllByRecursion}
use Rattle.ffi3_machine_spec.specs.Memory.{number_of, low_bytes}
use Rattle.ffi3_type_spec.specs.declared.Isa.{Isa}
use Rattle.ffi3_type_spec.specs.declared.Isa.TheVariants.{Amd64, Aarch64, Riscv}
use Rattle.ffi3_place_spec.specs.declared.Loc.{Loc}
use Rattle.ffi3_place_spec.specs.declared.Loc.TheVariants.{G, F, S}
use Rattle.ffi3_place_spec.specs.MachineRegisters.{general_registers, stack_pointer, is_zero_register, pushed_bytes}
use Rattle.ffi3_place_spec.specs.StubRegisters.{area_bytes}
use Rattle.ffi3_place_spec.specs.StubRegisters.{call_loads, entry_stores, callee_saved_words, stub_area, result_loads, call_scratch, entry_scratch, exit_scratch}
use Rattle.ffi3_machine_spec.specs.declared.stub.TheConstants.{AREA_AT, CALLEE_AT, CALL_SP_AT, ENTRY_SP_AT, EXCHANGE_BYTES, RETURN_SP_AT}
use Rattle.ffi3_machine.specs.MachineStep.{IsAligned}
use Rattle.ffi3_machine_spec.specs.Stubs.{StubName, Entry, Exit, Call, Return, exchanged_at}
use Rattle.ffi3_stubs.specs.Calls.{is_in, steps_of, target_of}
use Rattle.ffi3_host_stubs.specs.Processor.{Processor, half, bytes_at, word_at, IsStackAligned, TakesSteps, HasCode}

-- what a register holds
abbrev pub held_in : Loc → (ℕ → ℕ) → (ℕ → ℕ) → ℕ
held_in (G k) general floating = general k
held_in (F k) general floating = floating k
held_in (S k w) general floating = 0

abbrev pub held : Loc → Processor → ℕ
held l s = held_in l s.general s.floating

-- each register of the list has what stood at its place of the exchange region, which begins at x
abbrev pub CameFromExchange : ℕ → List Loc → Processor → Processor → Type 0
CameFromExchange x ls before after = AllByRecursion (λ l. held l after ≡ word_at (x + exchanged_at l) before) ls

-- at its place there stands what each register of the list held
abbrev pub WentToExchange : ℕ → List Loc → Processor → Processor → Type 0
WentToExchange x ls before after =
    AllByRecursion (λ l. bytes_at after.memory (x + exchanged_at l) 8 ≡ low_bytes 8 (held l before)) ls

-- each register of the list has its word of memory, the first at `addr`
abbrev pub CameFromWords : ℕ → List Loc → (ℕ → ℕ) → Processor → Type 0
CameFromWords addr [] memory after = ⊤
CameFromWords addr (l ∷ ls) memory after =
    (held l after ≡ number_of 8 (bytes_at memory addr 8)) × CameFromWords (addr + 8) ls memory after

abbrev pub CameFromArea : ℕ → List Loc → Processor → Processor → Type 0
CameFromArea addr ls before after = CameFromWords addr ls before.memory after

-- each word of memory, the first at `addr`, has what its register of the list held
abbrev pub WentToWords : ℕ → List Loc → (ℕ → ℕ) → (ℕ → ℕ) → (ℕ → ℕ) → Type 0
WentToWords addr [] general floating memory = ⊤
WentToWords addr (l ∷ ls) general floating memory =
    (bytes_at memory addr 8 ≡ low_bytes 8 (held_in l general floating))
    × WentToWords (addr + 8) ls general floating memory

abbrev pub WentToArea : ℕ → List Loc → Processor → Processor → Type 0
WentToArea addr ls before after = WentToWords addr ls before.general before.floating after.memory

-- registers that are none of the list stay
abbrev pub OthersStay : List Loc → Processor → Processor → Type 0
OthersStay ls before after = (l : Loc) → is_in l ls ≡ false → held l after ≡ held l before

-- the address is not from `low` on, below `high`
abbrev pub IsOutside : ℕ → ℕ → ℕ → Type 0
IsOutside low high a = (a < low) ⊎ (high ≤ a)

-- the address is in the place of none of the registers in the exchange region
abbrev pub IsInNoPlace : ℕ → List Loc → ℕ → Type 0
IsInNoPlace x ls a = AllByRecursion (λ l. IsOutside (x + exchanged_at l) (x + exchanged_at l + 8) a) ls

-- ---- where the stubs stand, and the exchange region

-- a general register that is neither sp nor 0 always
pub record IsSource (isa : Isa) (from : ℕ) : Type 0 where
  pub in_range : from < general_registers isa
  pub not_sp : ¬ from ≡ stack_pointer isa
  pub not_zero : is_zero_register isa from ≡ false

-- the exchange region at x is outside the stack, or not below this sp
abbrev pub IsRegionKept : ℕ → ℕ → Processor → Type 0
IsRegionKept x sp s = (x + EXCHANGE_BYTES ≤ s.limit) ⊎ (sp ≤ x)

-- The bytes stand at pc, and the exchange region at x, outside the stack or not below sp, and in the lower half
pub record IsAtStub (isa : Isa) (x : ℕ) (bytes : List ℕ) (s : Processor) : Type 0 where
  pub aligned : IsAligned isa s.pc
  pub code : HasCode s s.pc bytes
  pub region : IsRegionKept x s.sp s
  pub high : x + EXCHANGE_BYTES ≤ half

-- what Entry writes besides, on AArch64 also x9, through which sp goes
abbrev pub host_entry_scratch : Isa → List Loc
host_entry_scratch Amd64 = entry_scratch Amd64
host_entry_scratch Aarch64 = entry_scratch Aarch64 ++ G 9 ∷ []
host_entry_scratch Riscv = entry_scratch Riscv

-- how many instructions a stub does: the model's, but on RISC-V a register is copied by one in place of two that make an address, and Entry stores sp, on AArch64 through x9
abbrev pub host_steps : Isa → StubName → ℕ
host_steps Amd64 Entry = steps_of Amd64 Entry + 1
host_steps Amd64 name = steps_of Amd64 name
host_steps Aarch64 Entry = steps_of Aarch64 Entry + 2
host_steps Aarch64 name = steps_of Aarch64 name
host_steps Riscv Entry = steps_of Riscv Entry
host_steps Riscv name = steps_of Riscv name - 1

-- ---- Call

-- the callee finds its return address on the stack, or in its register
abbrev pub IsLinked : Isa → ℕ → Processor → Type 0
IsLinked Amd64 to s = bytes_at s.memory s.sp 8 ≡ low_bytes 8 to
IsLinked Aarch64 to s = s.general 30 ≡ to
IsLinked Riscv to s = s.general 1 ≡ to

pub record HasCalled (isa : Isa) (x behind : ℕ) (before after : Processor) : Type 0 where
  pub loaded : CameFromExchange x (call_loads isa) before after
  pub others : OthersStay (call_scratch isa ++ call_loads isa) before after
  pub sp : after.sp ≡ word_at (x + CALL_SP_AT) before - pushed_bytes isa
  pub pc : after.pc ≡ target_of isa (word_at (x + CALLEE_AT) before)
  pub link : IsLinked isa behind after
  pub memory : (a : ℕ) → IsOutside (word_at (x + CALL_SP_AT) before - pushed_bytes isa) (word_at (x + CALL_SP_AT) before) a
      → after.memory a ≡ before.memory a
  pub limit : after.limit ≡ before.limit
  pub code : after.code ≡ before.code

-- Wherever the bytes stand they call, by the exchange region whose address register `from` holds: with the sp that stands at CALL_SP_AT there, which is in the stack and not below sp
abbrev pub Calls : Isa → ℕ → List ℕ → Type 0
Calls isa from bytes =
    (s : Processor) → IsAtStub isa (s.general from) bytes s
    → s.limit + pushed_bytes isa ≤ word_at (s.general from + CALL_SP_AT) s → s.sp ≤ word_at (s.general from + CALL_SP_AT) s
    → word_at (s.general from + CALL_SP_AT) s ≤ half → IsRegionKept (s.general from) (word_at (s.general from + CALL_SP_AT) s) s
    → word_at (s.general from + CALLEE_AT) s ≤ half
    → (t : Processor) × TakesSteps isa (host_steps isa Call) s t × HasCalled isa (s.general from) (s.pc + length bytes) s t

-- ---- Return

pub record HasReturned (isa : Isa) (x behind : ℕ) (before after : Processor) : Type 0 where
  pub stored : WentToExchange x (result_loads isa) before after
  pub others : OthersStay (exit_scratch isa) before after
  pub sp : after.sp ≡ word_at (x + RETURN_SP_AT) before
  pub pc : after.pc ≡ behind
  pub memory : (a : ℕ) → IsInNoPlace x (result_loads isa) a → after.memory a ≡ before.memory a
  pub limit : after.limit ≡ before.limit
  pub code : after.code ≡ before.code

-- Wherever the bytes stand, results go to the exchange region whose address register `from` holds, and sp becomes what stands at RETURN_SP_AT there, below which the region is not
abbrev pub Returns : Isa → ℕ → List ℕ → Type 0
Returns isa from bytes =
    (s : Processor) → IsAtStub isa (s.general from) bytes s → word_at (s.general from + RETURN_SP_AT) s ≤ half
    → IsRegionKept (s.general from) (word_at (s.general from + RETURN_SP_AT) s) s
    → (t : Processor) × TakesSteps isa (host_steps isa Return) s t × HasReturned isa (s.general from) (s.pc + length bytes) s t

-- ---- Entry

pub record HasEntered (isa : Isa) (x behind : ℕ) (before after : Processor) : Type 0 where
  pub saved : WentToArea (before.sp - area_bytes isa) (stub_area isa) before after
  pub stored : WentToExchange x (entry_stores isa) before after
  -- sp is stored too, where Exit finds the save area
  pub area : bytes_at after.memory (x + AREA_AT) 8 ≡ low_bytes 8 (before.sp - area_bytes isa)
  pub others : OthersStay (host_entry_scratch isa) before after
  pub sp : after.sp ≡ word_at (x + ENTRY_SP_AT) before
  pub pc : after.pc ≡ behind
  pub memory : (a : ℕ) → IsOutside (before.sp - area_bytes isa) before.sp a → IsInNoPlace x (entry_stores isa) a
      → IsOutside (x + AREA_AT) (x + RETURN_SP_AT) a → after.memory a ≡ before.memory a
  pub limit : after.limit ≡ before.limit
  pub code : after.code ≡ before.code

-- Wherever the bytes stand, what is preserved goes below sp, and arguments and sp to the exchange region whose address register `from` holds; sp becomes what stands at ENTRY_SP_AT there, which is not above what was saved
abbrev pub Enters : Isa → ℕ → List ℕ → Type 0
Enters isa from bytes =
    (s : Processor) → IsAtStub isa (s.general from) bytes s → IsStackAligned isa s.sp → s.sp ≤ half
    → s.limit + area_bytes isa ≤ s.sp
    → word_at (s.general from + ENTRY_SP_AT) s ≤ s.sp - area_bytes isa
    → (t : Processor) × TakesSteps isa (host_steps isa Entry) s t × HasEntered isa (s.general from) (s.pc + length bytes) s t

-- ---- Exit

-- where Exit goes: to the address that stands above save area and gap, or to that in its register
abbrev pub left_to : Isa → ℕ → Processor → Processor → ℕ
left_to Amd64 above before after = word_at above before
left_to Aarch64 above before after = after.general 30
left_to Riscv above before after = target_of Riscv (after.general 1)

-- the save area begins at `area` and ends with a gap of so many bytes
pub record HasLeft (isa : Isa) (x area gap : ℕ) (before after : Processor) : Type 0 where
  pub restored : CameFromArea area (callee_saved_words isa) before after
  pub loaded : CameFromExchange x (result_loads isa) before after
  pub others : OthersStay (exit_scratch isa ++ (callee_saved_words isa ++ result_loads isa)) before after
  pub sp : after.sp ≡ area + (area_bytes isa + gap) + pushed_bytes isa
  pub pc : after.pc ≡ left_to isa (area + (area_bytes isa + gap)) before after
  pub memory : after.memory ≡ before.memory
  pub limit : after.limit ≡ before.limit
  pub code : after.code ≡ before.code

-- the longest gap of Exit, in bytes, of those that its sum can say on each instruction set
abbrev pub most_gap : ℕ
most_gap = 1024

-- on RISC-V the first word of the save area, which is the return address, is one of a program
abbrev pub IsReturnLow : Isa → ℕ → Processor → Type 0
IsReturnLow Amd64 area s = ⊤
IsReturnLow Aarch64 area s = ⊤
IsReturnLow Riscv area s = word_at area s ≤ half

-- Wherever the bytes stand, what is preserved comes from the save area, whose address stands at AREA_AT of the exchange region and is not below sp, and results from that region, whose address register `from` holds
abbrev pub Leaves : Isa → ℕ → ℕ → List ℕ → Type 0
Leaves isa from gap bytes =
    (s : Processor) → IsAtStub isa (s.general from) bytes s
    → IsStackAligned isa (word_at (s.general from + AREA_AT) s) → s.sp ≤ word_at (s.general from + AREA_AT) s
    → IsRegionKept (s.general from) (word_at (s.general from + AREA_AT) s) s → IsReturnLow isa (word_at (s.general from + AREA_AT) s) s
    → word_at (s.general from + AREA_AT) s + (area_bytes isa + gap) + pushed_bytes isa ≤ half
    → (t : Processor)
    × TakesSteps isa (host_steps isa Exit) s t
    × HasLeft isa (s.general from) (word_at (s.general from + AREA_AT) s) gap s t
