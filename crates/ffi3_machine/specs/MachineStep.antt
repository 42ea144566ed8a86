-- What one instruction does. (Intel 64 and IA-32 Architectures Software Developer's Manual, volume 2; Arm Architecture Reference Manual for A-profile, C6.2; RISC-V unprivileged ISA, 2.4 to 2.6, and RV64I)
use Rattle.std.specs.Prelude.{◌≡◌, ℕ, zero, suc, ⊤, ◌+◌, ◌-◌, ◌%◌, ◌^◌, ◌<◌, Bool, false, ◌&&◌, ◌||◌, ◌==◌, nat_le}
use Rattle.std.specs.Prelude.{if◌then◌else◌, min, ℤ, pos, negsuc, List, [], length, take, drop, slice_index, slice_set}
use Rattle.std.specs.Prelude.{Option, Some, None, option_map, unwrap_or, IfSome}
use Rattle.std.specs.Int.{w64, cast_unsigned}
use Rattle.std.specs.List.{replace_range}
use Rattle.ffi3_machine_spec.specs.Memory.{number_of, low_bytes}
use Rattle.ffi3_type_spec.specs.declared.Isa.{Isa}
use Rattle.ffi3_type_spec.specs.declared.Isa.TheVariants.{Amd64, Aarch64, Riscv}
use Rattle.ffi3_type_spec.specs.declared.limits.TheConstants.{STACK, STACK_TOP, CODE, CODE_END}
use Rattle.ffi3_type_spec.specs.TargetIsa.{isa_of}
use Rattle.ffi3_place_spec.specs.MachineRegisters.{is_zero_register, stack_pointer}
use Rattle.ffi3_isa.specs.declared.Instr.{Instr}
use Rattle.ffi3_isa.specs.declared.Instr.TheVariants.{Endbr, Nop, Lea, JmpMem, LdrLit, Adr, Br, Auipc, Ld, Jalr, Addi}
use Rattle.ffi3_isa.specs.declared.Instr.TheVariants.{Sd, Fld, Fsd, CallMem, Ret, Blr}
use Rattle.ffi3_isa.specs.Amd64.{IsAmd64}
use Rattle.ffi3_isa.specs.Aarch64.{IsAarch64}
use Rattle.ffi3_isa.specs.Riscv.{IsRiscv}
use Rattle.ffi3_machine.specs.declared.step.Change.{Change}
use Rattle.ffi3_machine_spec.specs.declared.stub.TheConstants.{STUBS, STUBS_END, EXCHANGE, EXCHANGE_END}
use Rattle.ffi3_machine_spec.specs.State.{State, stack_at, code_at}
use Rattle.ffi3_machine_spec.specs.Stubs.{begun_stubs}

-- ---- addresses

-- the sum of an address or a register and a signed distance, modulo 2^64
abbrev pub moved : ℕ → ℤ → ℕ
moved from d = (from + cast_unsigned w64 d) % 2 ^ 64

-- the address behind an instruction of so many bytes
abbrev pub next : ℕ → State → ℕ
next size s = (s.pc + size) % 2 ^ 64

-- an address with its lowest bit cleared
abbrev pub even : ℕ → ℕ
even addr = addr - addr % 2

-- ---- registers

-- whether the number reads as 0, and a write to it is dropped: in these instructions of AArch64 31 means zero, not sp (Arm ARM C1.2.5); 0 of RISC-V (2.1)
abbrev pub reads_zero : Isa → ℕ → Bool
reads_zero Amd64 k = is_zero_register Amd64 k
reads_zero Aarch64 k = k == 31
reads_zero Riscv k = is_zero_register Riscv k

-- whether the number names the stack pointer, as a register that is moved, loaded or stored: 4 of AMD64, 2 of RISC-V
abbrev pub reads_sp : Isa → ℕ → Bool
reads_sp Amd64 k = k == stack_pointer Amd64
reads_sp Aarch64 k = false
reads_sp Riscv k = k == stack_pointer Riscv

-- register k, as an instruction reads it
abbrev pub register : Isa → ℕ → State → ℕ
register isa k s =
    if reads_zero isa k
    then 0
    else (if reads_sp isa k then s.sp else slice_index s.general k)

-- register k as the base of an address or of a sum: there 31 of AArch64 is sp (Arm ARM C1.2.5)
abbrev pub base : Isa → ℕ → State → ℕ
base isa k s =
    if is_zero_register isa k
    then 0
    else (if k == stack_pointer isa then s.sp else slice_index s.general k)

-- ---- loads

-- the eight bytes from an address on lie between two addresses
abbrev pub has_eight : ℕ → ℕ → ℕ → Bool
has_eight low high addr = nat_le low addr && nat_le (addr + 8) high

-- the eight bytes at an address, which lie in one region
abbrev pub loaded : Isa → ℕ → State → Option ℕ
loaded isa addr s =
    if has_eight STACK STACK_TOP addr
    then Some (number_of 8 (stack_at addr 8 s))
    else (if has_eight CODE CODE_END addr
    then Some (number_of 8 (code_at addr 8 s))
    else (if has_eight EXCHANGE EXCHANGE_END addr
    then Some (number_of 8 (take 8 (drop (addr - EXCHANGE) s.exchange)))
    else (if has_eight STUBS STUBS_END addr
    then Some (number_of 8 (take 8 (drop (addr - STUBS) (begun_stubs isa))))
    else None)))

-- ---- one instruction

-- an instruction that only sets pc
abbrev pub goes_to : ℕ → Change
goes_to pc = record { general = None; floating = None; sp = None; store = None; pc = pc }

-- an instruction that sets register k and pc
abbrev pub sets : Isa → ℕ → ℕ → ℕ → Change
sets isa k pc value = record {
  general = if reads_sp isa k then None else Some (k, value);
  floating = None;
  sp = if reads_sp isa k then Some value else None;
  store = None;
  pc = pc;
}

-- one that sets register k, as a sum does, and pc
abbrev pub sums : Isa → ℕ → ℕ → ℕ → Change
sums isa k pc value = record {
  general = if k == stack_pointer isa then None else Some (k, value);
  floating = None;
  sp = if k == stack_pointer isa then Some value else None;
  store = None;
  pc = pc;
}

-- one that sets floating register k and pc
abbrev pub floats : ℕ → ℕ → ℕ → Change
floats k pc value = record { general = None; floating = Some (k, value); sp = None; store = None; pc = pc }

-- one that stores eight bytes, which lie in the stack or in the exchange region; `sp` is set too, if it is there
abbrev pub stores : Option ℕ → ℕ → ℕ → ℕ → Option Change
stores sp pc addr value =
    if has_eight STACK STACK_TOP addr || has_eight EXCHANGE EXCHANGE_END addr
    then Some (record { general = None; floating = None; sp = sp; store = Some (addr, value); pc = pc })
    else None

-- one that sets sp and pc
abbrev pub pops : ℕ → ℕ → Change
pops sp pc = record { general = None; floating = None; sp = Some sp; store = None; pc = pc }

-- a call that pushes the return address, to an address that was loaded
abbrev pub pushes : ℕ → ℕ → Option ℕ → Option Change
pushes sp value None = None
pushes sp value (Some to) = stores (Some sp) to sp value

-- What the instruction, which has so many bytes, changes; none where its load does not lie in one region, or its store not in stack or exchange region
abbrev pub change_of : Isa → Instr → ℕ → State → Option Change
change_of isa Endbr size s = Some (goes_to (next size s))
change_of isa Nop size s = Some (goes_to (next size s))
change_of isa (Lea reg d) size s = Some (sets isa reg (next size s) (moved (next size s) d))
change_of isa (JmpMem d) size s = option_map goes_to (loaded isa (moved (next size s) d) s)
change_of isa (LdrLit t d) size s = option_map (sets isa t (next size s)) (loaded isa (moved s.pc d) s)
change_of isa (Adr rd d) size s = Some (sets isa rd (next size s) (moved s.pc d))
change_of isa (Br n) size s = Some (goes_to (register isa n s))
change_of isa (Auipc rd d) size s = Some (sets isa rd (next size s) (moved s.pc d))
change_of isa (Ld rd rs d) size s = option_map (sets isa rd (next size s)) (loaded isa (moved (base isa rs s) d) s)
change_of isa (Jalr rd rs d) size s = Some (sets isa rd (even (moved (register isa rs s) d)) (next size s))
change_of isa (Addi rd rs d) size s = Some (sums isa rd (next size s) (moved (base isa rs s) d))
change_of isa (Sd rd rs d) size s = stores None (next size s) (moved (base isa rs s) d) (register isa rd s)
change_of isa (Fld rd rs d) size s = option_map (floats rd (next size s)) (loaded isa (moved (base isa rs s) d) s)
change_of isa (Fsd rd rs d) size s = stores None (next size s) (moved (base isa rs s) d) (slice_index s.floating rd)
change_of isa (CallMem rs d) size s =
    pushes (moved s.sp (negsuc 7)) (next size s) (loaded isa (moved (base isa rs s) d) s)
change_of isa Ret size s = option_map (pops (moved s.sp (pos 8))) (loaded isa s.sp s)
change_of isa (Blr n) size s = Some (sets isa 30 (register isa n s) (next size s))

-- the general registers after a write, which the zero register drops
abbrev pub written : Isa → Option (ℕ × ℕ) → List ℕ → List ℕ
written isa None general = general
written isa (Some (k, value)) general =
    if reads_zero isa k then general else slice_set general k value

abbrev pub floated : Option (ℕ × ℕ) → List ℕ → List ℕ
floated None floating = floating
floated (Some (k, value)) floating = slice_set floating k value

abbrev pub put_stack : Option (ℕ × ℕ) → List ℕ → List ℕ
put_stack None stack = stack
put_stack (Some (addr, value)) stack =
    if has_eight STACK STACK_TOP addr
    then replace_range stack (addr - STACK) (addr - STACK + length (low_bytes 8 value)) (low_bytes 8 value)
    else stack

-- the mark falls to a lower stack address that is stored to
abbrev pub put_mark : Option (ℕ × ℕ) → ℕ → ℕ
put_mark None mark = mark
put_mark (Some (addr, value)) mark =
    if has_eight STACK STACK_TOP addr then min mark addr else mark

abbrev pub put_exchange : Option (ℕ × ℕ) → List ℕ → List ℕ
put_exchange None exchange = exchange
put_exchange (Some (addr, value)) exchange =
    if has_eight EXCHANGE EXCHANGE_END addr
    then replace_range exchange (addr - EXCHANGE) (addr - EXCHANGE + length (low_bytes 8 value)) (low_bytes 8 value)
    else exchange

-- eight bytes in the stack or in the exchange region; elsewhere nothing changes
abbrev pub with_store : Option (ℕ × ℕ) → State → State
with_store write s = record s {
  stack = put_stack write s.stack;
  mark = put_mark write s.mark;
  exchange = put_exchange write s.exchange;
}

-- each register that is set has a number below 32
abbrev pub IsInRange : Change → Type 0
IsInRange c = IfSome c.general (λ p. p.0 < 32) × IfSome c.floating (λ p. p.0 < 32)

-- the machine after an instruction: all that is not named stays
abbrev pub changed : Isa → Change → State → State
changed isa change s = record s {
  general = written isa change.general s.general;
  floating = floated change.floating s.floating;
  sp = unwrap_or change.sp s.sp;
  stack = put_stack change.store s.stack;
  mark = put_mark change.store s.mark;
  exchange = put_exchange change.store s.exchange;
  pc = change.pc;
  steps = (s.steps + 1) % 2 ^ 64;
}

-- ---- one step

abbrev pub IsListed : Isa → List ℕ → Instr → ℕ → Type 0
IsListed Amd64 bytes instr size = IsAmd64 bytes instr size
IsListed Aarch64 bytes instr size = IsAarch64 bytes instr size
IsListed Riscv bytes instr size = IsRiscv bytes instr size

-- where an instruction may stand (Arm ARM, "PC alignment checking"; RISC-V unprivileged ISA 1.5)
abbrev pub IsAligned : Isa → ℕ → Type 0
IsAligned Amd64 pc = ⊤
IsAligned Aarch64 pc = pc % 4 ≡ 0
IsAligned Riscv pc = pc % 4 ≡ 0

-- the bytes from an address on, in the code region or in that of the stubs; none where it lies in neither
abbrev pub bytes_from : Isa → ℕ → List ℕ → List ℕ
bytes_from isa addr code =
    if nat_le CODE addr
    then drop (addr - CODE) code
    else (if nat_le STUBS addr
    then drop (addr - STUBS) (begun_stubs isa)
    else [])

-- the instruction stands wholly in one of these regions at pc
pub record IsInstructionAt (isa : Isa) (s : State) (instr : Instr) (size : ℕ) : Type 0 where
  pub aligned : IsAligned isa s.pc
  pub listed : IsListed isa (bytes_from isa s.pc s.code) instr size

-- the instruction of the set that stands at pc takes the machine from one state to the other
pub record StepsBy (isa : Isa) (before after : State) : Type 0 where
  pub instr : Instr
  pub size : ℕ
  pub change : Change
  pub stands : IsInstructionAt isa before instr size
  pub does : change_of isa instr size before ≡ Some change
  pub is_after : after ≡ changed isa change before

-- by the instruction set of the machine's target
abbrev pub Steps : State → State → Type 0
Steps before after = StepsBy (isa_of before.target) before after

-- so many instructions, one after another, take the machine from one state to the other
abbrev pub TakesSteps : ℕ → State → State → Type 0
TakesSteps zero before after = after ≡ before
TakesSteps (suc n) before after =
    (between : State) × Steps before between × TakesSteps n between after
