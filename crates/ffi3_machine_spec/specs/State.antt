-- What contracts see of a machine, and what it is after each of its calls.
use Rattle.std.specs.Prelude.{◌≡◌, ℕ, ◌+◌, ◌-◌, ◌*◌, ◌^◌, ◌<◌, ◌≤◌, ⊤, ◌==◌, if◌then◌else◌, min, Option, Some, None}
use Rattle.std.specs.Prelude.{List, [], ◌∷◌, ◌++◌, map, length, get_or, take, drop, replicate, slice_index, slice_set}
use Rattle.std.specs.List.{range_with_len, repeat, replace_range}
use Rattle.std.specs.Int.{w64, to_le_bytes}
use Rattle.ffi3_type_spec.specs.declared.Target.{Target}
use Rattle.ffi3_type_spec.specs.declared.Isa.{Isa}
use Rattle.ffi3_type_spec.specs.declared.Isa.TheVariants.{Amd64, Aarch64, Riscv}
use Rattle.ffi3_type_spec.specs.TargetIsa.{isa_of}
use Rattle.ffi3_type_spec.specs.declared.limits.TheConstants.{STACK, STACK_TOP, STACK_BYTES, CODE, CODE_BYTES, RETURN}
use Rattle.ffi3_type_spec.specs.declared.limits.TheConstants.{SLOTS, SLOT_BYTES}
use Rattle.ffi3_machine_spec.specs.declared.stub.TheConstants.{EXCHANGE_BYTES}
use Rattle.ffi3_machine_spec.specs.Memory.{number_of, low_bytes}
use Rattle.ffi3_place_spec.specs.declared.Loc.TheVariants.{G, F}
use Rattle.ffi3_place_spec.specs.Image.{Image}
use Rattle.ffi3_place_spec.specs.Event.{EventKind, enters, leaves, Event}
use Rattle.ffi3_place_spec.specs.MachineRegisters.{pushed_bytes, link_register, is_reserved, is_zero_register, closure_register}
use Rattle.ffi3_place_spec.specs.Scribble.{scribble}

-- Byte i of `stack` stands at STACK + i, byte i of `code` at CODE + i, and byte i of `exchange` at EXCHANGE + i. `steps` counts instructions modulo 2^64. `mark` is the low-water mark: the lowest stack address written since the machine began, STACK_TOP where none was.
-- There is room in the journal for `spare_events` further events with `spare_bytes` bytes of stack in all.
pub record State : Type 0 where
  pub target : Target
  pub general : List ℕ
  pub floating : List ℕ
  pub sp : ℕ
  pub pc : ℕ
  pub mark : ℕ
  pub stack : List ℕ
  pub code : List ℕ
  pub exchange : List ℕ
  pub steps : ℕ
  pub events : List Event
  pub spare_events : ℕ
  pub spare_bytes : ℕ

-- ---- registers, by their numbers

abbrev pub scribble_general : ℕ → ℕ → ℕ
scribble_general n k = scribble n (G k)

abbrev pub scribble_floating : ℕ → ℕ → ℕ
scribble_floating n k = scribble n (F k)

-- general register k after a scribble, where it was `old`: a reserved one is left
abbrev pub scribbled_register : Isa → ℕ → ℕ → ℕ → ℕ
scribbled_register isa n k old =
    if is_reserved isa k then old else scribble_general n k

unfoldable pub scribbled_general : Isa → ℕ → List ℕ → List ℕ
scribbled_general isa n old =
    map (λ k. scribbled_register isa n k (get_or old k 0)) (range_with_len 0 32)

unfoldable pub scribbled_floating : ℕ → List ℕ
scribbled_floating n = map (scribble_floating n) (range_with_len 0 32)

abbrev pub scribbled : ℕ → State → State
scribbled n s = record s {
  general = scribbled_general (isa_of s.target) n s.general;
  floating = scribbled_floating n;
}

-- a write to the zero register is dropped
abbrev pub with_general : ℕ → ℕ → State → State
with_general k value s = record s {
  general = if is_zero_register (isa_of s.target) k then s.general else slice_set s.general k value;
}

abbrev pub with_floating : ℕ → ℕ → State → State
with_floating k value s = record s { floating = slice_set s.floating k value }

abbrev pub with_sp : ℕ → State → State
with_sp value s = record s { sp = value }

-- ---- the beginning

-- four bytes of a slot that is free: int3 four times, brk #0, ebreak
abbrev pub free_word : Isa → List ℕ
free_word Amd64 = 0xCC ∷ 0xCC ∷ 0xCC ∷ 0xCC ∷ []
free_word Aarch64 = 0x00 ∷ 0x00 ∷ 0x20 ∷ 0xD4 ∷ []
free_word Riscv = 0x73 ∷ 0x00 ∷ 0x10 ∷ 0x00 ∷ []

-- the 64 bytes of a slot that is free
unfoldable pub free_slot : Isa → List ℕ
free_slot isa = repeat 16 (free_word isa)

-- every slot is free
unfoldable pub begun_code : Isa → List ℕ
begun_code isa = repeat SLOTS (free_slot isa)

unfoldable pub begun_stack : List ℕ
begun_stack = replicate STACK_BYTES 0xA5

unfoldable pub begun_exchange : List ℕ
begun_exchange = replicate EXCHANGE_BYTES 0

-- every register is 0 before the first scribble
unfoldable pub begun_general : Isa → List ℕ
begun_general isa = scribbled_general isa 0 (replicate 32 0)

abbrev pub begun : Target → ℕ → ℕ → State
begun target spare_events spare_bytes = record {
  target = target;
  general = begun_general (isa_of target);
  floating = scribbled_floating 0;
  sp = STACK_TOP;
  pc = RETURN;
  mark = STACK_TOP;
  stack = begun_stack;
  code = begun_code (isa_of target);
  exchange = begun_exchange;
  steps = 0;
  events = [];
  spare_events = spare_events;
  spare_bytes = spare_bytes;
}

-- ---- stack and code

-- the mark falls to a lower address that is written
abbrev pub lowered : ℕ → ℕ → ℕ → ℕ
lowered mark addr len = if len == 0 then mark else min mark addr

abbrev pub stored : ℕ → List ℕ → State → State
stored addr bytes s = record s {
  stack = replace_range s.stack (addr - STACK) (addr - STACK + length bytes) bytes;
  mark = lowered s.mark addr (length bytes);
}

abbrev pub filled : ℕ → ℕ → ℕ → State → State
filled addr len byte s = record s {
  stack = replace_range s.stack (addr - STACK) (addr - STACK + len) (replicate len byte);
  mark = lowered s.mark addr len;
}

abbrev pub with_code : ℕ → List ℕ → State → State
with_code addr bytes s = record s {
  code = replace_range s.code (addr - CODE) (addr - CODE + length bytes) bytes;
}

-- the bytes of the stack from an address on
abbrev pub stack_at : ℕ → ℕ → State → List ℕ
stack_at addr len s = take len (drop (addr - STACK) s.stack)

abbrev pub code_at : ℕ → ℕ → State → List ℕ
code_at addr len s = take len (drop (addr - CODE) s.code)

-- the eight bytes of the exchange region from a place on
abbrev pub x_of : ℕ → State → ℕ
x_of at s = number_of 8 (take 8 (drop at s.exchange))

abbrev pub with_x : ℕ → ℕ → State → State
with_x at value s = record s {
  exchange = replace_range s.exchange at (at + length (low_bytes 8 value)) (low_bytes 8 value);
}

abbrev pub with_pc : ℕ → State → State
with_pc pc s = record s { pc = pc }

-- ---- calls and returns

-- the first address of a slot
abbrev pub IsSlot : ℕ → Type 0
IsSlot addr = (k : ℕ) × (k < SLOTS) × (addr ≡ CODE + SLOT_BYTES * k)

-- the bytes lie in the stack; of no bytes nothing is asked
abbrev pub LieInStack : ℕ → ℕ → Type 0
LieInStack addr len = 0 < len → (STACK ≤ addr) × (addr + len ≤ STACK_TOP)

-- RETURN is the return address: in the link register, or at sp where a call pushes it (System V psABI AMD64, "The Stack Frame")
abbrev pub HasReturnAt : Option ℕ → List ℕ → ℕ → List ℕ → Type 0
HasReturnAt None general sp stack = (STACK ≤ sp) × (take 8 (drop (sp - STACK) stack) ≡ to_le_bytes w64 RETURN)
HasReturnAt (Some link) general sp stack = get_or general link 0 ≡ RETURN

abbrev pub HasReturnAddress : State → Type 0
HasReturnAddress s = HasReturnAt (link_register (isa_of s.target)) s.general s.sp s.stack

abbrev pub linked_general : Option ℕ → List ℕ → List ℕ
linked_general None general = general
linked_general (Some link) general = slice_set general link RETURN

-- `sp` is that before the call
abbrev pub linked_stack : Option ℕ → ℕ → List ℕ → List ℕ
linked_stack None sp stack = replace_range stack (sp - 8 - STACK) (sp - STACK) (to_le_bytes w64 RETURN)
linked_stack (Some link) sp stack = stack

-- RETURN is the return address, and pc is the address of the slot that is called
abbrev pub called : ℕ → State → State
called addr s = record s {
  general = linked_general (link_register (isa_of s.target)) s.general;
  sp = s.sp - pushed_bytes (isa_of s.target);
  pc = addr;
  mark = lowered s.mark (s.sp - pushed_bytes (isa_of s.target)) (pushed_bytes (isa_of s.target));
  stack = linked_stack (link_register (isa_of s.target)) s.sp s.stack;
}

-- ---- the journal

-- the image of the machine, with `len` bytes of stack from sp on
abbrev pub image_of : ℕ → State → Image
image_of len s = record {
  general = s.general;
  floating = s.floating;
  sp = s.sp;
  stack = stack_at s.sp len s;
}

abbrev pub recorded : EventKind → ℕ → ℕ → State → State
recorded kind closure len s = record s {
  events = s.events ++ record { kind = kind; closure = closure; image = image_of len s } ∷ [];
  spare_events = s.spare_events - 1;
  spare_bytes = s.spare_bytes - len;
}

abbrev pub after_enter : ℕ → State → State
after_enter len s =
    recorded enters (slice_index s.general (closure_register (isa_of s.target))) len s

-- back at RETURN, the return address popped where it was pushed
abbrev pub returned : State → State
returned s = record s { sp = s.sp + pushed_bytes (isa_of s.target); pc = RETURN }

abbrev pub after_leave : ℕ → State → State
after_leave len s = recorded leaves 0 len (returned s)

-- the same where an instruction has brought it back to RETURN
abbrev pub after_arrive : ℕ → State → State
after_arrive len s = recorded leaves 0 len s

abbrev pub with_room : ℕ → State → State
with_room len s = record s {
  spare_events = s.spare_events + 2;
  spare_bytes = s.spare_bytes + 2 * len;
}

-- ---- what is true of every machine

-- the zero register of RISC-V is 0 always
abbrev pub IsZeroHeld : Isa → List ℕ → Type 0
IsZeroHeld Amd64 general = ⊤
IsZeroHeld Aarch64 general = ⊤
IsZeroHeld Riscv general = get_or general 0 0 ≡ 0

-- the lengths and ranges that a machine's type keeps
pub record HasForm (s : State) : Type 0 where
  pub general : length s.general ≡ 32
  pub floating : length s.floating ≡ 32
  pub stack : length s.stack ≡ STACK_BYTES
  pub code : length s.code ≡ CODE_BYTES
  pub exchange : length s.exchange ≡ EXCHANGE_BYTES
  pub mark_low : STACK ≤ s.mark
  pub mark_high : s.mark ≤ STACK_TOP
  pub zero : IsZeroHeld (isa_of s.target) s.general

-- each is a number of 64 bits; each is a byte
abbrev pub AreWords : List ℕ → Type 0
AreWords ws = (k : ℕ) → slice_index ws k < 2 ^ 64

abbrev pub AreBytes : List ℕ → Type 0
AreBytes bs = (k : ℕ) → slice_index bs k < 256

-- lengths and ranges, and that registers hold 64 bits and memory bytes
pub record IsMachine (s : State) : Type 0 where
  pub general : length s.general ≡ 32
  pub floating : length s.floating ≡ 32
  pub stack : length s.stack ≡ STACK_BYTES
  pub code : length s.code ≡ CODE_BYTES
  pub exchange : length s.exchange ≡ EXCHANGE_BYTES
  pub mark_low : STACK ≤ s.mark
  pub mark_high : s.mark ≤ STACK_TOP
  pub zero : IsZeroHeld (isa_of s.target) s.general
  pub general_words : AreWords s.general
  pub floating_words : AreWords s.floating
  pub sp_word : s.sp < 2 ^ 64
  pub pc_word : s.pc < 2 ^ 64
  pub stack_bytes : AreBytes s.stack
  pub code_bytes : AreBytes s.code
  pub exchange_bytes : AreBytes s.exchange
