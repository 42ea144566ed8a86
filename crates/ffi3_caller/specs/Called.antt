-- The machine before a call's arguments are stored, at the slot that is called, and back at the caller.
use Rattle.std.specs.Prelude.{◌≡◌, ℕ, ◌+◌, ◌-◌, ⊤, Bool, true, false, length, ◌++◌, Option, Some, None}
use Rattle.ffi3_type_spec.specs.declared.Isa.{Isa}
use Rattle.ffi3_type_spec.specs.TargetIsa.{isa_of}
use Rattle.ffi3_place_spec.specs.declared.Loc.{Loc}
use Rattle.ffi3_place_spec.specs.MachineRegisters.{link_place, link_register, to_list}
use Rattle.ffi3_place_spec.specs.StubRegisters.{call_loads, call_scratch, exit_scratch}
use Rattle.ffi3_place_spec.specs.MachineRegisters.{pushed_bytes}
use Rattle.ffi3_place_spec.specs.StubRegisters.{result_loads}
use Rattle.ffi3_place_spec.specs.Sound.{IsNoneOf, IsOneOf, IsOnStackOrIn}
use Rattle.ffi3_machine_spec.specs.declared.stub.TheConstants.{CALLEE_AT, CALL_SP_AT, RETURN_SP_AT}
use Rattle.ffi3_machine_spec.specs.State.{State, HasReturnAddress, called, filled, linked_stack, lowered, scribbled, with_pc}
use Rattle.ffi3_machine_spec.specs.State.{with_sp, with_x}
use Rattle.ffi3_machine_spec.specs.Stubs.{Call, Return, stub_at}
use Rattle.ffi3_stubs.specs.Calls.{after_call, after_return, steps_of}
use Rattle.ffi3_machine_transfer.specs.Passing.{by_exchange, passing, steps_if}
use Rattle.ffi3_machine_transfer.specs.Stored.{IsPlace, SameAt, word_in}

-- the register holds the number, if there is one
abbrev pub CountStands : ℕ → State → Option Loc → ℕ → Type 0
CountStands base m (Some at) n = word_in base m at ≡ n
CountStands base m None n = ⊤

-- the registers are scribbled on, by the number of events, and a frame of A5 bytes is opened below the stack pointer
abbrev pub with_frame : ℕ → State → State
with_frame frame m = filled (m.sp - frame) frame 0xA5 (with_sp (m.sp - frame) (scribbled (length m.events) m))

-- ---- the slot is called

-- what the stub Call is told beside what a call passes: the slot's address and the stack pointer
abbrev pub told : ℕ → State → State
told addr s = with_x CALL_SP_AT s.sp (with_x CALLEE_AT addr s)

-- the machine after a call, through the stub Call or by its own call
abbrev pub called_if : Bool → ℕ → State → State
called_if true addr s = after_call (isa_of s.target) (with_pc (stub_at (isa_of s.target) Call) (told addr s))
called_if false addr s = called addr s

-- the registers that hold after a call what was passed: those that Call loads; without stubs, all but the one of the return address
abbrev pub IsCarried : Bool → Isa → Loc → Type 0
IsCarried true isa l = IsOnStackOrIn (call_loads isa) l
IsCarried false isa l = IsNoneOf (to_list (link_place isa)) l

-- the registers that a call leaves
abbrev pub IsLeft : Bool → Isa → Loc → Type 0
IsLeft true isa l = IsNoneOf (call_scratch isa ++ call_loads isa) l
IsLeft false isa l = IsNoneOf (to_list (link_place isa)) l

-- THE SLOT IS CALLED: what was passed stands in its registers, RETURN is the return address, pc is the slot's address, and of the stack nothing is written but a return address that is pushed.
pub record SlotIsCalled (addr : ℕ) (before after : State) : Type 0 where
  pub passed : (l : Loc) → IsPlace 0 l → IsCarried (by_exchange before.target) (isa_of before.target) l
      → SameAt 0 l (passing before) after
  pub others : (l : Loc) → IsPlace 0 l → IsLeft (by_exchange before.target) (isa_of before.target) l
      → SameAt 0 l before after
  pub sp : after.sp ≡ before.sp - pushed_bytes (isa_of before.target)
  pub pc : after.pc ≡ addr
  pub return_address : HasReturnAddress after
  pub stack : after.stack ≡ linked_stack (link_register (isa_of before.target)) before.sp before.stack
  pub mark : after.mark
      ≡ lowered before.mark (before.sp - pushed_bytes (isa_of before.target)) (pushed_bytes (isa_of before.target))
  pub target : after.target ≡ before.target
  pub code : after.code ≡ before.code
  pub events : after.events ≡ before.events
  pub spare_events : after.spare_events ≡ before.spare_events
  pub spare_bytes : after.spare_bytes ≡ before.spare_bytes
  pub steps : after.steps ≡ steps_if (by_exchange before.target) (steps_of (isa_of before.target) Call) before.steps

-- ---- back at the caller

-- the machine back at the caller: the stub Return raises sp over the frame
abbrev pub come_back_if : Bool → ℕ → State → State
come_back_if true frame s = after_return (isa_of s.target) (with_x RETURN_SP_AT (s.sp + frame) s)
come_back_if false frame s = s

-- where the frame of a call then begins
abbrev pub frame_start_if : Bool → ℕ → State → ℕ
frame_start_if true frame s = s.sp - frame
frame_start_if false frame s = s.sp

abbrev pub frame_start : ℕ → State → ℕ
frame_start frame s = frame_start_if (by_exchange s.target) frame s

-- what the call passes back, with sp where its frame begins
abbrev pub at_frame : ℕ → State → State
at_frame frame s = with_sp (frame_start frame s) (passing s)

-- the frame is dropped, where sp has not been raised over it
abbrev pub dropped_if : Bool → ℕ → State → State
dropped_if true frame s = s
dropped_if false frame s = with_sp (s.sp + frame) s

-- the registers that are passed back: those that Return stores; without stubs, all
abbrev pub IsPassedBack : Bool → Isa → Loc → Type 0
IsPassedBack true isa l = IsOneOf (result_loads isa) l
IsPassedBack false isa l = ⊤

-- the registers that stay
abbrev pub IsUntouched : Bool → Isa → Loc → Type 0
IsUntouched true isa l = IsNoneOf (exit_scratch isa) l
IsUntouched false isa l = ⊤

-- THE CALL HAS COME BACK: what stood in the registers of results is passed back, the frame begins where sp stood, and stack, code and journal stay.
pub record HasComeBack (frame : ℕ) (before after : State) : Type 0 where
  pub passed : (l : Loc) → IsPlace 0 l → IsPassedBack (by_exchange before.target) (isa_of before.target) l
      → SameAt 0 l before (passing after)
  pub others : (l : Loc) → IsPlace 0 l → IsUntouched (by_exchange before.target) (isa_of before.target) l
      → SameAt 0 l before after
  pub start : frame_start frame after ≡ before.sp
  pub stack : after.stack ≡ before.stack
  pub mark : after.mark ≡ before.mark
  pub target : after.target ≡ before.target
  pub code : after.code ≡ before.code
  pub events : after.events ≡ before.events
  pub spare_events : after.spare_events ≡ before.spare_events
  pub spare_bytes : after.spare_bytes ≡ before.spare_bytes
  pub steps : after.steps ≡ steps_if (by_exchange before.target) (steps_of (isa_of before.target) Return) before.steps
