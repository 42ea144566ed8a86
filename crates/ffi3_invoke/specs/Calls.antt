-- A call from its caller's side to the return, by any calling standard: the machine before, in the callee and after. (System V psABI AMD64 3.2; Arm AAPCS64 6; RISC-V ELF psABI, "Integer Calling Convention")
use Rattle.std.specs.Prelude.{◌≡◌, ℕ, ◌+◌, ◌-◌, ◌%◌, ◌^◌, ◌<◌, ◌≤◌, min, ⊤, List, [], ◌∷◌, ◌++◌, length, get_or}
use Rattle.std.specs.Prelude.{slice_index}
use Rattle.std.specs.List.{AllByRecursion}
use Rattle.ffi3_type_spec.specs.declared.Target.{Target}
use Rattle.ffi3_type_spec.specs.TargetIsa.{isa_of}
use Rattle.ffi3_type_spec.specs.Signature.{Signature}
use Rattle.ffi3_type_spec.specs.Value.{ValueTree}
use Rattle.ffi3_type_spec.specs.declared.limits.TheConstants.{ENTRY, RETURN, STACK, STACK_TOP}
use Rattle.ffi3_place_spec.specs.declared.Loc.{Loc}
use Rattle.ffi3_place_spec.specs.declared.SaveWord.{SaveWord}
use Rattle.ffi3_place_spec.specs.declared.SaveWord.TheVariants.{Register, Hidden as HiddenWord, Spare}
use Rattle.ffi3_place_spec.specs.MachineRegisters.{closure_register, link_register}
use Rattle.ffi3_place_spec.specs.Scribble.{scribble}
use Rattle.ffi3_place_spec.specs.Image.{Image, register}
use Rattle.ffi3_place_spec.specs.Event.{Event, enters, leaves}
use Rattle.ffi3_place_spec.specs.Standard.{Standard, block_bytes, frame_of, need_of, plan_of}
use Rattle.ffi3_place_spec.specs.Holds.{FillArguments, Holds, OwnsArguments, OwnsHidden, RegisterHolds, SameIn}
use Rattle.ffi3_semantics_spec.specs.Journal.{Entered, needs, IsEntry, IsReturn}
use Rattle.ffi3_machine_spec.specs.State.{State, HasReturnAddress, HasReturnAt, image_of, scribbled, stack_at}
use Rattle.ffi3_semantics_spec.specs.SeenActivation.{arguments_in}
use Rattle.ffi3_machine.specs.MachineStep.{TakesSteps}
use Rattle.ffi3_machine_spec.specs.Stubs.{Call, Entry, Exit, Return}
use Rattle.ffi3_stubs.specs.Calls.{steps_of}
use Rattle.ffi3_machine_transfer.specs.Passing.{by_exchange, passing, steps_if}
use Rattle.ffi3_machine_transfer.specs.Stored.{WroteWithin, with_journal_of}
use Rattle.ffi3_caller.specs.Called.{called_if}
use Rattle.ffi3_callee.specs.Given.{IsAddressOf, ResultWrites}
use Rattle.ffi3_callee.specs.Saved.{saved_word}

-- ---- an event

-- the address of the closure that a machine at an entry shows
abbrev pub entered_closure : State → ℕ
entered_closure m = slice_index m.general (closure_register (isa_of m.target))

-- the entry that the machine records of a call by the signature
abbrev pub entry_at : Standard → Signature → State → Event
entry_at std s m = record {
  kind = enters;
  closure = entered_closure m;
  image = image_of (std.link + frame_of std s) m;
}

-- and the return, as the machine is after it
abbrev pub return_at : Standard → Signature → State → Event
return_at std s m = record { kind = leaves; closure = 0; image = image_of (frame_of std s) m }

-- the registers that neither side of a call writes are the same
abbrev pub KeepsReserved : Standard → State → State → Type 0
KeepsReserved std before after = SameIn std.reserved (image_of 0 before) (image_of 0 after)

-- ---- an open call

-- what a word of the save area is to hold of the image at the entry: a register's value, or the address of a hidden result's buffer, behind the return address. Where there is no such buffer, and in a spare word, it may hold any.
abbrev pub IsSavedOf : Standard → Signature → Image → SaveWord → ℕ → Type 0
IsSavedOf std s m (Register at) n = n ≡ register m at
IsSavedOf std s m HiddenWord n = IsAddressOf (m.sp + std.link) n (plan_of std s).res
IsSavedOf std s m Spare n = ⊤

-- AN OPEN CALL STANDS, whose callee's block begins at an address: above the block stand the words that the callee saved, RETURN is the return address, and the bytes of the frame are those of its entry. No byte below the block is spoken of, so that calls nested in it keep it.
pub record Stands (std : Standard) (entered : Entered) (block : ℕ) (m : State) : Type 0 where
  pub place : block + block_bytes entered.signature + std.save ≡ entered.event.image.sp
  pub bottom : STACK ≤ block
  pub top : entered.event.image.sp + std.link + frame_of std entered.signature ≤ STACK_TOP
  pub saved : (i : ℕ) (w : SaveWord) → i < length std.save_area → w ≡ get_or std.save_area i w
      → IsSavedOf std entered.signature entered.event.image w (saved_word (entered.event.image.sp - std.save) i m)
  pub return_address :
      HasReturnAt (link_register (isa_of std.target)) entered.event.image.general entered.event.image.sp m.stack
  pub frame : stack_at entered.event.image.sp (std.link + frame_of std entered.signature) m ≡ entered.event.image.stack

-- The callee of an open call runs: its block begins at sp, the reserved registers are those of the entry, and the journal has room for the return.
pub record IsInCallee (std : Standard) (entered : Entered) (m : State) : Type 0 where
  pub target : m.target ≡ std.target
  pub stands : Stands std entered m.sp m
  pub reserved : SameIn std.reserved entered.event.image (image_of 0 m)
  pub room : 1 ≤ m.spare_events
  pub bytes : frame_of std entered.signature ≤ m.spare_bytes

-- the callee of some open call by this signature runs
abbrev pub IsCalled : Standard → Signature → State → Type 0
IsCalled std s m = (entry : Event) × IsInCallee std (record { signature = s; event = entry }) m

-- what stood above an address in the machine before stands there after
abbrev pub KeepsOpen : Standard → ℕ → State → State → Type 0
KeepsOpen std from before after =
    (entered : Entered) (block : ℕ) → from ≤ block → Stands std entered block before → Stands std entered block after

-- ---- the steps of a call

-- The arguments are stored by their caller: what the call passes has the values at their places, in registers and in the frame, and of the stack only the frame is written.
pub record AreStored (std : Standard) (s : Signature) (arguments : List ValueTree) (before after : State) : Type 0 where
  pub own :
      OwnsArguments
      (image_of (frame_of std s) (passing after)) 0 s.arguments (plan_of std s).places arguments
  pub filled :
      FillArguments
      (image_of (frame_of std s) (passing after)) 0 s.arguments (plan_of std s).places arguments
  pub hidden : OwnsHidden (image_of (frame_of std s) (passing after)) 0 (plan_of std s).res
  pub vectors :
      RegisterHolds (image_of (frame_of std s) (passing after)) std.vector_count (plan_of std s).vectors
  pub sp : after.sp + frame_of std s ≡ before.sp
  pub within :
      WroteWithin after.sp before.sp (passing (scribbled (length before.events) before)) (passing after)

-- THE TRAMPOLINE HAS RUN: from where the arguments are stored the slot is called, by the stub Call where calls go by stubs, and else by the machine's own call. Then pc is the slot's address, and from there three steps of the machine lead to the state after. (libffi manual, "The Closure API")
pub record HasRunTrampoline (slot : ℕ) (stored after : State) : Type 0 where
  pub called : State
  pub by_call : called ≡ called_if (by_exchange stored.target) slot stored
  pub at_slot : called.pc ≡ slot
  pub steps : TakesSteps 3 called after

-- THE ARGUMENTS ARE PASSED: the machine is at ENTRY, its image holds the values, and of the stack only the frame and the return address are written.
pub record HasPassed (std : Standard) (s : Signature) (arguments : List ValueTree) (pointer : ℕ) (before after : State)
    : Type 0 where
  pub holds : Holds std s arguments (image_of (std.link + frame_of std s) after)
  pub pc : after.pc ≡ ENTRY
  pub closure : slice_index after.general (closure_register (isa_of after.target)) ≡ pointer
  pub return_address : HasReturnAddress after
  pub preserved :
      AllByRecursion
      (λ at. register (image_of (std.link + frame_of std s) after) at ≡ scribble (length before.events) at)
      std.callee_saved
  pub reserved : KeepsReserved std before after
  pub sp : after.sp + std.link + frame_of std s ≡ before.sp
  pub within : WroteWithin after.sp before.sp before (with_journal_of before after)
  pub events : after.events ≡ before.events
  pub spare_events : after.spare_events ≡ before.spare_events
  pub spare_bytes : after.spare_bytes ≡ before.spare_bytes
  pub steps : after.steps
      ≡ (steps_if (by_exchange before.target) (steps_of (isa_of before.target) Call) before.steps + 3) % 2 ^ 64
  -- it was led there by the trampoline of the slot at the pointer, which was called where the arguments were stored
  pub stored : State
  pub stores : AreStored std s arguments before stored
  pub trampoline : HasRunTrampoline pointer stored after

-- THE CALLEE HAS RETURNED: the return is in the journal, whatever open call by the signature it was, and of the stack only a hidden result's buffer is written.
pub record HasReturned (std : Standard) (s : Signature) (outcome : ValueTree) (before after : State) : Type 0 where
  pub events : after.events ≡ before.events ++ return_at std s after ∷ []
  pub is_return : (entry : Event) → IsInCallee std (record { signature = s; event = entry }) before
      → IsReturn std (record { signature = s; event = entry }) outcome (return_at std s after)
  pub pc : after.pc ≡ RETURN
  pub sp : after.sp ≡ before.sp + block_bytes s + std.save + std.link
  pub reserved : KeepsReserved std before after
  pub writes : ResultWrites after.sp s.result_type (plan_of std s).res before (with_journal_of before after)
  pub room : after.spare_events + 1 ≡ before.spare_events
  pub bytes : after.spare_bytes + frame_of std s ≡ before.spare_bytes
  pub steps : after.steps ≡ steps_if (by_exchange before.target) (steps_of (isa_of before.target) Exit) before.steps

-- ---- a call

-- the count of steps where a call has begun: Call and Entry are counted where calls go by stubs, and the trampoline's three always
abbrev pub begun_steps : Target → ℕ → ℕ
begun_steps target n =
    steps_if (by_exchange target)
    (steps_of (isa_of target) Entry)
    ((steps_if (by_exchange target) (steps_of (isa_of target) Call) n + 3) % 2 ^ 64)

-- and where it has ended: Exit and Return are
abbrev pub ended_steps : Target → ℕ → ℕ
ended_steps target n =
    steps_if (by_exchange target)
    (steps_of (isa_of target) Return)
    (steps_if (by_exchange target) (steps_of (isa_of target) Exit) n)

-- A CALL HAS BEGUN: its entry is in the journal, and its callee has the arguments. It stands below the unfinished calls: of the stack it writes its own need, from sp down, and nothing else.
pub record HasBegun (std : Standard) (s : Signature) (arguments : List ValueTree) (pointer : ℕ) (before after : State)
    : Type 0 where
  pub entry : Event
  pub events : after.events ≡ before.events ++ entry ∷ []
  -- it is that of the machine to which the trampoline led
  pub entered : State
  pub passed : HasPassed std s arguments pointer before entered
  pub entry_is : entry ≡ entry_at std s entered
  pub is_entry : (top : ℕ) (held : Loc → ℕ) (outer : List Entered)
      → before.sp + needs std outer ≡ top
      → AllByRecursion (λ at. register (image_of 0 before) at ≡ held at) std.reserved
      → IsEntry std top held outer (length before.events) pointer s arguments entry
  pub in_callee : IsInCallee std (record { signature = s; event = entry }) after
  pub arguments_stand : arguments_in s.arguments (stack_at after.sp (block_bytes s) after) ≡ arguments
  pub sp : after.sp + need_of std s ≡ before.sp
  pub above : (address count : ℕ) → before.sp ≤ address → stack_at address count after ≡ stack_at address count before
  -- also where the mark was lower before
  pub below : (address count : ℕ) → STACK ≤ address → address + count ≤ after.sp
      → stack_at address count after ≡ stack_at address count before
  pub keeps_open : KeepsOpen std before.sp before after
  pub mark : min before.mark after.sp ≤ after.mark
  pub code : after.code ≡ before.code
  pub target : after.target ≡ before.target
  pub reserved : KeepsReserved std before after
  pub room : after.spare_events + 1 ≡ before.spare_events
  pub bytes : after.spare_bytes + (std.link + frame_of std s) ≡ before.spare_bytes
  pub steps : after.steps ≡ begun_steps before.target before.steps

-- A CALL HAS ENDED: its return is in the journal, whatever open call by the signature it was, and all its stack is free again.
pub record HasEnded (std : Standard) (s : Signature) (outcome : ValueTree) (before after : State) : Type 0 where
  pub return : Event
  pub events : after.events ≡ before.events ++ return ∷ []
  pub is_return : (entry : Event) → IsInCallee std (record { signature = s; event = entry }) before
      → IsReturn std (record { signature = s; event = entry }) outcome return
  pub sp : after.sp ≡ before.sp + need_of std s
  pub above : (address count : ℕ) → after.sp ≤ address → stack_at address count after ≡ stack_at address count before
  pub below : (address count : ℕ) → STACK ≤ address → address + count ≤ before.sp
      → stack_at address count after ≡ stack_at address count before
  pub keeps_open : KeepsOpen std after.sp before after
  pub mark : min before.mark before.sp ≤ after.mark
  pub code : after.code ≡ before.code
  pub target : after.target ≡ before.target
  pub reserved : KeepsReserved std before after
  pub room : after.spare_events + 1 ≡ before.spare_events
  pub bytes : after.spare_bytes + frame_of std s ≡ before.spare_bytes
  pub steps : after.steps ≡ ended_steps before.target before.steps
