-- The machine after a callee took its arguments, and what the callee remembers of its entry.
use Rattle.std.specs.Prelude.{◌≡◌, ◌+◌, ◌-◌, ◌≤◌, Bool, false, List, Option, Some, None, length}
use Rattle.ffi3_type_spec.specs.declared.limits.TheConstants.{STACK, STACK_TOP}
use Rattle.ffi3_type_spec.specs.TargetIsa.{isa_of}
use Rattle.ffi3_type_spec.specs.Signature.{Signature}
use Rattle.ffi3_type_spec.specs.Value.{ValueTree}
use Rattle.ffi3_place_spec.specs.declared.Loc.{Loc}
use Rattle.ffi3_place_spec.specs.declared.Res.{Res}
use Rattle.ffi3_place_spec.specs.declared.Res.TheVariants.{Nothing, Direct, Hidden}
use Rattle.ffi3_place_spec.specs.Standard.{Standard, block_bytes, frame_of, plan_of}
use Rattle.ffi3_place_spec.specs.Holds.{Own}
use Rattle.ffi3_machine_spec.specs.State.{State, image_of, scribbled, stack_at}
use Rattle.ffi3_semantics_spec.specs.SeenActivation.{arguments_in}
use Rattle.ffi3_machine_spec.specs.Stubs.{Entry}
use Rattle.ffi3_stubs.specs.Calls.{steps_of}
use Rattle.ffi3_machine_transfer.specs.Passing.{by_exchange, steps_if}
use Rattle.ffi3_machine_transfer.specs.Stored.{WroteWithin, with_journal_of}
use Rattle.ffi3_callee.specs.Entered.{entered_if}
use Rattle.ffi3_callee.specs.Given.{IsAddressOrZero}
use Rattle.ffi3_callee.specs.Saved.{AreSaved}
use Rattle.ffi3_callee.specs.Remembered.{Remembered}

-- where a hidden result's address stands
abbrev pub hidden_of : Res → Option Loc
hidden_of Nothing = None
hidden_of (Direct pieces) = None
hidden_of (Hidden at buffer) = Some at

-- the image at an entry owns these values
abbrev pub OwnsAtEntry : Standard → Signature → State → List ValueTree → Type 0
OwnsAtEntry std s m vs = Own std s vs (image_of (std.link + frame_of std s) m)

-- The block, the save area, the return address and the caller's frame stand one behind the other in the stack, and a hidden result's address is that of its buffer, or 0 where there is none.
pub record IsIncoming (std : Standard) (s : Signature) (incoming : Remembered) : Type 0 where
  pub low : STACK ≤ incoming.block
  pub entry : incoming.block + block_bytes s + std.save ≡ incoming.entry
  pub high : incoming.entry + std.link + frame_of std s ≤ STACK_TOP
  pub address : IsAddressOrZero (incoming.entry + std.link) incoming.address (plan_of std s).res

-- THE MACHINE AFTER: the callee is entered, and scribbles. The arguments that it copies into its block change stack and mark alone, which are those of `after`.
abbrev pub received_if : Bool → Standard → Signature → (entry after : State) → State
received_if b std s entry after =
    record
    (scribbled (length entry.events)
    (entered_if b std (hidden_of (plan_of std s).res) (entry.sp - std.save - block_bytes s) entry)) {
      stack = after.stack;
      mark = after.mark;
    }

-- THE BLOCK HAS EVERY LIST OF VALUES THAT THE ENTRY OWNS, the words are saved above it, and of the stack nothing is written from the entry's sp on
pub record IsReceived (std : Standard) (s : Signature) (entry m : State) : Type 0 where
  pub values : (vs : List ValueTree) → OwnsAtEntry std s entry vs
      → arguments_in s.arguments (stack_at m.sp (block_bytes s) m) ≡ vs
  pub saved : AreSaved (entry.sp - std.save) (entry.sp + std.link) (hidden_of (plan_of std s).res) std.save_area entry m
  pub sp : m.sp + block_bytes s + std.save ≡ entry.sp
  pub within : WroteWithin m.sp entry.sp entry (with_journal_of entry m)
  -- the stub Entry leads on, where calls go by stubs
  pub pc : by_exchange entry.target ≡ false → m.pc ≡ entry.pc
  pub events : m.events ≡ entry.events
  pub spare_events : m.spare_events ≡ entry.spare_events
  pub spare_bytes : m.spare_bytes ≡ entry.spare_bytes
  pub steps : m.steps ≡ steps_if (by_exchange entry.target) (steps_of (isa_of entry.target) Entry) entry.steps
