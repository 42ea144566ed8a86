-- The machine once a callee is entered.
use Rattle.std.specs.Prelude.{◌≡◌, ℕ, ◌+◌, ◌-◌, Bool, true, false, Option}
use Rattle.std.specs.List.{AllByRecursion}
use Rattle.ffi3_type_spec.specs.TargetIsa.{isa_of}
use Rattle.ffi3_place_spec.specs.declared.Loc.{Loc}
use Rattle.ffi3_place_spec.specs.Standard.{Standard}
use Rattle.ffi3_machine_spec.specs.declared.stub.TheConstants.{ENTRY_SP_AT}
use Rattle.ffi3_machine_spec.specs.State.{State, with_sp, with_x}
use Rattle.ffi3_machine_spec.specs.Stubs.{Entry}
use Rattle.ffi3_stubs.specs.Calls.{after_entry, steps_of}
use Rattle.ffi3_machine_transfer.specs.Passing.{by_exchange, passing, steps_if}
use Rattle.ffi3_machine_transfer.specs.Stored.{SameAt, WroteWithin, with_journal_of}
use Rattle.ffi3_callee.specs.Given.{ReservedStay}
use Rattle.ffi3_callee.specs.Saved.{AreSaved, with_saved}

-- the machine in the callee, whose block begins at an address: through the stub Entry, which is told that address, or by saving word after word
abbrev pub entered_if : Bool → Standard → Option Loc → ℕ → State → State
entered_if true std hidden block s = after_entry (isa_of s.target) (with_x ENTRY_SP_AT block s)
entered_if false std hidden block s =
    with_sp block (with_saved (s.sp - std.save) (s.sp + std.link) hidden 0 std.save_area s)

-- THE CALLEE IS ENTERED: what it is to give back is saved below the entry's sp, arguments are passed as they came in registers, and sp is its block's address.
pub record IsEntered (std : Standard) (hidden : Option Loc) (block : ℕ) (entry m : State) : Type 0 where
  pub saved : AreSaved (entry.sp - std.save) (entry.sp + std.link) hidden std.save_area entry m
  pub arguments : AllByRecursion (λ l. SameAt 0 l entry (passing m)) std.argument_registers
  pub reserved : ReservedStay std entry m
  pub sp : m.sp ≡ block
  pub within : WroteWithin (entry.sp - std.save) entry.sp entry (with_journal_of entry m)
  -- the stub Entry leads on
  pub pc : by_exchange entry.target ≡ false → m.pc ≡ entry.pc
  pub events : m.events ≡ entry.events
  pub spare_events : m.spare_events ≡ entry.spare_events
  pub spare_bytes : m.spare_bytes ≡ entry.spare_bytes
  pub steps : m.steps ≡ steps_if (by_exchange entry.target) (steps_of (isa_of entry.target) Entry) entry.steps
