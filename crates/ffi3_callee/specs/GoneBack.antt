-- The machine once a callee has gone back.
use Rattle.std.specs.Prelude.{◌≡◌, ℕ, ◌+◌, ◌-◌, Bool, true, false, ◌++◌}
use Rattle.ffi3_type_spec.specs.declared.limits.TheConstants.{RETURN, STACK_TOP}
use Rattle.ffi3_type_spec.specs.TargetIsa.{isa_of}
use Rattle.ffi3_place_spec.specs.declared.Loc.{Loc}
use Rattle.ffi3_place_spec.specs.MachineRegisters.{link_register}
use Rattle.ffi3_place_spec.specs.StubRegisters.{exit_scratch, callee_saved_words, result_loads}
use Rattle.ffi3_place_spec.specs.Image.{Image, register}
use Rattle.ffi3_place_spec.specs.Standard.{Standard}
use Rattle.ffi3_place_spec.specs.Agrees.{saved_registers}
use Rattle.ffi3_place_spec.specs.Sound.{IsNoneOf, IsOneOf}
use Rattle.ffi3_machine_spec.specs.declared.stub.TheConstants.{AREA_AT}
use Rattle.ffi3_machine_spec.specs.State.{State, HasReturnAddress, HasReturnAt, returned, with_pc, with_sp, with_x}
use Rattle.ffi3_machine_spec.specs.Stubs.{Exit, stub_at}
use Rattle.ffi3_stubs.specs.Calls.{after_exit, steps_of}
use Rattle.ffi3_machine_transfer.specs.Passing.{by_exchange, passing, steps_if}
use Rattle.ffi3_machine_transfer.specs.Stored.{IsPlace, SameAt, WroteWithin, with_journal_of}
use Rattle.ffi3_callee.specs.Saved.{AreGivenBack, HoldRegisters, with_given_back}

-- the machine that has gone back, whose sp at the entry was `entry`: through the stub Exit, which is told the save area's address, or by giving back word after word
abbrev pub gone_back_if : Bool → Standard → (entry : ℕ) → State → State
gone_back_if true std entry s =
    after_exit (isa_of s.target) (with_pc (stub_at (isa_of s.target) Exit) (with_x AREA_AT (entry - std.save) s))
gone_back_if false std entry s = with_sp entry (with_given_back (entry - std.save) 0 std.save_area s)

-- the machine at its return: the stub Exit has returned; without stubs the machine's own return is still to be made
abbrev pub returned_if : Bool → State → State
returned_if true s = s
returned_if false s = returned s

abbrev pub returned_by : State → State
returned_by s = returned_if (by_exchange s.target) s

-- the return is to RETURN
abbrev pub IsAtReturn : Bool → State → Type 0
IsAtReturn true s = s.pc ≡ RETURN
IsAtReturn false s = HasReturnAddress s

-- the registers that hold at the return what was given: those that Exit loads; without stubs, all that are not given back
abbrev pub IsGiven : Bool → Standard → Loc → Type 0
IsGiven true std l = IsOneOf (result_loads (isa_of std.target)) l
IsGiven false std l = IsNoneOf (saved_registers std.save_area) l

-- the registers that stay
abbrev pub IsLeftAlone : Bool → Standard → Loc → Type 0
IsLeftAlone true std l =
    IsNoneOf
    (exit_scratch (isa_of std.target) ++ (callee_saved_words (isa_of std.target) ++ result_loads (isa_of std.target))) l
IsLeftAlone false std l = IsNoneOf (saved_registers std.save_area) l

-- THE CALLEE HAS GONE BACK, whose sp at the entry was `entry`: the saved registers have their values again, what was given stands in the registers of results, and sp is behind the return address. Of the stack nothing is written.
pub record HasGoneBack (std : Standard) (entry : ℕ) (before after : State) : Type 0 where
  pub given_back : (value : Loc → ℕ) → AreGivenBack (entry - std.save) std.save_area value before after
  pub results : (l : Loc) → IsPlace 0 l → IsGiven (by_exchange before.target) std l → SameAt 0 l (passing before) after
  pub others : (l : Loc) → IsPlace 0 l → IsLeftAlone (by_exchange before.target) std l → SameAt 0 l before after
  pub sp : (returned_by after).sp ≡ entry + std.link
  -- where RETURN was the return address at the entry
  pub at_return : (e : Image)
      → HoldRegisters (entry - std.save) std.save_area (register e) before
      → HasReturnAt (link_register (isa_of std.target)) e.general entry before.stack
      → IsAtReturn (by_exchange after.target) after
  pub within : WroteWithin STACK_TOP STACK_TOP before (with_journal_of before after)
  -- the stub Exit leads to the return address
  pub pc : by_exchange before.target ≡ false → after.pc ≡ before.pc
  pub events : after.events ≡ before.events
  pub spare_events : after.spare_events ≡ before.spare_events
  pub spare_bytes : after.spare_bytes ≡ before.spare_bytes
  pub steps : after.steps ≡ steps_if (by_exchange before.target) (steps_of (isa_of before.target) Exit) before.steps
