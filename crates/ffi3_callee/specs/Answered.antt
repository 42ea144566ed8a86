-- The machine once a callee has answered: what else is true of it at its return.
use Rattle.std.specs.Prelude.{◌≡◌, ◌⊎◌, ℕ, ◌+◌, ◌<◌, ◌≤◌, ⊤, length, get_or}
use Rattle.ffi3_type_spec.specs.TargetIsa.{isa_of}
use Rattle.ffi3_type_spec.specs.Layout.{size_of}
use Rattle.ffi3_type_spec.specs.Signature.{Signature}
use Rattle.ffi3_type_spec.specs.Tree.{Tree}
use Rattle.ffi3_type_spec.specs.declared.limits.TheConstants.{STACK}
use Rattle.ffi3_place_spec.specs.Standard.{Standard, block_bytes, plan_of}
use Rattle.ffi3_place_spec.specs.declared.Res.{Res}
use Rattle.ffi3_place_spec.specs.declared.Res.TheVariants.{Nothing, Direct, Hidden}
use Rattle.ffi3_machine_spec.specs.State.{State, HasReturnAddress}
use Rattle.ffi3_machine_spec.specs.Stubs.{Entry, Exit}
use Rattle.ffi3_stubs.specs.Calls.{steps_of}
use Rattle.ffi3_machine_transfer.specs.Passing.{by_exchange, steps_if}
use Rattle.ffi3_callee.specs.GoneBack.{IsAtReturn}

-- an address is none of a hidden result's buffer
abbrev pub IsBesideResult : ℕ → Tree → Res → ℕ → Type 0
IsBesideResult base t Nothing address = ⊤
IsBesideResult base t (Direct pieces) address = ⊤
IsBesideResult base t (Hidden at buffer) address = (address < base + buffer) ⊎ (base + buffer + size_of t ≤ address)

-- THE CALLEE HAS ANSWERED: of the stack it wrote its save area and its block below the entry's sp, and from there on a hidden result's buffer alone. The return is to RETURN where that was the return address, and code, target and journal stay.
pub record HasAnswered (std : Standard) (s : Signature) (entry m : State) : Type 0 where
  pub size : length m.stack ≡ length entry.stack
  pub below : (i : ℕ) → STACK + i + std.save + block_bytes s < entry.sp → get_or m.stack i 0 ≡ get_or entry.stack i 0
  pub above : (i : ℕ) → entry.sp ≤ STACK + i
      → IsBesideResult (entry.sp + std.link) s.result_type (plan_of std s).res (STACK + i)
      → get_or m.stack i 0 ≡ get_or entry.stack i 0
  pub mark : (entry.mark ≤ m.mark) ⊎ (entry.sp ≤ m.mark + std.save + block_bytes s)
  pub at_return : HasReturnAddress entry → IsAtReturn (by_exchange m.target) m
  pub target : m.target ≡ entry.target
  pub code : m.code ≡ entry.code
  pub events : m.events ≡ entry.events
  pub spare_events : m.spare_events ≡ entry.spare_events
  pub spare_bytes : m.spare_bytes ≡ entry.spare_bytes
  -- Entry and Exit are counted where calls go by stubs
  pub steps :
      m.steps ≡ steps_if (by_exchange entry.target) (steps_of (isa_of entry.target) Exit)
      (steps_if (by_exchange entry.target) (steps_of (isa_of entry.target) Entry) entry.steps)
