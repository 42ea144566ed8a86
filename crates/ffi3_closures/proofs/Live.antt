-- The slot that a live closure has.
use Rattle.std.proofs.Common.{◌≡◌, ℕ, ◌+◌, ◌-◌, ◌*◌, ◌/◌, ◌%◌, ◌<◌, ◌≤◌, ◌==◌, ◌&&◌, Bool, true, false, length, get_or, refl, ap, ◌∙◌, arith, Option, Some, None, inl, inr, if◌then◌else◌}
use Rattle.std.specs.Prelude.{option_and_then, nat_le, IsSome}
use Rattle.std.proofs.lemmas.Bool.{cases_lt}
use Rattle.std.proofs.lemmas.Bool.Decides.{nat_tests}
use Rattle.std.proofs.lemmas.List.{get_or_past}
use Rattle.ffi3_type_spec.specs.TargetIsa.{isa_of}
use Rattle.ffi3_type_spec.specs.declared.limits.TheConstants.{CODE}
use Rattle.ffi3_machine_spec.specs.State.{State, IsMachine}
use Rattle.ffi3_semantics_spec.specs.declared.Closure.{Closure}
use Rattle.ffi3_semantics_spec.specs.Closures.{Closures, closure_at}
use Rattle.ffi3_machine_spec.specs.Slots.{HoldsMap, slot_content}
use Rattle.ffi3_machine.specs.MachineStep.{TakesSteps}
use Rattle.ffi3_closures.specs.Reaching.{reached}
use Rattle.ffi3_closures.proofs.Trampolines.{reaches}

record IsLiveAt (closures : Closures) (ptr : ℕ) : Type 0 where
  closure : Closure
  number : ℕ
  below : number < 256
  at : ptr ≡ CODE + 64 * number
  is : get_or closures number None ≡ Some closure

start : (ptr : ℕ) → (nat_le CODE ptr && (ptr - CODE) % 64 == 0) ≡ true → ptr ≡ CODE + 64 * ((ptr - CODE) / 64)
start ptr e =
    let low : CODE ≤ ptr = grind (arith, nat_tests) in
    let whole : (ptr - CODE) % 64 ≡ 0 = grind (arith, nat_tests) in
    omega arith

entry_at : (closures : Closures) (k : ℕ) (entry : Option Closure) → length closures ≡ 256 → get_or closures k None ≡ entry → IsSome entry → (k < 256) × ((c : Closure) × (get_or closures k None ≡ Some c))
entry_at closures k None count is live = cc
entry_at closures k (Some c) count is live = (
  elim (cases_lt k 256) [
    | inl below ↦ below
    | inr above ↦ let none = get_or_past closures k None (omega arith) in cc
  ],
  (c, is),
)

live_if : (closures : Closures) (ptr : ℕ) (b : Bool) → length closures ≡ 256 → (nat_le CODE ptr && (ptr - CODE) % 64 == 0) ≡ b → IsSome (option_and_then (λ k. get_or closures k None) (if b then Some ((ptr - CODE) / 64) else None)) → IsLiveAt closures ptr
live_if closures ptr false count e live = cc
live_if closures ptr true count e live =
    let entry = entry_at closures ((ptr - CODE) / 64) (get_or closures ((ptr - CODE) / 64) None) count refl live in
    record { closure = entry.1.0; number = (ptr - CODE) / 64; below = entry.0; at = start ptr e; is = entry.1.1 }

is_live : (closures : Closures) (ptr : ℕ) → length closures ≡ 256 → IsSome (closure_at closures ptr) → IsLiveAt closures ptr
is_live closures ptr count live = live_if closures ptr (nat_le CODE ptr && (ptr - CODE) % 64 == 0) count refl live

-- from the live slot at pc
pub three_steps : (closures : Closures) (s : State) → length closures ≡ 256 → IsMachine s → HoldsMap s.target closures s.code → IsSome (closure_at closures s.pc) → TakesSteps 3 s (reached s)
three_steps closures s count machine holds live =
    let l = is_live closures s.pc count live in
    reaches s l.closure l.number machine.general l.below l.at (holds.slot l.number l.below ∙ ap (slot_content (isa_of s.target)) l.is)
