-- Where a stub's steps lead, counted and begun as the code counts and begins them.
use Rattle.std.proofs.Common.{◌≡◌, ℕ, ◌+◌, ◌≤◌, refl, sym, subst}
use Rattle.ffi3_type_spec.specs.declared.limits.TheConstants.{STACK, STACK_TOP}
use Rattle.ffi3_type_spec.specs.TargetIsa.{isa_of}
use Rattle.ffi3_place_spec.specs.MachineRegisters.{pushed_bytes}
use Rattle.ffi3_place_spec.specs.StubRegisters.{area_bytes}
use Rattle.ffi3_machine_spec.specs.declared.stub.TheConstants.{AREA_AT, CALL_SP_AT}
use Rattle.ffi3_machine_spec.specs.State.{State, IsMachine, with_pc, x_of}
use Rattle.ffi3_machine_spec.specs.Stubs.{StubName, Call, Entry, Exit, Return, stub_at}
use Rattle.ffi3_machine.specs.MachineStep.{TakesSteps}
use Rattle.ffi3_stubs.specs.Calls.{steps_of, after_call, after_entry, after_exit, after_return}
use Rattle.ffi3_stubs.proofs.Standing.{in_turn}
use Rattle.ffi3_stubs.proofs.Ways.{call_way, entry_way, exit_way, return_way, machine_at, call_word, exit_word}

-- the known steps are the n steps that the code does from where the machine has gone
module _ (n all : ℕ) (from gone : State) (many : n ≡ all) (here : gone ≡ from) where
  pub leads : (after : State) → TakesSteps all from after → TakesSteps n gone after
  leads after way =
      subst (λ (s : State). TakesSteps n s after) (sym here) (subst (λ (k : ℕ). TakesSteps k from after) (sym many) way)

  pub led : (after : State) → TakesSteps n gone after → TakesSteps all from after
  led after way =
      subst (λ (k : ℕ). TakesSteps k from after) many (subst (λ (s : State). TakesSteps n s after) here way)

-- the machine, sent to a stub
abbrev pub sent : StubName → State → State
sent name m = with_pc (stub_at (isa_of m.target) name) m

abbrev pub stub_steps : StubName → State → ℕ
stub_steps name m = steps_of (isa_of m.target) name

module _ (m : State) (is : IsMachine m) where
  pub call_leads : STACK + pushed_bytes (isa_of m.target) ≤ x_of CALL_SP_AT m → x_of CALL_SP_AT m ≤ STACK_TOP → TakesSteps (stub_steps Call m) (sent Call m) (after_call (isa_of m.target) (sent Call m))
  call_leads low high =
      in_turn (isa_of m.target) (stub_steps Call m) (sent Call m) (after_call (isa_of m.target) (sent Call m)) refl (call_way (isa_of m.target) (sent Call m) refl (machine_at m (stub_at (isa_of m.target) Call) (call_word (isa_of m.target)) is) low high)

  pub exit_leads : STACK ≤ x_of AREA_AT m → x_of AREA_AT m + area_bytes (isa_of m.target) + pushed_bytes (isa_of m.target) ≤ STACK_TOP → TakesSteps (stub_steps Exit m) (sent Exit m) (after_exit (isa_of m.target) (sent Exit m))
  exit_leads low high =
      in_turn (isa_of m.target) (stub_steps Exit m) (sent Exit m) (after_exit (isa_of m.target) (sent Exit m)) refl (exit_way (isa_of m.target) (sent Exit m) refl (machine_at m (stub_at (isa_of m.target) Exit) (exit_word (isa_of m.target)) is) low high)

  pub entry_leads : m.pc ≡ 4096 → STACK + area_bytes (isa_of m.target) ≤ m.sp → m.sp ≤ STACK_TOP → TakesSteps (stub_steps Entry m) m (after_entry (isa_of m.target) m)
  entry_leads at low high =
      in_turn (isa_of m.target) (stub_steps Entry m) m (after_entry (isa_of m.target) m) refl (entry_way (isa_of m.target) m at is low high)

  pub return_leads : m.pc ≡ 8192 → TakesSteps (stub_steps Return m) m (after_return (isa_of m.target) m)
  return_leads at =
      in_turn (isa_of m.target) (stub_steps Return m) m (after_return (isa_of m.target) m) refl (return_way (isa_of m.target) m at is)
