-- A call whose arguments are passed, and then all overwritten that a callee must not look at, is shown at its entry.
use Rattle.std.proofs.Common.{◌≡◌, ℕ, ◌+◌, ◌<◌, ◌≤◌, true, List, ◌++◌, get_or, refl, ap, sym, ◌∙◌, subst, arith}
use Rattle.std.specs.Prelude.{slice_index}
use Rattle.std.specs.List.{AllByRecursion}
use Rattle.ffi3_type_spec.specs.declared.limits.TheConstants.{STACK, STACK_TOP}
use Rattle.ffi3_type_spec.specs.TargetIsa.{isa_of}
use Rattle.ffi3_type_spec.specs.Signature.{Signature}
use Rattle.ffi3_type_spec.specs.Value.{ValueTree}
use Rattle.ffi3_place_spec.specs.declared.Loc.{Loc}
use Rattle.ffi3_place_spec.specs.declared.Loc.TheVariants.{G, S}
use Rattle.ffi3_place_spec.specs.MachineRegisters.{closure_register, to_list}
use Rattle.ffi3_place_spec.specs.Standard.{Standard, block_bytes, frame_of, need_of}
use Rattle.ffi3_place_spec.specs.Agrees.{AgreesWithMachine}
use Rattle.ffi3_place_spec.specs.Sound.{closed_to_arguments, closed_to_results}
use Rattle.ffi3_machine_spec.specs.State.{State, HasReturnAddress}
use Rattle.ffi3_machine_transfer.specs.Stored.{IsPlace, byte_of, stack_byte, word_in}
use Rattle.ffi3_marshal.proofs.Lawful.{each_first, each_rest}
use Rattle.ffi3_poison.specs.Poison.{IsPoisoned, is_free}
use Rattle.ffi3_callee.specs.Received.{OwnsAtEntry}
use Rattle.ffi3_invoke.specs.Calls.{HasPassed, entered_closure}
use Rattle.ffi3_run_state.specs.Served.{ShowsCall}
use Rattle.ffi3_runner_tests.specs.Shown.{IsOverwritten}

-- no argument stands in the closure register
closed_closure : (std : Standard) (P : Loc → Type 0) → AgreesWithMachine std → AllByRecursion P (closed_to_arguments std) → P (G (closure_register (isa_of std.target)))
closed_closure std P agrees each =
    let rest = each_rest P (closed_to_results std) (std.trampoline_registers ++ to_list std.vector_count) each in
    let here = each_first P std.trampoline_registers (to_list std.vector_count) rest in
    (subst (λ (ls : List Loc). AllByRecursion P ls) agrees.trampoline here).0

module _ (std : Standard) (s : Signature) (agrees : AgreesWithMachine std) (values : List ValueTree) (byte pointer : ℕ) (m a b : State) (target : m.target ≡ std.target) (passed : HasPassed std s values pointer m a) (is : IsPoisoned std s (a.sp + std.link) byte a b) where
  pub entered : entered_closure b ≡ pointer
  entered =
      let target_a : a.target ≡ std.target = passed.within.target ∙ target in
      let target_b : b.target ≡ std.target = is.within.target ∙ target_a in
      let same : get_or b.general (closure_register (isa_of std.target)) 0 ≡ get_or a.general (closure_register (isa_of std.target)) 0 = closed_closure std (λ l. word_in (a.sp + std.link) b l ≡ word_in (a.sp + std.link) a l) agrees is.closed in
      ap (λ t. slice_index b.general (closure_register (isa_of t))) target_b ∙ same ∙ ap (λ t. slice_index a.general (closure_register (isa_of t))) (sym target_a) ∙ passed.closure

  pub shows : STACK + need_of std s ≤ m.sp → m.sp ≤ STACK_TOP → OwnsAtEntry std s b values → HasReturnAddress b → 2 ≤ m.spare_events → std.link + frame_of std s + frame_of std s ≤ m.spare_bytes → ShowsCall std s values b
  shows room top own back events bytes =
      let need : need_of std s ≡ frame_of std s + std.link + std.save + block_bytes s = refl in
      record {
        target = is.within.target ∙ passed.within.target ∙ target;
        entry = is.within.pc ∙ passed.pc;
        room = omega (arith, need, room, passed.sp, is.sp);
        frame = omega (arith, top, passed.sp, is.sp);
        owns = own;
        return_address = back;
        events = omega (arith, events, passed.spare_events, is.within.spare_events);
        bytes = omega (arith, bytes, passed.spare_bytes, is.within.spare_bytes);
      }

-- the stack pointer stays, and so the frame begins where it did
pub overwritten : (std : Standard) (s : Signature) (byte : ℕ) (a b : State) → IsPoisoned std s (a.sp + std.link) byte a b → IsOverwritten std s byte b
overwritten std s byte a b is =
    let base : a.sp + std.link ≡ b.sp + std.link = ap (λ n. n + std.link) (sym is.sp) in
    record {
      registers = subst (λ n. (l : Loc) (k : ℕ) → IsPlace 0 l → k < 8 → is_free std s l k ≡ true → byte_of n b l k ≡ byte) base is.register_free;
      frame = subst (λ at. (n : ℕ) → is_free std s (S n 1) 0 ≡ true → stack_byte b (at + n) ≡ byte) base is.frame_free;
    }
