-- The machine at ENTRY, once the arguments are stored, the slot is called and its trampoline has run.
use Rattle.std.proofs.Common.{◌≡◌, ℕ, ◌+◌, ◌-◌, ◌%◌, ◌^◌, ◌≤◌, List, [], ◌∷◌, ◌++◌, length, refl, ap, sym, ◌∙◌, subst, arith}
use Rattle.std.specs.List.{AllByRecursion}
use Rattle.ffi3_type_spec.specs.declared.limits.TheConstants.{STACK, STACK_TOP}
use Rattle.ffi3_type_spec.specs.TargetIsa.{isa_of}
use Rattle.ffi3_type_spec.specs.Signature.{Signature}
use Rattle.ffi3_type_spec.specs.Value.{ValueTree}
use Rattle.ffi3_place_spec.specs.declared.Loc.{Loc}
use Rattle.ffi3_place_spec.specs.MachineRegisters.{pushed_bytes, reserved_places, trampoline_registers, to_list}
use Rattle.ffi3_place_spec.specs.Scribble.{scribble}
use Rattle.ffi3_place_spec.specs.Image.{Image, register}
use Rattle.ffi3_place_spec.specs.Standard.{Standard, frame_of}
use Rattle.ffi3_place_spec.specs.Agrees.{AgreesWithMachine, special}
use Rattle.ffi3_place_spec.specs.Holds.{Holds, SameIn}
use Rattle.ffi3_place_spec.specs.Sound.{Apart, IsNoneOf, IsSound}
use Rattle.ffi3_machine_spec.specs.State.{State, IsMachine, image_of, scribbled}
use Rattle.ffi3_machine.specs.MachineStep.{TakesSteps}
use Rattle.ffi3_machine_spec.specs.Stubs.{Call}
use Rattle.ffi3_stubs.specs.Calls.{steps_of}
use Rattle.ffi3_closures.specs.Reaching.{reached}
use Rattle.ffi3_machine_transfer.specs.Passing.{by_exchange, passing, steps_if}
use Rattle.ffi3_machine_transfer.specs.Stored.{IsPlace, SameAt, WroteWithin, with_journal_of, word_in}
use Rattle.ffi3_caller.specs.Called.{SlotIsCalled, called_if}
use Rattle.ffi3_marshal.proofs.Lawful.{each_first, each_rest, machine_places}
use Rattle.ffi3_machine_transfer.proofs.Composing.{register_is, word_same}
use Rattle.ffi3_callee.specs.Given.{ReservedStay}
use Rattle.ffi3_callee.proofs.Laws.{each_both}
use Rattle.ffi3_callee.proofs.Keeping as keeping
use Rattle.ffi3_invoke.specs.Calls.{AreStored, HasPassed}
use Rattle.ffi3_invoke.proofs.Changed.{IsChanged, holds_changed}
use Rattle.ffi3_callee.proofs.Beside.{scribbled_beside, wrote_down}
use Rattle.ffi3_invoke.proofs.Reached.{passes, pushed_within, reserved_clear_of_trampoline, return_address_passed, scribbled_there, trampoline_leaves, trampoline_tells}

-- ---- registers of a list that are the same in two images

-- where they stay in the machine
pub same_in : (len n : ℕ) (a b : State) (ls : List Loc) → AllByRecursion (IsPlace 0) ls → AllByRecursion (λ at. word_in STACK_TOP b at ≡ word_in STACK_TOP a at) ls → SameIn ls (image_of len a) (image_of n b)
same_in len n a b ls =
    each_both (IsPlace 0) (λ at. word_in STACK_TOP b at ≡ word_in STACK_TOP a at) (λ at. register (image_of len a) at ≡ register (image_of n b) at) (λ l lies stay. register_is len STACK_TOP a l lies ∙ sym stay ∙ sym (register_is n STACK_TOP b l lies)) ls

pub same_then : (ls : List Loc) (d e f : Image) → SameIn ls d e → SameIn ls e f → SameIn ls d f
same_then [] d e f s t = tt
same_then (l ∷ ls) d e f s t = (s.0 ∙ t.0, same_then ls d e f s.1 t.1)

-- they hold what they held
pub held_still : (len n : ℕ) (a b : State) (held : Loc → ℕ) (ls : List Loc) → AllByRecursion (IsPlace 0) ls → SameIn ls (image_of len a) (image_of len b) → AllByRecursion (λ at. register (image_of len a) at ≡ held at) ls → AllByRecursion (λ at. register (image_of n b) at ≡ held at) ls
held_still len n a b held [] lie same h = tt
held_still len n a b held (l ∷ ls) lie same h =
    (register_is n STACK_TOP b l lie.0 ∙ sym (register_is len STACK_TOP b l lie.0) ∙ sym same.0 ∙ h.0, held_still len n a b held ls lie.1 same.1 h.1)

-- ---- the machine at ENTRY

module _ (std : Standard) (s : Signature) (sound : IsSound std s) (agrees : AgreesWithMachine std) (vs : List ValueTree) (pointer : ℕ) (m a d : State) (target_is : a.target ≡ std.target) (machine : IsMachine a) (after : IsMachine d) (room : STACK + std.link + frame_of std s ≤ m.sp) (top : m.sp ≤ STACK_TOP) (sp : a.sp + frame_of std s ≡ m.sp) (stored : WroteWithin a.sp m.sp (passing (scribbled (length m.events) m)) (passing a)) (called : SlotIsCalled pointer a d) where
  within : WroteWithin a.sp m.sp m (with_journal_of m a)
  within = scribbled_beside (length m.events) a.sp m.sp m a stored

  pushed : std.link ≡ pushed_bytes (isa_of a.target)
  pushed = agrees.link ∙ ap (λ k. pushed_bytes (isa_of k)) (sym target_is)

  low : STACK + pushed_bytes (isa_of a.target) ≤ a.sp
  low = let bytes = pushed in omega (arith, bytes, room, sp)

  fits : a.sp - STACK ≤ length a.stack
  fits = let sized = machine.stack in omega (arith, sized, room, sp, top)

  called_target : d.target ≡ std.target
  called_target = called.target ∙ target_is

  written : std.trampoline_registers ≡ trampoline_registers (isa_of d.target)
  written = agrees.trampoline ∙ ap (λ k. trampoline_registers (isa_of k)) (sym called_target)

  -- ---- registers

  stays : (l : Loc) → IsPlace 0 l → IsNoneOf std.trampoline_registers l → word_in STACK_TOP (reached d) l ≡ word_in STACK_TOP d l
  stays l lies trampoline = passes d l lies (subst (λ ls. IsNoneOf ls l) written trampoline)

  preserved_there : AllByRecursion (λ l. SameAt 0 l (scribbled (length m.events) m) a) std.callee_saved → AllByRecursion (λ l. SameAt 0 l a d) std.callee_saved → AllByRecursion (λ at. register (image_of (std.link + frame_of std s) (reached d)) at ≡ scribble (length m.events) at) std.callee_saved
  preserved_there same then_same =
      each_both (IsNoneOf (special std)) (λ l. IsPlace 0 l × (SameAt 0 l (scribbled (length m.events) m) a × SameAt 0 l a d)) (λ at. register (image_of (std.link + frame_of std s) (reached d)) at ≡ scribble (length m.events) at) one std.callee_saved agrees.callee_saved_plain
      (each_both (IsPlace 0) (λ l. SameAt 0 l (scribbled (length m.events) m) a × SameAt 0 l a d) (λ l. IsPlace 0 l × (SameAt 0 l (scribbled (length m.events) m) a × SameAt 0 l a d)) (λ l p q. (p, q)) std.callee_saved (machine_places (isa_of std.target) 0 std.callee_saved agrees.callee_saved_exist)
      (each_both (λ l. SameAt 0 l (scribbled (length m.events) m) a) (λ l. SameAt 0 l a d) (λ l. SameAt 0 l (scribbled (length m.events) m) a × SameAt 0 l a d) (λ l p q. (p, q)) std.callee_saved same then_same))
    where
      old_target : m.target ≡ std.target
      old_target = sym within.target ∙ target_is

      one : (l : Loc) → IsNoneOf (special std) l → IsPlace 0 l × (SameAt 0 l (scribbled (length m.events) m) a × SameAt 0 l a d) → register (image_of (std.link + frame_of std s) (reached d)) l ≡ scribble (length m.events) l
      one l none both =
          let after_link = std.trampoline_registers ++ (to_list std.vector_count ++ to_list std.returned_address) in
          let rest = each_rest (Apart l) std.reserved (to_list std.link_register ++ (std.trampoline_registers ++ (to_list std.vector_count ++ to_list std.returned_address))) none.1 in
          let trampoline = each_first (Apart l) std.trampoline_registers (to_list std.vector_count ++ to_list std.returned_address) (each_rest (Apart l) (to_list std.link_register) after_link rest) in
          let reserved = each_first (Apart l) std.reserved (to_list std.link_register ++ (std.trampoline_registers ++ (to_list std.vector_count ++ to_list std.returned_address))) none.1 in
          let free = subst (λ k. IsNoneOf (reserved_places (isa_of k)) l) (sym old_target) (subst (λ ls. IsNoneOf ls l) agrees.reserved reserved) in
          register_is (std.link + frame_of std s) STACK_TOP (reached d) l both.0 ∙ stays l both.0 trampoline ∙ word_same STACK_TOP STACK_TOP l a d both.0 both.1.1 ∙ word_same STACK_TOP STACK_TOP l (scribbled (length m.events) m) a both.0 both.1.0 ∙ scribbled_there (length m.events) m l both.0 free

  reserved_there : AllByRecursion (λ l. SameAt 0 l m a) std.reserved → AllByRecursion (λ l. SameAt 0 l a d) std.reserved → ReservedStay std m (reached d)
  reserved_there same then_same =
      each_both (λ l. IsPlace 0 l × IsNoneOf std.trampoline_registers l) (λ l. SameAt 0 l m a × SameAt 0 l a d) (λ at. word_in STACK_TOP (reached d) at ≡ word_in STACK_TOP m at) (λ l p q. stays l p.0 p.1 ∙ word_same STACK_TOP STACK_TOP l a d p.0 q.1 ∙ word_same STACK_TOP STACK_TOP l m a p.0 q.0) std.reserved
      (each_both (IsPlace 0) (IsNoneOf std.trampoline_registers) (λ l. IsPlace 0 l × IsNoneOf std.trampoline_registers l) (λ l p q. (p, q)) std.reserved (keeping.reserved_there std agrees) trampoline)
      (each_both (λ l. SameAt 0 l m a) (λ l. SameAt 0 l a d) (λ l. SameAt 0 l m a × SameAt 0 l a d) (λ l p q. (p, q)) std.reserved same then_same)
    where
      trampoline : AllByRecursion (IsNoneOf std.trampoline_registers) std.reserved
      trampoline = subst (λ ls. AllByRecursion (IsNoneOf ls) std.reserved) (sym agrees.trampoline) (subst (AllByRecursion (IsNoneOf (trampoline_registers (isa_of std.target)))) (sym agrees.reserved) (reserved_clear_of_trampoline (isa_of std.target)))

  -- ---- all together

  changed : IsChanged std.trampoline_registers (image_of (std.link + frame_of std s) d) (image_of (std.link + frame_of std s) (reached d))
  changed =
      subst (λ ls. IsChanged ls (image_of (std.link + frame_of std s) d) (image_of (std.link + frame_of std s) (reached d))) (sym written) (record {
        sp = refl;
        stack = refl;
        general = λ r none. trampoline_leaves (isa_of d.target) d.pc d.general r none;
        floating = refl;
      })

  same_target : a.target ≡ m.target
  same_target = within.target

  counted : d.steps ≡ steps_if (by_exchange m.target) (steps_of (isa_of m.target) Call) m.steps
  counted =
      called.steps ∙ ap (λ k. steps_if (by_exchange k) (steps_of (isa_of k) Call) a.steps) same_target ∙ ap (steps_if (by_exchange m.target) (steps_of (isa_of m.target) Call)) stored.steps

  passed_there : TakesSteps 3 d (reached d) → d ≡ called_if (by_exchange a.target) pointer a → AreStored std s vs m a → AllByRecursion (λ l. SameAt 0 l (scribbled (length m.events) m) a) std.callee_saved → AllByRecursion (λ l. SameAt 0 l a d) std.callee_saved → AllByRecursion (λ l. SameAt 0 l m a) std.reserved → AllByRecursion (λ l. SameAt 0 l a d) std.reserved → Holds std s vs (image_of (std.link + frame_of std s) d) → HasPassed std s vs pointer m (reached d)
  passed_there way by_call stores preserved then_preserved reserved then_reserved holds = record {
    holds = holds_changed std s sound agrees (image_of (std.link + frame_of std s) d) (image_of (std.link + frame_of std s) (reached d)) changed vs holds;
    pc = refl;
    closure = trampoline_tells (isa_of d.target) d.pc d.general after.general ∙ called.pc;
    return_address = return_address_passed d called.return_address;
    preserved = preserved_there preserved then_preserved;
    reserved = same_in 0 0 m (reached d) std.reserved (keeping.reserved_there std agrees) (reserved_there reserved then_reserved);
    sp = let bytes = pushed in let above = low in let below = called.sp in omega (arith, bytes, above, below, sp);
    within = subst (λ q. WroteWithin q m.sp m (with_journal_of m (reached d))) (sym called.sp) (wrote_down (a.sp - pushed_bytes (isa_of a.target)) a.sp m.sp m a (reached d) (omega arith) (omega (arith, sp)) within (pushed_within pointer a d called low fits));
    events = called.events ∙ stored.events;
    spare_events = called.spare_events ∙ stored.spare_events;
    spare_bytes = called.spare_bytes ∙ stored.spare_bytes;
    steps = ap (λ n. (n + 3) % 2 ^ 64) counted;
    stored = a;
    stores = stores;
    trampoline = record { called = d; by_call = by_call; at_slot = called.pc; steps = way };
  }

  -- THE ARGUMENTS ARE PASSED
  pub passed : (c : State) → TakesSteps 3 d c → c ≡ reached d → d ≡ called_if (by_exchange a.target) pointer a → AreStored std s vs m a → AllByRecursion (λ l. SameAt 0 l (scribbled (length m.events) m) a) std.callee_saved → AllByRecursion (λ l. SameAt 0 l a d) std.callee_saved → AllByRecursion (λ l. SameAt 0 l m a) std.reserved → AllByRecursion (λ l. SameAt 0 l a d) std.reserved → Holds std s vs (image_of (std.link + frame_of std s) d) → HasPassed std s vs pointer m c
  passed c way is by_call stores preserved then_preserved reserved then_reserved holds =
      subst (HasPassed std s vs pointer m) (sym is) (passed_there (subst (TakesSteps 3 d) is way) by_call stores preserved then_preserved reserved then_reserved holds)
