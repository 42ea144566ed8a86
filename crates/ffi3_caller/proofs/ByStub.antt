-- A call by the stub Call or by the machine's own, and the way back by the stub Return.
use Rattle.std.proofs.Common.{◌≡◌, ℕ, ◌+◌, ◌-◌, ◌%◌, ◌^◌, ◌≤◌, Bool, true, false, List, ◌++◌, take, drop, get_or, length, refl, ap, sym, ◌∙◌, subst, arith}
use Rattle.std.specs.List.{replace_range}
use Rattle.std.specs.Int.{w64, to_le_bytes}
use Rattle.std.proofs.lemmas.List.{get_or-set_other}
use Rattle.ffi3_type_spec.specs.declared.Isa.{Isa}
use Rattle.ffi3_type_spec.specs.declared.Isa.TheVariants.{Amd64, Aarch64, Riscv}
use Rattle.ffi3_type_spec.specs.declared.limits.TheConstants.{RETURN, STACK, STACK_TOP}
use Rattle.ffi3_type_spec.specs.TargetIsa.{isa_of}
use Rattle.ffi3_place_spec.specs.declared.Loc.{Loc}
use Rattle.ffi3_place_spec.specs.declared.Loc.TheVariants.{G, F}
use Rattle.ffi3_place_spec.specs.MachineRegisters.{link_place, link_register, to_list, pushed_bytes}
use Rattle.ffi3_place_spec.specs.StubRegisters.{call_loads, call_scratch, exit_scratch, result_loads}
use Rattle.ffi3_place_spec.specs.Sound.{IsNoneOf, IsOnStackOrIn}
use Rattle.ffi3_machine_spec.specs.declared.stub.TheConstants.{CALLEE_AT, CALL_SP_AT, RETURN_SP_AT}
use Rattle.ffi3_machine_spec.specs.State.{State, HasReturnAddress, HasReturnAt, IsMachine, IsSlot, called, linked_general, linked_stack, lowered, with_x, x_of}
use Rattle.ffi3_machine_spec.specs.Stubs.{Call, Return, exchanged_at}
use Rattle.ffi3_stubs.specs.Calls.{CameFromExchange, HasCalled, HasReturned, IsLinked, called_stack, steps_of, target_of}
use Rattle.ffi3_machine_transfer.specs.Passing.{by_exchange, passing_if}
use Rattle.ffi3_machine_transfer.specs.Stored.{IsPlace, SameAt}
use Rattle.ffi3_machine_transfer.proofs.Composing.{by_register, same_itself}
use Rattle.ffi3_machine_transfer.proofs.Exchanged.{word_written}
use Rattle.ffi3_machine_transfer.proofs.Held.{left_by, loaded_as_passed, stored_as_passed}
use Rattle.ffi3_machine_transfer.proofs.Passing.{place_low, steps_more, steps_same, told_below, told_length, told_there}
use Rattle.ffi3_caller.specs.Called.{HasComeBack, IsCarried, IsLeft, IsPassedBack, IsUntouched, SlotIsCalled, frame_start_if, told}

-- ---- a call by its stub

module _ (addr : ℕ) (m : State) (is : IsMachine m) (slot : IsSlot addr) where
  first_fits : CALLEE_AT + 8 ≤ length m.exchange
  first_fits = let sized = is.exchange in omega (arith, sized)

  second_fits : CALL_SP_AT + 8 ≤ length (with_x CALLEE_AT addr m).exchange
  second_fits = let sized = is.exchange in omega (arith, sized, told_length CALLEE_AT addr m first_fits)

  told_slot : x_of CALLEE_AT (told addr m) ≡ addr
  told_slot =
      told_below CALLEE_AT CALL_SP_AT m.sp (with_x CALLEE_AT addr m) (omega arith) second_fits ∙ told_there CALLEE_AT addr m first_fits (omega (arith, slot.1, slot.2))

  told_sp : x_of CALL_SP_AT (told addr m) ≡ m.sp
  told_sp = told_there CALL_SP_AT m.sp (with_x CALLEE_AT addr m) second_fits is.sp_word

  told_register : (l : Loc) → IsPlace 0 l → x_of (exchanged_at l) (told addr m) ≡ x_of (exchanged_at l) m
  told_register l lies =
      told_below (exchanged_at l) CALL_SP_AT m.sp (with_x CALLEE_AT addr m) (omega (arith, place_low l lies)) second_fits ∙ told_below (exchanged_at l) CALLEE_AT addr m (place_low l lies) first_fits

  pub call_at_slot : (t : State) → t ≡ told addr m → IsSlot (x_of CALLEE_AT t)
  call_at_slot t t_is =
      subst (λ (x : State). IsSlot (x_of CALLEE_AT x)) (sym t_is) (subst IsSlot (sym told_slot) slot)

  pub call_low : (t : State) → t ≡ told addr m → STACK + pushed_bytes (isa_of m.target) ≤ m.sp → STACK + pushed_bytes (isa_of t.target) ≤ x_of CALL_SP_AT t
  call_low t t_is low =
      subst (λ (x : State). STACK + pushed_bytes (isa_of x.target) ≤ x_of CALL_SP_AT x) (sym t_is) (subst (λ (v : ℕ). STACK + pushed_bytes (isa_of m.target) ≤ v) (sym told_sp) low)

  pub call_high : (t : State) → t ≡ told addr m → m.sp ≤ STACK_TOP → x_of CALL_SP_AT t ≤ STACK_TOP
  call_high t t_is high =
      subst (λ (x : State). x_of CALL_SP_AT x ≤ STACK_TOP) (sym t_is) (subst (λ (v : ℕ). v ≤ STACK_TOP) (sym told_sp) high)

-- pc is a slot's address, which is even
slot_even : (isa : Isa) (addr : ℕ) → IsSlot addr → target_of isa addr ≡ addr
slot_even Riscv addr slot = omega (arith, slot.2)
slot_even _ addr slot = refl

stack_linked : (isa : Isa) (sp : ℕ) (stack : List ℕ) → STACK + pushed_bytes isa ≤ sp → called_stack isa sp stack ≡ linked_stack (link_register isa) sp stack
stack_linked Amd64 sp stack low =
    let end : sp - 8 - STACK + 8 ≡ sp - STACK = omega (arith, low) in
    ap (λ e. replace_range stack (sp - 8 - STACK) e (to_le_bytes w64 RETURN)) end
stack_linked _ sp stack low = refl

return_linked : (isa : Isa) (m n : State) → STACK + pushed_bytes isa ≤ m.sp → m.sp - STACK ≤ length m.stack → IsLinked isa n → n.sp ≡ m.sp - pushed_bytes isa → n.stack ≡ called_stack isa m.sp m.stack → HasReturnAt (link_register isa) n.general n.sp n.stack
return_linked Amd64 m n low fits linked sp stack = (
  omega (arith, low, sp),
  ap (λ a. take 8 (drop (a - STACK) n.stack)) sp ∙ ap (λ xs. take 8 (drop (m.sp - 8 - STACK) xs)) stack ∙ word_written m.stack (m.sp - 8 - STACK) RETURN (omega (arith, low, fits)),
)
return_linked _ m n low fits linked sp stack = linked

stub_passed : (b : Bool) → b ≡ true → (addr : ℕ) (m n : State) → ((l : Loc) → IsPlace 0 l → x_of (exchanged_at l) (told addr m) ≡ x_of (exchanged_at l) m) → CameFromExchange (call_loads (isa_of m.target)) (told addr m) n → (l : Loc) → IsPlace 0 l → IsCarried b (isa_of m.target) l → SameAt 0 l (passing_if b m) n
stub_passed b e addr m n same came l lies some =
    let loads = call_loads (isa_of m.target) in
    let passed = λ (k : Loc) (lies : IsPlace 0 k). loaded_as_passed b e (call_loads (isa_of m.target)) m (told addr m) n same came k lies in
    by_register (λ l. IsOnStackOrIn loads l → SameAt 0 l (passing_if b m) n) (λ r below. passed (G r) below) (λ r below. passed (F r) below) l lies (subst (λ (k : Bool). IsCarried k (isa_of m.target) l) e some)

pub called_by_stub : (addr : ℕ) (m t n : State) → IsMachine m → IsSlot addr → t ≡ told addr m → STACK + pushed_bytes (isa_of m.target) ≤ m.sp → m.sp ≤ STACK_TOP → by_exchange m.target ≡ true → HasCalled (isa_of t.target) t n → n.steps ≡ (t.steps + steps_of (isa_of t.target) Call) % 2 ^ 64 → SlotIsCalled addr m n
called_by_stub addr m t n is slot t_is low high e says counted =
    let isa = isa_of m.target in
    let sized = is.stack in
    let s : HasCalled (isa_of m.target) (told addr m) n = subst (λ (x : State). HasCalled (isa_of x.target) x n) t_is says in
    let more : n.steps ≡ (m.steps + steps_of (isa_of m.target) Call) % 2 ^ 64 = subst (λ (x : State). n.steps ≡ (x.steps + steps_of (isa_of x.target) Call) % 2 ^ 64) t_is counted in
    let at_sp : x_of CALL_SP_AT (told addr m) ≡ m.sp = told_sp addr m is slot in
    let sp : n.sp ≡ m.sp - pushed_bytes (isa_of m.target) = s.sp ∙ ap (λ v. v - pushed_bytes (isa_of m.target)) at_sp in
    let stack : n.stack ≡ called_stack (isa_of m.target) m.sp m.stack = s.stack ∙ ap (λ v. called_stack (isa_of m.target) v m.stack) at_sp in
    let target : n.target ≡ m.target = ap (λ q. q.target) s.rest in
    record {
      passed = λ l lies some. stub_passed (by_exchange m.target) e addr m n (told_register addr m is slot) s.loaded l lies some;
      others = λ l lies left. left_by (call_scratch isa ++ call_loads isa) m n s.others l lies (subst (λ (b : Bool). IsLeft b (isa_of m.target) l) e left);
      sp = sp;
      pc = s.pc ∙ ap (target_of (isa_of m.target)) (told_slot addr m is slot) ∙ slot_even (isa_of m.target) addr slot;
      return_address = subst (λ k. HasReturnAt (link_register (isa_of k)) n.general n.sp n.stack) (sym target) (return_linked (isa_of m.target) m n low (omega (arith, high, sized)) s.link sp stack);
      stack = stack ∙ stack_linked (isa_of m.target) m.sp m.stack low;
      mark = s.mark ∙ ap (λ v. lowered m.mark (v - pushed_bytes (isa_of m.target)) (pushed_bytes (isa_of m.target))) at_sp;
      target = target;
      code = ap (λ q. q.code) s.rest;
      events = ap (λ q. q.events) s.rest;
      spare_events = ap (λ q. q.spare_events) s.rest;
      spare_bytes = ap (λ q. q.spare_bytes) s.rest;
      steps = steps_more (by_exchange m.target) (steps_of (isa_of m.target) Call) m.steps n.steps e more;
    }

-- ---- the machine's own call

linked_same : (isa : Isa) (general : List ℕ) (r : ℕ) → IsNoneOf (to_list (link_place isa)) (G r) → get_or (linked_general (link_register isa) general) r 0 ≡ get_or general r 0
linked_same Amd64 general r none = refl
linked_same Aarch64 general r none = get_or-set_other general 30 r RETURN 0 none.0
linked_same Riscv general r none = get_or-set_other general 1 r RETURN 0 none.0

left_alone : (addr : ℕ) (m n : State) → n ≡ called addr m → (l : Loc) → IsPlace 0 l → IsNoneOf (to_list (link_place (isa_of m.target))) l → SameAt 0 l m n
left_alone addr m n n_is l lies =
    by_register (λ l. IsNoneOf (to_list (link_place (isa_of m.target))) l → SameAt 0 l m n) (λ r below none. ap (λ q. get_or q.general r 0) n_is ∙ linked_same (isa_of m.target) m.general r none) (λ r below none. ap (λ q. get_or q.floating r 0) n_is) l lies

pub called_itself : (addr : ℕ) (m n : State) → by_exchange m.target ≡ false → n ≡ called addr m → HasReturnAddress n → SlotIsCalled addr m n
called_itself addr m n e n_is back = record {
  passed = λ l lies some. subst (λ (b : Bool). SameAt 0 l (passing_if b m) n) (sym e) (left_alone addr m n n_is l lies (subst (λ (b : Bool). IsCarried b (isa_of m.target) l) e some));
  others = λ l lies left. left_alone addr m n n_is l lies (subst (λ (b : Bool). IsLeft b (isa_of m.target) l) e left);
  sp = ap (λ q. q.sp) n_is;
  pc = ap (λ q. q.pc) n_is;
  return_address = back;
  stack = ap (λ q. q.stack) n_is;
  mark = ap (λ q. q.mark) n_is;
  target = ap (λ q. q.target) n_is;
  code = ap (λ q. q.code) n_is;
  events = ap (λ q. q.events) n_is;
  spare_events = ap (λ q. q.spare_events) n_is;
  spare_bytes = ap (λ q. q.spare_bytes) n_is;
  steps = steps_same (by_exchange m.target) (steps_of (isa_of m.target) Call) m.steps n.steps e (ap (λ q. q.steps) n_is);
}

-- ---- the way back

pub back_by_stub : (frame v : ℕ) (m t n : State) → IsMachine m → v ≡ m.sp + frame → t ≡ with_x RETURN_SP_AT v m → m.sp + frame ≤ STACK_TOP → by_exchange m.target ≡ true → HasReturned (isa_of t.target) t n → n.steps ≡ (t.steps + steps_of (isa_of t.target) Return) % 2 ^ 64 → HasComeBack frame m n
back_by_stub frame v m t n is v_is t_is top e says counted =
    let isa = isa_of m.target in
    let sized = is.exchange in
    let s : HasReturned (isa_of m.target) (with_x RETURN_SP_AT v m) n = subst (λ (x : State). HasReturned (isa_of x.target) x n) t_is says in
    let more : n.steps ≡ (m.steps + steps_of (isa_of m.target) Return) % 2 ^ 64 = subst (λ (x : State). n.steps ≡ (x.steps + steps_of (isa_of x.target) Return) % 2 ^ 64) t_is counted in
    let sp : n.sp ≡ m.sp + frame = s.sp ∙ told_there RETURN_SP_AT v m (omega (arith, sized)) (omega (arith, v_is, top)) ∙ v_is in
    let target : n.target ≡ m.target = ap (λ q. q.target) s.rest in
    let same : by_exchange m.target ≡ by_exchange n.target = ap by_exchange (sym target) in
    record {
      passed = λ l lies some. subst (λ (b : Bool). SameAt 0 l m (passing_if b n)) same (stored_as_passed (by_exchange m.target) e (result_loads isa) m (with_x RETURN_SP_AT v m) n is refl refl s.stored l lies (subst (λ (b : Bool). IsPassedBack b (isa_of m.target) l) e some));
      others = λ l lies free. left_by (exit_scratch isa) m n s.others l lies (subst (λ (b : Bool). IsUntouched b (isa_of m.target) l) e free);
      start = subst (λ (b : Bool). frame_start_if b frame n ≡ m.sp) (sym e ∙ same) (omega (arith, sp));
      stack = ap (λ q. q.stack) s.rest;
      mark = ap (λ q. q.mark) s.rest;
      target = target;
      code = ap (λ q. q.code) s.rest;
      events = ap (λ q. q.events) s.rest;
      spare_events = ap (λ q. q.spare_events) s.rest;
      spare_bytes = ap (λ q. q.spare_bytes) s.rest;
      steps = steps_more (by_exchange m.target) (steps_of (isa_of m.target) Return) m.steps n.steps e more;
    }

-- where nothing is done

pub back_itself : (frame : ℕ) (m : State) → by_exchange m.target ≡ false → HasComeBack frame m m
back_itself frame m e = record {
  passed = λ l lies some. subst (λ (b : Bool). SameAt 0 l m (passing_if b m)) (sym e) (same_itself 0 l m);
  others = λ l lies free. same_itself 0 l m;
  start = ap (λ (b : Bool). frame_start_if b frame m) e;
  stack = refl;
  mark = refl;
  target = refl;
  code = refl;
  events = refl;
  spare_events = refl;
  spare_bytes = refl;
  steps = steps_same (by_exchange m.target) (steps_of (isa_of m.target) Return) m.steps m.steps e refl;
}
