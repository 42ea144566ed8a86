-- The way back of a callee, through the stub Exit or by giving back what was saved.
use Rattle.std.specs.Prelude.{Option, Some, None, option_map}
use Rattle.std.proofs.Common.{◌≡◌, inl, ℕ, ◌+◌, ◌-◌, ◌%◌, ◌^◌, ◌≤◌, Bool, true, false, List, ◌++◌, take, drop, get_or, length, refl, ap, sym, ◌∙◌, subst, arith}
use Rattle.std.specs.List.{AllByRecursion}
use Rattle.ffi3_type_spec.specs.declared.Isa.{Isa}
use Rattle.ffi3_type_spec.specs.declared.Isa.TheVariants.{Amd64, Aarch64, Riscv}
use Rattle.ffi3_type_spec.specs.declared.limits.TheConstants.{RETURN, STACK, STACK_TOP}
use Rattle.ffi3_type_spec.specs.TargetIsa.{isa_of}
use Rattle.ffi3_type_spec.specs.Signature.{Signature, SignatureHasNoFault}
use Rattle.ffi3_type_spec.specs.Value.{ValueTree}
use Rattle.ffi3_type_spec.proofs.Placed.{faultless_is_plain}
use Rattle.ffi3_place_spec.specs.declared.Loc.{Loc}
use Rattle.ffi3_place_spec.specs.declared.Loc.TheVariants.{G}
use Rattle.ffi3_place_spec.specs.declared.SaveWord.TheVariants.{Register}
use Rattle.ffi3_place_spec.specs.MachineRegisters.{link_register, to_list, pushed_bytes}
use Rattle.ffi3_place_spec.specs.StubRegisters.{area_bytes, exit_scratch, callee_saved_words, result_loads}
use Rattle.ffi3_place_spec.specs.Image.{Image, register}
use Rattle.ffi3_place_spec.specs.Standard.{Standard, frame_of, plan_of}
use Rattle.ffi3_place_spec.specs.Agrees.{AgreesWithMachine, given_back, saved_registers}
use Rattle.ffi3_place_spec.specs.ByStubs.{AgreesWithStubs, ResultGoesByStubs}
use Rattle.ffi3_place_spec.specs.Holds.{HoldsResult, Kept, SameIn}
use Rattle.ffi3_place_spec.specs.Sound.{IsNoneOf, IsSound, result_locs}
use Rattle.ffi3_place_spec.proofs.Tests.{each_at}
use Rattle.ffi3_place_spec.proofs.OnMachine.{as_before}
use Rattle.ffi3_machine_spec.specs.declared.stub.TheConstants.{AREA_AT}
use Rattle.ffi3_machine_spec.specs.Memory.{number_of}
use Rattle.ffi3_machine_spec.specs.State.{State, HasReturnAt, IsMachine, image_of, returned, stack_at, with_x, x_of}
use Rattle.ffi3_machine.specs.MachineStep.{even}
use Rattle.ffi3_machine_spec.specs.Stubs.{Exit, exchanged_at}
use Rattle.ffi3_stubs.specs.Calls.{HasLeft, left_to, steps_of, CameFromWords}
use Rattle.ffi3_machine_transfer.specs.Passing.{by_exchange, passing, passing_if}
use Rattle.ffi3_machine_transfer.specs.Stored.{IsPlace, SameAt, WroteWithin, with_journal_of, word_in}
use Rattle.ffi3_machine_transfer.proofs.Composing.{beside, by_register, register_is, same_word_at, word_same}
use Rattle.ffi3_machine_transfer.proofs.Held.{left_by, loaded_as_passed}
use Rattle.ffi3_marshal.proofs.Lawful.{each_first, each_rest, machine_places}
use Rattle.ffi3_machine_transfer.proofs.Outcomes as outcome
use Rattle.ffi3_machine_transfer.proofs.Passing.{place_low, steps_more, steps_same, told_below, told_there}
use Rattle.ffi3_machine_transfer.proofs.Tables.{each_with, reserved_not_left}
use Rattle.ffi3_callee.specs.Loaded.{image_from}
use Rattle.ffi3_callee.specs.Given.{RegistersStay, ReservedStay}
use Rattle.ffi3_callee.specs.GoneBack.{HasGoneBack, IsAtReturn, IsGiven, IsLeftAlone, returned_by, returned_if}
use Rattle.ffi3_callee.specs.Saved.{AreGivenBack, AreSaved, HoldRegisters, IsSaveable}
use Rattle.ffi3_callee.proofs.ByStub.{area_back}
use Rattle.ffi3_callee.proofs.Keeping.{all_back, reserved_not_saved, reserved_there}
use Rattle.ffi3_callee.proofs.Laws.{each_among, result_apart, returned_apart, words_saveable}
use Rattle.ffi3_callee.proofs.Return.{register_stays, same_stack}

-- ---- what is given back

module _ (std : Standard) (agrees : AgreesWithMachine std) (entry : ℕ) (before after : State) (given : (value : Loc → ℕ) → AreGivenBack (entry - std.save) std.save_area value before after) (e : Image) (hold : HoldRegisters (entry - std.save) std.save_area (register e) before) where
  all_given : AllByRecursion (λ at. word_in STACK_TOP after at ≡ register e at) (given_back std)
  all_given = each_among (λ at. word_in STACK_TOP after at ≡ register e at) (saved_registers std.save_area) (given_back std) agrees.saves_each (all_back (register e) after std.save_area (given (register e) hold))

  pub preserved_given : AllByRecursion (λ at. word_in STACK_TOP after at ≡ register e at) std.callee_saved
  preserved_given = each_first (λ at. word_in STACK_TOP after at ≡ register e at) std.callee_saved (to_list std.link_register) all_given

  pub link_given : AllByRecursion (λ at. word_in STACK_TOP after at ≡ register e at) (to_list (option_map G (link_register (isa_of std.target))))
  link_given = subst (λ o. AllByRecursion (λ at. word_in STACK_TOP after at ≡ register e at) (to_list o)) agrees.link_register (each_rest (λ at. word_in STACK_TOP after at ≡ register e at) std.callee_saved (to_list std.link_register) all_given)

-- ---- through the stub Exit

-- the return address, from its register or from the stack
leads_back : (isa : Isa) (area entry : ℕ) (t after : State) (e : Image) → x_of AREA_AT t ≡ area → area + area_bytes isa ≡ entry → AllByRecursion (λ at. word_in STACK_TOP after at ≡ register e at) (to_list (option_map G (link_register isa))) → HasReturnAt (link_register isa) e.general entry t.stack → left_to isa t after ≡ RETURN
leads_back Amd64 area entry t after e area_is whole given back =
    let there : x_of AREA_AT t + 56 ≡ entry = omega (arith, area_is, whole) in
    ap (λ a. number_of 8 (stack_at a 8 t)) there ∙ ap (number_of 8) back.1
leads_back Aarch64 area entry t after e area_is whole given back = given.0 ∙ back
leads_back Riscv area entry t after e area_is whole given back = ap even (given.0 ∙ back)

pub gone_by_stub : (std : Standard) → AgreesWithMachine std → AgreesWithStubs std → (area entry : ℕ) (m n : State) → IsMachine m → std.target ≡ m.target → area ≡ entry - std.save → STACK + std.save ≤ entry → entry ≤ STACK_TOP → by_exchange m.target ≡ true → HasLeft (isa_of m.target) (with_x AREA_AT area m) n → n.steps ≡ (m.steps + steps_of (isa_of m.target) Exit) % 2 ^ 64 → HasGoneBack std entry m n
gone_by_stub std agrees laws area entry m n is same area_is low high e says counted =
    let isa = isa_of std.target in
    let sized = is.exchange in
    let bytes : std.save ≡ area_bytes (isa_of std.target) = laws.area_size in
    let pushed : std.link ≡ pushed_bytes (isa_of std.target) = agrees.link in
    let t : State = with_x AREA_AT area m in
    let s : HasLeft (isa_of std.target) (with_x AREA_AT area m) n = subst (λ k. HasLeft (isa_of k) (with_x AREA_AT area m) n) (sym same) says in
    let target : n.target ≡ m.target = ap (λ q. q.target) s.rest in
    let stack : n.stack ≡ m.stack = ap (λ q. q.stack) s.rest in
    let mark : n.mark ≡ m.mark = ap (λ q. q.mark) s.rest in
    let fits : AREA_AT + 8 ≤ length m.exchange = omega (arith, sized) in
    let there : x_of AREA_AT (with_x AREA_AT area m) ≡ area = told_there AREA_AT area m fits (omega (arith, area_is, high)) in
    let own : by_exchange n.target ≡ true = ap by_exchange target ∙ e in
    let whole : area + area_bytes (isa_of std.target) ≡ entry = omega (arith, bytes, area_is, low) in
    let came : CameFromWords area (callee_saved_words (isa_of std.target)) m.stack n = subst (λ a. CameFromWords a (callee_saved_words (isa_of std.target)) m.stack n) there s.restored in
    let given : (value : Loc → ℕ) → AreGivenBack (entry - std.save) std.save_area value m n = λ value. subst (λ a. AreGivenBack a std.save_area value m n) area_is (area_back std laws area value m n (omega (arith, area_is, low)) came) in
    let sp : n.sp ≡ entry + std.link = s.sp ∙ ap (λ a. a + area_bytes (isa_of std.target) + pushed_bytes (isa_of std.target)) there ∙ ap (λ a. a + pushed_bytes (isa_of std.target)) whole ∙ ap (λ k. entry + k) (sym pushed) in
    record {
      given_back = given;
      results = λ l lies some. loaded_as_passed (by_exchange m.target) e (result_loads (isa_of std.target)) m (with_x AREA_AT area m) n (λ k there. told_below (exchanged_at k) AREA_AT area m (omega (arith, place_low k there)) fits) s.loaded l lies (subst (λ (b : Bool). IsGiven b std l) e some);
      others = λ l lies alone. left_by (exit_scratch (isa_of std.target) ++ (callee_saved_words (isa_of std.target) ++ result_loads (isa_of std.target))) m n s.others l lies (subst (λ (b : Bool). IsLeftAlone b std l) e alone);
      sp = ap (λ (b : Bool). (returned_if b n).sp) own ∙ sp;
      at_return = λ i hold back. subst (λ (b : Bool). IsAtReturn b n) (sym own) (s.pc ∙ leads_back (isa_of std.target) area entry (with_x AREA_AT area m) n i there whole (link_given std agrees entry m n given i hold) back);
      within = beside STACK_TOP STACK_TOP m n (ap length stack) (λ i far. ap (λ xs. get_or xs i 0) stack) (inl (omega (arith, mark))) target (ap (λ q. q.code) s.rest);
      pc = λ other. absurd cc;
      events = ap (λ q. q.events) s.rest;
      spare_events = ap (λ q. q.spare_events) s.rest;
      spare_bytes = ap (λ q. q.spare_bytes) s.rest;
      steps = steps_more (by_exchange m.target) (steps_of (isa_of m.target) Exit) m.steps n.steps e counted;
    }

-- ---- without stubs

-- the return address stands where a register holds it
return_given : (link : Option ℕ) (e : Image) (m : State) (sp : ℕ) (stack : List ℕ) → AllByRecursion (λ at. word_in STACK_TOP m at ≡ register e at) (to_list (option_map G link)) → HasReturnAt link e.general sp stack → HasReturnAt link m.general sp stack
return_given None e m sp stack given h = h
return_given (Some k) e m sp stack given h = given.0 ∙ h

pub gone_itself : (std : Standard) → AgreesWithMachine std → (entry : ℕ) (m n : State) → std.target ≡ m.target → by_exchange m.target ≡ false → ((value : Loc → ℕ) → AreGivenBack (entry - std.save) std.save_area value m n) → RegistersStay (saved_registers std.save_area) m n → WroteWithin STACK_TOP STACK_TOP m n → n.sp ≡ entry → HasGoneBack std entry m n
gone_itself std agrees entry m n same e given stay w sp =
    let target : n.target ≡ m.target = w.target in
    let own : by_exchange n.target ≡ false = ap by_exchange target ∙ e in
    let link : pushed_bytes (isa_of n.target) ≡ std.link = ap (λ k. pushed_bytes (isa_of k)) (target ∙ sym same) ∙ sym agrees.link in
    record {
      given_back = given;
      results = λ l lies some. subst (λ (b : Bool). SameAt 0 l (passing_if b m) n) (sym e) (same_word_at STACK_TOP l m n lies (stay l lies (subst (λ (b : Bool). IsGiven b std l) e some)));
      others = λ l lies alone. same_word_at STACK_TOP l m n lies (stay l lies (subst (λ (b : Bool). IsLeftAlone b std l) e alone));
      sp = ap (λ (b : Bool). (returned_if b n).sp) own ∙ ap (λ a. a + pushed_bytes (isa_of n.target)) sp ∙ ap (λ k. entry + k) link;
      at_return = λ i hold back. subst (λ (b : Bool). IsAtReturn b n) (sym own) (subst (λ k. HasReturnAt (link_register (isa_of k)) n.general n.sp n.stack) (same ∙ sym target) (return_given (link_register (isa_of std.target)) i n n.sp n.stack (link_given std agrees entry m n given i hold) (subst (λ xs. HasReturnAt (link_register (isa_of std.target)) i.general n.sp xs) (sym (same_stack m n w)) (subst (λ a. HasReturnAt (link_register (isa_of std.target)) i.general a m.stack) (sym sp) back))));
      within = beside STACK_TOP STACK_TOP m n w.size w.outside w.mark target w.code;
      pc = λ other. w.pc;
      events = w.events;
      spare_events = w.spare_events;
      spare_bytes = w.spare_bytes;
      steps = steps_same (by_exchange m.target) (steps_of (isa_of m.target) Exit) m.steps n.steps e w.steps;
    }

-- ---- what follows, either way

alone_reserved : (std : Standard) → AgreesWithMachine std → (b : Bool) → AllByRecursion (IsLeftAlone b std) std.reserved
alone_reserved std agrees true =
    subst (AllByRecursion (IsNoneOf (exit_scratch (isa_of std.target) ++ (callee_saved_words (isa_of std.target) ++ result_loads (isa_of std.target))))) (sym agrees.reserved) (reserved_not_left (isa_of std.target))
alone_reserved std agrees false = reserved_not_saved std agrees

pub register_returned : (b : Bool) (room : ℕ) (m : State) (l : Loc) → IsPlace 0 l → register (image_of room (returned_if b m)) l ≡ word_in STACK_TOP m l
register_returned true room m l lies = register_is room STACK_TOP m l lies
register_returned false room m l lies =
    by_register (λ l. register (image_of room (returned m)) l ≡ word_in STACK_TOP m l) (λ r below. refl) (λ r below. refl) l lies

module _ (std : Standard) (agrees : AgreesWithMachine std) (entry : ℕ) (m n : State) (back : HasGoneBack std entry m n) where
  pub gone_reserved : ReservedStay std m n
  gone_reserved =
      each_with (IsPlace 0) (IsLeftAlone (by_exchange m.target) std) (λ at. word_in STACK_TOP n at ≡ word_in STACK_TOP m at) (λ l lies alone. word_same STACK_TOP STACK_TOP l m n lies (back.others l lies alone)) std.reserved (reserved_there std agrees) (alone_reserved std agrees (by_exchange m.target))

  -- THE RETURN KEEPS what the callee is to keep
  pub gone_kept : (e : Image) (room : ℕ) → e.sp ≡ entry → HoldRegisters (entry - std.save) std.save_area (register e) m → SameIn std.reserved e (image_of 0 m) → Kept std e (image_of room (returned_by n))
  gone_kept e room sp hold same = record {
    preserved = each_with (IsPlace 0) (λ at. word_in STACK_TOP n at ≡ register e at) (λ at. register e at ≡ register (image_of room (returned_by n)) at) (λ l lies h. sym (register_returned (by_exchange n.target) room n l lies ∙ h)) std.callee_saved (machine_places (isa_of std.target) 0 std.callee_saved agrees.callee_saved_exist) (preserved_given std agrees entry m n back.given_back e hold);
    reserved = each_with (λ at. IsPlace 0 at × (word_in STACK_TOP n at ≡ word_in STACK_TOP m at)) (λ at. register e at ≡ register (image_of 0 m) at) (λ at. register e at ≡ register (image_of room (returned_by n)) at) (λ l both h. h ∙ register_is 0 STACK_TOP m l both.0 ∙ sym both.1 ∙ sym (register_returned (by_exchange n.target) room n l both.0)) std.reserved (each_with (IsPlace 0) (λ at. word_in STACK_TOP n at ≡ word_in STACK_TOP m at) (λ at. IsPlace 0 at × (word_in STACK_TOP n at ≡ word_in STACK_TOP m at)) (λ l p q. (p, q)) std.reserved (reserved_there std agrees) gone_reserved) same;
    sp = back.sp ∙ ap (λ a. a + std.link) (sym sp);
  }

  gone_stack : n.stack ≡ m.stack
  gone_stack = same_stack m (with_journal_of m n) back.within

  given_results : (s : Signature) (b : Bool) → IsSound std s → (b ≡ true → ResultGoesByStubs std s) → AllByRecursion (IsGiven b std) (result_locs (plan_of std s).res)
  given_results s true sound law = let laws = law refl in laws.loaded
  given_results s false sound law = result_apart std s agrees sound

  given_address : (b : Bool) → (b ≡ true → AgreesWithStubs std) → AllByRecursion (IsGiven b std) (to_list std.returned_address)
  given_address true law = let laws = law refl in laws.returned_loaded
  given_address false law = returned_apart std agrees

  pub gone_keeps : (s : Signature) → IsSound std s → SignatureHasNoFault s → (by_exchange m.target ≡ true → AgreesWithStubs std) → (by_exchange m.target ≡ true → ResultGoesByStubs std s) → (base : ℕ) (v : ValueTree) → HoldsResult std s v (image_from base (frame_of std s) (passing m)) → HoldsResult std s v (image_from base (frame_of std s) n)
  gone_keeps s sound right law result_law base v held =
      outcome.result_kept (image_from base (frame_of std s) (passing m)) (image_from base (frame_of std s) n) (IsGiven (by_exchange m.target) std) refl (ap (λ xs. take (frame_of std s) (drop (base - STACK) xs)) gone_stack) (λ l lies given. register_stays base (frame_of std s) (passing m) n l lies (word_same STACK_TOP STACK_TOP l (passing m) n lies (back.results l lies given))) std s v (as_before std s sound (faultless_is_plain s right)) (given_results s (by_exchange m.target) sound result_law) (machine_places (isa_of std.target) 0 (to_list std.returned_address) agrees.returned_exists) (given_address (by_exchange m.target) law) held

-- ---- from the machine at the entry to its image

-- words that are saved of a machine are those of its image
pub held_registers : (std : Standard) → AgreesWithMachine std → (from base len : ℕ) (hidden : Option Loc) (entry m : State) → AreSaved from base hidden std.save_area entry m → HoldRegisters from std.save_area (register (image_of len entry)) m
held_registers std agrees from base len hidden entry m saved = λ i at below is.
    let lies : IsSaveable 0 (Register at) = each_at (IsSaveable 0) std.save_area i (Register at) below (sym is) (words_saveable std agrees) in
    saved i (Register at) below is ∙ sym (register_is len base entry at lies)

pub same_reserved : (std : Standard) → AgreesWithMachine std → (len : ℕ) (entry m : State) → ReservedStay std entry m → SameIn std.reserved (image_of len entry) (image_of 0 m)
same_reserved std agrees len entry m stay =
    each_with (IsPlace 0) (λ at. word_in STACK_TOP m at ≡ word_in STACK_TOP entry at) (λ at. register (image_of len entry) at ≡ register (image_of 0 m) at) (λ l lies h. register_is len STACK_TOP entry l lies ∙ sym h ∙ sym (register_is 0 STACK_TOP m l lies)) std.reserved (reserved_there std agrees) stay
