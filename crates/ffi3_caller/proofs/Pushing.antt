-- Once a slot is called, what was passed still stands at its places: Call loads what carries something, and a return address is pushed below the frame, or set in a register that carries nothing.
use Rattle.std.proofs.Common.{◌≡◌, ℕ, ◌+◌, ◌-◌, ◌≤◌, Bool, true, false, List, ◌++◌, take, drop, length, refl, ap, sym, ◌∙◌, subst, arith}
use Rattle.std.specs.List.{AllByRecursion, flat_map}
use Rattle.std.specs.Int.{w64, to_le_bytes}
use Rattle.std.proofs.lemmas.List.{drop-drop, drop-take, length-append, length-take-le}
use Rattle.std.proofs.lemmas.Slice.{drop-append-drop}
use Rattle.ffi3_type_spec.specs.declared.Target.{Target}
use Rattle.ffi3_type_spec.specs.declared.Isa.{Isa}
use Rattle.ffi3_type_spec.specs.declared.Isa.TheVariants.{Amd64}
use Rattle.ffi3_type_spec.specs.declared.limits.TheConstants.{STACK, RETURN}
use Rattle.ffi3_type_spec.specs.TargetIsa.{isa_of}
use Rattle.ffi3_type_spec.specs.Signature.{Signature, SignatureHasNoFault}
use Rattle.ffi3_type_spec.specs.Value.{ValueTree}
use Rattle.ffi3_type_spec.proofs.Parts.{length_part}
use Rattle.ffi3_type_spec.proofs.Placed.{faultless_is_plain}
use Rattle.ffi3_place_spec.specs.declared.Loc.{Loc}
use Rattle.ffi3_place_spec.specs.declared.Loc.TheVariants.{G, F, S}
use Rattle.ffi3_place_spec.specs.MachineRegisters.{link_place, link_register, to_list, pushed_bytes, reserved_places}
use Rattle.ffi3_place_spec.specs.StubRegisters.{call_loads, call_scratch, exit_scratch}
use Rattle.ffi3_place_spec.specs.Standard.{Standard, frame_of, plan_of}
use Rattle.ffi3_place_spec.specs.Agrees.{AgreesWithMachine, given_back, special}
use Rattle.ffi3_place_spec.specs.ByStubs.{AgreesWithStubs, ResultGoesByStubs}
use Rattle.ffi3_place_spec.specs.Holds.{OwnResult, OwnsArguments, OwnsHidden, FillArguments, RegisterHolds, Holds}
use Rattle.ffi3_place_spec.specs.Image.{register}
use Rattle.ffi3_place_spec.specs.Sound.{Apart, IsNoneOf, IsOneOf, IsOnStackOrIn, IsSound, argument_locs, buffer_locs, closed_to_arguments, closed_to_results, copy_locs, hidden_locs, place_locs, result_locs}
use Rattle.ffi3_place_spec.proofs.OnMachine.{IsSoundOnMachine}
use Rattle.ffi3_machine_spec.specs.State.{State, image_of, linked_stack, stack_at}
use Rattle.ffi3_machine_transfer.specs.Passing.{by_exchange, passing}
use Rattle.ffi3_machine_transfer.specs.Stored.{IsPlace, SameAt}
use Rattle.ffi3_machine_transfer.proofs.Alike.{AreAlike, arguments_owned, arguments_filled, address_owned, count_held}
use Rattle.ffi3_marshal.proofs.Lawful.{call_places, each_first, each_rest, each_map, machine_places}
use Rattle.ffi3_machine_transfer.proofs.Outcomes.{own_result_kept}
use Rattle.ffi3_machine_transfer.proofs.Composing.{by_register}
use Rattle.ffi3_caller.proofs.Calling.{register_lies}
use Rattle.ffi3_marshal.proofs.Ranges.{range_length}
use Rattle.ffi3_machine_transfer.proofs.Tables.{all_true, each_with, one_of_each, preserved_not_called, preserved_not_returned, reserved_are_places, reserved_not_called, reserved_not_link, reserved_not_returned}
use Rattle.ffi3_caller.specs.Called.{HasComeBack, IsCarried, IsLeft, IsPassedBack, IsUntouched, SlotIsCalled, at_frame}

-- ---- the stack

above_same : (isa : Isa) (sp : ℕ) (stack : List ℕ) → STACK + pushed_bytes isa ≤ sp → sp - STACK ≤ length stack → drop (sp - STACK) (linked_stack (link_register isa) sp stack) ≡ drop (sp - STACK) stack
above_same Amd64 sp stack low fits =
    let before : length (take (sp - 8 - STACK) stack) ≡ sp - 8 - STACK = length-take-le (sp - 8 - STACK) stack (omega (arith, fits)) in
    let eight : length (to_le_bytes w64 RETURN) ≡ 8 = refl in
    let both : length (take (sp - 8 - STACK) stack ++ to_le_bytes w64 RETURN) ≡ sp - STACK = omega (arith, length-append (take (sp - 8 - STACK) stack) (to_le_bytes w64 RETURN), before, eight, low) in
    drop-append-drop (sp - STACK) stack (take (sp - 8 - STACK) stack ++ to_le_bytes w64 RETURN) (sp - STACK) (omega arith) both
above_same _ sp stack low fits = refl

pub linked_length : (isa : Isa) (sp : ℕ) (stack : List ℕ) → STACK + pushed_bytes isa ≤ sp → sp - STACK ≤ length stack → length (linked_stack (link_register isa) sp stack) ≡ length stack
linked_length Amd64 sp stack low fits =
    let eight : length (to_le_bytes w64 RETURN) ≡ 8 = refl in
    range_length stack (to_le_bytes w64 RETURN) (sp - 8 - STACK) (sp - STACK) (omega (arith, eight, low)) fits
linked_length _ sp stack low fits = refl

-- ---- by a standard

on_stack_or_in : (ls ms : List Loc) → AllByRecursion (IsOneOf ms) ls → (l : Loc) → IsOnStackOrIn ls l → IsOnStackOrIn ms l
on_stack_or_in ls ms all (G r) some = one_of_each (IsOneOf ms) (G r) ls all some
on_stack_or_in ls ms all (F r) some = one_of_each (IsOneOf ms) (F r) ls all some
on_stack_or_in ls ms all (S n w) some = tt

one_is_in : (ms : List Loc) (l : Loc) → IsOneOf ms l → IsOnStackOrIn ms l
one_is_in ms (S n w) some = tt
one_is_in ms _ some = some

module _ (std : Standard) (agrees : AgreesWithMachine std) where
  pub pushed_is : (m : State) (kind : Target) → std.target ≡ kind → m.target ≡ kind → std.link ≡ pushed_bytes (isa_of m.target)
  pushed_is m kind is same = agrees.link ∙ ap (λ k. pushed_bytes (isa_of k)) (is ∙ sym same)

  reserved_from : (P : Loc → Type 0) → AllByRecursion P (reserved_places (isa_of std.target)) → AllByRecursion P std.reserved
  reserved_from P all = subst (AllByRecursion P) (sym agrees.reserved) all

  pub reserved_lie : AllByRecursion (IsPlace 0) std.reserved
  reserved_lie = reserved_from (IsPlace 0) (reserved_are_places (isa_of std.target))

  pub preserved_lie : AllByRecursion (IsPlace 0) std.callee_saved
  preserved_lie = machine_places (isa_of std.target) 0 std.callee_saved agrees.callee_saved_exist

  left_preserved : (b : Bool) → (b ≡ true → AgreesWithStubs std) → AllByRecursion (IsLeft b (isa_of std.target)) std.callee_saved
  left_preserved true law = preserved_not_called std agrees (law refl)
  left_preserved false law =
      subst (λ o. AllByRecursion (IsNoneOf (to_list o)) std.callee_saved) agrees.link_register
      (each_map (IsNoneOf (special std)) (IsNoneOf (to_list std.link_register)) (λ l none. each_first (Apart l) (to_list std.link_register) (std.trampoline_registers ++ (to_list std.vector_count ++ to_list std.returned_address)) (each_rest (Apart l) std.reserved (to_list std.link_register ++ (std.trampoline_registers ++ (to_list std.vector_count ++ to_list std.returned_address))) none.1)) std.callee_saved agrees.callee_saved_plain)

  left_reserved : (b : Bool) → AllByRecursion (IsLeft b (isa_of std.target)) std.reserved
  left_reserved true =
      reserved_from (IsNoneOf (call_scratch (isa_of std.target) ++ call_loads (isa_of std.target))) (reserved_not_called (isa_of std.target))
  left_reserved false = reserved_from (IsNoneOf (to_list (link_place (isa_of std.target)))) (reserved_not_link (isa_of std.target))

  -- a call leaves the callee-saved and the reserved registers
  pub call_preserves : (addr : ℕ) (m n : State) → std.target ≡ m.target → (by_exchange m.target ≡ true → AgreesWithStubs std) → SlotIsCalled addr m n → AllByRecursion (λ l. SameAt 0 l m n) std.callee_saved
  call_preserves addr m n same law called =
      each_with (IsPlace 0) (IsLeft (by_exchange m.target) (isa_of m.target)) (λ l. SameAt 0 l m n) (λ l lies left. called.others l lies left) std.callee_saved preserved_lie
      (subst (λ k. AllByRecursion (IsLeft (by_exchange m.target) (isa_of k)) std.callee_saved) same (left_preserved (by_exchange m.target) law))

  pub call_reserves : (addr : ℕ) (m n : State) → std.target ≡ m.target → SlotIsCalled addr m n → AllByRecursion (λ l. SameAt 0 l m n) std.reserved
  call_reserves addr m n same called =
      each_with (IsPlace 0) (IsLeft (by_exchange m.target) (isa_of m.target)) (λ l. SameAt 0 l m n) (λ l lies left. called.others l lies left) std.reserved reserved_lie
      (subst (λ k. AllByRecursion (IsLeft (by_exchange m.target) (isa_of k)) std.reserved) same (left_reserved (by_exchange m.target)))

  -- and so does the way back
  free_preserved : (b : Bool) → (b ≡ true → AgreesWithStubs std) → AllByRecursion (IsUntouched b (isa_of std.target)) std.callee_saved
  free_preserved true law = preserved_not_returned std agrees (law refl)
  free_preserved false law = all_true std.callee_saved

  free_reserved : (b : Bool) → AllByRecursion (IsUntouched b (isa_of std.target)) std.reserved
  free_reserved true = reserved_from (IsNoneOf (exit_scratch (isa_of std.target))) (reserved_not_returned (isa_of std.target))
  free_reserved false = all_true std.reserved

  pub back_preserves : (frame : ℕ) (m n : State) → std.target ≡ m.target → (by_exchange m.target ≡ true → AgreesWithStubs std) → HasComeBack frame m n → AllByRecursion (λ l. SameAt 0 l m n) std.callee_saved
  back_preserves frame m n same law back =
      each_with (IsPlace 0) (IsUntouched (by_exchange m.target) (isa_of m.target)) (λ l. SameAt 0 l m n) (λ l lies free. back.others l lies free) std.callee_saved preserved_lie
      (subst (λ k. AllByRecursion (IsUntouched (by_exchange m.target) (isa_of k)) std.callee_saved) same (free_preserved (by_exchange m.target) law))

  pub back_reserves : (frame : ℕ) (m n : State) → std.target ≡ m.target → HasComeBack frame m n → AllByRecursion (λ l. SameAt 0 l m n) std.reserved
  back_reserves frame m n same back =
      each_with (IsPlace 0) (IsUntouched (by_exchange m.target) (isa_of m.target)) (λ l. SameAt 0 l m n) (λ l lies free. back.others l lies free) std.reserved reserved_lie
      (subst (λ k. AllByRecursion (IsUntouched (by_exchange m.target) (isa_of k)) std.reserved) same (free_reserved (by_exchange m.target)))

-- ---- arguments

module _ (std : Standard) (s : Signature) (sound : IsSound std s) (right : SignatureHasNoFault s) (agrees : AgreesWithMachine std) where
  arguments_clear : AllByRecursion (IsNoneOf (to_list std.link_register)) (argument_locs (plan_of std s))
  arguments_clear =
      each_map (IsNoneOf (closed_to_arguments std)) (IsNoneOf (to_list std.link_register)) one (argument_locs (plan_of std s)) sound.allowed
    where
      one : (l : Loc) → IsNoneOf (closed_to_arguments std) l → IsNoneOf (to_list std.link_register) l
      one l h =
          let closed = each_first (Apart l) (closed_to_results std) (std.trampoline_registers ++ to_list std.vector_count) h in
          each_rest (Apart l) std.reserved (to_list std.link_register) (each_rest (Apart l) std.callee_saved (std.reserved ++ to_list std.link_register) closed.1)

  count_clear : AllByRecursion (IsNoneOf (to_list std.link_register)) (to_list std.vector_count)
  count_clear =
      each_map (IsNoneOf (given_back std ++ (std.reserved ++ std.trampoline_registers))) (IsNoneOf (to_list std.link_register)) (λ l h. each_rest (Apart l) std.callee_saved (to_list std.link_register) (each_first (Apart l) (given_back std) (std.reserved ++ std.trampoline_registers) h)) (to_list std.vector_count) agrees.count_plain

  carried_arguments : (b : Bool) → (b ≡ true → AgreesWithStubs std) → AllByRecursion (IsCarried b (isa_of std.target)) (argument_locs (plan_of std s))
  carried_arguments true law =
      let laws = law refl in
      each_map (IsOnStackOrIn std.argument_registers) (IsOnStackOrIn (call_loads (isa_of std.target))) (on_stack_or_in std.argument_registers (call_loads (isa_of std.target)) laws.arguments_loaded) (argument_locs (plan_of std s)) (sound.on_machine (faultless_is_plain s right)).passed
  carried_arguments false law =
      subst (λ o. AllByRecursion (IsNoneOf (to_list o)) (argument_locs (plan_of std s))) agrees.link_register arguments_clear

  carried_count : (b : Bool) → (b ≡ true → AgreesWithStubs std) → AllByRecursion (IsCarried b (isa_of std.target)) (to_list std.vector_count)
  carried_count true law =
      let laws = law refl in
      each_map (IsOneOf (call_loads (isa_of std.target))) (IsOnStackOrIn (call_loads (isa_of std.target))) (one_is_in (call_loads (isa_of std.target))) (to_list std.vector_count) laws.count_loaded
  carried_count false law = subst (λ o. AllByRecursion (IsNoneOf (to_list o)) (to_list std.vector_count)) agrees.link_register count_clear

  module _ (addr : ℕ) (m n : State) (same : std.target ≡ m.target) (law : by_exchange m.target ≡ true → AgreesWithStubs std) (low : STACK + std.link ≤ m.sp) (fits : m.sp - STACK + frame_of std s ≤ length m.stack) (called : SlotIsCalled addr m n) where
    abbrev isa : Isa
    isa = isa_of m.target

    abbrev IsStill : Loc → Type 0
    IsStill l = IsPlace (frame_of std s) l × IsCarried (by_exchange m.target) (isa_of m.target) l

    bytes : std.link ≡ pushed_bytes (isa_of m.target)
    bytes = pushed_is std agrees m m.target same refl

    below : STACK + pushed_bytes (isa_of m.target) ≤ m.sp
    below = let b = bytes in omega (arith, b, low)

    inside : m.sp - STACK ≤ length m.stack
    inside = omega (arith, fits)

    sized : length n.stack ≡ length m.stack
    sized = ap length called.stack ∙ linked_length (isa_of m.target) m.sp m.stack below inside

    alike_pushed : AreAlike 0 (pushed_bytes (isa_of m.target)) IsStill (image_of (frame_of std s) (passing m)) (image_of (pushed_bytes (isa_of m.target) + frame_of std s) n)
    alike_pushed =
        let b = pushed_bytes (isa_of m.target) in
        let frame = frame_of std s in
        let pushed = linked_stack (link_register (isa_of m.target)) m.sp m.stack in
        let under = below in
        let sp = called.sp in
        let there : m.sp - pushed_bytes (isa_of m.target) - STACK + pushed_bytes (isa_of m.target) ≡ m.sp - STACK = omega (arith, under) in
        record {
          sp = omega (arith, under, sp);
          stack = ap (λ a. drop b (take (b + frame) (drop (a - STACK) n.stack))) called.sp ∙ ap (λ xs. drop b (take (b + frame) (drop (m.sp - b - STACK) xs))) called.stack ∙ drop-take b frame (drop (m.sp - b - STACK) pushed) ∙ ap (take frame) (drop-drop b (m.sp - b - STACK) pushed ∙ ap (λ k. drop k pushed) there ∙ above_same (isa_of m.target) m.sp m.stack below inside);
          general = λ r still. called.passed (G r) still.0 still.1;
          floating = λ r still. called.passed (F r) still.0 still.1;
        }

    alike : AreAlike 0 std.link IsStill (image_of (frame_of std s) (passing m)) (image_of (std.link + frame_of std s) n)
    alike =
        subst (λ k. AreAlike 0 k IsStill (image_of (frame_of std s) (passing m)) (image_of (k + frame_of std s) n)) (sym bytes) alike_pushed

    arguments_still : AllByRecursion IsStill (argument_locs (plan_of std s))
    arguments_still =
        let p = plan_of std s in
        each_with (IsPlace (frame_of std s)) (IsCarried (by_exchange m.target) (isa_of m.target)) IsStill (λ l lies carried. (lies, carried)) (argument_locs (plan_of std s)) (each_first (IsPlace (frame_of std s)) (argument_locs p) (copy_locs s.arguments p.places ++ buffer_locs s.result_type p.res) (call_places std s sound right))
        (subst (λ k. AllByRecursion (IsCarried (by_exchange m.target) (isa_of k)) (argument_locs (plan_of std s))) same (carried_arguments (by_exchange m.target) law))

    count_still : AllByRecursion IsStill (to_list std.vector_count)
    count_still =
        each_with (IsPlace (frame_of std s)) (IsCarried (by_exchange m.target) (isa_of m.target)) IsStill (λ l lies carried. (lies, carried)) (to_list std.vector_count) (each_map (IsPlace 0) (IsPlace (frame_of std s)) (register_lies (frame_of std s)) (to_list std.vector_count) (machine_places (isa_of std.target) 0 (to_list std.vector_count) agrees.count_exists))
        (subst (λ k. AllByRecursion (IsCarried (by_exchange m.target) (isa_of k)) (to_list std.vector_count)) same (carried_count (by_exchange m.target) law))

    -- where the frame holds the arguments before a call, registers and the stack behind the return address hold them after it
    pub holds_after_call : (vs : List ValueTree) → OwnsArguments (image_of (frame_of std s) (passing m)) 0 s.arguments (plan_of std s).places vs → FillArguments (image_of (frame_of std s) (passing m)) 0 s.arguments (plan_of std s).places vs → OwnsHidden (image_of (frame_of std s) (passing m)) 0 (plan_of std s).res → RegisterHolds (image_of (frame_of std s) (passing m)) std.vector_count (plan_of std s).vectors → Holds std s vs (image_of (std.link + frame_of std s) n)
    holds_after_call vs own fill address count =
        let frame = frame_of std s in
        let old = image_of (frame_of std s) (passing m) in
        let new = image_of (std.link + frame_of std s) n in
        let hidden = hidden_locs (plan_of std s).res in
        let flat = flat_map place_locs (plan_of std s).places in
        let in_places = each_rest IsStill hidden flat arguments_still in
        let b = bytes in
        let under = below in
        let sp = called.sp in
        let long = sized in
        let reaches : length (stack_at n.sp (std.link + frame) n) ≡ std.link + frame = length_part n.stack (n.sp - STACK) (std.link + frame) (omega (arith, b, under, sp, fits, long)) in
        record {
          own = record {
            reaches = omega (arith, reaches);
            arguments = arguments_owned 0 std.link IsStill old new alike s.arguments (plan_of std s).places vs in_places own;
            hidden = address_owned 0 std.link IsStill old new alike (plan_of std s).res (each_first IsStill hidden flat arguments_still) address;
          };
          filled = arguments_filled 0 std.link IsStill old new alike s.arguments (plan_of std s).places vs in_places fill;
          vectors = count_held 0 std.link IsStill old new alike std.vector_count (plan_of std s).vectors (machine_places (isa_of std.target) 0 (to_list std.vector_count) agrees.count_exists) count_still count;
        }

-- ---- a result

register_same : (n k : ℕ) (a b : State) (l : Loc) → IsPlace 0 l → SameAt 0 l a b → register (image_of n b) l ≡ register (image_of k a) l
register_same n k a b l lies =
    by_register (λ l. SameAt 0 l a b → register (image_of n b) l ≡ register (image_of k a) l) (λ r below h. h) (λ r below h. h) l lies

passed_back : (std : Standard) (s : Signature) (b : Bool) → (b ≡ true → ResultGoesByStubs std s) → AllByRecursion (IsPassedBack b (isa_of std.target)) (result_locs (plan_of std s).res)
passed_back std s true law = let laws = law refl in laws.loaded
passed_back std s false law = all_true (result_locs (plan_of std s).res)

-- what the image at a return owns is passed back
pub result_back : (std : Standard) (s : Signature) (m n : State) (v : ValueTree) → IsSoundOnMachine std s → std.target ≡ m.target → (by_exchange m.target ≡ true → ResultGoesByStubs std s) → HasComeBack (frame_of std s) m n → OwnResult std s v (image_of (frame_of std s) m) → OwnResult std s v (image_of (frame_of std s) (at_frame (frame_of std s) n))
result_back std s m n v sound same law back own =
    let frame = frame_of std s in
    own_result_kept (image_of (frame_of std s) m) (image_of (frame_of std s) (at_frame (frame_of std s) n)) (IsPassedBack (by_exchange m.target) (isa_of m.target)) back.start (ap (λ a. stack_at a frame n) back.start ∙ ap (λ xs. take frame (drop (m.sp - STACK) xs)) back.stack) (λ l lies some. register_same frame frame m (at_frame (frame_of std s) n) l lies (moved l lies (back.passed l lies some))) std s v sound
    (subst (λ k. AllByRecursion (IsPassedBack (by_exchange m.target) (isa_of k)) (result_locs (plan_of std s).res)) same (passed_back std s (by_exchange m.target) law)) own
  where
    moved : (l : Loc) → IsPlace 0 l → SameAt 0 l m (passing n) → SameAt 0 l m (at_frame (frame_of std s) n)
    moved l lies =
        by_register (λ l. SameAt 0 l m (passing n) → SameAt 0 l m (at_frame (frame_of std s) n)) (λ r below h. h) (λ r below h. h) l lies
