-- The callee has given its result and all else back, and has returned.
use Rattle.std.specs.Prelude.{None}
use Rattle.std.proofs.Common.{◌≡◌, ◌⊎◌, inl, inr, ℕ, ◌+◌, ◌-◌, ◌≤◌, Bool, true, false, [], ◌∷◌, ◌++◌, take, drop, get_or, length, refl, ap, sym, ◌∙◌, subst, arith}
use Rattle.ffi3_type_spec.specs.declared.limits.TheConstants.{RETURN, STACK, STACK_BYTES, STACK_TOP}
use Rattle.ffi3_type_spec.specs.TargetIsa.{isa_of}
use Rattle.ffi3_type_spec.specs.Layout.{size_of}
use Rattle.ffi3_type_spec.specs.Signature.{Signature}
use Rattle.ffi3_type_spec.specs.Value.{ValueTree}
use Rattle.ffi3_type_spec.proofs.Parts.{length_part}
use Rattle.ffi3_place_spec.specs.declared.Res.{Res}
use Rattle.ffi3_place_spec.specs.declared.Res.TheVariants.{Hidden}
use Rattle.ffi3_place_spec.specs.declared.SaveWord.TheVariants.{Register}
use Rattle.ffi3_place_spec.specs.MachineRegisters.{link_register, pushed_bytes}
use Rattle.ffi3_place_spec.specs.Image.{Image, register}
use Rattle.ffi3_place_spec.specs.Event.{Event}
use Rattle.ffi3_place_spec.specs.Standard.{Standard, block_bytes, frame_of, plan_of}
use Rattle.ffi3_place_spec.specs.Agrees.{AgreesWithMachine}
use Rattle.ffi3_place_spec.specs.Holds.{HoldsResult, Kept, SameIn}
use Rattle.ffi3_semantics_spec.specs.Journal.{IsReturn}
use Rattle.ffi3_machine_spec.specs.State.{State, HasReturnAt, after_arrive, image_of}
use Rattle.ffi3_machine_spec.specs.Stubs.{Exit}
use Rattle.ffi3_stubs.specs.Calls.{steps_of}
use Rattle.ffi3_machine_transfer.specs.Passing.{by_exchange, passing, steps_if}
use Rattle.ffi3_machine_transfer.specs.Stored.{IsPlace, WroteWithin, with_journal_of, word_in}
use Rattle.ffi3_machine_transfer.proofs.Composing.{beside, register_is, wrote_wider}
use Rattle.ffi3_callee.specs.declared.Incoming.{Incoming}
use Rattle.ffi3_callee.specs.Given.{ReservedStay, ResultWrites}
use Rattle.ffi3_callee.specs.GoneBack.{HasGoneBack, IsAtReturn, returned_by, returned_if}
use Rattle.ffi3_callee.specs.Loaded.{image_from}
use Rattle.ffi3_callee.specs.Received.{IsIncoming}
use Rattle.ffi3_callee.specs.Saved.{HoldRegisters, saved_word}
use Rattle.ffi3_callee.proofs.Beside.{passed_beside}
use Rattle.ffi3_callee.proofs.Answered.{pushes, return_same}
use Rattle.ffi3_callee.proofs.Keeping.{reserved_then, reserved_there}
use Rattle.ffi3_callee.proofs.Laws.{each_both}
use Rattle.ffi3_machine_transfer.proofs.Outcomes.{buffer_within}
use Rattle.ffi3_callee.proofs.Return.{same_stack}
use Rattle.ffi3_callee.proofs.WayBack.{register_returned, same_reserved}
use Rattle.ffi3_invoke.specs.Calls.{HasReturned, IsInCallee, return_at}
use Rattle.ffi3_invoke.proofs.Passed.{same_then}
use Rattle.ffi3_invoke.proofs.Stretches.{below_stays, word_below}

-- ---- what a result writes

-- it lies in the frame
pub result_within : (std : Standard) (s : Signature) (base : ℕ) (res : Res) (a b : State) → (plan_of std s).res ≡ res → ResultWrites base s.result_type res a b → WroteWithin base (base + frame_of std s) a b
result_within std s base (Hidden at buffer) a b is w =
    let inside = buffer_within std s at buffer is in
    wrote_wider (base + buffer) (base + buffer + size_of s.result_type) base (base + frame_of std s) a b (omega arith) (omega (arith, inside)) w
result_within std s base _ a b is w = wrote_wider base base base (base + frame_of std s) a b (omega arith) (omega arith) w

-- and it is written beside all that is not the stack, whatever follows
pub written_on : (low high : ℕ) (a b l : State) → low ≤ STACK_TOP → WroteWithin low high (passing a) (passing b) → l.stack ≡ b.stack → (b.mark ≤ l.mark) ⊎ (STACK_TOP ≤ l.mark) → l.target ≡ b.target → l.code ≡ b.code → WroteWithin low high a (with_journal_of a l)
written_on low high a b l below w stack mark target code =
    beside low high a l (ap length stack ∙ w.size) (λ i far. ap (λ xs. get_or xs i 0) stack ∙ w.outside i far) (falls w.mark mark) (target ∙ w.target) (code ∙ w.code)
  where
    falls : (a.mark ≤ b.mark) ⊎ (low ≤ b.mark) → (b.mark ≤ l.mark) ⊎ (STACK_TOP ≤ l.mark) → (a.mark ≤ l.mark) ⊎ (low ≤ l.mark)
    falls x (inr h) = inr (omega (arith, below, h))
    falls (inl h) (inl k) = inl (omega (arith, h, k))
    falls (inr h) (inl k) = inr (omega (arith, h, k))

result_written_on : (std : Standard) (s : Signature) (base : ℕ) (res : Res) (a b l : State) → (plan_of std s).res ≡ res → base + frame_of std s ≤ STACK_TOP → ResultWrites base s.result_type res (passing a) (passing b) → l.stack ≡ b.stack → (b.mark ≤ l.mark) ⊎ (STACK_TOP ≤ l.mark) → l.target ≡ b.target → l.code ≡ b.code → ResultWrites base s.result_type res a (with_journal_of a l)
result_written_on std s base (Hidden at buffer) a b l is high w stack mark target code =
    let inside = buffer_within std s at buffer is in
    written_on (base + buffer) (base + buffer + size_of s.result_type) a b l (omega (arith, high, inside)) w stack mark target code
result_written_on std s base _ a b l is high w stack mark target code =
    written_on base base a b l (omega (arith, high)) w stack mark target code

-- ---- the machine at its return

-- all but sp and pc are those of the machine that has gone back
return_of : (b : Bool) (r : State) → returned_if b r ≡ record r { sp = (returned_if b r).sp; pc = (returned_if b r).pc }
return_of true r = refl
return_of false r = refl

pc_there : (b : Bool) (r : State) → IsAtReturn b r → (returned_if b r).pc ≡ RETURN
pc_there true r h = h
pc_there false r h = refl

-- ---- what a record of the return asks

-- sp has not fallen below the entry's
sp_low : (b : Bool) (r : State) (link entry : ℕ) → pushed_bytes (isa_of r.target) ≡ link → STACK ≤ entry → (returned_if b r).sp ≡ entry + link → STACK ≤ r.sp
sp_low true r link entry pushed low sp = omega (arith, low, sp)
sp_low false r link entry pushed low sp = omega (arith, pushed, low, sp)

-- ---- the machine before the return

module _ (std : Standard) (s : Signature) (agrees : AgreesWithMachine std) (v : ValueTree) (incoming : Incoming) (m g r : State) (target : m.target ≡ std.target) (sized : length m.stack ≡ STACK_BYTES) (is : IsIncoming std s incoming) (block : incoming.block ≡ m.sp)
    (writes : ResultWrites (incoming.entry + std.link) s.result_type (plan_of std s).res (passing m) (passing g)) (reserved : ReservedStay std m g) (back : HasGoneBack std incoming.entry g r) (gone : ReservedStay std g r) where
  abbrev base : ℕ
  base = incoming.entry + std.link

  high : base + frame_of std s ≤ STACK_TOP
  high = is.high

  low : STACK + std.save ≤ incoming.entry
  low = let bottom = is.low in let entry = is.entry in omega (arith, bottom, entry)

  first : WroteWithin base (base + frame_of std s) (passing m) (passing g)
  first = result_within std s base (plan_of std s).res (passing m) (passing g) refl writes

  given : WroteWithin base (base + frame_of std s) m (with_journal_of m g)
  given = passed_beside base (base + frame_of std s) m g first

  gone_stack : r.stack ≡ g.stack
  gone_stack = same_stack g (with_journal_of g r) back.within

  same : returned_by r ≡ record r { sp = (returned_by r).sp; pc = (returned_by r).pc }
  same = return_of (by_exchange r.target) r

  stack_there : (returned_by r).stack ≡ g.stack
  stack_there = (ap (λ q. q.stack) same) ∙ gone_stack

  target_there : (returned_by r).target ≡ g.target
  target_there = (ap (λ q. q.target) same) ∙ back.within.target

  code_there : (returned_by r).code ≡ g.code
  code_there = (ap (λ q. q.code) same) ∙ back.within.code

  mark_there : (g.mark ≤ (returned_by r).mark) ⊎ (STACK_TOP ≤ (returned_by r).mark)
  mark_there = subst (λ n. (g.mark ≤ n) ⊎ (STACK_TOP ≤ n)) (sym (ap (λ q. q.mark) same)) back.within.mark

  reserved_both : ReservedStay std m r
  reserved_both = reserved_then std m g r reserved gone

  reserved_kept : SameIn std.reserved (image_of 0 m) (image_of 0 (returned_by r))
  reserved_kept =
      each_both (IsPlace 0) (λ at. word_in STACK_TOP r at ≡ word_in STACK_TOP m at) (λ at. register (image_of 0 m) at ≡ register (image_of 0 (returned_by r)) at) (λ l lies h. register_is 0 STACK_TOP m l lies ∙ sym h ∙ sym (register_returned (by_exchange r.target) 0 r l lies)) std.reserved (reserved_there std agrees) reserved_both

  module _ (entry : Event) (called : IsInCallee std (record { signature = s; event = entry }) m) where
    entry_sp : entry.image.sp ≡ incoming.entry
    entry_sp =
        let place : m.sp + block_bytes s + std.save ≡ entry.image.sp = called.stands.place in
        let entry_is = is.entry in
        omega (arith, place, entry_is, block)

    saved_there : HoldRegisters (incoming.entry - std.save) std.save_area (register entry.image) g
    saved_there i at below here =
        let area = agrees.area in
        let bottom = low in
        word_below base (base + frame_of std s) (incoming.entry - std.save) i m (with_journal_of m g) given (omega (arith, bottom)) (omega (arith, bottom, area, below)) ∙ ap (λ n. saved_word (n - std.save) i m) (sym entry_sp) ∙ called.stands.saved i (Register at) below here

    -- RETURN is still the return address
    address_there : HasReturnAt (link_register (isa_of std.target)) entry.image.general incoming.entry g.stack
    address_there =
        let bottom = low in
        let none_pushed : link_register (isa_of std.target) ≡ None → std.link ≡ 8 = λ none. agrees.link ∙ pushes (isa_of std.target) none in
        let above : HasReturnAt (link_register (isa_of std.target)) entry.image.general entry.image.sp g.stack = return_same (link_register (isa_of std.target)) entry.image.general entry.image.sp m.stack g.stack (λ none. let eight = none_pushed none in let here = entry_sp in below_stays base (base + frame_of std s) m (with_journal_of m g) given entry.image.sp 8 (omega (arith, here, bottom)) (omega (arith, here, eight))) called.stands.return_address in
        subst (λ n. HasReturnAt (link_register (isa_of std.target)) entry.image.general n g.stack) entry_sp above

    at_return : IsAtReturn (by_exchange r.target) r
    at_return = back.at_return entry.image saved_there address_there

    pc : (returned_by r).pc ≡ RETURN
    pc = pc_there (by_exchange r.target) r at_return

    kept_reserved : SameIn std.reserved entry.image (image_of 0 g)
    kept_reserved = same_then std.reserved entry.image (image_of 0 m) (image_of 0 g) called.reserved (same_reserved std agrees 0 m g reserved)

    module _ (held : HoldsResult std s v (image_from (incoming.entry + std.link) (frame_of std s) r)) (kept : (e : Image) (room : ℕ) → e.sp ≡ incoming.entry → HoldRegisters (incoming.entry - std.save) std.save_area (register e) g → SameIn std.reserved e (image_of 0 g) → Kept std e (image_of room (returned_by r))) where
      image_there : image_from (incoming.entry + std.link) (frame_of std s) r ≡ image_of (frame_of std s) (returned_by r)
      image_there =
          λ i. record {
            general = sym (ap (λ q. q.general) same) i;
            floating = sym (ap (λ q. q.floating) same) i;
            sp = sym back.sp i;
            stack = take (frame_of std s) (drop (sym back.sp i - STACK) (sym (ap (λ q. q.stack) same) i));
          }

      is_return : IsReturn std (record { signature = s; event = entry }) v (return_at std s (after_arrive (frame_of std s) (returned_by r)))
      is_return =
          let top = high in
          let bottom = low in
          let sp = back.sp in
          let long : length (returned_by r).stack ≡ STACK_BYTES = ap length stack_there ∙ first.size ∙ sized in
          record {
            kind = refl;
            closure = refl;
            holds = subst (HoldsResult std s v) image_there held;
            kept = kept entry.image (frame_of std s) entry_sp saved_there kept_reserved;
            stack = length_part (returned_by r).stack ((returned_by r).sp - STACK) (frame_of std s) (omega (arith, sp, long, top, bottom));
          }

  -- ---- what a return asks of the machine

  return_high : (returned_by r).sp + frame_of std s ≤ STACK_TOP
  return_high = let top = high in let sp = back.sp in omega (arith, top, sp)

  return_low : STACK ≤ r.sp
  return_low =
      let bottom = low in
      let link : pushed_bytes (isa_of r.target) ≡ std.link = ap (λ k. pushed_bytes (isa_of k)) (back.within.target ∙ first.target ∙ target) ∙ sym agrees.link in
      sp_low (by_exchange r.target) r std.link incoming.entry link (omega (arith, bottom)) back.sp

  events_room : r.spare_events ≡ m.spare_events
  events_room = back.spare_events ∙ first.spare_events

  bytes_room : r.spare_bytes ≡ m.spare_bytes
  bytes_room = back.spare_bytes ∙ first.spare_bytes

  pub asked : (entry : Event) → IsInCallee std (record { signature = s; event = entry }) m → IsAtReturn (by_exchange r.target) r × (STACK ≤ r.sp) × ((returned_by r).sp + frame_of std s ≤ STACK_TOP) × (r.spare_events ≡ m.spare_events) × (r.spare_bytes ≡ m.spare_bytes)
  asked entry called = (at_return entry called, return_low, return_high, events_room, bytes_room)

  -- THE CALLEE HAS RETURNED
  returned_there : (kept : (e : Image) (room : ℕ) → e.sp ≡ incoming.entry → HoldRegisters (incoming.entry - std.save) std.save_area (register e) g → SameIn std.reserved e (image_of 0 g) → Kept std e (image_of room (returned_by r))) → HoldsResult std s v (image_from (incoming.entry + std.link) (frame_of std s) r) → (some : Event) → IsInCallee std (record { signature = s; event = some }) m → HasReturned std s v m (after_arrive (frame_of std s) (returned_by r))
  returned_there kept held some called =
      let l : State = after_arrive (frame_of std s) (returned_by r) in
      let entry_is = is.entry in
      let sp = back.sp in
      let room = called.room in
      let bytes = called.bytes in
      let spare_events : (returned_by r).spare_events ≡ m.spare_events = (ap (λ q. q.spare_events) same) ∙ events_room in
      let spare_bytes : (returned_by r).spare_bytes ≡ m.spare_bytes = (ap (λ q. q.spare_bytes) same) ∙ bytes_room in
      record {
        events = ap (λ es. es ++ return_at std s l ∷ []) ((ap (λ q. q.events) same) ∙ back.events ∙ first.events);
        is_return = λ entry called. is_return entry called held kept;
        pc = pc some called;
        sp = omega (arith, entry_is, sp, block);
        reserved = reserved_kept;
        writes = subst (λ n. ResultWrites n s.result_type (plan_of std s).res m (with_journal_of m l)) (sym back.sp) (result_written_on std s base (plan_of std s).res m g l refl high writes stack_there mark_there target_there code_there);
        room = omega (arith, spare_events, room);
        bytes = omega (arith, spare_bytes, bytes);
        steps = (ap (λ q. q.steps) same) ∙ back.steps ∙ ap (λ k. steps_if (by_exchange k) (steps_of (isa_of k) Exit) g.steps) first.target ∙ ap (steps_if (by_exchange m.target) (steps_of (isa_of m.target) Exit)) first.steps;
      }

  pub returned : (n : ℕ) (l : State) → n ≡ frame_of std s → l ≡ after_arrive n (returned_by r) → ((e : Image) (room : ℕ) → e.sp ≡ incoming.entry → HoldRegisters (incoming.entry - std.save) std.save_area (register e) g → SameIn std.reserved e (image_of 0 g) → Kept std e (image_of room (returned_by r))) → HoldsResult std s v (image_from (incoming.entry + std.link) (frame_of std s) r) → (some : Event) → IsInCallee std (record { signature = s; event = some }) m → HasReturned std s v m l
  returned n l n_is l_is kept held some called =
      subst (HasReturned std s v m) (sym (l_is ∙ ap (λ k. after_arrive k (returned_by r)) n_is)) (returned_there kept held some called)
