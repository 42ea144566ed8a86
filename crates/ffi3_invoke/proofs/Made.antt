-- A call that has begun, and one that has ended.
use Rattle.std.proofs.Common.{◌≡◌, ◌⊎◌, Bool, true, false, get_or, ℕ, ◌+◌, ◌-◌, ◌≤◌, List, [], ◌∷◌, ◌++◌, length, refl, ap, sym, ◌∙◌, subst, arith}
use Rattle.std.specs.List.{AllByRecursion}
use Rattle.ffi3_type_spec.specs.declared.limits.TheConstants.{STACK, STACK_BYTES, STACK_TOP}
use Rattle.ffi3_type_spec.specs.TargetIsa.{isa_of}
use Rattle.ffi3_type_spec.specs.Signature.{Signature}
use Rattle.ffi3_type_spec.specs.Value.{ValueTree}
use Rattle.ffi3_type_spec.proofs.Parts.{length_part}
use Rattle.ffi3_place_spec.specs.declared.Loc.{Loc}
use Rattle.ffi3_place_spec.specs.Image.{register}
use Rattle.ffi3_place_spec.specs.Standard.{Standard, block_bytes, frame_of, need_of, plan_of}
use Rattle.ffi3_place_spec.specs.Agrees.{AgreesWithMachine}
use Rattle.ffi3_semantics_spec.specs.Journal.{Entered, needs, IsEntry}
use Rattle.ffi3_semantics_spec.proofs.Aligned.{entry_is_aligned}
use Rattle.ffi3_machine_spec.specs.State.{State, after_enter, image_of}
use Rattle.ffi3_machine_spec.specs.Stubs.{Entry, Return}
use Rattle.ffi3_stubs.specs.Calls.{steps_of}
use Rattle.ffi3_machine_transfer.specs.Passing.{by_exchange, steps_if}
use Rattle.ffi3_machine_transfer.specs.Stored.{IsPlace, SameAt, WroteWithin, with_journal_of}
use Rattle.ffi3_caller.specs.Called.{HasComeBack, dropped_if, frame_start, frame_start_if}
use Rattle.ffi3_callee.specs.Given.{ResultWrites}
use Rattle.ffi3_callee.proofs.Beside.{wrote_down}
use Rattle.ffi3_callee.proofs.Laws.{each_both}
use Rattle.ffi3_callee.specs.declared.Incoming.{Incoming}
use Rattle.ffi3_callee.specs.Received.{IsIncoming, IsReceived}
use Rattle.ffi3_invoke.specs.Calls.{HasBegun, HasEnded, HasPassed, HasReturned, IsInCallee, KeepsOpen, KeepsReserved, entry_at, return_at}
use Rattle.ffi3_callee.proofs.Keeping.{reserved_there}
use Rattle.ffi3_machine_transfer.proofs.Composing.{beside, by_register}
use Rattle.ffi3_invoke.proofs.Passed.{held_still, same_then}
use Rattle.ffi3_invoke.proofs.Returned.{result_within}
use Rattle.ffi3_invoke.proofs.Stretches.{above_stays, below_stays, mark_least, open_aside, still_open}

-- ---- a call has begun

module _ (std : Standard) (s : Signature) (agrees : AgreesWithMachine std) (vs : List ValueTree) (pointer : ℕ) (m c r : State) (sized : length m.stack ≡ STACK_BYTES) (room : STACK + need_of std s ≤ m.sp) (top : m.sp ≤ STACK_TOP) (passed : HasPassed std s vs pointer m c) where
  need : need_of std s ≡ frame_of std s + std.link + std.save + block_bytes s
  need = refl

  is_entry : (top : ℕ) (held : Loc → ℕ) (outer : List Entered) → m.sp + needs std outer ≡ top → AllByRecursion (λ at. register (image_of 0 m) at ≡ held at) std.reserved → IsEntry std top held outer (length m.events) pointer s vs (entry_at std s c)
  is_entry limit held outer below holds =
      let sp = passed.sp in
      let there : c.sp + (std.link + frame_of std s + needs std outer) ≡ limit = omega (arith, sp, below) in
      let long : length c.stack ≡ STACK_BYTES = passed.within.size ∙ sized in
      let whole = need in
      record {
        kind = refl;
        closure = passed.closure;
        holds = passed.holds;
        sp = there;
        aligned = entry_is_aligned std agrees.save_aligned s outer c.sp limit there;
        stack = length_part c.stack (c.sp - STACK) (std.link + frame_of std s) (omega (arith, sp, long, whole, room, top));
        preserved = passed.preserved;
        reserved = held_still 0 (std.link + frame_of std s) m c held std.reserved (reserved_there std agrees) passed.reserved holds;
      }

  -- A CALL HAS BEGUN, once the callee has accepted it
  pub begun : r.events ≡ c.events ++ entry_at std s c ∷ [] → IsReceived std s (after_enter (std.link + frame_of std s) c) r → r.sp + block_bytes s + std.save ≡ c.sp → WroteWithin r.sp c.sp c (with_journal_of c r) → KeepsReserved std c r → r.spare_events + 1 ≡ c.spare_events → r.spare_bytes + (std.link + frame_of std s) ≡ c.spare_bytes → r.steps ≡ steps_if (by_exchange c.target) (steps_of (isa_of c.target) Entry) c.steps → IsInCallee std (record { signature = s; event = entry_at std s c }) r → HasBegun std s vs pointer m r
  begun events received sp within reserved spare_events spare_bytes steps in_callee =
      let whole = need in
      let passed_sp = passed.sp in
      let w : WroteWithin r.sp m.sp m (with_journal_of m r) = wrote_down r.sp c.sp m.sp m c r (omega (arith, sp)) (omega (arith, passed_sp)) passed.within within in
      let before_events = passed.spare_events in
      let before_bytes = passed.spare_bytes in
      record {
        entry = entry_at std s c;
        events = events ∙ ap (λ es. es ++ entry_at std s c ∷ []) passed.events;
        entered = c;
        passed = passed;
        entry_is = refl;
        is_entry = is_entry;
        in_callee = in_callee;
        arguments_stand = received.values vs passed.holds.own;
        sp = omega (arith, sp, passed_sp, whole);
        above = λ address count over. above_stays r.sp m.sp m (with_journal_of m r) w address count (omega (arith, over, room)) over;
        below = λ address count bottom under. below_stays r.sp m.sp m (with_journal_of m r) w address count bottom under;
        keeps_open = open_aside std m.sp m r (still_open std r.sp m.sp m.sp m (with_journal_of m r) w (omega arith));
        mark = mark_least r.sp m.mark r.mark w.mark;
        code = w.code;
        target = w.target;
        reserved = same_then std.reserved (image_of 0 m) (image_of 0 c) (image_of 0 r) passed.reserved reserved;
        room = omega (arith, spare_events, before_events);
        bytes = omega (arith, spare_bytes, before_bytes);
        steps = steps ∙ ap (λ k. steps_if (by_exchange k) (steps_of (isa_of k) Entry) c.steps) passed.within.target ∙ ap (steps_if (by_exchange m.target) (steps_of (isa_of m.target) Entry)) passed.steps;
      }

-- ---- a call has ended

-- all but sp stays where a frame is dropped
dropped : (b : Bool) (frame : ℕ) (n : State) → dropped_if b frame n ≡ record n { sp = (dropped_if b frame n).sp }
dropped true frame n = refl
dropped false frame n = refl

-- sp is behind the frame
dropped_sp : (b : Bool) (frame sp : ℕ) (n : State) → STACK ≤ sp → frame_start_if b frame n ≡ sp → (dropped_if b frame n).sp ≡ sp + frame
dropped_sp true frame sp n low start = omega (arith, low, start)
dropped_sp false frame sp n low start = omega (arith, start)

-- a register that stays from one machine to the next, and to a third
register_kept : (a b d : State) → d.general ≡ b.general → d.floating ≡ b.floating → (l : Loc) → IsPlace 0 l → SameAt 0 l a b → register (image_of 0 a) l ≡ register (image_of 0 d) l
register_kept a b d general floating l lies =
    by_register (λ l. SameAt 0 l a b → register (image_of 0 a) l ≡ register (image_of 0 d) l) (λ r below h. sym (ap (λ xs. get_or xs r 0) general ∙ h)) (λ r below h. sym (ap (λ xs. get_or xs r 0) floating ∙ h)) l lies

-- what was written, where no more is
within_still : (low high : ℕ) (a b d : State) → WroteWithin low high a (with_journal_of a b) → d.stack ≡ b.stack → d.mark ≡ b.mark → d.target ≡ b.target → d.code ≡ b.code → WroteWithin low high a (with_journal_of a d)
within_still low high a b d w stack mark target code =
    beside low high a d (ap length stack ∙ w.size) (λ i far. ap (λ xs. get_or xs i 0) stack ∙ w.outside i far) (subst (λ n. (a.mark ≤ n) ⊎ (low ≤ n)) (sym mark) w.mark) (target ∙ w.target) (code ∙ w.code)

-- what a result writes lies in the frame, beside all else
writes_within : (std : Standard) (s : Signature) (base : ℕ) (m l : State) → ResultWrites base s.result_type (plan_of std s).res m (with_journal_of m l) → WroteWithin base (base + frame_of std s) m (with_journal_of m l)
writes_within std s base m l w = result_within std s base (plan_of std s).res m (with_journal_of m l) refl w

pub returned_target : (std : Standard) (s : Signature) (v : ValueTree) (m l : State) → HasReturned std s v m l → l.target ≡ m.target
returned_target std s v m l returned = let w = writes_within std s l.sp m l returned.writes in w.target

module _ (std : Standard) (s : Signature) (agrees : AgreesWithMachine std) (v : ValueTree) (m l n : State) (bottom : STACK ≤ m.sp) (returned : HasReturned std s v m l) (back : HasComeBack (frame_of std s) l n) (reserved : AllByRecursion (λ at. SameAt 0 at l n) std.reserved) where
  ended_there : HasEnded std s v m (dropped_if (by_exchange n.target) (frame_of std s) n)
  ended_there =
      let d : State = dropped_if (by_exchange n.target) (frame_of std s) n in
      let same = dropped (by_exchange n.target) (frame_of std s) n in
      let whole : need_of std s ≡ frame_of std s + std.link + std.save + block_bytes s = refl in
      let sp = returned.sp in
      let low : STACK ≤ l.sp = omega (arith, sp, bottom) in
      let at_end : d.sp ≡ l.sp + frame_of std s = dropped_sp (by_exchange n.target) (frame_of std s) l.sp n low back.start in
      let first = writes_within std s l.sp m l returned.writes in
      let w : WroteWithin l.sp (l.sp + frame_of std s) m (with_journal_of m d) = within_still l.sp (l.sp + frame_of std s) m l d first ((ap (λ q. q.stack) same) ∙ back.stack) ((ap (λ q. q.mark) same) ∙ back.mark) ((ap (λ q. q.target) same) ∙ back.target) ((ap (λ q. q.code) same) ∙ back.code) in
      let least = mark_least l.sp m.mark d.mark w.mark in
      let events_room : d.spare_events ≡ l.spare_events = (ap (λ q. q.spare_events) same) ∙ back.spare_events in
      let bytes_room : d.spare_bytes ≡ l.spare_bytes = (ap (λ q. q.spare_bytes) same) ∙ back.spare_bytes in
      let room = returned.room in
      let bytes = returned.bytes in
      record {
        return = return_at std s l;
        events = (ap (λ q. q.events) same) ∙ back.events ∙ returned.events;
        is_return = returned.is_return;
        sp = omega (arith, at_end, sp, whole);
        above = λ address count over. above_stays l.sp (l.sp + frame_of std s) m (with_journal_of m d) w address count (omega (arith, over, at_end, sp, bottom)) (omega (arith, over, at_end));
        below = λ address count low under. below_stays l.sp (l.sp + frame_of std s) m (with_journal_of m d) w address count low (omega (arith, under, sp));
        keeps_open = subst (λ q. KeepsOpen std q m d) (sym at_end) (open_aside std (l.sp + frame_of std s) m d (still_open std l.sp (l.sp + frame_of std s) (l.sp + frame_of std s) m (with_journal_of m d) w (omega arith)));
        mark = omega (arith, least, sp);
        code = w.code;
        target = w.target;
        reserved = same_then std.reserved (image_of 0 m) (image_of 0 l) (image_of 0 d) returned.reserved (each_both (IsPlace 0) (λ at. SameAt 0 at l n) (λ at. register (image_of 0 l) at ≡ register (image_of 0 d) at) (register_kept l n d (ap (λ q. q.general) same) (ap (λ q. q.floating) same)) std.reserved (reserved_there std agrees) reserved);
        room = omega (arith, events_room, room);
        bytes = omega (arith, bytes_room, bytes);
        steps = (ap (λ q. q.steps) same) ∙ back.steps ∙ ap (λ k. steps_if (by_exchange k) (steps_of (isa_of k) Return) l.steps) first.target ∙ ap (steps_if (by_exchange m.target) (steps_of (isa_of m.target) Return)) returned.steps;
      }

  -- A CALL HAS ENDED, once its frame is dropped
  pub ended : (d : State) → d ≡ dropped_if (by_exchange n.target) (frame_of std s) n → HasEnded std s v m d
  ended d is = subst (HasEnded std s v m) (sym is) ended_there

-- where the frame begins after the way back
pub start_low : (std : Standard) (s : Signature) (v : ValueTree) (m l n : State) → STACK ≤ m.sp → HasReturned std s v m l → HasComeBack (frame_of std s) l n → STACK ≤ frame_start (frame_of std s) n
start_low std s v m l n bottom returned back =
    let sp = returned.sp in subst (λ q. STACK ≤ q) (sym back.start) (omega (arith, sp, bottom))

pub start_high : (std : Standard) (s : Signature) (l n : State) → l.sp + frame_of std s ≤ STACK_TOP → HasComeBack (frame_of std s) l n → frame_start (frame_of std s) n + frame_of std s ≤ STACK_TOP
start_high std s l n fits back = subst (λ q. q + frame_of std s ≤ STACK_TOP) (sym back.start) fits

-- sp lies in the stack while a callee runs
pub callee_low : (std : Standard) (s : Signature) (incoming : Incoming) (sp : ℕ) → IsIncoming std s incoming → incoming.block ≡ sp → STACK ≤ sp
callee_low std s incoming sp is block = let low = is.low in omega (arith, low, block)

-- where the caller's frame stands after the return
pub frame_fits : (std : Standard) (s : Signature) (v : ValueTree) (incoming : Incoming) (m l : State) → IsIncoming std s incoming → incoming.block ≡ m.sp → HasReturned std s v m l → l.sp + frame_of std s ≤ STACK_TOP
frame_fits std s v incoming m l is block returned =
    let entry = is.entry in let high = is.high in let sp = returned.sp in omega (arith, entry, high, sp, block)
