-- The four stubs of AMD64, wherever they and the exchange region stand.
use Rattle.std.proofs.Common.{◌≡◌, ◌⊎◌, inl, inr, ⊎_elim, ℕ, ◌+◌, ◌-◌, ◌*◌, ◌%◌, ◌^◌, ◌<◌, ◌≤◌, false, List, [], ◌∷◌, ◌++◌, length, refl, sym, ap, ◌∙◌, subst, arith, lit<, lit≤, pos, negsuc}
use Rattle.ffi3_machine_spec.specs.Memory.{number_of, low_bytes}
use Rattle.ffi3_isa.specs.Amd64.{fixed, call, ret, disp32}
use Rattle.ffi3_isa.specs.declared.Instr.TheVariants.{CallMem, Ret}
use Rattle.ffi3_type_spec.specs.declared.Isa.TheVariants.{Amd64}
use Rattle.ffi3_place_spec.specs.declared.Loc.{Loc}
use Rattle.ffi3_place_spec.specs.declared.Loc.TheVariants.{G}
use Rattle.ffi3_place_spec.specs.StubRegisters.{call_loads, stub_area, callee_saved_words, entry_stores, result_loads}
use Rattle.ffi3_machine_spec.specs.declared.stub.TheConstants.{AREA_AT, CALLEE_AT, CALL_SP_AT, ENTRY_SP_AT, RETURN_SP_AT}
use Rattle.ffi3_machine_spec.specs.Stubs.{Entry, Exit, Call, Return, jump, calls_at, returns, amd64_row}
use Rattle.ffi3_machine.specs.MachineStep.{moved}
use Rattle.ffi3_stubs.specs.Calls.{same_loc, is_in}
use Rattle.ffi3_stubs.proofs.Reading.{in_neither}
use Rattle.ffi3_host_stubs.specs.Processor.{Processor, half, word_at, put_word, next, listed, IsKept}
use Rattle.ffi3_host_stubs.specs.Stubs.{host_rows, host_bytes}
use Rattle.ffi3_host_stubs.specs.Calls.{held, IsSource, IsAtStub, IsRegionKept, HasCalled, Calls, HasReturned, Returns, HasEntered, Enters, HasLeft, Leaves}
use Rattle.ffi3_host_stubs.proofs.Standing.{plain, wraps, apart_from, TakesBy, in_turn}
use Rattle.ffi3_host_stubs.proofs.Effects.{received, with_sp_by, stored, in_exchange, in_area, from_places, to_places}
use Rattle.ffi3_host_stubs.proofs.Memory.{byte_other, word_put, received_other, others_stay, are_apart, Hold, came, are_disjoint, hold_still, from_area, Misses, bytes_stay, are_clear, word_stays, are_below, are_spread, Stand, went, stand_from, neither}
use Rattle.ffi3_host_stubs.proofs.Rows.{names, fine, source_of, Leads, begins, jumps, points, Points, Says, loads, stores, loads_sp, stores_sp, copies, sums_sp, from_source}
use Rattle.ffi3_host_stubs.proofs.Amd64Rows.{disp, up, load_general, load_law, store_general, store_law, area_load_law, area_store_law, copy_says, lea_says, rise_says}
use Rattle.ffi3_host_stubs.proofs.EntryMemory.{words_saved, word_for_exit, word_of_sp, elsewhere}

in_half : (x : ℕ) → x + 552 ≤ half → x ≤ half
in_half x far = omega (arith, far)

-- ---- Call

abbrev call_placed : ℕ → Processor → Processor
call_placed x s = with_sp_by 7 (word_at (x + CALL_SP_AT) s) (received 3 (G 11) x s)

abbrev call_loaded : ℕ → Processor → Processor
call_loaded x s = from_places Amd64 11 x (in_exchange (call_loads Amd64)) (call_placed x s)

-- the return address is pushed, and pc is the address that is called
abbrev after_call : ℕ → Processor → Processor
after_call x s = record (call_loaded x s) {
  sp = word_at (x + CALL_SP_AT) s - 8;
  memory = put_word (word_at (x + CALL_SP_AT) s - 8) ((call_loaded x s).pc + 7) s.memory;
  pc = word_at (x + CALLEE_AT) s;
}

call_says : (o : ℕ) → Says Amd64 (amd64_row 0 (jump (calls_at 11 o))) (CallMem 11 (disp o)) 7
unfolding disp
call_says o = record {
  sized = refl;
  code = λ bytes tail e. listed (fixed (call e));
  aligned = λ p h. tt;
}

return_says : Says Amd64 (amd64_row 0 (jump returns)) Ret 1
return_says = record {
  sized = refl;
  code = λ bytes tail e. listed (fixed (ret e));
  aligned = λ p h. tt;
}

callee_low : (x : ℕ) → x + 552 ≤ half → x + CALLEE_AT ≤ half
callee_low x far = omega (arith, far)

falls : (sp p n k : ℕ) → sp ≡ p + n → n + k ≡ 2 ^ 64 → sp ≤ half → (sp + k) % 2 ^ 64 ≡ p
falls sp p n k e f low = wraps sp k p (omega (arith, e, f)) (omega (arith, e, low))

call_runs : (s : Processor) (from : ℕ) → IsSource Amd64 from → IsAtStub Amd64 (s.general from) (host_bytes Amd64 from 0 Call) s → 8 ≤ word_at (s.general from + CALL_SP_AT) s → word_at (s.general from + CALL_SP_AT) s ≤ half → IsRegionKept (s.general from) (word_at (s.general from + CALL_SP_AT) s) s → TakesBy Amd64 18 s (after_call (s.general from) s)
unfolding host_bytes names fine
call_runs s from source is room low under =
    let x : ℕ = s.general from in
    let w : ℕ = word_at (x + CALL_SP_AT) s in
    let m : Processor = call_loaded x s in
    let loaded = points Amd64 11 x m refl refl is.high under in
    let a0 = begins Amd64 s (host_rows Amd64 from 0 Call) tt is.code in
    let a1 = copies 11 from 3 x (pos 0) (source_of Amd64 8 11 refl) (copy_says from source.in_range) (from_source Amd64 from s source (in_half x is.high)) a0 in
    let a2 = loads_sp 11 x 552 CALL_SP_AT 7 (load_general 4 CALL_SP_AT (lit< tt) (lit< tt)) (λ v. refl) (lit≤ tt) (points Amd64 11 x (received 3 (G 11) x s) refl refl is.high is.region) a1 in
    let a3 = loads 17 8 11 x 552 (in_exchange (call_loads Amd64)) load_law refl refl (points Amd64 11 x (call_placed x s) refl refl is.high under) a2 in
    let to : moved x (disp CALLEE_AT) ≡ x + CALLEE_AT = up x CALLEE_AT (x + CALLEE_AT) (lit< tt) refl (callee_low x is.high) in
    let sp : moved w (negsuc 7) ≡ w - 8 = falls w (w - 8) 8 18446744073709551608 (omega (arith, room)) refl low in
    let form : ℕ → ℕ → Processor = λ p a. record m { sp = p; memory = put_word p (next 7 m) s.memory; pc = word_at a s } in
    jumps (λ n. record m { sp = w - 8; memory = put_word (w - 8) n s.memory; pc = word_at (x + CALLEE_AT) s }) (call_says CALLEE_AT) tt (subst (λ (a : ℕ). IsKept Amd64 a m) (sym to) (loaded.kept CALLEE_AT (lit≤ tt))) (ap (λ (p : ℕ). form p (moved x (disp CALLEE_AT))) sp ∙ ap (λ (a : ℕ). form (w - 8) a) to) a3

has_called : (s : Processor) (from x : ℕ) → 8 ≤ word_at (x + CALL_SP_AT) s → HasCalled Amd64 x (s.pc + length (host_bytes Amd64 from 0 Call)) s (after_call x s)
unfolding host_bytes are_apart Hold
has_called s from x room =
    let p : ℕ = word_at (x + CALL_SP_AT) s in
    let m : Processor = call_loaded x s in
    let behind : m.pc + 7 ≡ s.pc + length (host_bytes Amd64 from 0 Call) = omega arith in
    record {
      loaded = came Amd64 11 x (in_exchange (call_loads Amd64)) (call_placed x s) refl;
      others = λ l out.
          let parts = neither (same_loc l (G 11)) (is_in l (call_loads Amd64)) out in
          others_stay Amd64 11 x (in_exchange (call_loads Amd64)) (call_placed x s) l parts.1 ∙ received_other 3 x l (G 11) s parts.0;
      sp = refl;
      pc = refl;
      link = word_put (p - 8) (m.pc + 7) s.memory ∙ ap (low_bytes 8) behind;
      memory = λ a out. byte_other (p - 8) (m.pc + 7) a s.memory (⊎_elim (λ h. inl h) (λ h. inr (omega (arith, h, room))) out);
      limit = refl;
      code = refl;
    }

pub calls_by : (from : ℕ) → IsSource Amd64 from → Calls Amd64 from (host_bytes Amd64 from 0 Call)
calls_by from source s is room over low under callee =
    let x : ℕ = s.general from in
    let pushed_there : 8 ≤ word_at (x + CALL_SP_AT) s = omega (arith, room) in
    (after_call x s, in_turn Amd64 18 s (after_call x s) (call_runs s from source is pushed_there low under), has_called s from x pushed_there)

-- ---- Return

abbrev return_taken : ℕ → Processor → Processor
return_taken x s = to_places Amd64 11 x (in_exchange (result_loads Amd64)) (received 3 (G 11) x s)

abbrev after_return : ℕ → Processor → Processor
after_return x s = with_sp_by 7 (word_at (x + RETURN_SP_AT) (return_taken x s)) (return_taken x s)

return_runs : (s : Processor) (from : ℕ) → IsSource Amd64 from → IsAtStub Amd64 (s.general from) (host_bytes Amd64 from 0 Return) s → TakesBy Amd64 6 s (after_return (s.general from) s)
unfolding host_bytes names fine
return_runs s from source is =
    let x : ℕ = s.general from in
    let a0 = begins Amd64 s (host_rows Amd64 from 0 Return) tt is.code in
    let a1 = copies 11 from 3 x (pos 0) (source_of Amd64 8 11 refl) (copy_says from source.in_range) (from_source Amd64 from s source (in_half x is.high)) a0 in
    let a2 = stores 5 8 11 x 552 (in_exchange (result_loads Amd64)) store_law refl refl (points Amd64 11 x (received 3 (G 11) x s) refl refl is.high is.region) a1 in
    let a3 = loads_sp 11 x 552 RETURN_SP_AT 7 (load_general 4 RETURN_SP_AT (lit< tt) (lit< tt)) (λ v. refl) (lit≤ tt) (points Amd64 11 x (return_taken x s) refl refl is.high is.region) a2 in
    a3.led.steps

has_returned : (s : Processor) (from x : ℕ) → HasReturned Amd64 x (s.pc + length (host_bytes Amd64 from 0 Return)) s (after_return x s)
unfolding host_bytes are_spread are_clear are_disjoint Stand Misses
has_returned s from x =
    let t : Processor = received 3 (G 11) x s in
    let m : Processor = return_taken x s in
    let e : Processor = after_return x s in
    let behind : e.pc ≡ s.pc + length (host_bytes Amd64 from 0 Return) = omega arith in
    let stay : (l : Loc) → is_in l (G 11 ∷ []) ≡ false → held l t ≡ held l s = λ l out. received_other 3 x l (G 11) s (neither (same_loc l (G 11)) false out).0 in
    record {
      stored = stand_from x (in_exchange (result_loads Amd64)) (G 11 ∷ []) s t m.memory refl stay (went Amd64 11 x (in_exchange (result_loads Amd64)) t refl);
      others = stay;
      sp = ap (number_of 8) (word_stays Amd64 11 x (in_exchange (result_loads Amd64)) t RETURN_SP_AT refl);
      pc = behind;
      memory = λ a out. bytes_stay Amd64 11 x (in_exchange (result_loads Amd64)) t a out;
      limit = refl;
      code = refl;
    }

pub returns_back : (from : ℕ) → IsSource Amd64 from → Returns Amd64 from (host_bytes Amd64 from 0 Return)
returns_back from source s is low under =
    let x : ℕ = s.general from in
    (after_return x s, in_turn Amd64 6 s (after_return x s) (return_runs s from source is), has_returned s from x)

-- ---- Exit

abbrev exit_placed : ℕ → Processor → Processor
exit_placed x s = with_sp_by 7 (word_at (x + AREA_AT) s) (received 3 (G 11) x s)

abbrev exit_restored : ℕ → Processor → Processor
exit_restored x s =
    from_places Amd64 4 (word_at (x + AREA_AT) s) (in_area 0 (callee_saved_words Amd64)) (exit_placed x s)

abbrev exit_given : ℕ → Processor → Processor
exit_given x s = from_places Amd64 11 x (in_exchange (result_loads Amd64)) (exit_restored x s)

abbrev exit_raised : ℕ → ℕ → Processor → Processor
exit_raised x gap s = with_sp_by 8 (word_at (x + AREA_AT) s + (56 + gap)) (exit_given x s)

-- the return address is popped
abbrev after_exit : ℕ → ℕ → Processor → Processor
after_exit x gap s = record (exit_given x s) {
  sp = word_at (x + AREA_AT) s + (56 + gap) + 8;
  pc = word_at (word_at (x + AREA_AT) s + (56 + gap)) s;
}

exit_runs : (s : Processor) (from gap : ℕ) → IsSource Amd64 from → gap ≤ 1024 → IsAtStub Amd64 (s.general from) (host_bytes Amd64 from gap Exit) s → IsRegionKept (s.general from) (word_at (s.general from + AREA_AT) s) s → word_at (s.general from + AREA_AT) s + (56 + gap) + 8 ≤ half → TakesBy Amd64 14 s (after_exit (s.general from) gap s)
unfolding host_bytes names fine
exit_runs s from gap source room is under top =
    let x : ℕ = s.general from in
    let v : ℕ = word_at (x + AREA_AT) s in
    let area : Points Amd64 4 v 56 (exit_placed x s) = record { at = refl; based = λ e. tt; kept = λ o lies. inr (omega arith); far = omega (arith, top) } in
    let a0 = begins Amd64 s (host_rows Amd64 from gap Exit) tt is.code in
    let a1 = copies 11 from 3 x (pos 0) (source_of Amd64 8 11 refl) (copy_says from source.in_range) (from_source Amd64 from s source (in_half x is.high)) a0 in
    let a2 = loads_sp 11 x 552 AREA_AT 7 (load_general 4 AREA_AT (lit< tt) (lit< tt)) (λ w. refl) (lit≤ tt) (points Amd64 11 x (received 3 (G 11) x s) refl refl is.high is.region) a1 in
    let a3 = loads 8 0 4 v 56 (in_area 0 (callee_saved_words Amd64)) area_load_law refl refl area a2 in
    let a4 = loads 12 8 11 x 552 (in_exchange (result_loads Amd64)) load_law refl refl (points Amd64 11 x (exit_restored x s) refl refl is.high under) a3 in
    let a5 = sums_sp 4 8 (v + (56 + gap)) (disp (56 + gap)) (rise_says (56 + gap)) (up v (56 + gap) (v + (56 + gap)) (omega (arith, room)) refl (omega (arith, top))) a4 in
    let r : Processor = exit_raised x gap s in
    jumps (λ n. record r { sp = v + (56 + gap) + 8; pc = word_at (v + (56 + gap)) s }) return_says tt (inr (omega arith)) (ap (λ (a : ℕ). let t : Processor = record r { sp = a; pc = word_at (v + (56 + gap)) s } in t) (plain (v + (56 + gap)) 8 (v + (56 + gap) + 8) refl (omega (arith, top)))) a5

has_left : (s : Processor) (x gap : ℕ) → HasLeft Amd64 x (word_at (x + AREA_AT) s) gap s (after_exit x gap s)
unfolding are_apart are_disjoint Hold
has_left s x gap =
    let v : ℕ = word_at (x + AREA_AT) s in
    let t : Processor = exit_placed x s in
    let m : Processor = exit_restored x s in
    let e : Processor = after_exit x gap s in
    let at : v + 0 ≡ v = omega arith in
    let after : (l : Loc) → is_in l (result_loads Amd64) ≡ false → held l e ≡ held l m = λ l out. others_stay Amd64 11 x (in_exchange (result_loads Amd64)) m l out in
    record {
      restored = from_area v 0 v (callee_saved_words Amd64) s e at (hold_still (λ i. word_at (v + i) s) (in_area 0 (callee_saved_words Amd64)) (result_loads Amd64) m e refl after (came Amd64 4 v (in_area 0 (callee_saved_words Amd64)) t refl));
      loaded = came Amd64 11 x (in_exchange (result_loads Amd64)) m refl;
      others = λ l out.
          let p = neither (same_loc l (G 11)) (is_in l (callee_saved_words Amd64 ++ result_loads Amd64)) out in
          let more = in_neither l (callee_saved_words Amd64) (result_loads Amd64) p.1 in
          after l more.1 ∙ others_stay Amd64 4 v (in_area 0 (callee_saved_words Amd64)) t l more.0 ∙ received_other 3 x l (G 11) s p.0;
      sp = refl;
      pc = refl;
      memory = refl;
      limit = refl;
      code = refl;
    }

pub leaves : (from gap : ℕ) → IsSource Amd64 from → gap ≤ 1024 → Leaves Amd64 from gap (host_bytes Amd64 from gap Exit)
leaves from gap source room s is sixteen over under back top =
    let x : ℕ = s.general from in
    (after_exit x gap s, in_turn Amd64 14 s (after_exit x gap s) (exit_runs s from gap source room is under top), has_left s x gap)

-- ---- Entry

abbrev entry_fallen : Processor → Processor
entry_fallen s = with_sp_by 8 (s.sp - 56) s

abbrev entry_saved : Processor → Processor
entry_saved s = to_places Amd64 4 (s.sp - 56) (in_area 0 (stub_area Amd64)) (entry_fallen s)

abbrev entry_based : ℕ → Processor → Processor
entry_based x s = received 3 (G 11) x (entry_saved s)

abbrev entry_noted : ℕ → Processor → Processor
entry_noted x s = stored 7 (x + AREA_AT) (s.sp - 56) (entry_based x s)

abbrev entry_passed : ℕ → Processor → Processor
entry_passed x s = to_places Amd64 11 x (in_exchange (entry_stores Amd64)) (entry_noted x s)

abbrev after_entry : ℕ → Processor → Processor
after_entry x s = with_sp_by 7 (word_at (x + ENTRY_SP_AT) (entry_passed x s)) (entry_passed x s)

entry_runs : (s : Processor) (from : ℕ) → IsSource Amd64 from → IsAtStub Amd64 (s.general from) (host_bytes Amd64 from 0 Entry) s → IsRegionKept (s.general from) (s.sp - 56) s → s.sp ≤ half → 56 ≤ s.sp → TakesBy Amd64 26 s (after_entry (s.general from) s)
unfolding host_bytes names fine
entry_runs s from source is above low room =
    let x : ℕ = s.general from in
    let p : ℕ = s.sp - 56 in
    let fallen : s.sp ≡ p + 56 = omega (arith, room) in
    let area : Points Amd64 4 p 56 (entry_fallen s) = record { at = refl; based = λ e. tt; kept = λ o lies. inr (omega arith); far = omega (arith, fallen, low) } in
    let a0 = begins Amd64 s (host_rows Amd64 from 0 Entry) tt is.code in
    let a1 = sums_sp 4 8 p (disp32 0xC8 0xFF 0xFF 0xFF) (lea_says 0xC8 0xFF 0xFF 0xFF) (falls s.sp p 56 18446744073709551560 fallen refl low) a0 in
    let a2 = stores 8 0 4 p 56 (in_area 0 (stub_area Amd64)) area_store_law refl refl area a1 in
    let a3 = copies 11 from 3 x (pos 0) (source_of Amd64 8 11 refl) (copy_says from source.in_range) (from_source Amd64 from (entry_saved s) source (in_half x is.high)) a2 in
    let a4 = stores_sp 11 x 552 AREA_AT 7 (store_general 4 AREA_AT (lit< tt) (lit< tt)) refl (lit≤ tt) (points Amd64 11 x (entry_based x s) refl refl is.high above) a3 in
    let a5 = stores 25 8 11 x 552 (in_exchange (entry_stores Amd64)) store_law refl refl (points Amd64 11 x (entry_noted x s) refl refl is.high above) a4 in
    let a6 = loads_sp 11 x 552 ENTRY_SP_AT 7 (load_general 4 ENTRY_SP_AT (lit< tt) (lit< tt)) (λ v. refl) (lit≤ tt) (points Amd64 11 x (entry_passed x s) refl refl is.high above) a5 in
    a6.led.steps

has_entered : (s : Processor) (from x : ℕ) → (x + 552 ≤ s.sp - 56) ⊎ (s.sp ≤ x) → 56 ≤ s.sp → HasEntered Amd64 x (s.pc + length (host_bytes Amd64 from 0 Entry)) s (after_entry x s)
unfolding host_bytes are_spread are_clear are_below are_disjoint Stand Misses
has_entered s from x apart room =
    let w : Processor = entry_fallen s in
    let t : Processor = entry_noted x s in
    let p : Processor = entry_passed x s in
    let v : ℕ = s.sp - 56 in
    let ms : List (Loc × ℕ) = in_exchange (entry_stores Amd64) in
    let behind : (after_entry x s).pc ≡ s.pc + length (host_bytes Amd64 from 0 Entry) = omega arith in
    let rises : v + 8 * length (stub_area Amd64) ≤ s.sp = omega (arith, room) in
    let told : (l : Loc) → is_in l (G 11 ∷ []) ≡ false → held l t ≡ held l s = λ l out. received_other 3 x l (G 11) (entry_saved s) (neither (same_loc l (G 11)) false out).0 in
    record {
      saved = words_saved Amd64 11 x v s.sp (stub_area Amd64) ms w t refl apart rises refl refl;
      stored = stand_from x ms (G 11 ∷ []) s t p.memory refl told (went Amd64 11 x ms t refl);
      area = word_for_exit Amd64 11 x v s.sp (stub_area Amd64) ms w t refl apart rises refl;
      others = told;
      sp = ap (number_of 8) (word_of_sp Amd64 11 x v s.sp (stub_area Amd64) ms w t refl apart rises refl refl);
      pc = behind;
      memory = λ a low region word_out. elsewhere Amd64 11 x v s.sp (stub_area Amd64) ms w t refl apart rises a refl low region word_out;
      limit = refl;
      code = refl;
    }

pub enters : (from : ℕ) → IsSource Amd64 from → Enters Amd64 from (host_bytes Amd64 from 0 Entry)
enters from source s is sixteen low room to =
    let x : ℕ = s.general from in
    let fits : 56 ≤ s.sp = omega (arith, room) in
    let in_stack : s.limit ≤ s.sp - 56 = omega (arith, room) in
    let apart : (x + 552 ≤ s.sp - 56) ⊎ (s.sp ≤ x) = apart_from x s.limit (s.sp - 56) s.sp in_stack is.region in
    let above : IsRegionKept x (s.sp - 56) s = ⊎_elim (λ h. inl h) (λ h. inr (omega (arith, h))) is.region in
    (after_entry x s, in_turn Amd64 26 s (after_entry x s) (entry_runs s from source is above low fits), has_entered s from x apart fits)
