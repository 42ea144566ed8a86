-- The four stubs of AArch64, wherever they and the exchange region stand.
use Rattle.std.proofs.Common.{◌≡◌, ◌⊎◌, inl, inr, ⊎_elim, ℕ, ◌+◌, ◌-◌, ◌*◌, ◌%◌, ◌<◌, ◌≤◌, false, List, [], ◌∷◌, ◌++◌, length, refl, sym, ap, ◌∙◌, subst, arith, lit<, lit≤, pos}
use Rattle.std.specs.Prelude.{◌-ℤ◌}
use Rattle.ffi3_machine_spec.specs.Memory.{number_of}
use Rattle.ffi3_isa.specs.Aarch64.{stub, blr, ret}
use Rattle.ffi3_isa.specs.declared.Instr.TheVariants.{Blr, Br}
use Rattle.ffi3_type_spec.specs.declared.Isa.TheVariants.{Aarch64}
use Rattle.ffi3_place_spec.specs.declared.Loc.{Loc}
use Rattle.ffi3_place_spec.specs.declared.Loc.TheVariants.{G}
use Rattle.ffi3_place_spec.specs.StubRegisters.{call_loads, stub_area, callee_saved_words, entry_stores, result_loads}
use Rattle.ffi3_machine_spec.specs.declared.stub.TheConstants.{AREA_AT, CALLEE_AT, CALL_SP_AT, ENTRY_SP_AT, RETURN_SP_AT}
use Rattle.ffi3_machine_spec.specs.Stubs.{Entry, Exit, Call, Return}
use Rattle.ffi3_machine.specs.MachineStep.{moved}
use Rattle.ffi3_stubs.specs.Calls.{same_loc, is_in}
use Rattle.ffi3_stubs.proofs.Reading.{in_neither}
use Rattle.ffi3_host_stubs.specs.Processor.{Processor, half, word_at, set_at}
use Rattle.ffi3_host_stubs.specs.Stubs.{host_rows, host_bytes}
use Rattle.ffi3_host_stubs.specs.Calls.{held, IsSource, IsAtStub, IsRegionKept, HasCalled, Calls, HasReturned, Returns, HasEntered, Enters, HasLeft, Leaves}
use Rattle.ffi3_host_stubs.proofs.Standing.{plain, wraps, unmoved, apart_from, TakesBy, in_turn}
use Rattle.ffi3_host_stubs.proofs.Effects.{received, with_sp_by, stored, in_exchange, in_area, from_places, to_places}
use Rattle.ffi3_host_stubs.proofs.Memory.{none_of_two, received_other, others_stay, are_apart, Hold, came, are_disjoint, hold_still, from_area, Misses, bytes_stay, are_clear, word_stays, are_below, are_spread, Stand, went, stand_from, neither}
use Rattle.ffi3_host_stubs.proofs.Rows.{names, fine, source_of, Leads, begins, jumps, points, Points, load_one, store_one, loads, stores, copies, sums_sp, from_source}
use Rattle.ffi3_host_stubs.proofs.Aarch64Rows.{word_says, load_law, store_law, sum_says, fall_says}
use Rattle.ffi3_host_stubs.proofs.EntryMemory.{words_saved, word_for_exit, word_of_sp, elsewhere}

in_set : (from : ℕ) → from < 31 → from < 32
in_set from h = omega (arith, h)

in_half : (x : ℕ) → x + 552 ≤ half → x ≤ half
in_half x far = omega (arith, far)

-- ---- Call

abbrev call_placed : ℕ → Processor → Processor
call_placed x s =
    with_sp_by 4 (word_at (x + CALL_SP_AT) s) (received 4 (G 16) (word_at (x + CALL_SP_AT) s) (received 4 (G 17) x s))

abbrev call_loaded : ℕ → Processor → Processor
call_loaded x s = from_places Aarch64 17 x (in_exchange (call_loads Aarch64)) (call_placed x s)

abbrev call_ready : ℕ → Processor → Processor
call_ready x s = received 4 (G 16) (word_at (x + CALLEE_AT) (call_loaded x s)) (call_loaded x s)

-- the return address goes to x30
abbrev after_call : ℕ → Processor → Processor
after_call x s = record (received 4 (G 30) ((call_ready x s).pc + 4) (call_ready x s)) {
  pc = word_at (x + CALLEE_AT) (call_loaded x s);
}

call_runs : (s : Processor) (from : ℕ) → IsSource Aarch64 from → IsAtStub Aarch64 (s.general from) (host_bytes Aarch64 from 0 Call) s → word_at (s.general from + CALL_SP_AT) s ≤ half → IsRegionKept (s.general from) (word_at (s.general from + CALL_SP_AT) s) s → TakesBy Aarch64 22 s (after_call (s.general from) s)
unfolding host_bytes names fine
call_runs s from source is low under =
    let x : ℕ = s.general from in
    let w : ℕ = word_at (x + CALL_SP_AT) s in
    let placed = points Aarch64 17 x (call_placed x s) refl refl is.high under in
    let loaded = points Aarch64 17 x (call_loaded x s) refl refl is.high under in
    let a0 = begins Aarch64 s (host_rows Aarch64 from 0 Call) is.aligned is.code in
    let a1 = copies 17 from 4 x (pos 0) (source_of Aarch64 32 17 refl) (sum_says 17 from 0 (lit< tt) (in_set from source.in_range) (lit< tt)) (from_source Aarch64 from s source (in_half x is.high)) a0 in
    let a2 = load_one 32 17 x 552 (G 16) CALL_SP_AT (load_law 17 (lit< tt)) refl refl (lit< tt) (lit≤ tt) (points Aarch64 17 x (received 4 (G 17) x s) refl refl is.high is.region) a1 in
    let a3 = sums_sp 16 4 w (pos 0) (sum_says 31 16 0 (lit< tt) (lit< tt) (lit< tt)) (unmoved w low) a2 in
    let a4 = loads 20 32 17 x 552 (in_exchange (call_loads Aarch64)) (load_law 17 (lit< tt)) refl refl placed a3 in
    let a5 = load_one 32 17 x 552 (G 16) CALLEE_AT (load_law 17 (lit< tt)) refl refl (lit< tt) (lit≤ tt) loaded a4 in
    let r : Processor = call_ready x s in
    jumps (λ pc. record r { general = set_at 30 pc r.general; pc = r.general 16 }) (word_says 0xD63F0200 (Blr 16) (lit< tt) (stub (blr {n = 16} (lit< tt) refl))) tt tt refl a5

has_called : (s : Processor) (from x : ℕ) → HasCalled Aarch64 x (s.pc + length (host_bytes Aarch64 from 0 Call)) s (after_call x s)
unfolding host_bytes are_apart are_disjoint Hold
has_called s from x =
    let m : Processor = call_loaded x s in
    let t : Processor = call_placed x s in
    let r : Processor = call_ready x s in
    let e : Processor = after_call x s in
    let behind : r.pc + 4 ≡ s.pc + length (host_bytes Aarch64 from 0 Call) = omega arith in
    let late : (l : Loc) → is_in l (G 16 ∷ G 30 ∷ []) ≡ false → held l e ≡ held l m = λ l out.
    let p = none_of_two l 16 30 [] out in
    received_other 4 (r.pc + 4) l (G 30) r p.1 ∙ received_other 4 (word_at (x + CALLEE_AT) m) l (G 16) m p.0 in
    record {
      loaded = hold_still (λ at. word_at (x + at) s) (in_exchange (call_loads Aarch64)) (G 16 ∷ G 30 ∷ []) m e refl late (came Aarch64 17 x (in_exchange (call_loads Aarch64)) t refl);
      others = λ l out.
          let p = neither (same_loc l (G 17)) (is_in l (G 16 ∷ G 30 ∷ call_loads Aarch64)) out in
          let q = none_of_two l 16 30 (call_loads Aarch64) p.1 in
          received_other 4 (r.pc + 4) l (G 30) r q.1 ∙ received_other 4 (word_at (x + CALLEE_AT) m) l (G 16) m q.0 ∙ others_stay Aarch64 17 x (in_exchange (call_loads Aarch64)) t l q.2 ∙ received_other 4 (word_at (x + CALL_SP_AT) s) l (G 16) (received 4 (G 17) x s) q.0 ∙ received_other 4 x l (G 17) s p.0;
      sp = omega arith;
      pc = refl;
      link = behind;
      memory = λ a out. refl;
      limit = refl;
      code = refl;
    }

pub calls_by : (from : ℕ) → IsSource Aarch64 from → Calls Aarch64 from (host_bytes Aarch64 from 0 Call)
calls_by from source s is room over low under callee =
    let x : ℕ = s.general from in
    (after_call x s, in_turn Aarch64 22 s (after_call x s) (call_runs s from source is low under), has_called s from x)

-- ---- Return

abbrev return_taken : ℕ → Processor → Processor
return_taken x s = to_places Aarch64 16 x (in_exchange (result_loads Aarch64)) (received 4 (G 16) x s)

abbrev return_ready : ℕ → Processor → Processor
return_ready x s = received 4 (G 17) (word_at (x + RETURN_SP_AT) (return_taken x s)) (return_taken x s)

abbrev after_return : ℕ → Processor → Processor
after_return x s = with_sp_by 4 (word_at (x + RETURN_SP_AT) (return_taken x s)) (return_ready x s)

-- what is read behind the registers is as it was
return_word : (s : Processor) (x : ℕ) → word_at (x + RETURN_SP_AT) (return_taken x s) ≡ word_at (x + RETURN_SP_AT) s
unfolding are_clear
return_word s x =
    ap (number_of 8) (word_stays Aarch64 16 x (in_exchange (result_loads Aarch64)) (received 4 (G 16) x s) RETURN_SP_AT refl)

return_runs : (s : Processor) (from : ℕ) → IsSource Aarch64 from → IsAtStub Aarch64 (s.general from) (host_bytes Aarch64 from 0 Return) s → word_at (s.general from + RETURN_SP_AT) s ≤ half → TakesBy Aarch64 9 s (after_return (s.general from) s)
unfolding host_bytes names fine
return_runs s from source is low =
    let x : ℕ = s.general from in
    let v : ℕ = word_at (x + RETURN_SP_AT) (return_taken x s) in
    let small : v ≤ half = subst (λ (a : ℕ). a ≤ half) (sym (return_word s x)) low in
    let a0 = begins Aarch64 s (host_rows Aarch64 from 0 Return) is.aligned is.code in
    let a1 = copies 16 from 4 x (pos 0) (source_of Aarch64 32 16 refl) (sum_says 16 from 0 (lit< tt) (in_set from source.in_range) (lit< tt)) (from_source Aarch64 from s source (in_half x is.high)) a0 in
    let a2 = stores 7 32 16 x 552 (in_exchange (result_loads Aarch64)) (store_law 16 (lit< tt)) refl refl (points Aarch64 16 x (received 4 (G 16) x s) refl refl is.high is.region) a1 in
    let a3 = load_one 32 16 x 552 (G 17) RETURN_SP_AT (load_law 16 (lit< tt)) refl refl (lit< tt) (lit≤ tt) (points Aarch64 16 x (return_taken x s) refl refl is.high is.region) a2 in
    let a4 = sums_sp 17 4 v (pos 0) (sum_says 31 17 0 (lit< tt) (lit< tt) (lit< tt)) (unmoved v small) a3 in
    a4.led.steps

has_returned : (s : Processor) (from x : ℕ) → HasReturned Aarch64 x (s.pc + length (host_bytes Aarch64 from 0 Return)) s (after_return x s)
unfolding host_bytes are_spread are_clear are_disjoint Stand Misses
has_returned s from x =
    let t : Processor = received 4 (G 16) x s in
    let m : Processor = return_taken x s in
    let e : Processor = after_return x s in
    let behind : e.pc ≡ s.pc + length (host_bytes Aarch64 from 0 Return) = omega arith in
    record {
      stored = stand_from x (in_exchange (result_loads Aarch64)) (G 16 ∷ []) s t m.memory refl (λ l out. received_other 4 x l (G 16) s (neither (same_loc l (G 16)) false out).0) (went Aarch64 16 x (in_exchange (result_loads Aarch64)) t refl);
      others = λ l out.
          let p = none_of_two l 16 17 [] out in
          received_other 4 (word_at (x + RETURN_SP_AT) m) l (G 17) m p.1 ∙ received_other 4 x l (G 16) s p.0;
      sp = return_word s x;
      pc = behind;
      memory = λ a out. bytes_stay Aarch64 16 x (in_exchange (result_loads Aarch64)) t a out;
      limit = refl;
      code = refl;
    }

pub returns_back : (from : ℕ) → IsSource Aarch64 from → Returns Aarch64 from (host_bytes Aarch64 from 0 Return)
returns_back from source s is low under =
    let x : ℕ = s.general from in
    (after_return x s, in_turn Aarch64 9 s (after_return x s) (return_runs s from source is low), has_returned s from x)

-- ---- Exit

abbrev exit_placed : ℕ → Processor → Processor
exit_placed x s =
    with_sp_by 4 (word_at (x + AREA_AT) s) (received 4 (G 17) (word_at (x + AREA_AT) s) (received 4 (G 16) x s))

abbrev exit_restored : ℕ → Processor → Processor
exit_restored x s =
    from_places Aarch64 31 (word_at (x + AREA_AT) s) (in_area 0 (callee_saved_words Aarch64)) (exit_placed x s)

abbrev exit_given : ℕ → Processor → Processor
exit_given x s = from_places Aarch64 16 x (in_exchange (result_loads Aarch64)) (exit_restored x s)

abbrev exit_raised : ℕ → ℕ → Processor → Processor
exit_raised x gap s = with_sp_by 4 (word_at (x + AREA_AT) s + (176 + gap)) (exit_given x s)

abbrev after_exit : ℕ → ℕ → Processor → Processor
after_exit x gap s = record (exit_raised x gap s) { pc = (exit_raised x gap s).general 30 }

exit_runs : (s : Processor) (from gap : ℕ) → IsSource Aarch64 from → gap ≤ 1024 → IsAtStub Aarch64 (s.general from) (host_bytes Aarch64 from gap Exit) s → word_at (s.general from + AREA_AT) s % 16 ≡ 0 → IsRegionKept (s.general from) (word_at (s.general from + AREA_AT) s) s → word_at (s.general from + AREA_AT) s + (176 + gap) + 0 ≤ half → TakesBy Aarch64 31 s (after_exit (s.general from) gap s)
unfolding host_bytes names fine
exit_runs s from gap source room is sixteen under top =
    let x : ℕ = s.general from in
    let v : ℕ = word_at (x + AREA_AT) s in
    let low : v ≤ half = omega (arith, top) in
    let area : Points Aarch64 31 v 176 (exit_placed x s) = record { at = refl; based = λ e. sixteen; kept = λ o lies. inr (omega arith); far = omega (arith, top) } in
    let a0 = begins Aarch64 s (host_rows Aarch64 from gap Exit) is.aligned is.code in
    let a1 = copies 16 from 4 x (pos 0) (source_of Aarch64 32 16 refl) (sum_says 16 from 0 (lit< tt) (in_set from source.in_range) (lit< tt)) (from_source Aarch64 from s source (in_half x is.high)) a0 in
    let a2 = load_one 32 16 x 552 (G 17) AREA_AT (load_law 16 (lit< tt)) refl refl (lit< tt) (lit≤ tt) (points Aarch64 16 x (received 4 (G 16) x s) refl refl is.high is.region) a1 in
    let a3 = sums_sp 17 4 v (pos 0) (sum_says 31 17 0 (lit< tt) (lit< tt) (lit< tt)) (unmoved v low) a2 in
    let a4 = loads 23 32 31 v 176 (in_area 0 (callee_saved_words Aarch64)) (load_law 31 (lit< tt)) refl refl area a3 in
    let a5 = loads 29 32 16 x 552 (in_exchange (result_loads Aarch64)) (load_law 16 (lit< tt)) refl refl (points Aarch64 16 x (exit_restored x s) refl refl is.high under) a4 in
    let a6 = sums_sp 31 4 (v + (176 + gap)) (pos (176 + gap)) (sum_says 31 31 (176 + gap) (lit< tt) (lit< tt) (omega (arith, room))) (plain v (176 + gap) (v + (176 + gap)) refl (omega (arith, top))) a5 in
    let r : Processor = exit_raised x gap s in
    jumps (λ pc. record r { pc = r.general 30 }) (word_says 0xD65F03C0 (Br 30) (lit< tt) (stub (ret {n = 30} (lit< tt) refl))) tt tt refl a6

has_left : (s : Processor) (x gap : ℕ) → HasLeft Aarch64 x (word_at (x + AREA_AT) s) gap s (after_exit x gap s)
unfolding are_apart are_disjoint Hold
has_left s x gap =
    let v : ℕ = word_at (x + AREA_AT) s in
    let t : Processor = exit_placed x s in
    let m : Processor = exit_restored x s in
    let e : Processor = after_exit x gap s in
    let at : v + 0 ≡ v = omega arith in
    let after : (l : Loc) → is_in l (result_loads Aarch64) ≡ false → held l e ≡ held l m = λ l out. others_stay Aarch64 16 x (in_exchange (result_loads Aarch64)) m l out in
    record {
      restored = from_area v 0 v (callee_saved_words Aarch64) s e at (hold_still (λ i. word_at (v + i) s) (in_area 0 (callee_saved_words Aarch64)) (result_loads Aarch64) m e refl after (came Aarch64 31 v (in_area 0 (callee_saved_words Aarch64)) t refl));
      loaded = came Aarch64 16 x (in_exchange (result_loads Aarch64)) m refl;
      others = λ l out.
          let p = none_of_two l 16 17 (callee_saved_words Aarch64 ++ result_loads Aarch64) out in
          let more = in_neither l (callee_saved_words Aarch64) (result_loads Aarch64) p.2 in
          after l more.1 ∙ others_stay Aarch64 31 v (in_area 0 (callee_saved_words Aarch64)) t l more.0 ∙ received_other 4 v l (G 17) (received 4 (G 16) x s) p.1 ∙ received_other 4 x l (G 16) s p.0;
      sp = omega arith;
      pc = refl;
      memory = refl;
      limit = refl;
      code = refl;
    }

pub leaves : (from gap : ℕ) → IsSource Aarch64 from → gap ≤ 1024 → Leaves Aarch64 from gap (host_bytes Aarch64 from gap Exit)
leaves from gap source room s is sixteen over under back top =
    let x : ℕ = s.general from in
    (after_exit x gap s, in_turn Aarch64 31 s (after_exit x gap s) (exit_runs s from gap source room is sixteen under top), has_left s x gap)

-- ---- Entry

abbrev entry_fallen : Processor → Processor
entry_fallen s = with_sp_by 4 (s.sp - 176) s

abbrev entry_saved : Processor → Processor
entry_saved s = to_places Aarch64 31 (s.sp - 176) (in_area 0 (stub_area Aarch64)) (entry_fallen s)

abbrev entry_told : ℕ → Processor → Processor
entry_told x s = received 4 (G 9) (s.sp - 176) (received 4 (G 16) x (entry_saved s))

abbrev entry_noted : ℕ → Processor → Processor
entry_noted x s = stored 4 (x + AREA_AT) (s.sp - 176) (entry_told x s)

abbrev entry_passed : ℕ → Processor → Processor
entry_passed x s = to_places Aarch64 16 x (in_exchange (entry_stores Aarch64)) (entry_noted x s)

abbrev entry_ready : ℕ → Processor → Processor
entry_ready x s = received 4 (G 16) (word_at (x + ENTRY_SP_AT) (entry_passed x s)) (entry_passed x s)

abbrev after_entry : ℕ → Processor → Processor
after_entry x s = with_sp_by 4 (word_at (x + ENTRY_SP_AT) (entry_passed x s)) (entry_ready x s)

entry_word : (s : Processor) (x : ℕ) → 176 ≤ s.sp → (x + 552 ≤ s.sp - 176) ⊎ (s.sp ≤ x) → word_at (x + ENTRY_SP_AT) (entry_passed x s) ≡ word_at (x + ENTRY_SP_AT) s
unfolding are_clear are_below
entry_word s x room apart =
    ap (number_of 8) (word_of_sp Aarch64 16 x (s.sp - 176) s.sp (stub_area Aarch64) (in_exchange (entry_stores Aarch64)) (entry_fallen s) (entry_noted x s) refl apart (omega (arith, room)) refl refl)

-- numbers of the entry, over plain variables
lower_sixteen : (sp p : ℕ) → sp ≡ p + 176 → sp % 16 ≡ 0 → p % 16 ≡ 0
lower_sixteen sp p e h = omega (arith, e, h)

falls : (sp p : ℕ) → sp ≡ p + 176 → sp ≤ half → moved sp (pos 0 -ℤ pos 176) ≡ p
falls sp p e low = wraps sp 18446744073709551440 p (omega (arith, e)) (omega (arith, e, low))

entry_runs : (s : Processor) (from : ℕ) → IsSource Aarch64 from → IsAtStub Aarch64 (s.general from) (host_bytes Aarch64 from 0 Entry) s → s.sp % 16 ≡ 0 → IsRegionKept (s.general from) (s.sp - 176) s → s.sp ≤ half → (s.general from + 552 ≤ s.sp - 176) ⊎ (s.sp ≤ s.general from) → 176 ≤ s.sp → word_at (s.general from + ENTRY_SP_AT) s ≤ s.sp - 176 → TakesBy Aarch64 45 s (after_entry (s.general from) s)
unfolding host_bytes names fine
entry_runs s from source is sixteen above low apart room to =
    let x : ℕ = s.general from in
    let p : ℕ = s.sp - 176 in
    let v : ℕ = word_at (x + ENTRY_SP_AT) (entry_passed x s) in
    let fallen : s.sp ≡ p + 176 = omega (arith, room) in
    let small : v ≤ half = subst (λ (a : ℕ). a ≤ half) (sym (entry_word s x room apart)) (omega (arith, to, low)) in
    let area : Points Aarch64 31 p 176 (entry_fallen s) = record { at = refl; based = λ e. lower_sixteen s.sp p fallen sixteen; kept = λ o lies. inr (omega arith); far = omega (arith, fallen, low) } in
    let a0 = begins Aarch64 s (host_rows Aarch64 from 0 Entry) is.aligned is.code in
    let a1 = sums_sp 31 4 p (pos 0 -ℤ pos 176) fall_says (falls s.sp p fallen low) a0 in
    let a2 = stores 22 32 31 p 176 (in_area 0 (stub_area Aarch64)) (store_law 31 (lit< tt)) refl refl area a1 in
    let a3 = copies 16 from 4 x (pos 0) (source_of Aarch64 32 16 refl) (sum_says 16 from 0 (lit< tt) (in_set from source.in_range) (lit< tt)) (from_source Aarch64 from (entry_saved s) source (in_half x is.high)) a2 in
    let a4 = copies 9 31 4 p (pos 0) (source_of Aarch64 32 9 refl) (sum_says 9 31 0 (lit< tt) (lit< tt) (lit< tt)) (unmoved p (omega (arith, fallen, low))) a3 in
    let a5 = store_one 32 16 x 552 (G 9) AREA_AT (store_law 16 (lit< tt)) refl refl (lit< tt) (lit≤ tt) (points Aarch64 16 x (entry_told x s) refl refl is.high above) a4 in
    let a6 = stores 43 32 16 x 552 (in_exchange (entry_stores Aarch64)) (store_law 16 (lit< tt)) refl refl (points Aarch64 16 x (entry_noted x s) refl refl is.high above) a5 in
    let a7 = load_one 32 16 x 552 (G 16) ENTRY_SP_AT (load_law 16 (lit< tt)) refl refl (lit< tt) (lit≤ tt) (points Aarch64 16 x (entry_passed x s) refl refl is.high above) a6 in
    let a8 = sums_sp 16 4 v (pos 0) (sum_says 31 16 0 (lit< tt) (lit< tt) (lit< tt)) (unmoved v small) a7 in
    a8.led.steps

pc_after : (ms : List (Loc × ℕ)) (b x : ℕ) (s : Processor) → (to_places Aarch64 b x ms s).pc ≡ s.pc + 4 * length ms
pc_after [] b x s = omega arith
pc_after (m ∷ ms) b x s = pc_after ms b x (stored 4 (x + m.1) (held m.0 s) s) ∙ omega arith

all_in_all : (a b c : ℕ) → b ≡ a + 4 + 84 → c ≡ b + 4 + 4 + 4 + 72 → c + 4 + 4 ≡ a + 180
all_in_all a b c e f = omega (arith, e, f)

has_entered : (s : Processor) (from x : ℕ) → (x + 552 ≤ s.sp - 176) ⊎ (s.sp ≤ x) → 176 ≤ s.sp → HasEntered Aarch64 x (s.pc + length (host_bytes Aarch64 from 0 Entry)) s (after_entry x s)
unfolding host_bytes are_spread are_clear are_below are_disjoint Stand Misses
has_entered s from x apart room =
    let w : Processor = entry_fallen s in
    let b : Processor = received 4 (G 16) x (entry_saved s) in
    let t : Processor = entry_noted x s in
    let p : Processor = entry_passed x s in
    let v : ℕ = s.sp - 176 in
    let ms : List (Loc × ℕ) = in_exchange (entry_stores Aarch64) in
    let told : (l : Loc) → is_in l (G 16 ∷ G 9 ∷ []) ≡ false → held l t ≡ held l s = λ l out.
    let q = none_of_two l 16 9 [] out in
    received_other 4 v l (G 9) b q.1 ∙ received_other 4 x l (G 16) (entry_saved s) q.0 in
    record {
      saved = words_saved Aarch64 16 x v s.sp (stub_area Aarch64) ms w t refl apart (omega (arith, room)) refl refl;
      stored = stand_from x ms (G 16 ∷ G 9 ∷ []) s t p.memory refl told (went Aarch64 16 x ms t refl);
      area = word_for_exit Aarch64 16 x v s.sp (stub_area Aarch64) ms w t refl apart (omega (arith, room)) refl;
      others = λ l out. received_other 4 (word_at (x + ENTRY_SP_AT) p) l (G 16) p (none_of_two l 16 9 [] out).0 ∙ told l out;
      sp = entry_word s x room apart;
      pc = all_in_all s.pc (entry_saved s).pc p.pc (pc_after (in_area 0 (stub_area Aarch64)) 31 v w) (pc_after ms 16 x t);
      memory = λ a low region word_out. elsewhere Aarch64 16 x v s.sp (stub_area Aarch64) ms w t refl apart (omega (arith, room)) a refl low region word_out;
      limit = refl;
      code = refl;
    }

pub enters : (from : ℕ) → IsSource Aarch64 from → Enters Aarch64 from (host_bytes Aarch64 from 0 Entry)
enters from source s is sixteen low room to =
    let x : ℕ = s.general from in
    let fits : 176 ≤ s.sp = omega (arith, room) in
    let in_stack : s.limit ≤ s.sp - 176 = omega (arith, room) in
    let apart : (x + 552 ≤ s.sp - 176) ⊎ (s.sp ≤ x) = apart_from x s.limit (s.sp - 176) s.sp in_stack is.region in
    let above : IsRegionKept x (s.sp - 176) s = ⊎_elim (λ h. inl h) (λ h. inr (omega (arith, h))) is.region in
    (after_entry x s, in_turn Aarch64 45 s (after_entry x s) (entry_runs s from source is sixteen above low apart fits to), has_entered s from x apart fits)
