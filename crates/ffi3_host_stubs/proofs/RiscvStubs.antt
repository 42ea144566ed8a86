-- The four stubs of RISC-V, wherever they and the exchange region stand.
use Rattle.std.proofs.Common.{◌≡◌, ◌⊎◌, inl, inr, ⊎_elim, ℕ, ◌+◌, ◌-◌, ◌*◌, ◌<◌, ◌≤◌, false, List, [], ◌∷◌, ◌++◌, length, refl, sym, ap, ◌∙◌, subst, arith, lit<, lit≤, pos}
use Rattle.ffi3_machine_spec.specs.Memory.{number_of}
use Rattle.ffi3_isa.specs.Fields.{sign_extend}
use Rattle.ffi3_isa.specs.Riscv.{jalr}
use Rattle.ffi3_isa.specs.declared.Instr.TheVariants.{Jalr}
use Rattle.ffi3_type_spec.specs.declared.Isa.TheVariants.{Riscv}
use Rattle.ffi3_place_spec.specs.declared.Loc.{Loc}
use Rattle.ffi3_place_spec.specs.declared.Loc.TheVariants.{G}
use Rattle.ffi3_place_spec.specs.StubRegisters.{call_loads, stub_area, callee_saved_words, entry_stores, result_loads}
use Rattle.ffi3_machine_spec.specs.declared.stub.TheConstants.{AREA_AT, CALLEE_AT, CALL_SP_AT, ENTRY_SP_AT, RETURN_SP_AT}
use Rattle.ffi3_machine_spec.specs.Stubs.{Entry, Exit, Call, Return}
use Rattle.ffi3_machine.specs.MachineStep.{moved, even}
use Rattle.ffi3_stubs.specs.Calls.{same_loc, is_in}
use Rattle.ffi3_stubs.proofs.Reading.{in_neither}
use Rattle.ffi3_host_stubs.specs.Processor.{Processor, half, word_at, set_at, next}
use Rattle.ffi3_host_stubs.specs.Stubs.{host_rows, host_bytes}
use Rattle.ffi3_host_stubs.specs.Calls.{held, IsSource, IsAtStub, IsRegionKept, HasCalled, Calls, HasReturned, Returns, HasEntered, Enters, HasLeft, Leaves}
use Rattle.ffi3_host_stubs.proofs.Standing.{plain, wraps, unmoved, apart_from, TakesBy, in_turn}
use Rattle.ffi3_host_stubs.proofs.Effects.{received, with_sp_by, stored, in_exchange, in_area, from_places, to_places}
use Rattle.ffi3_host_stubs.proofs.Memory.{none_of_two, received_other, others_stay, are_apart, Hold, came, are_disjoint, hold_still, from_area, Misses, bytes_stay, are_clear, word_stays, are_below, are_spread, Stand, went, stand_from, neither}
use Rattle.ffi3_host_stubs.proofs.Rows.{names, fine, source_of, Leads, begins, jumps, points, Points, load_one, loads, stores, loads_sp, stores_sp, copies, sums_sp, from_source, register_is}
use Rattle.ffi3_host_stubs.proofs.RiscvRows.{up12, i_says, load_general, load_law, store_general, store_law, sum_says}
use Rattle.ffi3_host_stubs.proofs.EntryMemory.{words_saved, word_for_exit, word_of_sp, elsewhere}

in_half : (x : ℕ) → x + 552 ≤ half → x ≤ half
in_half x far = omega (arith, far)

-- ---- Call

abbrev call_placed : ℕ → Processor → Processor
call_placed x s = with_sp_by 4 (word_at (x + CALL_SP_AT) s) (received 4 (G 6) x s)

abbrev call_loaded : ℕ → Processor → Processor
call_loaded x s = from_places Riscv 6 x (in_exchange (call_loads Riscv)) (call_placed x s)

abbrev call_ready : ℕ → Processor → Processor
call_ready x s = received 4 (G 7) (word_at (x + CALLEE_AT) (call_loaded x s)) (call_loaded x s)

-- the return address goes to ra
abbrev after_call : ℕ → Processor → Processor
after_call x s = record (received 4 (G 1) ((call_ready x s).pc + 4) (call_ready x s)) {
  pc = even (word_at (x + CALLEE_AT) (call_loaded x s));
}

call_runs : (s : Processor) (from : ℕ) → IsSource Riscv from → IsAtStub Riscv (s.general from) (host_bytes Riscv from 0 Call) s → IsRegionKept (s.general from) (word_at (s.general from + CALL_SP_AT) s) s → word_at (s.general from + CALLEE_AT) s ≤ half → TakesBy Riscv 20 s (after_call (s.general from) s)
unfolding host_bytes names fine
call_runs s from source is under callee =
    let x : ℕ = s.general from in
    let placed = points Riscv 6 x (call_placed x s) refl refl is.high under in
    let loaded = points Riscv 6 x (call_loaded x s) refl refl is.high under in
    let a0 = begins Riscv s (host_rows Riscv from 0 Call) is.aligned is.code in
    let a1 = copies 6 from 4 x (pos 0) (source_of Riscv 32 6 refl) (sum_says 6 from 0 (lit< tt) source.in_range (lit< tt)) (from_source Riscv from s source (in_half x is.high)) a0 in
    let a2 = loads_sp 6 x 552 CALL_SP_AT 4 (load_general 6 2 CALL_SP_AT (lit< tt) (lit< tt) (lit< tt)) (λ v. refl) (lit≤ tt) (points Riscv 6 x (received 4 (G 6) x s) refl refl is.high is.region) a1 in
    let a3 = loads 18 32 6 x 552 (in_exchange (call_loads Riscv)) (load_law 6 (lit< tt)) refl refl placed a2 in
    let a4 = load_one 32 6 x 552 (G 7) CALLEE_AT (load_law 6 (lit< tt)) refl refl (lit< tt) (lit≤ tt) loaded a3 in
    let r : Processor = call_ready x s in
    let to : moved (r.general 7) (sign_extend 12 0) ≡ word_at (x + CALLEE_AT) (call_loaded x s) = unmoved (word_at (x + CALLEE_AT) s) callee in
    jumps (λ pc. record r { general = set_at 1 pc r.general; pc = even (word_at (x + CALLEE_AT) (call_loaded x s)) }) (i_says 0 7 0b000 1 0b1100111 (Jalr 1 7 (sign_extend 12 0)) (lit< tt) (lit< tt) (lit< tt) (lit< tt) (lit< tt) (λ w f. jalr f)) tt tt (ap (λ (a : ℕ). let t : Processor = record r { general = set_at 1 (next 4 r) r.general; pc = even a } in t) to) a4

has_called : (s : Processor) (from x : ℕ) → HasCalled Riscv x (s.pc + length (host_bytes Riscv from 0 Call)) s (after_call x s)
unfolding host_bytes are_apart are_disjoint Hold
has_called s from x =
    let m : Processor = call_loaded x s in
    let t : Processor = call_placed x s in
    let r : Processor = call_ready x s in
    let e : Processor = after_call x s in
    let behind : r.pc + 4 ≡ s.pc + length (host_bytes Riscv from 0 Call) = omega arith in
    let late : (l : Loc) → is_in l (G 7 ∷ G 1 ∷ []) ≡ false → held l e ≡ held l m = λ l out.
    let p = none_of_two l 7 1 [] out in
    received_other 4 (r.pc + 4) l (G 1) r p.1 ∙ received_other 4 (word_at (x + CALLEE_AT) m) l (G 7) m p.0 in
    record {
      loaded = hold_still (λ at. word_at (x + at) s) (in_exchange (call_loads Riscv)) (G 7 ∷ G 1 ∷ []) m e refl late (came Riscv 6 x (in_exchange (call_loads Riscv)) t refl);
      others = λ l out.
          let p = neither (same_loc l (G 6)) (is_in l (G 7 ∷ G 1 ∷ call_loads Riscv)) out in
          let q = none_of_two l 7 1 (call_loads Riscv) p.1 in
          received_other 4 (r.pc + 4) l (G 1) r q.1 ∙ received_other 4 (word_at (x + CALLEE_AT) m) l (G 7) m q.0 ∙ others_stay Riscv 6 x (in_exchange (call_loads Riscv)) t l q.2 ∙ received_other 4 x l (G 6) s p.0;
      sp = omega arith;
      pc = refl;
      link = behind;
      memory = λ a out. refl;
      limit = refl;
      code = refl;
    }

pub calls_by : (from : ℕ) → IsSource Riscv from → Calls Riscv from (host_bytes Riscv from 0 Call)
calls_by from source s is room over low under callee =
    let x : ℕ = s.general from in
    (after_call x s, in_turn Riscv 20 s (after_call x s) (call_runs s from source is under callee), has_called s from x)

-- ---- Return

abbrev return_taken : ℕ → Processor → Processor
return_taken x s = to_places Riscv 6 x (in_exchange (result_loads Riscv)) (received 4 (G 6) x s)

abbrev after_return : ℕ → Processor → Processor
after_return x s = with_sp_by 4 (word_at (x + RETURN_SP_AT) (return_taken x s)) (return_taken x s)

return_runs : (s : Processor) (from : ℕ) → IsSource Riscv from → IsAtStub Riscv (s.general from) (host_bytes Riscv from 0 Return) s → TakesBy Riscv 6 s (after_return (s.general from) s)
unfolding host_bytes names fine
return_runs s from source is =
    let x : ℕ = s.general from in
    let a0 = begins Riscv s (host_rows Riscv from 0 Return) is.aligned is.code in
    let a1 = copies 6 from 4 x (pos 0) (source_of Riscv 32 6 refl) (sum_says 6 from 0 (lit< tt) source.in_range (lit< tt)) (from_source Riscv from s source (in_half x is.high)) a0 in
    let a2 = stores 5 32 6 x 552 (in_exchange (result_loads Riscv)) (store_law 6 (lit< tt)) refl refl (points Riscv 6 x (received 4 (G 6) x s) refl refl is.high is.region) a1 in
    let a3 = loads_sp 6 x 552 RETURN_SP_AT 4 (load_general 6 2 RETURN_SP_AT (lit< tt) (lit< tt) (lit< tt)) (λ v. refl) (lit≤ tt) (points Riscv 6 x (return_taken x s) refl refl is.high is.region) a2 in
    a3.led.steps

has_returned : (s : Processor) (from x : ℕ) → HasReturned Riscv x (s.pc + length (host_bytes Riscv from 0 Return)) s (after_return x s)
unfolding host_bytes are_spread are_clear are_disjoint Stand Misses
has_returned s from x =
    let t : Processor = received 4 (G 6) x s in
    let m : Processor = return_taken x s in
    let e : Processor = after_return x s in
    let behind : e.pc ≡ s.pc + length (host_bytes Riscv from 0 Return) = omega arith in
    let stay : (l : Loc) → is_in l (G 6 ∷ []) ≡ false → held l t ≡ held l s = λ l out. received_other 4 x l (G 6) s (neither (same_loc l (G 6)) false out).0 in
    record {
      stored = stand_from x (in_exchange (result_loads Riscv)) (G 6 ∷ []) s t m.memory refl stay (went Riscv 6 x (in_exchange (result_loads Riscv)) t refl);
      others = stay;
      sp = ap (number_of 8) (word_stays Riscv 6 x (in_exchange (result_loads Riscv)) t RETURN_SP_AT refl);
      pc = behind;
      memory = λ a out. bytes_stay Riscv 6 x (in_exchange (result_loads Riscv)) t a out;
      limit = refl;
      code = refl;
    }

pub returns_back : (from : ℕ) → IsSource Riscv from → Returns Riscv from (host_bytes Riscv from 0 Return)
returns_back from source s is low under =
    let x : ℕ = s.general from in
    (after_return x s, in_turn Riscv 6 s (after_return x s) (return_runs s from source is), has_returned s from x)

-- ---- Exit

abbrev exit_placed : ℕ → Processor → Processor
exit_placed x s = with_sp_by 4 (word_at (x + AREA_AT) s) (received 4 (G 6) x s)

abbrev exit_restored : ℕ → Processor → Processor
exit_restored x s =
    from_places Riscv 2 (word_at (x + AREA_AT) s) (in_area 0 (callee_saved_words Riscv)) (exit_placed x s)

abbrev exit_given : ℕ → Processor → Processor
exit_given x s = from_places Riscv 6 x (in_exchange (result_loads Riscv)) (exit_restored x s)

abbrev exit_raised : ℕ → ℕ → Processor → Processor
exit_raised x gap s = with_sp_by 4 (word_at (x + AREA_AT) s + (208 + gap)) (exit_given x s)

abbrev after_exit : ℕ → ℕ → Processor → Processor
after_exit x gap s = record (exit_raised x gap s) { pc = even ((exit_raised x gap s).general 1) }

-- the return address that was restored
link_is : (s : Processor) (x : ℕ) → (exit_given x s).general 1 ≡ word_at (word_at (x + AREA_AT) s) s
link_is s x =
    let a : ℕ = word_at (x + AREA_AT) s in
    let first : a + 0 ≡ a = omega arith in
    ap (λ (n : ℕ). word_at n s) first

exit_runs : (s : Processor) (from gap : ℕ) → IsSource Riscv from → gap ≤ 1024 → IsAtStub Riscv (s.general from) (host_bytes Riscv from gap Exit) s → IsRegionKept (s.general from) (word_at (s.general from + AREA_AT) s) s → word_at (word_at (s.general from + AREA_AT) s) s ≤ half → word_at (s.general from + AREA_AT) s + (208 + gap) + 0 ≤ half → TakesBy Riscv 33 s (after_exit (s.general from) gap s)
unfolding host_bytes names fine
exit_runs s from gap source room is under back_to top =
    let x : ℕ = s.general from in
    let v : ℕ = word_at (x + AREA_AT) s in
    let area : Points Riscv 2 v 208 (exit_placed x s) = record { at = refl; based = λ e. tt; kept = λ o lies. inr (omega arith); far = omega (arith, top) } in
    let a0 = begins Riscv s (host_rows Riscv from gap Exit) is.aligned is.code in
    let a1 = copies 6 from 4 x (pos 0) (source_of Riscv 32 6 refl) (sum_says 6 from 0 (lit< tt) source.in_range (lit< tt)) (from_source Riscv from s source (in_half x is.high)) a0 in
    let a2 = loads_sp 6 x 552 AREA_AT 4 (load_general 6 2 AREA_AT (lit< tt) (lit< tt) (lit< tt)) (λ w. refl) (lit≤ tt) (points Riscv 6 x (received 4 (G 6) x s) refl refl is.high is.region) a1 in
    let a3 = loads 27 32 2 v 208 (in_area 0 (callee_saved_words Riscv)) (load_law 2 (lit< tt)) refl refl area a2 in
    let a4 = loads 31 32 6 x 552 (in_exchange (result_loads Riscv)) (load_law 6 (lit< tt)) refl refl (points Riscv 6 x (exit_restored x s) refl refl is.high under) a3 in
    let a5 = sums_sp 2 4 (v + (208 + gap)) (sign_extend 12 (208 + gap)) (sum_says 2 2 (208 + gap) (lit< tt) (lit< tt) (omega (arith, room))) (up12 v (208 + gap) (v + (208 + gap)) (omega (arith, room)) refl (omega (arith, top))) a4 in
    let r : Processor = exit_raised x gap s in
    let low : r.general 1 ≤ half = subst (λ (n : ℕ). n ≤ half) (sym (link_is s x)) back_to in
    jumps (λ pc. record r { pc = even (r.general 1) }) (i_says 0 1 0b000 0 0b1100111 (Jalr 0 1 (sign_extend 12 0)) (lit< tt) (lit< tt) (lit< tt) (lit< tt) (lit< tt) (λ w f. jalr f)) tt tt (ap (λ (a : ℕ). let t : Processor = record r { pc = even a } in t) (unmoved (r.general 1) low)) a5

has_left : (s : Processor) (x gap : ℕ) → HasLeft Riscv x (word_at (x + AREA_AT) s) gap s (after_exit x gap s)
unfolding are_apart are_disjoint Hold
has_left s x gap =
    let v : ℕ = word_at (x + AREA_AT) s in
    let t : Processor = exit_placed x s in
    let m : Processor = exit_restored x s in
    let e : Processor = after_exit x gap s in
    let at : v + 0 ≡ v = omega arith in
    let after : (l : Loc) → is_in l (result_loads Riscv) ≡ false → held l e ≡ held l m = λ l out. others_stay Riscv 6 x (in_exchange (result_loads Riscv)) m l out in
    record {
      restored = from_area v 0 v (callee_saved_words Riscv) s e at (hold_still (λ i. word_at (v + i) s) (in_area 0 (callee_saved_words Riscv)) (result_loads Riscv) m e refl after (came Riscv 2 v (in_area 0 (callee_saved_words Riscv)) t refl));
      loaded = came Riscv 6 x (in_exchange (result_loads Riscv)) m refl;
      others = λ l out.
          let p = neither (same_loc l (G 6)) (is_in l (callee_saved_words Riscv ++ result_loads Riscv)) out in
          let more = in_neither l (callee_saved_words Riscv) (result_loads Riscv) p.1 in
          after l more.1 ∙ others_stay Riscv 2 v (in_area 0 (callee_saved_words Riscv)) t l more.0 ∙ received_other 4 x l (G 6) s p.0;
      sp = omega arith;
      pc = refl;
      memory = refl;
      limit = refl;
      code = refl;
    }

pub leaves : (from gap : ℕ) → IsSource Riscv from → gap ≤ 1024 → Leaves Riscv from gap (host_bytes Riscv from gap Exit)
leaves from gap source room s is sixteen over under back top =
    let x : ℕ = s.general from in
    (after_exit x gap s, in_turn Riscv 33 s (after_exit x gap s) (exit_runs s from gap source room is under back top), has_left s x gap)

-- ---- Entry

abbrev entry_fallen : Processor → Processor
entry_fallen s = with_sp_by 4 (s.sp - 208) s

abbrev entry_saved : Processor → Processor
entry_saved s = to_places Riscv 2 (s.sp - 208) (in_area 0 (stub_area Riscv)) (entry_fallen s)

abbrev entry_based : ℕ → Processor → Processor
entry_based x s = received 4 (G 7) x (entry_saved s)

abbrev entry_noted : ℕ → Processor → Processor
entry_noted x s = stored 4 (x + AREA_AT) (s.sp - 208) (entry_based x s)

abbrev entry_passed : ℕ → Processor → Processor
entry_passed x s = to_places Riscv 7 x (in_exchange (entry_stores Riscv)) (entry_noted x s)

abbrev after_entry : ℕ → Processor → Processor
after_entry x s = with_sp_by 4 (word_at (x + ENTRY_SP_AT) (entry_passed x s)) (entry_passed x s)

falls : (sp p : ℕ) → sp ≡ p + 208 → sp ≤ half → moved sp (sign_extend 12 3888) ≡ p
falls sp p e low = wraps sp 18446744073709551408 p (omega (arith, e)) (omega (arith, e, low))

entry_runs : (s : Processor) (from : ℕ) → IsSource Riscv from → IsAtStub Riscv (s.general from) (host_bytes Riscv from 0 Entry) s → IsRegionKept (s.general from) (s.sp - 208) s → s.sp ≤ half → 208 ≤ s.sp → TakesBy Riscv 47 s (after_entry (s.general from) s)
unfolding host_bytes names fine
entry_runs s from source is above low room =
    let x : ℕ = s.general from in
    let p : ℕ = s.sp - 208 in
    let fallen : s.sp ≡ p + 208 = omega (arith, room) in
    let area : Points Riscv 2 p 208 (entry_fallen s) = record { at = refl; based = λ e. tt; kept = λ o lies. inr (omega arith); far = omega (arith, fallen, low) } in
    let a0 = begins Riscv s (host_rows Riscv from 0 Entry) is.aligned is.code in
    let a1 = sums_sp 2 4 p (sign_extend 12 3888) (sum_says 2 2 3888 (lit< tt) (lit< tt) (lit< tt)) (falls s.sp p fallen low) a0 in
    let a2 = stores 27 32 2 p 208 (in_area 0 (stub_area Riscv)) (store_law 2 (lit< tt)) refl refl area a1 in
    let a3 = copies 7 from 4 x (pos 0) (source_of Riscv 32 7 refl) (sum_says 7 from 0 (lit< tt) source.in_range (lit< tt)) (from_source Riscv from (entry_saved s) source (in_half x is.high)) a2 in
    let a4 = stores_sp 7 x 552 AREA_AT 4 (store_general 7 2 AREA_AT (lit< tt) (lit< tt) (lit< tt)) refl (lit≤ tt) (points Riscv 7 x (entry_based x s) refl refl is.high above) a3 in
    let a5 = stores 46 32 7 x 552 (in_exchange (entry_stores Riscv)) (store_law 7 (lit< tt)) refl refl (points Riscv 7 x (entry_noted x s) refl refl is.high above) a4 in
    let a6 = loads_sp 7 x 552 ENTRY_SP_AT 4 (load_general 7 2 ENTRY_SP_AT (lit< tt) (lit< tt) (lit< tt)) (λ v. refl) (lit≤ tt) (points Riscv 7 x (entry_passed x s) refl refl is.high above) a5 in
    a6.led.steps

pc_after : (ms : List (Loc × ℕ)) (b x : ℕ) (s : Processor) → (to_places Riscv b x ms s).pc ≡ s.pc + 4 * length ms
pc_after [] b x s = omega arith
pc_after (m ∷ ms) b x s = pc_after ms b x (stored 4 (x + m.1) (held m.0 s) s) ∙ omega arith

all_in_all : (a b c : ℕ) → b ≡ a + 4 + 104 → c ≡ b + 4 + 4 + 68 → c + 4 ≡ a + 188
all_in_all a b c e f = omega (arith, e, f)

has_entered : (s : Processor) (from x : ℕ) → (x + 552 ≤ s.sp - 208) ⊎ (s.sp ≤ x) → 208 ≤ s.sp → HasEntered Riscv x (s.pc + length (host_bytes Riscv from 0 Entry)) s (after_entry x s)
unfolding host_bytes are_spread are_clear are_below are_disjoint Stand Misses
has_entered s from x apart room =
    let w : Processor = entry_fallen s in
    let t : Processor = entry_noted x s in
    let p : Processor = entry_passed x s in
    let v : ℕ = s.sp - 208 in
    let ms : List (Loc × ℕ) = in_exchange (entry_stores Riscv) in
    let rises : v + 8 * length (stub_area Riscv) ≤ s.sp = omega (arith, room) in
    let told : (l : Loc) → is_in l (G 7 ∷ []) ≡ false → held l t ≡ held l s = λ l out. received_other 4 x l (G 7) (entry_saved s) (neither (same_loc l (G 7)) false out).0 in
    record {
      saved = words_saved Riscv 7 x v s.sp (stub_area Riscv) ms w t refl apart rises refl refl;
      stored = stand_from x ms (G 7 ∷ []) s t p.memory refl told (went Riscv 7 x ms t refl);
      area = word_for_exit Riscv 7 x v s.sp (stub_area Riscv) ms w t refl apart rises refl;
      others = told;
      sp = ap (number_of 8) (word_of_sp Riscv 7 x v s.sp (stub_area Riscv) ms w t refl apart rises refl refl);
      pc = all_in_all s.pc (entry_saved s).pc p.pc (pc_after (in_area 0 (stub_area Riscv)) 2 v w) (pc_after ms 7 x t);
      memory = λ a low region word_out. elsewhere Riscv 7 x v s.sp (stub_area Riscv) ms w t refl apart rises a refl low region word_out;
      limit = refl;
      code = refl;
    }

pub enters : (from : ℕ) → IsSource Riscv from → Enters Riscv from (host_bytes Riscv from 0 Entry)
enters from source s is sixteen low room to =
    let x : ℕ = s.general from in
    let fits : 208 ≤ s.sp = omega (arith, room) in
    let in_stack : s.limit ≤ s.sp - 208 = omega (arith, room) in
    let apart : (x + 552 ≤ s.sp - 208) ⊎ (s.sp ≤ x) = apart_from x s.limit (s.sp - 208) s.sp in_stack is.region in
    let above : IsRegionKept x (s.sp - 208) s = ⊎_elim (λ h. inl h) (λ h. inr (omega (arith, h))) is.region in
    (after_entry x s, in_turn Riscv 47 s (after_entry x s) (entry_runs s from source is above low fits), has_entered s from x apart fits)
