-- The four stubs of AArch64, from their first address.
use Rattle.std.proofs.Common.{◌≡◌, ◌≢◌, ℕ, ◌+◌, ◌-◌, ◌*◌, ◌%◌, ◌^◌, ◌<◌, ◌≤◌, List, [], ◌∷◌, ◌++◌, length, refl, sym, ap, ◌∙◌, subst, arith, lit<, length-set, length-append}
use Rattle.std.proofs.lemmas.List.{get_or-set_same, get_or-set_other}
use Rattle.std.specs.Prelude.{slice_index, slice_set, pos, negsuc}
use Rattle.ffi3_type_spec.specs.declared.Isa.TheVariants.{Aarch64}
use Rattle.ffi3_type_spec.specs.declared.limits.TheConstants.{STACK, STACK_TOP}
use Rattle.ffi3_place_spec.specs.declared.Loc.{Loc}
use Rattle.ffi3_place_spec.specs.declared.Loc.TheVariants.{G}
use Rattle.ffi3_machine_spec.specs.declared.stub.TheConstants.{EXCHANGE}
use Rattle.ffi3_machine_spec.specs.State.{State, x_of}
use Rattle.ffi3_machine.specs.MachineStep.{base, StepsBy}
use Rattle.ffi3_place_spec.specs.StubRegisters.{call_loads, stub_area, callee_saved_words, entry_stores, result_loads}
use Rattle.ffi3_machine_spec.specs.Stubs.{Entry, Exit, Call, Return, rows, bytes_of, stub_bytes, aarch64_row, address, load, sum, jump, calls, returns, exchange_loads, exchange_stores, area_loads, area_stores}
use Rattle.ffi3_machine.proofs.Stubs.{lengths}
use Rattle.ffi3_stubs.specs.Effects.{held, addressed, received, saved, to_area, with_sp_by, linked, aarch64_placed, aarch64_loaded, aarch64_called, aarch64_saved, aarch64_passed, aarch64_entered, aarch64_restored, aarch64_given, aarch64_left, aarch64_taken, aarch64_returned}
use Rattle.ffi3_stubs.proofs.Standing.{Stands, onward, TakesBy, one_step, and_then, small as low_word}
use Rattle.ffi3_stubs.proofs.Region.{stands, call_there, entry_there, exit_there, return_there}
use Rattle.ffi3_stubs.proofs.Places.{load_exchange}
use Rattle.ffi3_stubs.proofs.WordSegments.{fits, all_fit, Came, Went, exchange_loaded, exchange_stored, area_loaded, area_stored}
use Rattle.ffi3_stubs.proofs.Aarch64Rows.{address_row, load_general_row, move_row, rise_row, fall_row, call_row, return_row}
use Rattle.ffi3_stubs.proofs.Aarch64Laws.{aarch64_laws}

-- behind a row of four bytes
after : (s t : State) (row tail : List ℕ) → length row ≡ 4 → t.pc ≡ s.pc + 4 → Stands Aarch64 s (row ++ tail) → Stands Aarch64 t tail
after s t row tail len pc h =
    onward Aarch64 s t row tail 4 len pc (length-append row tail ∙ ap (λ i. i + length tail) len) h

same_at : (general : List ℕ) (k v : ℕ) → k < 32 → length general ≡ 32 → slice_index (slice_set general k v) k ≡ v
same_at general k v low count = get_or-set_same general k v 0 (omega arith)

other_at : (general : List ℕ) (k n v w : ℕ) → n ≢ k → slice_index general n ≡ w → slice_index (slice_set general k v) n ≡ w
other_at general k n v w ne h = get_or-set_other general k n v 0 ne ∙ h

ne : (a b c d : ℕ) → a ≡ c → b ≡ d → c < d → b ≢ a
ne a b c d e f g x = omega arith

saved_pc : (ls : List Loc) (at : ℕ) (s : State) → (to_area Aarch64 at ls s).pc ≡ s.pc + 4 * length ls
saved_pc [] at s = omega arith
saved_pc (l ∷ ls) at s =
    let m : State = saved 4 (s.sp + at) (held l s) s in
    saved_pc ls (at + 8) m ∙ omega arith

next_aligned : (p : ℕ) → p % 4 ≡ 0 → (p + 4) % 4 ≡ 0
next_aligned p h = omega arith

at_multiple : (p n : ℕ) → p ≡ n → n % 4 ≡ 0 → p % 4 ≡ 0
at_multiple p n e h = ap (λ x. x % 4) e ∙ h

in_bounds : (a b : ℕ) → a ≡ b → b + 176 ≤ STACK_TOP → a + 176 < 4294967296
in_bounds a b e h = omega arith

under64 : (a : ℕ) → a ≤ STACK_TOP → a < 2 ^ 64
under64 a h = low_word a (omega arith)

-- mov sp, through a register that was loaded just before
moved_by : (s : State) (k v : ℕ) (tail : List ℕ) → k < 31 → slice_index s.general k ≡ v → v < 2 ^ 64 → s.pc % 4 ≡ 0 → Stands Aarch64 s (aarch64_row s.pc (sum 31 k (pos 0)) ++ tail) → base Aarch64 k s ≡ slice_index s.general k → StepsBy Aarch64 s (with_sp_by 4 v s)
moved_by s k v tail in_range is small al h at =
    subst (λ (x : ℕ). StepsBy Aarch64 s (with_sp_by 4 x s)) is (move_row s k tail in_range al h at (subst (λ (x : ℕ). x < 2 ^ 64) (sym is) small))

-- ---- Call

call_from : (s : State) (tail : List ℕ) → s.pc ≡ 8104 → length s.general ≡ 32 → x_of 520 s ≤ STACK_TOP → Stands Aarch64 s (bytes_of Aarch64 8104 (rows Aarch64 Call) ++ tail) → TakesBy Aarch64 22 s (aarch64_called s)
unfolding fits all_fit
call_from s tail at count top h =
    let t5 : List ℕ = aarch64_row 8188 (jump (calls 16)) ++ tail in
    let t4 : List ℕ = aarch64_row 8184 (load (G 16) 17 512) ++ t5 in
    let t3 : List ℕ = bytes_of Aarch64 8116 (exchange_loads 17 (call_loads Aarch64)) ++ t4 in
    let t2 : List ℕ = aarch64_row 8112 (sum 31 16 (pos 0)) ++ t3 in
    let t1 : List ℕ = aarch64_row 8108 (load (G 16) 17 520) ++ t2 in
    let s1 : State = addressed 4 17 s in
    let s2 : State = received 4 (G 16) (x_of 520 s) s1 in
    let s3 : State = aarch64_placed s in
    let s4 : State = aarch64_loaded s in
    let s5 : State = received 4 (G 16) (x_of 512 s4) s4 in
    let e : State = aarch64_called s in
    let one = address_row s 8104 17 t1 at (omega arith) refl (omega arith) h in
    let h1 : Stands Aarch64 s1 t1 = after s s1 (aarch64_row 8104 (address 17)) t1 refl refl h in
    let base1 : slice_index s1.general 17 ≡ EXCHANGE = same_at s.general 17 EXCHANGE (omega arith) count in
    let count1 : length s1.general ≡ 32 = length-set s.general 17 EXCHANGE ∙ count in
    let two = load_general_row s1 16 17 520 131592 (x_of 520 s) t2 (omega arith) (omega arith) refl (omega arith) (omega arith) h1 (ap (λ b. b + 520) base1) (omega arith) (load_exchange Aarch64 s1 520 131592 (omega arith) refl) in
    let h2 : Stands Aarch64 s2 t2 = after s1 s2 (aarch64_row 8108 (load (G 16) 17 520)) t2 refl refl h1 in
    let base2 : slice_index s2.general 17 ≡ EXCHANGE = other_at s1.general 16 17 (x_of 520 s) EXCHANGE (ne 16 17 16 17 refl refl (omega arith)) base1 in
    let count2 : length s2.general ≡ 32 = length-set s1.general 16 (x_of 520 s) ∙ count1 in
    let three = moved_by s2 16 (x_of 520 s) t3 (lit< tt) (same_at s1.general 16 (x_of 520 s) (omega arith) count1) (under64 (x_of 520 s) top) (omega arith) h2 refl in
    let h3 : Stands Aarch64 s3 t3 = after s2 s3 (aarch64_row 8112 (sum 31 16 (pos 0))) t3 refl refl h2 in
    let came : Came Aarch64 17 s3 s4 17 t4 = exchange_loaded Aarch64 31 18 17 18 (aarch64_laws 17 (omega arith)) (call_loads Aarch64) s3 t4 refl (omega arith) base2 count2 h3 in
    let five = load_general_row s4 16 17 512 131584 (x_of 512 s4) t5 (omega arith) (omega arith) refl (omega arith) came.aligned came.stands (ap (λ b. b + 512) came.base) (omega arith) (load_exchange Aarch64 s4 512 131584 (omega arith) refl) in
    let h5 : Stands Aarch64 s5 t5 = after s4 s5 (aarch64_row 8184 (load (G 16) 17 512)) t5 refl refl came.stands in
    let al5 : s5.pc % 4 ≡ 0 = let x = came.aligned in omega arith in
    let six : StepsBy Aarch64 s5 e = subst (λ (x : ℕ). StepsBy Aarch64 s5 (linked 4 30 x s5)) (same_at s4.general 16 (x_of 512 s4) (omega arith) came.count) (call_row s5 tail al5 h5) in
    and_then Aarch64 1 21 22 s s1 e refl (one_step Aarch64 s s1 one) (and_then Aarch64 1 20 21 s1 s2 e refl (one_step Aarch64 s1 s2 two) (and_then Aarch64 1 19 20 s2 s3 e refl (one_step Aarch64 s2 s3 three) (and_then Aarch64 17 2 19 s3 s4 e refl came.steps (and_then Aarch64 1 1 2 s4 s5 e refl (one_step Aarch64 s4 s5 five) (one_step Aarch64 s5 e six)))))

pub call_runs : (s : State) → s.pc ≡ 8104 → length s.general ≡ 32 → x_of 520 s ≤ STACK_TOP → TakesBy Aarch64 22 s (aarch64_called s)
unfolding stub_bytes
call_runs s at count top =
    call_from s _ at count top (stands Aarch64 s (bytes_of Aarch64 8104 (rows Aarch64 Call)) 4008 at (omega arith) (call_there Aarch64 (lengths Aarch64)))

-- ---- Return

return_from : (s : State) (tail : List ℕ) → s.pc ≡ 8192 → length s.general ≡ 32 → x_of 544 (aarch64_taken s) < 2 ^ 64 → Stands Aarch64 s (bytes_of Aarch64 8192 (rows Aarch64 Return) ++ tail) → TakesBy Aarch64 9 s (aarch64_returned s)
unfolding fits all_fit
return_from s tail at count top h =
    let t3 : List ℕ = aarch64_row 8224 (sum 31 17 (pos 0)) ++ tail in
    let t2 : List ℕ = aarch64_row 8220 (load (G 17) 16 544) ++ t3 in
    let t1 : List ℕ = bytes_of Aarch64 8196 (exchange_stores 16 (result_loads Aarch64)) ++ t2 in
    let s1 : State = addressed 4 16 s in
    let s2 : State = aarch64_taken s in
    let s3 : State = received 4 (G 17) (x_of 544 s2) s2 in
    let e : State = aarch64_returned s in
    let one = address_row s 8192 16 t1 at (omega arith) refl (omega arith) h in
    let h1 : Stands Aarch64 s1 t1 = after s s1 (aarch64_row 8192 (address 16)) t1 refl refl h in
    let base1 : slice_index s1.general 16 ≡ EXCHANGE = same_at s.general 16 EXCHANGE (omega arith) count in
    let count1 : length s1.general ≡ 32 = length-set s.general 16 EXCHANGE ∙ count in
    let came : Came Aarch64 16 s1 s2 6 t2 = exchange_stored Aarch64 31 18 16 18 (aarch64_laws 16 (omega arith)) (result_loads Aarch64) s1 t2 refl (omega arith) base1 count1 h1 in
    let three = load_general_row s2 17 16 544 131616 (x_of 544 s2) t3 (omega arith) (omega arith) refl (omega arith) came.aligned came.stands (ap (λ b. b + 544) came.base) (omega arith) (load_exchange Aarch64 s2 544 131616 (omega arith) refl) in
    let h3 : Stands Aarch64 s3 t3 = after s2 s3 (aarch64_row 8220 (load (G 17) 16 544)) t3 refl refl came.stands in
    let al3 : s3.pc % 4 ≡ 0 = let x = came.aligned in omega arith in
    let four = moved_by s3 17 (x_of 544 s2) tail (lit< tt) (same_at s2.general 17 (x_of 544 s2) (omega arith) came.count) top al3 h3 refl in
    and_then Aarch64 1 8 9 s s1 e refl (one_step Aarch64 s s1 one) (and_then Aarch64 6 2 8 s1 s2 e refl came.steps (and_then Aarch64 1 1 2 s2 s3 e refl (one_step Aarch64 s2 s3 three) (one_step Aarch64 s3 e four)))

pub return_runs : (s : State) → s.pc ≡ 8192 → length s.general ≡ 32 → x_of 544 (aarch64_taken s) < 2 ^ 64 → TakesBy Aarch64 9 s (aarch64_returned s)
unfolding stub_bytes
return_runs s at count top =
    return_from s _ at count top (stands Aarch64 s (bytes_of Aarch64 8192 (rows Aarch64 Return)) 4096 at (omega arith) (return_there Aarch64 (lengths Aarch64)))

-- ---- Entry

entry_from : (s : State) (tail : List ℕ) → s.pc ≡ 4096 → length s.general ≡ 32 → STACK + 176 ≤ s.sp → s.sp ≤ STACK_TOP → x_of 528 (aarch64_passed s) < 2 ^ 64 → Stands Aarch64 s (bytes_of Aarch64 4096 (rows Aarch64 Entry) ++ tail) → TakesBy Aarch64 43 s (aarch64_entered s)
unfolding fits all_fit
entry_from s tail at count low top small h =
    let room : 528 + 8 ≤ 552 = omega arith in
    let t5 : List ℕ = aarch64_row 4264 (sum 31 16 (pos 0)) ++ tail in
    let t4 : List ℕ = aarch64_row 4260 (load (G 16) 16 528) ++ t5 in
    let t3 : List ℕ = bytes_of Aarch64 4188 (exchange_stores 16 (entry_stores Aarch64)) ++ t4 in
    let t2 : List ℕ = aarch64_row 4184 (address 16) ++ t3 in
    let t1 : List ℕ = bytes_of Aarch64 4100 (area_stores 31 0 (stub_area Aarch64)) ++ t2 in
    let s1 : State = with_sp_by 4 (s.sp - 176) s in
    let s2 : State = aarch64_saved s in
    let s3 : State = addressed 4 16 s2 in
    let s4 : State = aarch64_passed s in
    let s5 : State = received 4 (G 16) (x_of 528 s4) s4 in
    let e : State = aarch64_entered s in
    let one = fall_row s (s.sp - 176) t1 (omega arith) h (omega arith) (omega arith) in
    let h1 : Stands Aarch64 s1 t1 = after s s1 (aarch64_row 4096 (sum 31 31 (negsuc 175))) t1 refl refl h in
    let saves : Went Aarch64 s1 s2 21 t2 = area_stored Aarch64 31 18 16 18 (aarch64_laws 16 (omega arith)) (stub_area Aarch64) s1 0 t2 refl (omega arith) refl (omega arith) (omega arith) (omega arith) h1 in
    let first : s1.pc ≡ 4100 = ap (λ i. i + 4) at in
    let here : s2.pc ≡ 4184 = saved_pc (stub_area Aarch64) 0 s1 ∙ ap (λ i. i + 84) first in
    let three = address_row s2 4184 16 t3 here (lit< tt) refl (lit< tt) saves.stands in
    let h3 : Stands Aarch64 s3 t3 = after s2 s3 (aarch64_row 4184 (address 16)) t3 refl refl saves.stands in
    let base3 : slice_index s3.general 16 ≡ EXCHANGE = same_at s.general 16 EXCHANGE (lit< tt) count in
    let count3 : length s3.general ≡ 32 = length-set s.general 16 EXCHANGE ∙ count in
    let came : Came Aarch64 16 s3 s4 18 t4 = exchange_stored Aarch64 31 18 16 18 (aarch64_laws 16 (lit< tt)) (entry_stores Aarch64) s3 t4 refl (at_multiple s3.pc 4188 (ap (λ i. i + 4) here) refl) base3 count3 h3 in
    let five = load_general_row s4 16 16 528 131600 (x_of 528 s4) t5 (lit< tt) (lit< tt) refl (lit< tt) came.aligned came.stands (ap (λ b. b + 528) came.base) (lit< tt) (load_exchange Aarch64 s4 528 131600 room refl) in
    let h5 : Stands Aarch64 s5 t5 = after s4 s5 (aarch64_row 4260 (load (G 16) 16 528)) t5 refl refl came.stands in
    let al5 : s5.pc % 4 ≡ 0 = next_aligned s4.pc came.aligned in
    let six = moved_by s5 16 (x_of 528 s4) tail (lit< tt) (same_at s4.general 16 (x_of 528 s4) (lit< tt) came.count) small al5 h5 refl in
    and_then Aarch64 1 42 43 s s1 e refl (one_step Aarch64 s s1 one) (and_then Aarch64 21 21 42 s1 s2 e refl saves.steps (and_then Aarch64 1 20 21 s2 s3 e refl (one_step Aarch64 s2 s3 three) (and_then Aarch64 18 2 20 s3 s4 e refl came.steps (and_then Aarch64 1 1 2 s4 s5 e refl (one_step Aarch64 s4 s5 five) (one_step Aarch64 s5 e six)))))

pub entry_runs : (s : State) → s.pc ≡ 4096 → length s.general ≡ 32 → STACK + 176 ≤ s.sp → s.sp ≤ STACK_TOP → x_of 528 (aarch64_passed s) < 2 ^ 64 → TakesBy Aarch64 43 s (aarch64_entered s)
unfolding stub_bytes
entry_runs s at count low top small =
    entry_from s _ at count low top small (stands Aarch64 s (bytes_of Aarch64 4096 (rows Aarch64 Entry)) 0 at (omega arith) (entry_there Aarch64 (lengths Aarch64)))

-- ---- Exit

exit_from : (s : State) (tail : List ℕ) → s.pc ≡ 6144 → length s.general ≡ 32 → STACK ≤ x_of 536 s → x_of 536 s + 176 ≤ STACK_TOP → Stands Aarch64 s (bytes_of Aarch64 6144 (rows Aarch64 Exit) ++ tail) → TakesBy Aarch64 31 s (aarch64_left s)
unfolding fits all_fit
exit_from s tail at count low top h =
    let short : 0 + 8 * 20 ≤ 2048 = omega arith in
    let within : x_of 536 s + 0 + 8 * 20 ≤ STACK_TOP = omega arith in
    let t6 : List ℕ = aarch64_row 6264 (jump returns) ++ tail in
    let t5 : List ℕ = aarch64_row 6260 (sum 31 31 (pos 176)) ++ t6 in
    let t4 : List ℕ = bytes_of Aarch64 6236 (exchange_loads 16 (result_loads Aarch64)) ++ t5 in
    let t3 : List ℕ = bytes_of Aarch64 6156 (area_loads 31 0 (callee_saved_words Aarch64)) ++ t4 in
    let t2 : List ℕ = aarch64_row 6152 (sum 31 17 (pos 0)) ++ t3 in
    let t1 : List ℕ = aarch64_row 6148 (load (G 17) 16 536) ++ t2 in
    let s1 : State = addressed 4 16 s in
    let s2 : State = received 4 (G 17) (x_of 536 s) s1 in
    let s3 : State = with_sp_by 4 (x_of 536 s) s2 in
    let s4 : State = aarch64_restored s in
    let s5 : State = aarch64_given s in
    let s6 : State = with_sp_by 4 (s5.sp + 176) s5 in
    let e : State = aarch64_left s in
    let one = address_row s 6144 16 t1 at (omega arith) refl (omega arith) h in
    let h1 : Stands Aarch64 s1 t1 = after s s1 (aarch64_row 6144 (address 16)) t1 refl refl h in
    let base1 : slice_index s1.general 16 ≡ EXCHANGE = same_at s.general 16 EXCHANGE (omega arith) count in
    let count1 : length s1.general ≡ 32 = length-set s.general 16 EXCHANGE ∙ count in
    let two = load_general_row s1 17 16 536 131608 (x_of 536 s) t2 (omega arith) (omega arith) refl (omega arith) (omega arith) h1 (ap (λ b. b + 536) base1) (omega arith) (load_exchange Aarch64 s1 536 131608 (omega arith) refl) in
    let h2 : Stands Aarch64 s2 t2 = after s1 s2 (aarch64_row 6148 (load (G 17) 16 536)) t2 refl refl h1 in
    let base2 : slice_index s2.general 16 ≡ EXCHANGE = other_at s1.general 17 16 (x_of 536 s) EXCHANGE (λ x. ne 16 17 16 17 refl refl (omega arith) (sym x)) base1 in
    let count2 : length s2.general ≡ 32 = length-set s1.general 17 (x_of 536 s) ∙ count1 in
    let three = moved_by s2 17 (x_of 536 s) t3 (lit< tt) (same_at s1.general 17 (x_of 536 s) (omega arith) count1) (under64 (x_of 536 s) (omega arith)) (omega arith) h2 refl in
    let h3 : Stands Aarch64 s3 t3 = after s2 s3 (aarch64_row 6152 (sum 31 17 (pos 0))) t3 refl refl h2 in
    let back : Came Aarch64 16 s3 s4 20 t4 = area_loaded Aarch64 31 18 16 18 (aarch64_laws 16 (lit< tt)) (callee_saved_words Aarch64) s3 0 t4 refl (at_multiple s3.pc 6156 (ap (λ i. i + 4 + 4 + 4) at) refl) refl short low within base2 count2 h3 in
    let given : Came Aarch64 16 s4 s5 6 t5 = exchange_loaded Aarch64 31 18 16 18 (aarch64_laws 16 (lit< tt)) (result_loads Aarch64) s4 t5 refl back.aligned back.base back.count back.stands in
    let six = rise_row s5 176 (s5.sp + 176) t6 (lit< tt) given.aligned given.stands refl (in_bounds s5.sp (x_of 536 s) refl top) in
    let h6 : Stands Aarch64 s6 t6 = after s5 s6 (aarch64_row 6260 (sum 31 31 (pos 176))) t6 refl refl given.stands in
    let al6 : s6.pc % 4 ≡ 0 = next_aligned s5.pc given.aligned in
    let last = return_row s6 tail al6 h6 in
    and_then Aarch64 1 30 31 s s1 e refl (one_step Aarch64 s s1 one) (and_then Aarch64 1 29 30 s1 s2 e refl (one_step Aarch64 s1 s2 two) (and_then Aarch64 1 28 29 s2 s3 e refl (one_step Aarch64 s2 s3 three) (and_then Aarch64 20 8 28 s3 s4 e refl back.steps (and_then Aarch64 6 2 8 s4 s5 e refl given.steps (and_then Aarch64 1 1 2 s5 s6 e refl (one_step Aarch64 s5 s6 six) (one_step Aarch64 s6 e last))))))

pub exit_runs : (s : State) → s.pc ≡ 6144 → length s.general ≡ 32 → STACK ≤ x_of 536 s → x_of 536 s + 176 ≤ STACK_TOP → TakesBy Aarch64 31 s (aarch64_left s)
unfolding stub_bytes
exit_runs s at count low top =
    exit_from s _ at count low top (stands Aarch64 s (bytes_of Aarch64 6144 (rows Aarch64 Exit)) 2048 at (omega arith) (exit_there Aarch64 (lengths Aarch64)))
