-- The four stubs of RISC-V, from their first address.
use Rattle.std.proofs.Common.{◌^◌, ◌≡◌, ◌≢◌, ℕ, ◌+◌, ◌-◌, ◌*◌, ◌%◌, ◌<◌, ◌≤◌, List, [], ◌∷◌, ◌++◌, length, refl, sym, ap, ◌∙◌, subst, arith, lit<, length-set, length-append}
use Rattle.std.proofs.lemmas.List.{get_or-set_same}
use Rattle.std.specs.Prelude.{slice_index, slice_set, pos, negsuc}
use Rattle.ffi3_isa.specs.Fields.{sign_extend}
use Rattle.ffi3_type_spec.specs.declared.Isa.TheVariants.{Riscv}
use Rattle.ffi3_type_spec.specs.declared.limits.TheConstants.{STACK, STACK_TOP}
use Rattle.ffi3_place_spec.specs.declared.Loc.{Loc}
use Rattle.ffi3_place_spec.specs.declared.Loc.TheVariants.{G}
use Rattle.ffi3_machine_spec.specs.declared.stub.TheConstants.{EXCHANGE}
use Rattle.ffi3_machine_spec.specs.State.{State, x_of}
use Rattle.ffi3_machine.specs.MachineStep.{StepsBy, even, moved}
use Rattle.ffi3_place_spec.specs.StubRegisters.{call_loads, stub_area, callee_saved_words, entry_stores, result_loads}
use Rattle.ffi3_machine_spec.specs.Stubs.{Entry, Exit, Call, Return, rows, bytes_of, stub_bytes, riscv_row, address, load, sum, jump, calls, returns, exchange_loads, exchange_stores, area_loads, area_stores}
use Rattle.ffi3_machine.proofs.Stubs.{lengths}
use Rattle.ffi3_stubs.specs.Effects.{held, addressed_twice, received, saved, to_area, with_sp_by, linked, riscv_placed, riscv_loaded, riscv_called, riscv_saved, riscv_passed, riscv_entered, riscv_restored, riscv_given, riscv_left, riscv_taken, riscv_returned}
use Rattle.ffi3_stubs.proofs.Standing.{Stands, onward, plain, wraps, TakesBy, one_step, and_then}
use Rattle.ffi3_stubs.proofs.Region.{stands, call_there, entry_there, exit_there, return_there}
use Rattle.ffi3_stubs.proofs.Places.{load_exchange}
use Rattle.ffi3_stubs.proofs.WordSegments.{fits, all_fit, Laws, Came, Went, exchange_loaded, exchange_stored, area_loaded, area_stored}
use Rattle.ffi3_stubs.proofs.RiscvRows.{address_row, load_general_row, load_sp_row, rise_row, fall_row, call_row, return_row}
use Rattle.ffi3_stubs.proofs.RiscvLaws.{riscv_laws}

after : (s t : State) (row tail : List ℕ) → length row ≡ 4 → t.pc ≡ s.pc + 4 → Stands Riscv s (row ++ tail) → Stands Riscv t tail
after s t row tail len pc h =
    onward Riscv s t row tail 4 len pc (length-append row tail ∙ ap (λ i. i + length tail) len) h

after_address : (s t : State) (row tail : List ℕ) → length row ≡ 8 → t.pc ≡ s.pc + 4 + 4 → Stands Riscv s (row ++ tail) → Stands Riscv t tail
after_address s t row tail len pc h =
    onward Riscv s t row tail 8 len (pc ∙ omega arith) (length-append row tail ∙ ap (λ i. i + length tail) len) h

same_at : (general : List ℕ) (k v : ℕ) → k < 32 → length general ≡ 32 → slice_index (slice_set general k v) k ≡ v
same_at general k v low count = get_or-set_same general k v 0 (omega arith)

saved_pc : (ls : List Loc) (at : ℕ) (s : State) → (to_area Riscv at ls s).pc ≡ s.pc + 4 * length ls
saved_pc [] at s = omega arith
saved_pc (l ∷ ls) at s =
    let m : State = saved 4 (s.sp + at) (held l s) s in
    saved_pc ls (at + 8) m ∙ omega arith

next_aligned : (p : ℕ) → p % 4 ≡ 0 → (p + 4) % 4 ≡ 0
next_aligned p h = omega arith

at_multiple : (p n : ℕ) → p ≡ n → n % 4 ≡ 0 → p % 4 ≡ 0
at_multiple p n e h = ap (λ x. x % 4) e ∙ h

in_bounds : (a b : ℕ) → a ≡ b → b + 208 ≤ STACK_TOP → a + 208 < 4294967296
in_bounds a b e h = omega arith

is_not : (a b c d : ℕ) → a ≡ c → b ≡ d → d < c → a ≢ b
is_not a b c d e f g x = omega arith

laws_6 : Laws Riscv 32 0 6 2
laws_6 = riscv_laws 6 (lit< tt) (is_not 6 0 6 0 refl refl (lit< tt)) (is_not 6 2 6 2 refl refl (lit< tt))

laws_7 : Laws Riscv 32 0 7 2
laws_7 = riscv_laws 7 (lit< tt) (is_not 7 0 7 0 refl refl (lit< tt)) (is_not 7 2 7 2 refl refl (lit< tt))

-- the four distances to the exchange region
call_sum : (pc : ℕ) → pc ≡ 8108 → moved (pc + 30 * 4096) (sign_extend 12 84) ≡ EXCHANGE
call_sum pc e = plain (pc + 30 * 4096) 84 EXCHANGE (omega arith) (lit< tt)

return_sum : (pc : ℕ) → pc ≡ 8192 → moved (pc + 30 * 4096) (sign_extend 12 0) ≡ EXCHANGE
return_sum pc e = plain (pc + 30 * 4096) 0 EXCHANGE (omega arith) (lit< tt)

entry_sum : (pc : ℕ) → pc ≡ 4204 → moved (pc + 31 * 4096) (sign_extend 12 3988) ≡ EXCHANGE
entry_sum pc e = wraps (pc + 31 * 4096) 18446744073709551508 EXCHANGE (omega arith) (lit< tt)

exit_sum : (pc : ℕ) → pc ≡ 6144 → moved (pc + 31 * 4096) (sign_extend 12 2048) ≡ EXCHANGE
exit_sum pc e = wraps (pc + 31 * 4096) 18446744073709549568 EXCHANGE (omega arith) (lit< tt)

-- ---- Call

call_from : (s : State) (tail : List ℕ) → s.pc ≡ 8108 → length s.general ≡ 32 → x_of 512 s < 2 ^ 64 → Stands Riscv s (bytes_of Riscv 8108 (rows Riscv Call) ++ tail) → TakesBy Riscv 21 s (riscv_called s)
unfolding fits all_fit
call_from s tail at count small h =
    let room5 : 520 + 8 ≤ 552 = omega arith in
    let room6 : 512 + 8 ≤ 552 = omega arith in
    let t4 : List ℕ = riscv_row 8188 (jump (calls 7)) ++ tail in
    let t3 : List ℕ = riscv_row 8184 (load (G 7) 6 512) ++ t4 in
    let t2 : List ℕ = bytes_of Riscv 8120 (exchange_loads 6 (call_loads Riscv)) ++ t3 in
    let t1 : List ℕ = riscv_row 8116 (load (G 2) 6 520) ++ t2 in
    let s1 : State = addressed_twice 6 s in
    let s2 : State = riscv_placed s in
    let s3 : State = riscv_loaded s in
    let s4 : State = received 4 (G 7) (x_of 512 s3) s3 in
    let e : State = riscv_called s in
    let al : s.pc % 4 ≡ 0 = at_multiple s.pc 8108 at refl in
    let one : TakesBy Riscv 2 s s1 = address_row s 6 30 84 t1 (lit< tt) (is_not 6 0 6 0 refl refl (lit< tt)) (is_not 6 2 6 2 refl refl (lit< tt)) (lit< tt) (lit< tt) count al (call_sum s.pc at) h in
    let h1 : Stands Riscv s1 t1 = after_address s s1 (riscv_row 8108 (address 6)) t1 refl refl h in
    let al1 : s1.pc % 4 ≡ 0 = next_aligned (s.pc + 4) (next_aligned s.pc al) in
    let base1 : slice_index s1.general 6 ≡ EXCHANGE = same_at s.general 6 EXCHANGE (lit< tt) count in
    let count1 : length s1.general ≡ 32 = length-set s.general 6 EXCHANGE ∙ count in
    let two = load_sp_row s1 6 520 131592 (x_of 520 s) t2 (lit< tt) (lit< tt) al1 h1 (ap (λ b. b + 520) base1) (lit< tt) (load_exchange Riscv s1 520 131592 room5 refl) in
    let h2 : Stands Riscv s2 t2 = after s1 s2 (riscv_row 8116 (load (G 2) 6 520)) t2 refl refl h1 in
    let came : Came Riscv 6 s2 s3 16 t3 = exchange_loaded Riscv 32 0 6 2 laws_6 (call_loads Riscv) s2 t3 refl (next_aligned s1.pc al1) base1 count1 h2 in
    let four = load_general_row s3 7 6 512 131584 (x_of 512 s3) t4 (lit< tt) (is_not 7 0 7 0 refl refl (lit< tt)) (is_not 7 2 7 2 refl refl (lit< tt)) (lit< tt) (lit< tt) came.aligned came.stands (ap (λ b. b + 512) came.base) (lit< tt) (load_exchange Riscv s3 512 131584 room6 refl) in
    let h4 : Stands Riscv s4 t4 = after s3 s4 (riscv_row 8184 (load (G 7) 6 512)) t4 refl refl came.stands in
    let own : slice_index s4.general 7 ≡ x_of 512 s3 = same_at s3.general 7 (x_of 512 s3) (lit< tt) came.count in
    let bound : slice_index s4.general 7 < 2 ^ 64 = subst (λ (x : ℕ). x < 2 ^ 64) (sym own) small in
    let five : StepsBy Riscv s4 e = subst (λ (x : ℕ). StepsBy Riscv s4 (linked 4 1 (even x) s4)) own (call_row s4 tail (next_aligned s3.pc came.aligned) h4 bound) in
    and_then Riscv 2 19 21 s s1 e refl one (and_then Riscv 1 18 19 s1 s2 e refl (one_step Riscv s1 s2 two) (and_then Riscv 16 2 18 s2 s3 e refl came.steps (and_then Riscv 1 1 2 s3 s4 e refl (one_step Riscv s3 s4 four) (one_step Riscv s4 e five))))

pub call_runs : (s : State) → s.pc ≡ 8108 → length s.general ≡ 32 → x_of 512 s < 2 ^ 64 → TakesBy Riscv 21 s (riscv_called s)
unfolding stub_bytes
call_runs s at count small =
    call_from s _ at count small (stands Riscv s (bytes_of Riscv 8108 (rows Riscv Call)) 4012 at (omega arith) (call_there Riscv (lengths Riscv)))

-- ---- Return

return_from : (s : State) (tail : List ℕ) → s.pc ≡ 8192 → length s.general ≡ 32 → Stands Riscv s (bytes_of Riscv 8192 (rows Riscv Return) ++ tail) → TakesBy Riscv 7 s (riscv_returned s)
unfolding fits all_fit
return_from s tail at count h =
    let room : 544 + 8 ≤ 552 = omega arith in
    let t2 : List ℕ = riscv_row 8216 (load (G 2) 6 544) ++ tail in
    let t1 : List ℕ = bytes_of Riscv 8200 (exchange_stores 6 (result_loads Riscv)) ++ t2 in
    let s1 : State = addressed_twice 6 s in
    let s2 : State = riscv_taken s in
    let e : State = riscv_returned s in
    let al : s.pc % 4 ≡ 0 = at_multiple s.pc 8192 at refl in
    let one : TakesBy Riscv 2 s s1 = address_row s 6 30 0 t1 (lit< tt) (is_not 6 0 6 0 refl refl (lit< tt)) (is_not 6 2 6 2 refl refl (lit< tt)) (lit< tt) (lit< tt) count al (return_sum s.pc at) h in
    let h1 : Stands Riscv s1 t1 = after_address s s1 (riscv_row 8192 (address 6)) t1 refl refl h in
    let al1 : s1.pc % 4 ≡ 0 = next_aligned (s.pc + 4) (next_aligned s.pc al) in
    let base1 : slice_index s1.general 6 ≡ EXCHANGE = same_at s.general 6 EXCHANGE (lit< tt) count in
    let count1 : length s1.general ≡ 32 = length-set s.general 6 EXCHANGE ∙ count in
    let came : Came Riscv 6 s1 s2 4 t2 = exchange_stored Riscv 32 0 6 2 laws_6 (result_loads Riscv) s1 t2 refl al1 base1 count1 h1 in
    let last = load_sp_row s2 6 544 131616 (x_of 544 s2) tail (lit< tt) (lit< tt) came.aligned came.stands (ap (λ b. b + 544) came.base) (lit< tt) (load_exchange Riscv s2 544 131616 room refl) in
    and_then Riscv 2 5 7 s s1 e refl one (and_then Riscv 4 1 5 s1 s2 e refl came.steps (one_step Riscv s2 e last))

pub return_runs : (s : State) → s.pc ≡ 8192 → length s.general ≡ 32 → TakesBy Riscv 7 s (riscv_returned s)
unfolding stub_bytes
return_runs s at count =
    return_from s _ at count (stands Riscv s (bytes_of Riscv 8192 (rows Riscv Return)) 4096 at (omega arith) (return_there Riscv (lengths Riscv)))

-- ---- Entry

entry_from : (s : State) (tail : List ℕ) → s.pc ≡ 4096 → length s.general ≡ 32 → STACK + 208 ≤ s.sp → s.sp ≤ STACK_TOP → Stands Riscv s (bytes_of Riscv 4096 (rows Riscv Entry) ++ tail) → TakesBy Riscv 47 s (riscv_entered s)
unfolding fits all_fit
entry_from s tail at count low top h =
    let room : 528 + 8 ≤ 552 = omega arith in
    let t4 : List ℕ = riscv_row 4280 (load (G 2) 7 528) ++ tail in
    let t3 : List ℕ = bytes_of Riscv 4212 (exchange_stores 7 (entry_stores Riscv)) ++ t4 in
    let t2 : List ℕ = riscv_row 4204 (address 7) ++ t3 in
    let t1 : List ℕ = bytes_of Riscv 4100 (area_stores 2 0 (stub_area Riscv)) ++ t2 in
    let s1 : State = with_sp_by 4 (s.sp - 208) s in
    let s2 : State = riscv_saved s in
    let s3 : State = addressed_twice 7 s2 in
    let s4 : State = riscv_passed s in
    let e : State = riscv_entered s in
    let al : s.pc % 4 ≡ 0 = at_multiple s.pc 4096 at refl in
    let one = fall_row s (s.sp - 208) t1 al h (omega arith) (omega arith) in
    let h1 : Stands Riscv s1 t1 = after s s1 (riscv_row 4096 (sum 2 2 (negsuc 207))) t1 refl refl h in
    let saves : Went Riscv s1 s2 26 t2 = area_stored Riscv 32 0 7 2 laws_7 (stub_area Riscv) s1 0 t2 refl (next_aligned s.pc al) refl (omega arith) (omega arith) (omega arith) h1 in
    let first : s1.pc ≡ 4100 = ap (λ i. i + 4) at in
    let here : s2.pc ≡ 4204 = saved_pc (stub_area Riscv) 0 s1 ∙ ap (λ i. i + 104) first in
    let three : TakesBy Riscv 2 s2 s3 = address_row s2 7 31 3988 t3 (lit< tt) (is_not 7 0 7 0 refl refl (lit< tt)) (is_not 7 2 7 2 refl refl (lit< tt)) (lit< tt) (lit< tt) count saves.aligned (entry_sum s2.pc here) saves.stands in
    let h3 : Stands Riscv s3 t3 = after_address s2 s3 (riscv_row 4204 (address 7)) t3 refl refl saves.stands in
    let al3 : s3.pc % 4 ≡ 0 = next_aligned (s2.pc + 4) (next_aligned s2.pc saves.aligned) in
    let base3 : slice_index s3.general 7 ≡ EXCHANGE = same_at s.general 7 EXCHANGE (lit< tt) count in
    let count3 : length s3.general ≡ 32 = length-set s.general 7 EXCHANGE ∙ count in
    let came : Came Riscv 7 s3 s4 17 t4 = exchange_stored Riscv 32 0 7 2 laws_7 (entry_stores Riscv) s3 t4 refl al3 base3 count3 h3 in
    let last = load_sp_row s4 7 528 131600 (x_of 528 s4) tail (lit< tt) (lit< tt) came.aligned came.stands (ap (λ b. b + 528) came.base) (lit< tt) (load_exchange Riscv s4 528 131600 room refl) in
    and_then Riscv 1 46 47 s s1 e refl (one_step Riscv s s1 one) (and_then Riscv 26 20 46 s1 s2 e refl saves.steps (and_then Riscv 2 18 20 s2 s3 e refl three (and_then Riscv 17 1 18 s3 s4 e refl came.steps (one_step Riscv s4 e last))))

pub entry_runs : (s : State) → s.pc ≡ 4096 → length s.general ≡ 32 → STACK + 208 ≤ s.sp → s.sp ≤ STACK_TOP → TakesBy Riscv 47 s (riscv_entered s)
unfolding stub_bytes
entry_runs s at count low top =
    entry_from s _ at count low top (stands Riscv s (bytes_of Riscv 4096 (rows Riscv Entry)) 0 at (omega arith) (entry_there Riscv (lengths Riscv)))

-- ---- Exit

exit_from : (s : State) (tail : List ℕ) → s.pc ≡ 6144 → length s.general ≡ 32 → STACK ≤ x_of 536 s → x_of 536 s + 208 ≤ STACK_TOP → slice_index (riscv_given s).general 1 < 2 ^ 64 → Stands Riscv s (bytes_of Riscv 6144 (rows Riscv Exit) ++ tail) → TakesBy Riscv 34 s (riscv_left s)
unfolding fits all_fit
exit_from s tail at count low top small h =
    let room : 536 + 8 ≤ 552 = omega arith in
    let short : 0 + 8 * 25 ≤ 2048 = omega arith in
    let within : x_of 536 s + 0 + 8 * 25 ≤ STACK_TOP = omega arith in
    let t5 : List ℕ = riscv_row 6276 (jump returns) ++ tail in
    let t4 : List ℕ = riscv_row 6272 (sum 2 2 (pos 208)) ++ t5 in
    let t3 : List ℕ = bytes_of Riscv 6256 (exchange_loads 6 (result_loads Riscv)) ++ t4 in
    let t2 : List ℕ = bytes_of Riscv 6156 (area_loads 2 0 (callee_saved_words Riscv)) ++ t3 in
    let t1 : List ℕ = riscv_row 6152 (load (G 2) 6 536) ++ t2 in
    let s1 : State = addressed_twice 6 s in
    let s2 : State = with_sp_by 4 (x_of 536 s) s1 in
    let s3 : State = riscv_restored s in
    let s4 : State = riscv_given s in
    let s5 : State = with_sp_by 4 (s4.sp + 208) s4 in
    let e : State = riscv_left s in
    let al : s.pc % 4 ≡ 0 = at_multiple s.pc 6144 at refl in
    let one : TakesBy Riscv 2 s s1 = address_row s 6 31 2048 t1 (lit< tt) (is_not 6 0 6 0 refl refl (lit< tt)) (is_not 6 2 6 2 refl refl (lit< tt)) (lit< tt) (lit< tt) count al (exit_sum s.pc at) h in
    let h1 : Stands Riscv s1 t1 = after_address s s1 (riscv_row 6144 (address 6)) t1 refl refl h in
    let al1 : s1.pc % 4 ≡ 0 = next_aligned (s.pc + 4) (next_aligned s.pc al) in
    let base1 : slice_index s1.general 6 ≡ EXCHANGE = same_at s.general 6 EXCHANGE (lit< tt) count in
    let count1 : length s1.general ≡ 32 = length-set s.general 6 EXCHANGE ∙ count in
    let two = load_sp_row s1 6 536 131608 (x_of 536 s) t2 (lit< tt) (lit< tt) al1 h1 (ap (λ b. b + 536) base1) (lit< tt) (load_exchange Riscv s1 536 131608 room refl) in
    let h2 : Stands Riscv s2 t2 = after s1 s2 (riscv_row 6152 (load (G 2) 6 536)) t2 refl refl h1 in
    let back : Came Riscv 6 s2 s3 25 t3 = area_loaded Riscv 32 0 6 2 laws_6 (callee_saved_words Riscv) s2 0 t3 refl (next_aligned s1.pc al1) refl short low within base1 count1 h2 in
    let given : Came Riscv 6 s3 s4 4 t4 = exchange_loaded Riscv 32 0 6 2 laws_6 (result_loads Riscv) s3 t4 refl back.aligned back.base back.count back.stands in
    let five = rise_row s4 (s4.sp + 208) t5 given.aligned given.stands refl (in_bounds s4.sp (x_of 536 s) refl top) in
    let h5 : Stands Riscv s5 t5 = after s4 s5 (riscv_row 6272 (sum 2 2 (pos 208))) t5 refl refl given.stands in
    let last = return_row s5 tail (next_aligned s4.pc given.aligned) h5 small in
    and_then Riscv 2 32 34 s s1 e refl one (and_then Riscv 1 31 32 s1 s2 e refl (one_step Riscv s1 s2 two) (and_then Riscv 25 6 31 s2 s3 e refl back.steps (and_then Riscv 4 2 6 s3 s4 e refl given.steps (and_then Riscv 1 1 2 s4 s5 e refl (one_step Riscv s4 s5 five) (one_step Riscv s5 e last)))))

pub exit_runs : (s : State) → s.pc ≡ 6144 → length s.general ≡ 32 → STACK ≤ x_of 536 s → x_of 536 s + 208 ≤ STACK_TOP → slice_index (riscv_given s).general 1 < 2 ^ 64 → TakesBy Riscv 34 s (riscv_left s)
unfolding stub_bytes
exit_runs s at count low top small =
    exit_from s _ at count low top small (stands Riscv s (bytes_of Riscv 6144 (rows Riscv Exit)) 2048 at (omega arith) (exit_there Riscv (lengths Riscv)))
