-- The four stubs of AMD64, from their first address.
use Rattle.std.proofs.Common.{◌≡◌, ◌≢◌, ℕ, ◌+◌, ◌-◌, ◌≤◌, List, ◌++◌, length, refl, ap, ◌∙◌, arith, length-set, length-append}
use Rattle.std.proofs.lemmas.List.{get_or-set_same}
use Rattle.std.specs.Prelude.{slice_index, slice_set, pos, negsuc}
use Rattle.ffi3_type_spec.specs.declared.Isa.TheVariants.{Amd64}
use Rattle.ffi3_type_spec.specs.declared.limits.TheConstants.{STACK, STACK_TOP}
use Rattle.ffi3_place_spec.specs.declared.Loc.TheVariants.{G}
use Rattle.ffi3_machine_spec.specs.declared.stub.TheConstants.{EXCHANGE}
use Rattle.ffi3_machine_spec.specs.State.{State, x_of}
use Rattle.ffi3_place_spec.specs.StubRegisters.{call_loads, stub_area, callee_saved_words, entry_stores, result_loads}
use Rattle.ffi3_machine_spec.specs.Stubs.{Entry, Exit, Call, Return, rows, bytes_of, stub_bytes, amd64_row, address, load, sum, jump, calls_at, returns, exchange_loads, exchange_stores, area_loads, area_stores}
use Rattle.ffi3_machine.proofs.Stubs.{lengths}
use Rattle.ffi3_stubs.specs.Effects.{addressed, with_sp_by, amd64_placed, amd64_loaded, amd64_called, amd64_saved, amd64_passed, amd64_entered, amd64_restored, amd64_given, amd64_left, amd64_taken, amd64_returned}
use Rattle.ffi3_stubs.proofs.Standing.{Stands, onward, TakesBy, one_step, and_then}
use Rattle.ffi3_stubs.proofs.Region.{stands, call_there, entry_there, exit_there, return_there}
use Rattle.ffi3_stubs.proofs.Places.{load_exchange}
use Rattle.ffi3_stubs.proofs.Amd64Rows.{address_row, load_sp_row, call_row, return_row, rise_row, fall_row}
use Rattle.ffi3_stubs.proofs.Amd64Segments.{is_plain, are_moved, are_saved, Came, exchange_loaded, exchange_stored, area_loaded, area_stored}

no_sp : (k : ℕ) → k ≡ 11 → k ≢ 4
no_sp k e f = omega arith

based : (general : List ℕ) → length general ≡ 32 → slice_index (slice_set general 11 EXCHANGE) 11 ≡ EXCHANGE
based general count = get_or-set_same general 11 EXCHANGE 0 (omega arith)

sized : (general : List ℕ) → length general ≡ 32 → length (slice_set general 11 EXCHANGE) ≡ 32
sized general count = length-set general 11 EXCHANGE ∙ count

-- ---- Call

call_from : (s : State) (tail : List ℕ) → s.pc ≡ 8050 → length s.general ≡ 32 → STACK + 8 ≤ x_of 520 s → x_of 520 s ≤ STACK_TOP → Stands Amd64 s (bytes_of Amd64 8050 (rows Amd64 Call) ++ tail) → TakesBy Amd64 18 s (amd64_called s)
unfolding is_plain are_moved
call_from s tail at count low top h =
    let t3 : List ℕ = amd64_row 8185 (jump (calls_at 11 512)) ++ tail in
    let t2 : List ℕ = bytes_of Amd64 8064 (exchange_loads 11 (call_loads Amd64)) ++ t3 in
    let t1 : List ℕ = amd64_row 8057 (load (G 4) 11 520) ++ t2 in
    let s1 : State = addressed 7 11 s in
    let s2 : State = amd64_placed s in
    let s3 : State = amd64_loaded s in
    let one = address_row s 8050 11 t1 at (omega arith) (no_sp 11 refl) h in
    let h1 : Stands Amd64 s1 t1 = onward Amd64 s s1 (amd64_row 8050 (address 11)) t1 7 refl refl (length-append (amd64_row 8050 (address 11)) t1) h in
    let base : slice_index s1.general 11 ≡ EXCHANGE = based s.general count in
    let two = load_sp_row s1 520 131592 (x_of 520 s) t2 (omega arith) h1 (ap (λ b. b + 520) base) (omega arith) (load_exchange Amd64 s1 520 131592 (omega arith) refl) in
    let h2 : Stands Amd64 s2 t2 = onward Amd64 s1 s2 (amd64_row 8057 (load (G 4) 11 520)) t2 7 refl refl (length-append (amd64_row 8057 (load (G 4) 11 520)) t2) h1 in
    let came : Came s2 s3 15 t3 = exchange_loaded (call_loads Amd64) s2 t3 refl base (sized s.general count) h2 in
    let last = call_row s3 512 131584 (x_of 512 s3) tail (omega arith) came.stands (ap (λ b. b + 512) came.base) (omega arith) (load_exchange Amd64 s3 512 131584 (omega arith) refl) low top in
    and_then Amd64 1 17 18 s s1 (amd64_called s) refl (one_step Amd64 s s1 one) (and_then Amd64 1 16 17 s1 s2 (amd64_called s) refl (one_step Amd64 s1 s2 two) (and_then Amd64 15 1 16 s2 s3 (amd64_called s) refl came.steps (one_step Amd64 s3 (amd64_called s) last)))

pub call_runs : (s : State) → s.pc ≡ 8050 → length s.general ≡ 32 → STACK + 8 ≤ x_of 520 s → x_of 520 s ≤ STACK_TOP → TakesBy Amd64 18 s (amd64_called s)
unfolding stub_bytes
call_runs s at count low top =
    call_from s _ at count low top (stands Amd64 s (bytes_of Amd64 8050 (rows Amd64 Call)) 3954 at (omega arith) (call_there Amd64 (lengths Amd64)))

-- ---- Return

return_from : (s : State) (tail : List ℕ) → s.pc ≡ 8192 → length s.general ≡ 32 → Stands Amd64 s (bytes_of Amd64 8192 (rows Amd64 Return) ++ tail) → TakesBy Amd64 6 s (amd64_returned s)
unfolding is_plain are_moved
return_from s tail at count h =
    let t2 : List ℕ = amd64_row 8231 (load (G 4) 11 544) ++ tail in
    let t1 : List ℕ = bytes_of Amd64 8199 (exchange_stores 11 (result_loads Amd64)) ++ t2 in
    let s1 : State = addressed 7 11 s in
    let s2 : State = amd64_taken s in
    let one = address_row s 8192 11 t1 at (omega arith) (no_sp 11 refl) h in
    let h1 : Stands Amd64 s1 t1 = onward Amd64 s s1 (amd64_row 8192 (address 11)) t1 7 refl refl (length-append (amd64_row 8192 (address 11)) t1) h in
    let base : slice_index s1.general 11 ≡ EXCHANGE = based s.general count in
    let came : Came s1 s2 4 t2 = exchange_stored (result_loads Amd64) s1 t2 refl base (sized s.general count) h1 in
    let last = load_sp_row s2 544 131616 (x_of 544 s2) tail (omega arith) came.stands (ap (λ b. b + 544) came.base) (omega arith) (load_exchange Amd64 s2 544 131616 (omega arith) refl) in
    and_then Amd64 1 5 6 s s1 (amd64_returned s) refl (one_step Amd64 s s1 one) (and_then Amd64 4 1 5 s1 s2 (amd64_returned s) refl came.steps (one_step Amd64 s2 (amd64_returned s) last))

pub return_runs : (s : State) → s.pc ≡ 8192 → length s.general ≡ 32 → TakesBy Amd64 6 s (amd64_returned s)
unfolding stub_bytes
return_runs s at count =
    return_from s _ at count (stands Amd64 s (bytes_of Amd64 8192 (rows Amd64 Return)) 4096 at (omega arith) (return_there Amd64 (lengths Amd64)))

-- ---- Exit

exit_from : (s : State) (tail : List ℕ) → s.pc ≡ 6144 → length s.general ≡ 32 → STACK ≤ x_of 536 s → x_of 536 s + 64 ≤ STACK_TOP → Stands Amd64 s (bytes_of Amd64 6144 (rows Amd64 Exit) ++ tail) → TakesBy Amd64 14 s (amd64_left s)
unfolding is_plain are_moved are_saved
exit_from s tail at count low top h =
    let t5 : List ℕ = amd64_row 6246 (jump returns) ++ tail in
    let t4 : List ℕ = amd64_row 6238 (sum 4 4 (pos 56)) ++ t5 in
    let t3 : List ℕ = bytes_of Amd64 6206 (exchange_loads 11 (result_loads Amd64)) ++ t4 in
    let t2 : List ℕ = bytes_of Amd64 6158 (area_loads 4 0 (callee_saved_words Amd64)) ++ t3 in
    let t1 : List ℕ = amd64_row 6151 (load (G 4) 11 536) ++ t2 in
    let s1 : State = addressed 7 11 s in
    let s2 : State = with_sp_by 7 (x_of 536 s) s1 in
    let s3 : State = amd64_restored s in
    let s4 : State = amd64_given s in
    let s5 : State = with_sp_by 8 (s4.sp + 56) s4 in
    let one = address_row s 6144 11 t1 at (omega arith) (no_sp 11 refl) h in
    let h1 : Stands Amd64 s1 t1 = onward Amd64 s s1 (amd64_row 6144 (address 11)) t1 7 refl refl (length-append (amd64_row 6144 (address 11)) t1) h in
    let base : slice_index s1.general 11 ≡ EXCHANGE = based s.general count in
    let two = load_sp_row s1 536 131608 (x_of 536 s) t2 (omega arith) h1 (ap (λ b. b + 536) base) (omega arith) (load_exchange Amd64 s1 536 131608 (omega arith) refl) in
    let h2 : Stands Amd64 s2 t2 = onward Amd64 s1 s2 (amd64_row 6151 (load (G 4) 11 536)) t2 7 refl refl (length-append (amd64_row 6151 (load (G 4) 11 536)) t2) h1 in
    let back : Came s2 s3 6 t3 = area_loaded (callee_saved_words Amd64) s2 0 t3 refl low (omega arith) base (sized s.general count) h2 in
    let given : Came s3 s4 4 t4 = exchange_loaded (result_loads Amd64) s3 t4 refl back.base back.count back.stands in
    let five = rise_row s4 56 (s4.sp + 56) t5 (omega arith) given.stands refl (omega arith) in
    let h5 : Stands Amd64 s5 t5 = onward Amd64 s4 s5 (amd64_row 6238 (sum 4 4 (pos 56))) t5 8 refl refl (length-append (amd64_row 6238 (sum 4 4 (pos 56))) t5) given.stands in
    let last = return_row s5 tail h5 (omega arith) (omega arith) in
    let e : State = amd64_left s in
    and_then Amd64 1 13 14 s s1 e refl (one_step Amd64 s s1 one) (and_then Amd64 1 12 13 s1 s2 e refl (one_step Amd64 s1 s2 two) (and_then Amd64 6 6 12 s2 s3 e refl back.steps (and_then Amd64 4 2 6 s3 s4 e refl given.steps (and_then Amd64 1 1 2 s4 s5 e refl (one_step Amd64 s4 s5 five) (one_step Amd64 s5 e last)))))

pub exit_runs : (s : State) → s.pc ≡ 6144 → length s.general ≡ 32 → STACK ≤ x_of 536 s → x_of 536 s + 64 ≤ STACK_TOP → TakesBy Amd64 14 s (amd64_left s)
unfolding stub_bytes
exit_runs s at count low top =
    exit_from s _ at count low top (stands Amd64 s (bytes_of Amd64 6144 (rows Amd64 Exit)) 2048 at (omega arith) (exit_there Amd64 (lengths Amd64)))

-- ---- Entry

entry_from : (s : State) (tail : List ℕ) → s.pc ≡ 4096 → length s.general ≡ 32 → STACK + 56 ≤ s.sp → s.sp ≤ STACK_TOP → Stands Amd64 s (bytes_of Amd64 4096 (rows Amd64 Entry) ++ tail) → TakesBy Amd64 25 s (amd64_entered s)
unfolding is_plain are_moved are_saved
entry_from s tail at count low top h =
    let t4 : List ℕ = amd64_row 4288 (load (G 4) 11 528) ++ tail in
    let t3 : List ℕ = bytes_of Amd64 4167 (exchange_stores 11 (entry_stores Amd64)) ++ t4 in
    let t2 : List ℕ = amd64_row 4160 (address 11) ++ t3 in
    let t1 : List ℕ = bytes_of Amd64 4104 (area_stores 4 0 (stub_area Amd64)) ++ t2 in
    let s1 : State = with_sp_by 8 (s.sp - 56) s in
    let s2 : State = amd64_saved s in
    let s3 : State = addressed 7 11 s2 in
    let s4 : State = amd64_passed s in
    let e : State = amd64_entered s in
    let one = fall_row s (s.sp - 56) t1 h (omega arith) (omega arith) in
    let h1 : Stands Amd64 s1 t1 = onward Amd64 s s1 (amd64_row 4096 (sum 4 4 (negsuc 55))) t1 8 refl refl (length-append (amd64_row 4096 (sum 4 4 (negsuc 55))) t1) h in
    let saves = area_stored (stub_area Amd64) s1 0 t2 refl (omega arith) (omega arith) h1 in
    let here : s2.pc ≡ 4160 = omega arith in
    let three = address_row s2 4160 11 t3 here (omega arith) (no_sp 11 refl) saves.stands in
    let h3 : Stands Amd64 s3 t3 = onward Amd64 s2 s3 (amd64_row 4160 (address 11)) t3 7 refl refl (length-append (amd64_row 4160 (address 11)) t3) saves.stands in
    let came : Came s3 s4 15 t4 = exchange_stored (entry_stores Amd64) s3 t4 refl (based s.general count) (sized s.general count) h3 in
    let last = load_sp_row s4 528 131600 (x_of 528 s4) tail (omega arith) came.stands (ap (λ b. b + 528) came.base) (omega arith) (load_exchange Amd64 s4 528 131600 (omega arith) refl) in
    and_then Amd64 1 24 25 s s1 e refl (one_step Amd64 s s1 one) (and_then Amd64 7 17 24 s1 s2 e refl saves.steps (and_then Amd64 1 16 17 s2 s3 e refl (one_step Amd64 s2 s3 three) (and_then Amd64 15 1 16 s3 s4 e refl came.steps (one_step Amd64 s4 e last))))

pub entry_runs : (s : State) → s.pc ≡ 4096 → length s.general ≡ 32 → STACK + 56 ≤ s.sp → s.sp ≤ STACK_TOP → TakesBy Amd64 25 s (amd64_entered s)
unfolding stub_bytes
entry_runs s at count low top =
    entry_from s _ at count low top (stands Amd64 s (bytes_of Amd64 4096 (rows Amd64 Entry)) 0 at (omega arith) (entry_there Amd64 (lengths Amd64)))
