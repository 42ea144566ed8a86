-- What the four stubs of AArch64 leave, in readable words.
use Rattle.std.proofs.Common.{◌≡◌, ℕ, ◌+◌, ◌-◌, ◌≤◌, [], ◌∷◌, ◌++◌, false, length, refl, ap, ◌∙◌, arith, length-set, ◌⊎◌, inl, inr, ⊎_elim, ◌*◌, ◌<◌, min}
use Rattle.std.proofs.lemmas.List.{get_or-set_same}
use Rattle.ffi3_machine_spec.specs.Memory.{number_of}
use Rattle.ffi3_type_spec.specs.declared.Isa.TheVariants.{Aarch64}
use Rattle.ffi3_type_spec.specs.declared.limits.TheConstants.{STACK, STACK_TOP}
use Rattle.ffi3_place_spec.specs.declared.Loc.{Loc}
use Rattle.ffi3_place_spec.specs.declared.Loc.TheVariants.{G}
use Rattle.ffi3_machine_spec.specs.declared.stub.TheConstants.{EXCHANGE, AREA_AT, CALLEE_AT, CALL_SP_AT, ENTRY_SP_AT, RETURN_SP_AT}
use Rattle.ffi3_machine_spec.specs.State.{State, IsMachine, x_of, with_pc}
use Rattle.ffi3_place_spec.specs.StubRegisters.{call_loads, entry_stores, callee_saved_words, stub_area, result_loads}
use Rattle.ffi3_stubs.specs.Effects.{held, received, addressed, with_sp_by, aarch64_placed, aarch64_loaded, aarch64_called, aarch64_saved, aarch64_passed, aarch64_entered, aarch64_restored, aarch64_left, aarch64_taken, aarch64_returned}
use Rattle.ffi3_stubs.specs.Calls.{same_loc, is_in, HasCalled, HasEntered, HasLeft, HasReturned}
use Rattle.ffi3_stubs.proofs.Reading.{are_apart, are_spread, are_disjoint, place, misses, neither, in_neither, other_than, exchange_others, area_others, came_from_exchange, came_from_area, came_still, came_again, area_lengths, exchange_lengths, exchange_beyond, went_from, went_to_exchange, went_to_area}
use Rattle.ffi3_stubs.proofs.Around.{area_size, area_outside, area_mark}

minus_none : (a : ℕ) → a ≡ a - 0
minus_none a = omega arith

plus_none : (a : ℕ) → a ≡ a + 0
plus_none a = omega arith

pub has_called : (s : State) → IsMachine s → HasCalled Aarch64 s (aarch64_called (with_pc 8104 s))
unfolding are_apart are_disjoint
has_called s is =
    let w : State = with_pc 8104 s in
    let a : State = addressed 4 17 w in
    let p : State = aarch64_placed w in
    let q : State = aarch64_loaded w in
    let r : State = received 4 (G 16) (x_of CALLEE_AT q) q in
    let e : State = aarch64_called w in
    let count_p : length p.general ≡ 32 = length-set a.general 16 (x_of CALL_SP_AT s) ∙ length-set s.general 17 EXCHANGE ∙ is.general in
    let count_r : length r.general ≡ 32 = length-set q.general 16 (x_of CALLEE_AT q) ∙ exchange_lengths Aarch64 17 (call_loads Aarch64) p ∙ count_p in
    let last : (l : Loc) → is_in l (G 16 ∷ G 30 ∷ []) ≡ false → held l e ≡ held l q = λ l out.
    let one = neither (same_loc l (G 16)) (is_in l (G 30 ∷ [])) out in
    let two = neither (same_loc l (G 30)) false one.1 in
    other_than l 30 8192 r e refl refl two.0 ∙ other_than l 16 (x_of CALLEE_AT q) q r refl refl one.0 in
    record {
      loaded = came_again (call_loads Aarch64) (G 16 ∷ G 30 ∷ []) s q e refl last (came_from_exchange Aarch64 17 (call_loads Aarch64) p refl count_p is.floating);
      others = λ l out.
          let one = neither (same_loc l (G 17)) (is_in l (G 16 ∷ G 30 ∷ call_loads Aarch64)) out in
          let two = neither (same_loc l (G 16)) (is_in l (G 30 ∷ call_loads Aarch64)) one.1 in
          let three = neither (same_loc l (G 30)) (is_in l (call_loads Aarch64)) two.1 in
          other_than l 30 8192 r e refl refl three.0 ∙ other_than l 16 (x_of CALLEE_AT q) q r refl refl two.0 ∙ exchange_others Aarch64 17 (call_loads Aarch64) p l three.1 ∙ other_than l 16 (x_of CALL_SP_AT s) a p refl refl two.0 ∙ other_than l 17 EXCHANGE s a refl refl one.0;
      sp = minus_none (x_of CALL_SP_AT s);
      pc = refl;
      link = get_or-set_same r.general 30 8192 0 (omega arith);
      stack = refl;
      mark = refl;
      rest = refl;
    }

pub has_returned : (s : State) → IsMachine s → HasReturned Aarch64 s (aarch64_returned s)
unfolding place misses are_spread
has_returned s is =
    let t : State = addressed 4 16 s in
    let u : State = aarch64_taken s in
    let e : State = aarch64_returned s in
    let same : (l : Loc) → same_loc l (G 16) ≡ false → held l t ≡ held l s = λ l out. other_than l 16 EXCHANGE s t refl refl out in
    record {
      stored = went_from 16 (result_loads Aarch64) s t e refl same (went_to_exchange Aarch64 16 (result_loads Aarch64) t refl is.exchange);
      beyond = λ at far. exchange_beyond Aarch64 16 (result_loads Aarch64) t at far refl is.exchange;
      others = λ l out.
          let one = neither (same_loc l (G 16)) (is_in l (G 17 ∷ [])) out in
          let two = neither (same_loc l (G 17)) false one.1 in
          other_than l 17 (x_of RETURN_SP_AT u) t e refl refl two.0 ∙ same l one.0;
      sp = ap (number_of 8) (exchange_beyond Aarch64 16 (result_loads Aarch64) t RETURN_SP_AT (omega arith) refl is.exchange);
      rest = refl;
    }

pub has_entered : (s : State) → IsMachine s → STACK + 176 ≤ s.sp → s.sp ≤ STACK_TOP → HasEntered Aarch64 s (aarch64_entered s)
unfolding place misses are_spread
has_entered s is low high =
    let w : State = with_sp_by 4 (s.sp - 176) s in
    let whole : w.sp + 0 ≡ s.sp - 176 = omega arith in
    let around : (i : ℕ) → (STACK + i < s.sp - 176) ⊎ (s.sp ≤ STACK + i) → (STACK + i < w.sp + 0) ⊎ (w.sp + 0 + 8 * length (stub_area Aarch64) ≤ STACK + i) = λ i far. ⊎_elim (λ x. inl (omega (arith, x))) (λ x. inr (omega (arith, x, low))) far in
    let t : State = addressed 4 16 (aarch64_saved s) in
    let u : State = aarch64_passed s in
    let e : State = aarch64_entered s in
    let same : (l : Loc) → same_loc l (G 16) ≡ false → held l t ≡ held l s = λ l out. other_than l 16 EXCHANGE s t refl refl out in
    record {
      saved = went_to_area Aarch64 0 (s.sp - 176) (stub_area Aarch64) (with_sp_by 4 (s.sp - 176) s) (omega arith) (omega arith) (omega arith) is.stack;
      size = area_size Aarch64 0 (stub_area Aarch64) w (omega arith) (omega arith) is.stack;
      outside = λ i far. area_outside Aarch64 0 (stub_area Aarch64) w i (omega arith) (omega arith) is.stack (around i far);
      mark = area_mark Aarch64 0 (stub_area Aarch64) w (omega arith) ∙ ap (min s.mark) whole;
      stored = went_from 16 (entry_stores Aarch64) s t e refl same (went_to_exchange Aarch64 16 (entry_stores Aarch64) t refl is.exchange);
      beyond = λ at far. exchange_beyond Aarch64 16 (entry_stores Aarch64) t at far refl is.exchange;
      others = λ l out. let one = neither (same_loc l (G 16)) false out in other_than l 16 (x_of ENTRY_SP_AT u) t e refl refl one.0 ∙ same l one.0;
      sp = ap (number_of 8) (exchange_beyond Aarch64 16 (entry_stores Aarch64) t ENTRY_SP_AT (omega arith) refl is.exchange);
      rest = refl;
    }

pub has_left : (s : State) → IsMachine s → HasLeft Aarch64 s (aarch64_left (with_pc 6144 s))
unfolding are_apart are_disjoint
has_left s is =
    let w : State = with_pc 6144 s in
    let a : State = addressed 4 16 w in
    let t : State = with_sp_by 4 (x_of AREA_AT s) (received 4 (G 17) (x_of AREA_AT s) a) in
    let count : length t.general ≡ 32 = length-set a.general 17 (x_of AREA_AT s) ∙ length-set s.general 16 EXCHANGE ∙ is.general in
    let sizes = area_lengths Aarch64 0 (callee_saved_words Aarch64) t in
    let after : (l : Loc) → is_in l (result_loads Aarch64) ≡ false → held l (aarch64_left w) ≡ held l (aarch64_restored w) = λ l out. exchange_others Aarch64 16 (result_loads Aarch64) (aarch64_restored w) l out in
    record {
      restored = came_still (callee_saved_words Aarch64) (result_loads Aarch64) (x_of AREA_AT s) s.stack (aarch64_restored w) (aarch64_left w) refl after (came_from_area Aarch64 0 (x_of AREA_AT s) (callee_saved_words Aarch64) t (omega arith) refl count is.floating);
      loaded = came_from_exchange Aarch64 16 (result_loads Aarch64) (aarch64_restored w) refl (sizes.0 ∙ count) (sizes.1 ∙ is.floating);
      others = λ l out.
          let one = neither (same_loc l (G 16)) (is_in l (G 17 ∷ (callee_saved_words Aarch64 ++ result_loads Aarch64))) out in
          let two = neither (same_loc l (G 17)) (is_in l (callee_saved_words Aarch64 ++ result_loads Aarch64)) one.1 in
          let more = in_neither l (callee_saved_words Aarch64) (result_loads Aarch64) two.1 in
          after l more.1 ∙ area_others Aarch64 0 (callee_saved_words Aarch64) t l more.0 ∙ other_than l 17 (x_of AREA_AT s) a t refl refl two.0 ∙ other_than l 16 EXCHANGE s a refl refl one.0;
      sp = plus_none (x_of AREA_AT s + 176);
      pc = refl;
      rest = refl;
    }
