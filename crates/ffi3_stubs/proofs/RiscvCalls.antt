-- What the four stubs of RISC-V leave, in readable words.
use Rattle.std.proofs.Common.{◌≡◌, ℕ, ◌+◌, ◌-◌, ◌≤◌, [], ◌∷◌, ◌++◌, false, length, refl, ap, ◌∙◌, arith, length-set, ◌⊎◌, inl, inr, ⊎_elim, ◌*◌, ◌<◌, min}
use Rattle.std.proofs.lemmas.List.{get_or-set_same}
use Rattle.ffi3_machine_spec.specs.Memory.{number_of}
use Rattle.ffi3_type_spec.specs.declared.Isa.TheVariants.{Riscv}
use Rattle.ffi3_type_spec.specs.declared.limits.TheConstants.{STACK, STACK_TOP}
use Rattle.ffi3_place_spec.specs.declared.Loc.{Loc}
use Rattle.ffi3_place_spec.specs.declared.Loc.TheVariants.{G}
use Rattle.ffi3_machine_spec.specs.declared.stub.TheConstants.{EXCHANGE, AREA_AT, CALLEE_AT, CALL_SP_AT, ENTRY_SP_AT, RETURN_SP_AT}
use Rattle.ffi3_machine_spec.specs.State.{State, IsMachine, x_of, with_pc}
use Rattle.ffi3_place_spec.specs.StubRegisters.{call_loads, entry_stores, callee_saved_words, stub_area, result_loads}
use Rattle.ffi3_stubs.specs.Effects.{held, received, addressed_twice, with_sp_by, riscv_placed, riscv_loaded, riscv_called, riscv_saved, riscv_entered, riscv_restored, riscv_left, riscv_returned}
use Rattle.ffi3_stubs.specs.Calls.{same_loc, is_in, HasCalled, HasEntered, HasLeft, HasReturned}
use Rattle.ffi3_stubs.proofs.Reading.{are_apart, are_spread, are_disjoint, place, misses, neither, in_neither, other_than, exchange_others, area_others, came_from_exchange, came_from_area, came_still, came_again, area_lengths, exchange_lengths, exchange_beyond, went_from, went_to_exchange, went_to_area}
use Rattle.ffi3_stubs.proofs.Around.{area_size, area_outside, area_mark}

minus_none : (a : ℕ) → a ≡ a - 0
minus_none a = omega arith

plus_none : (a : ℕ) → a ≡ a + 0
plus_none a = omega arith

pub has_called : (s : State) → IsMachine s → HasCalled Riscv s (riscv_called (with_pc 8108 s))
unfolding are_apart are_disjoint
has_called s is =
    let w : State = with_pc 8108 s in
    let p : State = riscv_placed w in
    let q : State = riscv_loaded w in
    let r : State = received 4 (G 7) (x_of CALLEE_AT q) q in
    let e : State = riscv_called w in
    let count_p : length p.general ≡ 32 = length-set s.general 6 EXCHANGE ∙ is.general in
    let count_r : length r.general ≡ 32 = length-set q.general 7 (x_of CALLEE_AT q) ∙ exchange_lengths Riscv 6 (call_loads Riscv) p ∙ count_p in
    let last : (l : Loc) → is_in l (G 7 ∷ G 1 ∷ []) ≡ false → held l e ≡ held l q = λ l out.
    let one = neither (same_loc l (G 7)) (is_in l (G 1 ∷ [])) out in
    let two = neither (same_loc l (G 1)) false one.1 in
    other_than l 1 8192 r e refl refl two.0 ∙ other_than l 7 (x_of CALLEE_AT q) q r refl refl one.0 in
    record {
      loaded = came_again (call_loads Riscv) (G 7 ∷ G 1 ∷ []) s q e refl last (came_from_exchange Riscv 6 (call_loads Riscv) p refl count_p is.floating);
      others = λ l out.
          let one = neither (same_loc l (G 6)) (is_in l (G 7 ∷ G 1 ∷ call_loads Riscv)) out in
          let two = neither (same_loc l (G 7)) (is_in l (G 1 ∷ call_loads Riscv)) one.1 in
          let three = neither (same_loc l (G 1)) (is_in l (call_loads Riscv)) two.1 in
          other_than l 1 8192 r e refl refl three.0 ∙ other_than l 7 (x_of CALLEE_AT q) q r refl refl two.0 ∙ exchange_others Riscv 6 (call_loads Riscv) p l three.1 ∙ other_than l 6 EXCHANGE s p refl refl one.0;
      sp = minus_none (x_of CALL_SP_AT s);
      pc = refl;
      link = get_or-set_same r.general 1 8192 0 (omega arith);
      stack = refl;
      mark = refl;
      rest = refl;
    }

pub has_returned : (s : State) → IsMachine s → HasReturned Riscv s (riscv_returned s)
unfolding place misses are_spread
has_returned s is =
    let t : State = addressed_twice 6 s in
    let same : (l : Loc) → same_loc l (G 6) ≡ false → held l t ≡ held l s = λ l out. other_than l 6 EXCHANGE s t refl refl out in
    record {
      stored = went_from 6 (result_loads Riscv) s t (riscv_returned s) refl same (went_to_exchange Riscv 6 (result_loads Riscv) t refl is.exchange);
      beyond = λ at far. exchange_beyond Riscv 6 (result_loads Riscv) t at far refl is.exchange;
      others = λ l out. same l (neither (same_loc l (G 6)) false out).0;
      sp = ap (number_of 8) (exchange_beyond Riscv 6 (result_loads Riscv) t RETURN_SP_AT (omega arith) refl is.exchange);
      rest = refl;
    }

pub has_entered : (s : State) → IsMachine s → STACK + 208 ≤ s.sp → s.sp ≤ STACK_TOP → HasEntered Riscv s (riscv_entered s)
unfolding place misses are_spread
has_entered s is low high =
    let w : State = with_sp_by 4 (s.sp - 208) s in
    let whole : w.sp + 0 ≡ s.sp - 208 = omega arith in
    let around : (i : ℕ) → (STACK + i < s.sp - 208) ⊎ (s.sp ≤ STACK + i) → (STACK + i < w.sp + 0) ⊎ (w.sp + 0 + 8 * length (stub_area Riscv) ≤ STACK + i) = λ i far. ⊎_elim (λ x. inl (omega (arith, x))) (λ x. inr (omega (arith, x, low))) far in
    let t : State = addressed_twice 7 (riscv_saved s) in
    let same : (l : Loc) → same_loc l (G 7) ≡ false → held l t ≡ held l s = λ l out. other_than l 7 EXCHANGE s t refl refl out in
    record {
      saved = went_to_area Riscv 0 (s.sp - 208) (stub_area Riscv) (with_sp_by 4 (s.sp - 208) s) (omega arith) (omega arith) (omega arith) is.stack;
      size = area_size Riscv 0 (stub_area Riscv) w (omega arith) (omega arith) is.stack;
      outside = λ i far. area_outside Riscv 0 (stub_area Riscv) w i (omega arith) (omega arith) is.stack (around i far);
      mark = area_mark Riscv 0 (stub_area Riscv) w (omega arith) ∙ ap (min s.mark) whole;
      stored = went_from 7 (entry_stores Riscv) s t (riscv_entered s) refl same (went_to_exchange Riscv 7 (entry_stores Riscv) t refl is.exchange);
      beyond = λ at far. exchange_beyond Riscv 7 (entry_stores Riscv) t at far refl is.exchange;
      others = λ l out. same l (neither (same_loc l (G 7)) false out).0;
      sp = ap (number_of 8) (exchange_beyond Riscv 7 (entry_stores Riscv) t ENTRY_SP_AT (omega arith) refl is.exchange);
      rest = refl;
    }

pub has_left : (s : State) → IsMachine s → HasLeft Riscv s (riscv_left (with_pc 6144 s))
unfolding are_apart are_disjoint
has_left s is =
    let w : State = with_pc 6144 s in
    let t : State = with_sp_by 4 (x_of AREA_AT s) (addressed_twice 6 w) in
    let count : length t.general ≡ 32 = length-set s.general 6 EXCHANGE ∙ is.general in
    let sizes = area_lengths Riscv 0 (callee_saved_words Riscv) t in
    let after : (l : Loc) → is_in l (result_loads Riscv) ≡ false → held l (riscv_left w) ≡ held l (riscv_restored w) = λ l out. exchange_others Riscv 6 (result_loads Riscv) (riscv_restored w) l out in
    record {
      restored = came_still (callee_saved_words Riscv) (result_loads Riscv) (x_of AREA_AT s) s.stack (riscv_restored w) (riscv_left w) refl after (came_from_area Riscv 0 (x_of AREA_AT s) (callee_saved_words Riscv) t (omega arith) refl count is.floating);
      loaded = came_from_exchange Riscv 6 (result_loads Riscv) (riscv_restored w) refl (sizes.0 ∙ count) (sizes.1 ∙ is.floating);
      others = λ l out.
          let one = neither (same_loc l (G 6)) (is_in l (callee_saved_words Riscv ++ result_loads Riscv)) out in
          let more = in_neither l (callee_saved_words Riscv) (result_loads Riscv) one.1 in
          after l more.1 ∙ area_others Riscv 0 (callee_saved_words Riscv) t l more.0 ∙ other_than l 6 EXCHANGE s t refl refl one.0;
      sp = plus_none (x_of AREA_AT s + 208);
      pc = refl;
      rest = refl;
    }
