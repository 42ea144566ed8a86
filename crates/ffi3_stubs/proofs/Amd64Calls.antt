-- What the four stubs of AMD64 leave, in readable words.
use Rattle.std.proofs.Common.{◌≡◌, ◌+◌, ◌-◌, ◌≤◌, ◌++◌, false, length, refl, ap, ◌∙◌, arith, length-set, ◌⊎◌, inl, inr, ⊎_elim, ℕ, ◌*◌, ◌<◌, min}
use Rattle.ffi3_machine_spec.specs.Memory.{number_of}
use Rattle.ffi3_type_spec.specs.declared.Isa.TheVariants.{Amd64}
use Rattle.ffi3_type_spec.specs.declared.limits.TheConstants.{STACK, STACK_TOP}
use Rattle.ffi3_place_spec.specs.declared.Loc.{Loc}
use Rattle.ffi3_place_spec.specs.declared.Loc.TheVariants.{G}
use Rattle.ffi3_machine_spec.specs.declared.stub.TheConstants.{EXCHANGE, AREA_AT, ENTRY_SP_AT, RETURN_SP_AT}
use Rattle.ffi3_machine_spec.specs.State.{State, IsMachine, x_of, with_pc}
use Rattle.ffi3_place_spec.specs.StubRegisters.{call_loads, entry_stores, callee_saved_words, stub_area, result_loads}
use Rattle.ffi3_stubs.specs.Effects.{held, addressed, with_sp_by, amd64_placed, amd64_called, amd64_saved, amd64_entered, amd64_restored, amd64_left, amd64_returned}
use Rattle.ffi3_stubs.specs.Calls.{same_loc, is_in, HasCalled, HasEntered, HasLeft, HasReturned}
use Rattle.ffi3_stubs.proofs.Reading.{are_apart, are_spread, are_disjoint, place, misses, neither, in_neither, addressed_other, exchange_others, area_others, came_from_exchange, came_from_area, came_still, area_lengths, exchange_beyond, went_from, went_to_exchange, went_to_area}
use Rattle.ffi3_stubs.proofs.Around.{area_size, area_outside, area_mark}

pub has_called : (s : State) → IsMachine s → HasCalled Amd64 s (amd64_called (with_pc 8050 s))
unfolding are_apart
has_called s is = record {
  loaded = came_from_exchange Amd64 11 (call_loads Amd64) (amd64_placed (with_pc 8050 s)) refl (length-set s.general 11 EXCHANGE ∙ is.general) is.floating;
  others = λ l out.
      let parts = neither (same_loc l (G 11)) (is_in l (call_loads Amd64)) out in
      exchange_others Amd64 11 (call_loads Amd64) (amd64_placed (with_pc 8050 s)) l parts.1 ∙ addressed_other s.general l 11 EXCHANGE s (amd64_placed (with_pc 8050 s)) refl refl parts.0;
  sp = refl;
  pc = refl;
  link = tt;
  stack = refl;
  mark = refl;
  rest = refl;
}

pub has_returned : (s : State) → IsMachine s → HasReturned Amd64 s (amd64_returned s)
unfolding place misses are_spread
has_returned s is =
    let t : State = addressed 7 11 s in
    let same : (l : Loc) → same_loc l (G 11) ≡ false → held l t ≡ held l s = λ l out. addressed_other s.general l 11 EXCHANGE s t refl refl out in
    record {
      stored = went_from 11 (result_loads Amd64) s t (amd64_returned s) refl same (went_to_exchange Amd64 11 (result_loads Amd64) t refl is.exchange);
      beyond = λ at far. exchange_beyond Amd64 11 (result_loads Amd64) t at far refl is.exchange;
      others = λ l out. same l (neither (same_loc l (G 11)) false out).0;
      sp = ap (number_of 8) (exchange_beyond Amd64 11 (result_loads Amd64) t RETURN_SP_AT (omega arith) refl is.exchange);
      rest = refl;
    }

pub has_entered : (s : State) → IsMachine s → STACK + 56 ≤ s.sp → s.sp ≤ STACK_TOP → HasEntered Amd64 s (amd64_entered s)
unfolding place misses are_spread
has_entered s is low high =
    let w : State = with_sp_by 8 (s.sp - 56) s in
    let whole : w.sp + 0 ≡ s.sp - 56 = omega arith in
    let around : (i : ℕ) → (STACK + i < s.sp - 56) ⊎ (s.sp ≤ STACK + i) → (STACK + i < w.sp + 0) ⊎ (w.sp + 0 + 8 * length (stub_area Amd64) ≤ STACK + i) = λ i far. ⊎_elim (λ x. inl (omega (arith, x))) (λ x. inr (omega (arith, x, low))) far in
    let t : State = addressed 7 11 (amd64_saved s) in
    let same : (l : Loc) → same_loc l (G 11) ≡ false → held l t ≡ held l s = λ l out. addressed_other s.general l 11 EXCHANGE s t refl refl out in
    record {
      saved = went_to_area Amd64 0 (s.sp - 56) (stub_area Amd64) (with_sp_by 8 (s.sp - 56) s) (omega arith) (omega arith) (omega arith) is.stack;
      size = area_size Amd64 0 (stub_area Amd64) w (omega arith) (omega arith) is.stack;
      outside = λ i far. area_outside Amd64 0 (stub_area Amd64) w i (omega arith) (omega arith) is.stack (around i far);
      mark = area_mark Amd64 0 (stub_area Amd64) w (omega arith) ∙ ap (min s.mark) whole;
      stored = went_from 11 (entry_stores Amd64) s t (amd64_entered s) refl same (went_to_exchange Amd64 11 (entry_stores Amd64) t refl is.exchange);
      beyond = λ at far. exchange_beyond Amd64 11 (entry_stores Amd64) t at far refl is.exchange;
      others = λ l out. same l (neither (same_loc l (G 11)) false out).0;
      sp = ap (number_of 8) (exchange_beyond Amd64 11 (entry_stores Amd64) t ENTRY_SP_AT (omega arith) refl is.exchange);
      rest = refl;
    }

pub has_left : (s : State) → IsMachine s → HasLeft Amd64 s (amd64_left (with_pc 6144 s))
unfolding are_apart are_disjoint
has_left s is =
    let w : State = with_pc 6144 s in
    let t : State = with_sp_by 7 (x_of AREA_AT s) (addressed 7 11 w) in
    let count : length t.general ≡ 32 = length-set s.general 11 EXCHANGE ∙ is.general in
    let sizes = area_lengths Amd64 0 (callee_saved_words Amd64) t in
    let after : (l : Loc) → is_in l (result_loads Amd64) ≡ false → held l (amd64_left w) ≡ held l (amd64_restored w) = λ l out. exchange_others Amd64 11 (result_loads Amd64) (amd64_restored w) l out in
    record {
      restored = came_still (callee_saved_words Amd64) (result_loads Amd64) (x_of AREA_AT s) s.stack (amd64_restored w) (amd64_left w) refl after (came_from_area Amd64 0 (x_of AREA_AT s) (callee_saved_words Amd64) t (omega arith) refl count is.floating);
      loaded = came_from_exchange Amd64 11 (result_loads Amd64) (amd64_restored w) refl (sizes.0 ∙ count) (sizes.1 ∙ is.floating);
      others = λ l out.
          let parts = neither (same_loc l (G 11)) (is_in l (callee_saved_words Amd64 ++ result_loads Amd64)) out in
          let more = in_neither l (callee_saved_words Amd64) (result_loads Amd64) parts.1 in
          after l more.1 ∙ area_others Amd64 0 (callee_saved_words Amd64) t l more.0 ∙ addressed_other s.general l 11 EXCHANGE s t refl refl parts.0;
      sp = refl;
      pc = refl;
      rest = refl;
    }
