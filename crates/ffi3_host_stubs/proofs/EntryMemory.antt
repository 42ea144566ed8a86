-- Memory behind Entry: registers at v and above, and then the word for Exit, and registers in the exchange region at x.
use Rattle.std.proofs.Common.{◌≡◌, ◌⊎◌, inl, inr, ⊎_elim, ℕ, ◌+◌, ◌*◌, ◌<◌, ◌≤◌, true, List, length, refl, ap, ◌∙◌, arith}
use Rattle.ffi3_machine_spec.specs.Memory.{low_bytes}
use Rattle.ffi3_type_spec.specs.declared.Isa.{Isa}
use Rattle.ffi3_place_spec.specs.declared.Loc.{Loc}
use Rattle.ffi3_place_spec.specs.MachineRegisters.{stack_pointer}
use Rattle.ffi3_machine_spec.specs.declared.stub.TheConstants.{AREA_AT, ENTRY_SP_AT, REGISTERS_END, RETURN_SP_AT}
use Rattle.ffi3_host_stubs.specs.Processor.{Processor, bytes_at, put_word}
use Rattle.ffi3_host_stubs.specs.Calls.{WentToWords, IsOutside}
use Rattle.ffi3_host_stubs.proofs.Effects.{Places, in_area, to_places}
use Rattle.ffi3_host_stubs.proofs.Standing.{outside_region, region_outside}
use Rattle.ffi3_host_stubs.proofs.Memory.{byte_other, word_put, bytes_alike, bytes_other, bytes_stay, word_stays, around, are_below, are_clear, are_spread, went, to_area, Misses}

module _ (isa : Isa) (b x v top : ℕ) (ls : List Loc) (ms : Places) (w t : Processor) where
  abbrev saved : Processor
  saved = to_places isa (stack_pointer isa) v (in_area 0 ls) w

  abbrev passed : Processor
  passed = to_places isa b x ms t

  pub area_around : (a : ℕ) → v + 8 * length ls ≤ top → are_below (8 * length ls) (in_area 0 ls) ≡ true → IsOutside v top a → saved.memory a ≡ w.memory a
  area_around a rises ok out =
      bytes_stay isa (stack_pointer isa) v (in_area 0 ls) w a (around v (8 * length ls) (in_area 0 ls) a ok (⊎_elim (λ h. inl h) (λ h. inr (omega (arith, h, rises))) out))

  module _ (here : t.memory ≡ put_word (x + AREA_AT) v saved.memory) (apart : (x + 552 ≤ v) ⊎ (top ≤ x)) (rises : v + 8 * length ls ≤ top) where
    area_kept : (a : ℕ) → are_below REGISTERS_END ms ≡ true → v ≤ a → a < v + 8 * length ls → passed.memory a ≡ saved.memory a
    area_kept a ok low high =
        let out : (a < x) ⊎ (x + 552 ≤ a) = outside_region a x v top low (omega (arith, high, rises)) apart in
        bytes_stay isa b x ms t a (around x REGISTERS_END ms a ok (⊎_elim (λ h. inl h) (λ h. inr (omega (arith, h))) out)) ∙ ap (λ (f : ℕ → ℕ). f a) here ∙ byte_other (x + AREA_AT) v a saved.memory (⊎_elim (λ h. inl (omega (arith, h))) (λ h. inr (omega (arith, h))) out)

    pub words_saved : are_below REGISTERS_END ms ≡ true → are_spread (in_area 0 ls) ≡ true → WentToWords v ls w.general w.floating passed.memory
    words_saved ok spread =
        let at : v + 0 ≡ v = omega arith in
        to_area v 0 v ls w.general w.floating saved.memory passed.memory at (λ a low high. area_kept a ok low high) (went isa (stack_pointer isa) v (in_area 0 ls) w spread)

    pub word_for_exit : are_clear AREA_AT (AREA_AT + 8) ms ≡ true → bytes_at passed.memory (x + AREA_AT) 8 ≡ low_bytes 8 v
    word_for_exit clear =
        word_stays isa b x ms t AREA_AT clear ∙ ap (λ (f : ℕ → ℕ). bytes_at f (x + AREA_AT) 8) here ∙ word_put (x + AREA_AT) v saved.memory

    pub word_of_sp : are_clear ENTRY_SP_AT (ENTRY_SP_AT + 8) ms ≡ true → are_below (8 * length ls) (in_area 0 ls) ≡ true → bytes_at passed.memory (x + ENTRY_SP_AT) 8 ≡ bytes_at w.memory (x + ENTRY_SP_AT) 8
    word_of_sp clear ok =
        word_stays isa b x ms t ENTRY_SP_AT clear ∙ ap (λ (f : ℕ → ℕ). bytes_at f (x + ENTRY_SP_AT) 8) here ∙ bytes_other (x + AREA_AT) v saved.memory (x + ENTRY_SP_AT) 8 (inl (omega arith)) ∙ bytes_alike saved.memory w.memory (x + ENTRY_SP_AT) 8 (λ a low high. area_around a rises ok (region_outside a x v top (omega (arith, low)) (omega (arith, high)) apart))

    pub elsewhere : (a : ℕ) → are_below (8 * length ls) (in_area 0 ls) ≡ true → IsOutside v top a → Misses x ms a → IsOutside (x + AREA_AT) (x + RETURN_SP_AT) a → passed.memory a ≡ w.memory a
    elsewhere a ok low region out =
        bytes_stay isa b x ms t a region ∙ ap (λ (f : ℕ → ℕ). f a) here ∙ byte_other (x + AREA_AT) v a saved.memory (⊎_elim (λ h. inl h) (λ h. inr (omega (arith, h))) out) ∙ area_around a rises ok low
