-- One more word that is saved, or given back.
use Rattle.std.proofs.Common.{◌≡◌, ◌≢◌, ◌⊎◌, inl, inr, ⊎_elim, ℕ, zero, suc, ◌+◌, ◌-◌, ◌*◌, ◌^◌, ◌<◌, ◌≤◌, List, [], ◌∷◌, drop, get_or, length, refl, ap, sym, ◌∙◌, subst, arith}
use Rattle.std.specs.Prelude.{Option}
use Rattle.std.specs.List.{AllByRecursion}
use Rattle.std.specs.Int.{w64, to_le_bytes}
use Rattle.std.proofs.lemmas.Bool.{cases_lt}
use Rattle.ffi3_place_spec.specs.declared.Loc.{Loc}
use Rattle.ffi3_place_spec.specs.declared.Loc.TheVariants.{G, F, S}
use Rattle.ffi3_place_spec.specs.Sound.{Apart, IsNoneOf}
use Rattle.ffi3_place_spec.proofs.Elements.{drop_read}
use Rattle.ffi3_place_spec.proofs.Tests.{each_at}
use Rattle.std.proofs.lemmas.List.{drop_all}
use Rattle.ffi3_type_spec.specs.declared.limits.TheConstants.{STACK, STACK_BYTES, STACK_TOP}
use Rattle.ffi3_place_spec.specs.Agrees.{saved_registers}
use Rattle.ffi3_machine_spec.specs.State.{State, stored}
use Rattle.ffi3_machine_transfer.specs.Stored.{IsPlace, SameAt, Stays, WroteOnly, WroteWithin, word_in}
use Rattle.ffi3_machine_transfer.proofs.Composing.{only_nothing, only_then, only_wider, same_itself, same_then, wrote_nothing, wrote_then}
use Rattle.ffi3_machine_transfer.proofs.Putting.{only_stored, stored_inside, stored_outside, word_there}
use Rattle.ffi3_machine_transfer.proofs.Stepping.{same_word_in}
use Rattle.ffi3_place_spec.specs.declared.SaveWord.{SaveWord}
use Rattle.ffi3_place_spec.specs.declared.SaveWord.TheVariants.{Register, Hidden, Spare}
use Rattle.ffi3_callee.specs.Saved.{AreGivenBack, AreSaved, HoldRegisters, IsHiddenWord, IsRestorable, IsToSave, hidden_word, saved_word, with_given_back, with_saved, with_word, word_to_save}
use Rattle.ffi3_callee.proofs.Copying.{place_above}

-- ---- the words from one on

first_of : (ws : List SaveWord) (i : ℕ) (w : SaveWord) → i < length ws → w ≡ get_or ws i w → drop i ws ≡ w ∷ drop (suc i) ws
first_of ws i w h is =
    let next : i + 1 ≡ suc i = omega arith in
    drop_read ws i w h is ∙ ap (λ k. w ∷ drop k ws) next

-- what stands at a place of a list, whatever is asked for beyond its end
same_element : (ws : List SaveWord) (i : ℕ) (v w : SaveWord) → i < length ws → v ≡ get_or ws i v → w ≡ get_or ws i w → v ≡ w
same_element [] i v w h v_is w_is = absurd (omega (arith, h))
same_element (x ∷ ws) zero v w h v_is w_is = v_is ∙ sym w_is
same_element (x ∷ ws) (suc i) v w h v_is w_is = same_element ws i v w (omega (arith, h)) v_is w_is

-- ---- saving

hidden_above : (low high base : ℕ) (hidden : Option Loc) (a b : State) → STACK ≤ base → high ≤ base → WroteOnly low high a b → hidden_word base b hidden ≡ hidden_word base a hidden
hidden_above low high base (Option.Some at) a b inside above w = same_word_in base at a b (place_above low high base at a b inside above w)
hidden_above low high base Option.None a b inside above w = refl

-- what is to be saved does not change while words below it are written
to_save_above : (low high base : ℕ) (hidden : Option Loc) (word : SaveWord) (a b : State) → STACK ≤ base → high ≤ base → WroteOnly low high a b → word_to_save base b hidden word ≡ word_to_save base a hidden word
to_save_above low high base hidden (Register at) a b inside above w = same_word_in base at a b (place_above low high base at a b inside above w)
to_save_above low high base hidden Hidden a b inside above w = hidden_above low high base hidden a b inside above w
to_save_above low high base hidden Spare a b inside above w = refl

hidden_is_one : (base : ℕ) (m : State) (hidden : Option Loc) → IsHiddenWord base m hidden (hidden_word base m hidden)
hidden_is_one base m (Option.Some at) = refl
hidden_is_one base m Option.None = tt

-- what is stored in a word is what it is to hold
stored_is_one : (base : ℕ) (m : State) (hidden : Option Loc) (word : SaveWord) → IsToSave base m hidden word (word_to_save base m hidden word)
stored_is_one base m hidden (Register at) = refl
stored_is_one base m hidden Hidden = hidden_is_one base m hidden
stored_is_one base m hidden Spare = tt

module _ (from base : ℕ) (hidden : Option Loc) (words : List SaveWord) (first : State) where
  pub record AreSavedTo (i : ℕ) (m : State) : Type 0 where
    pub only : WroteOnly from (from + 8 * length words) first m
    pub whole : with_saved from base hidden i (drop i words) m ≡ with_saved from base hidden 0 words first
    pub each : (j : ℕ) (w : SaveWord) → j < i → j < length words → w ≡ get_or words j w → saved_word from j m ≡ word_to_save base first hidden w

  pub none_saved : AreSavedTo 0 first
  none_saved = record { only = only_nothing from (from + 8 * length words) first; whole = refl; each = λ j w h below is. absurd (omega (arith, h)) }

  pub one_more_saved : (i addr : ℕ) (word : SaveWord) (n : ℕ) (bytes : List ℕ) (a b : State) → STACK ≤ from → from + 8 * length words ≤ base → base ≤ STACK_TOP → length first.stack ≡ STACK_BYTES → i < length words → word ≡ get_or words i word → n < 2 ^ 64 → n ≡ word_to_save base a hidden word → bytes ≡ to_le_bytes w64 n → length bytes ≡ 8 → addr ≡ from + 8 * i → b ≡ stored addr bytes a → AreSavedTo i a → AreSavedTo (i + 1) b
  one_more_saved i addr word n bytes a b low below high sized inside is small n_is bytes_is eight addr_is b_is before =
      record { only = only_then from (from + 8 * length words) first a b before.only wrote; whole = whole; each = each }
    where
      whole : with_saved from base hidden (i + 1) (drop (i + 1) words) b ≡ with_saved from base hidden 0 words first
      whole =
          let next : i + 1 ≡ suc i = omega arith in
          let there : b ≡ stored (from + 8 * i) (to_le_bytes w64 (word_to_save base a hidden word)) a = b_is ∙ ap (λ q. stored q bytes a) addr_is ∙ ap (λ q. stored (from + 8 * i) q a) (bytes_is ∙ ap (to_le_bytes w64) n_is) in
          ap (λ k. with_saved from base hidden k (drop k words) b) next ∙ ap (with_saved from base hidden (suc i) (drop (suc i) words)) there ∙ ap (λ ws. with_saved from base hidden i ws a) (sym (first_of words i word inside is)) ∙ before.whole

      fits : addr - STACK + length bytes ≤ length a.stack
      fits = omega (arith, eight, addr_is, inside, below, high, low, sized, before.only.within.size)

      start : STACK ≤ addr
      start = omega (arith, low, addr_is)

      wrote : WroteOnly from (from + 8 * length words) a b
      wrote = subst (WroteOnly from (from + 8 * length words) a) (sym b_is) (only_wider addr (addr + length bytes) from (from + 8 * length words) a (stored addr bytes a) (omega (arith, addr_is)) (omega (arith, addr_is, eight, inside)) (only_stored addr bytes a start fits))

      here : (j : ℕ) (w : SaveWord) → j ≡ i → j < length words → w ≡ get_or words j w → saved_word from j b ≡ word_to_save base first hidden w
      here j w at below_j w_is =
          let same_place : w ≡ word = same_element words i w word inside (subst (λ k. w ≡ get_or words k w) at w_is) is in
          let written : (k : ℕ) → k < 8 → get_or b.stack (from + 8 * j + k - STACK) 0 ≡ get_or (to_le_bytes w64 n) k 0 = λ k h. let there : from + 8 * j + k - STACK ≡ addr + k - STACK = omega (arith, at, addr_is) in
          ap (λ m. get_or m.stack (from + 8 * j + k - STACK) 0) b_is ∙ ap (λ q. get_or (stored addr bytes a).stack q 0) there ∙ stored_inside addr bytes a start fits k (omega (arith, h, eight)) ∙ ap (λ xs. get_or xs k 0) bytes_is in
          word_there from (8 * j) n b small written ∙ n_is ∙ to_save_above from (from + 8 * length words) base hidden word first a (omega (arith, low, below)) below before.only ∙ ap (word_to_save base first hidden) (sym same_place)

      kept : (j : ℕ) → j < i → SameAt from (S (8 * j) 8) a b
      kept j h = λ k less. ap (λ m. get_or m.stack (from + 8 * j + k - STACK) 0) b_is ∙ stored_outside addr bytes a start fits (from + 8 * j + k - STACK) (inl (omega (arith, low, addr_is, h, less)))

      each : (j : ℕ) (w : SaveWord) → j < i + 1 → j < length words → w ≡ get_or words j w → saved_word from j b ≡ word_to_save base first hidden w
      each j w h below_j w_is = elim (cases_lt j i) [
        | inl earlier ↦ same_word_in from (S (8 * j) 8) a b (kept j earlier) ∙ before.each j w earlier below_j w_is
        | inr last ↦ here j w (omega (arith, h, last)) below_j w_is
      ]

  pub all_saved : (i : ℕ) (m : State) → length words ≤ i → AreSavedTo i m → AreSaved from base hidden words first m
  all_saved i m end saved j w below is =
      subst (IsToSave base first hidden w) (sym (saved.each j w (omega (arith, below, end)) below is)) (stored_is_one base first hidden w)

  pub all_stored : (i : ℕ) (m : State) → length words ≤ i → AreSavedTo i m → m ≡ with_saved from base hidden 0 words first
  all_stored i m end saved =
      ap (λ ws. with_saved from base hidden i ws m) (sym (drop_all i words end)) ∙ saved.whole

-- ---- giving back

registers_none : (ws : List SaveWord) (i : ℕ) (w : SaveWord) (l : Loc) → i < length ws → w ≡ get_or ws i w → IsNoneOf (saved_registers ws) l → IsNoneOf (saved_registers (w ∷ [])) l
registers_none [] i w l h is none = absurd (omega (arith, h))
registers_none (Register at ∷ ws) zero w l h is none = subst (λ u. IsNoneOf (saved_registers (u ∷ [])) l) (sym is) (none.0, tt)
registers_none (_ ∷ ws) zero w l h is none = subst (λ u. IsNoneOf (saved_registers (u ∷ [])) l) (sym is) tt
registers_none (Register at ∷ ws) (suc i) w l h is none = registers_none ws i w l (omega (arith, h)) is none.1
registers_none (_ ∷ ws) (suc i) w l h is none = registers_none ws i w l (omega (arith, h)) is none

-- the bytes of words stay where no register's write reaches
stack_same : (from i : ℕ) (a b : State) → STACK ≤ from → WroteWithin STACK_TOP STACK_TOP a b → saved_word from i b ≡ saved_word from i a
stack_same from i a b low w = same_word_in from (S (8 * i) 8) a b (λ k h. w.outside (from + 8 * i + k - STACK) (cases_lt (STACK + (from + 8 * i + k - STACK)) STACK_TOP))

different : (m n : ℕ) → (m < n) ⊎ (n ≤ m) → (n < m) ⊎ (m ≤ n) → (m ≡ n) ⊎ (m ≢ n)
different m n (inl less) other = inr (λ e. absurd (omega (arith, less, e)))
different m n (inr most) (inl more) = inr (λ e. absurd (omega (arith, more, e)))
different m n (inr most) (inr least) = inl (omega (arith, most, least))

same_or_apart : (k l : Loc) → IsPlace 0 k → (k ≡ l) ⊎ Apart l k
same_or_apart (G a) (G b) h = ⊎_elim (λ e. inl (ap G (sym e))) inr (different b a (cases_lt b a) (cases_lt a b))
same_or_apart (F a) (F b) h = ⊎_elim (λ e. inl (ap F (sym e))) inr (different b a (cases_lt b a) (cases_lt a b))
same_or_apart (S a w) l h = absurd (omega (arith, h.0, h.1))
same_or_apart _ _ h = inr tt

module _ (from : ℕ) (words : List SaveWord) (first : State) where
  pub record AreBackTo (i : ℕ) (m : State) : Type 0 where
    pub within : WroteWithin STACK_TOP STACK_TOP first m
    pub stays : Stays STACK_TOP (saved_registers words) first m
    pub whole : with_given_back from i (drop i words) m ≡ with_given_back from 0 words first
    pub each : (value : Loc → ℕ) → HoldRegisters from words value first → (j : ℕ) (at : Loc) → j < i → j < length words → Register at ≡ get_or words j (Register at) → word_in STACK_TOP m at ≡ value at

  pub none_back : AreBackTo 0 first
  none_back = record {
    within = wrote_nothing STACK_TOP STACK_TOP first;
    stays = record { sp = refl; size = refl; others = λ l none. same_itself STACK_TOP l first };
    whole = refl;
    each = λ value hold j at h below is. absurd (omega (arith, h));
  }

  pub one_more_back : (i : ℕ) (word : SaveWord) (a b : State) → STACK ≤ from → i < length words → word ≡ get_or words i word → AllByRecursion (IsRestorable first.target) words → ((at : Loc) → word ≡ Register at → word_in STACK_TOP b at ≡ saved_word from i a) → Stays STACK_TOP (saved_registers (word ∷ [])) a b → WroteWithin STACK_TOP STACK_TOP a b → b ≡ with_word word (saved_word from i a) a → AreBackTo i a → AreBackTo (i + 1) b
  one_more_back i word a b low inside is registers set stays within b_is before =
      record { within = wrote_then STACK_TOP STACK_TOP first a b before.within within; stays = stays_all; whole = whole; each = each }
    where
      whole : with_given_back from (i + 1) (drop (i + 1) words) b ≡ with_given_back from 0 words first
      whole =
          let next : i + 1 ≡ suc i = omega arith in
          ap (λ k. with_given_back from k (drop k words) b) next ∙ ap (with_given_back from (suc i) (drop (suc i) words)) b_is ∙ ap (λ ws. with_given_back from i ws a) (sym (first_of words i word inside is)) ∙ before.whole

      stays_all : Stays STACK_TOP (saved_registers words) first b
      stays_all = record {
        sp = stays.sp ∙ before.stays.sp;
        size = stays.size ∙ before.stays.size;
        others = λ l none. same_then STACK_TOP l first a b (before.stays.others l none) (stays.others l (registers_none words i word l inside is none));
      }

      here : (value : Loc → ℕ) → HoldRegisters from words value first → (at : Loc) → word ≡ Register at → word_in STACK_TOP b at ≡ value at
      here value hold at e =
          set at e ∙ stack_same from i first a low before.within ∙ hold i at inside (subst (λ w. w ≡ get_or words i w) e is)

      kept : (value : Loc → ℕ) → HoldRegisters from words value first → (w : SaveWord) → word ≡ w → (at : Loc) → IsPlace 0 at → word_in STACK_TOP a at ≡ value at → word_in STACK_TOP b at ≡ value at
      kept value hold (Register r) e at lies before_at =
          elim (same_or_apart at r lies) [
            | inl same ↦ here value hold at (e ∙ ap Register (sym same))
            | inr clear ↦ same_word_in STACK_TOP at a b (stays.others at (subst (λ u. IsNoneOf (saved_registers (u ∷ [])) at) (sym e) (clear_of r at clear, tt))) ∙ before_at
          ]
        where
          clear_of : (r at : Loc) → Apart r at → Apart at r
          clear_of (G x) (G y) h = λ e. h (sym e)
          clear_of (F x) (F y) h = λ e. h (sym e)
          clear_of (S x v) (S y w) h = ⊎_elim (λ x. inr x) (λ x. inl x) h
          clear_of _ _ h = tt
      kept value hold _ e at lies before_at = same_word_in STACK_TOP at a b (stays.others at (subst (λ u. IsNoneOf (saved_registers (u ∷ [])) at) (sym e) tt)) ∙ before_at

      last : (j : ℕ) (at : Loc) → j ≡ i → Register at ≡ get_or words j (Register at) → word ≡ Register at
      last j at e at_is = same_element words i word (Register at) inside is (subst (λ k. Register at ≡ get_or words k (Register at)) e at_is)

      each : (value : Loc → ℕ) → HoldRegisters from words value first → (j : ℕ) (at : Loc) → j < i + 1 → j < length words → Register at ≡ get_or words j (Register at) → word_in STACK_TOP b at ≡ value at
      each value hold j at h below at_is = elim (cases_lt j i) [
        | inl earlier ↦ kept value hold word refl at (each_at (IsRestorable first.target) words j (Register at) below (sym at_is) registers).0 (before.each value hold j at earlier below at_is)
        | inr end ↦ here value hold at (last j at (omega (arith, h, end)) at_is)
      ]

  pub all_back : (i : ℕ) (m : State) → length words ≤ i → AreBackTo i m → (value : Loc → ℕ) → AreGivenBack from words value first m
  all_back i m end back value hold j at below is = back.each value hold j at (omega (arith, below, end)) below is

  pub all_given : (i : ℕ) (m : State) → length words ≤ i → AreBackTo i m → m ≡ with_given_back from 0 words first
  all_given i m end back =
      ap (λ ws. with_given_back from i ws m) (sym (drop_all i words end)) ∙ back.whole
