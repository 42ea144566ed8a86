-- The entry of a callee by the stub Entry, and the way back by the stub Exit: the words of the save area.
use Rattle.std.specs.Prelude.{Option, Some, None, ⊤}
use Rattle.std.proofs.Common.{◌≡◌, ◌⊎◌, inl, inr, ℕ, zero, suc, ◌+◌, ◌-◌, ◌*◌, ◌%◌, ◌^◌, ◌<◌, ◌≤◌, min, Bool, true, false, List, [], ◌∷◌, ◌++◌, map, take, drop, get_or, length, refl, ap, sym, ◌∙◌, subst, arith}
use Rattle.std.specs.List.{AllByRecursion}
use Rattle.std.specs.Int.{w64, from_le_bytes}
use Rattle.std.proofs.lemmas.Bool.{cases_lt}
use Rattle.ffi3_type_spec.specs.declared.Isa.{Isa}
use Rattle.ffi3_type_spec.specs.declared.Isa.TheVariants.{Amd64, Aarch64, Riscv}
use Rattle.ffi3_type_spec.specs.declared.limits.TheConstants.{STACK, STACK_TOP}
use Rattle.ffi3_type_spec.specs.TargetIsa.{isa_of}
use Rattle.ffi3_place_spec.specs.declared.Loc.{Loc}
use Rattle.ffi3_place_spec.specs.declared.Loc.TheVariants.{G, S}
use Rattle.ffi3_place_spec.specs.declared.SaveWord.{SaveWord}
use Rattle.ffi3_place_spec.specs.declared.SaveWord.TheVariants.{Register, Hidden, Spare}
use Rattle.ffi3_place_spec.specs.MachineRegisters.{to_list}
use Rattle.ffi3_place_spec.specs.StubRegisters.{area_bytes, entry_scratch, entry_stores, hidden_register, callee_saved_words, spare_words}
use Rattle.ffi3_place_spec.specs.Standard.{Standard}
use Rattle.ffi3_place_spec.specs.Agrees.{AgreesWithMachine}
use Rattle.ffi3_place_spec.specs.ByStubs.{AgreesWithStubs}
use Rattle.ffi3_place_spec.specs.Sound.{IsNoneOf, IsOneOf}
use Rattle.ffi3_place_spec.proofs.Forbidden.{each_exists}
use Rattle.ffi3_place_spec.proofs.Tests.{each_at}
use Rattle.ffi3_machine_spec.specs.declared.stub.TheConstants.{ENTRY_SP_AT}
use Rattle.ffi3_machine_spec.specs.Memory.{low_bytes, number_of}
use Rattle.ffi3_machine_spec.specs.State.{State, IsMachine, with_sp, with_x}
use Rattle.ffi3_machine_spec.specs.Stubs.{Entry}
use Rattle.ffi3_stubs.specs.Effects.{held}
use Rattle.ffi3_stubs.specs.Calls.{CameFromWords, HasEntered, WentToWords, steps_of}
use Rattle.ffi3_machine_transfer.specs.Passing.{by_exchange, passing, passing_if}
use Rattle.ffi3_machine_transfer.specs.Stored.{IsPlace, SameAt, WroteOnly, stack_byte, word_in}
use Rattle.ffi3_machine_transfer.proofs.Held.{held_small, left_by, stored_as_passed, word_held}
use Rattle.ffi3_marshal.proofs.Lawful.{each_map, machine_places}
use Rattle.ffi3_machine_transfer.proofs.Composing.{beside, by_register, word_same}
use Rattle.ffi3_machine_transfer.proofs.Passing.{steps_more, steps_same, told_there, word_read, word_stored}
use Rattle.ffi3_machine_transfer.proofs.Tables.{each_with, one_of_each, reserved_not_entered}
use Rattle.ffi3_callee.specs.Entered.{IsEntered}
use Rattle.ffi3_callee.specs.Saved.{AreGivenBack, AreSaved, HoldRegisters, IsHiddenWord, IsToSave, saved_word}
use Rattle.ffi3_callee.proofs.Keeping.{reserved_there}
use Rattle.ffi3_callee.proofs.Return.{any_sp}

-- ---- words that follow one another

abbrev eight_from : ℕ → State → ℕ
eight_from a m =
    from_le_bytes w64 (stack_byte m (a + 0) ∷ stack_byte m (a + 1) ∷ stack_byte m (a + 2) ∷ stack_byte m (a + 3) ∷ stack_byte m (a + 4) ∷ stack_byte m (a + 5) ∷ stack_byte m (a + 6) ∷ stack_byte m (a + 7) ∷ [])

word_later : (from i : ℕ) (m : State) → saved_word (from + 8) i m ≡ saved_word from (suc i) m
word_later from i m =
    let there : from + 8 + 8 * i ≡ from + 8 * suc i = omega arith in
    ap (λ a. eight_from a m) there

-- words that hold nothing
abbrev IsSpare : SaveWord → Type 0
IsSpare Spare = ⊤
IsSpare (Register at) = ⊥
IsSpare Hidden = ⊥

spare_only : (isa : Isa) → AllByRecursion IsSpare (spare_words isa)
spare_only Amd64 = tt
spare_only Aarch64 = (tt, tt)
spare_only Riscv = tt

saved_are_registers : (isa : Isa) → AllByRecursion (IsPlace 0) (callee_saved_words isa)
saved_are_registers Amd64 = machine_places Amd64 0 (callee_saved_words Amd64) (each_exists Amd64 (callee_saved_words Amd64) refl)
saved_are_registers isa = machine_places isa 0 (callee_saved_words isa) (each_exists isa (callee_saved_words isa) refl)

module _ (base : ℕ) (hidden : Option Loc) (entry m : State) (is : IsMachine entry) (h : Loc) (hidden_is : IsHiddenWord base entry hidden (held h entry)) where
  spare_holds : (w : SaveWord) (n : ℕ) → IsSpare w → IsToSave base entry hidden w n
  spare_holds Spare n spare = tt
  spare_holds _ n spare = absurd spare

  word_is : (from : ℕ) (l : Loc) → STACK ≤ from → take 8 (drop (from - STACK) m.stack) ≡ low_bytes 8 (held l entry) → saved_word from 0 m ≡ held l entry
  word_is from l low e =
      let none : from + 0 ≡ from = omega arith in
      word_stored from 0 (held l entry) m low (ap (λ a. take 8 (drop (a - STACK) m.stack)) none ∙ e) (held_small l entry is)

  words_saved : (from : ℕ) (ls : List Loc) (rest : List SaveWord) → STACK ≤ from → AllByRecursion (IsPlace 0) ls → AllByRecursion IsSpare rest → WentToWords from (ls ++ h ∷ []) entry.general entry.floating m.stack → AreSaved from base hidden (map Register ls ++ (Hidden ∷ rest)) entry m
  words_saved from [] rest low lie spare went zero w below w_is =
      subst (λ u. IsToSave base entry hidden u (saved_word from 0 m)) (sym w_is) (subst (IsHiddenWord base entry hidden) (sym (word_is from h low went.0)) hidden_is)
  words_saved from [] rest low lie spare went (suc i) w below w_is =
      spare_holds w (saved_word from (suc i) m) (each_at IsSpare rest i w (omega (arith, below)) (sym w_is) spare)
  words_saved from (l ∷ ls) rest low lie spare went zero w below w_is =
      subst (λ u. IsToSave base entry hidden u (saved_word from 0 m)) (sym w_is) (word_is from l low went.0 ∙ sym (word_held base l entry lie.0))
  words_saved from (l ∷ ls) rest low lie spare went (suc i) w below w_is =
      subst (IsToSave base entry hidden w) (word_later from i m) (words_saved (from + 8) ls rest (omega (arith, low)) lie.1 spare went.1 i w (omega (arith, below)) w_is)

-- ---- words that are loaded again

abbrev IsNoRegister : SaveWord → Type 0
IsNoRegister (Register at) = ⊥
IsNoRegister Hidden = ⊤
IsNoRegister Spare = ⊤

none_behind : (isa : Isa) → AllByRecursion IsNoRegister (Hidden ∷ spare_words isa)
none_behind Amd64 = (tt, tt)
none_behind Aarch64 = (tt, (tt, tt))
none_behind Riscv = (tt, tt)

same_register : (a b : Loc) → Register a ≡ Register b → a ≡ b
same_register a b h = cc

words_back : (m n : State) (value : Loc → ℕ) (rest : List SaveWord) → AllByRecursion IsNoRegister rest → (from : ℕ) (ls : List Loc) → STACK ≤ from → AllByRecursion (IsPlace 0) ls → CameFromWords from ls m.stack n → HoldRegisters from (map Register ls ++ rest) value m → (i : ℕ) (at : Loc) → i < length (map Register ls ++ rest) → Register at ≡ get_or (map Register ls ++ rest) i (Register at) → word_in STACK_TOP n at ≡ value at
words_back m n value rest none from [] low lie came hold i at below at_is =
    absurd (each_at IsNoRegister rest i (Register at) below (sym at_is) none)
words_back m n value rest none from (l ∷ ls) low lie came hold zero at below at_is =
    let same : at ≡ l = same_register at l at_is in
    let plain : from + 0 ≡ from = omega arith in
    ap (word_in STACK_TOP n) same ∙ word_held STACK_TOP l n lie.0 ∙ came.0 ∙ ap (λ a. number_of 8 (take 8 (drop (a - STACK) m.stack))) (sym plain) ∙ sym (word_read from 0 m low) ∙ hold 0 l (omega arith) refl ∙ ap value (sym same)
words_back m n value rest none from (l ∷ ls) low lie came hold (suc i) at below at_is =
    words_back m n value rest none (from + 8) ls (omega (arith, low)) lie.1 came.1 (λ j k small is. word_later from j m ∙ hold (suc j) k (omega (arith, small)) is) i at (omega (arith, below)) at_is

pub area_back : (std : Standard) → AgreesWithStubs std → (area : ℕ) (value : Loc → ℕ) (m n : State) → STACK ≤ area → CameFromWords area (callee_saved_words (isa_of std.target)) m.stack n → AreGivenBack area std.save_area value m n
area_back std laws area value m n low came =
    let isa = isa_of std.target in
    subst (λ ws. AreGivenBack area ws value m n) (sym laws.area) (λ hold i at below at_is. words_back m n value (Hidden ∷ spare_words (isa_of std.target)) (none_behind (isa_of std.target)) area (callee_saved_words (isa_of std.target)) low (saved_are_registers (isa_of std.target)) came hold i at below at_is)

-- ---- the entry

hidden_held : (base h : ℕ) (hidden : Option Loc) (entry : State) → IsPlace 0 (G h) → AllByRecursion (IsOneOf (G h ∷ [])) (to_list hidden) → IsHiddenWord base entry hidden (held (G h) entry)
hidden_held base h (Some at) entry lies some =
    one_of_each (λ l. held (G h) entry ≡ word_in base entry l) at (G h ∷ []) (sym (word_held base (G h) entry lies), tt) some.0
hidden_held base h None entry lies some = tt

hidden_lies : (isa : Isa) → IsPlace 0 (G (hidden_register isa))
hidden_lies Amd64 = omega arith
hidden_lies _ = omega arith

falls : (old new low : ℕ) → new ≡ min old low → (old ≤ new) ⊎ (low ≤ new)
falls old new low is = elim (cases_lt old low) [
  | inl less ↦ inl (omega (arith, is, less))
  | inr more ↦ inr (omega (arith, is, more))
]

pub entered_by_stub : (std : Standard) → AgreesWithMachine std → AgreesWithStubs std → (base block : ℕ) (hidden : Option Loc) (entry m : State) → IsMachine entry → std.target ≡ entry.target → base ≡ entry.sp + std.link → STACK + std.save ≤ entry.sp → entry.sp ≤ STACK_TOP → block ≤ entry.sp → AllByRecursion (IsOneOf (G (hidden_register (isa_of std.target)) ∷ [])) (to_list hidden) → by_exchange entry.target ≡ true → HasEntered (isa_of entry.target) (with_x ENTRY_SP_AT block entry) m → m.steps ≡ (entry.steps + steps_of (isa_of entry.target) Entry) % 2 ^ 64 → IsEntered std hidden block entry m
entered_by_stub std agrees laws base block hidden entry m is same base_is low high block_low hidden_saved e says counted =
    let isa = isa_of std.target in
    let sized = is.exchange in
    let bytes : std.save ≡ area_bytes (isa_of std.target) = laws.area_size in
    let s : HasEntered (isa_of std.target) (with_x ENTRY_SP_AT block entry) m = subst (λ k. HasEntered (isa_of k) (with_x ENTRY_SP_AT block entry) m) (sym same) says in
    let target : m.target ≡ entry.target = ap (λ q. q.target) s.rest in
    let went : WentToWords (entry.sp - std.save) (callee_saved_words (isa_of std.target) ++ G (hidden_register (isa_of std.target)) ∷ []) entry.general entry.floating m.stack = subst (λ n. WentToWords (entry.sp - n) (callee_saved_words (isa_of std.target) ++ G (hidden_register (isa_of std.target)) ∷ []) entry.general entry.floating m.stack) (sym bytes) s.saved in
    let outside = subst (λ n. (i : ℕ) → (STACK + i < entry.sp - n) ⊎ (entry.sp ≤ STACK + i) → get_or m.stack i 0 ≡ get_or entry.stack i 0) (sym bytes) s.outside in
    let mark : m.mark ≡ min entry.mark (entry.sp - std.save) = s.mark ∙ ap (λ n. min entry.mark (entry.sp - n)) (sym bytes) in
    record {
      saved = subst (λ ws. AreSaved (entry.sp - std.save) (entry.sp + std.link) hidden ws entry m) (sym laws.area) (words_saved (entry.sp + std.link) hidden entry m is (G (hidden_register (isa_of std.target))) (hidden_held (entry.sp + std.link) (hidden_register (isa_of std.target)) hidden entry (hidden_lies (isa_of std.target)) hidden_saved) (entry.sp - std.save) (callee_saved_words (isa_of std.target)) (spare_words (isa_of std.target)) (omega (arith, low)) (saved_are_registers (isa_of std.target)) (spare_only (isa_of std.target)) went);
      arguments = subst (λ (b : Bool). AllByRecursion (λ l. SameAt 0 l entry (passing_if b m)) std.argument_registers) (ap by_exchange (sym target)) (each_with (IsPlace 0) (IsOneOf (entry_stores (isa_of std.target))) (λ l. SameAt 0 l entry (passing_if (by_exchange entry.target) m)) (λ l lies some. stored_as_passed (by_exchange entry.target) e (entry_stores (isa_of std.target)) entry (with_x ENTRY_SP_AT block entry) m is refl refl s.stored l lies some) std.argument_registers (machine_places (isa_of std.target) 0 std.argument_registers agrees.arguments_exist) laws.arguments_stored);
      reserved = each_with (IsPlace 0) (IsNoneOf (entry_scratch (isa_of std.target))) (λ at. word_in STACK_TOP m at ≡ word_in STACK_TOP entry at) (λ l lies none. word_same STACK_TOP STACK_TOP l entry m lies (left_by (entry_scratch (isa_of std.target)) entry m s.others l lies none)) std.reserved (reserved_there std agrees) (subst (AllByRecursion (IsNoneOf (entry_scratch (isa_of std.target)))) (sym agrees.reserved) (reserved_not_entered (isa_of std.target)));
      sp = s.sp ∙ told_there ENTRY_SP_AT block entry (omega (arith, sized)) (omega (arith, block_low, high));
      within = beside (entry.sp - std.save) entry.sp entry m s.size outside (falls entry.mark m.mark (entry.sp - std.save) mark) target (ap (λ q. q.code) s.rest);
      pc = λ own. absurd cc;
      events = ap (λ q. q.events) s.rest;
      spare_events = ap (λ q. q.spare_events) s.rest;
      spare_bytes = ap (λ q. q.spare_bytes) s.rest;
      steps = steps_more (by_exchange entry.target) (steps_of (isa_of entry.target) Entry) entry.steps m.steps e counted;
    }

-- ---- the entry without stubs

lists_same : (entry m : State) → m.general ≡ entry.general → m.floating ≡ entry.floating → (l : Loc) → IsPlace 0 l → SameAt 0 l entry m
lists_same entry m general floating l lies =
    by_register (λ l. SameAt 0 l entry m) (λ r below. ap (λ xs. get_or xs r 0) general) (λ r below. ap (λ xs. get_or xs r 0) floating) l lies

pub entered_itself : (std : Standard) → AgreesWithMachine std → (from base block : ℕ) (hidden : Option Loc) (entry a m : State) → std.target ≡ entry.target → from ≡ entry.sp - std.save → base ≡ entry.sp + std.link → STACK + std.save ≤ entry.sp → by_exchange entry.target ≡ false → AreSaved from base hidden std.save_area entry a → WroteOnly from (from + 8 * length std.save_area) entry a → m ≡ with_sp block a → IsEntered std hidden block entry m
entered_itself std agrees from base block hidden entry a m same from_is base_is low e saved only m_is =
    let area = agrees.area in
    let w = only.within in
    let target : m.target ≡ entry.target = ap (λ q. q.target) m_is ∙ w.target in
    let general : m.general ≡ entry.general = ap (λ q. q.general) m_is ∙ only.general in
    let floating : m.floating ≡ entry.floating = ap (λ q. q.floating) m_is ∙ only.floating in
    let there : AreSaved (entry.sp - std.save) (entry.sp + std.link) hidden std.save_area entry a = subst (λ n. AreSaved (entry.sp - std.save) n hidden std.save_area entry a) base_is (subst (λ n. AreSaved n base hidden std.save_area entry a) from_is saved) in
    let own : by_exchange m.target ≡ false = ap by_exchange target ∙ e in
    let mark = subst (λ q. (entry.mark ≤ q.mark) ⊎ (entry.sp - std.save ≤ q.mark)) (sym m_is) (subst (λ n. (entry.mark ≤ a.mark) ⊎ (n ≤ a.mark)) from_is w.mark) in
    record {
      saved = λ i word below is. subst (IsToSave (entry.sp + std.link) entry hidden word) (sym (ap (λ q. saved_word (entry.sp - std.save) i q) m_is ∙ any_sp (entry.sp - std.save) block a (S (8 * i) 8))) (there i word below is);
      arguments = each_map (IsPlace 0) (λ l. SameAt 0 l entry (passing m)) (λ l lies. subst (λ (b : Bool). SameAt 0 l entry (passing_if b m)) (sym own) (lists_same entry m general floating l lies)) std.argument_registers (machine_places (isa_of std.target) 0 std.argument_registers agrees.arguments_exist);
      reserved = each_map (IsPlace 0) (λ at. word_in STACK_TOP m at ≡ word_in STACK_TOP entry at) (λ l lies. word_same STACK_TOP STACK_TOP l entry m lies (lists_same entry m general floating l lies)) std.reserved (reserved_there std agrees);
      sp = ap (λ q. q.sp) m_is;
      within = beside (entry.sp - std.save) entry.sp entry m (ap (λ q. length q.stack) m_is ∙ w.size) (λ i far. ap (λ q. get_or q.stack i 0) m_is ∙ w.outside i (around from i from_is area far)) mark target (ap (λ q. q.code) m_is ∙ w.code);
      pc = λ own. ap (λ q. q.pc) m_is ∙ w.pc;
      events = ap (λ q. q.events) m_is ∙ w.events;
      spare_events = ap (λ q. q.spare_events) m_is ∙ w.spare_events;
      spare_bytes = ap (λ q. q.spare_bytes) m_is ∙ w.spare_bytes;
      steps = steps_same (by_exchange entry.target) (steps_of (isa_of entry.target) Entry) entry.steps m.steps e (ap (λ q. q.steps) m_is ∙ w.steps);
    }
  where
    around : (from i : ℕ) → from ≡ entry.sp - std.save → 8 * length std.save_area ≡ std.save → (STACK + i < entry.sp - std.save) ⊎ (entry.sp ≤ STACK + i) → (STACK + i < from) ⊎ (from + 8 * length std.save_area ≤ STACK + i)
    around from i from_is area (inl below) = inl (omega (arith, from_is, below))
    around from i from_is area (inr above) = inr (omega (arith, from_is, area, above, low))
