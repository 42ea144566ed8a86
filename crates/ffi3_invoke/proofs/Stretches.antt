-- Stretches of the stack in steps that record events, and the open calls that stand above them.
use Rattle.std.proofs.Common.{◌≡◌, ◌⊎◌, inl, inr, ℕ, ◌+◌, ◌-◌, ◌*◌, ◌<◌, ◌≤◌, min, List, take, drop, get_or, length, refl, ap, sym, ◌∙◌, subst, arith}
use Rattle.std.proofs.lemmas.List.{ext_get_or, get_or-take, get_or-drop, length-take, length-drop}
use Rattle.ffi3_type_spec.specs.TargetIsa.{isa_of}
use Rattle.ffi3_type_spec.specs.declared.limits.TheConstants.{STACK}
use Rattle.ffi3_place_spec.specs.declared.Loc.TheVariants.{S}
use Rattle.ffi3_place_spec.specs.MachineRegisters.{link_register}
use Rattle.ffi3_place_spec.specs.Standard.{Standard, frame_of}
use Rattle.ffi3_machine_spec.specs.State.{State, stack_at}
use Rattle.ffi3_machine_transfer.specs.Stored.{WroteWithin, with_journal_of}
use Rattle.ffi3_machine_transfer.proofs.Stepping.{same_word_in}
use Rattle.ffi3_callee.specs.Saved.{saved_word}
use Rattle.ffi3_callee.proofs.Answered.{return_same}
use Rattle.ffi3_invoke.specs.Calls.{IsSavedOf, KeepsOpen}

-- the mark is no lower than it may be
pub mark_least : (low : ℕ) (old new : ℕ) → (old ≤ new) ⊎ (low ≤ new) → min old low ≤ new
mark_least low old new (inl h) = omega (arith, h)
mark_least low old new (inr h) = omega (arith, h)

-- ---- what lies outside

-- a part of two lists is the same where the bytes are
part_same : (xs ys : List ℕ) (from count : ℕ) → length ys ≡ length xs → ((i : ℕ) → from ≤ i → i < from + count → get_or ys i 0 ≡ get_or xs i 0) → take count (drop from ys) ≡ take count (drop from xs)
part_same xs ys from count sized same =
    let long : length (take count (drop from ys)) ≡ length (take count (drop from xs)) = length-take count (drop from ys) ∙ ap (min count) (length-drop from ys ∙ ap (λ n. n - from) sized ∙ sym (length-drop from xs)) ∙ sym (length-take count (drop from xs)) in
    ext_get_or 0 (take count (drop from ys)) (take count (drop from xs)) long (λ i h.
    let small : i < count = omega (arith, h, length-take count (drop from ys)) in
    get_or-take count (drop from ys) i 0 small ∙ get_or-drop from ys i 0 ∙ same (from + i) (omega arith) (omega (arith, small)) ∙ sym (get_or-drop from xs i 0) ∙ sym (get_or-take count (drop from xs) i 0 small))

pub above_stays : (low high : ℕ) (a b : State) → WroteWithin low high a b → (address count : ℕ) → STACK ≤ address → high ≤ address → stack_at address count b ≡ stack_at address count a
above_stays low high a b w address count inside above =
    part_same a.stack b.stack (address - STACK) count w.size (λ i from to. w.outside i (inr (omega (arith, inside, above, from))))

pub below_stays : (low high : ℕ) (a b : State) → WroteWithin low high a b → (address count : ℕ) → STACK ≤ address → address + count ≤ low → stack_at address count b ≡ stack_at address count a
below_stays low high a b w address count inside below =
    part_same a.stack b.stack (address - STACK) count w.size (λ i from to. w.outside i (inl (omega (arith, inside, below, from, to))))

-- a word of a save area that lies above
pub word_above : (low high from i : ℕ) (a b : State) → WroteWithin low high a b → STACK ≤ from → high ≤ from → saved_word from i b ≡ saved_word from i a
word_above low high from i a b w inside above =
    same_word_in from (S (8 * i) 8) a b (λ k h. w.outside (from + 8 * i + k - STACK) (inr (omega (arith, inside, above))))

-- and one that lies below
pub word_below : (low high from i : ℕ) (a b : State) → WroteWithin low high a b → STACK ≤ from → from + 8 * i + 8 ≤ low → saved_word from i b ≡ saved_word from i a
word_below low high from i a b w inside below =
    same_word_in from (S (8 * i) 8) a b (λ k h. w.outside (from + 8 * i + k - STACK) (inl (omega (arith, inside, below, h))))

-- ---- open calls

-- calls that stand above what is written still stand
pub still_open : (std : Standard) (low high from : ℕ) (a b : State) → WroteWithin low high a b → high ≤ from → KeepsOpen std from a b
still_open std low high from a b w above entered block here stands =
    let place = stands.place in
    let bottom = stands.bottom in
    record {
      place = stands.place;
      bottom = stands.bottom;
      top = stands.top;
      saved = λ i word below is. subst (IsSavedOf std entered.signature entered.event.image word) (sym (word_above low high (entered.event.image.sp - std.save) i a b w (omega (arith, place, bottom)) (omega (arith, place, above, here)))) (stands.saved i word below is);
      return_address = return_same (link_register (isa_of std.target)) entered.event.image.general entered.event.image.sp a.stack b.stack (λ none. above_stays low high a b w entered.event.image.sp 8 (omega (arith, place, bottom)) (omega (arith, place, above, here))) stands.return_address;
      frame = above_stays low high a b w entered.event.image.sp (std.link + frame_of std entered.signature) (omega (arith, place, bottom)) (omega (arith, place, above, here)) ∙ stands.frame;
    }

-- with the journal and pc of another machine they stand alike
pub open_aside : (std : Standard) (from : ℕ) (a b : State) → KeepsOpen std from a (with_journal_of a b) → KeepsOpen std from a b
open_aside std from a b keeps entered block here stands =
    let still = keeps entered block here stands in
    record {
      place = still.place;
      bottom = still.bottom;
      top = still.top;
      saved = still.saved;
      return_address = still.return_address;
      frame = still.frame;
    }
