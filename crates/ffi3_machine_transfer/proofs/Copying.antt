-- The copy of an argument by reference.
use Rattle.std.proofs.Common.{◌≡◌, inl, inr, ℕ, suc, zero, ◌+◌, ◌-◌, ◌*◌, ◌<◌, ◌≤◌, List, get_or, length, subst, ◌∙◌, ap, arith}
use Rattle.std.specs.Prelude.{◌/◌}
use Rattle.std.specs.List.{AllByRecursion}
use Rattle.std.proofs.lemmas.Bool.{cases_lt}
use Rattle.ffi3_type_spec.specs.Tree.{Tree}
use Rattle.ffi3_type_spec.specs.Layout.{size_of}
use Rattle.ffi3_type_spec.specs.Value.{ValueTree, value_in, IsWritten}
use Rattle.ffi3_type_spec.proofs.Parts.{index_part, length_part, same_part}
use Rattle.ffi3_place_spec.specs.declared.Loc.{Loc}
use Rattle.ffi3_place_spec.specs.declared.Loc.TheVariants.{S}
use Rattle.ffi3_place_spec.specs.declared.Place.{Place}
use Rattle.ffi3_place_spec.specs.declared.Place.TheVariants.{Direct, ByRef}
use Rattle.ffi3_place_spec.specs.Sound.{IsNoneOf, PlaceHasAll, stack_words, stack_words_for}
use Rattle.ffi3_type_spec.specs.declared.limits.TheConstants.{STACK}
use Rattle.ffi3_machine_spec.specs.State.{State, stored, stack_at}
use Rattle.ffi3_machine_transfer.specs.Stored.{stack_byte, KeepsPadding, Stays}
use Rattle.ffi3_machine_transfer.specs.Standing.{place_uses, CopyStands, PlaceKeepsUnused, PlaceStands}
use Rattle.ffi3_machine_transfer.proofs.Putting.{stored_inside, stored_outside}
use Rattle.ffi3_machine_transfer.proofs.Stepping.{all_keep_after, all_keep_then, all_stand_stays, same_word_in}

-- ---- stack words

-- the bytes of stack words that stay
pub words_same : (base at n : ℕ) (ls : List Loc) (a b : State) → AllByRecursion (IsNoneOf ls) (stack_words at n) → Stays base ls a b → (i : ℕ) → i < 8 * n → stack_byte b (base + at + i) ≡ stack_byte a (base + at + i)
words_same base at zero ls a b none s i h = absurd (omega (arith, h))
words_same base at (suc n) ls a b none s i h =
    elim (cases_lt i 8) [
      | inl first ↦ s.others (S at 8) none.0 i first
      | inr later ↦
          let there : base + (at + 8) + (i - 8) ≡ base + at + i = omega (arith, later) in
          subst (λ k. stack_byte b k ≡ stack_byte a k) there (words_same base (at + 8) n ls a b none.1 s (i - 8) (omega (arith, h, later)))
    ]

-- ---- a copy that stays

same_copy : (base copy size : ℕ) (ls : List Loc) (a b : State) → STACK ≤ base → AllByRecursion (IsNoneOf ls) (stack_words copy ((size + 7) / 8)) → Stays base ls a b → base + copy - STACK + size ≤ length a.stack → stack_at (base + copy) size b ≡ stack_at (base + copy) size a
same_copy base copy size ls a b low clear s room =
    same_part b.stack a.stack (base + copy - STACK) size (omega (arith, room, s.size)) room (λ j from to.
    let there : base + copy + (j - (base + copy - STACK)) - STACK ≡ j = omega (arith, low, from) in
    subst (λ k. get_or b.stack k 0 ≡ get_or a.stack k 0) there (words_same base copy ((size + 7) / 8) ls a b clear s (j - (base + copy - STACK)) (omega (arith, from, to))))

pub copy_stays : (base : ℕ) (t : Tree) (v : ValueTree) (at : Loc) (copy : ℕ) (ls : List Loc) (a b : State) → STACK ≤ base → IsNoneOf ls at → AllByRecursion (IsNoneOf ls) (stack_words_for copy t) → Stays base ls a b → CopyStands base a t v at copy → CopyStands base b t v at copy
copy_stays base t v at copy ls a b low none clear s stands = record {
  address = same_word_in base at a b (s.others at none) ∙ stands.address;
  room = omega (arith, stands.room, s.size);
  reads = ap (value_in t) (same_copy base copy (size_of t) ls a b low clear s stands.room) ∙ stands.reads;
}

-- an argument that stands still stands after stores elsewhere
pub place_stays : (base : ℕ) (t : Tree) (v : ValueTree) (p : Place) (ls : List Loc) (a b : State) → STACK ≤ base → PlaceHasAll t p → AllByRecursion (IsNoneOf ls) (place_uses t p) → Stays base ls a b → PlaceStands base a t v p → PlaceStands base b t v p
place_stays base t v (Direct pieces) ls a b low has_all none s stands = all_stand_stays base t v ls a b pieces has_all.each none s stands
place_stays base t v (ByRef at copy) ls a b low has_all none s stands = copy_stays base t v at copy ls a b low none.0 none.1 s stands

-- what its place keeps, with other places stored after or before
pub place_keeps_then : (base : ℕ) (t : Tree) (p : Place) (ls : List Loc) (a b c : State) → AllByRecursion (IsNoneOf ls) (place_uses t p) → Stays base ls b c → PlaceKeepsUnused base t a b p → PlaceKeepsUnused base t a c p
place_keeps_then base t (Direct pieces) ls a b c none s keeps = all_keep_then base t ls a b c pieces none s keeps
place_keeps_then base t (ByRef at copy) ls a b c none s keeps = λ i below pad. words_same base copy ((size_of t + 7) / 8) ls b c none.1 s i below ∙ keeps i below pad

pub place_keeps_after : (base : ℕ) (t : Tree) (p : Place) (ls : List Loc) (a b c : State) → AllByRecursion (IsNoneOf ls) (place_uses t p) → Stays base ls a b → PlaceKeepsUnused base t b c p → PlaceKeepsUnused base t a c p
place_keeps_after base t (Direct pieces) ls a b c none s keeps = all_keep_after base t ls a b c pieces none s keeps
place_keeps_after base t (ByRef at copy) ls a b c none s keeps = λ i below pad. keeps i below pad ∙ words_same base copy ((size_of t + 7) / 8) ls a b none.1 s i below

-- a value that is written over what stands at an address keeps its padding
pub padding_kept : (addr : ℕ) (t : Tree) (v : ValueTree) (loaded bytes : List ℕ) (old : State) → STACK ≤ addr → addr - STACK + size_of t ≤ length old.stack → length bytes ≡ size_of t → loaded ≡ stack_at addr (size_of t) old → IsWritten t v loaded bytes → KeepsPadding addr t old (stored addr bytes old)
padding_kept addr t v loaded bytes old low fits sized is written i below pad =
    let fits_bytes : addr - STACK + length bytes ≤ length old.stack = omega (arith, fits, sized) in
    let many : length loaded ≡ size_of t = ap length is ∙ length_part old.stack (addr - STACK) (size_of t) fits in
    elim (cases_lt i (length bytes)) [
      | inl inside ↦
          let there : addr - STACK + i ≡ addr + i - STACK = omega (arith, low) in
          let small : i < size_of t = omega (arith, inside, sized) in
          stored_inside addr bytes old low fits_bytes i inside ∙ written.padding_stays i (omega (arith, small, many)) pad ∙ ap (λ xs. get_or xs i 0) is ∙ index_part old.stack (addr - STACK) (size_of t) i small ∙ ap (λ j. get_or old.stack j 0) there
      | inr behind ↦ stored_outside addr bytes old low fits_bytes (addr + i - STACK) (inr (omega (arith, low, behind)))
    ]
