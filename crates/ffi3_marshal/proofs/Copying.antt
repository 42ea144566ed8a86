-- The copy of an argument by reference.
use Rattle.std.proofs.Common.{◌≡◌, ◌⊎◌, inl, inr, ℕ, suc, zero, ◌+◌, ◌-◌, ◌*◌, ◌<◌, ◌≤◌, List, [], ◌∷◌, get_or, length, subst, ◌∙◌, refl, arith}
use Rattle.std.specs.Prelude.{◌/◌}
use Rattle.std.specs.List.{AllByRecursion}
use Rattle.std.proofs.lemmas.Bool.{cases_lt}
use Rattle.std.proofs.lemmas.List.{ext_get_or}
use Rattle.ffi3_type_spec.specs.Tree.{Tree}
use Rattle.ffi3_type_spec.specs.Layout.{size_of}
use Rattle.ffi3_type_spec.specs.Value.{part}
use Rattle.ffi3_type_spec.proofs.Parts.{index_part, length_part, same_part}
use Rattle.ffi3_place_spec.specs.declared.Loc.{Loc}
use Rattle.ffi3_place_spec.specs.declared.Loc.TheVariants.{S}
use Rattle.ffi3_place_spec.specs.declared.Place.{Place}
use Rattle.ffi3_place_spec.specs.declared.Place.TheVariants.{Direct, ByRef}
use Rattle.ffi3_place_spec.specs.Image.{Image}
use Rattle.ffi3_place_spec.specs.Sound.{Apart, IsNoneOf, PlaceHasAll, stack_words, stack_words_for}
use Rattle.ffi3_marshal.specs.Stored.{SameAt, Stays, IsWordPut, stored}
use Rattle.ffi3_marshal.specs.Standing.{CopyStands, IsCopied, PlaceKeeps, PlaceStands, place_uses}
use Rattle.ffi3_marshal.proofs.Puts.{stored_inside, stored_outside, stored_size}
use Rattle.ffi3_marshal.proofs.Composing.{same_word_at, stays_then}
use Rattle.ffi3_marshal.proofs.Stepping.{all_keep, all_since, all_stand_stays, none_of_one}

-- ---- stack words

-- a place that is none of the stack words lies before or behind them
pub clear_of_words : (at n q w : ℕ) → 0 < w → IsNoneOf (stack_words at n) (S q w) → (n ≡ 0) ⊎ ((q + w ≤ at) ⊎ (at + 8 * n ≤ q))
clear_of_words at zero q w some h = inl refl
clear_of_words at (suc n) q w some h = inr (both h.0 (clear_of_words (at + 8) n q w some h.1))
  where
    both : (q + w ≤ at) ⊎ (at + 8 ≤ q) → (n ≡ 0) ⊎ ((q + w ≤ at + 8) ⊎ (at + 8 + 8 * n ≤ q)) → (q + w ≤ at) ⊎ (at + 8 * suc n ≤ q)
    both (inl below) rest = inl below
    both (inr above) (inl none) = inr (omega (arith, above, none))
    both (inr above) (inr (inl x)) = absurd (omega (arith, above, x, some))
    both (inr above) (inr (inr x)) = inr (omega (arith, x))

-- the bytes of stack words that stay
pub words_same : (base at n : ℕ) (ls : List Loc) (a b : Image) → AllByRecursion (IsNoneOf ls) (stack_words at n) → Stays base ls a b → (i : ℕ) → i < 8 * n → get_or b.stack (base + at + i) 0 ≡ get_or a.stack (base + at + i) 0
words_same base at zero ls a b none s i h = absurd (omega (arith, h))
words_same base at (suc n) ls a b none s i h =
    elim (cases_lt i 8) [
      | inl first ↦ s.others (S at 8) none.0 i first
      | inr later ↦
          let there : base + (at + 8) + (i - 8) ≡ base + at + i = omega (arith, later) in
          subst (λ k. get_or b.stack k 0 ≡ get_or a.stack k 0) there (words_same base (at + 8) n ls a b none.1 s (i - 8) (omega (arith, h, later)))
    ]

-- ---- a copy that stays

same_copy : (base copy size : ℕ) (ls : List Loc) (a b : Image) → AllByRecursion (IsNoneOf ls) (stack_words copy ((size + 7) / 8)) → Stays base ls a b → base + copy + size ≤ length a.stack → part b.stack (base + copy) size ≡ part a.stack (base + copy) size
same_copy base copy size ls a b clear s room =
    same_part b.stack a.stack (base + copy) size (omega (arith, room, s.size)) room (λ j from to.
    let there : base + copy + (j - (base + copy)) ≡ j = omega (arith, from) in
    subst (λ k. get_or b.stack k 0 ≡ get_or a.stack k 0) there (words_same base copy ((size + 7) / 8) ls a b clear s (j - (base + copy)) (omega (arith, from, to))))

copy_stays : (base : ℕ) (t : Tree) (bytes : List ℕ) (at : Loc) (copy : ℕ) (ls : List Loc) (a b : Image) → IsNoneOf ls at → AllByRecursion (IsNoneOf ls) (stack_words_for copy t) → Stays base ls a b → CopyStands base a t bytes at copy → CopyStands base b t bytes at copy
copy_stays base t bytes at copy ls a b none clear s stands =
    let same_sp : a.sp + base + copy ≡ b.sp + base + copy = omega (arith, s.sp) in record {
      address = same_word_at base at a b (s.others at none) ∙ stands.address ∙ same_sp;
      room = omega (arith, stands.room, s.size);
      has = same_copy base copy (size_of t) ls a b clear s stands.room ∙ stands.has;
    }

-- an argument that stands still stands after stores elsewhere
pub place_stays : (base : ℕ) (t : Tree) (bytes : List ℕ) (p : Place) (ls : List Loc) (a b : Image) → PlaceHasAll t p → AllByRecursion (IsNoneOf ls) (place_uses t p) → Stays base ls a b → PlaceStands base a t bytes p → PlaceStands base b t bytes p
place_stays base t bytes (Direct pieces) ls a b has_all none s stands = all_stand_stays base t bytes ls a b pieces has_all.each none s stands
place_stays base t bytes (ByRef at copy) ls a b has_all none s stands = copy_stays base t bytes at copy ls a b none.0 none.1 s stands

-- and what its places keep they keep
pub place_keeps : (base : ℕ) (t : Tree) (p : Place) (ls : List Loc) (o a b : Image) → AllByRecursion (IsNoneOf ls) (place_uses t p) → Stays base ls a b → PlaceKeeps base o a t p → PlaceKeeps base o b t p
place_keeps base t (Direct pieces) ls o a b none s keep = all_keep base ls o a b pieces none s keep
place_keeps base t (ByRef at copy) ls o a b none s keep =
    λ k from below. words_same base copy ((size_of t + 7) / 8) ls a b none.1 s k below ∙ keep k from below

-- what an argument's places keep of what stood there before it was stored they keep of what stood before stores elsewhere
pub keeps_since : (base : ℕ) (t : Tree) (p : Place) (ls : List Loc) (o a b : Image) → AllByRecursion (λ l. IsNoneOf ls l) (place_uses t p) → Stays base ls o a → PlaceKeeps base a b t p → PlaceKeeps base o b t p
keeps_since base t (Direct pieces) ls o a b none s keep = all_since base ls o a b pieces none s keep
keeps_since base t (ByRef at copy) ls o a b none s keep =
    λ k from below. keep k from below ∙ words_same base copy ((size_of t + 7) / 8) ls o a none.1 s k below

-- ---- the store of a copy

module _ (base copy n : ℕ) (bytes : List ℕ) (old : Image) (few : length bytes ≤ 8 * n) (fits : base + copy + length bytes ≤ length old.stack) where
  abbrev after : Image
  after = stored (base + copy) bytes old

  words_stay : Stays base (stack_words copy n) old (stored (base + copy) bytes old)
  words_stay = record {
    sp = refl;
    size = stored_size (base + copy) bytes old fits;
    below = λ i h. stored_outside (base + copy) bytes old fits i (inl (omega (arith, h)));
    others = others;
  }
    where
      outside : (j : ℕ) → (j < base + copy) ⊎ (base + copy + length bytes ≤ j) → get_or (stored (base + copy) bytes old).stack j 0 ≡ get_or old.stack j 0
      outside = stored_outside (base + copy) bytes old fits

      clear_byte : (q w k : ℕ) → k < w → (n ≡ 0) ⊎ ((q + w ≤ copy) ⊎ (copy + 8 * n ≤ q)) → get_or (stored (base + copy) bytes old).stack (base + q + k) 0 ≡ get_or old.stack (base + q + k) 0
      clear_byte q w k h (inl none) =
          elim (cases_lt (q + k) copy) [
            | inl below ↦ outside (base + q + k) (inl (omega (arith, below)))
            | inr above ↦ outside (base + q + k) (inr (omega (arith, above, few, none)))
          ]
      clear_byte q w k h (inr (inl below)) = outside (base + q + k) (inl (omega (arith, below, h)))
      clear_byte q w k h (inr (inr above)) = outside (base + q + k) (inr (omega (arith, above, few)))

      others : (l : Loc) → IsNoneOf (stack_words copy n) l → SameAt base l old (stored (base + copy) bytes old)
      others (S q w) none = λ k h. clear_byte q w k h (clear_of_words copy n q w (omega (arith, h)) none)
      others _ none = refl

  copy_has : part after.stack (base + copy) (length bytes) ≡ bytes
  copy_has =
      let many = length_part after.stack (base + copy) (length bytes) (omega (arith, stored_size (base + copy) bytes old fits, fits)) in
      ext_get_or 0 (part after.stack (base + copy) (length bytes)) bytes many (λ k h.
      let below : k < length bytes = subst (λ m. k < m) many h in
      index_part after.stack (base + copy) (length bytes) k below ∙ stored_inside (base + copy) bytes old fits k below)

pub copied : (base : ℕ) (t : Tree) (l : Loc) (copy : ℕ) (bytes : List ℕ) (old new : Image) → length bytes ≡ size_of t → base + copy + size_of t ≤ length old.stack → AllByRecursion (Apart l) (stack_words_for copy t) → IsWordPut base l (old.sp + base + copy) (stored (base + copy) bytes old) new → IsCopied base t bytes l copy old new
copied base t l copy bytes old new sized fits apart put =
    let fits_bytes : base + copy + length bytes ≤ length old.stack = omega (arith, fits, sized) in
    let few : length bytes ≤ 8 * ((size_of t + 7) / 8) = omega (arith, sized) in
    let first = words_stay base copy ((size_of t + 7) / 8) bytes old few fits_bytes in
    let there = subst (λ n. part (stored (base + copy) bytes old).stack (base + copy) n ≡ bytes) sized (copy_has base copy ((size_of t + 7) / 8) bytes old few fits_bytes) in
    let clear = none_of_one l (stack_words_for copy t) apart in
    let same = same_copy base copy (size_of t) (l ∷ []) (stored (base + copy) bytes old) new clear put.stays (omega (arith, fits, first.size)) in
    let same_sp : old.sp + base + copy ≡ new.sp + base + copy = omega (arith, put.stays.sp) in
    record {
      stands = record {
        address = put.word ∙ same_sp;
        room = omega (arith, fits, first.size, put.stays.size);
        has = same ∙ there;
      };
      kept = λ k from below. words_same base copy ((size_of t + 7) / 8) (l ∷ []) (stored (base + copy) bytes old) new clear put.stays k below ∙ stored_outside (base + copy) bytes old fits_bytes (base + copy + k) (inr (omega (arith, from, sized)));
      stays = stays_then base (stack_words_for copy t) (l ∷ []) old (stored (base + copy) bytes old) new first put.stays;
    }
