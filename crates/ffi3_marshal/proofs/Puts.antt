-- A register that is set, and bytes that are stored on the stack.
use Rattle.std.specs.Prelude.{◌^◌}
use Rattle.std.proofs.Common.{◌≡◌, ℕ, ◌+◌, ◌-◌, ◌<◌, ◌≤◌, ◌⊎◌, inl, inr, List, [], ◌∷◌, ◌++◌, map, take, drop, get_or, length, refl, ap, sym, ◌∙◌, subst, arith}
use Rattle.std.specs.Int.{w64, to_le_bytes, from_le_bytes}
use Rattle.std.specs.List.{range_with_len}
use Rattle.std.proofs.lemmas.List.FromFn.{get_or-map-range_with_len}
use Rattle.std.proofs.lemmas.List.{ext_get_or, get_or-set_same, get_or-set_other, get_or_append_left, get_or-append_right, get_or-drop, length-append, length-take-le, length-drop}
use Rattle.std.proofs.lemmas.Nat.{from_le_bytes-to_le_bytes_8}
use Rattle.ffi3_place_spec.specs.declared.Loc.{Loc}
use Rattle.ffi3_place_spec.specs.declared.Loc.TheVariants.{G, F, S}
use Rattle.ffi3_place_spec.specs.declared.Piece.{Piece}
use Rattle.ffi3_place_spec.specs.Image.{Image, byte_at, word_at}
use Rattle.ffi3_place_spec.specs.Sound.{IsNoneOf, IsWhole, IsWithin}
use Rattle.ffi3_type_spec.proofs.Parts.{index_part, length_part, below_part, inside_part, above_part}
use Rattle.ffi3_marshal.specs.Stored.{HasLow, SameAt, Stays, HasBytes, IsPut, IsSet, IsWordPut, stored, with_floating, with_general}

-- ---- words

pub replaced_low : (bytes : List ℕ) (word new : ℕ) (mid : List ℕ) → length bytes ≤ 8 → mid ≡ bytes → to_le_bytes w64 new ≡ mid ++ drop (length bytes) (to_le_bytes w64 word) → new < 2 ^ 64 → HasLow bytes word new
replaced_low bytes word new mid few same is small =
    let bytes_is = is ∙ ap (λ xs. xs ++ drop (length bytes) (to_le_bytes w64 word)) same in record {
      low = λ k h. ap (λ xs. get_or xs k 0) bytes_is ∙ get_or_append_left bytes (drop (length bytes) (to_le_bytes w64 word)) 0 k h;
      high = λ k from below.
          let back : length bytes + (k - length bytes) ≡ k = omega (arith, from) in
          ap (λ xs. get_or xs k 0) bytes_is ∙ get_or-append_right bytes (drop (length bytes) (to_le_bytes w64 word)) (length bytes) k 0 refl from ∙ get_or-drop (length bytes) (to_le_bytes w64 word) (k - length bytes) 0 ∙ ap (λ n. get_or (to_le_bytes w64 word) n 0) back;
      below = small;
    }

-- numbers whose eight bytes are equal
pub same_word : (m n : ℕ) → m < 2 ^ 64 → n < 2 ^ 64 → ((k : ℕ) → k < 8 → get_or (to_le_bytes w64 m) k 0 ≡ get_or (to_le_bytes w64 n) k 0) → m ≡ n
same_word m n h i same =
    sym (from_le_bytes-to_le_bytes_8 m h) ∙ ap (from_le_bytes w64) (ext_get_or 0 (to_le_bytes w64 m) (to_le_bytes w64 n) refl same) ∙ from_le_bytes-to_le_bytes_8 n i

-- eight bytes that are those of a number make it
pub eight_bytes : (byte : ℕ → ℕ) (v : ℕ) → v < 2 ^ 64 → ((k : ℕ) → k < 8 → byte k ≡ get_or (to_le_bytes w64 v) k 0) → from_le_bytes w64 (map byte (range_with_len 0 8)) ≡ v
eight_bytes byte v h here =
    let bytes : map byte (range_with_len 0 8) ≡ to_le_bytes w64 v = ext_get_or 0 (map byte (range_with_len 0 8)) (to_le_bytes w64 v) refl (λ k below. get_or-map-range_with_len byte 0 8 k k 0 below (omega arith) ∙ here k below) in
    ap (from_le_bytes w64) bytes ∙ from_le_bytes-to_le_bytes_8 v h

-- such is a place on the stack
pub word_there : (base n v : ℕ) (m : Image) → v < 2 ^ 64 → ((k : ℕ) → k < 8 → byte_at m base (S n 8) k ≡ get_or (to_le_bytes w64 v) k 0) → word_at m base (S n 8) ≡ v
word_there base n v m h here = eight_bytes (byte_at m base (S n 8)) v h here

-- ---- registers

module _ (base r : ℕ) (bytes : List ℕ) (value : ℕ) (old : Image) where
  general_stays : Stays base (G r ∷ []) old (with_general r value old)
  general_stays = record { sp = refl; size = refl; below = λ i h. refl; others = others }
    where
      others : (l : Loc) → IsNoneOf (G r ∷ []) l → SameAt base l old (with_general r value old)
      others (G q) none = get_or-set_other old.general r q value 0 none.0
      others (F q) none = refl
      others (S n w) none = λ k h. refl

  floating_stays : Stays base (F r ∷ []) old (with_floating r value old)
  floating_stays = record { sp = refl; size = refl; below = λ i h. refl; others = others }
    where
      others : (l : Loc) → IsNoneOf (F r ∷ []) l → SameAt base l old (with_floating r value old)
      others (G q) none = refl
      others (F q) none = get_or-set_other old.floating r q value 0 none.0
      others (S n w) none = λ k h. refl

  pub general_put : r < length old.general → HasLow bytes (get_or old.general r 0) value → IsPut base (G r) bytes old (with_general r value old)
  general_put here word =
      let is = get_or-set_same old.general r value 0 here in record {
        here = λ k h. ap (λ n. get_or (to_le_bytes w64 n) k 0) is ∙ word.low k h;
        kept = λ k from below. ap (λ n. get_or (to_le_bytes w64 n) k 0) is ∙ word.high k from below;
        stays = general_stays;
        whole = λ eight w h e. is ∙ same_word value w word.below h (λ k below. word.low k (subst (λ xs. k < length xs) (sym e) below) ∙ ap (λ xs. get_or xs k 0) e);
      }

  pub floating_put : r < length old.floating → HasLow bytes (get_or old.floating r 0) value → IsPut base (F r) bytes old (with_floating r value old)
  floating_put here word =
      let is = get_or-set_same old.floating r value 0 here in record {
        here = λ k h. ap (λ n. get_or (to_le_bytes w64 n) k 0) is ∙ word.low k h;
        kept = λ k from below. ap (λ n. get_or (to_le_bytes w64 n) k 0) is ∙ word.high k from below;
        stays = floating_stays;
        whole = λ eight w h e. is ∙ same_word value w word.below h (λ k below. word.low k (subst (λ xs. k < length xs) (sym e) below) ∙ ap (λ xs. get_or xs k 0) e);
      }

-- ---- the stack

module _ (at : ℕ) (bytes : List ℕ) (old : Image) (fits : at + length bytes ≤ length old.stack) where
  pub stored_inside : (k : ℕ) → k < length bytes → get_or (stored at bytes old).stack (at + k) 0 ≡ get_or bytes k 0
  stored_inside k h = inside_part old.stack (stored at bytes old).stack bytes at (length bytes) refl refl fits k h

  pub stored_outside : (i : ℕ) → (i < at) ⊎ (at + length bytes ≤ i) → get_or (stored at bytes old).stack i 0 ≡ get_or old.stack i 0
  stored_outside i (inl below) = below_part old.stack (stored at bytes old).stack bytes at (length bytes) refl refl fits i below
  stored_outside i (inr above) = above_part old.stack (stored at bytes old).stack bytes at (length bytes) refl refl fits i above

  pub stored_size : length (stored at bytes old).stack ≡ length old.stack
  stored_size =
      omega (arith, length-append (take at old.stack) (bytes ++ drop (length bytes) (drop at old.stack)), length-append bytes (drop (length bytes) (drop at old.stack)), length-take-le at old.stack (omega (arith, fits)), length-drop (length bytes) (drop at old.stack), length-drop at old.stack, fits)

module _ (base n w : ℕ) (bytes : List ℕ) (old : Image) (few : length bytes ≤ w) (fits : base + n + length bytes ≤ length old.stack) where
  stack_stays : Stays base (S n w ∷ []) old (stored (base + n) bytes old)
  stack_stays = record {
    sp = refl;
    size = stored_size (base + n) bytes old fits;
    below = λ i h. stored_outside (base + n) bytes old fits i (inl (omega (arith, h)));
    others = others;
  }
    where
      apart_byte : (q u k : ℕ) → k < u → (q + u ≤ n) ⊎ (n + w ≤ q) → get_or (stored (base + n) bytes old).stack (base + q + k) 0 ≡ get_or old.stack (base + q + k) 0
      apart_byte q u k h (inl below) = stored_outside (base + n) bytes old fits (base + q + k) (inl (omega (arith, below, h)))
      apart_byte q u k h (inr above) = stored_outside (base + n) bytes old fits (base + q + k) (inr (omega (arith, above, few)))

      others : (l : Loc) → IsNoneOf (S n w ∷ []) l → SameAt base l old (stored (base + n) bytes old)
      others (S q u) none = λ k h. apart_byte q u k h none.0
      others _ none = refl

  word_is : (v : ℕ) → v < 2 ^ 64 → bytes ≡ to_le_bytes w64 v → word_at (stored (base + n) bytes old) base (S n 8) ≡ v
  word_is v h e =
      word_there base n v (stored (base + n) bytes old) h (λ k below. stored_inside (base + n) bytes old fits k (subst (λ xs. k < length xs) (sym e) below) ∙ ap (λ xs. get_or xs k 0) e)

  pub stack_put : IsPut base (S n w) bytes old (stored (base + n) bytes old)
  stack_put = record {
    here = λ k h. stored_inside (base + n) bytes old fits k h;
    kept = λ k from below. stored_outside (base + n) bytes old fits (base + n + k) (inr (omega (arith, from)));
    stays = stack_stays;
    whole = λ eight v h e. subst (λ u. word_at (stored (base + n) bytes old) base (S n u) ≡ v) (sym eight) (word_is v h e);
  }

pub word_put : (base : ℕ) (l : Loc) (w : ℕ) (bytes : List ℕ) (old new : Image) → IsWhole l → w < 2 ^ 64 → bytes ≡ to_le_bytes w64 w → IsPut base l bytes old new → IsWordPut base l w old new
word_put base l w bytes old new whole h e is = record {
  here = subst (HasBytes base new l) e is.here;
  word = is.whole whole w h e;
  stays = is.stays;
}

pub piece_set : (base : ℕ) (p : Piece) (bytes : List ℕ) (old new : Image) → IsWithin (length bytes) p → IsPut base p.loc (take p.len (drop p.off bytes)) old new → IsSet base p bytes old new
piece_set base p bytes old new fits is =
    let many = length_part bytes p.off p.len fits.1 in record {
      held = λ k h. is.here k (subst (λ n. k < n) (sym many) h) ∙ index_part bytes p.off p.len k h;
      kept = λ k from below. is.kept k (omega (arith, many, from)) below;
      stays = is.stays;
    }
