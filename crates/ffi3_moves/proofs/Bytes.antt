-- Bytes that are written over others, and the words that eight of them make.
use Rattle.std.specs.Prelude.{◌^◌}
use Rattle.std.proofs.Common.{◌≡◌, ℕ, zero, suc, ◌+◌, ◌-◌, ◌*◌, ◌<◌, ◌≤◌, ◌⊎◌, inl, inr, List, ◌++◌, take, drop, length, get_or, refl, ap, sym, ◌∙◌, subst, arith, length-drop}
use Rattle.std.specs.Int.{w64, to_le_bytes, from_le_bytes}
use Rattle.std.proofs.lemmas.Bool.{cases_lt}
use Rattle.std.proofs.lemmas.Nat.{le_bytes_8}
use Rattle.std.proofs.lemmas.List.{ext_get_or, get_or_past, length-append, length-take-le}
use Rattle.ffi3_type_spec.specs.Value.{part}
use Rattle.ffi3_type_spec.proofs.Parts.{index_part, length_part, same_part, below_part, inside_part, above_part}
use Rattle.ffi3_moves.specs.Play.{word_from, written_over}
use Rattle.ffi3_moves.specs.Exchange.{AreBytes, words_from}

-- ---- parts

pub part_bytes : (bytes : List ℕ) (from n : ℕ) → from + n ≤ length bytes → AreBytes bytes → AreBytes (part bytes from n)
part_bytes bytes from n fits are k =
    elim (cases_lt k n) [
      | inl below ↦ subst (λ b. b < 256) (sym (index_part bytes from n k below)) (are (from + k))
      | inr above ↦
          let past = get_or_past (part bytes from n) k 0 (omega (arith, above, length_part bytes from n fits)) in
          subst (λ b. b < 256) (sym past) (omega arith)
    ]

-- a part of a part
pub part_part : (bytes : List ℕ) (at size off n : ℕ) → at + size ≤ length bytes → off + n ≤ size → part bytes (at + off) n ≡ part (part bytes at size) off n
part_part bytes at size off n fits within =
    let many = length_part bytes at size fits in
    let left = length_part bytes (at + off) n (omega (arith, fits, within)) in
    let right = length_part (part bytes at size) off n (omega (arith, many, within)) in
    ext_get_or 0 (part bytes (at + off) n) (part (part bytes at size) off n) (left ∙ sym right) (λ k h.
    let below : k < n = omega (arith, h, left) in
    let there : at + off + k ≡ at + (off + k) = omega arith in
    index_part bytes (at + off) n k below ∙ ap (λ i. get_or bytes i 0) there ∙ sym (index_part bytes at size (off + k) (omega (arith, below, within))) ∙ sym (index_part (part bytes at size) off n k below))

-- ---- bytes written over others

module _ (at : ℕ) (bytes old : List ℕ) (fits : at + length bytes ≤ length old) where
  pub over_inside : (k : ℕ) → k < length bytes → get_or (written_over at bytes old) (at + k) 0 ≡ get_or bytes k 0
  over_inside k h = inside_part old (written_over at bytes old) bytes at (length bytes) refl refl fits k h

  pub over_outside : (i : ℕ) → (i < at) ⊎ (at + length bytes ≤ i) → get_or (written_over at bytes old) i 0 ≡ get_or old i 0
  over_outside i (inl below) = below_part old (written_over at bytes old) bytes at (length bytes) refl refl fits i below
  over_outside i (inr above) = above_part old (written_over at bytes old) bytes at (length bytes) refl refl fits i above

  pub over_size : length (written_over at bytes old) ≡ length old
  over_size =
      omega (arith, length-append (take at old) (bytes ++ drop (length bytes) (drop at old)), length-append bytes (drop (length bytes) (drop at old)), length-take-le at old (omega (arith, fits)), length-drop (length bytes) (drop at old), length-drop at old, fits)

  pub over_part : part (written_over at bytes old) at (length bytes) ≡ bytes
  over_part =
      let many = length_part (written_over at bytes old) at (length bytes) (omega (arith, over_size, fits)) in
      ext_get_or 0 (part (written_over at bytes old) at (length bytes)) bytes many (λ k h.
      let below : k < length bytes = omega (arith, h, many) in
      index_part (written_over at bytes old) at (length bytes) k below ∙ over_inside k below)

  pub over_apart : (from n : ℕ) → (from + n ≤ at) ⊎ (at + length bytes ≤ from) → from + n ≤ length old → part (written_over at bytes old) from n ≡ part old from n
  over_apart from n apart room =
      same_part (written_over at bytes old) old from n (omega (arith, over_size, room)) room (λ j low high. over_outside j (side j low high apart))
    where
      side : (j : ℕ) → from ≤ j → j < from + n → (from + n ≤ at) ⊎ (at + length bytes ≤ from) → (j < at) ⊎ (at + length bytes ≤ j)
      side j low high (inl below) = inl (omega (arith, high, below))
      side j low high (inr above) = inr (omega (arith, low, above))

  pub over_bytes : AreBytes bytes → AreBytes old → AreBytes (written_over at bytes old)
  over_bytes new_are old_are i =
      elim (cases_lt i at) [
        | inl below ↦ subst (λ b. b < 256) (sym (over_outside i (inl below))) (old_are i)
        | inr from ↦
            elim (cases_lt i (at + length bytes)) [
              | inl inside ↦
                  let there : at + (i - at) ≡ i = omega (arith, from) in
                  let here = over_inside (i - at) (omega (arith, from, inside)) in
                  subst (λ j. get_or (written_over at bytes old) j 0 < 256) there (subst (λ b. b < 256) (sym here) (new_are (i - at)))
              | inr behind ↦ subst (λ b. b < 256) (sym (over_outside i (inr behind))) (old_are i)
            ]
      ]

-- ---- words

eight_below : (bytes : List ℕ) → AreBytes bytes → from_le_bytes w64 bytes < 2 ^ 64
eight_below bytes are = omega (arith, are 0, are 1, are 2, are 3, are 4, are 5, are 6, are 7)

module _ (bytes : List ℕ) (at : ℕ) (fits : at + 8 ≤ length bytes) (are : AreBytes bytes) where
  pub word_small : word_from bytes at < 2 ^ 64
  word_small = eight_below (part bytes at 8) (part_bytes bytes at 8 fits are)

  pub word_bytes : to_le_bytes w64 (word_from bytes at) ≡ part bytes at 8
  word_bytes = le_bytes_8 (part bytes at 8) (word_from bytes at) (length_part bytes at 8 fits) (part_bytes bytes at 8 fits are) refl

  pub word_byte : (k : ℕ) → k < 8 → get_or (to_le_bytes w64 (word_from bytes at)) k 0 ≡ get_or bytes (at + k) 0
  word_byte k h = ap (λ xs. get_or xs k 0) word_bytes ∙ index_part bytes at 8 k h

pub words_read : (n at r : ℕ) (bytes : List ℕ) → r < n → get_or (words_from n at bytes) r 0 ≡ word_from bytes (at + 8 * r)
unfolding words_from
words_read zero at r bytes h = absurd (omega (arith, h))
words_read (suc n) at zero bytes h =
    let here : at ≡ at + 8 * 0 = omega arith in
    ap (word_from bytes) here
words_read (suc n) at (suc r) bytes h =
    let there : at + 8 + 8 * r ≡ at + 8 * suc r = omega arith in
    words_read n (at + 8) r bytes (omega (arith, h)) ∙ ap (word_from bytes) there

pub general_read : (r : ℕ) (bytes : List ℕ) → r < 32 → get_or (words_from 32 0 bytes) r 0 ≡ word_from bytes (8 * r)
general_read r bytes h =
    let there : 0 + 8 * r ≡ 8 * r = omega arith in
    words_read 32 0 r bytes h ∙ ap (word_from bytes) there

pub words_past : (n at r : ℕ) (bytes : List ℕ) → n ≤ r → get_or (words_from n at bytes) r 0 ≡ 0
unfolding words_from
words_past zero at r bytes h = refl
words_past (suc n) at zero bytes h = absurd (omega (arith, h))
words_past (suc n) at (suc r) bytes h = words_past n (at + 8) r bytes (omega (arith, h))
