-- Parts of bytes, and bytes of which a part was written.
use Rattle.std.proofs.Common.{◌≡◌, ℕ, ◌+◌, ◌-◌, ◌<◌, ◌≤◌, List, ◌++◌, length, take, drop, ap, sym, ◌∙◌, arith, length-take, length-drop}
use Rattle.std.specs.Prelude.{slice_index}
use Rattle.std.proofs.lemmas.List.{get_or-take, get_or-drop, get_or_append_left, get_or-append_right, ext_get_or, length-take-le}
use Rattle.ffi3_type_spec.specs.Value.{part}

pub index_part : (bytes : List ℕ) (from n k : ℕ) → k < n → slice_index (part bytes from n) k ≡ slice_index bytes (from + k)
index_part bytes from n k h =
    get_or-take n (drop from bytes) k 0 h ∙ get_or-drop from bytes k 0

pub length_part : (bytes : List ℕ) (from n : ℕ) → from + n ≤ length bytes → length (part bytes from n) ≡ n
length_part bytes from n h = simp (length-take, length-drop) (omega arith)

-- parts are equal where their bytes are
pub same_part : (a b : List ℕ) (from n : ℕ) → from + n ≤ length a → from + n ≤ length b → ((j : ℕ) → from ≤ j → j < from + n → slice_index a j ≡ slice_index b j) → part a from n ≡ part b from n
same_part a b from n h k same =
    let in_a = length_part a from n h in
    let in_b = length_part b from n k in
    ext_get_or 0 (part a from n) (part b from n) (in_a ∙ sym in_b) (λ j below. index_part a from n j (omega arith) ∙ same (from + j) (omega arith) (omega arith) ∙ sym (index_part b from n j (omega arith)))

-- new is now, with a part written
module _ (now new mid : List ℕ) (start size : ℕ) (is : new ≡ take start now ++ (mid ++ drop size (drop start now))) (n : length mid ≡ size) (within : start + size ≤ length now) where
  first_length : length (take start now) ≡ start
  first_length = length-take-le start now (omega arith)

  pub below_part : (j : ℕ) → j < start → slice_index new j ≡ slice_index now j
  below_part j h =
      ap (λ xs. slice_index xs j) is ∙ get_or_append_left (take start now) (mid ++ drop size (drop start now)) 0 j (omega (arith, first_length)) ∙ get_or-take start now j 0 h

  pub inside_part : (j : ℕ) → j < size → slice_index new (start + j) ≡ slice_index mid j
  inside_part j h =
      let after : (start + j) - start ≡ j = omega arith in
      ap (λ xs. slice_index xs (start + j)) is ∙ get_or-append_right (take start now) (mid ++ drop size (drop start now)) start (start + j) 0 first_length (omega arith) ∙ ap (slice_index (mid ++ drop size (drop start now))) after ∙ get_or_append_left mid (drop size (drop start now)) 0 j (omega arith)

  pub above_part : (j : ℕ) → start + size ≤ j → slice_index new j ≡ slice_index now j
  above_part j h =
      let back : start + (size + ((j - start) - size)) ≡ j = omega arith in
      ap (λ xs. slice_index xs j) is ∙ get_or-append_right (take start now) (mid ++ drop size (drop start now)) start j 0 first_length (omega arith) ∙ get_or-append_right mid (drop size (drop start now)) size (j - start) 0 n (omega arith) ∙ get_or-drop size (drop start now) ((j - start) - size) 0 ∙ get_or-drop start now (size + ((j - start) - size)) 0 ∙ ap (slice_index now) back
