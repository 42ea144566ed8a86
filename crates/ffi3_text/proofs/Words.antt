-- A word in a trace: its 16 hexadecimal digits, found by shifts, are as `{:016x}` writes it.
use Rattle.std.proofs.Common.{◌≡◌, ℕ, zero, suc, ◌+◌, ◌-◌, ◌*◌, ◌/◌, ◌%◌, ◌^◌, ◌<◌, ◌≤◌, Bool, false, eqb, cond, List, [], ◌∷◌, ◌++◌, length, replicate, ap, sym, ◌∙◌, refl, arith}
use Rattle.std.proofs.Math.Nat.{div-div-eq-div-mul, pow-suc}
use Rattle.std.specs.Fmt.{digits, digits_onto, digit_glyph}
use Rattle.std.proofs.lemmas.Bool.{ne_eqb}
use Rattle.ffi3_semantics_spec.specs.Lines.{word_text}

-- the last k hexadecimal digits of a number, in front of what follows
abbrev onto : ℕ → ℕ → List ℕ → List ℕ
onto zero n after = after
onto (suc k) n after = onto k (n / 16) (digit_glyph false (n % 16) ∷ after)

zeros : (k : ℕ) (after : List ℕ) → onto k 0 after ≡ replicate k 48 ++ after
zeros zero after = refl
zeros (suc k) after = zeros k (48 ∷ after) ∙ zero_last k after
  where
    zero_last : (k : ℕ) (after : List ℕ) → replicate k 48 ++ 48 ∷ after ≡ 48 ∷ (replicate k 48 ++ after)
    zero_last zero after = refl
    zero_last (suc k) after = ap (λ t. 48 ∷ t) (zero_last k after)

abbrev filled : ℕ → List ℕ → List ℕ → List ℕ
filled k after ds = replicate (k + length after - length ds) 48 ++ ds

positive : (k : ℕ) {n : ℕ} → 0 < n → n < 16 ^ k → 0 < k
positive zero some small = absurd (omega (arith, some, small))
positive (suc k) some small = omega arith

abbrev by_test : Bool → ℕ → ℕ → List ℕ → List ℕ
by_test b j n more = cond b more (digits_onto j 16 false (n / 16) more)

module _ (k j n : ℕ) (after : List ℕ) where
  abbrev longer : List ℕ
  longer = digit_glyph false (n % 16) ∷ after

  one_more : (q : ℕ) → n / 16 ≡ q → n < 16 ^ suc k → (0 < k → n / 16 < 16 ^ k → filled k longer (digits_onto j 16 false (n / 16) longer) ≡ onto k (n / 16) longer) → filled (suc k) after (digits_onto (suc j) 16 false n after) ≡ onto k (n / 16) longer
  one_more zero e small before =
      let left : suc k + length after - suc (length after) ≡ k = omega arith in
      ap (λ m. filled (suc k) after (by_test (eqb m 0) j n longer)) e ∙ ap (λ m. replicate m 48 ++ longer) left ∙ sym (zeros k longer) ∙ ap (λ m. onto k m longer) (sym e)
  one_more (suc q) e small before =
      let some_left : n / 16 ≡ 0 → ⊥ = λ none. omega (arith, e, none) in
      let fits : n / 16 < 16 ^ k = omega (arith, small, pow-suc 16 k) in
      let room_left : 0 < k = positive k (omega (arith, e)) fits in
      let count : suc k + length after ≡ k + suc (length after) = omega arith in
      ap (λ b. filled (suc k) after (by_test b j n longer)) (ne_eqb (n / 16) 0 some_left)
      ∙ ap (λ m. replicate (m - length (digits_onto j 16 false (n / 16) longer)) 48 ++ digits_onto j 16 false (n / 16) longer) count
      ∙ before room_left fits

-- with zeros in front of those that the number has
padded : (k j n : ℕ) (after : List ℕ) → 0 < k → k ≤ j → n < 16 ^ k → filled k after (digits_onto j 16 false n after) ≡ onto k n after
padded zero j n after some room small = absurd (omega arith)
padded (suc k) zero n after some room small = absurd (omega arith)
padded (suc k) (suc j) n after some room small =
    one_more k j n after (n / 16) refl small (λ some_left fits. padded k j (n / 16) (digit_glyph false (n % 16) ∷ after) some_left (omega arith) fits)

-- the same digits, found by division of the whole number
abbrev shifted : ℕ → ℕ → ℕ → List ℕ → List ℕ
shifted zero p n after = after
shifted (suc k) p n after = shifted k (p * 16) n (digit_glyph false (n / p % 16) ∷ after)

by_shifts : (k p n : ℕ) (after : List ℕ) → shifted k p n after ≡ onto k (n / p) after
by_shifts zero p n after = refl
by_shifts (suc k) p n after =
    by_shifts k (p * 16) n (digit_glyph false (n / p % 16) ∷ after) ∙ ap (λ m. onto k m (digit_glyph false (n / p % 16) ∷ after)) (sym (div-div-eq-div-mul n p 16))

word_digits : (n : ℕ) → n < 2 ^ 64 → shifted 15 16 n (digit_glyph false (n % 16) ∷ []) ≡ word_text n
unfolding digits
word_digits n small =
    by_shifts 15 16 n (digit_glyph false (n % 16) ∷ []) ∙ sym (padded 16 64 n [] (omega arith) (omega arith) small)

-- the digits one by one
pub spelled_as : (n d15 d14 d13 d12 d11 d10 d9 d8 d7 d6 d5 d4 d3 d2 d1 d0 : ℕ) → n < 2 ^ 64 → d15 ≡ digit_glyph false (n / 2 ^ 60 % 16) → d14 ≡ digit_glyph false (n / 2 ^ 56 % 16) → d13 ≡ digit_glyph false (n / 2 ^ 52 % 16) → d12 ≡ digit_glyph false (n / 2 ^ 48 % 16) → d11 ≡ digit_glyph false (n / 2 ^ 44 % 16) → d10 ≡ digit_glyph false (n / 2 ^ 40 % 16) → d9 ≡ digit_glyph false (n / 2 ^ 36 % 16) → d8 ≡ digit_glyph false (n / 2 ^ 32 % 16) → d7 ≡ digit_glyph false (n / 2 ^ 28 % 16) → d6 ≡ digit_glyph false (n / 2 ^ 24 % 16) → d5 ≡ digit_glyph false (n / 2 ^ 20 % 16) → d4 ≡ digit_glyph false (n / 2 ^ 16 % 16) → d3 ≡ digit_glyph false (n / 2 ^ 12 % 16) → d2 ≡ digit_glyph false (n / 2 ^ 8 % 16) → d1 ≡ digit_glyph false (n / 2 ^ 4 % 16) → d0 ≡ digit_glyph false (n % 16) → 32 ∷ d15 ∷ d14 ∷ d13 ∷ d12 ∷ d11 ∷ d10 ∷ d9 ∷ d8 ∷ d7 ∷ d6 ∷ d5 ∷ d4 ∷ d3 ∷ d2 ∷ d1 ∷ d0 ∷ [] ≡ 32 ∷ word_text n
spelled_as n d15 d14 d13 d12 d11 d10 d9 d8 d7 d6 d5 d4 d3 d2 d1 d0 small e15 e14 e13 e12 e11 e10 e9 e8 e7 e6 e5 e4 e3 e2 e1 e0 =
    (λ i. 32 ∷ e15 i ∷ e14 i ∷ e13 i ∷ e12 i ∷ e11 i ∷ e10 i ∷ e9 i ∷ e8 i ∷ e7 i ∷ e6 i ∷ e5 i ∷ e4 i ∷ e3 i ∷ e2 i ∷ e1 i ∷ e0 i ∷ []) ∙ ap (λ t. 32 ∷ t) (word_digits n small)
