-- The greatest of a list, one more at a time; and the length of a line that is a number.
use Rattle.std.proofs.Common.{◌≡◌, ℕ, zero, suc, ◌+◌, ◌^◌, ◌<◌, ◌≤◌, List, [], ◌∷◌, length, map, drop, sym, ap, ◌∙◌, arith, lit≤, ◌⊎◌, inl, inr}
use Rattle.std.specs.Prelude.{max}
use Rattle.std.specs.Fmt.{decimal, digits}
use Rattle.std.specs.Int.Digits.{digits_of}
use Rattle.std.proofs.lemmas.Int.Digits.{length-digits_of-le}
use Rattle.std.proofs.lemmas.Fmt.{decimal-digits_of}
use Rattle.std.proofs.lemmas.List.{drop_more, length-append, length-map}
use Rattle.std.proofs.Math.Nat.{le-max_left, max-eq_left, max-eq_right}
use Rattle.ffi3_type_spec.specs.Signature.{Signature, signature_at}
use Rattle.ffi3_place_spec.specs.Standard.{Standard, need_of}
use Rattle.ffi3_script_spec.proofs.MadeRuns.{TellsWord}
use Rattle.ffi3_app_spec.specs.BenchText.{greatest}

-- a greater one comes
pub greater : (g n : ℕ) (ns : List ℕ) → g < n → max n (greatest ns) ≡ max g (greatest (n ∷ ns))
greater g n ns below =
    let h = le-max_left n (greatest ns) in
    let most : g ≤ max n (greatest ns) = omega (arith, below, h) in
    sym (max-eq_right most)

no_greater_by : (g n m : ℕ) → n ≤ g → (n ≤ m) ⊎ (m ≤ n) → max g m ≡ max g (max n m)
no_greater_by g n m low (inl h) = ap (max g) (sym (max-eq_right h))
no_greater_by g n m low (inr h) =
    let under : m ≤ g = omega (arith, low, h) in
    max-eq_left under ∙ sym (max-eq_left low) ∙ ap (max g) (sym (max-eq_left h))

one_way : (n m : ℕ) → (n ≤ m) ⊎ (m ≤ n)
one_way zero m = inl (omega arith)
one_way (suc n) zero = inr (omega arith)
one_way (suc n) (suc m) = up n m (one_way n m)
  where
    up : (n m : ℕ) → (n ≤ m) ⊎ (m ≤ n) → (suc n ≤ suc m) ⊎ (suc m ≤ suc n)
    up n m (inl h) = inl (omega (arith, h))
    up n m (inr h) = inr (omega (arith, h))

-- one comes that is not greater
pub no_greater : (g n : ℕ) (ns : List ℕ) → n ≤ g → max g (greatest ns) ≡ max g (greatest (n ∷ ns))
no_greater g n ns low = no_greater_by g n (greatest ns) low (one_way n (greatest ns))

module _ (std : Standard) (cifs : List Signature) (i g : ℕ) (whole : ℕ) (below : i < length cifs) (so_far : max g (greatest (map (need_of std) (drop i cifs))) ≡ whole) where
  left_is : greatest (map (need_of std) (drop i cifs)) ≡ greatest (need_of std (signature_at cifs i) ∷ map (need_of std) (drop (i + 1) cifs))
  left_is = ap (λ ss. greatest (map (need_of std) ss)) (drop_more cifs i _ below)

  -- a signature that needs more
  pub needs_more : g < need_of std (signature_at cifs i) → max (need_of std (signature_at cifs i)) (greatest (map (need_of std) (drop (i + 1) cifs))) ≡ whole
  needs_more more =
      greater g (need_of std (signature_at cifs i)) (map (need_of std) (drop (i + 1) cifs)) more ∙ ap (max g) (sym left_is) ∙ so_far

  -- one that does not
  pub needs_no_more : need_of std (signature_at cifs i) ≤ g → max g (greatest (map (need_of std) (drop (i + 1) cifs))) ≡ whole
  needs_no_more no_more =
      no_greater g (need_of std (signature_at cifs i)) (map (need_of std) (drop (i + 1) cifs)) no_more ∙ ap (max g) (sym left_is) ∙ so_far

decimal_short : (n : ℕ) → n < 2 ^ 64 → length (decimal n) ≤ 20
unfolding digits
decimal_short zero small = lit≤ tt
decimal_short (suc n) small =
    let some : 0 < suc n = omega arith in
    let is = ap length (decimal-digits_of (suc n) some small) ∙ length-map (digits_of 10 (suc n)) (λ d. 48 + d) in
    let ten : 2 ^ 64 ≤ 10 ^ 20 = lit≤ tt in
    let below : suc n < 10 ^ 20 = omega (arith, small, ten) in
    omega (arith, is, length-digits_of-le 10 20 (suc n) (lit≤ tt) below)

pub word_short : (text : List ℕ) → TellsWord text → length text ≤ 21
word_short text says =
    let n = says.0 in
    omega (arith, ap length says.2, length-append (decimal n) (10 ∷ []), decimal_short n says.1)
