-- Long doubles among the elements of a struct and of an array, one by one; and a complex one.
use Rattle.std.proofs.Common.{◌≡◌, ℕ, ◌+◌, ◌<◌, true, false, ◌||◌, List, [], ◌∷◌, length, drop, refl, ap, sym, ◌∙◌, ◌≢◌}
use Rattle.std.proofs.lemmas.List.{drop_more}
use Rattle.ffi3_type_spec.specs.Tree.{Tree, void, scalar, x87, trees_of, tree_at, is_complex}
use Rattle.ffi3_type_spec.specs.Layout.{has_long_double, have_long_double}

module _ (ts : List Tree) where
  -- so far there was none: what is left decides
  abbrev pub LeftDecide : ℕ → Type 0
  LeftDecide i =
      have_long_double (trees_of ts) ≡ have_long_double (trees_of (drop i ts))

  one_more : (i : ℕ) (t : Tree) → i < length ts → t ≡ tree_at ts i → have_long_double (trees_of (drop i ts)) ≡ (has_long_double t || have_long_double (trees_of (drop (i + 1) ts)))
  one_more i t below is =
      ap (λ us. have_long_double (trees_of us)) (drop_more ts i void below)
      ∙ ap (λ u. has_long_double u || have_long_double (trees_of (drop (i + 1) ts))) (sym is)

  pub turn : (i : ℕ) (t : Tree) → i < length ts → t ≡ tree_at ts i → has_long_double t ≡ false → LeftDecide i → LeftDecide (i + 1)
  turn i t below is none left =
      left ∙ one_more i t below is ∙ ap (λ b. b || have_long_double (trees_of (drop (i + 1) ts))) none

  pub found : (i : ℕ) (t : Tree) → i < length ts → t ≡ tree_at ts i → has_long_double t ≡ true → LeftDecide i → have_long_double (trees_of ts) ≡ true
  found i t below is long left =
      left ∙ one_more i t below is ∙ ap (λ b. b || have_long_double (trees_of (drop (i + 1) ts))) long

  pub at_end : (n : ℕ) → n ≡ length ts → LeftDecide n → have_long_double (trees_of ts) ≡ false
  at_end n all left =
      left ∙ ap (λ k. have_long_double (trees_of (drop k ts))) all ∙ ap (λ us. have_long_double (trees_of us)) (all_dropped ts)
    where
      all_dropped : (us : List Tree) → drop (length us) us ≡ []
      all_dropped [] = refl
      all_dropped (u ∷ us) = all_dropped us

-- ---- a complex one has one element type

two_types : (t u : Tree) (us : List Tree) (n : ℕ) → is_complex (trees_of (t ∷ u ∷ us)) n ≡ false
two_types (scalar x87) u us n = refl
two_types void u us n = refl
two_types _ u us n = refl

pub other_than_one : (ts : List Tree) (n : ℕ) → length ts ≢ 1 → is_complex (trees_of ts) n ≡ false
other_than_one [] n many = refl
other_than_one (t ∷ []) n many = absurd (many refl)
other_than_one (t ∷ u ∷ us) n many = two_types t u us n
