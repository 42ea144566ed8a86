-- Elements of which a format is wanted, one by one.
use Rattle.std.proofs.Common.{◌≡◌, ℕ, ◌+◌, ◌<◌, true, false, ◌||◌, List, [], ◌∷◌, length, drop, refl, ap, sym, ◌∙◌}
use Rattle.std.proofs.lemmas.List.{drop_more}
use Rattle.std.specs.List.{list_any}
use Rattle.ffi3_type_spec.specs.Tree.{Tree, void, trees_of, tree_at}
use Rattle.ffi3_format_spec.specs.Format.{wants_format, want_format}

module _ (ts : List Tree) where
  -- so far there was none: what is left decides
  abbrev pub LeftDecide : ℕ → Type 0
  LeftDecide i =
      want_format (trees_of ts) ≡ want_format (trees_of (drop i ts))

  one_more : (i : ℕ) (t : Tree) → i < length ts → t ≡ tree_at ts i → want_format (trees_of (drop i ts)) ≡ (wants_format t || want_format (trees_of (drop (i + 1) ts)))
  one_more i t below is =
      ap (λ us. want_format (trees_of us)) (drop_more ts i void below)
      ∙ ap (λ u. wants_format u || want_format (trees_of (drop (i + 1) ts))) (sym is)

  pub turn : (i : ℕ) (t : Tree) → i < length ts → t ≡ tree_at ts i → wants_format t ≡ false → LeftDecide i → LeftDecide (i + 1)
  turn i t below is none left =
      left ∙ one_more i t below is ∙ ap (λ b. b || want_format (trees_of (drop (i + 1) ts))) none

  pub found : (i : ℕ) (t : Tree) → i < length ts → t ≡ tree_at ts i → wants_format t ≡ true → LeftDecide i → want_format (trees_of ts) ≡ true
  found i t below is one left =
      left ∙ one_more i t below is ∙ ap (λ b. b || want_format (trees_of (drop (i + 1) ts))) one

  pub at_end : (n : ℕ) → n ≡ length ts → LeftDecide n → want_format (trees_of ts) ≡ false
  at_end n all left =
      left ∙ ap (λ k. want_format (trees_of (drop k ts))) all ∙ ap (λ us. want_format (trees_of us)) (all_dropped ts)
    where
      all_dropped : (us : List Tree) → drop (length us) us ≡ []
      all_dropped [] = refl
      all_dropped (u ∷ us) = all_dropped us

-- a list of types wants it where one of them does
pub of_list : (ts : List Tree) → want_format (trees_of ts) ≡ list_any wants_format ts
of_list [] = refl
of_list (t ∷ ts) = ap (λ b. wants_format t || b) (of_list ts)
