-- Whether all leaves of a struct, and of an array, are of one kind, by its elements.
use Rattle.std.proofs.Common.{◌≡◌, ℕ, zero, suc, ◌+◌, ◌*◌, ◌<◌, ◌&&◌, inl, inr, Bool, true, false, List, [], ◌∷◌, map, length, refl, ap, sym, ◌∙◌, subst, arith, add-one}
use Rattle.std.specs.List.{list_all}
use Rattle.std.proofs.Math.Bool.{and-false}
use Rattle.std.proofs.lemmas.Bool.{cases_lt}
use Rattle.std.proofs.lemmas.List.Folds.{list_all-append}
use Rattle.ffi3_type_spec.specs.Tree.{Tree, array, struct_of, trees_of, tree_at}
use Rattle.ffi3_type_spec.specs.Layout.{Layout, Leaf, layouts, element, start_of, leaves_before, leaves_of, repeated, moved}
use Rattle.ffi3_type_spec.proofs.Layouts.{layout_here, length-layouts}
use Rattle.ffi3_aapcs64_spec.specs.declared.Kind.{Kind}
use Rattle.ffi3_aapcs64_spec.specs.Aapcs64.{is_member}

module _ (kind : Kind) where
  abbrev pub AreMembers : List Leaf → Bool
  AreMembers ls = list_all (is_member kind) ls

  -- it does not matter where they stand
  moved_alike : (by : ℕ) (ls : List Leaf) → AreMembers (map (moved by) ls) ≡ AreMembers ls
  moved_alike by [] = refl
  moved_alike by (l ∷ ls) = ap (λ b. is_member kind l && b) (moved_alike by ls)

  one_more : (es : List Layout) (i : ℕ) → AreMembers (leaves_before es (suc i)) ≡ (AreMembers (leaves_before es i) && AreMembers (element es i).leaves)
  one_more es i =
      list_all-append (is_member kind) (leaves_before es i) (map (moved (start_of es i)) (element es i).leaves) ∙ ap (λ b. AreMembers (leaves_before es i) && b) (moved_alike (start_of es i) (element es i).leaves)

  -- one more element of a struct
  pub members-turn : (ts : List Tree) (i : ℕ) (t : Tree) → t ≡ tree_at ts i → AreMembers (leaves_before (layouts (trees_of ts)) i) ≡ true → AreMembers (leaves_of t) ≡ true → AreMembers (leaves_before (layouts (trees_of ts)) (i + 1)) ≡ true
  members-turn ts i t is before here =
      let es = layouts (trees_of ts) in
      let element_here = ap (λ l. AreMembers l.leaves) (layout_here ts i t is) ∙ here in
      rw add-one (one_more es i ∙ ap (λ b. b && AreMembers (element es i).leaves) before ∙ element_here)

  pub members_at_end : (ts : List Tree) (n : ℕ) → n ≡ length ts → AreMembers (leaves_before (layouts (trees_of ts)) n) ≡ true → AreMembers (leaves_of (struct_of ts)) ≡ true
  members_at_end ts n all e =
      ap (λ k. AreMembers (leaves_before (layouts (trees_of ts)) k)) (length-layouts ts ∙ sym all) ∙ e

  -- an element with a leaf of another kind
  other_before : (es : List Layout) (i n : ℕ) → i < n → AreMembers (element es i).leaves ≡ false → AreMembers (leaves_before es n) ≡ false
  other_before es i zero below h = absurd (omega arith)
  other_before es i (suc n) below h =
      elim (cases_lt i n) [
        | inl earlier ↦ one_more es n ∙ ap (λ b. b && AreMembers (element es n).leaves) (other_before es i n earlier h)
        | inr last ↦ let same : i ≡ n = omega arith in
            one_more es n ∙ ap (λ b. AreMembers (leaves_before es n) && b) (subst (λ k. AreMembers (element es k).leaves ≡ false) same h) ∙ and-false _
      ]

  pub other_member : (ts : List Tree) (i : ℕ) (t : Tree) → i < length ts → t ≡ tree_at ts i → AreMembers (leaves_of t) ≡ false → AreMembers (leaves_of (struct_of ts)) ≡ false
  other_member ts i t below is h =
      let es = layouts (trees_of ts) in
      other_before es i (length es) (omega (arith, length-layouts ts)) (ap (λ l. AreMembers l.leaves) (layout_here ts i t is) ∙ h)

  -- ---- the elements of an array are alike

  one_repeated : (l : Layout) (n : ℕ) → AreMembers (repeated l (suc n)) ≡ (AreMembers (repeated l n) && AreMembers l.leaves)
  one_repeated l n =
      list_all-append (is_member kind) (repeated l n) (map (moved (n * l.size)) l.leaves) ∙ ap (λ b. AreMembers (repeated l n) && b) (moved_alike (n * l.size) l.leaves)

  with_itself : (b : Bool) → (b && b) ≡ b
  with_itself true = refl
  with_itself false = refl

  repeated_alike : (l : Layout) (n : ℕ) → 0 < n → AreMembers (repeated l n) ≡ AreMembers l.leaves
  repeated_alike l zero some = absurd (omega arith)
  repeated_alike l (suc zero) some = one_repeated l zero
  repeated_alike l (suc (suc n)) some =
      one_repeated l (suc n) ∙ ap (λ b. b && AreMembers l.leaves) (repeated_alike l (suc n) (omega arith)) ∙ with_itself (AreMembers l.leaves)

  pub array_by_element : (ts : List Tree) (n : ℕ) (t : Tree) → t ≡ tree_at ts 0 → 0 < n → AreMembers (leaves_of (array (trees_of ts) n)) ≡ AreMembers (leaves_of t)
  array_by_element ts n t is some =
      repeated_alike (element (layouts (trees_of ts)) 0) n some ∙ ap (λ l. AreMembers l.leaves) (layout_here ts 0 t is)
