-- An image that owns two value lists of one signature, whose leaves all stand in pieces, shows that they are equal.
use Rattle.std.proofs.Common.{◌≡◌, ℕ, zero, suc, ◌+◌, ◌-◌, ◌<◌, true, List, [], ◌∷◌, ◌++◌, map, replicate, get_or, length, subst, sym, ◌∙◌, ap, refl, arith, append-nil, append_assoc}
use Rattle.std.specs.List.{AllByRecursion}
use Rattle.std.proofs.lemmas.List.{ext_get_or}
use Rattle.std.proofs.lemmas.Bool.Decides.{nat_tests}
use Rattle.ffi3_type_spec.specs.Tree.{Tree, void, scalar, structure, array, Trees, no_trees, tree, trees_of}
use Rattle.ffi3_type_spec.specs.Layout.{Leaf, Layout, layouts, element, start_of, leaves_before, moved, leaves_of, scalar_size}
use Rattle.ffi3_type_spec.specs.Signature.{Signature}
use Rattle.ffi3_type_spec.specs.Value.{ValueTree, void_value, leaf_value, struct_value, ValueTrees, no_values, value, fits, all_fit}
use Rattle.ffi3_type_spec.proofs.Arrays.{array_leaves}
use Rattle.ffi3_place_spec.specs.declared.Piece.{Piece}
use Rattle.ffi3_place_spec.specs.declared.Place.{Place}
use Rattle.ffi3_place_spec.specs.declared.Place.TheVariants.{Direct, ByRef}
use Rattle.ffi3_place_spec.specs.declared.Res.{Res}
use Rattle.ffi3_place_spec.specs.declared.Res.TheVariants.{Nothing, Direct as DirectRes, Hidden}
use Rattle.ffi3_place_spec.specs.Image.{Image, byte_at}
use Rattle.ffi3_place_spec.specs.Standard.{Standard, plan_of}
use Rattle.ffi3_place_spec.specs.Holds.{leaf_bytes, all_leaf_bytes, Carries, StandsInPieces, LeavesStand, OwnsArgument, OwnsArguments, OwnsResult}
use Rattle.ffi3_place_spec.specs.Sound.{CoversLeaf, HaveAll, PlaceHasAll, PlacesHaveAll, ResultHasAll, IsDetermined}
use Rattle.ffi3_place_spec.proofs.Tests.{and_left, and_right, each_at}

-- ---- the bytes of its leaves determine a value that fits

mutual
  bytes_determine : (t : Tree) (v w : ValueTree) (xs ys : List (List ℕ)) → fits t v ≡ true → fits t w ≡ true → leaf_bytes v ++ xs ≡ leaf_bytes w ++ ys → (v ≡ w) × (xs ≡ ys)
  bytes_determine void void_value void_value xs ys fv fw e = (refl, e)
  bytes_determine (scalar s) (leaf_value b) (leaf_value c) xs ys fv fw e = (cc, cc)
  bytes_determine (structure ts) (struct_value vs) (struct_value ws) xs ys fv fw e =
      let both = all_bytes_determine ts vs ws xs ys fv fw e in
      (ap struct_value both.0, both.1)
  bytes_determine (array (tree t ts) n) (struct_value vs) (struct_value ws) xs ys fv fw e =
      let both = all_bytes_determine (trees_of (replicate n t)) vs ws xs ys fv fw e in
      (ap struct_value both.0, both.1)
  bytes_determine _ _ _ xs ys fv fw e = cc

  all_bytes_determine : (ts : Trees) (vs ws : ValueTrees) (xs ys : List (List ℕ)) → all_fit ts vs ≡ true → all_fit ts ws ≡ true → all_leaf_bytes vs ++ xs ≡ all_leaf_bytes ws ++ ys → (vs ≡ ws) × (xs ≡ ys)
  all_bytes_determine no_trees no_values no_values xs ys fv fw e = (refl, e)
  all_bytes_determine (tree t ts) (value v vs) (value w ws) xs ys fv fw e =
      let regrouped = sym (append_assoc (leaf_bytes v) (all_leaf_bytes vs) xs) ∙ e ∙ append_assoc (leaf_bytes w) (all_leaf_bytes ws) ys in
      let first = bytes_determine t v w (all_leaf_bytes vs ++ xs) (all_leaf_bytes ws ++ ys) (and_left (fits t v) (all_fit ts vs) fv) (and_left (fits t w) (all_fit ts ws) fw) regrouped in
      let others = all_bytes_determine ts vs ws xs ys (and_right (fits t v) (all_fit ts vs) fv) (and_right (fits t w) (all_fit ts ws) fw) first.1 in
      let same : value v vs ≡ value w ws = ap (λ u. value u vs) first.0 ∙ ap (λ us. value w us) others.0 in
      (same, others.1)
  all_bytes_determine _ _ _ xs ys fv fw e = cc

pub same_bytes : (t : Tree) (v w : ValueTree) → fits t v ≡ true → fits t w ≡ true → leaf_bytes v ≡ leaf_bytes w → v ≡ w
same_bytes t v w fv fw e = (bytes_determine t v w [] [] fv fw (ap (λ b. b ++ []) e)).0

-- ---- the leaves of a value that fits have the sizes of the type's leaves

abbrev sizes : List Leaf → List ℕ
sizes ls = map (λ l. scalar_size l.kind) ls

abbrev all_sizes : List Layout → List ℕ
all_sizes [] = []
all_sizes (e ∷ es) = sizes e.leaves ++ all_sizes es

sizes_append : (xs ys : List Leaf) → sizes (xs ++ ys) ≡ sizes xs ++ sizes ys
sizes_append [] ys = refl
sizes_append (x ∷ xs) ys = ap (λ ns. scalar_size x.kind ∷ ns) (sizes_append xs ys)

sizes_moved : (by : ℕ) (xs : List Leaf) → sizes (map (moved by) xs) ≡ sizes xs
sizes_moved by [] = refl
sizes_moved by (x ∷ xs) = ap (λ ns. scalar_size x.kind ∷ ns) (sizes_moved by xs)

sizes_step : (es : List Layout) (i : ℕ) → sizes (leaves_before es (suc i)) ≡ sizes (leaves_before es i) ++ sizes (element es i).leaves
sizes_step es i =
    sizes_append (leaves_before es i) (map (moved (start_of es i)) (element es i).leaves) ∙ ap (λ ns. sizes (leaves_before es i) ++ ns) (sizes_moved (start_of es i) (element es i).leaves)

sizes_shifted : (e : Layout) (es : List Layout) (i : ℕ) → sizes (leaves_before (e ∷ es) (suc i)) ≡ sizes e.leaves ++ sizes (leaves_before es i)
sizes_shifted e es zero = sizes_step (e ∷ es) 0 ∙ sym (append-nil (sizes e.leaves))
sizes_shifted e es (suc i) =
    sizes_step (e ∷ es) (suc i) ∙ ap (λ ns. ns ++ sizes (element es i).leaves) (sizes_shifted e es i) ∙ append_assoc (sizes e.leaves) (sizes (leaves_before es i)) (sizes (element es i).leaves) ∙ ap (λ ns. sizes e.leaves ++ ns) (sym (sizes_step es i))

sizes_of_all : (es : List Layout) → sizes (leaves_before es (length es)) ≡ all_sizes es
sizes_of_all [] = refl
sizes_of_all (e ∷ es) = sizes_shifted e es (length es) ∙ ap (λ ns. sizes e.leaves ++ ns) (sizes_of_all es)

lengths_append : (xs ys : List (List ℕ)) → map length (xs ++ ys) ≡ map length xs ++ map length ys
lengths_append [] ys = refl
lengths_append (x ∷ xs) ys = ap (λ ns. length x ∷ ns) (lengths_append xs ys)

mutual
  pub lengths_fit : (t : Tree) (v : ValueTree) → fits t v ≡ true → map length (leaf_bytes v) ≡ sizes (leaves_of t)
  lengths_fit void void_value f = refl
  lengths_fit (scalar s) (leaf_value b) f =
      let same : length b ≡ scalar_size s = grind (arith, nat_tests, f) in
      ap (λ n. n ∷ []) same
  lengths_fit (structure ts) (struct_value vs) f = all_lengths_fit ts vs f ∙ sym (sizes_of_all (layouts ts))
  lengths_fit (array (tree t ts) n) (struct_value vs) f =
      let us = trees_of (replicate n t) in
      all_lengths_fit us vs f ∙ sym (sizes_of_all (layouts us)) ∙ ap sizes (sym (array_leaves (tree t ts) n))
  lengths_fit _ _ f = cc

  all_lengths_fit : (ts : Trees) (vs : ValueTrees) → all_fit ts vs ≡ true → map length (all_leaf_bytes vs) ≡ all_sizes (layouts ts)
  all_lengths_fit no_trees no_values f = refl
  all_lengths_fit (tree t ts) (value v vs) f =
      let first = lengths_fit t v (and_left (fits t v) (all_fit ts vs) f) in
      let others = all_lengths_fit ts vs (and_right (fits t v) (all_fit ts vs) f) in
      lengths_append (leaf_bytes v) (all_leaf_bytes vs) ∙ ap (λ ns. ns ++ map length (all_leaf_bytes vs)) first ∙ ap (λ ns. sizes (leaves_of t) ++ ns) others
  all_lengths_fit _ _ f = cc

-- ---- pieces

module _ (m : Image) (base : ℕ) where
  same_leaf : (pieces : List Piece) (l : Leaf) (b c : List ℕ) → CoversLeaf pieces l → length b ≡ scalar_size l.kind → length c ≡ scalar_size l.kind → StandsInPieces m base pieces l b → StandsInPieces m base pieces l c → b ≡ c
  same_leaf pieces l b c covers length_b length_c own_b own_c =
      ext_get_or 0 b c (length_b ∙ sym length_c) (λ k h. same k (subst (λ n. k < n) length_b h))
    where
      same : (k : ℕ) → k < scalar_size l.kind → get_or b k 0 ≡ get_or c k 0
      same k h =
          let a = covers k h in
          let from_b = each_at (λ (p : Piece). Carries (l.at + k) p → byte_at m base p.loc (l.at + k - p.off) ≡ get_or b k 0) pieces a.0 a.1 a.2 a.3 (own_b k h) in
          let from_c = each_at (λ (p : Piece). Carries (l.at + k) p → byte_at m base p.loc (l.at + k - p.off) ≡ get_or c k 0) pieces a.0 a.1 a.2 a.3 (own_c k h) in
          sym (from_b a.4) ∙ from_c a.4

  same_leaves : (pieces : List Piece) (ls : List Leaf) (v w : List (List ℕ)) → AllByRecursion (CoversLeaf pieces) ls → map length v ≡ sizes ls → map length w ≡ sizes ls → LeavesStand m base pieces ls v → LeavesStand m base pieces ls w → v ≡ w
  same_leaves pieces [] [] [] covers lv lw own_v own_w = refl
  same_leaves pieces [] (_ ∷ _) _ covers lv lw own_v own_w = absurd own_v
  same_leaves pieces [] [] (_ ∷ _) covers lv lw own_v own_w = absurd own_w
  same_leaves pieces (l ∷ ls) [] _ covers lv lw own_v own_w = absurd own_v
  same_leaves pieces (l ∷ ls) (b ∷ v) [] covers lv lw own_v own_w = absurd own_w
  same_leaves pieces (l ∷ ls) (b ∷ v) (c ∷ w) covers lv lw own_v own_w =
      let heads = same_leaf pieces l b c covers.0 (cc) (cc) own_v.0 own_w.0 in
      let tails = same_leaves pieces ls v w covers.1 (cc) (cc) own_v.1 own_w.1 in
      cc

  pub same_value : (t : Tree) (pieces : List Piece) (v w : ValueTree) → HaveAll t pieces → fits t v ≡ true → fits t w ≡ true → LeavesStand m base pieces (leaves_of t) (leaf_bytes v) → LeavesStand m base pieces (leaves_of t) (leaf_bytes w) → v ≡ w
  same_value t pieces v w has_all fv fw own_v own_w =
      same_bytes t v w fv fw (same_leaves pieces (leaves_of t) (leaf_bytes v) (leaf_bytes w) has_all.covered (lengths_fit t v fv) (lengths_fit t w fw) own_v own_w)

  same_argument : (t : Tree) (p : Place) (v w : ValueTree) → PlaceHasAll t p → OwnsArgument m base t p v → OwnsArgument m base t p w → v ≡ w
  same_argument t (Direct pieces) v w has_all own_v own_w = same_value t pieces v w has_all own_v.0 own_w.0 own_v.1 own_w.1
  same_argument t (ByRef at copy) v w has_all own_v own_w = sym own_v.2 ∙ own_w.2

  same_arguments : (ts : List Tree) (ps : List Place) (v w : List ValueTree) → PlacesHaveAll ts ps → OwnsArguments m base ts ps v → OwnsArguments m base ts ps w → v ≡ w
  same_arguments [] [] [] [] has_all own_v own_w = refl
  same_arguments [] [] [] (_ ∷ _) has_all own_v own_w = absurd own_w
  same_arguments [] [] (_ ∷ _) _ has_all own_v own_w = absurd own_v
  same_arguments [] (_ ∷ _) _ _ has_all own_v own_w = absurd has_all
  same_arguments (t ∷ ts) [] _ _ has_all own_v own_w = absurd has_all
  same_arguments (t ∷ ts) (p ∷ ps) [] _ has_all own_v own_w = absurd own_v
  same_arguments (t ∷ ts) (p ∷ ps) (_ ∷ _) [] has_all own_v own_w = absurd own_w
  same_arguments (t ∷ ts) (p ∷ ps) (b ∷ v) (c ∷ w) has_all own_v own_w =
      let heads = same_argument t p b c has_all.0 own_v.0 own_w.0 in
      let tails = same_arguments ts ps v w has_all.1 own_v.1 own_w.1 in
      cc

only_void : (v w : ValueTree) → fits void v ≡ true → fits void w ≡ true → v ≡ w
only_void v w fv fw = same_bytes void v w fv fw (no_bytes v fv ∙ sym (no_bytes w fw))
  where
    no_bytes : (u : ValueTree) → fits void u ≡ true → leaf_bytes u ≡ []
    no_bytes void_value f = refl
    no_bytes (leaf_value b) f = cc
    no_bytes (struct_value vs) f = cc

same_result : (m : Image) (t : Tree) (r : Res) (v w : ValueTree) → ResultHasAll t r → fits t v ≡ true → fits t w ≡ true → OwnsResult m t r v → OwnsResult m t r w → v ≡ w
same_result m t Nothing v w has_all fv fw own_v own_w =
    only_void v w (subst (λ u. fits u v ≡ true) has_all fv) (subst (λ u. fits u w ≡ true) has_all fw)
same_result m t (DirectRes pieces) v w has_all fv fw own_v own_w = same_value m 0 t pieces v w has_all fv fw own_v own_w
same_result m t (Hidden at buffer) v w has_all fv fw own_v own_w = sym own_v ∙ own_w

-- places that have all of the values determine them
pub determined : (std : Standard) (s : Signature) → PlacesHaveAll s.arguments (plan_of std s).places → ResultHasAll s.result_type (plan_of std s).res → IsDetermined std s
determined std s has_arguments has_result = record {
  arguments = λ v w m own_v own_w. same_arguments m std.link s.arguments (plan_of std s).places v w has_arguments own_v.arguments own_w.arguments;
  result_value = λ v w m own_v own_w. same_result m s.result_type (plan_of std s).res v w has_result own_v.fitting own_w.fitting own_v.stands own_w.stands;
}
