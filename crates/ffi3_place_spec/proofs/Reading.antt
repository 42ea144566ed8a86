-- The bytes of a value have those of its leaves, and bytes that have those of its leaves have the value.
use Rattle.std.specs.Prelude.{⊤}
use Rattle.std.specs.List.{AllByRecursion}
use Rattle.std.proofs.Common.{◌≡◌, ℕ, zero, suc, ◌+◌, ◌<◌, ◌≤◌, true, List, [], ◌∷◌, ◌++◌, map, replicate, get_or, length, refl, ap, sym, ◌∙◌, subst, append_assoc, append-nil, arith}
use Rattle.std.proofs.lemmas.List.{ext_get_or, length-map, get_or-take}
use Rattle.std.proofs.lemmas.Bool.Decides.{nat_tests}
use Rattle.ffi3_type_spec.specs.Tree.{Tree, void, scalar, left_out, structure, array, Trees, no_trees, tree, trees_of, first_of, Scalar, u8, x87}
use Rattle.ffi3_type_spec.specs.Layout.{Leaf, Layout, layout, layouts, element, start_of, end_before, align_before, leaves_before, moved, leaves_of, size_of, scalar_size}
use Rattle.ffi3_type_spec.specs.Value.{ValueTree, void_value, leaf_value, struct_value, ValueTrees, no_values, value, fits, all_fit, part, value_in, values_in, significant}
use Rattle.ffi3_type_spec.proofs.Significant.{length-significant}
use Rattle.ffi3_type_spec.proofs.Arrays.{array_leaves, array_size}
use Rattle.ffi3_type_spec.proofs.ArrayValues.{array_value}
use Rattle.ffi3_type_spec.proofs.Parts.{index_part, length_part}
use Rattle.ffi3_type_spec.proofs.Layouts.{least_multiple-above, end_before-le}
use Rattle.ffi3_place_spec.specs.Holds.{leaf_bytes, all_leaf_bytes}
use Rattle.ffi3_place_spec.proofs.Covered.{EndsIn, leaves_end}
use Rattle.ffi3_place_spec.proofs.Determines.{lengths_fit}
use Rattle.ffi3_place_spec.proofs.Tests.{and_left, and_right}

-- the bytes have those of the leaf at its offset
abbrev pub ReadsLeaf : List ℕ → Leaf → List ℕ → Type 0
ReadsLeaf out l b =
    (k : ℕ) → k < scalar_size l.kind → get_or out (l.at + k) 0 ≡ get_or b k 0

abbrev pub LeavesRead : List ℕ → List Leaf → List (List ℕ) → Type 0
LeavesRead out [] [] = ⊤
LeavesRead out [] (_ ∷ _) = ⊥
LeavesRead out (_ ∷ _) [] = ⊥
LeavesRead out (l ∷ ls) (b ∷ bs) = ReadsLeaf out l b × LeavesRead out ls bs

both_read : (out : List ℕ) (ls ms : List Leaf) (bs cs : List (List ℕ)) → LeavesRead out ls bs → LeavesRead out ms cs → LeavesRead out (ls ++ ms) (bs ++ cs)
both_read out [] ms [] cs r s = s
both_read out [] ms (b ∷ bs) cs r s = absurd r
both_read out (l ∷ ls) ms [] cs r s = absurd r
both_read out (l ∷ ls) ms (b ∷ bs) cs r s = (r.0, both_read out ls ms bs cs r.1 s)

-- what the part has at a leaf, the whole has
whole_read : (out : List ℕ) (start size : ℕ) (ls : List Leaf) (bs : List (List ℕ)) → AllByRecursion (EndsIn size) ls → LeavesRead (part out start size) ls bs → LeavesRead out (map (moved start) ls) bs
whole_read out start size [] [] ends r = tt
whole_read out start size [] (b ∷ bs) ends r = absurd r
whole_read out start size (l ∷ ls) [] ends r = absurd r
whole_read out start size (l ∷ ls) (b ∷ bs) ends r = (
  λ k h. let same : start + l.at + k ≡ start + (l.at + k) = omega arith in
      ap (λ n. get_or out n 0) same ∙ sym (index_part out start size (l.at + k) (omega (arith, ends.0, h))) ∙ r.0 k h,
  whole_read out start size ls bs ends.1 r.1,
)

first_read : (out : List ℕ) (ls ms : List Leaf) (bs cs : List (List ℕ)) → length bs ≡ length ls → LeavesRead out (ls ++ ms) (bs ++ cs) → LeavesRead out ls bs × LeavesRead out ms cs
first_read out [] ms [] cs n r = (tt, r)
first_read out [] ms (b ∷ bs) cs n r = absurd (omega (arith, n))
first_read out (l ∷ ls) ms [] cs n r = absurd (omega (arith, n))
first_read out (l ∷ ls) ms (b ∷ bs) cs n r =
    let rest = first_read out ls ms bs cs (omega (arith, n)) r.1 in
    ((r.0, rest.0), rest.1)

-- what the whole has at a leaf, the part has
part_read : (out : List ℕ) (start size : ℕ) (ls : List Leaf) (bs : List (List ℕ)) → AllByRecursion (EndsIn size) ls → LeavesRead out (map (moved start) ls) bs → LeavesRead (part out start size) ls bs
part_read out start size [] [] ends r = tt
part_read out start size [] (b ∷ bs) ends r = absurd r
part_read out start size (l ∷ ls) [] ends r = absurd r
part_read out start size (l ∷ ls) (b ∷ bs) ends r = (
  λ k h. let same : start + (l.at + k) ≡ start + l.at + k = omega arith in
      index_part out start size (l.at + k) (omega (arith, ends.0, h)) ∙ ap (λ n. get_or out n 0) same ∙ r.0 k h,
  part_read out start size ls bs ends.1 r.1,
)

-- ---- the leaves of a struct, element by element

abbrev leaves_from : List Layout → ℕ → List Layout → List Leaf
leaves_from es i [] = []
leaves_from es i (e ∷ rest) = map (moved (start_of es i)) e.leaves ++ leaves_from es (suc i) rest

leaves_together : (es : List Layout) (i : ℕ) (rest : List Layout) → ((k : ℕ) → element es (i + k) ≡ element rest k) → leaves_before es i ++ leaves_from es i rest ≡ leaves_before es (i + length rest)
leaves_together es i [] same =
    let n : i ≡ i + 0 = omega arith in
    append-nil (leaves_before es i) ∙ ap (leaves_before es) n
leaves_together es i (e ∷ rest) same =
    let start : i + 0 ≡ i = omega arith in
    let here : element es i ≡ e = ap (element es) (sym start) ∙ same 0 in
    let n : suc i + length rest ≡ i + suc (length rest) = omega arith in
    let next : (k : ℕ) → element es (suc i + k) ≡ element rest k = λ k. let m : suc i + k ≡ i + suc k = omega arith in ap (element es) m ∙ same (suc k) in
    sym (append_assoc (leaves_before es i) (map (moved (start_of es i)) e.leaves) (leaves_from es (suc i) rest))
    ∙ ap (λ d. (leaves_before es i ++ map (moved (start_of es i)) d.leaves) ++ leaves_from es (suc i) rest) (sym here)
    ∙ leaves_together es (suc i) rest next ∙ ap (leaves_before es) n

leaves_of_struct : (es : List Layout) → leaves_from es 0 es ≡ leaves_before es (length es)
leaves_of_struct es =
    let n : 0 + length es ≡ length es = omega arith in
    leaves_together es 0 es (λ k. let m : 0 + k ≡ k = omega arith in ap (element es) m) ∙ ap (leaves_before es) n

element_ends : (es : List Layout) (k : ℕ) (size : ℕ) → k < length es → size ≡ end_before es (length es) → start_of es k + (element es k).size ≤ size
element_ends es k size below is =
    omega (arith, is, end_before-le es (suc k) (length es) (omega (arith, below)))

pub counted : (t : Tree) (v : ValueTree) → fits t v ≡ true → length (leaf_bytes v) ≡ length (leaves_of t)
counted t v f =
    sym (length-map (leaf_bytes v) length) ∙ ap length (lengths_fit t v f) ∙ length-map (leaves_of t) (λ l. scalar_size l.kind)

-- ---- the value

-- the bytes of a scalar's value are the first of those that it takes
significant_same : (s : Scalar) (bytes : List ℕ) (k : ℕ) → k < scalar_size s → get_or bytes k 0 ≡ get_or (significant s bytes) k 0
significant_same x87 bytes k h = sym (get_or-take 10 bytes k 0 h)
significant_same u8 bytes k h = refl
significant_same _ bytes k h = refl

-- equal elements, each read from its part
equal_read : (es : List Layout) (t : Tree) → ((out : List ℕ) → LeavesRead out (leaves_of t) (leaf_bytes (value_in t out))) → (n i : ℕ) (out : List ℕ) → LeavesRead out (leaves_from es i (layouts (trees_of (replicate n t)))) (all_leaf_bytes (values_in (trees_of (replicate n t)) es i out))
equal_read es t one zero i out = tt
equal_read es t one (suc n) i out =
    let us = trees_of (replicate n t) in
    let one_more : suc i ≡ i + 1 = omega arith in
    let later = subst (λ k. LeavesRead out (leaves_from es (suc i) (layouts us)) (all_leaf_bytes (values_in us es k out))) one_more (equal_read es t one n (suc i) out) in
    let first = whole_read out (start_of es i) (size_of t) (leaves_of t) (leaf_bytes (value_in t (part out (start_of es i) (size_of t)))) (leaves_end t) (one (part out (start_of es i) (size_of t))) in
    both_read out (map (moved (start_of es i)) (leaves_of t)) (leaves_from es (suc i) (layouts us)) (leaf_bytes (value_in t (part out (start_of es i) (size_of t)))) (all_leaf_bytes (values_in us es (i + 1) out)) first later

mutual
  pub leaves_read : (t : Tree) (out : List ℕ) → LeavesRead out (leaves_of t) (leaf_bytes (value_in t out))
  leaves_read void out = tt
  leaves_read (scalar s) out = (
    λ k h. let n : 0 + k ≡ k = omega arith in
        ap (λ i. get_or out i 0) n ∙ significant_same s out k h,
    tt,
  )
  leaves_read (left_out k) out = tt
  leaves_read (structure ts) out =
      let es = layouts ts in
      subst (λ ls. LeavesRead out ls (all_leaf_bytes (values_in ts (layouts ts) 0 out))) (leaves_of_struct (layouts ts)) (elements_read (layouts ts) ts 0 out)
  leaves_read (array ts n) out =
      let us = trees_of (replicate n (first_of ts)) in
      let whole = subst (λ ls. LeavesRead out ls (all_leaf_bytes (values_in us (layouts us) 0 out))) (leaves_of_struct (layouts us)) (equal_read (layouts us) (first_of ts) (first_read_of ts) n 0 out) in
      let there = subst (λ ls. LeavesRead out ls (all_leaf_bytes (values_in us (layouts us) 0 out))) (sym (array_leaves ts n)) whole in
      subst (λ v. LeavesRead out (leaves_of (array ts n)) (leaf_bytes v)) (sym (array_value ts n out)) there

  first_read_of : (ts : Trees) (out : List ℕ) → LeavesRead out (leaves_of (first_of ts)) (leaf_bytes (value_in (first_of ts) out))
  first_read_of no_trees out = tt
  first_read_of (tree t ts) out = leaves_read t out

  elements_read : (es : List Layout) (us : Trees) (i : ℕ) (out : List ℕ) → LeavesRead out (leaves_from es i (layouts us)) (all_leaf_bytes (values_in us es i out))
  elements_read es no_trees i out = tt
  elements_read es (tree t us) i out =
      let one_more : suc i ≡ i + 1 = omega arith in
      let later = subst (λ n. LeavesRead out (leaves_from es (suc i) (layouts us)) (all_leaf_bytes (values_in us es n out))) one_more (elements_read es us (suc i) out) in
      let first = whole_read out (start_of es i) (size_of t) (leaves_of t) (leaf_bytes (value_in t (part out (start_of es i) (size_of t)))) (leaves_end t) (leaves_read t (part out (start_of es i) (size_of t))) in
      both_read out (map (moved (start_of es i)) (leaves_of t)) (leaves_from es (suc i) (layouts us)) (leaf_bytes (value_in t (part out (start_of es i) (size_of t)))) (all_leaf_bytes (values_in us es (i + 1) out)) first later

-- bytes that have a value's bytes at each leaf of its type have the value
mutual
  pub reads : (t : Tree) (v : ValueTree) (out : List ℕ) → fits t v ≡ true → length out ≡ size_of t → LeavesRead out (leaves_of t) (leaf_bytes v) → value_in t out ≡ v
  reads void void_value out f sized r = refl
  reads (scalar s) (leaf_value b) out f sized r =
      let many : length b ≡ scalar_size s = grind (arith, nat_tests, f) in
      let kept : length (significant s out) ≡ scalar_size s = length-significant s out sized in
      ap leaf_value (ext_get_or 0 (significant s out) b (kept ∙ sym many) (λ k h. let n : k ≡ 0 + k = omega arith in
      let below : k < scalar_size s = omega (arith, kept, h) in
      sym (significant_same s out k below) ∙ ap (λ i. get_or out i 0) n ∙ r.0 k below))
  reads (structure ts) (struct_value vs) out f sized r =
      let es = layouts ts in
      let room : (k : ℕ) → k < length es → start_of es (0 + k) + (element es (0 + k)).size ≤ length out = λ k below. let n : 0 + k ≡ k = omega arith in
      subst (λ i. start_of es i + (element es i).size ≤ length out) (sym n) (omega (arith, sized, element_ends es k (end_before es (length es)) below refl, least_multiple-above (align_before es (length es)) (end_before es (length es)))) in
      ap struct_value (all_read es ts vs 0 out f (λ k. let n : 0 + k ≡ k = omega arith in ap (element es) n) room (subst (λ ls. LeavesRead out ls (all_leaf_bytes vs)) (sym (leaves_of_struct es)) r))
  reads (array (tree t ts) n) (struct_value vs) out f sized r =
      let us = trees_of (replicate n t) in
      let es = layouts us in
      let whole : length out ≡ size_of (structure us) = sized ∙ array_size (tree t ts) n in
      let room : (k : ℕ) → k < length es → start_of es (0 + k) + (element es (0 + k)).size ≤ length out = λ k below. let m : 0 + k ≡ k = omega arith in
      subst (λ i. start_of es i + (element es i).size ≤ length out) (sym m) (omega (arith, whole, element_ends es k (end_before es (length es)) below refl, least_multiple-above (align_before es (length es)) (end_before es (length es)))) in
      let read = subst (λ ls. LeavesRead out ls (all_leaf_bytes vs)) (sym (leaves_of_struct es)) (subst (λ ls. LeavesRead out ls (all_leaf_bytes vs)) (array_leaves (tree t ts) n) r) in
      array_value (tree t ts) n out ∙ ap struct_value (all_read es us vs 0 out f (λ k. let m : 0 + k ≡ k = omega arith in ap (element es) m) room read)
  reads _ _ out f sized r = cc

  all_read : (es : List Layout) (us : Trees) (vs : ValueTrees) (i : ℕ) (out : List ℕ) → all_fit us vs ≡ true → ((k : ℕ) → element es (i + k) ≡ element (layouts us) k) → ((k : ℕ) → k < length (layouts us) → start_of es (i + k) + (element es (i + k)).size ≤ length out) → LeavesRead out (leaves_from es i (layouts us)) (all_leaf_bytes vs) → values_in us es i out ≡ vs
  all_read es no_trees no_values i out f same room r = refl
  all_read es (tree t us) (value v vs) i out f same room r =
      let start : i + 0 ≡ i = omega arith in
      let here : element es i ≡ layout t = ap (element es) (sym start) ∙ same 0 in
      let first_fits = and_left (fits t v) (all_fit us vs) f in
      let others_fit = and_right (fits t v) (all_fit us vs) f in
      let ends : start_of es i + size_of t ≤ length out = subst (λ e. start_of es i + e.size ≤ length out) here (subst (λ n. start_of es n + (element es n).size ≤ length out) start (room 0 (omega arith))) in
      let count : length (leaf_bytes v) ≡ length (map (moved (start_of es i)) (leaves_of t)) = counted t v first_fits ∙ sym (length-map (leaves_of t) (moved (start_of es i))) in
      let both = first_read out (map (moved (start_of es i)) (leaves_of t)) (leaves_from es (suc i) (layouts us)) (leaf_bytes v) (all_leaf_bytes vs) count r in
      let first = reads t v (part out (start_of es i) (size_of t)) first_fits (length_part out (start_of es i) (size_of t) ends) (part_read out (start_of es i) (size_of t) (leaves_of t) (leaf_bytes v) (leaves_end t) both.0) in
      let next : (k : ℕ) → element es (suc i + k) ≡ element (layouts us) k = λ k. let m : suc i + k ≡ i + suc k = omega arith in ap (element es) m ∙ same (suc k) in
      let later : (k : ℕ) → k < length (layouts us) → start_of es (suc i + k) + (element es (suc i + k)).size ≤ length out = λ k below. let m : i + suc k ≡ suc i + k = omega arith in
      subst (λ n. start_of es n + (element es n).size ≤ length out) m (room (suc k) (omega (arith, below))) in
      let one_more : i + 1 ≡ suc i = omega arith in
      let others = ap (λ n. values_in us es n out) one_more ∙ all_read es us vs (suc i) out others_fit next later both.1 in
      ap (λ w. value w (values_in us es (i + 1) out)) first ∙ ap (value v) others
  all_read es _ _ i out f same room r = cc
