-- Bytes that have the same value differ in padding alone.
use Rattle.std.proofs.Common.{◌≡◌, ℕ, zero, suc, ◌+◌, ◌-◌, ◌*◌, ◌<◌, ◌≤◌, inl, inr, List, [], length, ap, sym, ◌∙◌, subst, arith, All, map}
use Rattle.std.specs.Prelude.{slice_index, slice_index_or}
use Rattle.std.proofs.lemmas.Bool.{cases_lt}
use Rattle.std.proofs.lemmas.Nat.{mul-le}
use Rattle.std.proofs.lemmas.List.{length-map, get_or-take}
use Rattle.std.proofs.lemmas.List.Elements.{All-nil, All-cons, All-append, All-map}
use Rattle.ffi3_type_spec.specs.Tree.{Scalar, Tree, void, scalar, left_out, structure, array, Trees, no_trees, tree, list_of}
use Rattle.ffi3_type_spec.specs.Layout.{Layout, Leaf, layout, layouts, element, size_of, start_of, end_before, leaves_of, leaves_before, repeated, moved, scalar_size, scalar_room, align_before}
use Rattle.ffi3_type_spec.specs.Value.{ValueTree, ValueTrees, leaf_value, struct_value, value, value_in, values_in, first_value_in, repeated_values, part, DifferInPaddingAlone, significant}
use Rattle.ffi3_type_spec.proofs.Layouts.{layouts_is_map, end_before-le, least_multiple-above}
use Rattle.ffi3_type_spec.proofs.LayoutLaws.{IsWell, rising-inside, tree_well, trees_well}
use Rattle.ffi3_type_spec.proofs.Parts.{index_part, length_part}
use Rattle.ffi3_type_spec.proofs.Significant.{significant_first}

-- the leaf ends within n bytes
abbrev EndsWithin : ℕ → Leaf → Type 0
EndsWithin n leaf = leaf.at + scalar_size leaf.kind ≤ n

-- each leaf of a layout that keeps the laws lies within it
ends_within : (l : Layout) → IsWell l → All (EndsWithin l.size) l.leaves
ends_within l well k d below = (rising-inside 0 l.leaves l.size k d below well.rising).1

-- the two have the same bytes at the leaf
abbrev SameAt : List ℕ → List ℕ → Leaf → Type 0
SameAt a b leaf =
    (i : ℕ) → leaf.at ≤ i → i < leaf.at + scalar_size leaf.kind → slice_index a i ≡ slice_index b i

same_before : (es : List Layout) (a b : List ℕ) → ((k : ℕ) → All (λ leaf. SameAt a b (moved (start_of es k) leaf)) (element es k).leaves) → (n : ℕ) → All (SameAt a b) (leaves_before es n)
same_before es a b h zero = All-nil (SameAt a b)
same_before es a b h (suc n) =
    All-append (SameAt a b) (leaves_before es n) (map (moved (start_of es n)) (element es n).leaves) (same_before es a b h n) (All-map (SameAt a b) (moved (start_of es n)) (element es n).leaves (h n))

-- what parts have at a leaf, the whole has
same_in_whole : (a b : List ℕ) (start size : ℕ) (leaf : Leaf) → EndsWithin size leaf → SameAt (part a start size) (part b start size) leaf → SameAt a b (moved start leaf)
same_in_whole a b start size leaf ends same i from to =
    let back : start + (i - start) ≡ i = omega arith in
    let here = same (i - start) (omega arith) (omega arith) in
    ap (slice_index a) (sym back) ∙ sym (index_part a start size (i - start) (omega arith)) ∙ here ∙ index_part b start size (i - start) (omega arith) ∙ ap (slice_index b) back

-- what has the same value of a scalar has the same bytes at its leaf
same_in_scalar : (s : Scalar) (a b : List ℕ) → length a ≡ scalar_room s → length b ≡ scalar_room s → significant s a ≡ significant s b → All (SameAt a b) (leaves_of (scalar s))
same_in_scalar s a b n m e =
    All-cons (SameAt a b) (record { at = 0; kind = s }) [] (λ i from to. sym (get_or-take (scalar_size s) a i 0 (omega arith)) ∙ ap (λ xs. slice_index xs i) (sym (significant_first s a n) ∙ e ∙ significant_first s b m) ∙ get_or-take (scalar_size s) b i 0 (omega arith)) (All-nil (SameAt a b))

leaf_bytes : (a b : List ℕ) → leaf_value a ≡ leaf_value b → a ≡ b
leaf_bytes a b e = cc

struct_values : (vs ws : ValueTrees) → struct_value vs ≡ struct_value ws → vs ≡ ws
struct_values vs ws e = cc

first_value : (v w : ValueTree) (vs ws : ValueTrees) → value v vs ≡ value w ws → v ≡ w
first_value v w vs ws e = cc

other_values : (v w : ValueTree) (vs ws : ValueTrees) → value v vs ≡ value w ws → vs ≡ ws
other_values v w vs ws e = cc

size_of_element : (ts : Trees) (k : ℕ) → k < length (list_of ts) → start_of (layouts ts) k + (element (layouts ts) k).size ≤ size_of (structure ts)
size_of_element ts k below =
    let es = layouts ts in
    let count : length es ≡ length (list_of ts) = ap length (layouts_is_map ts) ∙ length-map (list_of ts) layout in
    let last = end_before-le es (suc k) (length es) (omega arith) in
    let above = least_multiple-above (align_before es (length es)) (end_before es (length es)) in
    omega arith

-- the elements of an array, where equal values have the same bytes at the leaves of one
module _ (read : List ℕ → ValueTree) (l : Layout) (ends : All (EndsWithin l.size) l.leaves) (one : (a b : List ℕ) → length a ≡ l.size → length b ≡ l.size → read a ≡ read b → All (SameAt a b) l.leaves) (a b : List ℕ) where
  read_same : (i n k : ℕ) → repeated_values read l.size i n a ≡ repeated_values read l.size i n b → k < n → read (part a ((i + k) * l.size) l.size) ≡ read (part b ((i + k) * l.size) l.size)
  read_same i zero k e h = absurd (omega arith)
  read_same i (suc n) zero e h =
      let at_zero : i ≡ i + 0 = omega arith in
      let first = first_value (read (part a (i * l.size) l.size)) (read (part b (i * l.size) l.size)) (repeated_values read l.size (i + 1) n a) (repeated_values read l.size (i + 1) n b) e in
      subst (λ j. read (part a (j * l.size) l.size) ≡ read (part b (j * l.size) l.size)) at_zero first
  read_same i (suc n) (suc k) e h =
      let along : i + 1 + k ≡ i + suc k = omega arith in
      let others = other_values (read (part a (i * l.size) l.size)) (read (part b (i * l.size) l.size)) (repeated_values read l.size (i + 1) n a) (repeated_values read l.size (i + 1) n b) e in
      subst (λ j. read (part a (j * l.size) l.size) ≡ read (part b (j * l.size) l.size)) along (read_same (i + 1) n k others (omega arith))

  repeated_same : (n m : ℕ) → repeated_values read l.size 0 n a ≡ repeated_values read l.size 0 n b → n * l.size ≤ length a → length a ≡ length b → m ≤ n → All (SameAt a b) (repeated l m)
  repeated_same n zero e room equal h = All-nil (SameAt a b)
  repeated_same n (suc m) e room equal h =
      let start = m * l.size in
      let from_zero : 0 + m ≡ m = omega arith in
      let less : suc m * l.size ≤ n * l.size = mul-le (suc m) l.size n l.size (omega arith) (omega arith) in
      let more : suc m * l.size ≡ start + l.size = omega arith in
      let within : start + l.size ≤ length a = omega (arith, less, more, room) in
      let here = subst (λ j. read (part a (j * l.size) l.size) ≡ read (part b (j * l.size) l.size)) from_zero (read_same 0 n m e (omega arith)) in
      let inner = one (part a start l.size) (part b start l.size) (length_part a start l.size within) (length_part b start l.size (omega (arith, within, equal))) here in
      let whole : All (λ leaf. SameAt a b (moved start leaf)) l.leaves = λ k d below. same_in_whole a b start l.size _ (ends k d below) (inner k d below) in
      All-append (SameAt a b) (repeated l m) (map (moved start) l.leaves) (repeated_same n m e room equal (omega arith)) (All-map (SameAt a b) (moved start) l.leaves whole)

mutual
  pub same_in_leaves : (t : Tree) (a b : List ℕ) → length a ≡ size_of t → length b ≡ size_of t → value_in t a ≡ value_in t b → All (SameAt a b) (leaves_of t)
  same_in_leaves void a b n m e = All-nil (SameAt a b)
  same_in_leaves (scalar s) a b n m e =
      same_in_scalar s a b n m (leaf_bytes (significant s a) (significant s b) e)
  same_in_leaves (left_out k) a b n m e = All-nil (SameAt a b)
  same_in_leaves (structure ts) a b n m e =
      let es = layouts ts in
      let values = struct_values (values_in ts es 0 a) (values_in ts es 0 b) e in
      let within : (k : ℕ) → k < length (list_of ts) → start_of es (0 + k) + (element es k).size ≤ length a = λ k below. let from_zero : 0 + k ≡ k = omega arith in rw from_zero (omega (arith, size_of_element ts k below)) in
      same_before es a b (λ k. let from_zero : 0 + k ≡ k = omega arith in
      subst (λ j. All (λ leaf. SameAt a b (moved (start_of es j) leaf)) (element es k).leaves) from_zero (all_same ts es 0 a b (omega arith) within values k)) (length es)
  same_in_leaves (array ts n) a b m k e =
      let l = element (layouts ts) 0 in
      let values = struct_values (repeated_values (first_value_in ts) l.size 0 n a) (repeated_values (first_value_in ts) l.size 0 n b) e in
      repeated_same (first_value_in ts) l (ends_within l (trees_well ts 0)) (first_same ts) a b n n values (omega arith) (omega arith) (omega arith)

  first_same : (ts : Trees) (a b : List ℕ) → length a ≡ (element (layouts ts) 0).size → length b ≡ (element (layouts ts) 0).size → first_value_in ts a ≡ first_value_in ts b → All (SameAt a b) (element (layouts ts) 0).leaves
  first_same no_trees a b n m e = All-nil (SameAt a b)
  first_same (tree t ts) a b n m e = same_in_leaves t a b n m e

  all_same : (us : Trees) (es : List Layout) (i : ℕ) (a b : List ℕ) → length a ≡ length b → ((k : ℕ) → k < length (list_of us) → start_of es (i + k) + (element (layouts us) k).size ≤ length a) → values_in us es i a ≡ values_in us es i b → (k : ℕ) → All (λ leaf. SameAt a b (moved (start_of es (i + k)) leaf)) (element (layouts us) k).leaves
  all_same no_trees es i a b n within e k = All-nil (λ leaf. SameAt a b (moved (start_of es (i + k)) leaf))
  all_same (tree t us) es i a b n within e zero =
      let start = start_of es i in
      let size = size_of t in
      let at_zero : i ≡ i + 0 = omega arith in
      let room : start + size ≤ length a = subst (λ j. start_of es j + size ≤ length a) (sym at_zero) (within 0 (omega arith)) in
      let first = first_value (value_in t (part a start size)) (value_in t (part b start size)) (values_in us es (i + 1) a) (values_in us es (i + 1) b) e in
      let inner = same_in_leaves t (part a start size) (part b start size) (length_part a start size room) (length_part b start size (omega arith)) first in
      let whole : All (λ leaf. SameAt a b (moved start leaf)) (leaves_of t) = λ k d below. same_in_whole a b start size _ (ends_within (layout t) (tree_well t) k d below) (inner k d below) in
      subst (λ j. All (λ leaf. SameAt a b (moved (start_of es j) leaf)) (leaves_of t)) at_zero whole
  all_same (tree t us) es i a b n within e (suc k) =
      let along : i + 1 + k ≡ i + suc k = omega arith in
      let others = other_values (value_in t (part a (start_of es i) (size_of t))) (value_in t (part b (start_of es i) (size_of t))) (values_in us es (i + 1) a) (values_in us es (i + 1) b) e in
      let rest = all_same us es (i + 1) a b n (λ j below. let later : i + 1 + j ≡ i + suc j = omega arith in
      subst (λ m. start_of es m + (element (layouts us) j).size ≤ length a) (sym later) (within (suc j) (omega arith))) others k in
      subst (λ j. All (λ leaf. SameAt a b (moved (start_of es j) leaf)) (element (layouts us) k).leaves) along rest

-- where they differ there is padding
pub differ_in_padding_alone : (t : Tree) (a b : List ℕ) → length a ≡ size_of t → length b ≡ size_of t → value_in t a ≡ value_in t b → DifferInPaddingAlone t a b
differ_in_padding_alone t a b n m e i inside differ k d below from =
    elim (cases_lt i ((slice_index_or (leaves_of t) k d).at + scalar_size (slice_index_or (leaves_of t) k d).kind)) [
      | inl within ↦ absurd (differ (same_in_leaves t a b n m e k d below i from within))
      | inr beyond ↦ beyond
    ]
