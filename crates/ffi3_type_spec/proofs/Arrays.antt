-- An array is laid out as a struct of as many equal elements; and in a struct, as if its elements stood there.
use Prim.Native.Nat.{◌∣◌}
use Rattle.std.proofs.Common.{◌≡◌, ℕ, zero, suc, ◌+◌, ◌*◌, ◌<◌, ◌≤◌, max, List, [], ◌∷◌, ◌++◌, map, replicate, length, refl, ap, sym, ◌∙◌, arith, append_assoc}
use Rattle.std.specs.Prelude.{slice_index_or}
use Rattle.std.proofs.Math.Nat.{dvd-add}
use Rattle.std.proofs.lemmas.List.{length-replicate, get_or-replicate}
use Rattle.std.proofs.lemmas.Nat.Gcd.{dvd_refl, dvd-zero, mod-eq-zero_of_dvd}
use Rattle.ffi3_type_spec.specs.Tree.{Tree, void, scalar, left_out, structure, array, Trees, no_trees, tree, trees_of, struct_of, array_of, first_of}
use Rattle.ffi3_type_spec.specs.Layout.{Layout, Leaf, layout, layouts, nothing, element, end_before, start_of, align_before, leaves_before, moved, repeated, array_layout, struct_layout, least_multiple, scalar_room, size_of, align_of, leaves_of}
use Rattle.ffi3_type_spec.specs.LayoutLaws.{ArrayIsStruct, ArrayIsItsElements}
use Rattle.ffi3_type_spec.proofs.Layouts.{align_positive, align_before-positive}
use Rattle.ffi3_type_spec.proofs.LeastMultiples.{least_multiple-same, least_multiple-divides, times_divides}

-- ---- lists of equal elements

pub length_of_equal : {A : Type 0} (n : ℕ) (a : A) → length (replicate n a) ≡ n
length_of_equal n a = length-replicate n a

pub one_of_equal : {A : Type 0} (n i : ℕ) (a d : A) → i < n → slice_index_or (replicate n a) i d ≡ a
one_of_equal n i a d h = get_or-replicate n i a d h

-- ---- every size is a multiple of the alignment

mutual
  pub size_whole : (t : Tree) → align_of t ∣ size_of t
  size_whole void = dvd-zero 1
  size_whole (scalar s) = dvd_refl (scalar_room s)
  size_whole (left_out k) = dvd-zero 1
  size_whole (structure ts) =
      let es = layouts ts in
      least_multiple-divides (align_before es (length es)) (end_before es (length es)) (omega (arith, align_before-positive es (length es)))
  size_whole (array ts n) =
      let l = element (layouts ts) 0 in
      times_divides l.align l.size n (first_whole ts)

  pub first_whole : (ts : Trees) → (element (layouts ts) 0).align ∣ (element (layouts ts) 0).size
  first_whole no_trees = dvd-zero 1
  first_whole (tree t ts) = size_whole t

-- ---- a struct of equal elements

module _ (l : Layout) (whole : l.align ∣ l.size) (n : ℕ) where
  there : (i : ℕ) → i < n → element (replicate n l) i ≡ l
  there i h = one_of_equal n i l nothing h

  at_once : (i : ℕ) → least_multiple l.align (i * l.size) ≡ i * l.size
  at_once i =
      least_multiple-same l.align (i * l.size) (mod-eq-zero_of_dvd l.align (times_divides l.align l.size i whole))

  start_from : (i : ℕ) → i < n → end_before (replicate n l) i ≡ i * l.size → start_of (replicate n l) i ≡ i * l.size
  start_from i h end =
      ap (λ e. least_multiple e.align (end_before (replicate n l) i)) (there i h) ∙ ap (least_multiple l.align) end ∙ at_once i

  end_of_equal : (i : ℕ) → i ≤ n → end_before (replicate n l) i ≡ i * l.size
  end_of_equal zero h = omega arith
  end_of_equal (suc i) h =
      let size : (element (replicate n l) i).size ≡ l.size = ap (λ e. e.size) (there i (omega arith)) in
      let more : suc i * l.size ≡ i * l.size + l.size = omega arith in
      omega (arith, start_from i (omega arith) (end_of_equal i (omega arith)), size, more)

  start_of_equal : (i : ℕ) → i < n → start_of (replicate n l) i ≡ i * l.size
  start_of_equal i h = start_from i h (end_of_equal i (omega arith))

  align_of_equal : 1 ≤ l.align → (i : ℕ) → suc i ≤ n → align_before (replicate n l) (suc i) ≡ l.align
  align_of_equal positive zero h =
      let align : (element (replicate n l) 0).align ≡ l.align = ap (λ e. e.align) (there 0 (omega arith)) in
      omega (arith, align, positive)
  align_of_equal positive (suc i) h =
      let align : (element (replicate n l) (suc i)).align ≡ l.align = ap (λ e. e.align) (there (suc i) (omega arith)) in
      let before = align_of_equal positive i (omega arith) in
      omega (arith, align, before)

  leaves_of_equal : (i : ℕ) → i ≤ n → leaves_before (replicate n l) i ≡ repeated l i
  leaves_of_equal zero h = refl
  leaves_of_equal (suc i) h =
      ap (λ ls. ls ++ map (moved (start_of (replicate n l) i)) (element (replicate n l) i).leaves) (leaves_of_equal i (omega arith)) ∙ ap (λ s. repeated l i ++ map (moved s) (element (replicate n l) i).leaves) (start_of_equal i (omega arith)) ∙ ap (λ e. repeated l i ++ map (moved (i * l.size)) e.leaves) (there i (omega arith))

-- what is laid out one after another, at the end of all
module _ (l : Layout) (positive : 1 ≤ l.align) (whole : l.align ∣ l.size) (m : ℕ) where
  struct_of_equal : (n : ℕ) → n ≡ suc m → struct_layout (replicate (suc m) l) ≡ array_layout l (suc m)
  struct_of_equal n is =
      let count : length (replicate (suc m) l) ≡ suc m = length_of_equal (suc m) l in
      let align = ap (align_before (replicate (suc m) l)) count ∙ align_of_equal l whole (suc m) positive m (omega arith) in
      let end = ap (end_before (replicate (suc m) l)) count ∙ end_of_equal l whole (suc m) (suc m) (omega arith) in
      let leaves = ap (leaves_before (replicate (suc m) l)) count ∙ leaves_of_equal l whole (suc m) (suc m) (omega arith) in
      let last = length (replicate (suc m) l) in
      let size : least_multiple (align_before (replicate (suc m) l) last) (end_before (replicate (suc m) l) last) ≡ suc m * l.size = ap (λ a. least_multiple a (end_before (replicate (suc m) l) last)) align ∙ ap (least_multiple l.align) end ∙ at_once l whole (suc m) (suc m) in
      λ i. record { size = size i; align = align i; leaves = leaves i }

pub struct_of_equals : (l : Layout) → 1 ≤ l.align → l.align ∣ l.size → (n : ℕ) → 0 < n → struct_layout (replicate n l) ≡ array_layout l n
struct_of_equals l positive whole zero h = absurd (omega arith)
struct_of_equals l positive whole (suc m) h = struct_of_equal l positive whole m (suc m) refl

-- ---- types

pub layouts_of_equal : (n : ℕ) (t : Tree) → layouts (trees_of (replicate n t)) ≡ replicate n (layout t)
layouts_of_equal zero t = refl
layouts_of_equal (suc n) t = ap (λ ls. layout t ∷ ls) (layouts_of_equal n t)

pub first_layout : (ts : Trees) → element (layouts ts) 0 ≡ layout (first_of ts)
first_layout no_trees = refl
first_layout (tree t ts) = refl

-- THE ARRAY IS LAID OUT AS THE STRUCT OF ITS ELEMENTS
pub array_is_struct : (ts : Trees) (n : ℕ) → 0 < n → layout (array ts n) ≡ layout (struct_of (replicate n (first_of ts)))
array_is_struct ts n h =
    let t = first_of ts in
    ap (λ l. array_layout l n) (first_layout ts) ∙ sym (struct_of_equals (layout t) (align_positive t) (size_whole t) n h) ∙ ap struct_layout (sym (layouts_of_equal n t))

pub array_is_struct_of_equals : ArrayIsStruct
array_is_struct_of_equals t n h = array_is_struct (trees_of (t ∷ [])) n h

-- also where there are none, but for the alignment
pub array_size : (ts : Trees) (n : ℕ) → size_of (array ts n) ≡ size_of (struct_of (replicate n (first_of ts)))
unfolding least_multiple
array_size ts zero = omega arith
array_size ts (suc n) = ap (λ l. l.size) (array_is_struct ts (suc n) (omega arith))

pub array_leaves : (ts : Trees) (n : ℕ) → leaves_of (array ts n) ≡ leaves_of (struct_of (replicate n (first_of ts)))
array_leaves ts zero = refl
array_leaves ts (suc n) = ap (λ l. l.leaves) (array_is_struct ts (suc n) (omega arith))

-- where element i of the struct starts
pub start_in_array : (t : Tree) (n i : ℕ) → i < n → start_of (layouts (trees_of (replicate n t))) i ≡ i * size_of t
start_in_array t n i h =
    ap (λ ls. start_of ls i) (layouts_of_equal n t) ∙ start_of_equal (layout t) (size_whole t) n i h

-- ---- an array among the elements of a struct

-- how far a struct is laid out
record Progress : Type 0 where
  end : ℕ
  align : ℕ
  leaves : List Leaf

abbrev step : Progress → Layout → Progress
step p l =
    record { end = least_multiple l.align p.end + l.size; align = max p.align l.align; leaves = p.leaves ++ map (moved (least_multiple l.align p.end)) l.leaves }

abbrev steps : Progress → List Layout → Progress
steps p [] = p
steps p (l ∷ ls) = steps (step p l) ls

abbrev begun : Progress
begun = record { end = 0; align = 1; leaves = [] }

abbrev finished : Progress → Layout
finished p =
    record { size = least_multiple p.align p.end; align = p.align; leaves = p.leaves }

abbrev steps_before : Progress → List Layout → ℕ → Progress
steps_before p ls zero = p
steps_before p ls (suc i) = step (steps_before p ls i) (element ls i)

abbrev before : List Layout → ℕ → Progress
before ls i =
    record { end = end_before ls i; align = align_before ls i; leaves = leaves_before ls i }

before_is : (ls : List Layout) (i : ℕ) → steps_before begun ls i ≡ before ls i
before_is ls zero = refl
before_is ls (suc i) = ap (λ p. step p (element ls i)) (before_is ls i)

one_before : (p : Progress) (l : Layout) (ls : List Layout) (i : ℕ) → steps_before p (l ∷ ls) (suc i) ≡ steps_before (step p l) ls i
one_before p l ls zero = refl
one_before p l ls (suc i) = ap (λ q. step q (element ls i)) (one_before p l ls i)

steps_are : (p : Progress) (ls : List Layout) → steps p ls ≡ steps_before p ls (length ls)
steps_are p [] = refl
steps_are p (l ∷ ls) = steps_are (step p l) ls ∙ sym (one_before p l ls (length ls))

struct_by_steps : (ls : List Layout) → struct_layout ls ≡ finished (steps begun ls)
struct_by_steps ls = ap finished (sym (steps_are begun ls ∙ before_is ls (length ls)))

steps_append : (p : Progress) (xs ys : List Layout) → steps p (xs ++ ys) ≡ steps (steps p xs) ys
steps_append p [] ys = refl
steps_append p (x ∷ xs) ys = steps_append (step p x) xs ys

pub moved_twice : (a b : ℕ) (ls : List Leaf) → map (moved a) (map (moved b) ls) ≡ map (moved (a + b)) ls
moved_twice a b [] = refl
moved_twice a b (l ∷ ls) =
    let same : a + (b + l.at) ≡ a + b + l.at = omega arith in
    ap (λ n. record { at = n; kind = l.kind } ∷ map (moved a) (map (moved b) ls)) same ∙ ap (λ ms. moved (a + b) l ∷ ms) (moved_twice a b ls)

pub moved_append : (a : ℕ) (xs ys : List Leaf) → map (moved a) (xs ++ ys) ≡ map (moved a) xs ++ map (moved a) ys
moved_append a [] ys = refl
moved_append a (x ∷ xs) ys = ap (λ ls. moved a x ∷ ls) (moved_append a xs ys)

pub moved_none : (ls : List Leaf) (k : ℕ) → k ≡ 0 → map (moved k) ls ≡ ls
moved_none [] k e = refl
moved_none (l ∷ ls) k e =
    let same : k + l.at ≡ l.at = omega arith in
    ap (λ n. record { at = n; kind = l.kind } ∷ map (moved k) ls) same ∙ ap (λ ms. l ∷ ms) (moved_none ls k e)

-- n equal elements one after another are one step of their array
module _ (l : Layout) (positive : 1 ≤ l.align) (whole : l.align ∣ l.size) (p : Progress) where
  abbrev from : ℕ
  from = least_multiple l.align p.end

  next_start : (n : ℕ) → least_multiple l.align (from + n * l.size) ≡ from + n * l.size
  next_start n =
      least_multiple-same l.align (from + n * l.size) (mod-eq-zero_of_dvd l.align (dvd-add l.align (least_multiple-divides l.align p.end positive) (times_divides l.align l.size n whole)))

  one_more : (n : ℕ) → 0 < n → step (step p (array_layout l n)) l ≡ step p (array_layout l (suc n))
  one_more n h =
      let start = next_start n in
      let end : least_multiple l.align (from + n * l.size) + l.size ≡ from + suc n * l.size = let more : suc n * l.size ≡ n * l.size + l.size = omega arith in omega (arith, start, more) in
      let align : max (max p.align l.align) l.align ≡ max p.align l.align = omega arith in
      let leaves : (p.leaves ++ map (moved from) (repeated l n)) ++ map (moved (least_multiple l.align (from + n * l.size))) l.leaves ≡ p.leaves ++ map (moved from) (repeated l (suc n)) =
      ap (λ s. (p.leaves ++ map (moved from) (repeated l n)) ++ map (moved s) l.leaves) start
      ∙ append_assoc p.leaves (map (moved from) (repeated l n)) (map (moved (from + n * l.size)) l.leaves)
      ∙ ap (λ ls. p.leaves ++ (map (moved from) (repeated l n) ++ ls)) (sym (moved_twice from (n * l.size) l.leaves))
      ∙ ap (λ ls. p.leaves ++ ls) (sym (moved_append from (repeated l n) (map (moved (n * l.size)) l.leaves))) in
      λ i. record { end = end i; align = align i; leaves = leaves i }

  first_one : step p l ≡ step p (array_layout l 1)
  first_one =
      let size : l.size ≡ 1 * l.size = omega arith in
      let leaves : l.leaves ≡ repeated l 1 = sym (moved_none l.leaves (0 * l.size) (omega arith)) in
      λ i. record { end = from + size i; align = max p.align l.align; leaves = p.leaves ++ map (moved from) (leaves i) }

  -- n more elements, after some
  more_steps : (n k : ℕ) → 0 < n → steps (step p (array_layout l n)) (replicate k l) ≡ step p (array_layout l (n + k))
  more_steps n zero h =
      let same : n ≡ n + 0 = omega arith in
      ap (λ m. step p (array_layout l m)) same
  more_steps n (suc k) h =
      let same : suc n + k ≡ n + suc k = omega arith in
      ap (λ q. steps q (replicate k l)) (one_more n h) ∙ more_steps (suc n) k (omega arith) ∙ ap (λ m. step p (array_layout l m)) same

  equal_steps : (n : ℕ) → 0 < n → steps p (replicate n l) ≡ step p (array_layout l n)
  equal_steps zero h = absurd (omega arith)
  equal_steps (suc k) h =
      let same : 1 + k ≡ suc k = omega arith in
      ap (λ q. steps q (replicate k l)) first_one ∙ more_steps 1 k (omega arith) ∙ ap (λ m. step p (array_layout l m)) same

layouts_append : (xs ys : List Tree) → layouts (trees_of (xs ++ ys)) ≡ layouts (trees_of xs) ++ layouts (trees_of ys)
layouts_append [] ys = refl
layouts_append (x ∷ xs) ys = ap (λ ls. layout x ∷ ls) (layouts_append xs ys)

steps_of : (xs ys : List Tree) → layout (struct_of (xs ++ ys)) ≡ finished (steps (steps begun (layouts (trees_of xs))) (layouts (trees_of ys)))
steps_of xs ys =
    ap struct_layout (layouts_append xs ys) ∙ struct_by_steps (layouts (trees_of xs) ++ layouts (trees_of ys)) ∙ ap finished (steps_append begun (layouts (trees_of xs)) (layouts (trees_of ys)))

pub array_is_its_elements : ArrayIsItsElements
array_is_its_elements xs ys t n h =
    let p = steps begun (layouts (trees_of xs)) in
    let l = layout t in
    let after = layouts (trees_of ys) in
    let equal = equal_steps l (align_positive t) (size_whole t) p n h in
    let there : steps p (layouts (trees_of (replicate n t ++ ys))) ≡ steps (step p (array_layout l n)) after =
    ap (steps p) (layouts_append (replicate n t) ys ∙ ap (λ ls. ls ++ after) (layouts_of_equal n t)) ∙ steps_append p (replicate n l) after ∙ ap (λ q. steps q after) equal in
    steps_of xs (array_of t n ∷ ys) ∙ sym (ap finished there) ∙ sym (steps_of xs (replicate n t ++ ys))
