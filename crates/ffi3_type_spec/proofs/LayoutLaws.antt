-- Every layout keeps its laws.
use Prim.Native.Nat.{◌∣◌}
use Rattle.std.proofs.Common.{◌≡◌, ℕ, zero, suc, ◌+◌, ◌*◌, ◌<◌, ◌≤◌, inl, inr, max, List, [], ◌∷◌, ◌++◌, map, length, refl, ap, sym, ◌∙◌, subst, arith}
use Rattle.std.specs.Prelude.{◌⊎◌, Some, None, slice_get, slice_index_or, option_and_then}
use Rattle.std.proofs.Math.Nat.{dvd-add, mul-dvd-mul_left}
use Rattle.std.proofs.lemmas.Nat.Gcd.{dvd_refl, dvd-zero, dvd_trans, le_of_dvd, dvd_of_mod-eq-zero, mod-eq-zero_of_dvd}
use Rattle.std.specs.List.{All, Contains}
use Rattle.std.proofs.lemmas.List.{get_or_default, get_or-map, length-map}
use Rattle.std.proofs.lemmas.List.Elements.{All-nil, All-cons, All-append, All-weaker, All-map, Contains-append_left, Contains-append_right}
use Rattle.std.proofs.lemmas.Bool.{cases_lt}
use Rattle.ffi3_type_spec.specs.Tree.{Tree, void, scalar, left_out, structure, Trees, no_trees, tree, tree_at, list_of, Scalar, u8, s8, u16, s16, u32, s32, u128, s128, float, x87, binary128, array, first_of, elements_of}
use Rattle.ffi3_type_spec.specs.Layout.{Layout, Leaf, layout, layouts, nothing, element, end_before, start_of, align_before, leaves_before, moved, least_multiple, struct_layout, scalar_size, scalar_room, scalar_layout, leaves_of, leaf_at, size_of, align_of, repeated, array_layout, offset_of}
use Rattle.ffi3_type_spec.specs.LayoutLaws.{leaf_end, offset_on, StandsOnPath, HasLeafAt, IsWellLaidOut, element_on}
use Rattle.ffi3_type_spec.proofs.Layouts.{least_multiple-above, scalar_size-bounds, scalar_size-room}
use Rattle.ffi3_type_spec.proofs.LeastMultiples.{least_multiple-divides, times_divides}
use Rattle.ffi3_type_spec.proofs.Arrays.{length_of_equal, one_of_equal}
use Rattle.ffi3_type_spec.proofs.StructLaws.{length_is, element_placed, greatest_alignment, least_size}
use Rattle.ffi3_type_spec.proofs.Faults.{element_is, no_element}

-- the alignments are powers of two
pub data IsPower : ℕ → Type 0 where
  one : IsPower 1
  twice : {a : ℕ} → IsPower a → IsPower (2 * a)

power_positive : (a : ℕ) → IsPower a → 0 < a
power_positive _ one = omega arith
power_positive _ (twice {a = b} p) = omega (arith, power_positive b p)

-- of two of them one divides the other
comparable : (a b : ℕ) → IsPower a → IsPower b → (a ∣ b) ⊎ (b ∣ a)
comparable _ b one q = inl (dvd_of_mod-eq-zero 1 (omega arith))
comparable _ _ (twice {a = c} p) one = inr (dvd_of_mod-eq-zero 1 (omega arith))
comparable _ _ (twice {a = c} p) (twice {a = d} q) =
    elim (comparable c d p q) [ inl e ↦ inl (mul-dvd-mul_left c 2 e) | inr e ↦ inr (mul-dvd-mul_left d 2 e) ]

max_power : (a b : ℕ) → IsPower a → IsPower b → IsPower (max a b)
max_power a b p q =
    elim (cases_lt a b) [
      | inl less ↦ let whole : b ≡ max a b = omega arith in subst IsPower whole q
      | inr at_least ↦ let whole : a ≡ max a b = omega arith in subst IsPower whole p
    ]

max_left : (a b : ℕ) → IsPower a → IsPower b → a ∣ max a b
max_left a b p q =
    elim (comparable a b p q) [
      | inl d ↦ let whole : b ≡ max a b = omega (arith, le_of_dvd (power_positive b q) d) in subst (λ n. a ∣ n) whole d
      | inr d ↦ let whole : a ≡ max a b = omega (arith, le_of_dvd (power_positive a p) d) in subst (λ n. a ∣ n) whole (dvd_refl a)
    ]

max_right : (a b : ℕ) → IsPower a → IsPower b → b ∣ max a b
max_right a b p q = let turned : max b a ≡ max a b = omega arith in subst (λ n. b ∣ n) turned (max_left b a q p)

scalar_power : (s : Scalar) → IsPower (scalar_room s)
scalar_power u8 = one
scalar_power s8 = one
scalar_power u16 = twice one
scalar_power s16 = twice one
scalar_power u32 = twice (twice one)
scalar_power s32 = twice (twice one)
scalar_power float = twice (twice one)
scalar_power u128 = twice (twice (twice (twice one)))
scalar_power s128 = twice (twice (twice (twice one)))
scalar_power x87 = twice (twice (twice (twice one)))
scalar_power binary128 = twice (twice (twice (twice one)))
scalar_power _ = twice (twice (twice one))

-- leaves from one place up to another
abbrev pub Rising : ℕ → List Leaf → ℕ → Type 0
Rising from [] to = from ≤ to
Rising from (l ∷ ls) to = (from ≤ l.at) × Rising (leaf_end l) ls to

-- a leaf that is aligned as its kind is, in a type of this alignment
abbrev pub IsAligned : ℕ → Leaf → Type 0
IsAligned align l = (scalar_room l.kind ∣ l.at) × (scalar_room l.kind ∣ align)

rising-further : (from : ℕ) (ls : List Leaf) (to further : ℕ) → to ≤ further → Rising from ls to → Rising from ls further
rising-further from [] to further h r = omega arith
rising-further from (l ∷ ls) to further h r = (r.0, rising-further (leaf_end l) ls to further h r.1)

rising-earlier : (earlier from : ℕ) (ls : List Leaf) (to : ℕ) → earlier ≤ from → Rising from ls to → Rising earlier ls to
rising-earlier earlier from [] to h r = omega arith
rising-earlier earlier from (l ∷ ls) to h r = (omega (arith, r.0), r.1)

rising-append : (from : ℕ) (xs : List Leaf) (middle : ℕ) (ys : List Leaf) (to : ℕ) → Rising from xs middle → Rising middle ys to → Rising from (xs ++ ys) to
rising-append from [] middle ys to r s = rising-earlier from middle ys to r s
rising-append from (x ∷ xs) middle ys to r s = (r.0, rising-append (leaf_end x) xs middle ys to r.1 s)

rising-moved : (by from : ℕ) (ls : List Leaf) (to : ℕ) → Rising from ls to → Rising (by + from) (map (moved by) ls) (by + to)
rising-moved by from [] to r = omega arith
rising-moved by from (l ∷ ls) to r =
    let same : by + leaf_end l ≡ by + l.at + scalar_size l.kind = omega arith in
    (omega (arith, r.0), subst (λ n. Rising n (map (moved by) ls) (by + to)) same (rising-moved by (leaf_end l) ls to r.1))

-- moved by a multiple of their type's alignment, in a type whose alignment is a multiple of it too
aligned-moved : (inner outer by : ℕ) (ls : List Leaf) → inner ∣ by → inner ∣ outer → All (IsAligned inner) ls → All (IsAligned outer) (map (moved by) ls)
aligned-moved inner outer by ls d e each =
    All-map (IsAligned outer) (moved by) ls (All-weaker (IsAligned inner) (λ l. IsAligned outer (moved by l)) (λ l a. let k = scalar_room l.kind in (dvd-add k (dvd_trans k a.1 d) a.0, dvd_trans k a.1 e)) ls each)

pub record IsWell (l : Layout) : Type 0 where
  pub power : IsPower l.align
  pub whole : l.align ∣ l.size
  pub rising : Rising 0 l.leaves l.size
  pub aligned : All (IsAligned l.align) l.leaves

-- a struct of elements that keep the laws
module _ (es : List Layout) (well : (k : ℕ) → IsWell (element es k)) where
  align_power : (n : ℕ) → IsPower (align_before es n)
  align_power zero = one
  align_power (suc n) = max_power (align_before es n) (element es n).align (align_power n) (well n).power

  align_divides : (k n : ℕ) → k < n → (element es k).align ∣ align_before es n
  align_divides k zero h = absurd (omega arith)
  align_divides k (suc n) h =
      elim (cases_lt k n) [
        | inl earlier ↦ dvd_trans (element es k).align (align_divides k n earlier) (max_left (align_before es n) (element es n).align (align_power n) (well n).power)
        | inr here ↦ let same : n ≡ k = omega arith in
            subst (λ j. (element es j).align ∣ align_before es (suc n)) same (max_right (align_before es n) (element es n).align (align_power n) (well n).power)
      ]

  rising_before : (n : ℕ) → Rising 0 (leaves_before es n) (end_before es n)
  rising_before zero = omega arith
  rising_before (suc n) =
      let start = start_of es n in
      let none : start + 0 ≡ start = omega arith in
      let there = subst (λ j. Rising j (map (moved start) (element es n).leaves) (start + (element es n).size)) none (rising-moved start 0 (element es n).leaves (element es n).size (well n).rising) in
      rising-append 0 (leaves_before es n) start (map (moved start) (element es n).leaves) (end_before es (suc n)) (rising-further 0 (leaves_before es n) (end_before es n) start (least_multiple-above (element es n).align (end_before es n)) (rising_before n)) there

  aligned_before : (n align : ℕ) → ((k : ℕ) → k < n → (element es k).align ∣ align) → All (IsAligned align) (leaves_before es n)
  aligned_before zero align h = All-nil (IsAligned align)
  aligned_before (suc n) align h =
      let start = start_of es n in
      let a = (element es n).align in
      All-append (IsAligned align) (leaves_before es n) (map (moved start) (element es n).leaves) (aligned_before n align (λ k below. h k (omega arith))) (aligned-moved a align start (element es n).leaves (least_multiple-divides a (end_before es n) (power_positive a (well n).power)) (h n (omega arith)) (well n).aligned)

  struct_well : IsWell (struct_layout es)
  struct_well =
      let n = length es in
      let a = align_before es n in
      record {
        power = align_power n;
        whole = least_multiple-divides a (end_before es n) (power_positive a (align_power n));
        rising = rising-further 0 (leaves_before es n) (end_before es n) (least_multiple a (end_before es n)) (least_multiple-above a (end_before es n)) (rising_before n);
        aligned = aligned_before n a (λ k below. align_divides k n below);
      }

-- an array of elements that keep them
module _ (l : Layout) (well : IsWell l) where
  rising_repeated : (n : ℕ) → Rising 0 (repeated l n) (n * l.size)
  rising_repeated zero = omega arith
  rising_repeated (suc n) =
      let start = n * l.size in
      let none : start + 0 ≡ start = omega arith in
      let more : start + l.size ≡ suc n * l.size = omega arith in
      let moved_there = rising-moved start 0 l.leaves l.size well.rising in
      let there = subst (λ j. Rising j (map (moved start) l.leaves) (start + l.size)) none moved_there in
      rising-append 0 (repeated l n) start (map (moved start) l.leaves) (suc n * l.size) (rising_repeated n) (subst (λ j. Rising start (map (moved start) l.leaves) j) more there)

  aligned_repeated : (n : ℕ) → All (IsAligned l.align) (repeated l n)
  aligned_repeated zero = All-nil (IsAligned l.align)
  aligned_repeated (suc n) =
      All-append (IsAligned l.align) (repeated l n) (map (moved (n * l.size)) l.leaves) (aligned_repeated n) (aligned-moved l.align l.align (n * l.size) l.leaves (times_divides l.align l.size n well.whole) (dvd_refl l.align) well.aligned)

  array_well : (n : ℕ) → IsWell (array_layout l n)
  array_well n =
      record { power = well.power; whole = times_divides l.align l.size n well.whole; rising = rising_repeated n; aligned = aligned_repeated n }

nothing_well : IsWell nothing
nothing_well = record { power = one; whole = dvd-zero 1; rising = omega arith; aligned = All-nil (IsAligned 1) }

scalar_well : (s : Scalar) → IsWell (scalar_layout s)
scalar_well s =
    record { power = scalar_power s; whole = dvd_refl (scalar_room s); rising = (omega arith, omega (arith, scalar_size-room s)); aligned = All-cons (IsAligned (scalar_room s)) _ [] (dvd-zero (scalar_room s), dvd_refl (scalar_room s)) (All-nil (IsAligned (scalar_room s))) }

mutual
  pub tree_well : (t : Tree) → IsWell (layout t)
  tree_well void = nothing_well
  tree_well (scalar s) = scalar_well s
  tree_well (left_out k) = nothing_well
  tree_well (structure ts) = struct_well (layouts ts) (trees_well ts)
  tree_well (array ts n) = array_well (element (layouts ts) 0) (trees_well ts 0) n

  pub trees_well : (ts : Trees) (k : ℕ) → IsWell (element (layouts ts) k)
  trees_well no_trees k = nothing_well
  trees_well (tree t ts) zero = tree_well t
  trees_well (tree t ts) (suc k) = trees_well ts k

-- leaf by leaf
rising-end : (from : ℕ) (ls : List Leaf) (to : ℕ) → Rising from ls to → from ≤ to
rising-end from [] to r = r
rising-end from (l ∷ ls) to r = omega (arith, r.0, rising-end (leaf_end l) ls to r.1)

pub rising-inside : (from : ℕ) (ls : List Leaf) (to i : ℕ) (d : Leaf) → i < length ls → Rising from ls to → (from ≤ (slice_index_or ls i d).at) × (leaf_end (slice_index_or ls i d) ≤ to)
rising-inside from [] to i d h r = absurd (omega arith)
rising-inside from (l ∷ ls) to zero d h r = (r.0, rising-end (leaf_end l) ls to r.1)
rising-inside from (l ∷ ls) to (suc i) d h r =
    let inner = rising-inside (leaf_end l) ls to i d (omega arith) r.1 in
    (omega (arith, inner.0, r.0), inner.1)

-- there is a byte for each leaf
pub rising-count : (from : ℕ) (ls : List Leaf) (to : ℕ) → Rising from ls to → from + length ls ≤ to
rising-count from [] to r = omega (arith, r)
rising-count from (l ∷ ls) to r = omega (arith, r.0, (scalar_size-bounds l.kind).0, rising-count (leaf_end l) ls to r.1)

rising-order : (from : ℕ) (ls : List Leaf) (to i j : ℕ) (d : Leaf) → i < j → j < length ls → Rising from ls to → leaf_end (slice_index_or ls i d) ≤ (slice_index_or ls j d).at
rising-order from [] to i j d h k r = absurd (omega arith)
rising-order from (l ∷ ls) to i zero d h k r = absurd (omega arith)
rising-order from (l ∷ ls) to zero (suc j) d h k r = (rising-inside (leaf_end l) ls to j d (omega arith) r.1).0
rising-order from (l ∷ ls) to (suc i) (suc j) d h k r = rising-order (leaf_end l) ls to i j d (omega arith) (omega arith) r.1

-- the paths of leaves: a leaf of element k is one of the whole
stands-moved : (t : Tree) (k start : ℕ) (ls : List Leaf) → k < length (elements_of t) → offset_of t k ≡ start → All (StandsOnPath (tree_at (elements_of t) k)) ls → All (StandsOnPath t) (map (moved start) ls)
stands-moved t k start ls h s each =
    All-map (StandsOnPath t) (moved start) ls (All-weaker (StandsOnPath (tree_at (elements_of t) k)) (λ l. StandsOnPath t (moved start l)) one_of_whole ls each)
  where
    one_of_whole : (l : Leaf) → StandsOnPath (tree_at (elements_of t) k) l → StandsOnPath t (moved start l)
    one_of_whole l e =
        let leads = ap (option_and_then (element_on e.path)) (element_is (elements_of t) k h) ∙ e.leads in
        let starts : start + l.at ≡ offset_of t k + offset_on e.path (tree_at (elements_of t) k) = omega (arith, s, e.starts) in
        record { path = k ∷ e.path; leads = leads; starts = starts }

stands_before : (ts : Trees) → ((k : ℕ) → All (StandsOnPath (tree_at (list_of ts) k)) (element (layouts ts) k).leaves) → (n : ℕ) → n ≤ length (list_of ts) → All (StandsOnPath (structure ts)) (leaves_before (layouts ts) n)
stands_before ts each zero h = All-nil (StandsOnPath (structure ts))
stands_before ts each (suc n) h =
    All-append (StandsOnPath (structure ts)) (leaves_before (layouts ts) n) (map (moved (start_of (layouts ts) n)) (element (layouts ts) n).leaves) (stands_before ts each n (omega arith)) (stands-moved (structure ts) n (start_of (layouts ts) n) (element (layouts ts) n).leaves (omega arith) refl (each n))

stands_repeated : (ts : Trees) (n : ℕ) → All (StandsOnPath (first_of ts)) (element (layouts ts) 0).leaves → (m : ℕ) → m ≤ n → All (StandsOnPath (array ts n)) (repeated (element (layouts ts) 0) m)
stands_repeated ts n each zero h = All-nil (StandsOnPath (array ts n))
stands_repeated ts n each (suc m) h =
    let l = element (layouts ts) 0 in
    let count : length (elements_of (array ts n)) ≡ n = length_of_equal n (first_of ts) in
    let here : tree_at (elements_of (array ts n)) m ≡ first_of ts = one_of_equal n m (first_of ts) void (omega arith) in
    All-append (StandsOnPath (array ts n)) (repeated l m) (map (moved (m * l.size)) l.leaves) (stands_repeated ts n each m (omega arith)) (stands-moved (array ts n) m (m * l.size) l.leaves (omega (arith, count, h)) refl (subst (λ t. All (StandsOnPath t) l.leaves) (sym here) each))

mutual
  tree_stands : (t : Tree) → All (StandsOnPath t) (leaves_of t)
  tree_stands void = All-nil (StandsOnPath void)
  tree_stands (scalar s) = All-cons (StandsOnPath (scalar s)) _ [] (record { path = []; leads = refl; starts = refl }) (All-nil (StandsOnPath (scalar s)))
  tree_stands (left_out k) = All-nil (StandsOnPath (left_out k))
  tree_stands (structure ts) =
      stands_before ts (trees_stands ts) (length (layouts ts)) (omega (arith, length_is ts))
  tree_stands (array ts n) = stands_repeated ts n (trees_stands ts 0) n (omega arith)

  trees_stands : (ts : Trees) (k : ℕ) → All (StandsOnPath (tree_at (list_of ts) k)) (element (layouts ts) k).leaves
  trees_stands no_trees k = All-nil (StandsOnPath void)
  trees_stands (tree t ts) zero = tree_stands t
  trees_stands (tree t ts) (suc k) = trees_stands ts k

-- ---- every scalar is a leaf

-- a leaf of the list has this offset and kind
abbrev Among : ℕ → Scalar → List Leaf → Type 0
Among at s ls = Contains ls (record { at = at; kind = s })

among-moved : (by at : ℕ) (s : Scalar) (ls : List Leaf) → Among at s ls → Among (by + at) s (map (moved by) ls)
among-moved by at s ls h = (h.0, omega (arith, h.1, length-map ls (moved by)), get_or-map (moved by) ls h.0 _ _ h.1 ∙ ap (moved by) h.2)

among-before : (es : List Layout) (k n at : ℕ) (s : Scalar) → k < n → Among at s (element es k).leaves → Among (start_of es k + at) s (leaves_before es n)
among-before es k zero at s h there = absurd (omega arith)
among-before es k (suc n) at s h there =
    elim (cases_lt k n) [
      | inl earlier ↦ Contains-append_left (leaves_before es n) _ _ (among-before es k n at s earlier there)
      | inr here ↦ let same : k ≡ n = omega arith in
          Contains-append_right (leaves_before es n) _ _ (subst (λ (j : ℕ). Among (start_of es k + at) s (map (moved (start_of es j)) (element es j).leaves)) same (among-moved (start_of es k) at s (element es k).leaves there))
    ]

among-repeated : (l : Layout) (k n at : ℕ) (s : Scalar) → k < n → Among at s l.leaves → Among (k * l.size + at) s (repeated l n)
among-repeated l k zero at s h there = absurd (omega arith)
among-repeated l k (suc n) at s h there =
    elim (cases_lt k n) [
      | inl earlier ↦ Contains-append_left (repeated l n) _ _ (among-repeated l k n at s earlier there)
      | inr here ↦ let same : k ≡ n = omega arith in
          Contains-append_right (repeated l n) _ _ (subst (λ (j : ℕ). Among (k * l.size + at) s (map (moved (j * l.size)) l.leaves)) same (among-moved (k * l.size) at s l.leaves there))
    ]

-- an element of an array on a path is one of its element type, and has a number below the count
in_element : (ts : Trees) (n k : ℕ) (path : List ℕ) (t : Tree) → element_on (k ∷ path) (array ts n) ≡ Some t → (k < n) × (element_on path (first_of ts) ≡ Some t)
in_element ts n k path t e =
    let count : length (elements_of (array ts n)) ≡ n = length_of_equal n (first_of ts) in
    elim (cases_lt k n) [
      | inl below ↦ let here = element_is (elements_of (array ts n)) k (omega (arith, count, below)) ∙ ap Some (one_of_equal n k (first_of ts) void below) in
          (below, ap (option_and_then (element_on path)) (sym here) ∙ e)
      | inr beyond ↦ let none : None ≡ Some t = ap (option_and_then (element_on path)) (sym (no_element (elements_of (array ts n)) k (omega (arith, count, beyond)))) ∙ e in absurd (cc)
    ]

mutual
  tree_there : (t : Tree) (path : List ℕ) (s : Scalar) → element_on path t ≡ Some (scalar s) → Among (offset_on path t) s (leaves_of t)
  tree_there (scalar r) [] s h = (0, omega arith, cc)
  tree_there (structure ts) (k ∷ path) s h =
      let inside = trees_there ts k path s h in
      among-before (layouts ts) k (length (layouts ts)) (offset_on path (tree_at (list_of ts) k)) s inside.0 inside.1
  tree_there (array ts n) (k ∷ path) s h =
      let l = element (layouts ts) 0 in
      let inside = in_element ts n k path (scalar s) h in
      let here : first_of ts ≡ tree_at (elements_of (array ts n)) k = sym (one_of_equal n k (first_of ts) void inside.0) in
      let there = among-repeated l k n (offset_on path (first_of ts)) s inside.0 (first_there ts path s inside.1) in
      subst (λ t. Among (k * l.size + offset_on path t) s (repeated l n)) here there
  tree_there void [] s h = cc
  tree_there (left_out k) [] s h = cc
  tree_there _ _ s h = cc

  first_there : (ts : Trees) (path : List ℕ) (s : Scalar) → element_on path (first_of ts) ≡ Some (scalar s) → Among (offset_on path (first_of ts)) s (element (layouts ts) 0).leaves
  first_there no_trees [] s h = cc
  first_there no_trees (k ∷ path) s h = cc
  first_there (tree t ts) path s h = tree_there t path s h

  trees_there : (ts : Trees) (k : ℕ) (path : List ℕ) (s : Scalar) → option_and_then (element_on path) (slice_get (list_of ts) k) ≡ Some (scalar s) → (k < length (layouts ts)) × Among (offset_on path (tree_at (list_of ts) k)) s (element (layouts ts) k).leaves
  trees_there no_trees k path s h = cc
  trees_there (tree t ts) zero path s h = (omega arith, tree_there t path s h)
  trees_there (tree t ts) (suc k) path s h =
      let inside = trees_there ts k path s h in
      (omega (arith, inside.0), inside.1)

leaf_there : (t : Tree) (path : List ℕ) (s : Scalar) → element_on path t ≡ Some (scalar s) → HasLeafAt t (offset_on path t) s
leaf_there t path s h =
    let found = tree_there t path s h in
    let is = get_or_default (leaves_of t) found.0 _ _ found.1 ∙ found.2 in
    record { number = found.0; in_range = found.1; starts = ap (λ (l : Leaf). l.at) is; is = ap (λ (l : Leaf). l.kind) is }

pub well_laid_out : (t : Tree) → IsWellLaidOut t
well_laid_out t =
    let well = tree_well t in
    let ls = leaves_of t in
    let d : Leaf = record { at = 0; kind = u8 } in
    record {
      placed = λ i h. element_placed t i h;
      greatest = λ h. greatest_alignment t h;
      least = λ h. least_size t h;
      inside = λ i h. (rising-inside 0 ls (size_of t) i d h well.rising).1;
      in_order = λ i j h k. rising-order 0 ls (size_of t) i j d h k well.rising;
      aligned = λ i h. mod-eq-zero_of_dvd (scalar_room (leaf_at t i).kind) (well.aligned i d h).0;
      summed = λ i h. tree_stands t i d h;
      complete = λ path s h. leaf_there t path s h;
      whole = mod-eq-zero_of_dvd (align_of t) well.whole;
    }
