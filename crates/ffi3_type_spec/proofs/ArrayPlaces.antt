-- An array by its element type: size, alignment, offsets and leaves by arithmetic, and that it is without fault.
use Rattle.std.proofs.Common.{◌≡◌, ℕ, zero, suc, ◌+◌, ◌*◌, ◌-◌, ◌/◌, ◌%◌, ◌<◌, ◌≤◌, ◌≢◌, inl, inr, true, false, List, [], ◌∷◌, map, length, refl, ap, sym, ◌∙◌, subst, arith}
use Rattle.std.specs.Prelude.{slice_index_or}
use Rattle.std.proofs.lemmas.Bool.{cases_lt}
use Rattle.std.proofs.lemmas.Nat.{mul-le, div-add-mod'}
use Rattle.std.proofs.Math.Nat.{mod-lt}
use Rattle.std.proofs.lemmas.List.{get_or-map, get_or_append_left, get_or-append_right}
use Rattle.ffi3_type_spec.specs.declared.limits.TheConstants.{LARGEST_TYPE, DEEPEST_NESTING}
use Rattle.ffi3_type_spec.specs.declared.Role.{Role}
use Rattle.ffi3_type_spec.specs.declared.Role.TheVariants.{AsElement}
use Rattle.ffi3_type_spec.specs.Tree.{Tree, array, trees_of, tree_at, elements_of, first_of, list_of-trees_of, u8}
use Rattle.ffi3_type_spec.specs.Layout.{Layout, Leaf, layouts, element, size_of, align_of, leaves_of, leaf_at, offset_of, repeated, moved}
use Rattle.ffi3_type_spec.specs.Fault.{Fault, bad_typedef, too_large, too_deep, misshapen, is_misshapen, takes, HasNoFault, IsFirstFault, IsLaidOut, out_of_place}
use Rattle.ffi3_type_spec.proofs.Layouts.{element-layouts}
use Rattle.ffi3_type_spec.proofs.Leaves.{repeated-step}
use Rattle.ffi3_type_spec.proofs.Faults.{fault_deeper, part_is_right, right_anywhere, elements_right, first_bad, first_deep, first_in_part, right_by_parts, first_large}
use Rattle.ffi3_type_spec.proofs.Arrays.{one_of_equal}

pub laid_out : (outer : ℕ) (role : Role) (t : Tree) → HasNoFault outer role t → IsLaidOut t
laid_out outer role t h =
    right_anywhere 0 role t (λ path f fault. h path f (fault_deeper 0 outer role t path f (omega arith) fault))

-- ---- the leaves of an array

pub count_repeated : (l : Layout) (n : ℕ) → length (repeated l n) ≡ n * length l.leaves
count_repeated l zero = omega arith
count_repeated l (suc n) =
    let more : suc n * length l.leaves ≡ n * length l.leaves + length l.leaves = omega arith in
    omega (arith, repeated-step l n, count_repeated l n, more)

-- leaf i is leaf r of element q
pub one_repeated : (l : Layout) (n q r i : ℕ) (d : Leaf) → q < n → r < length l.leaves → i ≡ q * length l.leaves + r → slice_index_or (repeated l n) i d ≡ moved (q * l.size) (slice_index_or l.leaves r d)
one_repeated l zero q r i d h below is = absurd (omega arith)
one_repeated l (suc n) q r i d h below is =
    let tail = map (moved (n * l.size)) l.leaves in
    let count = count_repeated l n in
    elim (cases_lt q n) [
      | inl earlier ↦ let less : suc q * length l.leaves ≤ n * length l.leaves = mul-le (suc q) (length l.leaves) n (length l.leaves) (omega arith) (omega arith) in
          let more : suc q * length l.leaves ≡ q * length l.leaves + length l.leaves = omega arith in
          get_or_append_left (repeated l n) tail d i (omega (arith, count, less, more, is, below)) ∙ one_repeated l n q r i d earlier below is
      | inr last ↦ let same : q ≡ n = omega arith in
          let here : i ≡ n * length l.leaves + r = is ∙ ap (λ k. k * length l.leaves + r) same in
          let from : n * length l.leaves ≤ i = omega (arith, here) in
          let rest : i - n * length l.leaves ≡ r = omega (arith, here) in
          get_or-append_right (repeated l n) tail (n * length l.leaves) i d count from ∙ ap (λ k. slice_index_or tail k d) rest ∙ get_or-map (moved (n * l.size)) l.leaves r d d below ∙ ap (λ k. moved (k * l.size) (slice_index_or l.leaves r d)) (sym same)
    ]

-- which element and which leaf of it number i is
pub record Lies (n each i : ℕ) : Type 0 where
  pub some : 0 < each
  pub number : i / each < n
  pub rest : i % each < each
  pub is : i ≡ i / each * each + i % each

pub lies_in_element : (n each i : ℕ) → i < n * each → Lies n each i
lies_in_element n zero i h = let none : n * 0 ≡ 0 = omega arith in absurd (omega (arith, none, h))
lies_in_element n (suc k) i h =
    let each = suc k in
    let whole = div-add-mod' i each in
    record {
      some = omega arith;
      number = elim (cases_lt (i / each) n) [
        | inl below ↦ below
        | inr beyond ↦ let less : n * each ≤ i / each * each = mul-le n each (i / each) each beyond (omega arith) in absurd (omega (arith, less, whole, h))
      ];
      rest = mod-lt i (omega arith);
      is = omega (arith, whole);
    }

-- ---- an array over a list of types

module _ (ts : List Tree) (n : ℕ) where
  pub array_size_is : size_of (array (trees_of ts) n) ≡ n * size_of (tree_at ts 0)
  array_size_is = ap (λ l. n * l.size) (element-layouts ts 0)

  pub array_align_is : align_of (array (trees_of ts) n) ≡ align_of (tree_at ts 0)
  array_align_is = ap (λ l. l.align) (element-layouts ts 0)

  pub array_count_is : length (leaves_of (array (trees_of ts) n)) ≡ n * length (leaves_of (tree_at ts 0))
  array_count_is =
      count_repeated (element (layouts (trees_of ts)) 0) n ∙ ap (λ l. n * length l.leaves) (element-layouts ts 0)

  pub array_offset_is : (i : ℕ) → offset_of (array (trees_of ts) n) i ≡ i * size_of (tree_at ts 0)
  array_offset_is i = ap (λ l. i * l.size) (element-layouts ts 0)

  pub array_leaf_is : (q r i : ℕ) → q < n → r < length (leaves_of (tree_at ts 0)) → i ≡ q * length (leaves_of (tree_at ts 0)) + r → leaf_at (array (trees_of ts) n) i ≡ moved (q * size_of (tree_at ts 0)) (leaf_at (tree_at ts 0) r)
  array_leaf_is q r i h below is =
      let d : Leaf = record { at = 0; kind = u8 } in
      let l = element (layouts (trees_of ts)) 0 in
      let count = ap (λ k. length k.leaves) (element-layouts ts 0) in
      let there : i ≡ q * length l.leaves + r = is ∙ ap (λ k. q * k + r) (sym count) in
      one_repeated l n q r i d h (omega (arith, count, below)) there ∙ ap (λ k. moved (q * k.size) (slice_index_or k.leaves r d)) (element-layouts ts 0)

  -- where element i ends, by the size of one
  pub element_in_array : (i size : ℕ) → size ≡ size_of (tree_at ts 0) → i < n → i * size + size ≤ size_of (array (trees_of ts) n)
  element_in_array i size is h =
      let less : suc i * size ≤ n * size = mul-le (suc i) size n size (omega arith) (omega arith) in
      let more : suc i * size ≡ i * size + size = omega arith in
      let whole : size_of (array (trees_of ts) n) ≡ n * size = array_size_is ∙ ap (λ k. n * k) (sym is) in
      omega (arith, less, more, whole)

  -- the elements of an array, as a list
  pub array_elements : (i : ℕ) → i < n → tree_at (elements_of (array (trees_of ts) n)) i ≡ tree_at ts 0
  array_elements i h =
      one_of_equal n i (first_of (trees_of ts)) _ h ∙ ap (λ us. tree_at us 0) (list_of-trees_of ts)

-- leaf i, where element type, size and number of leaves are known
pub array_leaf_there : (ts : List Tree) (n i : ℕ) (t : Tree) (size each : ℕ) → t ≡ tree_at ts 0 → size ≡ size_of t → each ≡ length (leaves_of t) → Lies n each i → leaf_at (array (trees_of ts) n) i ≡ moved (i / each * size) (leaf_at t (i % each))
array_leaf_there ts n i t size each is s e here =
    let one : each ≡ length (leaves_of (tree_at ts 0)) = e ∙ ap (λ u. length (leaves_of u)) is in
    let there : i ≡ i / each * length (leaves_of (tree_at ts 0)) + i % each = here.is ∙ ap (λ k. i / each * k + i % each) one in
    array_leaf_is ts n (i / each) (i % each) i here.number (omega (arith, one, here.rest)) there ∙ ap (λ k. moved (i / each * k) (leaf_at (tree_at ts 0) (i % each))) (sym (s ∙ ap size_of is)) ∙ ap (λ u. moved (i / each * size) (leaf_at u (i % each))) (sym is)

-- an array without fault has one element type and some elements
pub array_is_shaped : (outer : ℕ) (role : Role) (ts : List Tree) (n : ℕ) → HasNoFault outer role (array (trees_of ts) n) → (length ts ≡ 1) × (0 < n)
array_is_shaped outer role (t ∷ []) (suc n) h = (refl, omega arith)
array_is_shaped outer role _ _ h = absurd (h [] bad_typedef (misshapen refl refl))

-- and its element type has a layout
pub array_element_is_right : (role : Role) (ts : List Tree) (n : ℕ) → HasNoFault 0 role (array (trees_of ts) n) → IsLaidOut (tree_at ts 0)
array_element_is_right role ts n h =
    let shape = array_is_shaped 0 role ts n h in
    let some : 0 < length ts = omega (arith, shape.0) in
    subst (λ us. IsLaidOut (tree_at us 0)) (list_of-trees_of ts) (part_is_right role (array (trees_of ts) n) h 0 (rw list_of-trees_of some))

-- ---- the first fault of an array

shaped : (ts : List Tree) (n : ℕ) → length ts ≡ 1 → 0 < n → is_misshapen (array (trees_of ts) n) ≡ false
shaped (t ∷ []) (suc n) one some = refl
shaped _ _ one some = absurd (omega arith)

many : (ts : List Tree) (n : ℕ) → length ts ≢ 1 → is_misshapen (array (trees_of ts) n) ≡ true
many [] n other = refl
many (t ∷ []) n other = absurd (other refl)
many (t ∷ u ∷ us) n other = refl

none_counted : (ts : List Tree) → is_misshapen (array (trees_of ts) 0) ≡ true
none_counted [] = refl
none_counted (t ∷ []) = refl
none_counted (t ∷ u ∷ us) = refl

module _ {outer : ℕ} {role : Role} (ts : List Tree) (n : ℕ) where
  pub array_too_deep : DEEPEST_NESTING < outer + 1 → IsFirstFault outer role (array (trees_of ts) n) [] too_deep
  array_too_deep deep = first_deep (array (trees_of ts) n) refl deep

  module _ (shallow : outer < DEEPEST_NESTING) where
    pub array_out_of_place : takes role (array (trees_of ts) n) ≡ false → IsFirstFault outer role (array (trees_of ts) n) [] bad_typedef
    array_out_of_place bad = first_bad (array (trees_of ts) n) shallow (out_of_place refl bad)

    pub array_of_many : length ts ≢ 1 → IsFirstFault outer role (array (trees_of ts) n) [] bad_typedef
    array_of_many other = first_bad (array (trees_of ts) n) shallow (misshapen refl (many ts n other))

    pub array_of_none : n ≡ 0 → IsFirstFault outer role (array (trees_of ts) n) [] bad_typedef
    array_of_none none =
        subst (λ k. IsFirstFault outer role (array (trees_of ts) k) [] bad_typedef) (sym none) (first_bad (array (trees_of ts) 0) shallow (misshapen refl (none_counted ts)))

    module _ (placed : takes role (array (trees_of ts) n) ≡ true) (one : length ts ≡ 1) (some : 0 < n) where
      pub array_first_inside : (i : ℕ) (path : List ℕ) (f : Fault) → i < length ts → ((j : ℕ) → j < i → HasNoFault (outer + 1) AsElement (tree_at ts j)) → IsFirstFault (outer + 1) AsElement (tree_at ts i) path f → IsFirstFault outer role (array (trees_of ts) n) (i ∷ path) f
      array_first_inside i path f below right first =
          let same = sym (list_of-trees_of ts) in
          first_in_part (array (trees_of ts) n) refl shallow placed (shaped ts n one some) i path f (subst (λ us. i < length us) same below) (subst (λ us. (j : ℕ) → j < i → HasNoFault (outer + 1) AsElement (tree_at us j)) same right) (subst (λ us. IsFirstFault (outer + 1) AsElement (tree_at us i) path f) same first)

      module _ (right : (i : ℕ) → i < length ts → HasNoFault (outer + 1) AsElement (tree_at ts i)) where
        pub array_is_right : size_of (array (trees_of ts) n) ≤ LARGEST_TYPE → HasNoFault outer role (array (trees_of ts) n)
        array_is_right fits =
            right_by_parts (array (trees_of ts) n) refl shallow placed (shaped ts n one some) (elements_right (outer + 1) ts right) fits

        pub array_too_large : LARGEST_TYPE < size_of (array (trees_of ts) n) → IsFirstFault outer role (array (trees_of ts) n) [] (too_large (size_of (array (trees_of ts) n)))
        array_too_large large =
            first_large (array (trees_of ts) n) refl shallow placed (shaped ts n one some) (elements_right (outer + 1) ts right) large
