-- The value of as many bytes as a type has fits the type.
use Rattle.std.specs.Prelude.{◌==◌}
use Rattle.std.proofs.Common.{◌≡◌, ℕ, zero, suc, ◌+◌, ◌*◌, ◌<◌, ◌≤◌, true, List, [], length, replicate, refl, subst, arith}
use Rattle.std.proofs.lemmas.Nat.{mul-le}
use Rattle.ffi3_type_spec.specs.declared.Role.TheVariants.{Anywhere}
use Rattle.ffi3_type_spec.specs.Tree.{Tree, void, scalar, left_out, structure, array, Trees, no_trees, tree, list_of, trees_of, tree_at, trees_of-list_of}
use Rattle.ffi3_type_spec.specs.Layout.{Layout, layouts, size_of, start_of}
use Rattle.ffi3_type_spec.specs.Fault.{bad_typedef, left_out_type, left_out_kind, misshapen, IsLaidOut}
use Rattle.ffi3_type_spec.specs.Value.{ValueTree, value_in, values_in, first_value_in, repeated_values, part, fits, all_fit}
use Rattle.ffi3_type_spec.proofs.Faults.{part_is_right}
use Rattle.ffi3_type_spec.proofs.Parts.{length_part}
use Rattle.ffi3_type_spec.proofs.Significant.{length-significant}
use Rattle.ffi3_type_spec.proofs.Tests.{both}
use Rattle.ffi3_type_spec.proofs.Values.{element_within}

same_count : (n m : ℕ) → n ≡ m → (n == m) ≡ true
same_count n m e = search (arith, e)

-- each element lies within the struct
room_in : (ts : Trees) (i : ℕ) → i < length (list_of ts) → start_of (layouts ts) i + size_of (tree_at (list_of ts) i) ≤ size_of (structure ts)
room_in ts i below =
    let Room : Trees → Type 0 = λ us. start_of (layouts us) i + size_of (tree_at (list_of ts) i) ≤ size_of (structure us) in
    subst Room (trees_of-list_of ts) (element_within (list_of ts) i below)

room_within : (ts : Trees) (bytes : List ℕ) → length bytes ≡ size_of (structure ts) → (i : ℕ) → i < length (list_of ts) → start_of (layouts ts) (0 + i) + size_of (tree_at (list_of ts) i) ≤ length bytes
room_within ts bytes n i below =
    let from_zero : i ≡ 0 + i = omega arith in
    let room : start_of (layouts ts) i + size_of (tree_at (list_of ts) i) ≤ length bytes = omega (arith, n, room_in ts i below) in
    subst (λ j. start_of (layouts ts) j + size_of (tree_at (list_of ts) i) ≤ length bytes) from_zero room

-- each element of an array lies within its bytes
room_in_array : (size n : ℕ) (bytes : List ℕ) → length bytes ≡ n * size → (k : ℕ) → k < n → (0 + k) * size + size ≤ length bytes
room_in_array size n bytes whole k below =
    let less : suc k * size ≤ n * size = mul-le (suc k) size n size (omega arith) (omega arith) in
    let more : suc k * size ≡ k * size + size = omega arith in
    let from_zero : k ≡ 0 + k = omega arith in
    subst (λ j. j * size + size ≤ length bytes) from_zero (omega (arith, less, more, whole))

-- the values of an array's elements from number i on fit, where each that is read fits
repeated_fit : (t : Tree) (read : List ℕ → ValueTree) (size i n : ℕ) (bytes : List ℕ) → ((b : List ℕ) → length b ≡ size → fits t (read b) ≡ true) → ((k : ℕ) → k < n → (i + k) * size + size ≤ length bytes) → all_fit (trees_of (replicate n t)) (repeated_values read size i n bytes) ≡ true
repeated_fit t read size i zero bytes each room = refl
repeated_fit t read size i (suc n) bytes each room =
    let at_zero : i + 0 ≡ i = omega arith in
    let room_here : i * size + size ≤ length bytes = subst (λ j. j * size + size ≤ length bytes) at_zero (room 0 (omega arith)) in
    let first = each (part bytes (i * size) size) (length_part bytes (i * size) size room_here) in
    let room_later : (k : ℕ) → k < n → (i + 1 + k) * size + size ≤ length bytes = λ k below. let next : i + suc k ≡ i + 1 + k = omega arith in
    subst (λ j. j * size + size ≤ length bytes) next (room (suc k) (omega arith)) in
    both _ _ first (repeated_fit t read size (i + 1) n bytes each room_later)

mutual
  -- the value of as many bytes as the type has
  pub value_fits : (t : Tree) (bytes : List ℕ) → IsLaidOut t → length bytes ≡ size_of t → fits t (value_in t bytes) ≡ true
  value_fits void bytes right n = refl
  value_fits (scalar s) bytes right n = same_count _ _ (length-significant s bytes n)
  value_fits (left_out k) bytes right n = absurd (right [] (left_out_type (left_out k)) (left_out_kind refl))
  value_fits (structure ts) bytes right n =
      values_fit ts (layouts ts) 0 bytes (part_is_right Anywhere (structure ts) right) (room_within ts bytes n)
  value_fits (array no_trees m) bytes right n = absurd (right [] bad_typedef (misshapen refl refl))
  value_fits (array (tree t ts) m) bytes right n =
      let element_right : IsLaidOut t = part_is_right Anywhere (array (tree t ts) m) right 0 (omega arith) in
      repeated_fit t (first_value_in (tree t ts)) (size_of t) 0 m bytes (λ b sized. value_fits t b element_right sized) (room_in_array (size_of t) m bytes n)

  values_fit : (ts : Trees) (es : List Layout) (i : ℕ) (bytes : List ℕ) → ((k : ℕ) → k < length (list_of ts) → IsLaidOut (tree_at (list_of ts) k)) → ((k : ℕ) → k < length (list_of ts) → start_of es (i + k) + size_of (tree_at (list_of ts) k) ≤ length bytes) → all_fit ts (values_in ts es i bytes) ≡ true
  values_fit no_trees es i bytes right room = refl
  values_fit (tree t ts) es i bytes right room =
      let at_zero : i + 0 ≡ i = omega arith in
      let room_here : start_of es i + size_of t ≤ length bytes = subst (λ j. start_of es j + size_of t ≤ length bytes) at_zero (room 0 (omega arith)) in
      let first = value_fits t (part bytes (start_of es i) (size_of t)) (right 0 (omega arith)) (length_part bytes (start_of es i) (size_of t) room_here) in
      let room_later : (k : ℕ) → k < length (list_of ts) → start_of es (i + 1 + k) + size_of (tree_at (list_of ts) k) ≤ length bytes = λ k below. let next : i + suc k ≡ i + 1 + k = omega arith in
      subst (λ j. start_of es j + size_of (tree_at (list_of ts) k) ≤ length bytes) next (room (suc k) (omega arith)) in
      both _ _ first (values_fit ts es (i + 1) bytes (λ k below. right (suc k) (omega arith)) room_later)
