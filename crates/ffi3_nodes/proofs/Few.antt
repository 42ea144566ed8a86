-- A signature without fault has few nodes: each struct and each array has a byte at least, no more than the largest, and at most 15 others around it.
use Rattle.std.specs.List.{AllByRecursion}
use Rattle.std.specs.Prelude.{Option}
use Rattle.std.proofs.Common.{◌≡◌, inl, inr, map, ◌++◌, ℕ, zero, suc, ◌+◌, ◌*◌, ◌^◌, ◌<◌, ◌≤◌, true, List, [], ◌∷◌, length, ap, sym, ◌∙◌, refl, arith, subst, length-append, suc-mul, le_trans}
use Rattle.std.proofs.lemmas.Bool.{cases_lt}
use Rattle.ffi3_type_spec.specs.declared.limits.TheConstants.{DEEPEST_NESTING, LARGEST_TYPE, MOST_ARGUMENTS}
use Rattle.ffi3_type_spec.specs.declared.Role.{Role}
use Rattle.ffi3_type_spec.specs.declared.Role.TheVariants.{AsElement, AsResult, Anywhere}
use Rattle.ffi3_type_spec.specs.Tree.{Tree, Trees, no_trees, tree, void, scalar, left_out, structure, array, struct_of, array_of, trees_of, list_of, trees_of-list_of, tree_at}
use Rattle.ffi3_type_spec.specs.Layout.{size_of, layouts, end_before, align_before, element}
use Rattle.ffi3_type_spec.specs.Fault.{HasNoFault, IsLaidOut, has_parts, out_of_place, left_out_kind, misshapen, nested_deep, bad_typedef, left_out_type, too_deep}
use Rattle.ffi3_type_spec.specs.Signature.{Signature, SignatureHasNoFault, SignatureIsPlaced}
use Rattle.ffi3_type_spec.proofs.Placed.{few_placed, placed_result_is_laid_out, placed_argument_is_laid_out}
use Rattle.ffi3_format_spec.specs.declared.Format.{Format}
use Rattle.ffi3_format_spec.specs.Format.{resolved, all_resolved, resolved_signature}
use Rattle.ffi3_type_spec.proofs.Faults.{fault_by_element, fault_outside, right_is_small}
use Rattle.ffi3_type_spec.proofs.Layouts.{element-layouts, length-layouts, least_multiple-above, scalar_room-bounds, size_le-struct}
use Rattle.ffi3_type_spec.proofs.Right.{few_arguments, result_is_laid_out, argument_is_laid_out}
use Rattle.ffi3_nodes.specs.declared.Node.{Node}
use Rattle.ffi3_nodes.specs.declared.TheConstants.{STRUCT, ARRAY}
use Rattle.ffi3_nodes.specs.declared.signature.Refused.TheVariants.{TooLong}
use Rattle.ffi3_nodes.specs.Read.{HasNoPlaced, HasNoResultType, IsUncallable}
use Rattle.ffi3_nodes.specs.Nodes.{node, IsWritten, leaf, structure as written_struct, array as written_array, AreWritten, none, one_more, IsSignatureOf}

-- ---- the bytes of elements

abbrev total : List Tree → ℕ
total [] = 0
total (t ∷ ts) = size_of t + total ts

-- those of the first
abbrev total_before : List Tree → ℕ → ℕ
total_before ts zero = 0
total_before ts (suc i) = total_before ts i + size_of (tree_at ts i)

in_front : (t : Tree) (ts : List Tree) (i : ℕ) → total_before (t ∷ ts) (suc i) ≡ size_of t + total_before ts i
in_front t ts zero = omega arith
in_front t ts (suc i) =
    let before = in_front t ts i in
    omega (arith, before)

all_before : (ts : List Tree) → total ts ≡ total_before ts (length ts)
all_before [] = refl
all_before (t ∷ ts) =
    ap (λ n. size_of t + n) (all_before ts) ∙ sym (in_front t ts (length ts))

before_end : (ts : List Tree) (i : ℕ) → total_before ts i ≤ end_before (layouts (trees_of ts)) i
before_end ts zero = omega arith
before_end ts (suc i) =
    let here : (element (layouts (trees_of ts)) i).size ≡ size_of (tree_at ts i) = ap (λ l. l.size) (element-layouts ts i) in
    let before = before_end ts i in
    let above = least_multiple-above (element (layouts (trees_of ts)) i).align (end_before (layouts (trees_of ts)) i) in
    omega (arith, here, before, above)

total_within : (ts : List Tree) → total ts ≤ size_of (struct_of ts)
total_within ts =
    let es = layouts (trees_of ts) in
    let all = all_before ts in
    let before = before_end ts (length ts) in
    let count : end_before es (length ts) ≡ end_before es (length es) = ap (end_before es) (sym (length-layouts ts)) in
    let above = least_multiple-above (align_before es (length es)) (end_before es (length es)) in
    omega (arith, all, before, count, above)

-- ---- types without fault

abbrev Rights : ℕ → List Tree → Type 0
Rights outer ts = AllByRecursion (HasNoFault outer AsElement) ts

all_at : (P : Tree → Type 0) (ts : List Tree) → ((i : ℕ) → i < length ts → P (tree_at ts i)) → AllByRecursion P ts
all_at P [] f = tt
all_at P (t ∷ ts) f = (f 0 (omega arith), all_at P ts (λ i h. f (suc i) (omega (arith, h))))

elements_right : (outer : ℕ) (role : Role) (ts : List Tree) → HasNoFault outer role (struct_of ts) → Rights (outer + 1) ts
elements_right outer role ts right =
    all_at (HasNoFault (outer + 1) AsElement) ts (λ i below path f fault. right (i ∷ path) f (fault_by_element ts i path f below fault))

element_right : (outer : ℕ) (role : Role) (t : Tree) (n : ℕ) → HasNoFault outer role (array_of t n) → HasNoFault (outer + 1) AsElement t
element_right outer role t n right =
    λ path f fault. right (0 ∷ path) f (fault_outside (array_of t n) 0 path f (omega arith) fault)

has_room : (outer : ℕ) (role : Role) (t : Tree) → has_parts t ≡ true → HasNoFault outer role t → outer < DEEPEST_NESTING
has_room outer role t composite right =
    elim (cases_lt outer DEEPEST_NESTING) [
      | inl shallow ↦ shallow
      | inr deep ↦ absurd (right [] too_deep (nested_deep refl composite (omega (arith, deep))))
    ]

-- an array is no smaller than its element
array_above : (t : Tree) (n : ℕ) → size_of t ≤ size_of (array_of t (suc n))
array_above t n = omega (arith, suc-mul n (size_of t))

-- an element has a byte, and so has each struct and each array
mutual
  has_bytes : (outer : ℕ) (t : Tree) → HasNoFault outer AsElement t → 1 ≤ size_of t
  has_bytes outer void right = absurd (right [] bad_typedef (out_of_place refl refl))
  has_bytes outer (scalar s) right = (scalar_room-bounds s).0
  has_bytes outer (left_out k) right = absurd (right [] (left_out_type (left_out k)) (left_out_kind refl))
  has_bytes outer (structure ts) right = struct_has_bytes outer AsElement ts right
  has_bytes outer (array ts n) right = array_has_bytes outer AsElement ts n right

  struct_has_bytes : (outer : ℕ) (role : Role) (ts : Trees) → HasNoFault outer role (structure ts) → 1 ≤ size_of (structure ts)
  struct_has_bytes outer role no_trees right = absurd (right [] bad_typedef (misshapen refl refl))
  struct_has_bytes outer role (tree t ts) right =
      let first = has_bytes (outer + 1) t (λ path f fault. right (0 ∷ path) f (fault_outside (structure (tree t ts)) 0 path f (omega arith) fault)) in
      let inside : size_of t ≤ size_of (structure (tree t ts)) = subst (λ us. size_of t ≤ size_of (structure (tree t us))) (trees_of-list_of ts) (size_le-struct (t ∷ list_of ts) 0 (omega arith)) in
      omega (arith, first, inside)

  array_has_bytes : (outer : ℕ) (role : Role) (ts : Trees) (n : ℕ) → HasNoFault outer role (array ts n) → 1 ≤ size_of (array ts n)
  array_has_bytes outer role (tree t no_trees) (suc n) right =
      let first = has_bytes (outer + 1) t (λ path f fault. right (0 ∷ path) f (fault_outside (array (tree t no_trees) (suc n)) 0 path f (omega arith) fault)) in
      omega (arith, first, array_above t n)
  array_has_bytes outer role _ _ right = absurd (right [] bad_typedef (misshapen refl refl))

element_within : (outer : ℕ) (role : Role) (t : Tree) (n : ℕ) → HasNoFault outer role (array_of t n) → size_of t ≤ size_of (array_of t n)
element_within outer role t zero right = absurd (right [] bad_typedef (misshapen refl refl))
element_within outer role t (suc n) right = array_above t n

-- ---- their nodes, and those of resolved types

-- a struct stands before its elements, an array before its element type; what one node tells may be any type
mutual
  pub data IsShaped : Tree → List Node → Type 0 where
    of_one : (t : Tree) (n : Node) → IsShaped t (n ∷ [])
    of_struct : (ts : List Tree) (n : Node) (ns : List Node) → AreShaped ts ns → IsShaped (struct_of ts) (n ∷ ns)
    of_array : (t : Tree) (count : ℕ) (n : Node) (ns : List Node) → IsShaped t ns → IsShaped (array_of t count) (n ∷ ns)

  pub data AreShaped : List Tree → List Node → Type 0 where
    of_none : AreShaped [] []
    of_more : (t : Tree) (ts : List Tree) (ns ms all : List Node) → IsShaped t ns → AreShaped ts ms → all ≡ ns ++ ms → AreShaped (t ∷ ts) all

mutual
  shape : (t : Tree) (ns : List Node) → IsWritten t ns → IsShaped t ns
  shape t ns (leaf k t' e) = of_one t (node k 0)
  shape t ns (written_struct ts ms w) = of_struct ts (node STRUCT (length ts)) ms (shapes ts ms w)
  shape t ns (written_array u n ms w) = of_array u n (node ARRAY n) ms (shape u ms w)

  shapes : (ts : List Tree) (ns : List Node) → AreWritten ts ns → AreShaped ts ns
  shapes ts ns none = of_none
  shapes ts ns (one_more t us ls ks all w ws e) =
      of_more t us ls ks all (shape t ls w) (shapes us ks ws) e

elements_resolved : (f : Format) (ts : List Tree) → trees_of (map (resolved f) ts) ≡ all_resolved f (trees_of ts)
elements_resolved f [] = refl
elements_resolved f (t ∷ ts) = ap (λ us. tree (resolved f t) us) (elements_resolved f ts)

mutual
  resolved_shape : (f : Format) (t : Tree) (ns : List Node) → IsWritten t ns → IsShaped (resolved f t) ns
  resolved_shape f t ns (leaf k t' e) = of_one (resolved f t) (node k 0)
  resolved_shape f t ns (written_struct ts ms w) =
      subst (λ us. IsShaped (structure us) (node STRUCT (length ts) ∷ ms)) (elements_resolved f ts)
      (of_struct (map (resolved f) ts) (node STRUCT (length ts)) ms (resolved_shapes f ts ms w))
  resolved_shape f t ns (written_array u n ms w) =
      of_array (resolved f u) n (node ARRAY n) ms (resolved_shape f u ms w)

  resolved_shapes : (f : Format) (ts : List Tree) (ns : List Node) → AreWritten ts ns → AreShaped (map (resolved f) ts) ns
  resolved_shapes f ts ns none = of_none
  resolved_shapes f ts ns (one_more t us ls ks all w ws e) =
      of_more (resolved f t) (map (resolved f) us) ls ks all (resolved_shape f t ls w) (resolved_shapes f us ks ws) e

-- for each byte one node, and one for each struct or array around it, of so many
abbrev many : ℕ → ℕ → ℕ
many zero size = size
many (suc h) size = size + many h size

many_of_both : (h a b : ℕ) → many h (a + b) ≡ many h a + many h b
many_of_both zero a b = refl
many_of_both (suc h) a b =
    let inside = many_of_both h a b in
    omega (arith, inside)

no_fewer : (h a b : ℕ) → a ≤ b → many h a ≤ many h b
no_fewer zero a b below = below
no_fewer (suc h) a b below =
    let inside = no_fewer h a b below in
    omega (arith, below, inside)

one_each : (h size : ℕ) → size ≤ many h size
one_each zero size = omega arith
one_each (suc h) size = omega arith

-- inside so many structs and arrays, of 16 that there may be
mutual
  few_inside : (h outer : ℕ) (role : Role) (t : Tree) (ns : List Node) → outer + h ≡ DEEPEST_NESTING → IsShaped t ns → HasNoFault outer role t → 1 ≤ size_of t → length ns ≤ many h (size_of t)
  few_inside h outer role t ns left (of_one t' n) right some =
      omega (arith, some, one_each h (size_of t))
  few_inside zero outer role t ns left (of_struct ts n ms w) right some =
      let shallow = has_room outer role (struct_of ts) refl right in
      absurd (omega (arith, left, shallow))
  few_inside (suc h) outer role t ns left (of_struct ts n ms w) right some =
      let inside = few_in_all h (outer + 1) ts ms (omega (arith, left)) w (elements_right outer role ts right) in
      let within = no_fewer h (total ts) (size_of (struct_of ts)) (total_within ts) in
      omega (arith, inside, within, some)
  few_inside zero outer role t ns left (of_array u count n ms w) right some =
      let shallow = has_room outer role (array_of u count) refl right in
      absurd (omega (arith, left, shallow))
  few_inside (suc h) outer role t ns left (of_array u count n ms w) right some =
      let element = element_right outer role u count right in
      let inside = few_inside h (outer + 1) AsElement u ms (omega (arith, left)) w element (has_bytes (outer + 1) u element) in
      let within = no_fewer h (size_of u) (size_of (array_of u count)) (element_within outer role u count right) in
      omega (arith, inside, within, some)

  few_in_all : (h outer : ℕ) (ts : List Tree) (ns : List Node) → outer + h ≡ DEEPEST_NESTING → AreShaped ts ns → Rights outer ts → length ns ≤ many h (total ts)
  few_in_all h outer ts ns left of_none rights = omega arith
  few_in_all h outer ts ns left (of_more t us ls ks all w ws e) rights =
      let first = few_inside h outer AsElement t ls left w rights.0 (has_bytes outer t rights.0) in
      let others = few_in_all h outer us ks left ws rights.1 in
      let both = ap length e in
      let sum = length-append ls ks in
      let bytes = many_of_both h (size_of t) (total us) in
      omega (arith, first, others, both, sum, bytes)

-- ---- those of a signature

-- 17 for each byte of the largest type
abbrev MOST : ℕ
MOST = 69632

most_is : many DEEPEST_NESTING LARGEST_TYPE ≡ MOST
most_is = refl

few_of_bytes : (role : Role) (t : Tree) (ns : List Node) → IsShaped t ns → HasNoFault 0 role t → 1 ≤ size_of t → length ns ≤ MOST
few_of_bytes role t ns w right some =
    let inside = few_inside DEEPEST_NESTING 0 role t ns refl w right some in
    let within = no_fewer DEEPEST_NESTING (size_of t) LARGEST_TYPE (right_is_small 0 role t right) in
    subst (λ n. length ns ≤ n) most_is (le_trans inside within)

few_of_type : (role : Role) (t : Tree) (ns : List Node) → IsShaped t ns → HasNoFault 0 role t → length ns ≤ MOST
few_of_type role t ns (of_one t' n) right = omega arith
few_of_type role t ns (of_struct ts n ms w) right =
    few_of_bytes role (struct_of ts) (n ∷ ms) (of_struct ts n ms w) right (struct_has_bytes 0 role (trees_of ts) right)
few_of_type role t ns (of_array u count n ms w) right =
    few_of_bytes role (array_of u count) (n ∷ ms) (of_array u count n ms w) right (array_has_bytes 0 role (trees_of (u ∷ [])) count right)

few_of_arguments : (role : Role) (ts : List Tree) (ns : List Node) → AreShaped ts ns → AllByRecursion (HasNoFault 0 role) ts → length ns ≤ length ts * MOST
few_of_arguments role ts ns of_none right = omega arith
few_of_arguments role ts ns (of_more t us ls ks all w ws e) right =
    let first = few_of_type role t ls w right.0 in
    let others = few_of_arguments role us ks ws right.1 in
    let both = ap length e in
    let sum = length-append ls ks in
    omega (arith, first, others, both, sum)

few_of_all : (t : Tree) (ts : List Tree) (ns : List Node) → AreShaped (t ∷ ts) ns → IsLaidOut t → ((i : ℕ) → i < length ts → IsLaidOut (tree_at ts i)) → length ts ≤ MOST_ARGUMENTS → length ns ≤ 65 * MOST
few_of_all t ts ns (of_more t' ts' ls ks all w ws e) right rights few =
    let first = few_of_type Anywhere t ls w right in
    let others = few_of_arguments Anywhere ts ks ws (all_at (HasNoFault 0 Anywhere) ts rights) in
    let both = ap length e in
    let sum = length-append ls ks in
    omega (arith, first, others, both, sum, few)

pub few_nodes : (ns : List Node) (fixed : Option ℕ) (s : Signature) → IsSignatureOf ns fixed s → SignatureHasNoFault s → length ns < 2 ^ 32
few_nodes ns fixed s is right =
    let few = few_of_all s.result_type s.arguments ns (shapes (s.result_type ∷ s.arguments) ns is.written) (result_is_laid_out s right) (argument_is_laid_out s right) (few_arguments s right) in
    omega (arith, few)

-- So 2^32 nodes or more are those of no signature that can be called,
pub too_long : (ns : List Node) (fixed : Option ℕ) → 2 ^ 32 ≤ length ns → IsUncallable ns fixed TooLong
too_long ns fixed long =
    λ s is right. let few = few_nodes ns fixed s is right in omega (arith, long, few)

-- nor of one that can be placed where long doubles have a format.
pub too_long_for : (format : Format) (ns : List Node) (fixed : Option ℕ) → 2 ^ 32 ≤ length ns → HasNoPlaced format ns fixed
too_long_for format ns fixed long =
    λ s is placed. let t = is.told in
    let here : SignatureIsPlaced (resolved_signature format t) = subst SignatureIsPlaced is.by_format placed in
    let few = few_of_all (resolved format t.result_type) (map (resolved format) t.arguments) ns (resolved_shapes format (t.result_type ∷ t.arguments) ns is.written.written) (placed_result_is_laid_out (resolved_signature format t) here) (placed_argument_is_laid_out (resolved_signature format t) here) (few_placed (resolved_signature format t) here) in
    omega (arith, long, few)

pub too_long_for_one : (ns : List Node) → 2 ^ 32 ≤ length ns → HasNoResultType ns
too_long_for_one ns long =
    λ t w right. let few = few_of_type AsResult t ns (shape t ns w) right in omega (arith, long, few)
