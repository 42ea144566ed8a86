-- Laws of faults: those of a struct or an array are those of its parts and its own.
use Rattle.std.proofs.Common.{◌≡◌, ℕ, zero, suc, ◌+◌, ◌<◌, ◌≤◌, inl, inr, true, false, List, [], ◌∷◌, length, Some, None, refl, ap, sym, ◌∙◌, subst, arith}
use Rattle.std.specs.Prelude.{slice_get, option_and_then}
use Rattle.std.proofs.lemmas.Bool.{cases_lt}
use Rattle.ffi3_type_spec.specs.declared.limits.TheConstants.{LARGEST_TYPE, DEEPEST_NESTING}
use Rattle.ffi3_type_spec.specs.declared.Role.{Role}
use Rattle.ffi3_type_spec.specs.declared.Role.TheVariants.{AsResult, AsArgument, AsElement, Anywhere}
use Rattle.ffi3_type_spec.specs.Tree.{Tree, void, scalar, left_out, structure, array, struct_of, trees_of, list_of, tree_at, parts_of, list_of-trees_of, Scalar, LeftOutKind}
use Rattle.ffi3_type_spec.specs.Layout.{size_of}
use Rattle.ffi3_type_spec.proofs.Layouts.{scalar_room-bounds}
use Rattle.ffi3_type_spec.specs.Fault.{Fault, bad_typedef, left_out_type, too_large, too_deep, node_at, takes, takes_void, role_at, has_parts, is_misshapen, IsFault, out_of_place, left_out_kind, nested_deep, misshapen, over_limit, rank, IsBefore, HasNoFault, IsFirstFault, IsLaidOut}

-- an element is at its number
pub element_is : (ts : List Tree) (i : ℕ) → i < length ts → slice_get ts i ≡ Some (tree_at ts i)
element_is [] i h = absurd (omega arith)
element_is (t ∷ ts) zero h = refl
element_is (t ∷ ts) (suc i) h = element_is ts i (omega arith)

pub no_element : (ts : List Tree) (i : ℕ) → length ts ≤ i → slice_get ts i ≡ None
no_element [] i h = refl
no_element (t ∷ ts) zero h = absurd (omega arith)
no_element (t ∷ ts) (suc i) h = no_element ts i (omega arith)

-- a node inside another is a node of one of its parts
pub node_inside : (root : Tree) (i : ℕ) (path : List ℕ) (t : Tree) → node_at (i ∷ path) root ≡ Some t → (i < length (parts_of root)) × (node_at path (tree_at (parts_of root) i) ≡ Some t)
node_inside root i path t e =
    elim (cases_lt i (length (parts_of root))) [
      | inl below ↦ (below, ap (option_and_then (node_at path)) (sym (element_is (parts_of root) i below)) ∙ e)
      | inr beyond ↦ let none : None ≡ Some t = ap (option_and_then (node_at path)) (sym (no_element (parts_of root) i beyond)) ∙ e in absurd (cc)
    ]

pub node_outside : (root : Tree) (i : ℕ) (path : List ℕ) (t : Tree) → i < length (parts_of root) → node_at path (tree_at (parts_of root) i) ≡ Some t → node_at (i ∷ path) root ≡ Some t
node_outside root i path t below e =
    ap (option_and_then (node_at path)) (element_is (parts_of root) i below) ∙ e

-- all that is inside an element is an element
elements_inside : (path : List ℕ) → role_at AsElement path ≡ AsElement
elements_inside [] = refl
elements_inside (i ∷ path) = refl

module _ {outer : ℕ} {role : Role} (root : Tree) where
  pub fault_inside : (i : ℕ) (path : List ℕ) (f : Fault) → IsFault outer role root (i ∷ path) f → (i < length (parts_of root)) × IsFault (outer + 1) AsElement (tree_at (parts_of root) i) path f
  fault_inside i path f (out_of_place {node = t} is bad) = let w = node_inside root i path _ is in (w.0, out_of_place w.1 (ap (λ r. takes r t) (elements_inside path) ∙ bad))
  fault_inside i path f (left_out_kind is) = let w = node_inside root i path _ is in (w.0, left_out_kind w.1)
  fault_inside i path f (nested_deep is parts deep) = let w = node_inside root i path _ is in (w.0, nested_deep w.1 parts (omega arith))
  fault_inside i path f (misshapen is bad) = let w = node_inside root i path _ is in (w.0, misshapen w.1 bad)
  fault_inside i path f (over_limit is parts large) = let w = node_inside root i path _ is in (w.0, over_limit w.1 parts large)

  pub fault_outside : (i : ℕ) (path : List ℕ) (f : Fault) → i < length (parts_of root) → IsFault (outer + 1) AsElement (tree_at (parts_of root) i) path f → IsFault outer role root (i ∷ path) f
  fault_outside i path f below (out_of_place {node = t} is bad) = out_of_place (node_outside root i path _ below is) (ap (λ r. takes r t) (sym (elements_inside path)) ∙ bad)
  fault_outside i path f below (left_out_kind is) = left_out_kind (node_outside root i path _ below is)
  fault_outside i path f below (nested_deep is parts deep) = nested_deep (node_outside root i path _ below is) parts (omega arith)
  fault_outside i path f below (misshapen is bad) = misshapen (node_outside root i path _ below is) bad
  fault_outside i path f below (over_limit is parts large) = over_limit (node_outside root i path _ below is) parts large

-- the same of a struct, over a list
module _ {outer : ℕ} {role : Role} (ts : List Tree) where
  pub fault_of_element : (i : ℕ) (path : List ℕ) (f : Fault) → IsFault outer role (struct_of ts) (i ∷ path) f → (i < length ts) × IsFault (outer + 1) AsElement (tree_at ts i) path f
  fault_of_element i path f fault =
      let Inside : List Tree → Type 0 = λ us. (i < length us) × IsFault (outer + 1) AsElement (tree_at us i) path f in
      subst Inside (list_of-trees_of ts) (fault_inside (struct_of ts) i path f fault)

  pub fault_by_element : (i : ℕ) (path : List ℕ) (f : Fault) → i < length ts → IsFault (outer + 1) AsElement (tree_at ts i) path f → IsFault outer role (struct_of ts) (i ∷ path) f
  fault_by_element i path f below fault =
      fault_outside (struct_of ts) i path f (rw list_of-trees_of below) (rw list_of-trees_of fault)

-- the faults that a type has itself
pub data OwnFault (outer : ℕ) (role : Role) (t : Tree) : Fault → Type 0 where
  own_place : takes role t ≡ false → OwnFault outer role t bad_typedef
  own_kind : {kind : LeftOutKind} → t ≡ left_out kind → OwnFault outer role t (left_out_type (left_out kind))
  own_depth : has_parts t ≡ true → DEEPEST_NESTING < outer + 1 → OwnFault outer role t too_deep
  own_shape : is_misshapen t ≡ true → OwnFault outer role t bad_typedef
  own_size : has_parts t ≡ true → LARGEST_TYPE < size_of t → OwnFault outer role t (too_large (size_of t))

module _ {outer : ℕ} {role : Role} where
  pub own_fault : (t : Tree) (f : Fault) → IsFault outer role t [] f → OwnFault outer role t f
  own_fault t f (out_of_place {node = u} is bad) =
      let same : u ≡ t = cc in
      own_place (subst (λ n. takes role n ≡ false) same bad)
  own_fault t f (left_out_kind {kind = k} is) =
      let same : t ≡ left_out k = cc in own_kind same
  own_fault t f (nested_deep {node = u} is parts deep) =
      let same : u ≡ t = cc in
      own_depth (subst (λ n. has_parts n ≡ true) same parts) (omega arith)
  own_fault t f (misshapen {node = u} is bad) =
      let same : u ≡ t = cc in
      own_shape (subst (λ n. is_misshapen n ≡ true) same bad)
  own_fault t f (over_limit {node = u} is parts large) =
      let same : u ≡ t = cc in
      subst (λ n. OwnFault outer role t (too_large (size_of n))) (sym same) (own_size (subst (λ n. has_parts n ≡ true) same parts) (subst (λ n. LARGEST_TYPE < size_of n) same large))

  -- the faults of a node without parts
  no_own : (s : Scalar) (f : Fault) → ¬ OwnFault outer role (scalar s) f
  no_own s f (own_place bad) = cc
  no_own s f (own_kind is) = cc
  no_own s f (own_depth parts deep) = cc
  no_own s f (own_shape bad) = cc
  no_own s f (own_size parts large) = cc

  pub scalar_faults : (s : Scalar) (path : List ℕ) (f : Fault) → ¬ IsFault outer role (scalar s) path f
  scalar_faults s [] f fault = no_own s f (own_fault (scalar s) f fault)
  scalar_faults s (i ∷ path) f fault = omega (arith, (fault_inside (scalar s) i path f fault).0)

  void_own : (f : Fault) → OwnFault outer role void f → (f ≡ bad_typedef) × (takes_void role ≡ false)
  void_own f (own_place bad) = (refl, bad)
  void_own f (own_kind is) = absurd (cc)
  void_own f (own_depth parts deep) = absurd (cc)
  void_own f (own_shape bad) = absurd (cc)
  void_own f (own_size parts large) = absurd (cc)

  pub void_faults : (path : List ℕ) (f : Fault) → IsFault outer role void path f → (path ≡ []) × (f ≡ bad_typedef) × (takes_void role ≡ false)
  void_faults [] f fault = let own = void_own f (own_fault void f fault) in (refl, own.0, own.1)
  void_faults (i ∷ path) f fault = absurd (omega (arith, (fault_inside void i path f fault).0))

  left_out_own : (k : LeftOutKind) (f : Fault) → OwnFault outer role (left_out k) f → f ≡ left_out_type (left_out k)
  left_out_own k f (own_kind is) = ap left_out_type (sym is)
  left_out_own k f (own_place bad) = absurd (cc)
  left_out_own k f (own_depth parts deep) = absurd (cc)
  left_out_own k f (own_shape bad) = absurd (cc)
  left_out_own k f (own_size parts large) = absurd (cc)

  pub left_out_faults : (k : LeftOutKind) (path : List ℕ) (f : Fault) → IsFault outer role (left_out k) path f → (path ≡ []) × (f ≡ left_out_type (left_out k))
  left_out_faults k [] f fault = (refl, left_out_own k f (own_fault (left_out k) f fault))
  left_out_faults k (i ∷ path) f fault =
      absurd (omega (arith, (fault_inside (left_out k) i path f fault).0))

  pub first_void : takes_void role ≡ false → IsFirstFault outer role void [] bad_typedef
  first_void inside = record { is_there = out_of_place refl inside; none_before = go }
    where
      go : (q : List ℕ) (g : Fault) → IsFault outer role void q g → ¬ IsBefore q g [] bad_typedef
      go [] g fault before = omega (arith, ap rank (void_faults [] g fault).1)
      go (j ∷ q) g fault before = omega arith

  pub first_left_out : (k : LeftOutKind) → IsFirstFault outer role (left_out k) [] (left_out_type (left_out k))
  first_left_out k = record { is_there = left_out_kind refl; none_before = go }
    where
      go : (q : List ℕ) (g : Fault) → IsFault outer role (left_out k) q g → ¬ IsBefore q g [] (left_out_type (left_out k))
      go [] g fault before = omega (arith, ap rank (left_out_faults k [] g fault).1)
      go (j ∷ q) g fault before = omega arith

  -- the rank of an own fault, where the type is not too deep
  own_rank : (t : Tree) (f : Fault) → outer < DEEPEST_NESTING → OwnFault outer role t f → 1 ≤ rank f
  own_rank t f shallow (own_depth parts deep) = absurd (omega arith)
  own_rank t f shallow _ = omega arith

  own_large : (t : Tree) (f : Fault) → has_parts t ≡ true → outer < DEEPEST_NESTING → takes role t ≡ true → is_misshapen t ≡ false → OwnFault outer role t f → (rank f ≡ 2) × (LARGEST_TYPE < size_of t)
  own_large t f composite shallow placed shaped (own_place bad) = absurd (cc)
  own_large t f composite shallow placed shaped (own_kind is) =
      let none : true ≡ false = sym composite ∙ ap has_parts is in absurd (cc)
  own_large t f composite shallow placed shaped (own_depth parts deep) = absurd (omega arith)
  own_large t f composite shallow placed shaped (own_shape bad) = absurd (cc)
  own_large t f composite shallow placed shaped (own_size parts large) = (refl, large)

-- where a type with parts is right, and where a fault is the first
module _ {outer : ℕ} {role : Role} (root : Tree) where
  pub first_deep : has_parts root ≡ true → DEEPEST_NESTING < outer + 1 → IsFirstFault outer role root [] too_deep
  first_deep composite deep = record { is_there = nested_deep refl composite (omega arith); none_before = go }
    where
      go : (q : List ℕ) (g : Fault) → IsFault outer role root q g → ¬ IsBefore q g [] too_deep
      go [] g fault before = omega arith
      go (j ∷ q) g fault before = omega arith

  pub first_bad : outer < DEEPEST_NESTING → IsFault outer role root [] bad_typedef → IsFirstFault outer role root [] bad_typedef
  first_bad shallow fault = record { is_there = fault; none_before = go }
    where
      go : (q : List ℕ) (g : Fault) → IsFault outer role root q g → ¬ IsBefore q g [] bad_typedef
      go [] g other before = omega (arith, own_rank root g shallow (own_fault root g other))
      go (j ∷ q) g other before = omega arith

  -- not too deep, in its place and well shaped
  module _ (composite : has_parts root ≡ true) (shallow : outer < DEEPEST_NESTING) (placed : takes role root ≡ true) (shaped : is_misshapen root ≡ false) where
    own_is_large : (f : Fault) → IsFault outer role root [] f → (rank f ≡ 2) × (LARGEST_TYPE < size_of root)
    own_is_large f fault = own_large root f composite shallow placed shaped (own_fault root f fault)

    -- the first fault of part i, where those before it have none
    pub first_in_part : (i : ℕ) (path : List ℕ) (f : Fault) → i < length (parts_of root) → ((j : ℕ) → j < i → HasNoFault (outer + 1) AsElement (tree_at (parts_of root) j)) → IsFirstFault (outer + 1) AsElement (tree_at (parts_of root) i) path f → IsFirstFault outer role root (i ∷ path) f
    first_in_part i path f below right first =
        record { is_there = fault_outside root i path f below first.is_there; none_before = go }
      where
        go : (q : List ℕ) (g : Fault) → IsFault outer role root q g → ¬ IsBefore q g (i ∷ path) f
        go [] g fault before = omega (arith, (own_is_large g fault).0)
        go (j ∷ q) g fault before =
            let inner = fault_inside root j q g fault in
            elim before [
              | inl left ↦ right j left q g inner.1
              | inr same ↦ first.none_before q g (subst (λ k. IsFault (outer + 1) AsElement (tree_at (parts_of root) k) q g) same.0 inner.1) same.1
            ]

    module _ (right : (i : ℕ) → i < length (parts_of root) → HasNoFault (outer + 1) AsElement (tree_at (parts_of root) i)) where
      pub right_by_parts : size_of root ≤ LARGEST_TYPE → HasNoFault outer role root
      right_by_parts fits [] f fault = omega (arith, (own_is_large f fault).1)
      right_by_parts fits (i ∷ path) f fault =
          let inner = fault_inside root i path f fault in
          right i inner.0 path f inner.1

      pub first_large : LARGEST_TYPE < size_of root → IsFirstFault outer role root [] (too_large (size_of root))
      first_large large = record { is_there = over_limit refl composite large; none_before = go }
        where
          go : (q : List ℕ) (g : Fault) → IsFault outer role root q g → ¬ IsBefore q g [] (too_large (size_of root))
          go [] g fault before = omega (arith, (own_is_large g fault).0)
          go (j ∷ q) g fault before =
              let inner = fault_inside root j q g fault in
              right j inner.0 q g inner.1

-- elements without fault, in a list and in a tree
pub elements_right : (outer : ℕ) (ts : List Tree) → ((i : ℕ) → i < length ts → HasNoFault outer AsElement (tree_at ts i)) → (i : ℕ) → i < length (list_of (trees_of ts)) → HasNoFault outer AsElement (tree_at (list_of (trees_of ts)) i)
elements_right outer ts right =
    subst (λ us. (i : ℕ) → i < length us → HasNoFault outer AsElement (tree_at us i)) (sym (list_of-trees_of ts)) right

-- the same of a struct, over a list
shaped_struct : (ts : List Tree) → 0 < length ts → is_misshapen (struct_of ts) ≡ false
shaped_struct [] some = absurd (omega arith)
shaped_struct (t ∷ ts) some = refl

module _ {outer : ℕ} {role : Role} where
  pub first_too_deep : (ts : List Tree) → DEEPEST_NESTING < outer + 1 → IsFirstFault outer role (struct_of ts) [] too_deep
  first_too_deep ts deep = first_deep (struct_of ts) refl deep

  pub first_empty : outer < DEEPEST_NESTING → IsFirstFault outer role (struct_of []) [] bad_typedef
  first_empty shallow = first_bad (struct_of []) shallow (misshapen refl refl)

  module _ (ts : List Tree) (shallow : outer < DEEPEST_NESTING) (some : 0 < length ts) where
    pub first_inside : (i : ℕ) (path : List ℕ) (f : Fault) → i < length ts → ((j : ℕ) → j < i → HasNoFault (outer + 1) AsElement (tree_at ts j)) → IsFirstFault (outer + 1) AsElement (tree_at ts i) path f → IsFirstFault outer role (struct_of ts) (i ∷ path) f
    first_inside i path f below right first =
        let same = sym (list_of-trees_of ts) in
        first_in_part (struct_of ts) refl shallow refl (shaped_struct ts some) i path f (subst (λ us. i < length us) same below) (subst (λ us. (j : ℕ) → j < i → HasNoFault (outer + 1) AsElement (tree_at us j)) same right) (subst (λ us. IsFirstFault (outer + 1) AsElement (tree_at us i) path f) same first)

    module _ (right : (i : ℕ) → i < length ts → HasNoFault (outer + 1) AsElement (tree_at ts i)) where
      pub struct_is_right : size_of (struct_of ts) ≤ LARGEST_TYPE → HasNoFault outer role (struct_of ts)
      struct_is_right fits =
          right_by_parts (struct_of ts) refl shallow refl (shaped_struct ts some) (elements_right (outer + 1) ts right) fits

      pub first_too_large : LARGEST_TYPE < size_of (struct_of ts) → IsFirstFault outer role (struct_of ts) [] (too_large (size_of (struct_of ts)))
      first_too_large large =
          first_large (struct_of ts) refl shallow refl (shaped_struct ts some) (elements_right (outer + 1) ts right) large

-- what no fault says of the size
pub right_is_small : (outer : ℕ) (role : Role) (t : Tree) → HasNoFault outer role t → size_of t ≤ LARGEST_TYPE
right_is_small outer role void h = omega arith
right_is_small outer role (scalar s) h = omega (arith, scalar_room-bounds s)
right_is_small outer role (left_out k) h = omega arith
right_is_small outer role (structure ts) h =
    elim (cases_lt LARGEST_TYPE (size_of (structure ts))) [
      | inl large ↦ absurd (h [] (too_large (size_of (structure ts))) (over_limit refl refl large))
      | inr fits ↦ fits
    ]
right_is_small outer role (array ts n) h =
    elim (cases_lt LARGEST_TYPE (size_of (array ts n))) [
      | inl large ↦ absurd (h [] (too_large (size_of (array ts n))) (over_limit refl refl large))
      | inr fits ↦ fits
    ]

-- what one role takes, another takes
abbrev pub TakesMore : Role → Role → Type 0
TakesMore more less = (t : Tree) → takes more t ≡ false → takes less t ≡ false

-- a fault stands in another role and deeper too, where the role that takes the node does not matter
pub fault_along : {from to : ℕ} {role other : Role} (t : Tree) (path : List ℕ) (f : Fault) → from ≤ to → ((u : Tree) → node_at path t ≡ Some u → takes (role_at role path) u ≡ false → takes (role_at other path) u ≡ false) → IsFault from role t path f → IsFault to other t path f
fault_along t path f h alike (out_of_place {node = u} is bad) = out_of_place is (alike u is bad)
fault_along t path f h alike (left_out_kind is) = left_out_kind is
fault_along t path f h alike (nested_deep is parts deep) = nested_deep is parts (omega arith)
fault_along t path f h alike (misshapen is bad) = misshapen is bad
fault_along t path f h alike (over_limit is parts large) = over_limit is parts large

role_more : (more less : Role) → TakesMore more less → (path : List ℕ) (t : Tree) → takes (role_at more path) t ≡ false → takes (role_at less path) t ≡ false
role_more more less h [] t e = h t e
role_more more less h (i ∷ path) t e = e

pub right_with_more : (more less : Role) → TakesMore more less → (outer : ℕ) (t : Tree) → HasNoFault outer less t → HasNoFault outer more t
right_with_more more less h outer t right path f fault =
    right path f (fault_along t path f (omega arith) (λ u is. role_more more less h path u) fault)

result_takes_more : TakesMore AsResult AsArgument
result_takes_more void e = refl
result_takes_more (array ts n) e = refl
result_takes_more _ e = e

anywhere_takes_more : (role : Role) → TakesMore Anywhere role
anywhere_takes_more role void e = absurd (cc)
anywhere_takes_more role (array ts n) e = absurd (cc)
anywhere_takes_more role _ e = e

-- what may be an argument may be a result
pub argument_is_result : (outer : ℕ) (t : Tree) → HasNoFault outer AsArgument t → HasNoFault outer AsResult t
argument_is_result outer t h =
    right_with_more AsResult AsArgument result_takes_more outer t h

-- and what may be either, or an element, has a layout
pub right_anywhere : (outer : ℕ) (role : Role) (t : Tree) → HasNoFault outer role t → HasNoFault outer Anywhere t
right_anywhere outer role t h =
    right_with_more Anywhere role (anywhere_takes_more role) outer t h

-- a type without fault has none where fewer structs and arrays are around it
pub fault_deeper : (from to : ℕ) (role : Role) (t : Tree) (path : List ℕ) (f : Fault) → from ≤ to → IsFault from role t path f → IsFault to role t path f
fault_deeper from to role t path f h fault = fault_along t path f h (λ u is bad. bad) fault

-- the parts of a type without fault have none
pub part_is_right : (role : Role) (root : Tree) → HasNoFault 0 role root → (i : ℕ) → i < length (parts_of root) → IsLaidOut (tree_at (parts_of root) i)
part_is_right role root h i below =
    right_anywhere 0 AsElement (tree_at (parts_of root) i) (λ path f fault. h (i ∷ path) f (fault_outside root i path f below (fault_deeper 0 1 AsElement _ path f (omega arith) fault)))

pub element_is_right : (role : Role) (ts : List Tree) → HasNoFault 0 role (struct_of ts) → (i : ℕ) → i < length ts → IsLaidOut (tree_at ts i)
element_is_right role ts h i below =
    right_anywhere 0 AsElement (tree_at ts i) (λ path f fault. h (i ∷ path) f (fault_by_element ts i path f below (fault_deeper 0 1 AsElement _ path f (omega arith) fault)))
