-- Types that declarations can have: structs that are not empty and not too deep, arrays as members alone, numbers that are not too great, no long doubles. What has no fault is such.
use Rattle.std.proofs.Common.{◌≡◌, ℕ, zero, suc, ◌+◌, ◌*◌, ◌<◌, ◌≤◌, inl, inr, Bool, true, false, List, [], ◌∷◌, length, Option, Some, refl, ap, sym, ◌∙◌, subst, arith}
use Rattle.std.specs.Prelude.{⊤, is_some}
use Rattle.std.proofs.lemmas.Bool.{cases_lt}
use Rattle.ffi3_type_spec.specs.declared.limits.TheConstants.{LARGEST_TYPE, DEEPEST_NESTING}
use Rattle.ffi3_type_spec.specs.declared.Role.{Role}
use Rattle.ffi3_type_spec.specs.declared.Role.TheVariants.{AsResult, AsArgument, AsElement}
use Rattle.ffi3_type_spec.specs.Tree.{Tree, void, scalar, left_out, structure, array, Trees, no_trees, tree, list_of, tree_at, parts_of}
use Rattle.ffi3_type_spec.specs.Layout.{Layout, layout, layouts, element, end_before, align_before, size_of, is_long_double, has_long_double, have_long_double}
use Rattle.ffi3_type_spec.specs.Fault.{bad_typedef, left_out_type, too_deep, out_of_place, left_out_kind, nested_deep, misshapen, HasNoFault, IsResultType, IsArgumentType}
use Rattle.ffi3_type_spec.specs.Signature.{Signature, SignatureHasNoFault, bad_fixed, fixed_outside}
use Rattle.ffi3_type_spec.proofs.Layouts.{least_multiple-above, scalar_room-bounds}
use Rattle.ffi3_type_spec.proofs.Faults.{fault_outside, right_is_small}
use Rattle.ffi3_type_spec.proofs.Right.{result_is_right, argument_is_right}
use Rattle.ffi3_type_spec.proofs.Placed.{faultless_is_plain}
use Rattle.ffi3_type_spec.proofs.LongDoubles.{neither}
use Rattle.ffi3_cdecl_spec.specs.Tokens.{TOO_GREAT}
use Rattle.ffi3_cdecl_spec.specs.Grammar.{MOST_OPEN}
use Rattle.ffi3_cdecl_spec.specs.Canonical.{FixesAll}

abbrev pub IsLast : Trees → Type 0
IsLast no_trees = ⊤
IsLast (tree t ts) = ⊥

abbrev mutual
  pub IsSpellableMember : ℕ → Tree → Type 0
  IsSpellableMember d (scalar s) = is_long_double s ≡ false
  IsSpellableMember d (structure ts) = (d < MOST_OPEN) × AreSpellableMembers (suc d) ts
  IsSpellableMember d (array ts n) = (n < TOO_GREAT) × IsSpellableElement d ts
  IsSpellableMember d _ = ⊥

  pub IsSpellableElement : ℕ → Trees → Type 0
  IsSpellableElement d no_trees = ⊥
  IsSpellableElement d (tree t ts) = IsSpellableMember d t × IsLast ts

  pub AreSpellableMembers : ℕ → Trees → Type 0
  AreSpellableMembers d no_trees = ⊥
  AreSpellableMembers d (tree t ts) = IsSpellableMember d t × AreMoreSpellable d 1 ts

  -- from number i on
  pub AreMoreSpellable : ℕ → ℕ → Trees → Type 0
  AreMoreSpellable d i no_trees = ⊤
  AreMoreSpellable d i (tree t ts) =
      (i < TOO_GREAT) × IsSpellableMember d t × AreMoreSpellable d (i + 1) ts

-- a type that is passed
abbrev pub IsSpellableValue : Tree → Type 0
IsSpellableValue void = ⊥
IsSpellableValue (scalar s) = is_long_double s ≡ false
IsSpellableValue (left_out k) = ⊥
IsSpellableValue (structure ts) = (0 < MOST_OPEN) × AreSpellableMembers 1 ts
IsSpellableValue (array ts n) = ⊥

abbrev pub IsSpellableResult : Tree → Type 0
IsSpellableResult void = ⊤
IsSpellableResult (scalar s) = is_long_double s ≡ false
IsSpellableResult (left_out k) = ⊥
IsSpellableResult (structure ts) = (0 < MOST_OPEN) × AreSpellableMembers 1 ts
IsSpellableResult (array ts n) = ⊥

abbrev pub AreSpellableValues : List Tree → Type 0
AreSpellableValues [] = ⊤
AreSpellableValues (t ∷ ts) = IsSpellableValue t × AreSpellableValues ts

-- dots stand behind a parameter only
abbrev pub MayBeVariadic : List Tree → Bool → Type 0
MayBeVariadic [] true = ⊥
MayBeVariadic [] false = ⊤
MayBeVariadic (t ∷ ts) variadic = ⊤

-- ---- the parts of what has no fault, and their sizes

part_is_right : {outer : ℕ} {role : Role} (root : Tree) → HasNoFault outer role root → (i : ℕ) → i < length (parts_of root) → HasNoFault (outer + 1) AsElement (tree_at (parts_of root) i)
part_is_right root h i below path f fault =
    h (i ∷ path) f (fault_outside root i path f below fault)

abbrev AllRight : ℕ → Trees → Type 0
AllRight outer ts =
    (i : ℕ) → i < length (list_of ts) → HasNoFault outer AsElement (tree_at (list_of ts) i)

element_is : (ts : Trees) (i : ℕ) → element (layouts ts) i ≡ layout (tree_at (list_of ts) i)
element_is (tree t ts) (suc i) = element_is ts i
element_is _ _ = refl

as_many_layouts : (ts : Trees) → length (layouts ts) ≡ length (list_of ts)
as_many_layouts no_trees = refl
as_many_layouts (tree t ts) = ap suc (as_many_layouts ts)

ends_rise : (es : List Layout) (n : ℕ) → ((i : ℕ) → i < n → 1 ≤ (element es i).size) → n ≤ end_before es n
ends_rise es zero some = omega arith
ends_rise es (suc n) some =
    omega (arith, least_multiple-above (element es n).align (end_before es n), ends_rise es n (λ i h. some i (omega arith)), some n (omega arith))

-- a struct has a byte for each of its members at least
struct_size : (ts : Trees) → ((i : ℕ) → i < length (list_of ts) → 1 ≤ size_of (tree_at (list_of ts) i)) → length (list_of ts) ≤ size_of (structure ts)
struct_size ts some =
    let es = layouts ts in
    let count = as_many_layouts ts in
    let ends = ends_rise es (length es) (λ i h. subst (λ l. 1 ≤ l.size) (sym (element_is ts i)) (some i (omega (arith, count)))) in
    omega (arith, count, ends, least_multiple-above (align_before es (length es)) (end_before es (length es)))

times_some : (n size : ℕ) → 1 ≤ size → n ≤ n * size
times_some n size some = grind arith

mutual
  some_size : (outer : ℕ) (t : Tree) → HasNoFault outer AsElement t → 1 ≤ size_of t
  some_size outer void h = absurd (h [] bad_typedef (out_of_place refl refl))
  some_size outer (scalar s) h = (scalar_room-bounds s).0
  some_size outer (left_out k) h =
      absurd (h [] (left_out_type (left_out k)) (left_out_kind refl))
  some_size outer (structure (tree t ts)) h =
      let all = struct_size (tree t ts) (some_sizes (outer + 1) (tree t ts) (part_is_right (structure (tree t ts)) h)) in
      omega (arith, all)
  some_size outer (array (tree t no_trees) (suc n)) h =
      let one = some_size (outer + 1) t (part_is_right (array (tree t no_trees) (suc n)) h 0 (omega arith)) in
      omega (arith, times_some (suc n) (size_of t) one)
  some_size outer _ h =
      absurd (h [] bad_typedef (misshapen refl refl))

  some_sizes : (outer : ℕ) (ts : Trees) → AllRight outer ts → (i : ℕ) → i < length (list_of ts) → 1 ≤ size_of (tree_at (list_of ts) i)
  some_sizes outer no_trees right i h = absurd (omega arith)
  some_sizes outer (tree t ts) right zero h = some_size outer t (right 0 h)
  some_sizes outer (tree t ts) right (suc i) h =
      some_sizes outer ts (λ j below. right (suc j) (omega arith)) i (omega arith)

few_members : (outer : ℕ) (role : Role) (ts : Trees) → HasNoFault outer role (structure ts) → length (list_of ts) ≤ LARGEST_TYPE
few_members outer role ts h =
    omega (arith, right_is_small outer role (structure ts) h, struct_size ts (some_sizes (outer + 1) ts (part_is_right (structure ts) h)))

small_count : (outer : ℕ) (role : Role) (t : Tree) (n : ℕ) → HasNoFault outer role (array (tree t no_trees) n) → n ≤ LARGEST_TYPE
small_count outer role t n h =
    let one = some_size (outer + 1) t (part_is_right (array (tree t no_trees) n) h 0 (omega arith)) in
    omega (arith, right_is_small outer role (array (tree t no_trees) n) h, times_some n (size_of t) one)

not_deep : (outer : ℕ) (role : Role) (ts : Trees) → HasNoFault outer role (structure ts) → outer < DEEPEST_NESTING
not_deep outer role ts h =
    elim (cases_lt outer DEEPEST_NESTING) [
      | inl shallow ↦ shallow
      | inr deep ↦ absurd (h [] too_deep (nested_deep refl refl (omega arith)))
    ]

-- ---- what has no fault can be written

mutual
  member_spellable : (d outer : ℕ) (t : Tree) → d ≤ outer → HasNoFault outer AsElement t → has_long_double t ≡ false → IsSpellableMember d t
  member_spellable d outer void e h p =
      absurd (h [] bad_typedef (out_of_place refl refl))
  member_spellable d outer (scalar s) e h p = p
  member_spellable d outer (left_out k) e h p =
      absurd (h [] (left_out_type (left_out k)) (left_out_kind refl))
  member_spellable d outer (structure ts) e h p =
      struct_spellable d outer AsElement ts e h p
  member_spellable d outer (array (tree t no_trees) (suc n)) e h p =
      let below : suc n < TOO_GREAT = omega (arith, small_count outer AsElement t (suc n) h) in
      (below, (member_spellable d (outer + 1) t (omega arith) (part_is_right (array (tree t no_trees) (suc n)) h 0 (omega arith)) (neither (has_long_double t) false p).0, tt))
  member_spellable d outer (array _ _) e h p =
      absurd (h [] bad_typedef (misshapen refl refl))

  struct_spellable : (d outer : ℕ) (role : Role) (ts : Trees) → d ≤ outer → HasNoFault outer role (structure ts) → has_long_double (structure ts) ≡ false → (d < MOST_OPEN) × AreSpellableMembers (suc d) ts
  struct_spellable d outer role no_trees e h p =
      absurd (h [] bad_typedef (misshapen refl refl))
  struct_spellable d outer role (tree t ts) e h p =
      let shallow : d < MOST_OPEN = omega (arith, not_deep outer role (tree t ts) h) in
      let right : AllRight (outer + 1) (tree t ts) = part_is_right (structure (tree t ts)) h in
      let plain = neither (has_long_double t) (have_long_double ts) p in
      (shallow, (member_spellable (suc d) (outer + 1) t (omega arith) (right 0 (omega arith)) plain.0, more_spellable (suc d) (outer + 1) 1 ts (omega arith) (λ j below. right (suc j) (omega arith)) plain.1 (omega (arith, few_members outer role (tree t ts) h))))

  more_spellable : (d outer i : ℕ) (ts : Trees) → d ≤ outer → AllRight outer ts → have_long_double ts ≡ false → i + length (list_of ts) ≤ TOO_GREAT → AreMoreSpellable d i ts
  more_spellable d outer i no_trees e right plain few = tt
  more_spellable d outer i (tree t ts) e right plain few =
      let parts = neither (has_long_double t) (have_long_double ts) plain in
      (omega arith, member_spellable d outer t e (right 0 (omega arith)) parts.0, more_spellable d outer (i + 1) ts e (λ j below. right (suc j) (omega arith)) parts.1 (omega arith))

value_spellable : (t : Tree) → IsArgumentType t → has_long_double t ≡ false → IsSpellableValue t
value_spellable (scalar s) h p = p
value_spellable (left_out k) h p =
    absurd (h [] (left_out_type (left_out k)) (left_out_kind refl))
value_spellable (structure ts) h p =
    struct_spellable 0 0 AsArgument ts (omega arith) h p
value_spellable _ h p =
    absurd (h [] bad_typedef (out_of_place refl refl))

result_spellable : (t : Tree) → IsResultType t → has_long_double t ≡ false → IsSpellableResult t
result_spellable void h p = tt
result_spellable (scalar s) h p = p
result_spellable (left_out k) h p =
    absurd (h [] (left_out_type (left_out k)) (left_out_kind refl))
result_spellable (structure ts) h p =
    struct_spellable 0 0 AsResult ts (omega arith) h p
result_spellable (array ts n) h p =
    absurd (h [] bad_typedef (out_of_place refl refl))

values_spellable : (ts : List Tree) → ((i : ℕ) → i < length ts → IsArgumentType (tree_at ts i)) → ((i : ℕ) → i < length ts → has_long_double (tree_at ts i) ≡ false) → AreSpellableValues ts
values_spellable [] h p = tt
values_spellable (t ∷ ts) h p =
    (value_spellable t (h 0 (omega arith)) (p 0 (omega arith)), values_spellable ts (λ i below. h (suc i) (omega arith)) (λ i below. p (suc i) (omega arith)))

pub spellable_result : (s : Signature) → SignatureHasNoFault s → IsSpellableResult s.result_type
spellable_result s right = result_spellable s.result_type (result_is_right s right) (faultless_is_plain s right).result_type

pub spellable_arguments : (s : Signature) → SignatureHasNoFault s → AreSpellableValues s.arguments
spellable_arguments s right =
    values_spellable s.arguments (argument_is_right s right) (faultless_is_plain s right).arguments

module _ (s : Signature) (right : SignatureHasNoFault s) (all : FixesAll s) where
  may_be_variadic : (ts : List Tree) (o : Option ℕ) → s.arguments ≡ ts → s.fixed ≡ o → MayBeVariadic ts (is_some o)
  may_be_variadic [] (Some n) e f =
      absurd (right (bad_fixed n (length s.arguments)) (fixed_outside f (inl (all n f ∙ ap length e))))
  may_be_variadic _ _ e f = tt

  pub spellable_dots : MayBeVariadic s.arguments (is_some s.fixed)
  spellable_dots = may_be_variadic s.arguments s.fixed refl refl
