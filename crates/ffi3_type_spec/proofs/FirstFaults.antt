-- The first fault that is computed is the first in the order of faults, and it is there wherever one is.
use Rattle.std.proofs.Common.{◌≡◌, ℕ, zero, suc, ◌+◌, ◌<◌, ◌≤◌, ◌⊎◌, inl, inr, Bool, true, false, List, [], ◌∷◌, length, Option, Some, None, option_map, refl, ap, sym, ◌∙◌, subst, cond, nat_lt, arith}
use Rattle.std.specs.Prelude.{◌&&◌, not}
use Rattle.std.proofs.lemmas.Bool.{cases_lt, cases_order, ltb-true, ltb-false}
use Rattle.ffi3_type_spec.specs.declared.limits.TheConstants.{LARGEST_TYPE, DEEPEST_NESTING}
use Rattle.ffi3_type_spec.specs.declared.Role.{Role}
use Rattle.ffi3_type_spec.specs.declared.Role.TheVariants.{AsElement}
use Rattle.ffi3_type_spec.specs.Tree.{Tree, void, scalar, left_out, structure, array, Trees, no_trees, tree, list_of, tree_at, parts_of}
use Rattle.ffi3_type_spec.specs.Layout.{size_of}
use Rattle.ffi3_type_spec.specs.Fault.{Fault, bad_typedef, too_large, too_deep, IsFault, out_of_place, misshapen, takes, takes_void, has_parts, is_misshapen, rank, IsBefore, HasNoFault, IsFirstFault}
use Rattle.ffi3_type_spec.proofs.Faults.{OwnFault, own_place, own_kind, own_depth, own_shape, own_size, own_fault, scalar_faults, void_faults, left_out_faults, fault_inside, first_deep, first_bad, first_void, first_left_out, first_in_part, right_by_parts, first_large}
use Rattle.ffi3_type_spec.specs.FirstFault.{Found, or_else, inside_element, fault_of_size, in_composite, unless_deep, first_fault, first_inside}

-- ---- what the computed fault says

abbrev pub Answers : ℕ → Role → Tree → Option Found → Type 0
Answers outer role t None = HasNoFault outer role t
Answers outer role t (Some f) = IsFirstFault outer role t f.0 f.1

-- what holds of a type and of the first n others holds of the first n + 1 of all
pub in_front_of : (P : Tree → Type 0) (t : Tree) (ts : List Tree) (n : ℕ) → P t → ((j : ℕ) → j < n → P (tree_at ts j)) → (j : ℕ) → j < suc n → P (tree_at (t ∷ ts) j)
in_front_of P t ts n first others zero h = first
in_front_of P t ts n first others (suc j) h = others j (omega arith)

-- the elements before one have no fault, and it has a first one
pub record FirstElement (outer i : ℕ) (ts : List Tree) (f : Found) : Type 0 where
  pub number : ℕ
  pub way : List ℕ
  pub leads : f.0 ≡ (i + number) ∷ way
  pub there : number < length ts
  pub right_before : (j : ℕ) → j < number → HasNoFault outer AsElement (tree_at ts j)
  pub first : IsFirstFault outer AsElement (tree_at ts number) way f.1

-- of elements, the first of them number i
abbrev ElementsAnswer : ℕ → ℕ → List Tree → Option Found → Type 0
ElementsAnswer outer i ts None =
    (j : ℕ) → j < length ts → HasNoFault outer AsElement (tree_at ts j)
ElementsAnswer outer i ts (Some f) = FirstElement outer i ts f

-- one more element in front
in_front : (outer i : ℕ) (t : Tree) (ts : List Tree) (f g : Option Found) → Answers outer AsElement t f → ElementsAnswer outer (i + 1) ts g → ElementsAnswer outer i (t ∷ ts) (or_else (option_map (inside_element i) f) g)
in_front outer i t ts (Some f) g first others =
    record { number = 0; way = f.0; leads = ap (λ n. n ∷ f.0) (omega arith); there = omega arith; right_before = λ j h. absurd (omega arith); first = first }
in_front outer i t ts None None right rights = in_front_of (HasNoFault outer AsElement) t ts (length ts) right rights
in_front outer i t ts None (Some g) right first =
    record { number = suc first.number; way = first.way; leads = first.leads ∙ ap (λ n. n ∷ first.way) (omega arith); there = omega (arith, first.there); right_before = in_front_of (HasNoFault outer AsElement) t ts first.number right first.right_before; first = first.first }

-- a struct or an array
module _ (outer : ℕ) (role : Role) (root : Tree) (composite : has_parts root ≡ true) where
  -- that is not too deep
  module _ (shallow : outer < DEEPEST_NESTING) where
    -- in its place and well shaped
    module _ (placed : takes role root ≡ true) (shaped : is_misshapen root ≡ false) where
      by_size : (right : (j : ℕ) → j < length (parts_of root) → HasNoFault (outer + 1) AsElement (tree_at (parts_of root) j)) (b : Bool) → nat_lt LARGEST_TYPE (size_of root) ≡ b → Answers outer role root (cond b (Some ([], too_large (size_of root))) None)
      by_size right true e =
          first_large root composite shallow placed shaped right (ltb-true LARGEST_TYPE _ e)
      by_size right false e =
          right_by_parts root composite shallow placed shaped right (ltb-false LARGEST_TYPE _ e)

      by_elements : (f : Option Found) → ElementsAnswer (outer + 1) 0 (parts_of root) f → Answers outer role root (or_else f (fault_of_size (size_of root)))
      by_elements None right = by_size right (nat_lt LARGEST_TYPE (size_of root)) refl
      by_elements (Some f) e =
          let leads : e.number ∷ e.way ≡ f.0 = ap (λ n. n ∷ e.way) (omega arith) ∙ sym e.leads in
          subst (λ path. IsFirstFault outer role root path f.1) leads (first_in_part root composite shallow placed shaped e.number e.way f.1 e.there e.right_before e.first)

    by_own : (f : Option Found) → ElementsAnswer (outer + 1) 0 (parts_of root) f → (placed bad : Bool) → takes role root ≡ placed → is_misshapen root ≡ bad → Answers outer role root (cond (placed && not bad) (or_else f (fault_of_size (size_of root))) (Some ([], bad_typedef)))
    by_own f e false bad p s = first_bad root shallow (out_of_place refl p)
    by_own f e true true p s = first_bad root shallow (misshapen refl s)
    by_own f e true false p s = by_elements p s f e

  by_depth : (f : Option Found) → (outer < DEEPEST_NESTING → Answers outer role root f) → (b : Bool) → nat_lt outer DEEPEST_NESTING ≡ b → Answers outer role root (cond b f (Some ([], too_deep)))
  by_depth f shallow true e = shallow (ltb-true outer DEEPEST_NESTING e)
  by_depth f shallow false e =
      let deep = ltb-false outer DEEPEST_NESTING e in
      first_deep root composite (omega arith)

  composite_answer : (f : Option Found) → ElementsAnswer (outer + 1) 0 (parts_of root) f → Answers outer role root (unless_deep outer (in_composite role root f))
  composite_answer f e =
      by_depth (in_composite role root f) (λ shallow. by_own shallow f e (takes role root) (is_misshapen root) refl refl) (nat_lt outer DEEPEST_NESTING) refl

void_answer : (outer : ℕ) (role : Role) (taken : Bool) → takes_void role ≡ taken → Answers outer role void (cond taken None (Some ([], bad_typedef)))
void_answer outer role true e =
    λ path f fault. let none : true ≡ false = sym e ∙ (void_faults path f fault).2 in cc
void_answer outer role false e = first_void e

mutual
  pub answers : (outer : ℕ) (role : Role) (t : Tree) → Answers outer role t (first_fault outer role t)
  answers outer role void = void_answer outer role (takes_void role) refl
  answers outer role (scalar s) = scalar_faults s
  answers outer role (left_out k) = first_left_out k
  answers outer role (structure ts) =
      composite_answer outer role (structure ts) refl (first_inside (outer + 1) 0 ts) (elements_answer (outer + 1) 0 ts)
  answers outer role (array ts n) =
      composite_answer outer role (array ts n) refl (first_inside (outer + 1) 0 ts) (elements_answer (outer + 1) 0 ts)

  elements_answer : (outer i : ℕ) (ts : Trees) → ElementsAnswer outer i (list_of ts) (first_inside outer i ts)
  elements_answer outer i no_trees = λ j h. absurd (omega arith)
  elements_answer outer i (tree t ts) =
      in_front outer i t (list_of ts) (first_fault outer AsElement t) (first_inside outer (i + 1) ts) (answers outer AsElement t) (elements_answer outer (i + 1) ts)

pub right_by_none : (outer : ℕ) (role : Role) (t : Tree) → first_fault outer role t ≡ None → HasNoFault outer role t
right_by_none outer role t e = subst (Answers outer role t) e (answers outer role t)

-- ---- no other fault is the first

rank_low : (f : Fault) → rank f ≤ 2
rank_low bad_typedef = omega arith
rank_low _ = omega arith

-- the faults that a struct or an array of a size may have itself
data OneOf (size : ℕ) : Fault → Type 0 where
  of_depth : OneOf size too_deep
  of_shape : OneOf size bad_typedef
  of_size : OneOf size (too_large size)

one_by_rank : (size : ℕ) (f g : Fault) → OneOf size f → OneOf size g → rank f ≡ rank g → f ≡ g
one_by_rank size _ _ of_depth of_depth e = refl
one_by_rank size _ _ of_shape of_shape e = refl
one_by_rank size _ _ of_size of_size e = refl
one_by_rank size _ _ _ _ e = absurd (omega arith)

module _ {outer : ℕ} {role : Role} where
  own_is_one : (t : Tree) (f : Fault) → has_parts t ≡ true → OwnFault outer role t f → OneOf (size_of t) f
  own_is_one t f composite (own_place bad) = of_shape
  own_is_one t f composite (own_kind is) =
      let none : true ≡ false = sym composite ∙ ap has_parts is in absurd (cc)
  own_is_one t f composite (own_depth parts deep) = of_depth
  own_is_one t f composite (own_shape bad) = of_shape
  own_is_one t f composite (own_size parts large) = of_size

  composite_by_rank : (t : Tree) (f g : Fault) → has_parts t ≡ true → IsFault outer role t [] f → IsFault outer role t [] g → rank f ≡ rank g → f ≡ g
  composite_by_rank t f g composite a b e =
      one_by_rank (size_of t) f g (own_is_one t f composite (own_fault t f a)) (own_is_one t g composite (own_fault t g b)) e

  -- two faults of one node that have the same rank are the same
  same_by_rank : (t : Tree) (f g : Fault) → IsFault outer role t [] f → IsFault outer role t [] g → rank f ≡ rank g → f ≡ g
  same_by_rank void f g a b e = (void_faults [] f a).1 ∙ sym (void_faults [] g b).1
  same_by_rank (scalar s) f g a b e = absurd (scalar_faults s [] f a)
  same_by_rank (left_out k) f g a b e = (left_out_faults k [] f a).1 ∙ sym (left_out_faults k [] g b).1
  same_by_rank (structure ts) f g a b e = composite_by_rank (structure ts) f g refl a b e
  same_by_rank (array ts n) f g a b e = composite_by_rank (array ts n) f g refl a b e

-- the one comes before the other, or they are the same
abbrev Ordered : List ℕ → Fault → List ℕ → Fault → Type 0
Ordered p f q g = IsBefore p f q g ⊎ (IsBefore q g p f ⊎ ((p ≡ q) × (f ≡ g)))

ordered_at_node : (f g : Fault) → (rank f ≡ rank g → f ≡ g) → Ordered [] f [] g
ordered_at_node f g same =
    elim (cases_order (rank f) (rank g)) [
      | inl e ↦ inr (inr (refl, same e))
      | inr other ↦ elim other [ inl less ↦ inl less | inr more ↦ inr (inl more) ]
    ]

ordered_inside : (i j : ℕ) (p : List ℕ) (f : Fault) (q : List ℕ) (g : Fault) → (i ≡ j → Ordered p f q g) → Ordered (i ∷ p) f (j ∷ q) g
ordered_inside i j p f q g inner =
    elim (cases_order i j) [
      | inl e ↦ elim (inner e) [
        | inl before ↦ inl (inr (e, before))
        | inr rest ↦ elim rest [ inl after ↦ inr (inl (inr (sym e, after))) | inr same ↦ inr (inr (λ k. e k ∷ same.0 k, same.1)) ]
      ]
      | inr other ↦ elim other [ inl less ↦ inl (inl less) | inr more ↦ inr (inl (inl more)) ]
    ]

ordered : (outer : ℕ) (role : Role) (t : Tree) (p : List ℕ) (f : Fault) (q : List ℕ) (g : Fault) → IsFault outer role t p f → IsFault outer role t q g → Ordered p f q g
ordered outer role t [] f [] g a b = ordered_at_node f g (same_by_rank t f g a b)
ordered outer role t [] f (j ∷ q) g a b =
    elim (cases_lt (rank f) 2) [ inl low ↦ inl low | inr high ↦ inr (inl (omega (arith, rank_low f))) ]
ordered outer role t (i ∷ p) f [] g a b =
    elim (cases_lt (rank g) 2) [ inl low ↦ inr (inl low) | inr high ↦ inl (omega (arith, rank_low g)) ]
ordered outer role t (i ∷ p) f (j ∷ q) g a b =
    ordered_inside i j p f q g (λ e. ordered (outer + 1) AsElement (tree_at (parts_of t) i) p f q g (fault_inside t i p f a).1 (subst (λ k. IsFault (outer + 1) AsElement (tree_at (parts_of t) k) q g) (sym e) (fault_inside t j q g b).1))

module _ {outer : ℕ} {role : Role} {t : Tree} where
  pub one_first_fault : (p : List ℕ) (f : Fault) (q : List ℕ) (g : Fault) → IsFirstFault outer role t p f → IsFirstFault outer role t q g → (p ≡ q) × (f ≡ g)
  one_first_fault p f q g a b =
      elim (ordered outer role t p f q g a.is_there b.is_there) [
        | inl before ↦ absurd (b.none_before p f a.is_there before)
        | inr rest ↦ elim rest [ inl after ↦ absurd (a.none_before q g b.is_there after) | inr same ↦ same ]
      ]

  some_by_first : (path : List ℕ) (f : Fault) → IsFirstFault outer role t path f → (found : Option Found) → Answers outer role t found → found ≡ Some (path, f)
  some_by_first path f first None right = absurd (right path f first.is_there)
  some_by_first path f first (Some g) other =
      let same = one_first_fault g.0 g.1 path f other first in
      λ i. Some (same.0 i, same.1 i)

  none_by_right : HasNoFault outer role t → (found : Option Found) → Answers outer role t found → found ≡ None
  none_by_right right None e = refl
  none_by_right right (Some g) first = absurd (right g.0 g.1 first.is_there)

pub found_by_first : (outer : ℕ) (role : Role) (t : Tree) (path : List ℕ) (f : Fault) → IsFirstFault outer role t path f → first_fault outer role t ≡ Some (path, f)
found_by_first outer role t path f first =
    some_by_first path f first (first_fault outer role t) (answers outer role t)

pub none_found : (outer : ℕ) (role : Role) (t : Tree) → HasNoFault outer role t → first_fault outer role t ≡ None
none_found outer role t right =
    none_by_right right (first_fault outer role t) (answers outer role t)
