-- The parts of a value of the code: their types, and what the value is, given theirs.
use Rattle.std.proofs.Common.{◌≡◌, ℕ, zero, suc, ◌+◌, ◌<◌, ◌≤◌, true, List, [], ◌∷◌, Some, None, length, Box, Vec, Global, ◌-ℤ◌, ◌≢◌, refl, ap, sym, ◌∙◌, subst, arith, get_or}
use Rattle.std.proofs.lemmas.Bool.{false≢true}
use Rattle.ffi3_type_spec.specs.Tree.{Tree, scalar, trees_of, elements_of}
use Rattle.ffi3_type_spec.specs.Integer.{scalar_of, is_number, bytes_of_number, number_of, sum_of}
use Rattle.ffi3_type_spec.specs.Value.{ValueTree, struct_value, leaf_value, bytes_of, list_of_values}
use Rattle.ffi3_type_spec.specs.Value as values
use Rattle.ffi3_types.specs.declared.FfiType.{FfiType}
use Rattle.ffi3_types.specs.TreeOf.{tree_of}
use Rattle.ffi3_script_spec.specs.Script as script
use Rattle.ffi3_script_spec.specs.Meaning.{Known, value_of, values_of}
use Rattle.ffi3_script_spec.specs.Typed.{Kinds, has_type, have_types, own_type, is_at, is_integer_of, is_number_of, trees_in}
use Rattle.ffi3_script_spec.specs.Values.{is_list_type}
use Rattle.ffi3_script_spec.proofs.TypedValues.{elements_in}
use Rattle.ffi3_script_spec.proofs.Fits.{number_by_integer, values_of-list_of_values}
use Rattle.ffi3_script_spec.proofs.Tests.{and_left, and_right}
use Rattle.ffi3_script_body.specs.ExprOf.{expression_of, expressions_in}
use Rattle.ffi3_script_body.specs.declared.expr.Expr.{Expr, Constant, Composed, Composed', Argument, Outcome, User, Element, Element', TypedAs, TypedAs', Sum, Sum', Difference, Difference', Cast, Cast', roll-Expr, roll-out-Expr}
use Rattle.ffi3_script_body.specs.declared.expr.Expr.TheVariants.{rolls-Composed, outs-Composed'}
use Rattle.ffi3_script_body.specs.ListTypes.{element_types}
use Rattle.ffi3_script_body.proofs.ListTypes.{some_types, no_types}
use Rattle.ffi3_script_body.proofs.Rows.{composed_is}
use Rattle.ffi3_script_body.proofs.Evaluated.{has_own_type, number_scalar}

-- ---- types

-- an expression is this, and has the type
has_type_as : (k : Kinds) (t : Tree) (e f : Expr) → e ≡ f → has_type k t (expression_of e) ≡ true → has_type k t (expression_of f) ≡ true
has_type_as k t e f is h = subst (λ x. has_type k t (expression_of x) ≡ true) is h

-- where a value is at hand
pub has_type_at : (k : Kinds) (t : Tree) (e f : Expr) → e ≡ f → has_type k t (expression_of f) ≡ true → has_type k t (expression_of e) ≡ true
has_type_at k t e f is h = has_type_as k t f e (sym is) h

module _ (k : Kinds) (t : Tree) (e : Expr) (h : has_type k t (expression_of e) ≡ true) where
  composed_here : (es : Vec Expr Global) → e ≡ Composed es → has_type k t (script.composed (expressions_in es.items)) ≡ true
  composed_here es is =
      subst (λ x. has_type k t x ≡ true) (composed_is es) (has_type_as k t e (Composed es) is h)

  -- a list has a type whose values are lists
  pub of_list_type : (es : Vec Expr Global) → e ≡ Composed es → None ≡ element_types t → ⊥
  of_list_type es is none =
      false≢true (sym (no_types t none) ∙ and_left (is_list_type t) _ (composed_here es is))

  pub of_composed : (types : List Tree) (es : Vec Expr Global) → Some types ≡ element_types t → e ≡ Composed es → have_types k (trees_of types) (expressions_in es.items) ≡ true
  of_composed types es some is =
      let same : trees_in t ≡ trees_of types = sym (elements_in t) ∙ ap trees_of (sym (some_types t types some).1) in
      subst (λ ts. have_types k ts (expressions_in es.items) ≡ true) same (and_right (is_list_type t) _ (composed_here es is))

  module _ (ty : FfiType) (a b : Box Expr Global) where
    pub of_sum : e ≡ Sum ty a b → (is_number_of (scalar_of (tree_of ty)) t ≡ true) × ((has_type k t (expression_of a.value) ≡ true) × (has_type k t (expression_of b.value) ≡ true))
    of_sum is =
        let here = has_type_as k t e (Sum ty a b) is h in
        let both = and_right (is_integer_of (scalar_of (tree_of ty)) t) _ here in
        (number_by_integer (scalar_of (tree_of ty)) t (and_left (is_integer_of (scalar_of (tree_of ty)) t) _ here), (and_left (has_type k t (expression_of a.value)) _ both, and_right (has_type k t (expression_of a.value)) _ both))

    pub of_difference : e ≡ Difference ty a b → (is_number_of (scalar_of (tree_of ty)) t ≡ true) × ((has_type k t (expression_of a.value) ≡ true) × (has_type k t (expression_of b.value) ≡ true))
    of_difference is =
        let here = has_type_as k t e (Difference ty a b) is h in
        let both = and_right (is_integer_of (scalar_of (tree_of ty)) t) _ here in
        (number_by_integer (scalar_of (tree_of ty)) t (and_left (is_integer_of (scalar_of (tree_of ty)) t) _ here), (and_left (has_type k t (expression_of a.value)) _ both, and_right (has_type k t (expression_of a.value)) _ both))

  pub of_cast : (from to : FfiType) (a : Box Expr Global) → e ≡ Cast from to a → (is_number_of (scalar_of (tree_of to)) t ≡ true) × ((is_number (scalar_of (tree_of from)) ≡ true) × (has_type k (scalar (scalar_of (tree_of from))) (expression_of a.value) ≡ true))
  of_cast from to a is =
      let here = has_type_as k t e (Cast from to a) is h in
      let inner = and_right (is_number_of (scalar_of (tree_of to)) t) _ here in
      (and_left (is_number_of (scalar_of (tree_of to)) t) _ here, (and_left (is_number (scalar_of (tree_of from))) _ inner, and_right (is_number (scalar_of (tree_of from))) _ inner))

-- with a type of its own
module _ (k : Kinds) (e : Expr) (h : has_type k (own_type k (expression_of e)) (expression_of e) ≡ true) where
  own_as : (f : Expr) → e ≡ f → has_type k (own_type k (expression_of f)) (expression_of f) ≡ true
  own_as f is =
      subst (λ x. has_type k (own_type k (expression_of x)) (expression_of x) ≡ true) is h

  pub of_element : (whole : Box Expr Global) (i : ℕ) → e ≡ Element whole i → is_at (elements_of (own_type k (expression_of whole.value))) i (own_type k (expression_of (Element whole i))) ≡ true
  of_element whole i is =
      and_left (is_at (elements_of (own_type k (expression_of whole.value))) i (own_type k (expression_of (Element whole i)))) _ (own_as (Element whole i) is)

  pub of_whole : (whole : Box Expr Global) (i : ℕ) → e ≡ Element whole i → has_type k (own_type k (expression_of whole.value)) (expression_of whole.value) ≡ true
  of_whole whole i is =
      and_right (is_at (elements_of (own_type k (expression_of whole.value))) i (own_type k (expression_of (Element whole i)))) _ (own_as (Element whole i) is)

  pub of_typed : (ty : FfiType) (inner : Box Expr Global) → e ≡ TypedAs ty inner → has_type k (tree_of ty) (expression_of inner.value) ≡ true
  of_typed ty inner is = and_right _ _ (and_right _ _ (own_as (TypedAs ty inner) is))

-- ---- nodes

-- how many nodes an expression has
abbrev mutual
  pub expression_nodes : script.Expression → ℕ
  expression_nodes (script.composed es) = expressions_nodes es + 1
  expression_nodes (script.element e i) = expression_nodes e + 1
  expression_nodes (script.typed_as t e) = expression_nodes e + 1
  expression_nodes (script.sum s e f) = expression_nodes e + expression_nodes f + 1
  expression_nodes (script.difference s e f) = expression_nodes e + expression_nodes f + 1
  expression_nodes (script.cast from to e) = expression_nodes e + 1
  expression_nodes _ = 1

  pub expressions_nodes : script.Expressions → ℕ
  expressions_nodes script.no_expressions = 0
  expressions_nodes (script.expression e es) = expression_nodes e + expressions_nodes es

abbrev pub nodes : Expr → ℕ
nodes e = expression_nodes (expression_of e)

abbrev pub nodes_in : List Expr → ℕ
nodes_in es = expressions_nodes (expressions_in es)

pub nodes_at : (es : List Expr) (i : ℕ) (e : Expr) → i < length es → e ≡ get_or es i e → nodes e ≤ nodes_in es
nodes_at [] i e below is = absurd (omega arith)
nodes_at (x ∷ es) zero e below is =
    let same : nodes e ≡ nodes x = ap nodes is in
    omega (arith, same)
nodes_at (x ∷ es) (suc i) e below is = omega (arith, nodes_at es i e (omega arith) is)

module _ (e part : Expr) where
  pub in_element : (whole : Box Expr Global) (i : ℕ) → e ≡ Element whole i → part ≡ whole.value → nodes part + 1 ≤ nodes e
  in_element whole i is here =
      let outer : nodes e ≡ nodes whole.value + 1 = ap nodes is in
      omega (arith, outer, ap nodes here)

  pub in_typed : (ty : FfiType) (inner : Box Expr Global) → e ≡ TypedAs ty inner → part ≡ inner.value → nodes part + 1 ≤ nodes e
  in_typed ty inner is here =
      let outer : nodes e ≡ nodes inner.value + 1 = ap nodes is in
      omega (arith, outer, ap nodes here)

  pub in_cast : (from to : FfiType) (inner : Box Expr Global) → e ≡ Cast from to inner → part ≡ inner.value → nodes part + 1 ≤ nodes e
  in_cast from to inner is here =
      let outer : nodes e ≡ nodes inner.value + 1 = ap nodes is in
      omega (arith, outer, ap nodes here)

  module _ (ty : FfiType) (a b : Box Expr Global) where
    pub left_in_sum : e ≡ Sum ty a b → part ≡ a.value → nodes part + 1 ≤ nodes e
    left_in_sum is here =
        let outer : nodes e ≡ nodes a.value + nodes b.value + 1 = ap nodes is in
        omega (arith, outer, ap nodes here)

    pub right_in_sum : e ≡ Sum ty a b → part ≡ b.value → nodes part + 1 ≤ nodes e
    right_in_sum is here =
        let outer : nodes e ≡ nodes a.value + nodes b.value + 1 = ap nodes is in
        omega (arith, outer, ap nodes here)

    pub left_in_difference : e ≡ Difference ty a b → part ≡ a.value → nodes part + 1 ≤ nodes e
    left_in_difference is here =
        let outer : nodes e ≡ nodes a.value + nodes b.value + 1 = ap nodes is in
        omega (arith, outer, ap nodes here)

    pub right_in_difference : e ≡ Difference ty a b → part ≡ b.value → nodes part + 1 ≤ nodes e
    right_in_difference is here =
        let outer : nodes e ≡ nodes a.value + nodes b.value + 1 = ap nodes is in
        omega (arith, outer, ap nodes here)

pub in_composed : (e : Expr) (es : Vec Expr Global) → e ≡ Composed es → nodes_in es.items + 1 ≤ nodes e
in_composed e es is =
    let outer : nodes e ≡ nodes_in es.items + 1 = ap expression_nodes (ap expression_of is ∙ composed_is es) in
    omega (arith, outer)

-- ---- values

module _ (k : Known) (e : Expr) where
  pub composed_value : (es : Vec Expr Global) (vs : List ValueTree) → e ≡ Composed es → vs ≡ list_of_values (values_of k (expressions_in es.items)) → struct_value (values.values_of vs) ≡ value_of k (expression_of e)
  composed_value es vs is are =
      ap (λ ws. struct_value (values.values_of ws)) are ∙ ap struct_value (values_of-list_of_values (values_of k (expressions_in es.items))) ∙ ap (value_of k) (sym (ap expression_of is ∙ composed_is es))

  module _ (t : Tree) (ty : FfiType) (a b : Box Expr Global) (v w : ValueTree) (is_number : is_number_of (scalar_of (tree_of ty)) t ≡ true) (v_is : v ≡ value_of k (expression_of a.value)) (w_is : w ≡ value_of k (expression_of b.value)) where
    pub sum_value : e ≡ Sum ty a b → leaf_value (sum_of (scalar_of t) (bytes_of v) (bytes_of w)) ≡ value_of k (expression_of e)
    sum_value is =
        ap (λ s. leaf_value (sum_of s (bytes_of v) (bytes_of w))) (number_scalar (scalar_of (tree_of ty)) t is_number) ∙ ap (λ x. leaf_value (sum_of (scalar_of (tree_of ty)) (bytes_of x) (bytes_of w))) v_is ∙ ap (λ x. leaf_value (sum_of (scalar_of (tree_of ty)) (bytes_of (value_of k (expression_of a.value))) (bytes_of x))) w_is ∙ ap (λ x. value_of k (expression_of x)) (sym is)

    pub difference_value : e ≡ Difference ty a b → leaf_value (bytes_of_number (scalar_of t) (number_of (scalar_of t) (bytes_of v) -ℤ number_of (scalar_of t) (bytes_of w))) ≡ value_of k (expression_of e)
    difference_value is =
        ap (λ s. leaf_value (bytes_of_number s (number_of s (bytes_of v) -ℤ number_of s (bytes_of w)))) (number_scalar (scalar_of (tree_of ty)) t is_number) ∙ ap (λ x. leaf_value (bytes_of_number (scalar_of (tree_of ty)) (number_of (scalar_of (tree_of ty)) (bytes_of x) -ℤ number_of (scalar_of (tree_of ty)) (bytes_of w)))) v_is ∙ ap (λ x. leaf_value (bytes_of_number (scalar_of (tree_of ty)) (number_of (scalar_of (tree_of ty)) (bytes_of (value_of k (expression_of a.value))) -ℤ number_of (scalar_of (tree_of ty)) (bytes_of x)))) w_is ∙ ap (λ x. value_of k (expression_of x)) (sym is)

  pub cast_value : (t : Tree) (from to : FfiType) (a : Box Expr Global) (v : ValueTree) → is_number_of (scalar_of (tree_of to)) t ≡ true → v ≡ value_of k (expression_of a.value) → e ≡ Cast from to a → leaf_value (bytes_of_number (scalar_of t) (number_of (scalar_of (tree_of from)) (bytes_of v))) ≡ value_of k (expression_of e)
  cast_value t from to a v is_number v_is is =
      ap (λ s. leaf_value (bytes_of_number s (number_of (scalar_of (tree_of from)) (bytes_of v)))) (number_scalar (scalar_of (tree_of to)) t is_number) ∙ ap (λ x. leaf_value (bytes_of_number (scalar_of (tree_of to)) (number_of (scalar_of (tree_of from)) (bytes_of x)))) v_is ∙ ap (λ x. value_of k (expression_of x)) (sym is)

-- ---- forms

abbrev boxed : Box (Unit {0}) Global → Expr → Box Expr Global
boxed p e = record { ptr = p.ptr; alloc = p.alloc; value = e }

-- what is none of the others has a type of its own
pub has_own_by_default : (e : Expr) → ((bytes : _) → e ≢ Constant bytes) → ((es : _) → e ≢ Composed es) → ((ty a b : _) → e ≢ Sum ty a b) → ((ty a b : _) → e ≢ Difference ty a b) → ((from to a : _) → e ≢ Cast from to a) → has_own_type (expression_of e) ≡ true
has_own_by_default (Constant bytes) no_constant no_composed no_sum no_difference no_cast = absurd (no_constant bytes refl)
has_own_by_default (Composed' shape es) no_constant no_composed no_sum no_difference no_cast =
    absurd (no_composed _ (sym (roll-out-Expr (Composed' shape es)) ∙ ap roll-Expr (outs-Composed' shape es) ∙ rolls-Composed _))
has_own_by_default (Argument i) no_constant no_composed no_sum no_difference no_cast = refl
has_own_by_default (Outcome i) no_constant no_composed no_sum no_difference no_cast = refl
has_own_by_default User no_constant no_composed no_sum no_difference no_cast = refl
has_own_by_default (Element' p e i) no_constant no_composed no_sum no_difference no_cast = refl
has_own_by_default (TypedAs' ty p e) no_constant no_composed no_sum no_difference no_cast = refl
has_own_by_default (Sum' ty p a q b) no_constant no_composed no_sum no_difference no_cast =
    absurd (no_sum ty (boxed p a) (boxed q b) refl)
has_own_by_default (Difference' ty p a q b) no_constant no_composed no_sum no_difference no_cast =
    absurd (no_difference ty (boxed p a) (boxed q b) refl)
has_own_by_default (Cast' from to p a) no_constant no_composed no_sum no_difference no_cast =
    absurd (no_cast from to (boxed p a) refl)
