-- An element of a value is the part that the way down leads to, and each element on the way is there.
use Rattle.std.proofs.Common.{◌≡◌, ℕ, ◌<◌, ◌≤◌, true, List, [], length, refl, ap, sym, ◌∙◌, subst, arith}
use Rattle.std.specs.Prelude.{nat_lt}
use Rattle.std.proofs.lemmas.Bool.{false≢true, ltb-true}
use Rattle.ffi3_type_spec.specs.Tree.{Tree, void, scalar, left_out, structure, array, no_trees, tree, elements_of}
use Rattle.ffi3_type_spec.specs.Value.{ValueTree, void_value, leaf_value, struct_value, list_of_values, fits}
use Rattle.ffi3_type_spec.specs.Value as values
use Rattle.ffi3_script_spec.specs.Script.{Expression, constant, composed, argument, outcome, user_data, element, typed_as, sum, difference, cast}
use Rattle.ffi3_script_spec.specs.Meaning.{element_value, value_of}
use Rattle.ffi3_script_spec.specs.Meaning as meaning
use Rattle.ffi3_script_spec.specs.Typed.{Kinds, has_type, own_type, is_at}
use Rattle.ffi3_script_spec.proofs.Tests.{and_left, and_right}
use Rattle.ffi3_script_spec.proofs.Fits.{value_fits, values_of-list_of_values}
use Rattle.ffi3_script_body.specs.declared.known.Known.{Known}
use Rattle.ffi3_script_body.specs.KnownAt.{kinds_of, known_of}
use Rattle.ffi3_script_body.specs.PartOf.{IsPart, part_of, whole_of}
use Rattle.ffi3_script_body.proofs.Evaluated.{element_there}
use Rattle.ffi3_script_body.proofs.Parts.{expression_nodes}
use Rattle.ffi3_script_body.proofs.Rows.{list_and_back}

-- what a part is
pub part_value : (k : meaning.Known) (e : Expression) → part_of e (value_of k (whole_of e)) ≡ value_of k e
part_value k (element e i) = ap (λ v. element_value v i) (part_value k e)
part_value k (constant bytes) = refl
part_value k (composed es) = refl
part_value k (argument i) = refl
part_value k (outcome i) = refl
part_value k user_data = refl
part_value k (typed_as t e) = refl
part_value k (sum s e f) = refl
part_value k (difference s e f) = refl
part_value k (cast from to e) = refl

-- what it is a part of has a type of its own too
pub whole_typed : (k : Kinds) (e : Expression) → has_type k (own_type k e) e ≡ true → has_type k (own_type k (whole_of e)) (whole_of e) ≡ true
whole_typed k (element e i) h =
    whole_typed k e (and_right (is_at (elements_of (own_type k e)) i (own_type k (element e i))) _ h)
whole_typed k (constant bytes) h = h
whole_typed k (composed es) h = h
whole_typed k (argument i) h = h
whole_typed k (outcome i) h = h
whole_typed k user_data h = h
whole_typed k (typed_as t e) h = h
whole_typed k (sum s e f) h = h
whole_typed k (difference s e f) h = h
whole_typed k (cast from to e) h = h

pub whole_nodes : (e : Expression) → expression_nodes (whole_of e) ≤ expression_nodes e
whole_nodes (element e i) = omega (arith, whole_nodes e)
whole_nodes (constant bytes) = omega arith
whole_nodes (composed es) = omega arith
whole_nodes (argument i) = omega arith
whole_nodes (outcome i) = omega arith
whole_nodes user_data = omega arith
whole_nodes (typed_as t e) = omega arith
whole_nodes (sum s e f) = omega arith
whole_nodes (difference s e f) = omega arith
whole_nodes (cast from to e) = omega arith

-- no elements have a number
nowhere : (i : ℕ) (t : Tree) → is_at [] i t ≡ true → ⊥
nowhere i t here =
    let below : i < 0 = ltb-true i 0 (and_left (nat_lt i 0) _ here) in
    omega (arith, below)

-- an element of a value that fits
there : (u : Tree) (v : ValueTree) (i : ℕ) (t : Tree) → fits u v ≡ true → is_at (elements_of u) i t ≡ true → i < length (list_of_values (values.elements_of v))
there u (struct_value vs) i t h here =
    element_there u (list_of_values vs) i t (ap (λ ws. fits u (struct_value ws)) (values_of-list_of_values vs) ∙ h) here
there (structure ts) void_value i t h here = absurd (false≢true h)
there (structure ts) (leaf_value bytes) i t h here = absurd (false≢true h)
there (array no_trees n) void_value i t h here = absurd (false≢true h)
there (array no_trees n) (leaf_value bytes) i t h here = absurd (false≢true h)
there (array (tree u us) n) void_value i t h here = absurd (false≢true h)
there (array (tree u us) n) (leaf_value bytes) i t h here = absurd (false≢true h)
there void v i t h here = absurd (nowhere i t here)
there (scalar s) v i t h here = absurd (nowhere i t here)
there (left_out k) v i t h here = absurd (nowhere i t here)

module _ (known : Known) where
  pub are_parts : (e : Expression) → has_type (kinds_of known) (own_type (kinds_of known) e) e ≡ true → IsPart e (value_of (known_of known) (whole_of e))
  are_parts (element e i) h =
      let k = kinds_of known in
      let t = own_type k (element e i) in
      let inner : has_type k (own_type k e) e ≡ true = and_right (is_at (elements_of (own_type k e)) i t) _ h in
      let fit = value_fits k (known_of known) known.arguments_fit known.outcomes_fit (own_type k e) e inner in
      let here = there (own_type k e) (value_of (known_of known) e) i t fit (and_left (is_at (elements_of (own_type k e)) i t) _ h) in
      (are_parts e inner, subst (λ v. i < length (list_of_values (values.elements_of v))) (sym (part_value (known_of known) e)) here)
  are_parts (constant bytes) h = tt
  are_parts (composed es) h = tt
  are_parts (argument i) h = tt
  are_parts (outcome i) h = tt
  are_parts user_data h = tt
  are_parts (typed_as t e) h = tt
  are_parts (sum s e f) h = tt
  are_parts (difference s e f) h = tt
  are_parts (cast from to e) h = tt

-- and so an element of a list that is such a whole
pub part_there : (vs : List ValueTree) (i : ℕ) (whole : ValueTree) → struct_value (values.values_of vs) ≡ whole → i < length (list_of_values (values.elements_of whole)) → i < length vs
part_there vs i whole is here =
    let listed : i < length (list_of_values (values.elements_of (struct_value (values.values_of vs)))) = subst (λ v. i < length (list_of_values (values.elements_of v))) (sym is) here in
    subst (λ us. i < length us) (list_and_back vs) listed
