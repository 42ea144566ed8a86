-- What is evaluated has the type, and the parts of a value of a type have theirs.
use Rattle.std.proofs.Common.{◌≡◌, ℕ, ◌<◌, Bool, true, false, List, length, replicate, ap, sym, ◌∙◌, subst, arith}
use Rattle.std.specs.Prelude.{slice_index_or, nat_lt}
use Rattle.std.proofs.lemmas.Bool.{ltb-true}
use Rattle.ffi3_type_spec.specs.Tree.{Tree, void, scalar, left_out, structure, array, no_trees, tree, tree_at, list_of, elements_of, trees_of-list_of, pointer, Scalar}
use Rattle.ffi3_type_spec.specs.Integer.{scalar_of, is_number, is_number_type}
use Rattle.ffi3_type_spec.specs.Value.{ValueTree, struct_value, void_value, fits}
use Rattle.ffi3_type_spec.specs.Value as values
use Rattle.ffi3_type_spec.proofs.ValueElements.{fitting_lengths}
use Rattle.ffi3_script_spec.specs.Script.{Expression, constant, composed, argument, outcome, user_data, element, typed_as, sum, difference, cast}
use Rattle.ffi3_script_spec.specs.Meaning.{element_value}
use Rattle.ffi3_script_spec.specs.Meaning as meaning
use Rattle.ffi3_script_spec.specs.Typed.{Kinds, has_type, own_type, is_at, is_number_of, same_scalar}
use Rattle.ffi3_script_spec.proofs.Tests.{and_left, and_right, types_are_same, scalars_are_same}
use Rattle.ffi3_script_spec.proofs.Fits.{value_fits}
use Rattle.ffi3_script_body.specs.KnownAt.{kinds_of, known_of}
use Rattle.ffi3_script_body.specs.declared.known.Known.{Known}
use Rattle.ffi3_script_body.proofs.Rows.{list_and_back}

-- a value that is what an expression of a type gives fits the type
pub evaluated_fits : (known : Known) (t : Tree) (e : Expression) (v : ValueTree) → has_type (kinds_of known) t e ≡ true → v ≡ meaning.value_of (known_of known) e → fits t v ≡ true
evaluated_fits known t e v h is =
    subst (λ w. fits t w ≡ true) (sym is) (value_fits (kinds_of known) (known_of known) known.arguments_fit known.outcomes_fit t e h)

-- an expression with a type of its own
abbrev pub has_own_type : Expression → Bool
has_own_type (argument i) = true
has_own_type (outcome i) = true
has_own_type user_data = true
has_own_type (element e i) = true
has_own_type (typed_as t e) = true
has_own_type _ = false

own_is_same : (ts : List Tree) (i : ℕ) (t : Tree) → is_at ts i t ≡ true → tree_at ts i ≡ t
own_is_same ts i t h =
    types_are_same (tree_at ts i) t (and_right (nat_lt i (length ts)) _ h)

own_type-is : (k : Kinds) (t : Tree) (e : Expression) → has_own_type e ≡ true → has_type k t e ≡ true → own_type k e ≡ t
own_type-is k t (argument i) own h = own_is_same k.arguments i t h
own_type-is k t (outcome i) own h = own_is_same k.outcomes i t h
own_type-is k t user_data own h = types_are_same (scalar pointer) t h
own_type-is k t (element e i) own h =
    own_is_same (elements_of (own_type k e)) i t (and_left (is_at (elements_of (own_type k e)) i t) _ h)
own_type-is k t (typed_as u e) own h = types_are_same u t (and_left _ _ h)
own_type-is k t (constant bytes) own h = cc
own_type-is k t (composed es) own h = cc
own_type-is k t (sum s e f) own h = cc
own_type-is k t (difference s e f) own h = cc
own_type-is k t (cast from to e) own h = cc

pub own_typed : (k : Kinds) (t : Tree) (e : Expression) → has_own_type e ≡ true → has_type k t e ≡ true → has_type k (own_type k e) e ≡ true
own_typed k t e own h =
    subst (λ u. has_type k u e ≡ true) (sym (own_type-is k t e own h)) h

-- the number of an element lies in the list of elements
pub element_there : (u : Tree) (vs : List ValueTree) (i : ℕ) (t : Tree) → fits u (struct_value (values.values_of vs)) ≡ true → is_at (elements_of u) i t ≡ true → i < length vs
element_there (structure ts) vs i t h here =
    let whole = fitting_lengths (list_of ts) vs (subst (λ us. values.all_fit us (values.values_of vs) ≡ true) (sym (trees_of-list_of ts)) h) in
    omega (arith, whole, ltb-true i (length (list_of ts)) (and_left (nat_lt i (length (list_of ts))) _ here))
element_there (array no_trees n) vs i t h here = cc
element_there (array (tree u us) n) vs i t h here =
    let whole = fitting_lengths (replicate n u) vs h in
    omega (arith, whole, ltb-true i (length (replicate n u)) (and_left (nat_lt i (length (replicate n u))) _ here))
element_there void vs i t h here = cc
element_there (scalar s) vs i t h here = cc
element_there (left_out k) vs i t h here = cc

-- an element of a struct or an array
pub element_is : (whole : ValueTree) (vs : List ValueTree) (i : ℕ) → struct_value (values.values_of vs) ≡ whole → slice_index_or vs i void_value ≡ element_value whole i
element_is whole vs i is =
    ap (λ ws. slice_index_or ws i void_value) (sym (list_and_back vs)) ∙ ap (λ w. element_value w i) is

-- the type of a number
pub number_type : (s : Scalar) (t : Tree) → is_number_of s t ≡ true → is_number_type t ≡ true
number_type s (scalar r) h = and_right (same_scalar s r) (is_number r) h
number_type s void h = cc
number_type s (left_out k) h = cc
number_type s (structure ts) h = cc
number_type s (array ts n) h = cc

-- the scalar of a number's type
pub number_scalar : (s : Scalar) (t : Tree) → is_number_of s t ≡ true → scalar_of t ≡ s
number_scalar s (scalar r) h = sym (scalars_are_same s r (and_left (same_scalar s r) _ h))
number_scalar s void h = cc
number_scalar s (left_out k) h = cc
number_scalar s (structure ts) h = cc
number_scalar s (array ts n) h = cc
