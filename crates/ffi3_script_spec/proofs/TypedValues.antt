-- EVERY VALUE THAT IS READ IS WELL TYPED: against a type it has that type, and one with a type of its own has it.
use Rattle.std.proofs.Common.{◌≡◌, ℕ, zero, suc, ◌+◌, Bool, true, false, List, [], ◌∷◌, length, Option, Some, None, Result, Ok, Err, refl, ap, ◌∙◌, sym, subst, arith}
use Rattle.std.specs.Prelude.{◌&&◌, ◌==◌, ◌/◌, ◌%◌, slice_get, if◌then◌else◌, nat_lt, ⊤, option_and_then, position, ℤ}
use Rattle.std.specs.List.{list_all}
use Rattle.std.proofs.lemmas.Bool.{eq-eqb, eqb-true, lt-ltb}
use Rattle.hex.specs.Hex.{decode_sized, decode_pairs}
use Rattle.hex.specs.declared.error.FromHexError.{FromHexError}
use Rattle.hex.specs.declared.error.FromHexError.TheVariants.{OddLength, InvalidStringLength}
use Rattle.hex.proofs.HexLemmas.{decode_pairs-ok}
use Rattle.serde_json.specs.Data.{Data, boolean, number, string, array, object, Items, no_items, item, Members, no_members, member, Num}
use Rattle.serde_json.specs.Find.{as_number, as_u64, as_str, as_integer}
use Rattle.serde_json.specs.Events.{items_len}
use Rattle.ffi3_type_spec.specs.Tree.{Tree, void, scalar, structure, no_trees, tree, tree_at, trees_of, elements_of, trees_of-list_of, Scalar, pointer}
use Rattle.ffi3_type_spec.specs.Tree as types
use Rattle.ffi3_type_spec.specs.declared.Role.TheVariants.{AsArgument}
use Rattle.ffi3_type_spec.specs.Integer.{is_integer, is_number, is_number_type, scalar_of, bytes_of_number}
use Rattle.ffi3_type_spec.specs.Layout.{scalar_size}
use Rattle.ffi3_type_spec.specs.Same.{same_tree}
use Rattle.ffi3_type_spec.proofs.Widened.{length-bytes_of_number}
use Rattle.ffi3_type_spec.specs.FirstFault.{Found, first_fault}
use Rattle.ffi3_script_spec.specs.Language.{Read, read, fault, and_then, read_map, JsonPath, under, at_item, read_type, out_of_range, wrong_type, wrong_count}
use Rattle.ffi3_script_spec.specs.Script.{Expression, constant, composed, argument, outcome, user_data, element, typed_as, cast, Expressions, no_expressions, expression, Typed}
use Rattle.ffi3_script_spec.specs.Values.{Given, Scope, read_integer, in_range, read_number, integer_written, read_written, is_wide, is_wide_type, is_floating_type, bytes_or_fault, read_floating, read_text, typed, against, typed_argument, argument_of, has_name, typed_result, result_number, result_of, user_of, typed_element, element_of, element_in, field_of, right_type, read_right_type, is_list_type, TypedForm, arg_form, res_form, user_form, field_form, of_form, Form, typed_form, add_form, sub_form, cast_form, no_form, form_named, is_integer_type, if_integer, cast_of, composed_of, Pair, sum_of, difference_of, typed_by, value_by, own_by, read_value, read_values, read_object, read_two, read_typed, read_typed_object, read_field, read_of}
use Rattle.ffi3_script_spec.specs.Typed.{Kinds, is_at, own_type, is_scalar_of, is_integer_of, is_number_of, trees_in, has_type, have_types, same_scalar, is_right, is_right_argument, is_laid_out, types_of, kinds_of, scope_is_right}
use Rattle.ffi3_script_spec.proofs.Tests.{and_left, and_right, both, types_are_same, type_is_itself}
use Rattle.ffi3_script_spec.proofs.RightTypes.{none-is_none, argument_is_laid_out, result_is_laid_out, element_is_laid_out}
use Rattle.ffi3_script_spec.proofs.ReadParts.{first_was_read, part_was_read, same_read, test_held, got}

-- A value has the type that it says: it is of that type, which is its own, and which is a result's or an array.
pub record IsOfItsType (kinds : Kinds) (v : Typed) : Type 0 where
  pub has_it : has_type kinds v.type v.value ≡ true
  pub is_own : own_type kinds v.value ≡ v.type
  pub is_fit : is_laid_out v.type ≡ true

-- ---- types

-- the types of a type's elements, as a list and back
pub elements_in : (t : Tree) → trees_of (elements_of t) ≡ trees_in t
elements_in (structure ts) = trees_of-list_of ts
elements_in _ = refl

-- ---- plain values

number_type : (t : Tree) → is_number_type t ≡ true → (t ≡ scalar (scalar_of t)) × (is_number (scalar_of t) ≡ true)
number_type (scalar s) h = (refl, h)
number_type _ h = absurd (cc)

integer_type : (t : Tree) → is_integer_type t ≡ true → (t ≡ scalar (scalar_of t)) × (is_integer (scalar_of t) ≡ true)
integer_type (scalar s) h = (refl, h)
integer_type _ h = absurd (cc)

floating_type : (t : Tree) → is_floating_type t ≡ true → t ≡ scalar (scalar_of t)
floating_type (scalar s) h = refl
floating_type _ h = cc

-- an integer of 128 bits is a number
wide_number : (s : Scalar) → is_wide s ≡ true → is_number s ≡ true
wide_number types.u128 h = refl
wide_number types.s128 h = refl
wide_number _ h = cc

wide_type : (t : Tree) → is_wide_type t ≡ true → (t ≡ scalar (scalar_of t)) × (is_number (scalar_of t) ≡ true)
wide_type (scalar s) h = (refl, wide_number s h)
wide_type _ h = cc

-- the type of a number is that of its scalar
number_of_scalar : (s : Scalar) (t : Tree) → (t ≡ scalar s) × (is_number s ≡ true) → is_number_of s t ≡ true
number_of_scalar s t h =
    subst (λ u. is_number_of s u ≡ true) (sym h.0) (both (same_scalar s s) (is_number s) (eq-eqb _ _ refl) h.1)

integer_of_scalar : (s : Scalar) (t : Tree) → (t ≡ scalar s) × (is_integer s ≡ true) → is_integer_of s t ≡ true
integer_of_scalar s t h =
    subst (λ u. is_integer_of s u ≡ true) (sym h.0) (both (same_scalar s s) (is_integer s) (eq-eqb _ _ refl) h.1)

-- a text that is decoded has two digits for each byte
ok_else : (b : Bool) (x : FromHexError) (r : Result (List ℕ) FromHexError) (bytes : List ℕ) → (if b then Err x else r) ≡ Ok bytes → r ≡ Ok bytes
ok_else true x r bytes h = absurd (cc)
ok_else false x r bytes h = h

ok_then : (b : Bool) (x : FromHexError) (r : Result (List ℕ) FromHexError) (bytes : List ℕ) → (if b then r else Err x) ≡ Ok bytes → (b ≡ true) × (r ≡ Ok bytes)
ok_then true x r bytes h = (refl, h)
ok_then false x r bytes h = absurd (cc)

decoded : (text : List ℕ) (n : ℕ) (bytes : List ℕ) → decode_sized text n ≡ Ok bytes → length bytes ≡ n
decoded text n bytes h =
    let sized = if length text / 2 == n then decode_pairs 0 text else Err InvalidStringLength in
    let held = ok_then (length text / 2 == n) InvalidStringLength (decode_pairs 0 text) bytes (ok_else (length text % 2 == 1) OddLength sized bytes h) in
    let long = (decode_pairs-ok 0 text bytes held.1).1 in
    let half = eqb-true (length text / 2) n held.0 in
    omega arith

module _ (kinds : Kinds) where
  -- bytes of a scalar's size
  constant_has : (t : Tree) (s : Scalar) (bytes : List ℕ) → t ≡ scalar s → length bytes ≡ scalar_size s → has_type kinds t (constant bytes) ≡ true
  constant_has t s bytes same n =
      subst (λ u. is_scalar_of (length bytes) u ≡ true) (sym same) (eq-eqb (length bytes) (scalar_size s) n)

  integer_has : (t : Tree) (s : Scalar) (z : Option ℤ) (path : JsonPath) (e : Expression) → (t ≡ scalar s) × (is_number s ≡ true) → read_integer s z path ≡ read e → has_type kinds t e ≡ true
  integer_has t s None path e same h = cc
  integer_has t s (Some z) path e same h =
      let is = same_read (constant (bytes_of_number s z)) e (test_held (in_range s z) (read (constant (bytes_of_number s z))) path out_of_range e h).1 in
      subst (λ f. has_type kinds t f ≡ true) is (constant_has t s (bytes_of_number s z) same.0 (length-bytes_of_number s z same.1))

  pub number_has : (t : Tree) (n : Num) (path : JsonPath) (e : Expression) → read_number t n path ≡ read e → has_type kinds t e ≡ true
  number_has t n path e h =
      let held = test_held (is_number_type t) (read_integer (scalar_of t) (as_integer n) path) path wrong_type e h in
      integer_has t (scalar_of t) (as_integer n) path e (number_type t held.0) held.1

  text_bytes_have : (t : Tree) (text : List ℕ) (path : JsonPath) (e : Expression) (r : Result (List ℕ) FromHexError) → t ≡ scalar (scalar_of t) → decode_sized text (scalar_size (scalar_of t)) ≡ r → bytes_or_fault path r ≡ read e → has_type kinds t e ≡ true
  text_bytes_have t text path e (Ok bytes) same is h =
      subst (λ f. has_type kinds t f ≡ true) (same_read (constant bytes) e h) (constant_has t (scalar_of t) bytes same (decoded text (scalar_size (scalar_of t)) bytes is))
  text_bytes_have t text path e (Err x) same is h = cc

  written_has : (t : Tree) (z : Option ℤ) (path : JsonPath) (e : Expression) → (t ≡ scalar (scalar_of t)) × (is_number (scalar_of t) ≡ true) → read_written (scalar_of t) z path ≡ read e → has_type kinds t e ≡ true
  written_has t None path e same h = cc
  written_has t (Some z) path e same h =
      integer_has t (scalar_of t) (Some z) path e same h

  floating_has : (t : Tree) (text : List ℕ) (path : JsonPath) (e : Expression) → read_floating t text path ≡ read e → has_type kinds t e ≡ true
  floating_has t text path e h =
      let held = test_held (is_floating_type t) (bytes_or_fault path (decode_sized text (scalar_size (scalar_of t)))) path wrong_type e h in
      text_bytes_have t text path e (decode_sized text (scalar_size (scalar_of t))) (floating_type t held.0) refl held.1

  text_has_if : (b : Bool) (t : Tree) (text : List ℕ) (path : JsonPath) (e : Expression) → is_wide_type t ≡ b → (if b then read_written (scalar_of t) (integer_written text) path else read_floating t text path) ≡ read e → has_type kinds t e ≡ true
  text_has_if true t text path e wide h =
      written_has t (integer_written text) path e (wide_type t wide) h
  text_has_if false t text path e wide h = floating_has t text path e h

  pub text_has : (t : Tree) (text : List ℕ) (path : JsonPath) (e : Expression) → read_text t text path ≡ read e → has_type kinds t e ≡ true
  text_has t text path e h = text_has_if (is_wide_type t) t text path e refl h

  -- ---- values with a type of their own, as others use them

  pub against_has : (t : Tree) (path : JsonPath) (v : Typed) (e : Expression) → IsOfItsType kinds v → against t path v ≡ read e → has_type kinds t e ≡ true
  against_has t path v e good h =
      let held = test_held (same_tree v.type t) (read v.value) path wrong_type e h in
      subst (λ u. has_type kinds u e ≡ true) (types_are_same v.type t held.0) (subst (λ f. has_type kinds v.type f ≡ true) (same_read v.value e held.1) good.has_it)

  cast_has : (t : Tree) (path : JsonPath) (v : Typed) (e : Expression) → is_number_type t ≡ true → IsOfItsType kinds v → cast_of (scalar_of t) path v ≡ read e → has_type kinds t e ≡ true
  cast_has t path v e is good h =
      let held = test_held (is_number_type v.type) (read (cast (scalar_of v.type) (scalar_of t) v.value)) path wrong_type e h in
      let from = number_type v.type held.0 in
      let inner : has_type kinds (scalar (scalar_of v.type)) v.value ≡ true = subst (λ u. has_type kinds u v.value ≡ true) from.0 good.has_it in
      subst (λ f. has_type kinds t f ≡ true) (same_read (cast (scalar_of v.type) (scalar_of t) v.value) e held.1) (both (is_number_of (scalar_of t) t) _ (number_of_scalar (scalar_of t) t (number_type t is)) (both (is_number (scalar_of v.type)) _ from.1 inner))

  composed_has : (t : Tree) (n : ℕ) (path : JsonPath) (es : Read Expressions) (e : Expression) → ((fs : Expressions) → n ≡ length (elements_of t) → es ≡ read fs → have_types kinds (trees_of (elements_of t)) fs ≡ true) → composed_of t n path es ≡ read e → has_type kinds t e ≡ true
  composed_has t n path es e each h =
      let counted = if n == length (elements_of t) then read_map composed es else fault path wrong_count in
      let list = test_held (is_list_type t) counted path wrong_type e h in
      let held = test_held (n == length (elements_of t)) (read_map composed es) path wrong_count e list.1 in
      let part = part_was_read composed es e held.1 in
      let typed = each part.0 (eqb-true n (length (elements_of t)) held.0) part.1 in
      subst (λ f. has_type kinds t f ≡ true) part.2 (both (is_list_type t) _ list.0 (subst (λ us. have_types kinds us part.0 ≡ true) (elements_in t) typed))

-- ---- values with a type of their own

at_list : (ts : List Tree) (i : ℕ) (t : Tree) → slice_get ts i ≡ Some t → (is_at ts i t ≡ true) × (tree_at ts i ≡ t)
at_list ts i t h =
    let there = got ts i t void h in
    (both (nat_lt i (length ts)) _ (lt-ltb i (length ts) there.0) (ap (λ u. same_tree u t) there.1 ∙ type_is_itself t), there.1)

-- a type of a list whose types all pass a test
passing : (p : Tree → Bool) (ts : List Tree) (i : ℕ) (t : Tree) → list_all p ts ≡ true → slice_get ts i ≡ Some t → p t ≡ true
passing p [] i t each h = absurd (cc)
passing p (u ∷ ts) zero t each h = let same : u ≡ t = cc in ap p (sym same) ∙ and_left (p u) _ each
passing p (u ∷ ts) (suc i) t each h = passing p ts i t (and_right (p u) _ each) h

type_given : (given : List Given) (i : ℕ) (g : Given) → slice_get given i ≡ Some g → slice_get (types_of given) i ≡ Some g.type
type_given [] i g h = absurd (cc)
type_given (f ∷ given) zero g h = let same : f ≡ g = cc in ap (λ x. Some x.type) same
type_given (f ∷ given) (suc i) g h = type_given given i g h

module _ (scope : Scope) (right : scope_is_right scope ≡ true) where
  abbrev kinds : Kinds
  kinds = kinds_of scope

  argument_typed : (i : ℕ) (path : JsonPath) (o : Option Tree) (v : Typed) → slice_get scope.arguments i ≡ o → typed_argument i path o ≡ read v → IsOfItsType kinds v
  argument_typed i path None v is h = absurd (cc)
  argument_typed i path (Some t) v is h =
      let there = at_list scope.arguments i t is in
      let fit = passing is_right_argument scope.arguments i t (and_left (list_all is_right_argument scope.arguments) _ right) is in
      subst (IsOfItsType kinds) (same_read (typed t (argument i)) v h) (record { has_it = there.0; is_own = there.1; is_fit = argument_is_laid_out t fit })

  pub argument_has : (i : Option ℕ) (path : JsonPath) (v : Typed) → argument_of scope.arguments i path ≡ read v → IsOfItsType kinds v
  argument_has None path v h = absurd (cc)
  argument_has (Some i) path v h =
      argument_typed i path (slice_get scope.arguments i) v refl h

  result_typed : (i : ℕ) (path : JsonPath) (o : Option Given) (v : Typed) → slice_get scope.given i ≡ o → typed_result i path o ≡ read v → IsOfItsType kinds v
  result_typed i path None v is h = absurd (cc)
  result_typed i path (Some g) v is h =
      let at_types = type_given scope.given i g is in
      let there = at_list (types_of scope.given) i g.type at_types in
      let fit = passing is_right (types_of scope.given) i g.type (and_right (list_all is_right_argument scope.arguments) _ right) at_types in
      subst (IsOfItsType kinds) (same_read (typed g.type (outcome i)) v h) (record { has_it = there.0; is_own = there.1; is_fit = result_is_laid_out g.type fit })

  numbered_result : (i : Option ℕ) (path : JsonPath) (v : Typed) → result_number scope.given i path ≡ read v → IsOfItsType kinds v
  numbered_result None path v h = absurd (cc)
  numbered_result (Some i) path v h = result_typed i path (slice_get scope.given i) v refl h

  pub result_has : (name : Option (List ℕ)) (path : JsonPath) (v : Typed) → result_of scope.given name path ≡ read v → IsOfItsType kinds v
  result_has None path v h = absurd (cc)
  result_has (Some name) path v h =
      numbered_result (position (has_name name) scope.given) path v h

  pub user_has : (d : Data) (path : JsonPath) (v : Typed) → user_of d path ≡ read v → IsOfItsType kinds v
  user_has (boolean true) path v h =
      subst (IsOfItsType kinds) (same_read (typed (scalar pointer) user_data) v h) (record { has_it = refl; is_own = refl; is_fit = refl })
  user_has _ path v h = absurd (cc)

  element_typed : (s : Tree) (e : Expression) (i : ℕ) (path : JsonPath) (o : Option Tree) (v : Typed) → has_type kinds s e ≡ true → own_type kinds e ≡ s → is_laid_out s ≡ true → slice_get (elements_of s) i ≡ o → typed_element e i path o ≡ read v → IsOfItsType kinds v
  element_typed s e i path None v has own fit is h = absurd (cc)
  element_typed s e i path (Some t) v has own fit is h =
      let there = at_list (elements_of s) i t is in
      let below = got (elements_of s) i t void is in
      let HasElement : Tree → Type 0 = λ u. (is_at (elements_of u) i t && has_type kinds u e) ≡ true in
      let has_element : HasElement (own_type kinds e) = subst HasElement (sym own) (both (is_at (elements_of s) i t) _ there.0 has) in
      let fit_element : is_laid_out t ≡ true = ap is_laid_out (sym there.1) ∙ element_is_laid_out s i fit below.0 in
      subst (IsOfItsType kinds) (same_read (typed t (element e i)) v h) (record { has_it = has_element; is_own = ap (λ u. tree_at (elements_of u) i) own ∙ there.1; is_fit = fit_element })

  element_numbered : (path : JsonPath) (i : Option ℕ) (e : Expression) (t : Tree) (v : Typed) → has_type kinds t e ≡ true → own_type kinds e ≡ t → is_laid_out t ≡ true → element_of e (elements_of t) i path ≡ read v → IsOfItsType kinds v
  element_numbered path None e t v has own fit h = absurd (cc)
  element_numbered path (Some i) e t v has own fit h =
      element_typed t e i path (slice_get (elements_of t) i) v has own fit refl h

  element_has : (path place : JsonPath) (i : Option ℕ) (e : Expression) (t : Tree) (v : Typed) → has_type kinds t e ≡ true → own_type kinds e ≡ t → is_laid_out t ≡ true → element_in path place i e t ≡ read v → IsOfItsType kinds v
  element_has path place i e t v has own fit h =
      element_numbered path i e t v has own fit (test_held (is_list_type t) (element_of e (elements_of t) i path) place wrong_type v h).1

  pub field_has : (path place : JsonPath) (i : Option ℕ) (v w : Typed) → IsOfItsType kinds v → field_of path place i v ≡ read w → IsOfItsType kinds w
  field_has path place i v w good h =
      element_has path place i v.value v.type w good.has_it good.is_own good.is_fit h

  right_type_is : (path : JsonPath) (t u : Tree) (f : Option Found) → first_fault 0 AsArgument t ≡ f → right_type path t f ≡ read u → is_right_argument u ≡ true
  right_type_is path t u None is h =
      subst (λ w. is_right_argument w ≡ true) (same_read t u h) (none-is_none (first_fault 0 AsArgument t) is)
  right_type_is path t u (Some f) is h = cc

  pub right_type_has : (version : ℕ) (d : Data) (path : JsonPath) (t : Tree) → read_right_type version d path ≡ read t → is_right_argument t ≡ true
  right_type_has version d path t h =
      let was = first_was_read (λ u. right_type path u (first_fault 0 AsArgument u)) (read_type version d path) t h in
      right_type_is path was.0 t (first_fault 0 AsArgument was.0) refl was.2

  -- ---- by forms

  abbrev pub AreOfType : Tree → Pair → Type 0
  AreOfType t p = (has_type kinds t p.0 ≡ true) × (has_type kinds t p.1 ≡ true)

  -- each value that is read, if one is, has its type
  abbrev pub IsGood : Read Typed → Type 0
  IsGood r = (v : Typed) → r ≡ read v → IsOfItsType kinds v

  typed_by_has : (d : Data) (path : JsonPath) (field of : ⊤ → Read Typed) (form : TypedForm) → IsGood (field tt) → IsGood (of tt) → IsGood (typed_by scope d path field of form)
  typed_by_has d path field of arg_form of_field of_of v h =
      argument_has (option_and_then as_u64 (as_number d)) path v h
  typed_by_has d path field of res_form of_field of_of v h = result_has (as_str d) path v h
  typed_by_has d path field of user_form of_field of_of v h = user_has d path v h
  typed_by_has d path field of field_form of_field of_of v h = of_field v h
  typed_by_has d path field of of_form of_field of_of v h = of_of v h

  own_by_has : (path : JsonPath) (own : TypedForm → Read Typed) (form : Form) → ((f : TypedForm) → IsGood (own f)) → IsGood (own_by path own form)
  own_by_has path own (typed_form f) each v h = each f v h
  own_by_has path own _ each v h = absurd (cc)

  sum_has : (t : Tree) (path : JsonPath) (two : ⊤ → Read Pair) (e : Expression) → ((p : Pair) → two tt ≡ read p → AreOfType t p) → if_integer t path (λ _. read_map (sum_of (scalar_of t)) (two tt)) ≡ read e → has_type kinds t e ≡ true
  sum_has t path two e each h =
      let held = test_held (is_integer_type t) (read_map (sum_of (scalar_of t)) (two tt)) path wrong_type e h in
      let part = part_was_read (sum_of (scalar_of t)) (two tt) e held.1 in
      let both_have = each part.0 part.1 in
      subst (λ f. has_type kinds t f ≡ true) part.2 (both (is_integer_of (scalar_of t) t) _ (integer_of_scalar (scalar_of t) t (integer_type t held.0)) (both (has_type kinds t part.0.0) _ both_have.0 both_have.1))

  difference_has : (t : Tree) (path : JsonPath) (two : ⊤ → Read Pair) (e : Expression) → ((p : Pair) → two tt ≡ read p → AreOfType t p) → if_integer t path (λ _. read_map (difference_of (scalar_of t)) (two tt)) ≡ read e → has_type kinds t e ≡ true
  difference_has t path two e each h =
      let held = test_held (is_integer_type t) (read_map (difference_of (scalar_of t)) (two tt)) path wrong_type e h in
      let part = part_was_read (difference_of (scalar_of t)) (two tt) e held.1 in
      let both_have = each part.0 part.1 in
      subst (λ f. has_type kinds t f ≡ true) part.2 (both (is_integer_of (scalar_of t) t) _ (integer_of_scalar (scalar_of t) t (integer_type t held.0)) (both (has_type kinds t part.0.0) _ both_have.0 both_have.1))

  value_by_has : (t : Tree) (path place : JsonPath) (own : TypedForm → Read Typed) (two : ⊤ → Read Pair) (inner : ⊤ → Read Typed) (form : Form) (e : Expression) → ((f : TypedForm) → IsGood (own f)) → ((p : Pair) → two tt ≡ read p → AreOfType t p) → IsGood (inner tt) → value_by t path place own two inner form ≡ read e → has_type kinds t e ≡ true
  value_by_has t path place own two inner no_form e of_own of_two of_inner h = cc
  value_by_has t path place own two inner (typed_form f) e of_own of_two of_inner h =
      let was = first_was_read (against t path) (own f) e h in
      against_has kinds t path was.0 e (of_own f was.0 was.1) was.2
  value_by_has t path place own two inner add_form e of_own of_two of_inner h = sum_has t path two e of_two h
  value_by_has t path place own two inner sub_form e of_own of_two of_inner h =
      difference_has t path two e of_two h
  value_by_has t path place own two inner cast_form e of_own of_two of_inner h =
      let held = test_held (is_number_type t) (and_then (cast_of (scalar_of t) place) (inner tt)) path wrong_type e h in
      let was = first_was_read (cast_of (scalar_of t) place) (inner tt) e held.1 in
      cast_has kinds t place was.0 e held.0 (of_inner was.0 was.1) was.2

  -- ---- as they are read

  mutual
    -- A VALUE THAT IS READ AGAINST A TYPE HAS IT
    pub value_is_typed : (t : Tree) (d : Data) (path : JsonPath) (e : Expression) → read_value scope t d path ≡ read e → has_type kinds t e ≡ true
    value_is_typed t (number n) path e h = number_has kinds t n path e h
    value_is_typed t (string text) path e h = text_has kinds t text path e h
    value_is_typed t (array ds) path e h =
        composed_has kinds t (items_len ds) path (read_values scope (elements_of t) ds path 0) e (λ es count. values_are_typed (elements_of t) ds path 0 es count) h
    value_is_typed t (object ms) path e h = object_is_typed t ms path e h
    value_is_typed t _ path e h = cc

    -- one for each type
    pub values_are_typed : (ts : List Tree) (ds : Items) (path : JsonPath) (i : ℕ) (es : Expressions) → items_len ds ≡ length ts → read_values scope ts ds path i ≡ read es → have_types kinds (trees_of ts) es ≡ true
    values_are_typed [] no_items path i es count h =
        subst (λ fs. have_types kinds no_trees fs ≡ true) (same_read no_expressions es h) refl
    values_are_typed (t ∷ ts) (item d ds) path i es count h =
        let more : Expression → Read Expressions = λ e. read_map (λ fs. expression e fs) (read_values scope ts ds path (i + 1)) in
        let was = first_was_read more (read_value scope t d (at_item path i)) es h in
        let rest = part_was_read (λ fs. expression was.0 fs) (read_values scope ts ds path (i + 1)) es was.2 in
        subst (λ fs. have_types kinds (tree t (trees_of ts)) fs ≡ true) rest.2 (both (has_type kinds t was.0) _ (value_is_typed t d (at_item path i) was.0 was.1) (values_are_typed ts ds path (i + 1) rest.0 (omega arith) rest.1))
    values_are_typed _ _ path i es count h = absurd (omega arith)

    pub object_is_typed : (t : Tree) (ms : Members) (path : JsonPath) (e : Expression) → read_object scope t ms path ≡ read e → has_type kinds t e ≡ true
    object_is_typed t (member name d no_members) path e h =
        let place = under path name in
        let own : TypedForm → Read Typed = typed_by scope d path (λ _. read_field scope d place path) (λ _. read_of scope d place) in
        value_by_has t path place own (λ _. read_two scope t d place) (λ _. read_typed scope d place) (form_named name) e (λ f. typed_by_has d path (λ _. read_field scope d place path) (λ _. read_of scope d place) f (λ v. field_is_typed d place path v) (λ v. of_is_typed d place v)) (λ p. two_are_typed t d place p) (λ v. typed_is_typed d place v) h
    object_is_typed t _ path e h = cc

    two_are_typed : (t : Tree) (d : Data) (place : JsonPath) (p : Pair) → read_two scope t d place ≡ read p → AreOfType t p
    two_are_typed t (array (item d (item e no_items))) place p h =
        let more : Expression → Read Pair = λ a. read_map (λ b. (a, b)) (read_value scope t e (at_item place 1)) in
        let was = first_was_read more (read_value scope t d (at_item place 0)) p h in
        let rest = part_was_read (λ b. (was.0, b)) (read_value scope t e (at_item place 1)) p was.2 in
        subst (AreOfType t) rest.2 (value_is_typed t d (at_item place 0) was.0 was.1, value_is_typed t e (at_item place 1) rest.0 rest.1)
    two_are_typed t _ place p h = absurd (cc)

    -- A VALUE THAT IS READ WITH A TYPE OF ITS OWN HAS IT
    pub typed_is_typed : (d : Data) (path : JsonPath) (v : Typed) → read_typed scope d path ≡ read v → IsOfItsType kinds v
    typed_is_typed (object ms) path v h = typed_object_is_typed ms path v h
    typed_is_typed _ path v h = absurd (cc)

    pub typed_object_is_typed : (ms : Members) (path : JsonPath) (v : Typed) → read_typed_object scope ms path ≡ read v → IsOfItsType kinds v
    typed_object_is_typed (member name d no_members) path v h =
        let place = under path name in
        let own : TypedForm → Read Typed = typed_by scope d path (λ _. read_field scope d place path) (λ _. read_of scope d place) in
        own_by_has path own (form_named name) (λ f. typed_by_has d path (λ _. read_field scope d place path) (λ _. read_of scope d place) f (λ w. field_is_typed d place path w) (λ w. of_is_typed d place w)) v h
    typed_object_is_typed _ path v h = absurd (cc)

    pub field_is_typed : (d : Data) (place path : JsonPath) (v : Typed) → read_field scope d place path ≡ read v → IsOfItsType kinds v
    field_is_typed (array (item d (item e no_items))) place path v h =
        let was = first_was_read (field_of path (at_item place 0) (option_and_then as_u64 (as_number e))) (read_typed scope d (at_item place 0)) v h in
        field_has path (at_item place 0) (option_and_then as_u64 (as_number e)) was.0 v (typed_is_typed d (at_item place 0) was.0 was.1) was.2
    field_is_typed _ place path v h = absurd (cc)

    pub of_is_typed : (d : Data) (place : JsonPath) (v : Typed) → read_of scope d place ≡ read v → IsOfItsType kinds v
    of_is_typed (array (item d (item e no_items))) place v h =
        let more : Tree → Read Typed = λ t. read_map (λ w. typed t (typed_as t w)) (read_value scope t e (at_item place 1)) in
        let was = first_was_read more (read_right_type scope.version d (at_item place 0)) v h in
        let t = was.0 in
        let rest = part_was_read (λ w. typed t (typed_as t w)) (read_value scope t e (at_item place 1)) v was.2 in
        let has = value_is_typed t e (at_item place 1) rest.0 rest.1 in
        let right = right_type_has scope.version d (at_item place 0) t was.1 in
        subst (IsOfItsType kinds) rest.2 (record { has_it = both (same_tree t t) _ (type_is_itself t) (both (is_right_argument t) _ right has); is_own = refl; is_fit = argument_is_laid_out t right })
    of_is_typed _ place v h = absurd (cc)
