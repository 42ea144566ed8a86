-- Values by their shapes, and the values of an array item by item.
use Rattle.std.proofs.Common.{◌≡◌, ℕ, ◌+◌, ◌<◌, ◌≤◌, ◌==◌, true, cond, List, [], ◌∷◌, ◌++◌, length, drop, Some, None, Result, Ok, Err, IfOk, IfErr, option_and_then, refl, sym, ap, ◌∙◌}
use Rattle.std.specs.Prelude.{if◌then◌else◌}
use Rattle.std.proofs.lemmas.Bool.{eqb-true, eq-eqb}
use Rattle.std.proofs.lemmas.List.{drop_more}
use Rattle.serde_json.specs.Data.{Num, Data, null, boolean, number, string, array, object, Items, no_items, item, no_members, member}
use Rattle.serde_json.specs.Find.{as_number, as_array, as_u64}
use Rattle.serde_json.specs.Events.{items_len}
use Rattle.ffi3_type_spec.specs.Tree.{Tree, void, tree_at, elements_of}
use Rattle.ffi3_script_spec.specs.Language.{JsonPath, Reason, Read, read, fault, and_then, read_map, at_item, under, wrong_count, wrong_type}
use Rattle.ffi3_script_spec.specs.Script.{Expression, composed, typed_as, Expressions, no_expressions, expression, expressions_of, Typed}
use Rattle.ffi3_script_spec.specs.Values as values
use Rattle.ffi3_script_spec.specs.Values.{Scope, Pair, is_integer_type, is_list_type, composed_of, form_named, own_by, read_number, read_value, read_values, read_typed, read_two, read_field, read_of, read_right_type, field_of, typed}
use Rattle.ffi3_json.specs.Parts.{item_at, items_from, only_member}
use Rattle.ffi3_json.proofs.Items.{items_none_left}
use Rattle.ffi3_json.proofs.Objects.{array_is}
use Rattle.ffi3_script_body.specs.ListTypes.{element_types}
use Rattle.ffi3_script_body.proofs.ListTypes.{some_types, no_types}
use Rattle.ffi3_script.proofs.Loops.{next_item}
use Rattle.ffi3_script.proofs.ReadTypes.{not_so}
use Rattle.ffi3_script.specs.Shapes.{two_items, typed_under, value_under_form, read_terms}

-- ---- shapes

some_is : {A : Type 0} {x y : A} → Some x ≡ Some y → x ≡ y
some_is e = cc

none_not_some : {A : Type 0} {x : A} → None ≡ Some x → ⊥
none_not_some e = cc

pub number_is : (d : Data) (n : Num) → as_number d ≡ Some n → d ≡ number n
number_is null n e = absurd (none_not_some e)
number_is (boolean b) n e = absurd (none_not_some e)
number_is (number m) n e = ap number (some_is e)
number_is (string s) n e = absurd (none_not_some e)
number_is (array ds) n e = absurd (none_not_some e)
number_is (object ms) n e = absurd (none_not_some e)

-- an object of one member
abbrev pub alone : List ℕ → Data → Data
alone name d = object (member name d no_members)

pub member_is : (d : Data) (name : List ℕ) (e : Data) → only_member d ≡ Some (name, e) → d ≡ alone name e
member_is null name e h = absurd (none_not_some h)
member_is (boolean b) name e h = absurd (none_not_some h)
member_is (number n) name e h = absurd (none_not_some h)
member_is (string s) name e h = absurd (none_not_some h)
member_is (array ds) name e h = absurd (none_not_some h)
member_is (object no_members) name e h = absurd (none_not_some h)
member_is (object (member k d no_members)) name e h = λ i. alone (some_is h i).0 (some_is h i).1
member_is (object (member k d (member l f ms))) name e h = absurd (none_not_some h)

-- an array of two items
abbrev pub both_items : Data → Data → Data
both_items d e = array (item d (item e no_items))

pub items_are : (d a b : Data) → two_items d ≡ Some (a, b) → d ≡ both_items a b
items_are null a b h = absurd (none_not_some h)
items_are (boolean c) a b h = absurd (none_not_some h)
items_are (number n) a b h = absurd (none_not_some h)
items_are (string s) a b h = absurd (none_not_some h)
items_are (array no_items) a b h = absurd (none_not_some h)
items_are (array (item d no_items)) a b h = absurd (none_not_some h)
items_are (array (item d (item e no_items))) a b h = λ i. both_items (some_is h i).0 (some_is h i).1
items_are (array (item d (item e (item f ds)))) a b h = absurd (none_not_some h)
items_are (object ms) a b h = absurd (none_not_some h)

-- ---- a value against a type

module _ (scope : Scope) (t : Tree) (d : Data) (path : JsonPath) where
  pub of_number : (n : Num) → as_number d ≡ Some n → read_value scope t d path ≡ read_number t n path
  of_number n h = ap (λ x. read_value scope t x path) (number_is d n h)

  pub of_member : (name : List ℕ) (e : Data) → only_member d ≡ Some (name, e) → read_value scope t d path ≡ value_under_form scope t name e path (form_named name)
  of_member name e h = ap (λ x. read_value scope t x path) (member_is d name e h)

-- ---- an array against a type

of_array : (scope : Scope) (t : Tree) (d : Data) (path : JsonPath) (ds : Items) → as_array d ≡ Some ds → read_value scope t d path ≡ composed_of t (items_len ds) path (read_values scope (elements_of t) ds path 0)
of_array scope t d path ds h = ap (λ x. read_value scope t x path) (array_is d ds h)

module _ (scope : Scope) (t : Tree) (d : Data) (path : JsonPath) (ds : Items) (h : as_array d ≡ Some ds) where
  by_elements : read_value scope t d path ≡ cond (is_list_type t) (cond (items_len ds == length (elements_of t)) (read_map composed (read_values scope (elements_of t) ds path 0)) (fault path wrong_count)) (fault path wrong_type)
  by_elements = of_array scope t d path ds h

  pub of_no_list : None ≡ element_types t → read_value scope t d path ≡ fault path wrong_type
  of_no_list none =
      by_elements ∙ ap (λ b. cond b (cond (items_len ds == length (elements_of t)) (read_map composed (read_values scope (elements_of t) ds path 0)) (fault path wrong_count)) (fault path wrong_type)) (no_types t none)

  module _ (ts : List Tree) (some : Some ts ≡ element_types t) where
    whole : read_value scope t d path ≡ cond (items_len ds == length ts) (read_map composed (read_values scope ts ds path 0)) (fault path wrong_count)
    whole =
        by_elements ∙ ap (λ b. cond b (cond (items_len ds == length (elements_of t)) (read_map composed (read_values scope (elements_of t) ds path 0)) (fault path wrong_count)) (fault path wrong_type)) (some_types t ts some).0
        ∙ ap (λ us. cond (items_len ds == length us) (read_map composed (read_values scope us ds path 0)) (fault path wrong_count)) (sym (some_types t ts some).1)

    pub of_other_count : (items_len ds ≡ length ts → ⊥) → read_value scope t d path ≡ fault path wrong_count
    of_other_count other =
        whole ∙ ap (λ b. cond b (read_map composed (read_values scope ts ds path 0)) (fault path wrong_count)) (not_so (items_len ds == length ts) (λ e. other (eqb-true (items_len ds) (length ts) e)))

    pub of_values : (r : Read Expressions) → items_len ds ≡ length ts → read_values scope ts ds path 0 ≡ r → read_value scope t d path ≡ read_map composed r
    of_values r same is =
        whole ∙ ap (λ b. cond b (read_map composed (read_values scope ts ds path 0)) (fault path wrong_count)) (eq-eqb (items_len ds) (length ts) same) ∙ ap (read_map composed) is

-- ---- the values of an array, item by item

-- these, and then the others
abbrev pub before : List Expression → Expressions → Expressions
before [] rest = rest
before (e ∷ es) rest = expression e (before es rest)

before-more : (es : List Expression) (e : Expression) (rest : Expressions) → before es (expression e rest) ≡ before (es ++ e ∷ []) rest
before-more [] e rest = refl
before-more (d ∷ es) e rest = ap (expression d) (before-more es e rest)

before-none : (es : List Expression) → before es no_expressions ≡ expressions_of es
before-none [] = refl
before-none (e ∷ es) = ap (expression e) (before-none es)

-- after i items these values were read
abbrev pub Done : Scope → List Tree → Items → JsonPath → ℕ → List Expression → Type 0
Done scope ts ds path i done =
    read_values scope ts ds path 0 ≡ read_map (before done) (read_values scope (drop i ts) (items_from i ds) path i)

joined : (done : List Expression) (e : Expression) (r : Read Expressions) → read_map (before done) (read_map (λ es. expression e es) r) ≡ read_map (before (done ++ e ∷ [])) r
joined done e (read es) = ap read (before-more done e es)
joined done e (fault path reason) = refl

module _ (scope : Scope) (ts : List Tree) (ds : Items) (path : JsonPath) (i : ℕ) (done : List Expression) where
  module _ (x : Data) (t : Tree) (below : i < items_len ds) (below_types : i < length ts) (is : x ≡ item_at ds i) (type_is : t ≡ tree_at ts i) (so_far : Done scope ts ds path i done) where
    here : read_values scope ts ds path 0 ≡ read_map (before done) (and_then (λ e. read_map (λ es. expression e es) (read_values scope (drop (i + 1) ts) (items_from (i + 1) ds) path (i + 1))) (read_value scope t x (at_item path i)))
    here =
        so_far ∙ ap (λ us. read_map (before done) (read_values scope us (items_from i ds) path i)) (drop_more ts i void below_types ∙ ap (λ u. u ∷ drop (i + 1) ts) (sym type_is))
        ∙ ap (λ es. read_map (before done) (read_values scope (t ∷ drop (i + 1) ts) es path i)) (next_item ds i x below is)

    pub done-more : (e : Expression) → read_value scope t x (at_item path i) ≡ read e → Done scope ts ds path (i + 1) (done ++ e ∷ [])
    done-more e was =
        here ∙ ap (λ r. read_map (before done) (and_then (λ y. read_map (λ es. expression y es) (read_values scope (drop (i + 1) ts) (items_from (i + 1) ds) path (i + 1))) r)) was
        ∙ joined done e (read_values scope (drop (i + 1) ts) (items_from (i + 1) ds) path (i + 1))

    pub done-fault : (p : JsonPath) (r : Reason) → read_value scope t x (at_item path i) ≡ fault p r → read_values scope ts ds path 0 ≡ fault p r
    done-fault p r e =
        here ∙ ap (λ q. read_map (before done) (and_then (λ y. read_map (λ es. expression y es) (read_values scope (drop (i + 1) ts) (items_from (i + 1) ds) path (i + 1))) q)) e

  pub done-all : items_len ds ≤ i → Done scope ts ds path i done → read_values scope ts ds path 0 ≡ read (expressions_of done)
  done-all end so_far =
      so_far ∙ ap (λ es. read_map (before done) (read_values scope (drop i ts) es path i)) (items_none_left ds i end) ∙ ap read (before-none done)

-- ---- the two values of a sum or difference

module _ (scope : Scope) (t : Tree) (name : List ℕ) (d : Data) (path : JsonPath) where
  pub terms_are : (r : Read Pair) → is_integer_type t ≡ true → read_two scope t d (under path name) ≡ r → read_terms scope t name d path ≡ r
  terms_are r h is =
      ap (λ b. if b then read_two scope t d (under path name) else fault path wrong_type) h ∙ is

-- ---- arrays of two

module _ (scope : Scope) (t : Tree) (d a b : Data) (place : JsonPath) (h : two_items d ≡ Some (a, b)) where
  two : read_two scope t d place ≡ and_then (λ x. read_map (λ y. (x, y)) (read_value scope t b (at_item place 1))) (read_value scope t a (at_item place 0))
  two = ap (λ z. read_two scope t z place) (items_are d a b h)

  pub two_first : (p : JsonPath) (r : Reason) → read_value scope t a (at_item place 0) ≡ fault p r → read_two scope t d place ≡ fault p r
  two_first p r is = two ∙ ap (λ q. and_then (λ x. read_map (λ y. (x, y)) (read_value scope t b (at_item place 1))) q) is

  two_then : (x : Expression) → read_value scope t a (at_item place 0) ≡ read x → read_two scope t d place ≡ read_map (λ y. (x, y)) (read_value scope t b (at_item place 1))
  two_then x is = two ∙ ap (λ q. and_then (λ z. read_map (λ y. (z, y)) (read_value scope t b (at_item place 1))) q) is

  pub two_second : (x : Expression) (p : JsonPath) (r : Reason) → read_value scope t a (at_item place 0) ≡ read x → read_value scope t b (at_item place 1) ≡ fault p r → read_two scope t d place ≡ fault p r
  two_second x p r is more = two_then x is ∙ ap (λ q. read_map (λ y. (x, y)) q) more

  pub two_both : (x y : Expression) → read_value scope t a (at_item place 0) ≡ read x → read_value scope t b (at_item place 1) ≡ read y → read_two scope t d place ≡ read (x, y)
  two_both x y is more = two_then x is ∙ ap (λ q. read_map (λ z. (x, z)) q) more

module _ (scope : Scope) (d a b : Data) (place path : JsonPath) (h : two_items d ≡ Some (a, b)) where
  field : read_field scope d place path ≡ and_then (field_of path (at_item place 0) (option_and_then as_u64 (as_number b))) (read_typed scope a (at_item place 0))
  field = ap (λ z. read_field scope z place path) (items_are d a b h)

  pub field_first : (p : JsonPath) (r : Reason) → read_typed scope a (at_item place 0) ≡ fault p r → read_field scope d place path ≡ fault p r
  field_first p r is = field ∙ ap (λ q. and_then (field_of path (at_item place 0) (option_and_then as_u64 (as_number b))) q) is

  pub field_then : (v : Typed) → read_typed scope a (at_item place 0) ≡ read v → read_field scope d place path ≡ field_of path (at_item place 0) (option_and_then as_u64 (as_number b)) v
  field_then v is = field ∙ ap (λ q. and_then (field_of path (at_item place 0) (option_and_then as_u64 (as_number b))) q) is

module _ (scope : Scope) (d a b : Data) (place : JsonPath) (h : two_items d ≡ Some (a, b)) where
  of : read_of scope d place ≡ and_then (λ t. read_map (λ v. typed t (typed_as t v)) (read_value scope t b (at_item place 1))) (read_right_type scope.version a (at_item place 0))
  of = ap (λ z. read_of scope z place) (items_are d a b h)

  of_then : (t : Tree) → read_right_type scope.version a (at_item place 0) ≡ read t → read_of scope d place ≡ read_map (λ v. typed t (typed_as t v)) (read_value scope t b (at_item place 1))
  of_then t is = of ∙ ap (λ q. and_then (λ u. read_map (λ v. typed u (typed_as u v)) (read_value scope u b (at_item place 1))) q) is

  pub of_second : (t : Tree) (p : JsonPath) (r : Reason) → read_right_type scope.version a (at_item place 0) ≡ read t → read_value scope t b (at_item place 1) ≡ fault p r → read_of scope d place ≡ fault p r
  of_second t p r is more = of_then t is ∙ ap (λ q. read_map (λ v. typed t (typed_as t v)) q) more

  pub of_both : (t : Tree) (e : Expression) → read_right_type scope.version a (at_item place 0) ≡ read t → read_value scope t b (at_item place 1) ≡ read e → read_of scope d place ≡ read (typed t (typed_as t e))
  of_both t e is more = of_then t is ∙ ap (λ q. read_map (λ v. typed t (typed_as t v)) q) more

-- ---- a value with a type of its own

pub typed_member : (scope : Scope) (d : Data) (path : JsonPath) (name : List ℕ) (e : Data) (f : values.Form) → only_member d ≡ Some (name, e) → f ≡ form_named name → read_typed scope d path ≡ own_by path (typed_under scope name e path) f
typed_member scope d path name e f h is =
    ap (λ x. read_typed scope x path) (member_is d name e h) ∙ ap (own_by path (typed_under scope name e path)) (sym is)

-- ---- what is told of another value

pub ok_by : {A E : Type 0} {P Q : A → Type 0} → ((a : A) → P a → Q a) → (r : Result A E) → IfOk r P → IfOk r Q
ok_by f (Ok a) h = f a h
ok_by f (Err e) h = tt

pub err_by : {A E : Type 0} {P Q : E → Type 0} → ((e : E) → P e → Q e) → (r : Result A E) → IfErr r P → IfErr r Q
err_by f (Ok a) h = tt
err_by f (Err e) h = f e h
