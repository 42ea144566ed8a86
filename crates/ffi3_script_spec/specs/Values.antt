-- Values of a script: what stands where a value is asked for, against a type or with a type of its own.
use Rattle.std.specs.Prelude.{ℕ, ◌+◌, ◌-◌, ◌*◌, ◌^◌, ◌==◌, ◌&&◌, ◌||◌, List, [], ◌∷◌, length, Bool, true, false, cond}
use Rattle.std.specs.Prelude.{drop, Option, Some, None, Result, Ok, Err, if◌then◌else◌, nat_lt, bytes_eq, ⊤, codes}
use Rattle.std.specs.Prelude.{option_and_then, ℤ, pos, negsuc, neg_ℤ, nat_le, slice_get, position}
use Rattle.std.specs.Str.{all_ascii_digits}
use Rattle.std.specs.Str.Parse.{starts_with_minus}
use Rattle.hex.specs.Hex.{decode_sized}
use Rattle.hex.specs.declared.error.FromHexError.{FromHexError}
use Rattle.serde_json.specs.Data.{Data, null, boolean, number, string, array, object, Items, no_items, item, Members}
use Rattle.serde_json.specs.Data.{no_members, member, Num}
use Rattle.serde_json.specs.Find.{as_number, as_u64, as_str, as_integer}
use Rattle.serde_json.specs.Events.{items_len}
use Rattle.ffi3_type_spec.specs.declared.Role.TheVariants.{AsArgument}
use Rattle.ffi3_type_spec.specs.Tree.{Tree, scalar, structure, no_trees, tree, elements_of, Scalar}
use Rattle.ffi3_type_spec.specs.Tree.{pointer}
use Rattle.ffi3_type_spec.specs.Tree as types
pub use Rattle.ffi3_type_spec.specs.Integer.{is_integer_type, is_floating_type}
use Rattle.ffi3_type_spec.specs.Integer.{is_number_type, is_signed, scalar_of, width_of, bit_count, bytes_of_number}
use Rattle.ffi3_type_spec.specs.Layout.{scalar_size}
use Rattle.ffi3_type_spec.specs.Same.{same_tree}
use Rattle.ffi3_type_spec.specs.FirstFault.{Found, first_fault}
use Rattle.ffi3_script_spec.specs.Language.{Read, read, fault, and_then, read_map, JsonPath, under, at_item, read_type}
use Rattle.ffi3_script_spec.specs.Language.{inside_type, reason_of_type_fault, wrong_count, not_an_integer}
use Rattle.ffi3_script_spec.specs.Language.{bad_integer, out_of_range, bad_bytes, wrong_type, not_a_value}
use Rattle.ffi3_script_spec.specs.Language.{no_type_of_its_own, no_such_argument, no_such_result, no_such_field}
use Rattle.ffi3_script_spec.specs.Script.{Expression, constant, composed, argument, outcome, user_data, element}
use Rattle.ffi3_script_spec.specs.Script.{typed_as, sum, difference, cast, Expressions, no_expressions, expression}
use Rattle.ffi3_script_spec.specs.Script.{Typed}

-- what an earlier move of the body gives: its name, where it has one, and its type
pub record Given : Type 0 where
  pub name : Option (List ℕ)
  pub type : Tree

-- where a value stands: in a script of this version, in a body with these arguments, after these moves
pub record Scope : Type 0 where
  pub version : ℕ
  pub arguments : List Tree
  pub given : List Given

-- a move has this name
abbrev pub is_name_of : List ℕ → Option (List ℕ) → Bool
is_name_of name None = false
is_name_of name (Some other) = bytes_eq name other

-- ---- plain values

-- two to the power of the bits that hold a size: all of an unsigned number's, all but the sign of a signed one's
abbrev pub bound_of : Scalar → ℕ
bound_of s =
    2 ^ (if is_signed s then bit_count (width_of s) - 1 else bit_count (width_of s))

abbrev pub in_range : Scalar → ℤ → Bool
in_range s (pos n) = nat_lt n (bound_of s)
in_range s (negsuc n) = is_signed s && nat_lt n (bound_of s)

abbrev pub read_integer : Scalar → Option ℤ → JsonPath → Read Expression
read_integer s None path = fault path not_an_integer
read_integer s (Some z) path =
    if in_range s z then read (constant (bytes_of_number s z)) else fault path out_of_range

-- a number is that of an integer or a pointer
abbrev pub read_number : Tree → Num → JsonPath → Read Expression
read_number t n path =
    if is_number_type t then read_integer (scalar_of t) (as_integer n) path else fault path wrong_type

abbrev pub bytes_or_fault : JsonPath → Result (List ℕ) FromHexError → Read Expression
bytes_or_fault path (Ok bytes) = read (constant bytes)
bytes_or_fault path (Err e) = fault path bad_bytes

-- decimal digits, the first of them not 0
abbrev pub is_counting : List ℕ → Bool
is_counting [] = false
is_counting (c ∷ cs) = nat_le 49 c && (nat_le c 57 && all_ascii_digits cs)

-- the number that decimal digits write: each times ten to the power of how many come after it
abbrev pub number_written : List ℕ → ℕ
number_written [] = 0
number_written (c ∷ cs) = (c - 48) * 10 ^ length cs + number_written cs

-- 0, or digits that don't begin with 0
abbrev pub is_plain_number : List ℕ → Bool
is_plain_number text = bytes_eq text (codes "0") || is_counting text

-- digits that don't begin with 0, after `-`
abbrev pub is_negative_number : List ℕ → Bool
is_negative_number text = starts_with_minus text && is_counting (drop 1 text)

-- the integer that a text writes
abbrev pub integer_written : List ℕ → Option ℤ
integer_written text =
    if is_plain_number text
    then Some (pos (number_written text))
    else if is_negative_number text then Some (neg_ℤ (pos (number_written (drop 1 text))))
    else None

abbrev pub read_written : Scalar → Option ℤ → JsonPath → Read Expression
read_written s None path = fault path bad_integer
read_written s (Some z) path = read_integer s (Some z) path

-- the integers of 128 bits
abbrev pub is_wide : Scalar → Bool
is_wide types.u8 = false
is_wide types.s8 = false
is_wide types.u16 = false
is_wide types.s16 = false
is_wide types.u32 = false
is_wide types.s32 = false
is_wide types.u64 = false
is_wide types.s64 = false
is_wide types.u128 = true
is_wide types.s128 = true
is_wide types.float = false
is_wide types.double = false
is_wide types.pointer = false
is_wide types.x87 = false
is_wide types.binary128 = false

abbrev pub is_wide_type : Tree → Bool
is_wide_type types.void = false
is_wide_type (scalar s) = is_wide s
is_wide_type (types.left_out k) = false
is_wide_type (structure ts) = false
is_wide_type (types.array ts n) = false

-- the bytes of a float or double in memory order, two hexadecimal digits each
abbrev pub read_floating : Tree → List ℕ → JsonPath → Read Expression
read_floating t text path =
    if is_floating_type t
    then bytes_or_fault path (decode_sized text (scalar_size (scalar_of t)))
    else fault path wrong_type

-- a text is an integer of 128 bits in decimal, or the bytes of a float or double
abbrev pub read_text : Tree → List ℕ → JsonPath → Read Expression
read_text t text path =
    if is_wide_type t
    then read_written (scalar_of t) (integer_written text) path
    else read_floating t text path

-- ---- values with a type of their own

abbrev pub typed : Tree → Expression → Typed
typed t e = record { type = t; value = e }

-- the type that is asked for, if there is one, is the value's own
abbrev pub against : Tree → JsonPath → Typed → Read Expression
against t path v = if same_tree v.type t then read v.value else fault path wrong_type

abbrev pub typed_argument : ℕ → JsonPath → Option Tree → Read Typed
typed_argument i path None = fault path no_such_argument
typed_argument i path (Some t) = read (typed t (argument i))

-- an argument of the body, by its number
abbrev pub argument_of : List Tree → Option ℕ → JsonPath → Read Typed
argument_of ts None path = fault path no_such_argument
argument_of ts (Some i) path = typed_argument i path (slice_get ts i)

abbrev pub has_name : List ℕ → Given → Bool
has_name name g = is_name_of name g.name

abbrev pub typed_result : ℕ → JsonPath → Option Given → Read Typed
typed_result i path None = fault path no_such_result
typed_result i path (Some g) = read (typed g.type (outcome i))

abbrev pub result_number : List Given → Option ℕ → JsonPath → Read Typed
result_number given None path = fault path no_such_result
result_number given (Some i) path = typed_result i path (slice_get given i)

-- the result of an earlier move of the body, by its name
abbrev pub result_of : List Given → Option (List ℕ) → JsonPath → Read Typed
result_of given None path = fault path no_such_result
result_of given (Some name) path = result_number given (position (has_name name) given) path

-- the user data of the closure
abbrev pub user_of : Data → JsonPath → Read Typed
user_of (boolean true) path = read (typed (scalar pointer) user_data)
user_of _ path = fault path not_a_value

abbrev pub typed_element : Expression → ℕ → JsonPath → Option Tree → Read Typed
typed_element e i path None = fault path no_such_field
typed_element e i path (Some t) = read (typed t (element e i))

abbrev pub element_of : Expression → List Tree → Option ℕ → JsonPath → Read Typed
element_of e ts None path = fault path no_such_field
element_of e ts (Some i) path = typed_element e i path (slice_get ts i)

-- the types whose values are lists: structs, and arrays of some type
abbrev pub is_list_type : Tree → Bool
is_list_type (structure ts) = true
is_list_type (types.array no_trees n) = false
is_list_type (types.array (tree t ts) n) = true
is_list_type _ = false

-- an element, by its number, of a value of a type, which stands at a place of its own
abbrev pub element_in : JsonPath → JsonPath → Option ℕ → Expression → Tree → Read Typed
element_in path place i e t =
    cond (is_list_type t) (element_of e (elements_of t) i path) (fault place wrong_type)

abbrev pub field_of : JsonPath → JsonPath → Option ℕ → Typed → Read Typed
field_of path place i v = element_in path place i v.value v.type

-- a type that may be an argument's
abbrev pub right_type : JsonPath → Tree → Option Found → Read Tree
right_type path t None = read t
right_type path t (Some f) = fault (inside_type path t f.0) (reason_of_type_fault f.1)

abbrev pub read_right_type : (version : ℕ) → Data → JsonPath → Read Tree
read_right_type version d path =
    and_then (λ t. right_type path t (first_fault 0 AsArgument t)) (read_type version d path)

-- ---- the forms of values

pub data TypedForm : Type 0 where
  arg_form : TypedForm
  res_form : TypedForm
  user_form : TypedForm
  field_form : TypedForm
  of_form : TypedForm

pub data Form : Type 0 where
  typed_form : TypedForm → Form
  add_form : Form
  sub_form : Form
  cast_form : Form
  no_form : Form

-- by the one key of the object
abbrev pub form_named : List ℕ → Form
form_named name =
    cond (bytes_eq name (codes "arg")) (typed_form arg_form)
    (cond (bytes_eq name (codes "res")) (typed_form res_form)
    (cond (bytes_eq name (codes "user")) (typed_form user_form)
    (cond (bytes_eq name (codes "field")) (typed_form field_form)
    (cond (bytes_eq name (codes "of")) (typed_form of_form)
    (cond (bytes_eq name (codes "add")) add_form
    (cond (bytes_eq name (codes "sub")) sub_form
    (cond (bytes_eq name (codes "cast")) cast_form no_form)))))))

-- sums and differences are of integer types, casts of integers and pointers; looked at before the parts
abbrev pub if_integer : Tree → JsonPath → (⊤ → Read Expression) → Read Expression
if_integer t path more =
    if is_integer_type t then more tt else fault path wrong_type

abbrev pub if_number : Tree → JsonPath → (⊤ → Read Expression) → Read Expression
if_number t path more = if is_number_type t then more tt else fault path wrong_type

-- the typed value of an integer or pointer type that is cast
abbrev pub cast_of : Scalar → JsonPath → Typed → Read Expression
cast_of to place v =
    cond (is_number_type v.type) (read (cast (scalar_of v.type) to v.value)) (fault place wrong_type)

-- a list of values is the value of a struct or an array that has as many elements
abbrev pub composed_of : Tree → ℕ → JsonPath → Read Expressions → Read Expression
composed_of t n path es =
    cond (is_list_type t)
    (cond (n == length (elements_of t)) (read_map composed es) (fault path wrong_count))
    (fault path wrong_type)

-- the two values of a sum or difference
abbrev pub Pair : Type 0
Pair = Expression × Expression

abbrev pub sum_of : Scalar → Pair → Expression
sum_of s p = sum s p.0 p.1

abbrev pub difference_of : Scalar → Pair → Expression
difference_of s p = difference s p.0 p.1

-- A value with a type of its own, by its form. What stands under the key is a field's or an of's parts, or is looked at here.
abbrev pub typed_by : Scope → Data → JsonPath → (field of : ⊤ → Read Typed) → TypedForm → Read Typed
typed_by scope d path field of arg_form =
    argument_of scope.arguments (option_and_then as_u64 (as_number d)) path
typed_by scope d path field of res_form = result_of scope.given (as_str d) path
typed_by scope d path field of user_form = user_of d path
typed_by scope d path field of field_form = field tt
typed_by scope d path field of of_form = of tt

-- A value against a type, by its form. What stands under the key is that of a typed form, or two values against the type, or a typed value.
abbrev pub value_by : Tree → JsonPath → JsonPath → (own : TypedForm → Read Typed) → (two : ⊤ → Read Pair)
    → (inner : ⊤ → Read Typed) → Form → Read Expression
value_by t path place own two inner no_form = fault path not_a_value
value_by t path place own two inner (typed_form form) = and_then (against t path) (own form)
value_by t path place own two inner add_form =
    if_integer t path (λ _. read_map (sum_of (scalar_of t)) (two tt))
value_by t path place own two inner sub_form =
    if_integer t path (λ _. read_map (difference_of (scalar_of t)) (two tt))
value_by t path place own two inner cast_form =
    if_number t path (λ _. and_then (cast_of (scalar_of t) place) (inner tt))

-- the same where no type is asked for
abbrev pub own_by : JsonPath → (own : TypedForm → Read Typed) → Form → Read Typed
own_by path own no_form = fault path not_a_value
own_by path own (typed_form form) = own form
own_by path own _ = fault path no_type_of_its_own

abbrev mutual
  -- A VALUE AGAINST A TYPE
  pub read_value : Scope → Tree → Data → JsonPath → Read Expression
  read_value scope t null path = fault path not_a_value
  read_value scope t (boolean b) path = fault path not_a_value
  read_value scope t (number n) path = read_number t n path
  read_value scope t (string text) path = read_text t text path
  read_value scope t (array ds) path =
      composed_of t (items_len ds) path (read_values scope (elements_of t) ds path 0)
  read_value scope t (object ms) path = read_object scope t ms path

  -- the values of an array from number i on, each against its type
  pub read_values : Scope → List Tree → Items → JsonPath → ℕ → Read Expressions
  read_values scope ts no_items path i = read no_expressions
  read_values scope [] (item d ds) path i = read no_expressions
  read_values scope (t ∷ ts) (item d ds) path i =
      and_then
      (λ e. read_map (λ es. expression e es) (read_values scope ts ds path (i + 1)))
      (read_value scope t d (at_item path i))

  -- an object has one key, by which its form goes
  pub read_object : Scope → Tree → Members → JsonPath → Read Expression
  read_object scope t no_members path = fault path not_a_value
  read_object scope t (member name d no_members) path =
      value_by t path (under path name)
      (typed_by scope d path (λ _. read_field scope d (under path name) path) (λ _. read_of scope d (under path name)))
      (λ _. read_two scope t d (under path name))
      (λ _. read_typed scope d (under path name))
      (form_named name)
  read_object scope t (member name d (member other e ms)) path = fault path not_a_value

  -- an array of two values
  pub read_two : Scope → Tree → Data → JsonPath → Read Pair
  read_two scope t (array (item d (item e no_items))) place =
      and_then
      (λ a. read_map (λ b. (a, b)) (read_value scope t e (at_item place 1)))
      (read_value scope t d (at_item place 0))
  read_two scope t _ place = fault place wrong_count

  -- A VALUE WITH A TYPE OF ITS OWN
  pub read_typed : Scope → Data → JsonPath → Read Typed
  read_typed scope null path = fault path not_a_value
  read_typed scope (boolean b) path = fault path not_a_value
  read_typed scope (number n) path = fault path no_type_of_its_own
  read_typed scope (string text) path = fault path no_type_of_its_own
  read_typed scope (array ds) path = fault path no_type_of_its_own
  read_typed scope (object ms) path = read_typed_object scope ms path

  pub read_typed_object : Scope → Members → JsonPath → Read Typed
  read_typed_object scope no_members path = fault path not_a_value
  read_typed_object scope (member name d no_members) path =
      own_by path
      (typed_by scope d path (λ _. read_field scope d (under path name) path) (λ _. read_of scope d (under path name)))
      (form_named name)
  read_typed_object scope (member name d (member other e ms)) path = fault path not_a_value

  -- an array of two: the value of a struct or an array, with a type of its own, and the number of an element
  pub read_field : Scope → Data → JsonPath → JsonPath → Read Typed
  read_field scope (array (item d (item e no_items))) place path =
      and_then
      (field_of path (at_item place 0) (option_and_then as_u64 (as_number e)))
      (read_typed scope d (at_item place 0))
  read_field scope _ place path = fault place wrong_count

  -- an array of a type, and a value against it
  pub read_of : Scope → Data → JsonPath → Read Typed
  read_of scope (array (item d (item e no_items))) place =
      and_then
      (λ t. read_map (λ v. typed t (typed_as t v)) (read_value scope t e (at_item place 1)))
      (read_right_type scope.version d (at_item place 0))
  read_of scope _ place = fault place wrong_count
