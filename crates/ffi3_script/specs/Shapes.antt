-- Arrays of two items, and forms of values.
use Rattle.std.specs.Prelude.{ℕ, List, Option, Some, None, Bool, true, false, if◌then◌else◌}
use Rattle.serde_json.specs.Data.{Data, null, boolean, number, string, array, object, Items, no_items, item}
use Rattle.ffi3_type_spec.specs.Tree.{Tree}
use Rattle.ffi3_script_spec.specs.Language.{Read, fault, JsonPath, under, wrong_type}
use Rattle.ffi3_script_spec.specs.Script.{Expression}
use Rattle.ffi3_script_spec.specs.Script as script
use Rattle.ffi3_script_spec.specs.Values as values
use Rattle.ffi3_script_spec.specs.Values.{Scope, Pair, is_integer_type, typed_by, value_by, read_field, read_of}
use Rattle.ffi3_script_spec.specs.Values.{read_two, read_typed}
use Rattle.ffi3_script.specs.declared.forms.TypedForm.{TypedForm}
use Rattle.ffi3_script.specs.declared.forms.TypedForm.TheVariants.{Arg, Res, User, Field, Of}
use Rattle.ffi3_script.specs.declared.forms.Form.{Form}
use Rattle.ffi3_script.specs.declared.forms.Form.TheVariants.{Typed, Add, Sub, Cast, Unknown}

-- the items of an array of two
abbrev pub two_in : Items → Option (Data × Data)
two_in no_items = None
two_in (item d no_items) = None
two_in (item d (item e no_items)) = Some (d, e)
two_in (item d (item e (item f ds))) = None

abbrev pub two_items : Data → Option (Data × Data)
two_items null = None
two_items (boolean b) = None
two_items (number n) = None
two_items (string s) = None
two_items (array ds) = two_in ds
two_items (object ms) = None

-- a number, a text or an array
abbrev pub is_untyped : Data → Bool
is_untyped null = false
is_untyped (boolean b) = false
is_untyped (number n) = true
is_untyped (string s) = true
is_untyped (array ds) = true
is_untyped (object ms) = false

-- which form a form of the code is
abbrev pub typed_form_of : TypedForm → values.TypedForm
typed_form_of Arg = values.arg_form
typed_form_of Res = values.res_form
typed_form_of User = values.user_form
typed_form_of Field = values.field_form
typed_form_of Of = values.of_form

abbrev pub form_of : Form → values.Form
form_of (Typed form) = values.typed_form (typed_form_of form)
form_of Add = values.add_form
form_of Sub = values.sub_form
form_of Cast = values.cast_form
form_of Unknown = values.no_form

-- a value with a type of its own, of a form, with this under its key
abbrev pub typed_under : Scope → List ℕ → Data → JsonPath → values.TypedForm → Read script.Typed
typed_under scope name d path form =
    typed_by scope d path (λ _. read_field scope d (under path name) path) (λ _. read_of scope d (under path name)) form

-- a value against a type, of a form, with this under its key
abbrev pub value_under_form : Scope → Tree → List ℕ → Data → JsonPath → values.Form → Read Expression
value_under_form scope t name d path form =
    value_by t path (under path name)
    (typed_under scope name d path)
    (λ _. read_two scope t d (under path name))
    (λ _. read_typed scope d (under path name))
    form

-- the two values of a sum or difference, after its type
abbrev pub read_terms : Scope → Tree → List ℕ → Data → JsonPath → Read Pair
read_terms scope t name d path =
    if is_integer_type t then read_two scope t d (under path name) else fault path wrong_type
