-- The words of each reason, and the text of a place.
use Rattle.std.specs.Prelude.{ℕ, List, [], ◌∷◌, ◌++◌, codes}
use Rattle.std.specs.Fmt.{decimal}
use Rattle.ffi3_script_spec.specs.JsonPath.{PathStep, key, number}
use Rattle.ffi3_script_spec.specs.Language.{JsonPath, Reason, not_an_object, not_an_array, unknown_key, missing_key}
use Rattle.ffi3_script_spec.specs.Language.{version_not_known, not_a_type, unknown_type, not_a_count, bad_typedef}
use Rattle.ffi3_script_spec.specs.Language.{left_out_long_double, left_out_complex, left_out_vector, too_large}
use Rattle.ffi3_script_spec.specs.Language.{too_deep, too_many_arguments, bad_fixed, bad_variadic_argument}
use Rattle.ffi3_script_spec.specs.Language.{bad_declaration, bad_name, name_twice, no_such_signature, no_such_function}
use Rattle.ffi3_script_spec.specs.Language.{not_a_move, void_result, wrong_count, not_null, no_return_at_the_end}
use Rattle.ffi3_script_spec.specs.Language.{not_an_integer, bad_integer, out_of_range, bad_bytes, wrong_type}
use Rattle.ffi3_script_spec.specs.Language.{not_a_value, no_type_of_its_own, no_such_argument, no_such_result}
use Rattle.ffi3_script_spec.specs.Language.{no_such_field}

abbrev pub text_of_reason : Reason → List ℕ
text_of_reason not_an_object = codes "not an object"
text_of_reason not_an_array = codes "not an array"
text_of_reason unknown_key = codes "unknown key"
text_of_reason (missing_key name) = codes "missing key " ++ name
text_of_reason version_not_known = codes "version not known"
text_of_reason not_a_type = codes "not a type"
text_of_reason unknown_type = codes "unknown type"
text_of_reason not_a_count = codes "not a count"
text_of_reason bad_typedef = codes "bad typedef"
text_of_reason left_out_long_double = codes "left out: long double"
text_of_reason left_out_complex = codes "left out: complex"
text_of_reason left_out_vector = codes "left out: vector"
text_of_reason (too_large size) = codes "too large: " ++ decimal size
text_of_reason too_deep = codes "too deep"
text_of_reason (too_many_arguments n) = codes "too many arguments: " ++ decimal n
text_of_reason (bad_fixed fixed n) = codes "bad fixed: " ++ decimal fixed ++ codes " of " ++ decimal n
text_of_reason bad_variadic_argument = codes "bad variadic argument"
text_of_reason (bad_declaration at) = codes "bad declaration at " ++ decimal at
text_of_reason bad_name = codes "bad name"
text_of_reason name_twice = codes "name twice"
text_of_reason no_such_signature = codes "no such signature"
text_of_reason no_such_function = codes "no such function"
text_of_reason not_a_move = codes "not a move"
text_of_reason void_result = codes "void result"
text_of_reason wrong_count = codes "wrong count"
text_of_reason not_null = codes "not null"
text_of_reason no_return_at_the_end = codes "no return at the end"
text_of_reason not_an_integer = codes "not an integer"
text_of_reason bad_integer = codes "bad integer"
text_of_reason out_of_range = codes "out of range"
text_of_reason bad_bytes = codes "bad bytes"
text_of_reason wrong_type = codes "wrong type"
text_of_reason not_a_value = codes "not a value"
text_of_reason no_type_of_its_own = codes "no type of its own"
text_of_reason no_such_argument = codes "no such argument"
text_of_reason no_such_result = codes "no such result"
text_of_reason no_such_field = codes "no such field"

-- each key and number after `/`; the root is `/` alone
abbrev pub text_of_step : PathStep → List ℕ
text_of_step (key name) = codes "/" ++ name
text_of_step (number i) = codes "/" ++ decimal i

abbrev pub text_of_steps : JsonPath → List ℕ
text_of_steps [] = []
text_of_steps (step ∷ path) = text_of_step step ++ text_of_steps path

abbrev pub text_of_path : JsonPath → List ℕ
text_of_path [] = codes "/"
text_of_path (step ∷ path) = text_of_steps (step ∷ path)
