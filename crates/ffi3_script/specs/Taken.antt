-- Whether a name is taken.
use Rattle.std.specs.Prelude.{ℕ, List, Bool, Option, is_some, position}
use Rattle.ffi3_script_spec.specs.Values.{is_name_of}

abbrev pub is_taken : List (Option (List ℕ)) → List ℕ → Bool
is_taken names name = is_some (position (is_name_of name) names)
